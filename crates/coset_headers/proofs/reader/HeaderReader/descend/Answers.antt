use Rattle.std.proofs.Common.{sym, subst, ap, ◌∙◌, ◌++◌, ◌∷◌, [], arith, length, length-append, ◌≡◌}
use Rattle.ciborium_value.specs.Tree.{map}
use Rattle.ciborium_value.specs.View.{view_pairs}
use Rattle.coset_headers.specs.Levels.{Going, Within, levels_left, open_left}
use Rattle.coset_headers.specs.View.{header_view}
use Rattle.coset_headers.specs.declared.reader.Level.{Level}
use Rattle.coset_headers.proofs.Levels.{within_pushed, levels_pushed}
use Rattle.coset_headers.proofs.reader.HeaderReader.descend.Goals as goal

pub returns-clause-read : goal.returns-clause-read
returns-clause-read c = λ n k t r.
    let inside = map (view_pairs c.args.entries.items) in
    let level : Level = record { left = c.args.self.now.top; header = c.args.into.now; signing = c.args.signing } in
    let pushed : c.push.new.self.items ≡ c.args.self.now.below.items ++ level ∷ [] =
    c.in_ok-push.ensures.items ∙ (λ i. c.args.self.now.below.items ++ record { left = c.replace-left.ensures.value i; header = c.replace-header.ensures.value i; signing = c.args.signing } ∷ []) in
    let layers : c.replace-left.new.dest.layers ≡ c.args.layers = ap (λ z. z.layers) c.replace-left.ensures.after ∙ c.new.ensures.layers in
    record {
      nesting = r.nesting;
      inner = inside;
      within = subst (λ z. Within n t k z inside c.replace-left.new.dest.layers) (sym pushed)
          (subst (λ z. Within n t k (c.args.self.now.below.items ++ level ∷ []) inside z) (sym layers)
          (within_pushed n t k c.args.self.now.below.items level r.inner inside c.args.layers r.within r.around));
      going = subst (λ z. Going n inside z c.replace-header.new.dest) (sym c.replace-left.ensures.after)
          (c.new.ensures.going n c.replace-header.new.dest (ap header_view c.replace-header.ensures.after ∙ c.new-2.ensures));
    }

pub returns-clause-left : goal.returns-clause-left
returns-clause-left c =
    let level : Level = record { left = c.replace-left.result; header = c.replace-header.result; signing = c.args.signing } in
    let a = ap levels_left c.in_ok-push.ensures.items in
    let b = levels_pushed c.args.self.now.below.items level in
    let d = ap length c.in_ok-push.ensures.items in
    let e = length-append c.args.self.now.below.items (level ∷ []) in
    let f = ap open_left c.replace-left.ensures.value in
    let g = ap open_left c.replace-left.ensures.after in
    omega (arith, a, b, d, e, f, g, c.new.ensures.left)
