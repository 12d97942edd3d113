use Rattle.std.proofs.Common.{◌≡◌, [], ◌∷◌, refl, subst, sym, ap, arith, length, length-append}
use Rattle.std.proofs.lemmas.Result.{err_from_is_err_and}
use Rattle.coset_headers.specs.Headers.{HasHeader}
use Rattle.coset_headers.specs.View.{header_view}
use Rattle.coset_headers.specs.Levels.{Within, levels_left}
use Rattle.coset_headers.proofs.Levels.{within_wrong, outermost, closes, levels_pushed}
use Rattle.coset_headers.proofs.Empty.{length_zero}
use Rattle.coset_headers.proofs.reader.HeaderReader.read.Goals as goal

pub returns-in_err-value : goal.returns-in_err-value
returns-in_err-value c =
    let p = err_from_is_err_and c.from_residual.result c.from_residual.ensures.1 in
    rw (p.1, p.2) (λ n k t q.
    let r = c.turns.invariant n k t q in
    within_wrong _ _ _ c.turns.self.below.items r.inner _ _ r.within (c.in_err-value.ensures.read n r.inner r.going))

pub turns-preserved-in-Continue-branch-3 : goal.turns-preserved-in-Continue-branch-3
turns-preserved-in-Continue-branch-3 c = λ n k t q.
    let r = c.turns.invariant n k t q in
    let signed = rw c.in-Some.is at (c.in_ok-value.ensures.read n r.inner r.going) in
    c.in_ok-begin_signatures-in-Some.ensures.read n k t (record {
      nesting = r.nesting;
      inner = r.inner;
      within = subst (λ z. Within n t k c.turns.self.below.items r.inner z) (sym c.in_ok-value.ensures.layers) r.within;
      signed = signed;
    })

pub returns-in_err-begin_signatures-in-Some : goal.returns-in_err-begin_signatures-in-Some
returns-in_err-begin_signatures-in-Some c =
    let p = err_from_is_err_and c.from_residual-in_err-begin_signatures-in-Some.result c.from_residual-in_err-begin_signatures-in-Some.ensures.1 in
    rw (p.1, p.2) (λ n k t q.
    let r = c.turns.invariant n k t q in
    let signed = rw c.in-Some.is at (c.in_ok-value.ensures.read n r.inner r.going) in
    c.in_err-begin_signatures-in-Some.ensures.read n k t (record {
      nesting = r.nesting;
      inner = r.inner;
      within = subst (λ z. Within n t k c.turns.self.below.items r.inner z) (sym c.in_ok-value.ensures.layers) r.within;
      signed = signed;
    }))

pub returns-in-None-pop : goal.returns-in-None-pop
returns-in-None-pop c = λ n k t q.
    let r = c.turns.invariant n k t q in
    let has = rw c.in-None.is at (c.in_ok-value.ensures.read n r.inner r.going) in
    let none : c.turns.self.below.items ≡ [] = length_zero c.turns.self.below.items (omega (arith, c.in-None-pop.ensures.cases, c.turns.self.below.ok.0)) in
    outermost _ _ _ r.inner c.turns.self.below.items c.next_signed.new.self.layers _ (subst (λ z. Within n t k c.turns.self.below.items r.inner z) (sym c.in_ok-value.ensures.layers) r.within) none has

pub turns-smaller : goal.turns-smaller
turns-smaller c =
    let level = c.in-Some-pop.field-0 in
    let a = ap levels_left c.in-Some-pop.ensures.items in
    let b = levels_pushed c.pop.new.self.items level in
    let d = ap length c.in-Some-pop.ensures.items in
    let e = length-append c.pop.new.self.items (level ∷ []) in
    omega (arith, a, b, d, e, c.in_ok-close-in-Some-pop.ensures.left)

pub turns-preserved : goal.turns-preserved
turns-preserved c = λ n k t q.
    let r = c.turns.invariant n k t q in
    let top = c.next_signed.new.self in
    let within = subst (λ z. Within n t k c.turns.self.below.items r.inner z) (sym c.in_ok-value.ensures.layers) r.within in
    let has = rw c.in-None.is at (c.in_ok-value.ensures.read n r.inner r.going) in
    c.in_ok-close-in-Some-pop.ensures.read n k top.layers t r.inner
    (closes n k t r.inner c.turns.self.below.items c.in-Some-pop.field-0 _ c.replace-whole.new.dest top.layers r.nesting within c.in-Some-pop.ensures.items refl c.replace-whole.ensures.after)
    (subst (λ z. HasHeader n r.inner z top.layers) (ap header_view (sym c.replace-whole.ensures.value)) has)

pub returns-in_err-close-in-Some-pop : goal.returns-in_err-close-in-Some-pop
returns-in_err-close-in-Some-pop c =
    let p = err_from_is_err_and c.from_residual-in_err-close-in-Some-pop.result c.from_residual-in_err-close-in-Some-pop.ensures.1 in
    rw (p.1, p.2) (λ n k t q.
    let r = c.turns.invariant n k t q in
    let top = c.next_signed.new.self in
    let within = subst (λ z. Within n t k c.turns.self.below.items r.inner z) (sym c.in_ok-value.ensures.layers) r.within in
    let has = rw c.in-None.is at (c.in_ok-value.ensures.read n r.inner r.going) in
    c.in_err-close-in-Some-pop.ensures.read n k top.layers t r.inner
    (closes n k t r.inner c.turns.self.below.items c.in-Some-pop.field-0 _ c.replace-whole.new.dest top.layers r.nesting within c.in-Some-pop.ensures.items refl c.replace-whole.ensures.after)
    (subst (λ z. HasHeader n r.inner z top.layers) (ap header_view (sym c.replace-whole.ensures.value)) has))
