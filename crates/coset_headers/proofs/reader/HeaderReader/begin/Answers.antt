use Rattle.std.proofs.Common.{inl, inr, refl}
use Rattle.std.proofs.lemmas.Result.{err_from_is_err_and}
use Rattle.coset_labels.proofs.Items.{match_map}
use Rattle.coset_headers.proofs.Levels.{signature_wrong, begins}
use Rattle.coset_headers.proofs.reader.HeaderReader.begin.Goals as goal

pub returns-in_err-first-clause-read : goal.returns-in_err-first-clause-read
returns-in_err-first-clause-read c =
    let p = err_from_is_err_and c.from_residual.result c.from_residual.ensures.1 in
    rw (p.1, p.2) (λ n k t v r x. signature_wrong n k t v _ c.args.self.now c.args.into.now c.args.list _ r x (inr (c.in_err-first.ensures n c.args.self.now.top.layers)))

pub returns-clause-read : goal.returns-clause-read
returns-clause-read c = λ n k t v r x.
    match_map c.descend.result _ _ _ _ (λ u z. z) (λ e z. inl z)
    (c.descend.ensures.read n k t (begins n k t v _ _ c.args.self.now c.args.into.now _ r x (c.in_ok-first.ensures, refl)))
