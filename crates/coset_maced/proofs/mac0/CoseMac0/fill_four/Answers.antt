use Rattle.std.proofs.Common.{inl, [], ◌∷◌, refl}
use Rattle.std.proofs.lemmas.Result.{err_from_is_err_and}
use Rattle.ciborium_value.specs.View.{view}
use Rattle.coset_recipients.proofs.PartsSteps.{no_bytes, whole_parts, whole_lasts, whole_has}
use Rattle.coset_maced.proofs.mac0.CoseMac0.fill_four.Goals as goal

pub returns-in_err-tag-clause-read : goal.returns-in_err-tag-clause-read
returns-in_err-tag-clause-read c =
    let p = err_from_is_err_and c.from_residual.result c.from_residual.ensures.1 in
    rw (p.1, p.2) (whole_lasts _ _ _ _ (view c.args.parts.protected) (view c.args.parts.unprotected) (view c.args.parts.content) (view c.args.tag ∷ []) _ _ _ refl refl refl (λ f w. inl w) (no_bytes _ _ c.in_err-tag.ensures))

pub returns-in_err-fill-clause-read : goal.returns-in_err-fill-clause-read
returns-in_err-fill-clause-read c =
    let p = err_from_is_err_and c.from_residual-in_err-fill.result c.from_residual-in_err-fill.ensures.1 in
    rw (p.1, p.2) (whole_parts _ _ _ _ (view c.args.parts.protected) (view c.args.parts.unprotected) (view c.args.parts.content) (view c.args.tag ∷ []) _ _ refl refl refl c.in_err-fill.ensures.read)

pub returns-clause-read : goal.returns-clause-read
returns-clause-read c =
    whole_has _ _ _ _ _ _ _ (view c.args.parts.protected) (view c.args.parts.unprotected) (view c.args.parts.content) (view c.args.tag ∷ []) _ refl refl c.in_ok-fill.ensures.read (c.in_ok-tag.ensures, tt)
