use Rattle.std.proofs.lemmas.Result.{err_from_is_err_and}
use Rattle.std.proofs.Common.{◌∙◌, ◌++◌, [], ◌∷◌, ap, subst}
use Rattle.ciborium_value.specs.Tree.{integer}
use Rattle.ciborium_value.specs.declared.value.Value.TheVariants as value
use Rattle.ciborium_value.specs.View.{view}
use Rattle.ciborium_value.proofs.Views.{view_integer}
use Rattle.coset_labels.specs.Faults.{OrMemory}
use Rattle.coset_headers.specs.Headers.{HasHeader}
use Rattle.coset_headers.specs.View.{header_view}
use Rattle.coset_headers.specs.Wrong.{WrongHeader}
use Rattle.coset_headers.proofs.Walked.{signing_is, has_signed, wrong_signed}
use Rattle.coset_headers.proofs.reader.read_signatures.Goals as goal

pub returns-in_err-fill_entries : goal.returns-in_err-fill_entries
returns-in_err-fill_entries c =
    let p = err_from_is_err_and c.from_residual-in_err-fill_entries.result c.from_residual-in_err-fill_entries.ensures.1 in
    let same = signing_is _ (value.Integer c.from.result) c.args.value (c.in_ok-push.ensures.items ∙ ap (λ z. z ++ ((value.Integer c.from.result), c.args.value) ∷ []) c.new-entries.ensures.items) (view_integer c.from.result ∙ ap integer c.from.ensures) in
    rw (p.1, p.2) (wrong_signed c.args.nesting c.args.layers (view c.args.value) c.in_err-fill_entries.field-0.0 (subst (λ z. OrMemory (WrongHeader c.args.nesting z c.args.layers) c.in_err-fill_entries.field-0.0) same c.in_err-fill_entries.ensures))

pub returns : goal.returns
returns c =
    let same = signing_is _ (value.Integer c.from.result) c.args.value (c.in_ok-push.ensures.items ∙ ap (λ z. z ++ ((value.Integer c.from.result), c.args.value) ∷ []) c.new-entries.ensures.items) (view_integer c.from.result ∙ ap integer c.from.ensures) in
    has_signed c.args.nesting c.args.layers (view c.args.value) _ (subst (λ z. HasHeader c.args.nesting z (header_view c.fill_entries.new.into) c.args.layers) same c.in_ok-fill_entries.ensures)
