use Rattle.std.proofs.Common.{inr, sym, ap, subst, ◌∙◌, Some}
use Rattle.std.proofs.lemmas.Result.{err_from_is_err_and}
use Rattle.cose_iana.specs.Formats.{coap_content_formats}
use Rattle.ciborium_value.specs.Tree as spec
use Rattle.ciborium_value.specs.View.{view}
use Rattle.coset_labels.specs.Faults.{fault_of}
use Rattle.coset_labels.specs.Labels.{WrongRegistered}
use Rattle.coset_labels.specs.View.{registered_view}
use Rattle.coset_headers.specs.Wrong.{WrongContentType, no_content_type}
use Rattle.coset_headers.proofs.Steps.{passed_on, text_is}
use Rattle.coset_headers.proofs.values.read_content_type.Goals as goal

pub returns-in_err-content_type : goal.returns-in_err-content_type
returns-in_err-content_type c =
    let p = err_from_is_err_and c.from_residual.result c.from_residual.ensures.1 in
    rw (p.1, p.2) (passed_on (WrongRegistered coap_content_formats.is_registered (view c.args.value)) (WrongContentType (view c.args.value)) _ (λ x. no_content_type _ _ x) c.in_err-content_type.ensures)

pub returns-in_err-check_content_type-in-Text : goal.returns-in_err-check_content_type-in-Text
returns-in_err-check_content_type-in-Text c =
    let p = err_from_is_err_and c.from_residual-in_err-check_content_type-in-Text.result c.from_residual-in_err-check_content_type-in-Text.ensures.1 in
    let whole = c.in_ok-content_type.ensures ∙ ap (λ z. Some (registered_view coap_content_formats.number z)) c.in-Text.is in
    let t = text_is coap_content_formats.is_registered (view c.args.value) _ whole in
    rw (p.1, p.2) (inr (subst (λ z. WrongContentType z (fault_of c.in_err-check_content_type-in-Text.field-0.0)) (sym t)
    (subst (λ z. WrongContentType (spec.text z) (fault_of c.in_err-check_content_type-in-Text.field-0.0)) c.as_str.ensures.value c.in_err-check_content_type-in-Text.ensures)))
