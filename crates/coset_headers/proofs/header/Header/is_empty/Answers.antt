use Rattle.std.proofs.Common.{◌≡◌, true, sym, ap, ◌∙◌}
use Rattle.std.specs.Prelude.{◌&&◌}
use Rattle.cose_iana.specs.Algorithms.{algorithm_number}
use Rattle.cose_iana.specs.Formats.{coap_content_formats}
use Rattle.cose_iana.specs.Headers.{header_parameters}
use Rattle.coset_labels.specs.View.{registered_view, named_view}
use Rattle.coset_headers.specs.Parts.{plain_of}
use Rattle.coset_headers.specs.View.{signatures_view, entry_view}
use Rattle.coset_headers.specs.Written.{is_unsigned}
use Rattle.coset_headers.specs.Values.{all_absent, values_of}
use Rattle.coset_headers.specs.declared.header.Header.{out-Header}
use Rattle.coset_headers.proofs.Unset.{name_set, crit_set, bytes_set, unset, absent, empty_by, rest_by}
use Rattle.coset_headers.proofs.header.Header.is_empty.Goals as goal

pub returns-then-not-is_unsigned : goal.returns-then-not-is_unsigned
returns-then-not-is_unsigned c =
    let h = out-Header c.args.self.now in
    let none : all_absent (values_of (plain_of c.args.self.now)) ≡ true = λ i.
    absent (name_set (named_view algorithm_number) h.alg ∙ sym c.is_some.ensures) c.if-is_some.false i
    && (unset (crit_set (named_view header_parameters.number) h.crit _ c.is_empty.ensures) c.if-not-is_empty.false i
    && (absent (name_set (registered_view coap_content_formats.number) h.content_type ∙ sym c.is_some-2.ensures) c.if-is_some-2.false i
    && (unset (bytes_set h.key_id _ c.is_empty-2.ensures) c.if-not-is_empty-2.false i
    && (unset (bytes_set h.iv _ c.is_empty-3.ensures) c.if-not-is_empty-3.false i
    && (unset (bytes_set h.partial_iv _ c.is_empty-4.ensures) c.if-not-is_empty-4.false i && true))))) in
    let signs = sym (c.is_unsigned.ensures ∙ ap (λ z. is_unsigned (signatures_view z)) c.deref.ensures.value) in
    sym (empty_by c.args.self.now _ none (signs ∙ c.if-not-is_unsigned.true))

pub returns : goal.returns
returns c =
    let h = out-Header c.args.self.now in
    let none : all_absent (values_of (plain_of c.args.self.now)) ≡ true = λ i.
    absent (name_set (named_view algorithm_number) h.alg ∙ sym c.is_some.ensures) c.if-is_some.false i
    && (unset (crit_set (named_view header_parameters.number) h.crit _ c.is_empty.ensures) c.if-not-is_empty.false i
    && (absent (name_set (registered_view coap_content_formats.number) h.content_type ∙ sym c.is_some-2.ensures) c.if-is_some-2.false i
    && (unset (bytes_set h.key_id _ c.is_empty-2.ensures) c.if-not-is_empty-2.false i
    && (unset (bytes_set h.iv _ c.is_empty-3.ensures) c.if-not-is_empty-3.false i
    && (unset (bytes_set h.partial_iv _ c.is_empty-4.ensures) c.if-not-is_empty-4.false i && true))))) in
    let signs = sym (c.is_unsigned.ensures ∙ ap (λ z. is_unsigned (signatures_view z)) c.deref.ensures.value) in
    rest_by entry_view h.rest _ c.is_empty-5.ensures ∙ sym (empty_by c.args.self.now _ none (signs ∙ c.if-not-is_unsigned.false))
