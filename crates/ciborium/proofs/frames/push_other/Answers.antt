use Rattle.std.proofs.Common.{rules, false, true, arith, ap, sym, ◌∙◌, Some}
use Rattle.ciborium_ll.specs.declared.hdr.Header.TheVariants.{Bytes, Text}
use Rattle.ciborium_ll.specs.declared.hdr.Header.TheVariants as head
use Rattle.ciborium_ll.specs.Views.{last_head}
use Rattle.ciborium.proofs.ReadHeads.{bytes_head, text_head}
use Rattle.ciborium_value.specs.declared.value.Value.TheVariants as value
use Rattle.ciborium_value.specs.Tree as spec
use Rattle.ciborium_value.specs.View.{view}
use Rattle.ciborium_value.proofs.Views.{view_float, view_bytes, view_text}
use Rattle.ciborium.proofs.Taking.{takes_as, takes_none}
use Rattle.ciborium.proofs.ReadLemmas.{leaf, bytes_read, text_read}
use Rattle.ciborium.proofs.Steps.{bytes_fail, text_fail}
use Rattle.ciborium.proofs.OneItem.{none_behind, reads_behind, string_behind}
use Rattle.ciborium.proofs.Passing.{passed_on}
use Rattle.ciborium.proofs.frames.push_other.Goals as goal

pub returns-in-Ok-clause-ok : goal.returns-in-Ok-clause-ok
returns-in-Ok-clause-ok g c =
    rw (bytes_head c.args.decoder.now (sym c.major.ensures ∙ c.in-2.is) ∙ ap Bytes (sym c.head_length-length.ensures)) (value.Bytes c.in_ok-bytes-in-2.bytes, takes_as _ _ _ _ _ _ c.in_ok-bytes-in-2.ensures.ok (λ x s limit. bytes_read _ limit _ _ x (view_bytes _) s), c.in-Ok.ensures.items)

pub returns-in-Ok-push-clause-ok : goal.returns-in-Ok-push-clause-ok
returns-in-Ok-push-clause-ok g c =
    rw (text_head c.args.decoder.now (sym c.major.ensures ∙ c.in-3.is) ∙ ap Text (sym c.head_length-length-in-3.ensures)) (value.Text c.in_ok-text-in-3.text, takes_as _ _ _ _ _ _ c.in_ok-text-in-3.ensures.ok (λ x s limit. text_read _ limit _ _ x (view_text _) s), c.in-Ok-push.ensures.items)

pub returns-in_err-bytes-in-2-clause-err : goal.returns-in_err-bytes-in-2-clause-err
returns-in_err-bytes-in-2-clause-err g c =
    passed_on _ _ c.from_residual.ensures.1 (rw (bytes_head c.args.decoder.now (sym c.major.ensures ∙ c.in-2.is) ∙ ap Bytes (sym c.head_length-length.ensures)) (λ limit. bytes_fail g.R.Read.ends c.head_length-length.result _ limit _ _ _ _ c.in_err-bytes-in-2.ensures.err))

pub returns-in_err-text-in-3-clause-err : goal.returns-in_err-text-in-3-clause-err
returns-in_err-text-in-3-clause-err g c =
    passed_on _ _ c.from_residual-in_err-text-in-3.ensures.1 (rw (text_head c.args.decoder.now (sym c.major.ensures ∙ c.in-3.is) ∙ ap Text (sym c.head_length-length-in-3.ensures)) (λ limit. text_fail g.R.Read.ends c.head_length-length-in-3.result _ limit _ _ _ _ c.in_err-text-in-3.ensures.err))

pub returns-in-Float-clause-ok : goal.returns-in-Float-clause-ok
returns-in-Float-clause-ok g c =
    rw (sym c.head-header.ensures ∙ c.in-Float.is)
    (value.Float c.in-Float.f, leaf (head.Float c.in-Float.f) (spec.float c.in-Float.f) (view (value.Float c.in-Float.f)) _ _ (λ title t. t) (omega arith) (ap Some (sym (view_float _))), c.in-Ok-push-2.ensures.items)

pub returns-in_default-push-clause-leaves : goal.returns-in_default-push-clause-leaves
returns-in_default-push-clause-leaves g c =
    record { stops = search rules; one = rw (bytes_head c.args.decoder.now (sym c.major.ensures ∙ c.in-2.is) ∙ ap Bytes (sym c.head_length-length.ensures)) (takes_as _ _ _ _ _ _ c.in_ok-bytes-in-2.ensures.ok (λ x s. string_behind false c.head_length-length.result _ x s)); steady = search rules }

pub returns-in_default-push-2-clause-leaves : goal.returns-in_default-push-2-clause-leaves
returns-in_default-push-2-clause-leaves g c =
    record { stops = search rules; one = rw (text_head c.args.decoder.now (sym c.major.ensures ∙ c.in-3.is) ∙ ap Text (sym c.head_length-length-in-3.ensures)) (takes_as _ _ _ _ _ _ c.in_ok-text-in-3.ensures.ok (λ x s. string_behind true c.head_length-length-in-3.result _ x s)); steady = search rules }

pub returns-in_err-bytes-in-2-clause-leaves : goal.returns-in_err-bytes-in-2-clause-leaves
returns-in_err-bytes-in-2-clause-leaves g c =
    record { stops = search rules; one = passed_on _ _ c.from_residual.ensures.1 (rw (bytes_head c.args.decoder.now (sym c.major.ensures ∙ c.in-2.is) ∙ ap Bytes (sym c.head_length-length.ensures)) c.in_err-bytes-in-2.ensures.leaves.one); steady = search rules }

pub returns-in_err-text-in-3-clause-leaves : goal.returns-in_err-text-in-3-clause-leaves
returns-in_err-text-in-3-clause-leaves g c =
    record { stops = search rules; one = passed_on _ _ c.from_residual-in_err-text-in-3.ensures.1 (rw (text_head c.args.decoder.now (sym c.major.ensures ∙ c.in-3.is) ∙ ap Text (sym c.head_length-length-in-3.ensures)) c.in_err-text-in-3.ensures.leaves.one); steady = search rules }

pub returns-in_default-push-3-clause-leaves : goal.returns-in_default-push-3-clause-leaves
returns-in_default-push-3-clause-leaves g c =
    record { stops = search rules; one = takes_none _ _ _ (none_behind (last_head c.args.decoder.now)); steady = search rules }

pub returns-in_default-push-4-clause-leaves : goal.returns-in_default-push-4-clause-leaves
returns-in_default-push-4-clause-leaves g c =
    record { stops = search rules; one = rw (sym c.head-header.ensures) (takes_as _ _ _ _ _ _ c.in_ok-leaf-in_default.ensures.ok (λ x s. reads_behind c.head-header.result 0 _ x (s 0))); steady = search rules }
