use Rattle.std.proofs.Common.{rules, false, true, ap, sym, ◌∙◌}
use Rattle.ciborium_ll.specs.declared.hdr.Header.TheVariants.{Bytes, Text}
use Rattle.ciborium.proofs.ReadHeads.{bytes_head, text_head}
use Rattle.ciborium_value.specs.declared.value.Value.TheVariants as value
use Rattle.ciborium_value.proofs.Views.{view_bytes, view_text}
use Rattle.ciborium.proofs.Taking.{takes_as}
use Rattle.ciborium.proofs.ReadLemmas.{bytes_read, text_read}
use Rattle.ciborium.proofs.Steps.{bytes_fail, text_fail}
use Rattle.ciborium.proofs.OneItem.{reads_behind, string_behind}
use Rattle.ciborium.proofs.Passing.{passed_on}
use Rattle.ciborium.proofs.frames.put_half_other.Goals as goal

pub returns-in-Ok-clause-ok : goal.returns-in-Ok-clause-ok
returns-in-Ok-clause-ok g c =
    rw (bytes_head c.args.decoder.now (sym c.major.ensures ∙ c.in-2.is) ∙ ap Bytes (sym c.head_length-length.ensures)) (value.Bytes c.in_ok-bytes-in-2.bytes, takes_as _ _ _ _ _ _ c.in_ok-bytes-in-2.ensures.ok (λ x s limit. bytes_read _ limit _ _ x (view_bytes _) s), c.in-Ok.ensures.ok)

pub returns-in-Ok-put_half-clause-ok : goal.returns-in-Ok-put_half-clause-ok
returns-in-Ok-put_half-clause-ok g c =
    rw (text_head c.args.decoder.now (sym c.major.ensures ∙ c.in-3.is) ∙ ap Text (sym c.head_length-length-in-3.ensures)) (value.Text c.in_ok-text-in-3.text, takes_as _ _ _ _ _ _ c.in_ok-text-in-3.ensures.ok (λ x s limit. text_read _ limit _ _ x (view_text _) s), c.in-Ok-put_half.ensures.ok)

pub returns-in_err-bytes-in-2-clause-err : goal.returns-in_err-bytes-in-2-clause-err
returns-in_err-bytes-in-2-clause-err g c =
    passed_on _ _ c.from_residual.ensures.1 (rw (bytes_head c.args.decoder.now (sym c.major.ensures ∙ c.in-2.is) ∙ ap Bytes (sym c.head_length-length.ensures)) (λ limit. bytes_fail g.R.Read.ends c.head_length-length.result _ limit _ _ _ _ c.in_err-bytes-in-2.ensures.err))

pub returns-in_err-text-in-3-clause-err : goal.returns-in_err-text-in-3-clause-err
returns-in_err-text-in-3-clause-err g c =
    passed_on _ _ c.from_residual-in_err-text-in-3.ensures.1 (rw (text_head c.args.decoder.now (sym c.major.ensures ∙ c.in-3.is) ∙ ap Text (sym c.head_length-length-in-3.ensures)) (λ limit. text_fail g.R.Read.ends c.head_length-length-in-3.result _ limit _ _ _ _ c.in_err-text-in-3.ensures.err))

pub returns-in_default-put_half-clause-leaves : goal.returns-in_default-put_half-clause-leaves
returns-in_default-put_half-clause-leaves g c =
    record { stops = search rules; one = rw (bytes_head c.args.decoder.now (sym c.major.ensures ∙ c.in-2.is) ∙ ap Bytes (sym c.head_length-length.ensures)) (takes_as _ _ _ _ _ _ c.in_ok-bytes-in-2.ensures.ok (λ x s. string_behind false c.head_length-length.result _ x s)); steady = search rules }

pub returns-in_default-put_half-2-clause-leaves : goal.returns-in_default-put_half-2-clause-leaves
returns-in_default-put_half-2-clause-leaves g c =
    record { stops = search rules; one = rw (text_head c.args.decoder.now (sym c.major.ensures ∙ c.in-3.is) ∙ ap Text (sym c.head_length-length-in-3.ensures)) (takes_as _ _ _ _ _ _ c.in_ok-text-in-3.ensures.ok (λ x s. string_behind true c.head_length-length-in-3.result _ x s)); steady = search rules }

pub returns-in_err-bytes-in-2-clause-leaves : goal.returns-in_err-bytes-in-2-clause-leaves
returns-in_err-bytes-in-2-clause-leaves g c =
    record { stops = search rules; one = passed_on _ _ c.from_residual.ensures.1 (rw (bytes_head c.args.decoder.now (sym c.major.ensures ∙ c.in-2.is) ∙ ap Bytes (sym c.head_length-length.ensures)) c.in_err-bytes-in-2.ensures.leaves.one); steady = search rules }

pub returns-in_err-text-in-3-clause-leaves : goal.returns-in_err-text-in-3-clause-leaves
returns-in_err-text-in-3-clause-leaves g c =
    record { stops = search rules; one = passed_on _ _ c.from_residual-in_err-text-in-3.ensures.1 (rw (text_head c.args.decoder.now (sym c.major.ensures ∙ c.in-3.is) ∙ ap Text (sym c.head_length-length-in-3.ensures)) c.in_err-text-in-3.ensures.leaves.one); steady = search rules }

pub returns-in_default-put_half-3-clause-leaves : goal.returns-in_default-put_half-3-clause-leaves
returns-in_default-put_half-3-clause-leaves g c =
    record { stops = search rules; one = rw (sym c.head-header.ensures) (takes_as _ _ _ _ _ _ c.in_ok-leaf-in_default.ensures.ok (λ x s. reads_behind c.head-header.result 0 _ x (s 0))); steady = search rules }
