use Rattle.std.proofs.Common.{rules, false, true, arith, ap, sym, ◌∙◌, Some, pos, negsuc}
use Rattle.ciborium_ll.specs.declared.hdr.Header.TheVariants.{Positive, Negative, Bytes, Text}
use Rattle.ciborium_ll.specs.Views.{last_head}
use Rattle.ciborium_value.specs.declared.value.Value.TheVariants as value
use Rattle.ciborium_value.specs.Tree as spec
use Rattle.ciborium_value.specs.View.{view}
use Rattle.ciborium_value.proofs.Views.{view_integer, view_bytes, view_text}
use Rattle.ciborium.proofs.OneItem.{string_behind}
use Rattle.ciborium.proofs.Passing.{passed_on}
use Rattle.ciborium.proofs.ReadHeads.{positive_head, negative_head, bytes_head, text_head}
use Rattle.ciborium.proofs.ReadLemmas.{leaf, bytes_read, text_read}
use Rattle.ciborium.proofs.Steps.{bytes_fail, text_fail}
use Rattle.ciborium.proofs.Taking.{takes_as}
use Rattle.ciborium.proofs.frames.read_headed.Goals as goal

pub returns-in-0-clause-ok : goal.returns-in-0-clause-ok
returns-in-0-clause-ok g c =
    rw (positive_head c.args.decoder.now (sym c.major.ensures ∙ c.in-0.is) ∙ ap Positive (sym c.head_number.ensures))
    (takes_as _ _ _ _ _ _ (leaf (Positive c.head_number.result) (spec.integer (pos c.head_number.result)) (view (value.Integer c.from.result)) _ _ (λ title t. t) (omega arith) (ap Some (sym (view_integer _ ∙ ap spec.integer c.from.ensures)))) (λ x read. read c.args.limit))

pub returns-in-1-clause-ok : goal.returns-in-1-clause-ok
returns-in-1-clause-ok g c =
    rw (negative_head c.args.decoder.now (sym c.major.ensures ∙ c.in-1.is) ∙ ap Negative (sym c.head_number-in-1.ensures))
    (takes_as _ _ _ _ _ _ (leaf (Negative c.head_number-in-1.result) (spec.integer (negsuc c.head_number-in-1.result)) (view (value.Integer c.negative.result)) _ _ (λ title t. t) (omega arith) (ap Some (sym (view_integer _ ∙ ap spec.integer c.negative.ensures)))) (λ x read. read c.args.limit))

pub returns-in_ok-bytes-in-2-clause-ok : goal.returns-in_ok-bytes-in-2-clause-ok
returns-in_ok-bytes-in-2-clause-ok g c =
    rw (bytes_head c.args.decoder.now (sym c.major.ensures ∙ c.in-2.is) ∙ ap Bytes (sym c.head_length-length.ensures)) (takes_as _ _ _ _ _ _ c.in_ok-bytes-in-2.ensures.ok (λ x s. bytes_read _ c.args.limit _ _ x (view_bytes _) s))

pub returns-in_ok-text-in-3-clause-ok : goal.returns-in_ok-text-in-3-clause-ok
returns-in_ok-text-in-3-clause-ok g c =
    rw (text_head c.args.decoder.now (sym c.major.ensures ∙ c.in-3.is) ∙ ap Text (sym c.head_length-length-in-3.ensures)) (takes_as _ _ _ _ _ _ c.in_ok-text-in-3.ensures.ok (λ x s. text_read _ c.args.limit _ _ x (view_text _) s))

pub returns-in_err-bytes-in-2-clause-err : goal.returns-in_err-bytes-in-2-clause-err
returns-in_err-bytes-in-2-clause-err g c =
    passed_on _ _ c.from_residual.ensures.1 (rw (bytes_head c.args.decoder.now (sym c.major.ensures ∙ c.in-2.is) ∙ ap Bytes (sym c.head_length-length.ensures)) (bytes_fail g.R.Read.ends c.head_length-length.result _ c.args.limit _ _ _ _ c.in_err-bytes-in-2.ensures.err))

pub returns-in_err-text-in-3-clause-err : goal.returns-in_err-text-in-3-clause-err
returns-in_err-text-in-3-clause-err g c =
    passed_on _ _ c.from_residual-in_err-text-in-3.ensures.1 (rw (text_head c.args.decoder.now (sym c.major.ensures ∙ c.in-3.is) ∙ ap Text (sym c.head_length-length-in-3.ensures)) (text_fail g.R.Read.ends c.head_length-length-in-3.result _ c.args.limit _ _ _ _ c.in_err-text-in-3.ensures.err))

pub returns-in_err-bytes-in-2-clause-leaves : goal.returns-in_err-bytes-in-2-clause-leaves
returns-in_err-bytes-in-2-clause-leaves g c =
    record { stops = search rules; one = passed_on _ _ c.from_residual.ensures.1 (rw (bytes_head c.args.decoder.now (sym c.major.ensures ∙ c.in-2.is) ∙ ap Bytes (sym c.head_length-length.ensures)) c.in_err-bytes-in-2.ensures.leaves.one); steady = search rules }

pub returns-in_err-text-in-3-clause-leaves : goal.returns-in_err-text-in-3-clause-leaves
returns-in_err-text-in-3-clause-leaves g c =
    record { stops = search rules; one = passed_on _ _ c.from_residual-in_err-text-in-3.ensures.1 (rw (text_head c.args.decoder.now (sym c.major.ensures ∙ c.in-3.is) ∙ ap Text (sym c.head_length-length-in-3.ensures)) c.in_err-text-in-3.ensures.leaves.one); steady = search rules }
