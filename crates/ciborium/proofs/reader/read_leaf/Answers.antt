use Rattle.std.proofs.Common.{rules, arith, ap, sym, ◌∙◌, Some, pos, negsuc}
use Rattle.ciborium_ll.specs.declared.hdr.Header.TheVariants.{Positive, Negative, Simple}
use Rattle.ciborium_ll.specs.declared.hdr.Header.TheVariants as head
use Rattle.ciborium_value.specs.Tree as spec
use Rattle.ciborium_value.proofs.Views.{view_integer, view_float, view_bytes, view_text}
use Rattle.ciborium.proofs.Taking.{takes_as}
use Rattle.ciborium.proofs.ReadLemmas.{leaf, bytes_read, text_read, simple_fails, break_fails}
use Rattle.ciborium.proofs.Steps.{bytes_fail, text_fail}
use Rattle.ciborium.proofs.Passing.{passed_on}
use Rattle.ciborium.proofs.reader.read_leaf.Goals as goal

pub returns-in-Positive-clause-ok : goal.returns-in-Positive-clause-ok
returns-in-Positive-clause-ok g c = rw c.in-Positive.is (leaf (Positive c.in-Positive.n) (spec.integer (pos c.in-Positive.n)) _ _ _ (λ title t. t) (omega arith) (ap Some (sym (view_integer _ ∙ ap spec.integer c.from.ensures))))

pub returns-in-Negative-clause-ok : goal.returns-in-Negative-clause-ok
returns-in-Negative-clause-ok g c = rw c.in-Negative.is (leaf (Negative c.in-Negative.n) (spec.integer (negsuc c.in-Negative.n)) _ _ _ (λ title t. t) (omega arith) (ap Some (sym (view_integer _ ∙ ap spec.integer c.negative.ensures))))

pub returns-in-Float-clause-ok : goal.returns-in-Float-clause-ok
returns-in-Float-clause-ok g c = rw c.in-Float.is (leaf (head.Float c.in-Float.f) (spec.float c.in-Float.f) _ _ _ (λ title t. t) (omega arith) (ap Some (sym (view_float _))))

pub returns-in-Some-clause-ok : goal.returns-in-Some-clause-ok
returns-in-Some-clause-ok g c = rw c.in-Simple.is (leaf (Simple c.in-Simple.n) (spec.simple c.in-Simple.n) _ _ _ (λ title t. t) (omega arith) c.in-Some.ensures)

pub returns-in-None-clause-err : goal.returns-in-None-clause-err
returns-in-None-clause-err g c limit = rw c.in-Simple.is (simple_fails g.R.Read.ends c.in-Simple.n limit c.args.at _ _ c.in-None.ensures)

pub returns-in-Break-clause-err : goal.returns-in-Break-clause-err
returns-in-Break-clause-err g c limit = rw c.in-Break.is (break_fails g.R.Read.ends limit c.args.at _ _)

pub returns-in_err-bytes-in-Bytes-clause-err : goal.returns-in_err-bytes-in-Bytes-clause-err
returns-in_err-bytes-in-Bytes-clause-err g c =
    passed_on _ _ c.from_residual.ensures.1 (rw c.in-Bytes.is (λ limit. bytes_fail g.R.Read.ends c.in-Bytes.length _ limit _ _ _ _ c.in_err-bytes-in-Bytes.ensures.err))

pub returns-in_err-text-in-Text-clause-err : goal.returns-in_err-text-in-Text-clause-err
returns-in_err-text-in-Text-clause-err g c =
    passed_on _ _ c.from_residual-in_err-text-in-Text.ensures.1 (rw c.in-Text.is (λ limit. text_fail g.R.Read.ends c.in-Text.length _ limit _ _ _ _ c.in_err-text-in-Text.ensures.err))

pub returns-in_ok-bytes-in-Bytes-clause-ok : goal.returns-in_ok-bytes-in-Bytes-clause-ok
returns-in_ok-bytes-in-Bytes-clause-ok g c = rw c.in-Bytes.is (takes_as _ _ _ _ _ _ c.in_ok-bytes-in-Bytes.ensures.ok (λ x s limit. bytes_read _ limit _ _ x (view_bytes _) s))

pub returns-in_ok-text-in-Text-clause-ok : goal.returns-in_ok-text-in-Text-clause-ok
returns-in_ok-text-in-Text-clause-ok g c = rw c.in-Text.is (takes_as _ _ _ _ _ _ c.in_ok-text-in-Text.ensures.ok (λ x s limit. text_read _ limit _ _ x (view_text _) s))

pub returns-in_err-bytes-in-Bytes-clause-leaves : goal.returns-in_err-bytes-in-Bytes-clause-leaves
returns-in_err-bytes-in-Bytes-clause-leaves g c =
    record { stops = search rules; one = passed_on _ _ c.from_residual.ensures.1 (rw c.in-Bytes.is c.in_err-bytes-in-Bytes.ensures.leaves.one); steady = search rules }

pub returns-in_err-text-in-Text-clause-leaves : goal.returns-in_err-text-in-Text-clause-leaves
returns-in_err-text-in-Text-clause-leaves g c =
    record { stops = search rules; one = passed_on _ _ c.from_residual-in_err-text-in-Text.ensures.1 (rw c.in-Text.is c.in_err-text-in-Text.ensures.leaves.one); steady = search rules }
