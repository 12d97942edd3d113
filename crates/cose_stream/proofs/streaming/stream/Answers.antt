use Rattle.std.proofs.Common.{refl}
use Rattle.std.proofs.lemmas.Result.{err_from_is_err_and}
use Rattle.cose_gate.specs.KeyView.{key_set_view}
use Rattle.cose_stream.specs.Streams.{not_begun, begun}
use Rattle.cose_stream.proofs.streaming.stream.Goals as goal

pub returns-in_err-beginning-clause-ran : goal.returns-in_err-beginning-clause-ran
returns-in_err-beginning-clause-ran g c =
    let p = err_from_is_err_and c.from_residual.result c.from_residual.ensures.1 in
    rw (p.1, p.2) (not_begun _ c.in_err-beginning.ensures refl refl refl)

pub returns-clause-ran : goal.returns-clause-ran
returns-clause-ran g c =
    let b = c.in_ok-beginning.ensures in
    begun b.0 _ (key_set_view c.in_ok-beginning.beginning.keys) b.1 b.3 b.2 (rw (c.new-judge.ensures, c.as_slice-aad.ensures.value) at c.check.ensures.ended) c.check.ensures.failed
