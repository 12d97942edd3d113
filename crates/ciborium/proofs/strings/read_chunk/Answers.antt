use Rattle.std.proofs.Common.{rules, ◌≡◌, arith, length}
use Rattle.ciborium.specs.Reading.{string_head, IsBody}
use Rattle.ciborium.proofs.StringLemmas.{short_fails, utf8_fails_at, utf8_no}
use Rattle.ciborium.proofs.Halting.{was_taken}
use Rattle.ciborium.proofs.Passing.{passed_on}
use Rattle.ciborium.proofs.strings.read_chunk.Goals as goal

pub returns-in_err-read_bytes-clause-err : goal.returns-in_err-read_bytes-clause-err
returns-in_err-read_bytes-clause-err g c =
    passed_on _ _ c.from_residual.ensures.1 (short_fails g.R.Read.ends (string_head c.args.text) (IsBody c.args.text) c.args.n c.args.at _ _ _ _ c.in_err-read_bytes.ensures.err)

pub returns-then-is_err-clause-err : goal.returns-then-is_err-clause-err
returns-then-is_err-clause-err g c =
    let e : c.len-start.result ≡ length c.args.into.now.items = omega (arith, c.len-start.ensures, c.args.into.now.ok.0) in
    utf8_fails_at g.R.Read.ends _ _ _ _ _ _ _ _ _ _ _ c.if-text.true c.in_ok-read_bytes.ensures.ok e c.deref.ensures.value (utf8_no _ _ _ _ c.from_utf8.ensures.cases _ c.is_err.ensures.value c.if-is_err.true)

pub returns-then-is_err-clause-leaves : goal.returns-then-is_err-clause-leaves
returns-then-is_err-clause-leaves g c =
    record { stops = was_taken c.in_ok-read_bytes.ensures.ok; one = search rules; steady = search rules }
