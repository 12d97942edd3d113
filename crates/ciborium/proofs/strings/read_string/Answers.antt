use Rattle.std.proofs.Common.{rules, false, [], refl}
use Rattle.ciborium.specs.Reading.{string_head, IsBody}
use Rattle.ciborium.proofs.Taking.{takes_as}
use Rattle.ciborium.proofs.StringLemmas.{chunk_done, chunk_is, short_fails}
use Rattle.ciborium.proofs.OneItem.{chunk_memory}
use Rattle.ciborium.proofs.Passing.{passed_on}
use Rattle.ciborium.proofs.strings.read_string.Goals as goal

pub returns-in_ok-bytes-in-Some-clause-ok : goal.returns-in_ok-bytes-in-Some-clause-ok
returns-in_ok-bytes-in-Some-clause-ok g c =
    rw c.in-Some.is (takes_as _ _ _ _ _ _ c.in_ok-bytes-in-Some.ensures.ok (λ x p. chunk_done false _ [] _ x refl (record { has = tt; len = p.0; is = p.1 })))

pub returns-in_err-bytes-in-Some-clause-leaves : goal.returns-in_err-bytes-in-Some-clause-leaves
returns-in_err-bytes-in-Some-clause-leaves g c =
    record { stops = search rules; one = passed_on _ _ c.from_residual.ensures.1 (rw c.in-Some.is (chunk_memory false _ _ _ _ _ _ c.in_err-bytes-in-Some.ensures.leaves.one)); steady = search rules }

pub returns-in_err-bytes-in-Some-clause-err : goal.returns-in_err-bytes-in-Some-clause-err
returns-in_err-bytes-in-Some-clause-err g c =
    passed_on _ _ c.from_residual.ensures.1 (rw c.in-Some.is (chunk_is g.R.Read.ends (string_head false) (IsBody false) c.in-Some.n c.args.at _ _ _ _ (short_fails g.R.Read.ends (string_head false) (IsBody false) c.in-Some.n c.args.at _ _ _ _ c.in_err-bytes-in-Some.ensures.err)))
