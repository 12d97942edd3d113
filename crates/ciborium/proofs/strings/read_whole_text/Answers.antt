use Rattle.std.proofs.Common.{rules, true, [], refl}
use Rattle.std.specs.Str.{IsUtf8}
use Rattle.ciborium_ll.specs.declared.hdr.Header.TheVariants.{Text}
use Rattle.ciborium.proofs.Taking.{takes_as}
use Rattle.ciborium.proofs.StringLemmas.{whole_text, whole_text_fails, short_fails, chunk_is}
use Rattle.ciborium.proofs.Halting.{was_taken}
use Rattle.ciborium.proofs.OneItem.{chunk_memory}
use Rattle.ciborium.proofs.Passing.{passed_on}
use Rattle.ciborium.proofs.strings.read_whole_text.Goals as goal

pub returns-in-Some-clause-ok : goal.returns-in-Some-clause-ok
returns-in-Some-clause-ok g c =
    takes_as _ _ _ _ _ _ c.in_ok-bytes.ensures.ok (λ x p. whole_text _ _ [] _ x refl c.in-Some.ensures.text p c.in-Some.ensures.valid)

pub returns-in-None-clause-err : goal.returns-in-None-clause-err
returns-in-None-clause-err g c =
    whole_text_fails g.R.Read.ends _ _ _ _ _ _ [] _ refl c.in_ok-bytes.ensures.ok c.in-None.ensures.none

pub returns-in-None-clause-leaves : goal.returns-in-None-clause-leaves
returns-in-None-clause-leaves g c =
    record { stops = was_taken c.in_ok-bytes.ensures.ok; one = search rules; steady = search rules }

pub returns-in_err-bytes-clause-leaves : goal.returns-in_err-bytes-clause-leaves
returns-in_err-bytes-clause-leaves g c =
    record { stops = search rules; one = passed_on _ _ c.from_residual.ensures.1 (chunk_memory true c.args.n _ _ _ _ _ c.in_err-bytes.ensures.leaves.one); steady = search rules }

pub returns-in_err-bytes-clause-err : goal.returns-in_err-bytes-clause-err
returns-in_err-bytes-clause-err g c =
    passed_on _ _ c.from_residual.ensures.1 (chunk_is g.R.Read.ends Text IsUtf8 c.args.n c.args.at _ _ _ _ (short_fails g.R.Read.ends Text IsUtf8 c.args.n c.args.at _ _ _ _ c.in_err-bytes.ensures.err))
