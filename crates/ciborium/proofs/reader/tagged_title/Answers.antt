use Rattle.std.proofs.Common.{arith}
use Rattle.ciborium.proofs.TagLemmas.{plain_deep, plain_title, free_title}
use Rattle.ciborium.proofs.Passing.{passed_on}
use Rattle.ciborium.proofs.reader.tagged_title.Goals as goal

pub returns-then-limit-eq0-clause-err : goal.returns-then-limit-eq0-clause-err
returns-then-limit-eq0-clause-err g c = plain_deep g.R.Read.ends c.args.tag c.args.limit _ _ (rw c.if-is_plain.true at c.is_plain.ensures) c.if-limit-eq0.true

pub returns-in_err-title-clause-err : goal.returns-in_err-title-clause-err
returns-in_err-title-clause-err g c =
    passed_on _ _ c.from_residual.ensures.1 (plain_title g.R.Read.ends c.args.tag c.args.limit _ _ _ _ (rw c.if-is_plain.true at c.is_plain.ensures) (omega arith) c.in_err-title.ensures.err)

pub returns-in_err-title-2-clause-err : goal.returns-in_err-title-2-clause-err
returns-in_err-title-2-clause-err g c =
    passed_on _ _ c.from_residual-in_err-title-2.ensures.1 (free_title g.R.Read.ends c.args.tag c.args.limit _ _ _ _ (rw c.if-is_plain.false at c.is_plain.ensures) c.in_err-title-2.ensures.err)
