use Rattle.std.proofs.lemmas.Result.{IfOk-weaker}
use Rattle.cose_ruled.proofs.asker.RuledAskerJudge.feed.Goals as goal

pub returns-clause-holds : goal.returns-clause-holds
returns-clause-holds c = IfOk-weaker c.feed.result _ _ (λ u fed subject covered held. (held.0, fed subject covered held.1)) c.feed.ensures.holds
