use Rattle.std.proofs.Common.{map}
use Rattle.coset_keys.specs.View.{key_view}
use Rattle.cose_rules.specs.Ruled.{ruling_view}
use Rattle.cose_ruled.specs.Judging.{ruled}
use Rattle.cose_ruled.proofs.Decided.{good_by}
use Rattle.cose_ruled.proofs.judge.RuledJudgeJudge.decide.Goals as goal

pub returns-clause-answer : goal.returns-clause-answer
returns-clause-answer g c subject covered held = good_by
    (λ bytes n k. g.V.Verify.verifies c.args.self.now.verifier n k bytes c.args.signature.now)
    (map key_view c.args.self.now.keys.now) c.args.self.now.asked
    c.args.self.now.id.items c.deref.result.now c.args.self.now.covered.items c.deref-2.result.now covered
    (ruling_view c.ruling_by.result) (ruled (map key_view c.args.self.now.keys.now) subject) c.is_good.result
    c.is_good.ensures c.ruling_by.ensures c.deref.ensures.value c.deref-2.ensures.value held.0 held.1
