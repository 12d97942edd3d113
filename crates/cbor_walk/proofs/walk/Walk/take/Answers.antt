use Rattle.std.proofs.lemmas.Result.{on_ok_weaker}
use Rattle.cbor_walk.proofs.Steps.{agrees_goes, agrees_refuses, syntax_weaker}
use Rattle.cbor_walk.proofs.Deep.{agrees_deep, deep_weaker}
use Rattle.cbor_walk.proofs.walk.Walk.take.Goals as goal

pub returns-clause-ok : goal.returns-clause-ok
returns-clause-ok c = on_ok_weaker c.take_item-2.result (λ f title t. agrees_goes _ _ _ title (c.in_ok-begin.ensures.ok title t) (f title t)) c.take_item-2.ensures.ok

pub returns-clause-syntax : goal.returns-clause-syntax
returns-clause-syntax c = syntax_weaker c.take_item-2.result (λ f title t. agrees_refuses _ _ title (c.in_ok-begin.ensures.ok title t) (f title t)) c.take_item-2.ensures.syntax

pub returns-clause-sound : goal.returns-clause-sound
returns-clause-sound c = on_ok_weaker c.take_item-2.result (λ f s. f (c.in_ok-begin.ensures.sound s)) c.take_item-2.ensures.sound

pub returns-clause-deep : goal.returns-clause-deep
returns-clause-deep c = λ s.
    deep_weaker c.take_item-2.result (λ f title t. agrees_deep _ _ _ title (c.in_ok-begin.ensures.ok title t) (rw c.in_ok-begin.ensures.most at f title t)) (c.take_item-2.ensures.deep (c.in_ok-begin.ensures.sound s))
