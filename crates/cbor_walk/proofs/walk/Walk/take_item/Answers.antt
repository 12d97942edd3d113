use Rattle.std.proofs.Common.{reverse}
use Rattle.std.proofs.lemmas.List.{length-reverse}
use Rattle.std.proofs.lemmas.Result.{on_ok_weaker}
use Rattle.cbor_walk.specs.Grammar.{IsNext}
use Rattle.cbor_walk.specs.declared.walk.Next.TheVariants as next
use Rattle.cbor_walk.proofs.Steps.{takes_stated, takes_open, break_untaken}
use Rattle.cbor_walk.proofs.Deep.{deep_due, deep_claim, deep_open, deep_weaker, over_due}
use Rattle.cbor_walk.proofs.walk.Walk.take_item.Goals as goal

pub returns-in-Some-Items-clause-ok : goal.returns-in-Some-Items-clause-ok
returns-in-Some-Items-clause-ok c =
    let is : IsNext c.args.header (next.Items c.in-Some-Items.n) = rw c.in-Some-Items.field-0-is at c.in-Some-Items.ensures.some in
    on_ok_weaker c.add.result (λ due. rw (c.add.ensures.holds, c.add.ensures.levels) (λ title t. takes_stated c.args.self.now.holds c.args.self.now.due c.in-Some-Items.n c.add.new.self.due (reverse c.args.self.now.levels.items) c.args.header title c.requires due is t)) c.add.ensures.due

pub returns-in-Some-Open-clause-ok : goal.returns-in-Some-Open-clause-ok
returns-in-Some-Open-clause-ok c =
    let is : IsNext c.args.header (next.Open c.in-Some-Open.holds) = rw c.in-Some-Open.field-0-is at c.in-Some-Open.ensures.some in
    on_ok_weaker c.open.result (λ s title t. takes_open c.args.self.now.holds c.open.new.self.holds c.in-Some-Open.holds c.args.self.now.due c.open.new.self.due (reverse c.args.self.now.levels.items) (reverse c.open.new.self.levels.items) c.args.header title c.requires s.0 s.1 s.2 is t) c.open.ensures.ok

pub returns-in-Some-Nothing-clause-syntax : goal.returns-in-Some-Nothing-clause-syntax
returns-in-Some-Nothing-clause-syntax c =
    let is : IsNext c.args.header next.Nothing = rw c.in-Some-Nothing.field-0-is at c.in-Some-Nothing.ensures.some in
    λ title t. break_untaken c.args.self.now.holds c.args.self.now.due (reverse c.args.self.now.levels.items) c.args.header title c.requires is t

pub returns-in-Some-Items-clause-sound : goal.returns-in-Some-Items-clause-sound
returns-in-Some-Items-clause-sound c = on_ok_weaker c.add.result (λ due s. rw (c.add.ensures.holds, c.add.ensures.levels) s) c.add.ensures.due

pub returns-in-Some-Open-clause-sound : goal.returns-in-Some-Open-clause-sound
returns-in-Some-Open-clause-sound c = on_ok_weaker c.open.result (λ o s. rw (o.0, o.2) s) c.open.ensures.ok

pub returns-in-Some-Items-clause-deep : goal.returns-in-Some-Items-clause-deep
returns-in-Some-Items-clause-deep c = λ s.
    let is : IsNext c.args.header (next.Items c.in-Some-Items.n) = rw c.in-Some-Items.field-0-is at c.in-Some-Items.ensures.some in
    over_due c.add.result (λ many title t. deep_due c.args.self.now.holds c.args.self.now.due c.in-Some-Items.n c.args.self.now.most (reverse c.args.self.now.levels.items) c.args.header title s c.requires is many t) c.add.ensures.over

pub returns-in-Some-Open-clause-deep : goal.returns-in-Some-Open-clause-deep
returns-in-Some-Open-clause-deep c = λ s.
    let is : IsNext c.args.header (next.Open c.in-Some-Open.holds) = rw c.in-Some-Open.field-0-is at c.in-Some-Open.ensures.some in
    deep_weaker c.open.result (λ many title t. deep_open c.args.self.now.holds c.in-Some-Open.holds c.args.self.now.due c.args.self.now.most (reverse c.args.self.now.levels.items) c.args.header title s c.requires is (rw length-reverse many) t) c.open.ensures.deep

pub returns-in-None-clause-deep : goal.returns-in-None-clause-deep
returns-in-None-clause-deep c = λ s title t.
    let claim = c.in-None.ensures.none in
    deep_claim c.args.self.now.holds c.args.self.now.due claim.0 c.args.self.now.most (reverse c.args.self.now.levels.items) c.args.header title s c.requires claim.1 claim.2 t
