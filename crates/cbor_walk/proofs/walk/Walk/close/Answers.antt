use Rattle.std.proofs.Common.{◌≡◌, length, rules}
use Rattle.cbor_walk.proofs.Steps.{last_closes, nothing_around, closes_sound}
use Rattle.cbor_walk.proofs.walk.Walk.close.Goals as goal

pub returns-in_default-clause-syntax : goal.returns-in_default-clause-syntax
returns-in_default-clause-syntax c = λ title t i behind left w e.
    let none : length c.args.self.now.levels.items ≡ 0 = search rules in
    nothing_around c.args.self.now.holds c.args.self.now.due c.args.self.now.levels.items i c.requires.open none w

pub returns-clause-ok : goal.returns-clause-ok
returns-clause-ok c = λ title t. last_closes c.args.self.now.holds c.args.self.now.due c.args.self.now.levels.items c.pop.new.self.items c.in-Some.level title c.requires.open c.requires.due c.in-Some.ensures.items t

pub returns-clause-sound : goal.returns-clause-sound
returns-clause-sound c = λ s. closes_sound c.args.self.now.holds c.args.self.now.levels.items c.pop.new.self.items c.in-Some.level c.requires.open c.in-Some.ensures.items s
