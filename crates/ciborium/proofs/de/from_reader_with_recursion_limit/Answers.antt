use Rattle.std.proofs.Common.{rules}
use Rattle.ciborium.proofs.Unread.{unread}
use Rattle.ciborium.proofs.OneTurns.{given_one}
use Rattle.ciborium.proofs.de.from_reader_with_recursion_limit.Goals as goal

pub returns-clause-ok : goal.returns-clause-ok
returns-clause-ok g c = search rules

pub returns-clause-err : goal.returns-clause-err
returns-clause-err g c = unread _ _ _ _ c.typed_item.result _ _ _ _ _ _ c.typed_item.ensures.err (search rules) (search rules) (search rules)

pub returns-clause-one : goal.returns-clause-one
returns-clause-one g c = given_one c.typed_item.result _ _ _ _ _ _ c.typed_item.ensures.leaves.one (search rules) (search rules)
