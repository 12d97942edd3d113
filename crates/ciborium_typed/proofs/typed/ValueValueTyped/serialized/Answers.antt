use Rattle.std.proofs.Common.{◌≡◌, length, rules, arith}
use Rattle.ciborium_typed.proofs.Built.{only_item, one_item, that_item}
use Rattle.ciborium_typed.proofs.typed.ValueValueTyped.serialized.Goals as goal

pub unreachable-requires : goal.unreachable-requires
unreachable-requires g c =
    let e = only_item (g.T.Serialize.put c.args.value.now) c.new-sink.result c.serialize.new.sink c.into_items.result.items c.new-sink.ensures c.in_ok-serialize.ensures.ok c.into_items.ensures in
    let h : length c.into_items.result.items ≡ 1 = one_item (g.T.Serialize.put c.args.value.now) c.into_items.result.items e in
    let k : length c.into_items.result.items ≡ 0 = search (rules, c.in-None.ensures.cases.0) in
    omega arith

pub returns-clause-ok : goal.returns-clause-ok
returns-clause-ok g c =
    let e = only_item (g.T.Serialize.put c.args.value.now) c.new-sink.result c.serialize.new.sink c.into_items.result.items c.new-sink.ensures c.in_ok-serialize.ensures.ok c.into_items.ensures in
    that_item (g.T.Serialize.put c.args.value.now) c.into_items.result.items c.pop.new.self.items c.in-Some.item c.in-Some.ensures.items e
