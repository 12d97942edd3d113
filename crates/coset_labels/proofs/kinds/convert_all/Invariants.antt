use Rattle.std.proofs.Common.{◌≡◌, List, ◌++◌}
use Rattle.ciborium_value.specs.declared.value.Value.{Value}
use Rattle.coset_labels.specs.Converting.{GivesAll}
use Rattle.coset_labels.proofs.kinds.convert_all.Given as goal

abbrev pub invariant-items : goal.invariant-items
invariant-items g l = record {
  front : (after : List Value) × (l.fn.items.items ≡ l.yielded ++ after);
  given : GivesAll (goal.F-post g l.f) l.yielded l.converted.items;
}
