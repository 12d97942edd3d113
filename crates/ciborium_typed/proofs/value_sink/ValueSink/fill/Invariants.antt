use Rattle.std.proofs.Common.{◌≡◌, length}
use Rattle.ciborium_value.specs.View.{view}
use Rattle.ciborium_typed.specs.Stacks.{state_of, added}
use Rattle.ciborium_typed.proofs.value_sink.ValueSink.fill.Given as goal

abbrev pub invariant-levels : goal.invariant-levels
invariant-levels l = record {
  same : added (view l.item) (state_of l.self) ≡ added (view l.fn.item) (state_of l.fn.self);
  whole : l.self.items.items ≡ l.fn.self.items.items;
}

abbrev pub decreases-levels : goal.decreases-levels
decreases-levels l = length l.self.levels.items
