use Rattle.std.proofs.Common.{arith, ap, ◌∙◌, w64}
use Rattle.std.proofs.lemmas.Cmp.{int_ranked}
use Rattle.std.proofs.lemmas.Int.{to_z-of_z}
use Rattle.cose_iana.specs.Registry.{entry_of}
use Rattle.cose_iana.specs.Facts.{found}
use Rattle.cose_iana.proofs.Halves.{upper, lower, here, nowhere}
use Rattle.cose_iana.proofs.number.entry_with.Goals as goal

pub halves-preserved-in-Less : goal.halves-preserved-in-Less
halves-preserved-in-Less g c = upper c.args.table.now _ c.halves.low c.halves.high _ c.requires c.halves.invariant (omega arith) (omega arith) c.index-table-middle.result c.index-table-middle.is (int_ranked _ _ _ c.in-Less.ensures)

pub returns-in-Equal : goal.returns-in-Equal
returns-in-Equal g c = here c.args.table.now _ c.halves.low c.halves.high _ c.requires c.halves.invariant (omega arith) (omega arith) c.index-table-middle.result c.index-table-middle.is (int_ranked _ _ _ c.in-Equal.ensures) ∙ ap (entry_of c.args.table.now) (to_z-of_z w64 c.args.i c.ranges.i)

pub halves-preserved : goal.halves-preserved
halves-preserved g c = lower c.args.table.now _ c.halves.low c.halves.high _ c.requires c.halves.invariant (omega arith) (omega arith) c.index-table-middle.result c.index-table-middle.is (int_ranked _ _ _ c.in-Greater.ensures)

pub returns : goal.returns
returns g c = nowhere c.args.table.now _ c.halves.low c.halves.high c.halves.invariant (omega arith) _ (found c.args.table.now _) ∙ ap (entry_of c.args.table.now) (to_z-of_z w64 c.args.i c.ranges.i)
