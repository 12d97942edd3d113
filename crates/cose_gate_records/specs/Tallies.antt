-- What is seen of a tally.
use Rattle.std.specs.Prelude.{ℕ, List}
use Rattle.cose_gate_records.specs.declared.tally.Tally.{Tally}

-- all that was written
abbrev pub all_of : Tally → List ℕ
all_of t = t.all.items
