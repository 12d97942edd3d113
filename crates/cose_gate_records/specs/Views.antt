-- What is seen of lines in a buffer.
use Rattle.std.specs.Prelude.{ℕ, List}
use Rattle.cose_gate_records.specs.Tallies.{all_of}
use Rattle.cose_gate_records.specs.declared.lines.Lines.{Lines}

-- all that was written
abbrev pub said : Lines → List ℕ
said l = all_of l.tally
