-- The lines of a run whose last one waits.
use Rattle.std.specs.Prelude.{◌≡◌, ℕ, List, [], ◌∷◌, ◌++◌, Option, Some, None, Bool, true, false}
use Rattle.ciborium_ll.specs.declared.write.Write.{Ghosts as Writes}
use Rattle.cose_gate_program.specs.Lines.{line_of, lines_of}
use Rattle.cose_gate_program.specs.Writing.{Wrote}
use Rattle.cose_gate_program.specs.declared.telling.Notice.{Notice}
use Rattle.cose_gate_program.specs.declared.telling.Notice.TheVariants as notice
use Rattle.cose_gate_command.specs.Asking.{item_lines}

-- the line of a notice waits if it tells of no item
abbrev pub waits : Notice → Option Notice
waits (notice.Item e) = None
waits (notice.Counts c) = Some (notice.Counts c)
waits (notice.Stopped f) = Some (notice.Stopped f)
waits (notice.NotBegun why) = Some (notice.NotBegun why)

-- lines on a writer that is lent, as is the place of the one that waits: what the writer was at
-- first, what was said since, and what waits
pub record Waiting (W : Type 0) : Type 0 where
  pub name : ℕ
  pub place : ℕ
  pub begun : List W
  pub said : List Notice
  pub last : Option Notice

abbrev pub waits_by : {W : Type 0} → Waiting W → Notice → Option Notice → Waiting W
waits_by s notice None = record s { said = s.said ++ notice ∷ [] }
waits_by s notice (Some last) = record s { last = Some last }

-- the same after one more notice
abbrev pub waits_after : {W : Type 0} → Waiting W → Notice → Waiting W
waits_after s notice = waits_by s notice (waits notice)

-- the line that waited, if it is written
abbrev pub last_line : Bool → Option Notice → List ℕ
last_line true (Some last) = line_of last
last_line true None = []
last_line false last = []

-- the lines of all but the last of these notices, those of the items, were written, and the last
-- waits
abbrev pub HoldsLast : {W F : Type 0} → Writes W F → W → W → Option Notice → List Notice → Type 0
HoldsLast w old new last notices = (done : List Notice) × (next : Notice)
    × (notices ≡ done ++ next ∷ []) × (last ≡ Some next) × (lines_of done ≡ item_lines notices)
    × Wrote w old new (lines_of done)
