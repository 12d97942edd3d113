-- Lines in a buffer, which may be too small for them.
use Rattle.std.specs.Prelude.{◌≡◌, ℕ, ◌+◌, ◌-◌, ◌^◌, List, [], ◌∷◌, ◌++◌, length, take, drop, min, codes}
use Rattle.cose_gate_program.specs.Lines.{lines_of}
use Rattle.cose_gate_program.specs.declared.telling.Notice.{Notice}

-- the text is in front of the buffer, as much of it as fits
abbrev pub IsShown : List ℕ → List ℕ → Type 0
IsShown text buffer = take (length text) buffer ≡ take (length buffer) text

-- how long a text is, up to the most that is counted
abbrev pub counted : List ℕ → ℕ
counted text = min (length text) (2 ^ 64 - 1)

-- the buffer with a text from this place on, as much of it as fits
abbrev pub put : List ℕ → ℕ → List ℕ → List ℕ
put buffer place text =
    take place buffer ++ (take (length buffer - place) text ++ drop (place + length text) buffer)

-- the line that says that it is out of memory
abbrev pub stopped : List ℕ
stopped = codes "stopped: memory\n"

-- the line that says that what was accepted is no records
abbrev pub no_records : List ℕ
no_records = codes "accepted: no records\n"

-- and the one that says that it is no digests
abbrev pub no_digests : List ℕ
no_digests = codes "accepted: no digests\n"

-- the lines are this text: as much of it as fits is in front of the buffer, and so long is all of it
abbrev pub AreLines : List ℕ → List ℕ → ℕ → Type 0
AreLines text buffer count = IsShown text buffer × (count ≡ counted text)

-- the lines are those of these notices
abbrev pub AreLinesOf : List ℕ → ℕ → List Notice → Type 0
AreLinesOf buffer count notices = AreLines (lines_of notices) buffer count

-- the same, and the last line begins at `last`
abbrev pub AreLinesWithLast : List ℕ → ℕ → ℕ → List Notice → Type 0
AreLinesWithLast buffer last count notices = AreLinesOf buffer count notices
    × ((done : List Notice) (notice : Notice) → notices ≡ done ++ notice ∷ []
    → last ≡ counted (lines_of done))

-- the lines of all but the last of these notices, and then that it is out of memory
abbrev pub AreLinesThenMemory : List ℕ → ℕ → List Notice → Type 0
AreLinesThenMemory buffer count notices = (done : List Notice) × (last : Notice)
    × (notices ≡ done ++ last ∷ []) × AreLines (lines_of done ++ stopped) buffer count

-- what lines in a buffer that is lent keep: all of their text, and where the last one begins
pub record LineLog : Type 0 where
  pub name : ℕ
  pub text : List ℕ
  pub last : ℕ
