-- What a tally keeps.
use Rattle.std.specs.Prelude.{ℕ, ◌+◌, ◌-◌, ◌^◌, min}
use Rattle.cose_gate.specs.Entry.{Entry}
use Rattle.cose_gate.specs.Verdict.{Verdict}
use Rattle.cose_gate.specs.Verdict.TheVariants.{Passed, Refused}
use Rattle.callers.specs.declared.tally.Tally.{Tally}

pub record Tallied : Type 0 where
  pub passed : ℕ
  pub refused : ℕ

abbrev pub tally_of : Tally → Tallied
tally_of t = record { passed = t.passed; refused = t.refused }

-- one more, up to the most that is counted
abbrev pub one_more : ℕ → ℕ
one_more n = min (n + 1) (2 ^ 64 - 1)

abbrev pub counted : Tallied → Verdict → Tallied
counted t Passed = record { passed = one_more t.passed; refused = t.refused }
counted t (Refused r) = record { passed = t.passed; refused = one_more t.refused }

-- one more entry
abbrev pub tallied : Tallied → Entry → Tallied
tallied t e = counted t e.verdict
