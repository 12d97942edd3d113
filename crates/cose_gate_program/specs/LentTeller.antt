-- What a report that hands items on keeps.
use Rattle.std.specs.Prelude.{ℕ}

-- a teller that is lent, and what it keeps
pub record LentTeller (S : Type 0) : Type 0 where
  pub name : ℕ
  pub state : S
