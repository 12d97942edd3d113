-- What is written of an item in tags that only say what it is.
use Rattle.std.specs.Prelude.{◌≡◌, List, ℕ, Bool, true, false}
use Rattle.cose_rules.specs.Untagging.{Unwraps}

-- what is written of an item `b`: all of it, or what is in such tags if they are taken off
abbrev pub Content : Bool → (b inner : List ℕ) → Type 0
Content false b inner = inner ≡ b
Content true b inner = Unwraps b inner
