-- The registry that a list gives.
use Rattle.std.specs.Prelude.{◌≡◌, ℤ, true, ◌&&◌, List}
use denote.Enum.Declared.{Record, declared, tag_of}
use denote.Enum.Bare.{Bare}
use Rattle.cose_iana.specs.Registry.{has_number, entry_of, number_at, rise, are_entries, Registry}
use Rattle.cose_iana.specs.Facts.{there, back}

-- The list has each entry of the enum once, in their order, and its numbers rise. So the number of
-- an entry is the one at its place, which computes at each entry.
abbrev pub registry : (N : Record) → Bare N.parts → (rows : List (N.D × ℤ)) → are_entries (declared N) 0 rows && rise rows ≡ true → Registry N.D
registry N bare rows whole = record {
  number = λ x. number_at rows (tag_of (declared N) x);
  is_registered = has_number rows;
  entry = entry_of rows;
  there_and_back = there N bare rows whole;
  back_and_there = back N bare rows whole;
}
