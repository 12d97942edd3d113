-- What a clause sees of a judge by key ids, and of a tally.
use Rattle.std.specs.Prelude.{ℕ, List, map}
use Rattle.callers.specs.declared.judging.KeyIds.{KeyIds}

-- the ids that it says yes to
abbrev pub known_of : KeyIds → List (List ℕ)
known_of k = map (λ id. id.now) k.known.now

-- the key ids of the messages that it was asked about, in order
abbrev pub asked_of : KeyIds → List (List ℕ)
asked_of k = map (λ id. id.items) k.asked.items
