-- What a judge that asks by the rules holds and keeps.
use Rattle.std.specs.Prelude.{◌≡◌, ℕ, List, ◌++◌, map, flat_map, Bool, true, false}
use Rattle.ciborium_ll.specs.declared.log.Log.{Log}
use Rattle.coset_keys.specs.View.{key_view}
use Rattle.cose_gate_core.specs.Questions.{Subject}
use Rattle.cose_gate_records.specs.Kept.{IsHeld as HasHeld, pieces_of as pieces_in}
use Rattle.cose_ruled.specs.Blocks.{Part, AskedSoFar, ItemTerms, about_of}
use Rattle.cose_ruled.specs.Told.{about_in, parts_in}
use Rattle.cose_ruled.specs.declared.asker.RuledAsker.{RuledAsker}
use Rattle.cose_ruled.specs.declared.questions.Questions.{Questions}
use Rattle.cose_ruled.specs.declared.questions.Questions.TheVariants.{Whole, Lost}
use Rattle.cose_ruled.specs.declared.told.Told.{Told}

-- what was told of the questions about an item, also if out of memory for one of them
abbrev pub log_of : Questions → Log Told
log_of (Whole kept) = kept.told
log_of (Lost told) = told

-- whether it is out of memory for one
abbrev pub was_lost : Questions → Bool
was_lost (Whole kept) = false
was_lost (Lost told) = true

-- what was told before the item at hand, and about it
abbrev pub before : RuledAsker → List Part
before j = flat_map parts_in j.before.items

abbrev pub about_item : RuledAsker → List Part
about_item j = parts_in (log_of j.questions)

-- all that was told, and on what its answers depend
abbrev pub asked_by : RuledAsker → AskedSoFar
asked_by j = record { keys = map key_view j.keys.now; told = before j ++ about_item j }

abbrev pub item_of : RuledAsker → ItemTerms
item_of j = record { keys = map key_view j.keys.now; before = before j }

-- a question about this subject is held, with these covered bytes
abbrev pub IsHeld : RuledAsker → Subject → List ℕ → Type 0
IsHeld j subject covered =
    (about_in j.about ≡ about_of (map key_view j.keys.now) subject) × HasHeld j.held subject covered

abbrev pub pieces_of : RuledAsker → List ℕ
pieces_of j = pieces_in j.held
