-- What the code has of the questions about an item.
use Rattle.std.specs.Global.{Vec}
use Rattle.std.specs.Prelude.{◌≡◌, ℕ, List, ◌++◌, map, flat_map, Option, option_map, Result, Ok, Err}
use Rattle.std.specs.Coded.{×_prop, Coded-set, coded_list, coded_option, coded_ℕ}
use Rattle.ciborium_ll.specs.declared.log.Log.{Log}
use Rattle.cose_rules.specs.declared.deciding.Refusal.{Refusal as Unasked}
use Rattle.cose_gate_records.specs.Framing.{framed}
use Rattle.cose_ruled.specs.Blocks.{Part, shown, refused, part_by, first_covered, base_of, question_text, why_text}
use Rattle.cose_ruled.specs.declared.told.Question.{Question}
use Rattle.cose_ruled.specs.declared.told.Told.{Told}
use Rattle.cose_ruled.specs.declared.told.Told.TheVariants.{Shown, Refused}

-- what is told of a question, in its log
abbrev pub part_in : Told → Part
part_in (Shown about covered signed) = shown about.items covered.items signed.items
part_in (Refused why) = refused why

abbrev pub parts_in : Log Told → List Part
parts_in log = map part_in log.items

-- what it is about, without where that lies in memory
abbrev pub about_in : Result (Vec ℕ) Unasked → Result (List ℕ) Unasked
about_in (Ok about) = Ok about.items
about_in (Err why) = Err why

-- what a block shows of a question that was asked
abbrev pub part_view : Question → Part
part_view q = part_by (about_in q.about.now) q.covered.now (framed q.signature.now ++ q.digest)

abbrev pub bytes_in : Option (Vec ℕ) → Option (List ℕ)
bytes_in = option_map (λ v. v.items)

-- what a block takes from questions: the covered bytes of the first, why the rules refuse any, and
-- what is written of each
abbrev pub AreKept : Option (List ℕ) → List ℕ → List (List ℕ) → List Part → Type 0
AreKept base why texts ps = (base ≡ first_covered ps) × ((why ≡ flat_map why_text ps)
    × (texts ≡ map (question_text (base_of ps)) ps))

pub AreKept-prop : (base : Option (List ℕ)) (why : List ℕ) (texts : List (List ℕ)) (ps : List Part)
    → IsProp (AreKept base why texts ps)
AreKept-prop base why texts ps = ×_prop (Coded-set (coded_option (coded_list coded_ℕ)) _ _)
    (×_prop (Coded-set (coded_list coded_ℕ) _ _) (Coded-set (coded_list (coded_list coded_ℕ)) _ _))
