-- What the calls return, from what a run does.
use Rattle.std.proofs.Common.{◌≡◌, ℕ, ◌<◌, ◌++◌, inl, inr, List, [], length, flat_map, Option, Some, Bool, ap, subst, ◌∙◌, arith}
use Rattle.coset_labels.specs.Limits.{AreLimits, nesting_of, layers_of}
use Rattle.coset_labels.specs.declared.limits.Limits.{Limits}
use Rattle.cose_gate_core.specs.Findings.{Bounds, within}
use Rattle.cose_gate_core.specs.Terms.{limits_by}
use Rattle.cose_gate_core.specs.Questions.{Question}
use Rattle.coset_keys.specs.Fields.{KeyFields}
use Rattle.cose_gate_program.specs.Program.{Devices}
use Rattle.cose_gate_program.specs.Telling.{RanTold, EndsTold}
use Rattle.cose_gate_program.specs.declared.telling.Notice.{Notice}
use Rattle.cose_gate_records.specs.Framing.{framed}
use Rattle.cose_gate_records.specs.Records.{is_among}
use Rattle.cose_gate_records.specs.Calls.{devices, RanBy, PassTold, Places, Buffers, Answers}
use Rattle.cose_gate_records.specs.declared.answer.Answer.{Answer}

-- input and output by their parts
abbrev parts : Option (List ℕ) → List ℕ → ℕ → Devices
parts left written failures = record { left = left; written = Some written; read_failures = 0; write_failures = failures }

same_parts : (left : Option (List ℕ)) (w w' : List ℕ) (f : ℕ) → w ≡ w' → f ≡ 0 → parts left w f ≡ devices left (Some w')
same_parts left w w' f e h = ap (λ (z : List ℕ). parts left z f) e ∙ ap (λ (n : ℕ). parts left w' n) h

-- the output was empty before
begun : (P : Devices → Type 0) (left : Option (List ℕ)) (first : List ℕ) (f : ℕ) → first ≡ [] → f ≡ 0 → P (parts left first f) → P (devices left (Some []))
begun P left first f empty none p = subst P (same_parts left first [] f empty none) p

pub ends_begun : {limits : Bounds} {allows : List KeyFields → Question → Bool} {keys aad input : Option (List ℕ)} {first : List ℕ} {f : ℕ} {new : Devices} {status : ℕ} {Told : List Notice → Type 0}
    → first ≡ [] → f ≡ 0 → EndsTold limits allows keys aad (parts input first f) new status Told → EndsTold limits allows keys aad (devices input (Some [])) new status Told
ends_begun {limits} {allows} {keys} {aad} {input} {first} {f} {new} {status} {Told} empty none e =
    begun (λ d. EndsTold limits allows keys aad d new status Told) input first f empty none e

-- and it didn't fail
pub ends_in_memory : {limits : Bounds} {allows : List KeyFields → Question → Bool} {keys aad input left : Option (List ℕ)} {first written text : List ℕ} {f f' status : ℕ} {Told : List Notice → Type 0}
    → first ≡ [] → f ≡ 0 → written ≡ text → f' ≡ 0 → EndsTold limits allows keys aad (parts input first f) (parts left written f') status Told
    → EndsTold limits allows keys aad (devices input (Some [])) (devices left (Some text)) status Told
ends_in_memory {limits} {allows} {keys} {aad} {input} {left} {first} {written} {text} {f} {f'} {status} {Told} empty none same well e =
    subst (λ (d : Devices). EndsTold limits allows keys aad (devices input (Some [])) d status Told) (same_parts left written text f' same well) (ends_begun empty none e)

pub ran_in_memory : {limits : Bounds} {allows : Question → Bool} {aad : List ℕ} {input left : Option (List ℕ)} {first written text : List ℕ} {f f' status : ℕ} {Asked : List Question → Type 0} {Told : List Notice → Type 0}
    → first ≡ [] → f ≡ 0 → written ≡ text → f' ≡ 0 → RanTold limits allows aad (parts input first f) (parts left written f') status Asked Told
    → RanTold limits allows aad (devices input (Some [])) (devices left (Some text)) status Asked Told
ran_in_memory {limits} {allows} {aad} {input} {left} {first} {written} {text} {f} {f'} {status} {Asked} {Told} empty none same well r =
    subst (λ (d : Devices). RanTold limits allows aad (devices input (Some [])) d status Asked Told) (same_parts left written text f' same well)
    (begun (λ d. RanTold limits allows aad d (parts left written f') status Asked Told) input first f empty none r)

-- the limits that were chosen
pub chosen : (l : Limits) (nesting layers : ℕ) (strict : Bool) → nesting_of l ≡ nesting → layers_of l ≡ layers
    → limits_by l strict ≡ within nesting layers strict
chosen l nesting layers strict n k = ap (λ (x : ℕ). within x (layers_of l) strict) n ∙ ap (λ (x : ℕ). within nesting x strict) k

pub answers : (l : Bounds) (nesting layers : ℕ) (strict : Bool) (IsText : Bounds → List ℕ → ℕ → Type 0) (old new : Buffers) (answer : Answer)
    → AreLimits nesting layers × (l ≡ within nesting layers strict)
    → ((written : List ℕ) × (status : ℕ) × IsText l written status × Places written status old.out new.out answer)
    → Answers nesting layers (IsText (within nesting layers strict)) old new answer
answers l nesting layers strict IsText old new answer are w =
    inl (are.0, (w.0, w.1, subst (λ (o : Bounds). IsText o w.0 w.1) are.1 w.2, w.3))

none_below : (n : ℕ) → n < 0 → ⊥
none_below n few = omega (arith, few)

-- nothing is placed
pub places_none : (status : ℕ) (old new : List ℕ) (answer : Answer) → answer.length ≡ 0 → answer.status ≡ status → new ≡ old → Places [] status old new answer
places_none status old new answer l s e = record {
  length_is = l;
  fits = λ _. (s, e);
  no_room = λ few. elim (none_below (length old) few) [ ];
}

-- by the keys that were accepted, or it is out of memory
pub passed : (limits : Bounds) (accepted : List ℕ) (keys : List (List ℕ)) (aad input lines : List ℕ) (count : ℕ) (written : List ℕ) (status : ℕ)
    → accepted ≡ flat_map framed keys → RanBy limits (is_among keys) aad input lines count written status
    → PassTold limits accepted aad input lines count written status
passed limits accepted keys aad input lines count written status e r = inl (keys, e, r)
