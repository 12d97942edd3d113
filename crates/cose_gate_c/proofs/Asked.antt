-- What the clauses of the judge that keeps a question say of a message in memory.
use Rattle.std.proofs.Common.{◌≡◌, ℕ, List, length, Some, Bool, inl, inr, ap, subst, ◌∙◌, false}
use Rattle.std.specs.Prelude.{◌⊎◌}
use Rattle.coset_labels.specs.Limits.{AreLimits}
use Rattle.cose_gate.specs.Findings.{Bounds, within}
use Rattle.cose_gate.specs.Questions.{Question}
use Rattle.cose_gate.specs.Opening.{BeginsMessage}
use Rattle.cose_gate.specs.StreamFaults.{refused}
use Rattle.cose_gate_c.proofs.Covered.{covered_ends}
use Rattle.cose_gate_c.proofs.Streamed.{WasRead, in_front}
use Rattle.cose_gate_c.specs.Keeping.{Told, gist_of, nothing_told, told_with, WritesRecord, WritesIfKept}
use Rattle.cose_gate_c.specs.StreamAsking.{TellsFront, IsUnasked, StreamAsks, ran}
use Rattle.cose_gate.specs.declared.checking.Place.{Place}
use Rattle.cose_gate_c.specs.declared.stream_asking.StreamQuestion.{StreamQuestion}

-- memory ran out after the message was read
pub forgets : (limits : Bounds) (aad input old new : List ℕ) (a : StreamQuestion) → BeginsMessage input → new ≡ old → IsUnasked 4 7 a → TellsFront limits aad input old new a
forgets limits aad input old new a b same u = record {
  ended = inr (same, record { why = refused; shown = b; said = u });
  stated = λ t front rest message size e reads judged single stated. inr u.fault_is;
}

module _ (limits : Bounds) (allows : Question → Bool) (aad input old new : List ℕ) (told told' : Told) (yes : Bool) (at : ℕ) (place : Place) (size : ℕ) (a : StreamQuestion)
    (t : WasRead limits allows told_with aad input told told' yes at place) (b : BeginsMessage input) (sizes : size ≡ at) where
  shown : WritesRecord t.asked.question t.payload place size old new a ⊎ ((new ≡ old) × IsUnasked 4 7 a) → TellsFront limits aad input old new a
  unfolding in_front
  shown (inl s) = record {
    ended = inl (record {
      found = in_front limits allows told_with aad input told told' yes at place a.length a.payload a.payload_length t (s.length_is ∙ sizes) s.payload_is s.payload_length_is;
      written = s.written;
    });
    stated = λ t front rest message size e reads judged single stated. inl s.written.fault_is;
  }
  shown (inr u) = forgets limits aad input old new a b u.0 u.1

  pub asks : told ≡ nothing_told (length old) → WritesIfKept told'.gist place size old new a → TellsFront limits aad input old new a
  asks untold shows =
      let kept : told'.gist ≡ Some (gist_of (length old) t.asked.question) =
      ap (λ (z : Told). z.gist) t.tells ∙ ap (λ (z : Told). Some (gist_of z.room t.asked.question)) untold in
      let h = covered_ends t.asked.message aad t.asked.question t.payload t.asked.single t.asked.asked t.is_payload in
      shown (shows t.asked.question h.0 t.payload kept h.1 t.lies.size_is)

-- the limits are those that the caller chose
pub ran_within : (nesting layers n k : ℕ) (aad input old new : List ℕ) (a : StreamQuestion) → AreLimits nesting layers × (n ≡ nesting) × (k ≡ layers)
    → TellsFront (within n k false) aad input old new a → StreamAsks nesting layers aad input old new a
ran_within nesting layers n k aad input old new a chosen c =
    let levels = subst (λ (z : ℕ). TellsFront (within z k false) aad input old new a) chosen.1 c in
    ran chosen.0 (subst (λ (z : ℕ). TellsFront (within nesting z false) aad input old new a) chosen.2 levels)
