-- What the streaming check says of the input, as the end of the run says it.
use Rattle.std.proofs.Common.{◌≡◌, ℕ, ◌+◌, ◌≤◌, List, [], ◌++◌, length, Option, None, Some, Bool, true, false, Result, Ok, Err, zero-add, append-nil, length-append, arith, refl, sym, ap, subst, ◌∙◌}
use Rattle.std.specs.Prelude.{is_err, IsTrue, if◌then◌else◌}
use Rattle.std.specs.Io.KnownBytes.{Appends, Consumes, Keeps}
use Rattle.std.proofs.KnownBytes.{Appends-kept}
use Rattle.std.proofs.lemmas.Bool.{true≢false}
use Rattle.ciborium_ll.specs.Reading.{Moves, due}
use Rattle.ciborium_ll.specs.declared.hdr.Header.{Header}
use Rattle.ciborium_ll.specs.declared.write.Write.{Ghosts as Writing}
use Rattle.cose_gate.specs.Findings.{usual, within}
use Rattle.cose_gate.specs.ReadError.TheVariants as de
use Rattle.cose_gate.specs.GateFault.TheVariants as gating
use Rattle.coset_labels.specs.Limits.{nesting, layers}
use Rattle.cose_gate.specs.Questions.{Question}
use Rattle.cose_gate.specs.Reading.{IfKnown}
use Rattle.cose_gate.specs.StreamFaults.{Why, damaged, untagged, tagged, shape, without_payload, without_length, TellsFault, IsLongFor}
use Rattle.cose_gate.specs.Streaming.{CopiedBy, CopiedPart, UnstreamedBy, WritesAll}
use Rattle.cose_gate.specs.Faults.{fault_of}
use Rattle.cose_gate.specs.declared.fault.StreamFault.{StreamFault}
use Rattle.cose_gate.specs.declared.fault.StreamFault.TheVariants as fault
use Rattle.cose_gate.proofs.Faults.{Names}
use Rattle.cose_gate_program.specs.Faults.{is_end}
use Rattle.ciborium.specs.declared.de.Error.{Error}
use Rattle.cose_gate.specs.Damage.{end}
use Rattle.cose_stream.specs.Streams.{StreamEnds, IsAnsweredMessage, IsNoEnd, error_of, input_fault, stopped_by}
use Rattle.cose_stream.specs.declared.stop.StreamStop.{StreamStop}
use Rattle.cose_stream.specs.declared.stop.StreamStop.TheVariants as stop

known_as : (l : Option (List ℕ)) (P Q : List ℕ → Type 0) → ((b : List ℕ) → P b → Q b) → IfKnown l P → IfKnown l Q
known_as None P Q f k = tt
known_as (Some b) P Q f k = f b k

-- a fault, without what it holds, tells the same
ends_so : (D : Type 0) (ended : Bool) → (IsTrue ended → D) → IsTrue (is_end (input_fault ended)) → D
ends_so D true f t = f t
ends_so D false f t = absurd (true≢false (sym t))

told_small : {E : Type 0} (ends : E → Bool) (D : Why → Type 0) (long : Type 0) (e : Error E) → TellsFault ends D long (fault.Decode e) → TellsFault is_end D long (fault.Decode (error_of ends e))
told_small ends D long (de.Io x) t = ends_so (D (damaged end)) (ends x) t
told_small ends D long (de.Syntax p) t = t
told_small ends D long (de.Semantic p k) t = t
told_small ends D long de.RecursionLimitExceeded t = t
told_small ends D long de.Memory t = t
told_small ends D long de.TooLong t = t

-- within the limits if none are chosen, of the whole input
pub part_usually : {W F : Type 0} (w : Writing W F) (out out' : W) (levels layers' : ℕ) (from l : Option (List ℕ)) → levels ≡ nesting → layers' ≡ layers → from ≡ l
    → CopiedPart (within levels layers' false) w out out' from → CopiedPart usual w out out' l
part_usually w out out' levels layers' from l n y is c =
    subst (λ (z : Option (List ℕ)). CopiedPart usual w out out' z) is
    (subst (λ (z : ℕ). CopiedPart (within nesting z false) w out out' from) y (subst (λ (z : ℕ). CopiedPart (within z layers' false) w out out' from) n c))

module _ {W F : Type 0} (allows : Question → Bool) (aad : List ℕ) (w : Writing W F) (out out' : W) where
  stops_at : {E : Type 0} (ends : E → Bool) (l : Option (List ℕ)) (f : StreamFault E) → CopiedPart usual w out out' l → IfKnown l (λ b. TellsFault ends (UnstreamedBy usual (0 + length b) b) (IsLongFor 4096 0 b) f)
      → StreamEnds allows aad l w out out' (Err (stopped_by ends f))
  stops_at ends l (fault.Decode e) p k = (
    known_as l _ _ (λ b t. subst (λ (n : ℕ). TellsFault is_end (UnstreamedBy usual n b) (IsLongFor 4096 0 b) (fault.Decode (error_of ends e))) (zero-add (length b)) (told_small ends (UnstreamedBy usual (0 + length b) b) (IsLongFor 4096 0 b) e t)) k,
    p,
  )
  stops_at ends l fault.NotTagged p k = (known_as l _ _ (λ b t. (untagged, refl, subst (λ (n : ℕ). UnstreamedBy usual n b untagged) (zero-add (length b)) t)) k, p, tt)
  stops_at ends l (fault.OtherTag n) p k = (known_as l _ _ (λ b t. (tagged n, (n, refl), subst (λ (m : ℕ). UnstreamedBy usual m b (tagged n)) (zero-add (length b)) t)) k, p, tt)
  stops_at ends l (fault.Shape e) p k = (known_as l _ _ (λ b t. (shape (fault_of e), (fault_of e, refl), subst (λ (n : ℕ). UnstreamedBy usual n b (shape (fault_of e))) (zero-add (length b)) t)) k, p, tt)
  stops_at ends l fault.Detached p k = (known_as l _ _ (λ b t. (without_payload, refl, subst (λ (n : ℕ). UnstreamedBy usual n b without_payload) (zero-add (length b)) t)) k, p, tt)
  stops_at ends l fault.Unsized p k = (known_as l _ _ (λ b t. (without_length, refl, subst (λ (n : ℕ). UnstreamedBy usual n b without_length) (zero-add (length b)) t)) k, p, tt)
  stops_at ends l fault.Memory p k = p

  pub stops : {E : Type 0} (ends : E → Bool) (levels layers' : ℕ) (from l : Option (List ℕ)) (o : ℕ) (f : StreamFault E) → levels ≡ nesting → layers' ≡ layers → from ≡ l → o ≡ 0
      → Names ends (UnstreamedBy (within levels layers' false)) 4096 from o f → CopiedPart (within levels layers' false) w out out' from → StreamEnds allows aad l w out out' (Err (stopped_by ends f))
  stops ends levels layers' from l o f n y is start by part =
      let usually = subst (λ (z : ℕ). Names ends (UnstreamedBy (within nesting z false)) 4096 from o f) y (subst (λ (z : ℕ). Names ends (UnstreamedBy (within z layers' false)) 4096 from o f) n by) in
      let whole = subst (λ (z : Option (List ℕ)). Names ends (UnstreamedBy usual) 4096 z o f) is usually in
      stops_at ends l f (part_usually w out out' levels layers' from l n y is part) (subst (λ (z : ℕ). Names ends (UnstreamedBy usual) 4096 l z f) start whole).1

  -- the input couldn't be read on after a message
  pub reads_no_more : (l : Option (List ℕ)) (at : ℕ) (f : StreamStop) → IfKnown l (λ b. at ≤ length b) → CopiedPart usual w out out' l → IsNoEnd at f → StreamEnds allows aad l w out out' (Err f)
  reads_no_more l at (stop.Stopped (gating.Decode (de.Io e))) k c none = (known_as l _ _ (λ b p. λ ended. absurd (true≢false (sym ended ∙ none))) k, c)
  reads_no_more l at (stop.Stopped (gating.Decode de.TooLong)) k c none = (known_as l _ _ (λ b p. omega (arith, p, none)) k, c)
  reads_no_more l at (stop.Stopped (gating.Decode (de.Syntax p))) k c none = absurd none
  reads_no_more l at (stop.Stopped (gating.Decode (de.Semantic p i))) k c none = absurd none
  reads_no_more l at (stop.Stopped (gating.Decode de.RecursionLimitExceeded)) k c none = absurd none
  reads_no_more l at (stop.Stopped (gating.Decode de.Memory)) k c none = absurd none
  reads_no_more l at (stop.Stopped gating.Write) k c none = absurd none
  reads_no_more l at (stop.Stopped gating.Memory) k c none = absurd none
  reads_no_more l at (stop.NotBegun why) k c none = absurd none
  reads_no_more l at (stop.NoFile why) k c none = absurd none
  reads_no_more l at (stop.Refused why) k c none = absurd none

-- a text that was written, and handed on
pub all_written : {W F : Type 0} (w : Writing W F) (out mid out' : W) (r : Result (Unit {0}) F) (text : List ℕ) → false ≡ is_err r → WritesAll w out mid r text
    → Keeps (w.written mid) (w.written out') → w.failed out' ≡ w.failed mid → (w.failed out' ≡ w.failed out) × Appends (w.written out) (w.written out') text
all_written w out mid out' (Ok u) text e p k n = (n ∙ p.failed, Appends-kept (w.written out) (w.written mid) (w.written out') text p.ok k)
all_written w out mid out' (Err x) text e p k n = absurd (true≢false (sym e))

-- a text that was written
pub not_failed : {W F : Type 0} (w : Writing W F) (out out' : W) (r : Result (Unit {0}) F) (text : List ℕ) → false ≡ is_err r → WritesAll w out out' r text → w.failed out' ≡ w.failed out
not_failed w out out' (Ok u) text e p = p.failed
not_failed w out out' (Err x) text e p = absurd (true≢false (sym e))

-- the writer failed, at the payload or when that was handed on
pub failed_once : {W F : Type 0} (w : Writing W F) (out out' : W) (r : Result (Unit {0}) F) (text : List ℕ) → true ≡ is_err r → WritesAll w out out' r text → w.failed out' ≡ w.failed out + 1
failed_once w out out' (Ok u) text e p = absurd (true≢false e)
failed_once w out out' (Err x) text e p = p.failed

pub failed_then : {W F : Type 0} (w : Writing W F) (out mid out' : W) (r : Result (Unit {0}) F) (text : List ℕ) → false ≡ is_err r → WritesAll w out mid r text → w.failed out' ≡ w.failed mid + 1 → w.failed out' ≡ w.failed out + 1
failed_then w out mid out' (Ok u) text e p n = n ∙ ap (λ (k : ℕ). k + 1) p.failed
failed_then w out mid out' (Err x) text e p n = absurd (true≢false (sym e))

-- what a decoder has to read from a reader that it was just made of
pub from_start : {S : Type 0} (left : S → Option (List ℕ)) (now input : S) (waiting : Option Header) → now ≡ input → waiting ≡ None → due (left now) waiting ≡ left input
from_start left now input waiting e n = ap (λ (z : _). due (left z) waiting) e ∙ ap (due (left input)) n ∙ none_due (left input)
  where
    none_due : (l : Option (List ℕ)) → due l None ≡ l
    none_due None = refl
    none_due (Some b) = refl

-- what is left after these bytes
pub behind : (l l' : Option (List ℕ)) (front : List ℕ) (Q : List ℕ → Type 0) → Consumes l l' front → IfKnown l' Q → IfKnown l (λ b. (rest : List ℕ) × (b ≡ front ++ rest) × Q rest)
behind None l' front Q t q = tt
behind (Some x) None front Q t q = absurd t
behind (Some x) (Some y) front Q t q = (y, t, q)

in_all : (l₀ l₁ : Option (List ℕ)) (o₀ o₁ : ℕ) (P : List ℕ → Type 0) (t : Moves l₀ l₁ o₀ o₁ P) → o₀ ≡ 0 → IfKnown l₀ (λ b. o₁ ≤ length b)
in_all None l₁ o₀ o₁ P t z = tt
in_all (Some x) None o₀ o₁ P t z = absurd t.taken
in_all (Some x) (Some y) o₀ o₁ P t z =
    let all : length x ≡ length t.bytes + length y = ap (λ (b : List ℕ). length b) t.taken ∙ length-append t.bytes y in
    let g : o₁ ≡ o₀ + length t.bytes = t.grown in
    omega (arith, all, g, z)

pub all_known : (l : Option (List ℕ)) → IfKnown l (λ b. Unit {0})
all_known None = tt
all_known (Some b) = tt

pub nothing_more : (l : Option (List ℕ)) (front : List ℕ) → IfKnown l (λ b. (rest : List ℕ) × (b ≡ front ++ rest) × (rest ≡ [])) → IfKnown l (λ b. b ≡ front)
nothing_more l front k = known_as l _ _ (λ b r. r.1 ∙ ap (λ (z : List ℕ). front ++ z) r.2 ∙ append-nil front) k

-- what was taken is a message
pub record Taken (allows : Question → Bool) (aad : List ℕ) (answer : Bool) (C : List ℕ → Type 0) (l l' : Option (List ℕ)) (at : ℕ) : Type 0 where
  pub payload : List ℕ
  pub front : List ℕ
  pub answered : IsAnsweredMessage allows aad answer payload front
  pub copied : C payload
  pub left : Consumes l l' front
  pub within : IfKnown l (λ b. at ≤ length b)

module _ {T : Type 0} (decided : T → Question → T) (told told' : T) (room : ℕ) (lengths : List ℕ) (C : List ℕ → Type 0) (answer : Bool) where
  message : (allows : Question → Bool) (aad : List ℕ) (l l' : Option (List ℕ)) (o at : ℕ) → o ≡ 0 → Moves l l' o at (CopiedBy usual decided allows aad told told' room lengths C answer)
      → Taken allows aad answer C l l' at
  message allows aad l l' o at start t =
      let c = t.has in
      let m = c.checked in
      record {
        payload = c.payload;
        front = t.bytes;
        answered = record { item = m.item; message = m.message; size = m.size; reads = m.reads; is = m.is; single = m.single; stated = m.stated; is_payload = c.is_payload; is_answer = m.answer };
        copied = c.is_copied;
        left = t.taken;
        within = in_all l l' o at _ t start;
      }

  -- within the limits if none are chosen, from the whole input
  pub taken : (levels layers' : ℕ) (allows : Question → Bool) (aad aad' : List ℕ) (from l l' : Option (List ℕ)) (o at : ℕ) → levels ≡ nesting → layers' ≡ layers → aad' ≡ aad → from ≡ l → o ≡ 0
      → Moves from l' o at (CopiedBy (within levels layers' false) decided allows aad' told told' room lengths C answer) → Taken allows aad answer C l l' at
  taken levels layers' allows aad aad' from l l' o at n y d f start t =
      subst (λ (z : Option (List ℕ)). Taken allows aad answer C z l' at) f
      (message allows aad from l' o at start
      (subst (λ (z : List ℕ). Moves from l' o at (CopiedBy usual decided allows z told told' room lengths C answer)) d
      (subst (λ (z : ℕ). Moves from l' o at (CopiedBy (within nesting z false) decided allows aad' told told' room lengths C answer)) y
      (subst (λ (z : ℕ). Moves from l' o at (CopiedBy (within z layers' false) decided allows aad' told told' room lengths C answer)) n t))))
