-- What the clauses of the streaming check and of its judge say of a message in memory.
use Rattle.std.proofs.Common.{◌≡◌, ℕ, ◌+◌, ◌^◌, ◌<◌, inl, inr, List, [], ◌∷◌, ◌++◌, length, Option, None, Some, Bool, true, false, zero-add, append_assoc, refl, sym, ap, subst, ◌∙◌, arith}
use Rattle.std.specs.Prelude.{◌⊎◌, is_none, option_map, if◌then◌else◌, Err}
use Rattle.ciborium_ll.specs.Reading.{Moves}
use Rattle.ciborium_ll.specs.declared.read.End.{End}
use Rattle.coset_labels.specs.Limits.{AreLimits}
use Rattle.coset_labels.specs.Reading.{HasItem}
use Rattle.cose_gate.specs.Asked.{first_no, folded_over}
use Rattle.cose_gate.specs.Damage.{end, deep, syntax, semantic}
use Rattle.cose_gate.specs.Faults.{fault_of}
use Rattle.cose_gate.specs.Findings.{Bounds, IsJudged, within}
use Rattle.cose_gate.specs.Front.{Reads}
use Rattle.cose_gate.specs.HmacJudges.{says_yes}
use Rattle.cose_gate.specs.KeyFields.{KeyFields}
use Rattle.cose_gate.specs.Keys.{HasKeySet}
use Rattle.cose_gate.specs.MacedStructure.{mac0_covered}
use Rattle.cose_gate.specs.Questions.{Question, MessageFields, sign1, mac0, sign, mac, sign1_question, mac0_question, all_questions, questions, payload_of, or_nothing}
use Rattle.cose_gate.specs.ReadError.TheVariants as de
use Rattle.cose_gate.specs.Reading.{IfKnown}
use Rattle.cose_gate.specs.SignedStructure.{sign1_covered}
use Rattle.cose_gate.proofs.Lengths.{stated_whole}
use Rattle.cose_gate.specs.Stated.{IsSingle, Stated, closing, before_payload}
use Rattle.cose_gate.specs.Opening.{BeginsMessage}
use Rattle.cose_gate.specs.StreamFaults.{damaged, untagged, tagged, shape, without_payload, without_length, refused, HoldsNoMemory, TellsFault, IsLongFor}
use Rattle.cose_gate.specs.Streaming.{CheckedBy, CopiedBy, UnstreamedBy, Answered}
use Rattle.cose_gate.specs.Tree.{Tree}
use Rattle.cose_gate.specs.declared.fault.StreamFault.{StreamFault}
use Rattle.cose_gate.specs.declared.fault.StreamFault.TheVariants as fault
use Rattle.cose_gate_c.proofs.Carried.{carried, paid}
use Rattle.cose_gate_c.specs.Places.{Lies}
use Rattle.cose_gate_c.specs.Streaming.{ChecksFront, HasQuestion, IsInFront, IsStopped, IsFoundIfStated, IsUnchecked, StreamChecks, ran, fault_number}
use Rattle.cose_gate.specs.declared.checking.Place.{Place}
use Rattle.cose_gate_c.specs.declared.streaming.StreamAnswer.{StreamAnswer}

-- where the payload is, if a message of a stated length is in front
abbrev pub IsPlace : ℕ → List ℕ → Place → Type 0
IsPlace at b place =
    (front rest : List ℕ) (size : ℕ) (s : Stated front size) → b ≡ front ++ rest → (place.at ≡ at + length (before_payload s)) × (place.length ≡ size)

one_answer : (b : Bool) → is_none (if b then option_map (λ (n : ℕ). n + 1) None else Some 0) ≡ b
one_answer true = refl
one_answer false = refl

only : (qs rs : List Question) → Some qs ≡ Some rs → qs ≡ rs
only qs rs e = cc

module _ (allows : Question → Bool) where
  -- if there are questions, of this form, there is one
  one_asked : (f : List ℕ → Question) (o : Option (List ℕ)) → option_map (λ c. f c ∷ []) o ≡ Some (or_nothing (option_map (λ c. f c ∷ []) o))
      → (q : Question) × (option_map (λ c. f c ∷ []) o ≡ Some (q ∷ [])) × (is_none (first_no allows (or_nothing (option_map (λ c. f c ∷ []) o))) ≡ allows q)
  one_asked f None e = let h : None ≡ Some [] = e in cc
  one_asked f (Some c) e = (f c, refl, one_answer (allows (f c)))

  asked_once : (m : MessageFields) (aad : List ℕ) → IsSingle m → all_questions m aad ≡ Some (questions m aad)
      → (q : Question) × (all_questions m aad ≡ Some (q ∷ [])) × (is_none (first_no allows (questions m aad)) ≡ allows q)
  asked_once (sign1 m) aad s e = one_asked (sign1_question m) (sign1_covered m aad) e
  asked_once (mac0 m) aad s e = one_asked (mac0_question m) (mac0_covered m aad) e
  asked_once (sign m) aad s e = absurd s
  asked_once (mac m) aad s e = absurd s

-- what was taken is the message, the place after it is its length, and its payload is in this place
pub record WasRead {T : Type 0} (limits : Bounds) (allows : Question → Bool) (decided : T → Question → T) (aad input : List ℕ) (told told' : T) (yes : Bool) (at : ℕ)
    (place : Place) : Type 0 where
  pub front : List ℕ
  pub rest : List ℕ
  pub whole : input ≡ front ++ rest
  pub asked : HasQuestion limits aad front
  pub payload : List ℕ
  pub is_payload : payload_of asked.message ≡ Some payload
  pub lies : Lies payload place.at place.length front
  pub size_is : at ≡ length front
  pub answer : yes ≡ allows asked.question
  pub tells : told' ≡ decided told asked.question

module _ {T : Type 0} (limits : Bounds) (allows : Question → Bool) (decided : T → Question → T) (aad input : List ℕ) (told told' : T) (room : ℕ)
    (lengths : List ℕ) (yes : Bool)
    (law : (t : Tree) (m : MessageFields) (aad : List ℕ) → IsJudged limits t m → all_questions m aad ≡ Some (questions m aad)) where
  asked_of : (b : List ℕ) → CheckedBy limits decided allows aad told told' room lengths yes b
      → (a : HasQuestion limits aad b) × (yes ≡ allows a.question) × (told' ≡ decided told a.question)
  asked_of b c =
      let all = law c.item c.message aad c.is in
      let q = asked_once allows c.message aad c.single all in
      let one : questions c.message aad ≡ q.0 ∷ [] = only _ _ (sym all ∙ q.1) in (
        record { item = c.item; message = c.message; size = c.size; question = q.0; reads = c.reads; is = c.is; single = c.single; stated = c.stated; asked = q.1 },
        c.answer ∙ q.2,
        c.tells ∙ ap (folded_over decided told) one,
      )

  taken_of : (left' : Option (List ℕ)) (at : ℕ) (place : Place) → Moves (Some input) left' 0 at (CheckedBy limits decided allows aad told told' room lengths yes)
      → IsPlace 0 input place → WasRead limits allows decided aad input told told' yes at place
  unfolding asked_of
  taken_of None at place m is = absurd m.taken
  taken_of (Some rest) at place m is =
      let s = m.has.stated in
      let p = is m.bytes rest m.has.size s m.taken in
      let items = carried m.bytes m.has.size s limits.nesting m.has.item m.has.reads in
      let a = asked_of m.bytes m.has in
      record {
        front = m.bytes;
        rest = rest;
        whole = m.taken;
        asked = a.0;
        payload = s.payload;
        is_payload = paid limits m.has.item m.has.message s.number items.0 items.1 items.2 s.payload m.has.is m.has.single items.3;
        lies = record {
          before = before_payload s;
          after = s.last ++ closing s.count;
          whole = s.whole ∙ simp append_assoc;
          at_is = p.0 ∙ zero-add (length (before_payload s));
          size_is = p.1 ∙ sym s.is_payload;
        };
        size_is = m.grown ∙ zero-add (length m.bytes);
        answer = a.1;
        tells = a.2;
      }

  -- such a message begins with its tag and an array of four
  begun : (left' : Option (List ℕ)) (at : ℕ) → Moves (Some input) left' 0 at (CheckedBy limits decided allows aad told told' room lengths yes) → BeginsMessage input
  begun None at m = absurd m.taken
  begun (Some rest) at m =
      let s = m.has.stated in
      let items : List ℕ = s.headers ++ (s.length_title ++ ((s.payload ++ (s.last ++ closing s.count)) ++ rest)) in
      record {
        number = s.number;
        inside = s.array_title ++ items;
        count = s.count;
        items = items;
        is_single = s.is_single;
        tag_first = record { title = s.tag_title; is_title = s.is_tag; whole = stated_whole input m.bytes rest m.has.size s m.taken };
        array_next = record { title = s.array_title; is_title = s.is_array; whole = refl };
        is_four = s.is_four;
      }

-- as above, from a decoder of which all is known
module _ {T : Type 0} (limits : Bounds) (allows allows' : Question → Bool) (decided : T → Question → T) (aad input : List ℕ) (told told' : T) (room : ℕ)
    (lengths : List ℕ) (left left' : Option (List ℕ)) (at at' : ℕ) (yes : Bool)
    (law : (t : Tree) (m : MessageFields) (aad : List ℕ) → IsJudged limits t m → all_questions m aad ≡ Some (questions m aad)) where
  here : {C : List ℕ → Type 0} → left ≡ Some input → at ≡ 0 → allows' ≡ allows → Moves left left' at at' (CopiedBy limits decided allows' aad told told' room lengths C yes)
      → Moves (Some input) left' 0 at' (CheckedBy limits decided allows aad told told' room lengths yes)
  here is start same m =
      let checked : Moves left left' at at' (CheckedBy limits decided allows' aad told told' room lengths yes) = record { bytes = m.bytes; has = m.has.checked; taken = m.taken; grown = m.grown } in
      let known = subst (λ (l : Option (List ℕ)). Moves l left' at at' (CheckedBy limits decided allows' aad told told' room lengths yes)) is checked in
      let from = subst (λ (n : ℕ). Moves (Some input) left' n at' (CheckedBy limits decided allows' aad told told' room lengths yes)) start known in
      subst (λ (f : Question → Bool). Moves (Some input) left' 0 at' (CheckedBy limits decided f aad told told' room lengths yes)) same from

  pub takes : {C : List ℕ → Type 0} → left ≡ Some input → at ≡ 0 → allows' ≡ allows → Moves left left' at at' (CopiedBy limits decided allows' aad told told' room lengths C yes)
      → (place : Place) → IfKnown left (λ b. IsPlace at b place) → WasRead limits allows decided aad input told told' yes at' place
  takes is start same m place there =
      let known = subst (λ (l : Option (List ℕ)). IfKnown l (λ b. IsPlace at b place)) is there in
      taken_of limits allows decided aad input told told' room lengths yes law left' at' place (here is start same m) (subst (λ (n : ℕ). IsPlace n input place) start known)

  -- memory ran out after the message was read
  pub begins : {C : List ℕ → Type 0} → left ≡ Some input → at ≡ 0 → allows' ≡ allows → Moves left left' at at' (CopiedBy limits decided allows' aad told told' room lengths C yes) → BeginsMessage input
  begins is start same m = begun limits allows decided aad input told told' room lengths yes law left' at' (here is start same m)

-- how the call says where all is
module _ {T : Type 0} (limits : Bounds) (allows : Question → Bool) (decided : T → Question → T) (aad input : List ℕ) (told told' : T) (yes : Bool) (at : ℕ) (place : Place) where
  unfoldable pub in_front : (size begin count : ℕ) → WasRead limits allows decided aad input told told' yes at place → size ≡ at → begin ≡ place.at → count ≡ place.length
      → IsInFront limits aad input size begin count
  in_front size begin count t sized begun_at counted = record {
    front = t.front;
    rest = t.rest;
    whole = t.whole;
    asked = t.asked;
    payload = t.payload;
    is_payload = t.is_payload;
    lies = record { before = t.lies.before; after = t.lies.after; whole = t.lies.whole; at_is = begun_at ∙ t.lies.at_is; size_is = counted ∙ t.lies.size_is };
    size_is = sized ∙ t.size_is;
  }

  pub checks : (a : StreamAnswer) → WasRead limits allows decided aad input told told' yes at place → a.status ≡ (if yes then 0 else 1) → a.fault ≡ 0 → a.length ≡ at
      → a.payload ≡ place.at → a.payload_length ≡ place.length → ChecksFront limits allows aad input a
  unfolding in_front
  checks a t status fault len begin size = record {
    ended = inl (record {
      found = in_front a.length a.payload a.payload_length t len begin size;
      status_is = status ∙ ap (λ (b : Bool). if◌then◌else◌ {A = ℕ} b 0 1) t.answer;
      fault_is = fault;
    });
    stated = λ t front rest message size e reads judged single stated. inl fault;
  }

-- a fault says why the message was not read; an input in memory is never too long
module _ (limits : Bounds) (input : List ℕ) (fits : length input < 2 ^ 63) (IsSaid : ℕ → Type 0) (number : ℕ) where
  stopped : (f : StreamFault End) → TellsFault (λ e. true) (UnstreamedBy limits (length input) input) (IsLongFor 4096 0 input) f → IsSaid (fault_number f)
      → IsStopped limits input IsSaid
  stopped (fault.Decode (de.Io e)) t u = record { why = damaged end; shown = t refl; said = u }
  stopped (fault.Decode (de.Syntax p)) t u = record { why = damaged (syntax p); shown = t; said = u }
  stopped (fault.Decode (de.Semantic o k)) t u = record { why = damaged (semantic k); shown = t.1; said = u }
  stopped (fault.Decode de.RecursionLimitExceeded) t u = record { why = damaged deep; shown = t; said = u }
  stopped (fault.Decode de.Memory) t u = absurd t
  stopped (fault.Decode de.TooLong) t u = absurd (let h : ⊥ = omega (arith, t, fits) in h)
  stopped fault.NotTagged t u = record { why = untagged; shown = t; said = u }
  stopped (fault.OtherTag n) t u = record { why = tagged n; shown = t; said = u }
  stopped (fault.Shape e) t u = record { why = shape (fault_of e); shown = t; said = u }
  stopped fault.Detached t u = record { why = without_payload; shown = t; said = u }
  stopped fault.Unsized t u = record { why = without_length; shown = t; said = u }
  stopped fault.Memory t u = record { why = refused; shown = t; said = u }

  if_stated : (f : StreamFault End) → Answered (λ e. true) (IsLongFor 4096 0 input) (Err f) → number ≡ fault_number f → (number ≡ 0) ⊎ (number ≡ 7)
  if_stated (fault.Decode (de.Io e)) t u = absurd (t refl)
  if_stated (fault.Decode (de.Syntax p)) t u = absurd t
  if_stated (fault.Decode (de.Semantic o k)) t u = absurd t
  if_stated (fault.Decode de.RecursionLimitExceeded) t u = absurd t
  if_stated (fault.Decode de.Memory) t u = absurd t
  if_stated (fault.Decode de.TooLong) t u = absurd (let h : ⊥ = omega (arith, t, fits) in h)
  if_stated fault.NotTagged t u = absurd t
  if_stated (fault.OtherTag n) t u = absurd t
  if_stated (fault.Shape e) t u = absurd t
  if_stated fault.Detached t u = absurd t
  if_stated fault.Unsized t u = absurd t
  if_stated fault.Memory t u = inr u

  module _ (f : StreamFault End) (left : Option (List ℕ)) (at : ℕ) where
    pub stops : left ≡ Some input → at ≡ 0
        → HoldsNoMemory f × IfKnown left (λ b. TellsFault (λ e. true) (UnstreamedBy limits (at + length b) b) (IsLongFor 4096 at b) f)
        → IfKnown left (λ b. (t : Tree) (front rest : List ℕ) (m : MessageFields) (size : ℕ) → b ≡ front ++ rest → Reads front limits.nesting t
        → IsJudged limits t m → IsSingle m → Stated front size → Answered (λ e. true) (IsLongFor 4096 at b) (Err f))
        → IsSaid (fault_number f) → number ≡ fault_number f → IsStopped limits input IsSaid × IsFoundIfStated limits input number
    stops is start why exactly says numbered =
        let here = subst (λ (l : Option (List ℕ)). IfKnown l (λ b. TellsFault (λ e. true) (UnstreamedBy limits (at + length b) b) (IsLongFor 4096 at b) f)) is why.1 in
        let from = subst (λ (n : ℕ). TellsFault (λ e. true) (UnstreamedBy limits (n + length input) input) (IsLongFor 4096 n input) f) start here in
        let tells = subst (λ (n : ℕ). TellsFault (λ e. true) (UnstreamedBy limits n input) (IsLongFor 4096 0 input) f) (zero-add (length input)) from in
        let due = subst (λ (l : Option (List ℕ)). IfKnown l (λ b. (t : Tree) (front rest : List ℕ) (m : MessageFields) (size : ℕ) → b ≡ front ++ rest
        → Reads front limits.nesting t → IsJudged limits t m → IsSingle m → Stated front size → Answered (λ e. true) (IsLongFor 4096 at b) (Err f))) is exactly in (
          stopped f tells says,
          λ t front rest m size e reads judged single stated. if_stated f
              (subst (λ (n : ℕ). Answered (λ e. true) (IsLongFor 4096 n input) (Err f)) start (due t front rest m size e reads judged single stated)) numbered,
        )

-- the limits are those that the caller chose
module _ (nesting layers n k : ℕ) (keys aad input : List ℕ) (ks : List KeyFields) (a : StreamAnswer) where
  pub ran_within : AreLimits nesting layers × (n ≡ nesting) × (k ≡ layers) → HasItem HasKeySet keys ks → ChecksFront (within n k false) (says_yes ks) aad input a
      → StreamChecks nesting layers keys aad input a
  ran_within chosen has c =
      let levels = subst (λ (z : ℕ). ChecksFront (within z k false) (says_yes ks) aad input a) chosen.1 c in
      ran ks chosen.0 has (subst (λ (z : ℕ). ChecksFront (within nesting z false) (says_yes ks) aad input a) chosen.2 levels)
