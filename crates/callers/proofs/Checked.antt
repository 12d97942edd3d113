-- What the result of the streaming check says of one message.
use Rattle.std.proofs.Common.{◌≡◌, ℕ, ◌+◌, ◌*◌, ◌<◌, List, [], ◌∷◌, length, Option, None, Some, Bool, true, false, refl, subst, ◌∙◌}
use Rattle.std.specs.Prelude.{is_none, option_map, if◌then◌else◌, sum, Result, Ok, Err, IfOk}
use Rattle.std.specs.Io.KnownBytes.{Consumes}
use Rattle.ciborium_ll.specs.Reading.{Moves}
use Rattle.coset.specs.KeyFields.{KeyFields}
use Rattle.cose_gate.specs.Asked.{first_no}
use Rattle.cose_gate.specs.Findings.{Bounds, usual, IsJudged}
use Rattle.cose_gate.specs.HmacJudges.{says_yes}
use Rattle.cose_gate.specs.Questions.{Question, MessageFields, sign1, mac0, sign, mac, sign1_question, mac0_question, all_questions, questions, or_nothing}
use Rattle.cose_gate.specs.MacedStructure.{mac0_covered}
use Rattle.cose_gate.specs.SignedStructure.{sign1_covered}
use Rattle.cose_gate.specs.Stated.{IsSingle, Cut}
use Rattle.cose_gate.specs.Streaming.{CheckedBy}
use Rattle.cose_gate.specs.Tree.{Tree}
use Rattle.callers.specs.Checking.{IsAnswered, IsFedInFew}

one_answer : (b : Bool) → is_none (if b then option_map (λ (n : ℕ). n + 1) None else Some 0) ≡ b
one_answer true = refl
one_answer false = refl

module _ (allows : Question → Bool) where
  -- if there are questions, of this form, there is one
  one_asked : (f : List ℕ → Question) (o : Option (List ℕ)) → option_map (λ c. f c ∷ []) o ≡ Some (or_nothing (option_map (λ c. f c ∷ []) o))
      → (q : Question) × (option_map (λ c. f c ∷ []) o ≡ Some (q ∷ [])) × (is_none (first_no allows (or_nothing (option_map (λ c. f c ∷ []) o))) ≡ allows q)
  one_asked f None e = let h : None ≡ Some [] = e in cc
  one_asked f (Some c) e = (f c, refl, one_answer (allows (f c)))

  asked_once : (m : MessageFields) (aad : List ℕ) → IsSingle m → all_questions m aad ≡ Some (questions m aad)
      → (q : Question) × (all_questions m aad ≡ Some (q ∷ [])) × (is_none (first_no allows (questions m aad)) ≡ allows q)
  asked_once (sign1 m) aad s e = one_asked (sign1_question m) (sign1_covered m aad) e
  asked_once (mac0 m) aad s e = one_asked (mac0_question m) (mac0_covered m aad) e
  asked_once (sign m) aad s e = absurd s
  asked_once (mac m) aad s e = absurd s

  module _ {T : Type 0} (decided : T → Question → T) (aad : List ℕ) (told told' : T) (room : ℕ) (lengths : List ℕ) (yes : Bool) where
    pub answered : (b : List ℕ) → ((t : Tree) (m : MessageFields) (aad : List ℕ) → IsJudged usual t m → all_questions m aad ≡ Some (questions m aad))
        → CheckedBy usual decided allows aad told told' room lengths yes b → IsAnswered allows aad yes b
    answered b law c =
        let a = asked_once c.message aad c.single (law c.item c.message aad c.is) in
        record { item = c.item; message = c.message; question = a.0; reads = c.reads; is = c.is; asked = a.1; answer = c.answer ∙ a.2 }

    pub fed : (limits : Bounds) (b : List ℕ) → ((n : ℕ) (ps : List ℕ) → Cut room n ps → sum ps ≡ n)
        → ((n : ℕ) (ps : List ℕ) → Cut room n ps → length ps * room < n + room)
        → CheckedBy limits decided allows aad told told' room lengths yes b → IsFedInFew room lengths b
    fed limits b all few c = record {
      n = c.size;
      stated = c.stated;
      front = c.pieces.front;
      pieces = c.pieces.pieces;
      whole = c.pieces.whole;
      all = all c.size c.pieces.pieces c.pieces.cut;
      few = few c.size c.pieces.pieces c.pieces.cut;
    }

-- what was taken from a decoder, if the result is Ok
pub is_answered : {T E : Type 0} (r : Result Bool E) (ks ks' : List KeyFields) (l l' : Option (List ℕ)) (at at' : ℕ) (decided : T → Question → T)
    (aad : List ℕ) (told told' : T) (room : ℕ) (lengths : List ℕ) → ks' ≡ ks
    → ((t : Tree) (m : MessageFields) (aad : List ℕ) → IsJudged usual t m → all_questions m aad ≡ Some (questions m aad))
    → IfOk r (λ yes. Moves l l' at at' (CheckedBy usual decided (says_yes ks') aad told told' room lengths yes))
    → IfOk r (λ yes. (front : List ℕ) × Consumes l l' front × IsAnswered (says_yes ks) aad yes front)
is_answered (Ok y) ks ks' l l' at at' decided aad told told' room lengths e law m = (
  m.bytes,
  m.taken,
  subst (λ (k : List KeyFields). IsAnswered (says_yes k) aad y m.bytes) e
      (answered (says_yes ks') decided aad told told' room lengths y m.bytes law m.has),
)
is_answered (Err f) ks ks' l l' at at' decided aad told told' room lengths e law m = tt

pub is_fed : {T E : Type 0} (limits : Bounds) (r : Result Bool E) (allows : Question → Bool) (l l' : Option (List ℕ)) (at at' : ℕ) (decided : T → Question → T)
    (aad : List ℕ) (told told' : T) (room : ℕ) (lengths : List ℕ) → 0 < room
    → ((room n : ℕ) (ps : List ℕ) → Cut room n ps → sum ps ≡ n)
    → ((room n : ℕ) (ps : List ℕ) → 0 < room → Cut room n ps → length ps * room < n + room)
    → IfOk r (λ yes. Moves l l' at at' (CheckedBy limits decided allows aad told told' room lengths yes))
    → IfOk r (λ _. (front : List ℕ) × Consumes l l' front × IsFedInFew room lengths front)
is_fed limits (Ok y) allows l l' at at' decided aad told told' room lengths some all few m = (
  m.bytes,
  m.taken,
  fed allows decided aad told told' room lengths y limits m.bytes (all room) (λ n ps c. few room n ps some c) m.has,
)
is_fed limits (Err f) allows l l' at at' decided aad told told' room lengths some all few m = tt
