-- Questions that are asked in order, up to the first no.
use Rattle.std.proofs.Common.{◌≡◌, ◌≢◌, ℕ, ◌+◌, ◌<◌, suc, List, [], ◌∷◌, ◌++◌, map, drop, length, get_or, Option, Some, None, Bool, true, false, cond, refl, sym, ap, ◌∙◌, append_assoc, append-nil, arith, codes, drop-cons, add-one}
use Rattle.std.specs.Prelude.{option_map, option_and_then, Result, Ok, Err, OnErr, IsErrAnd}
use Rattle.coset_headers.specs.Fields.{SignatureFields}
use Rattle.coset_headers.specs.Written.{shown}
use Rattle.coset_headers.proofs.Writable.{some_is, map_some, and_some}
use Rattle.coset_maced.specs.PartsWritten.{content_bytes}
use Rattle.coset_base.specs.Structure.{structure}
use Rattle.coset_signed.specs.Fields.{SignFields, signer_of}
use Rattle.coset_signed.specs.Structure.{sign_covered}
use Rattle.cose_gate_core.specs.Asked.{asked, first_no, folded_over, ToldPart}
use Rattle.cose_gate_core.specs.Questions.{sign_question, sign_questions, one_question, or_nothing}
use Rattle.cose_gate_core.specs.Received.{received_bytes, IsReceived, AreReceived}
use Rattle.cose_gate_core.proofs.Reach.{folded_append}

pub on_err : {A E P Q : Type 0} (r : Result A E) → (P → Q) → OnErr r P → OnErr r Q
on_err (Ok x) f p = p
on_err (Err e) f p = f p

pub on_err_is : {A E P : Type 0} (r : Result A E) → P → OnErr r P
on_err_is (Ok x) p = tt
on_err_is (Err e) p = p

-- a result that is this fault
pub err_is : {A E : Type 0} (r : Result A E) (x : E) → IsErrAnd r (λ e. e ≡ x) → r ≡ Err x
err_is (Ok y) x p = absurd p
err_is (Err e) x p = ap Err p

-- nothing was told of the one question
pub told_none : {T Q : Type 0} (decided : T → Q → T) (allows : Q → Bool) (told told' : T) (all : List Q) (q : Q) → all ≡ q ∷ [] → told' ≡ told → ToldPart decided told told' (asked allows all)
told_none decided allows told told' all q is e = record { front = []; next = q; more = cond (allows q) [] []; whole = ap (asked allows) is; tells = e }

-- some questions were asked, the answer to each was yes, and the rest is still to be asked
pub record Asking {T Q : Type 0} (decided : T → Q → T) (allows : Q → Bool) (told told' : T) (all rest : List Q) (count : ℕ) : Type 0 where
  pub front : List Q
  pub whole : asked allows all ≡ front ++ asked allows rest
  pub tells : told' ≡ folded_over decided told front
  pub first : first_no allows all ≡ option_map (λ n. n + count) (first_no allows rest)

plus_zero : (o : Option ℕ) → o ≡ option_map (λ n. n + 0) o
plus_zero None = refl
plus_zero (Some n) = ap Some (omega arith)

plus_one : (k : ℕ) (o : Option ℕ) → option_map (λ n. n + k) (option_map (λ n. n + 1) o) ≡ option_map (λ n. n + (k + 1)) o
plus_one k None = refl
plus_one k (Some n) = ap Some (omega arith)

pub asking_start : {T Q : Type 0} (decided : T → Q → T) (allows : Q → Bool) (told : T) (all : List Q) → Asking decided allows told told all all 0
asking_start decided allows told all = record { front = []; whole = refl; tells = refl; first = plus_zero (first_no allows all) }

module _ {T Q : Type 0} (decided : T → Q → T) (allows : Q → Bool) (told told' : T) (all : List Q) where
  -- a yes
  pub asking_yes : (q : Q) (rest : List Q) (count : ℕ) → Asking decided allows told told' all (q ∷ rest) count → true ≡ allows q → (newer : T) → newer ≡ decided told' q
      → Asking decided allows told newer all rest (count + 1)
  asking_yes q rest count a y newer e = record {
    front = a.front ++ q ∷ [];
    whole = a.whole ∙ rw (sym y) (sym (append_assoc a.front (q ∷ []) (asked allows rest)));
    tells = e ∙ ap (λ s. decided s q) a.tells ∙ sym (folded_append decided told a.front (q ∷ []));
    first = a.first ∙ rw (sym y) (plus_one count (first_no allows rest));
  }

  -- the first no
  pub asking_no : (q : Q) (rest : List Q) (count : ℕ) → Asking decided allows told told' all (q ∷ rest) count → false ≡ allows q → Some count ≡ first_no allows all
  asking_no q rest count a y =
      let g : first_no allows (q ∷ rest) ≡ Some 0 = rw (sym y) refl in
      sym (a.first ∙ ap (option_map (λ n. n + count)) g ∙ ap Some (omega arith))

  pub told_no : (q : Q) (rest : List Q) (count : ℕ) → Asking decided allows told told' all (q ∷ rest) count → false ≡ allows q → (newer : T) → newer ≡ decided told' q
      → newer ≡ folded_over decided told (asked allows all)
  told_no q rest count a y newer e =
      let f : asked allows (q ∷ rest) ≡ q ∷ [] = rw (sym y) refl in
      e ∙ ap (λ s. decided s q) a.tells ∙ sym (folded_append decided told a.front (q ∷ [])) ∙ ap (folded_over decided told) (sym (a.whole ∙ ap (λ x. a.front ++ x) f))

  -- no question is left
  pub asking_done : (count : ℕ) → Asking decided allows told told' all [] count → None ≡ first_no allows all
  asking_done count a = sym a.first

  pub told_all : (count : ℕ) → Asking decided allows told told' all [] count → told' ≡ folded_over decided told (asked allows all)
  told_all count a = a.tells ∙ ap (folded_over decided told) (sym (a.whole ∙ append-nil a.front))

  -- it stopped before the next
  pub told_part : (q : Q) (rest : List Q) (count : ℕ) → Asking decided allows told told' all (q ∷ rest) count → (newer : T) → newer ≡ told' → ToldPart decided told newer (asked allows all)
  told_part q rest count a newer e = record { front = a.front; next = q; more = cond (allows q) (asked allows rest) []; whole = a.whole; tells = e ∙ a.tells }

-- one more of a list that is seen through a function
pub rest_step : {A B : Type 0} (f : A → B) (xs : List A) (i : ℕ) (x : A) → i < length xs → x ≡ get_or xs i x → map f (drop i xs) ≡ f x ∷ map f (drop (i + 1) xs)
rest_step f xs i x h e =
    ap (λ r. map f r) (drop-cons xs i x h ∙ ap (λ y. y ∷ drop (suc i) xs) (sym e) ∙ ap (λ k. x ∷ drop k xs) (sym (add-one i)))

-- if all protected headers have their received bytes, the questions are one of each signature
next_and : {A Q : Type 0} (f : List A → Q) (a : Option (List A)) (b : Option (List Q)) (qs : List Q) → option_and_then (λ x. option_map (λ y. f x ∷ y) b) a ≢ None → or_nothing b ≡ qs
    → or_nothing (option_and_then (λ x. option_map (λ y. f x ∷ y) b) a) ≡ f (or_nothing a) ∷ qs
next_and f None b qs n e = absurd (n refl)
next_and f (Some x) None qs n e = absurd (n refl)
next_and f (Some x) (Some y) qs n e = ap (λ z. f x ∷ z) e

module _ (m : SignFields) (aad : List ℕ) (body : IsReceived m.protected) where
  received_covered : (s : SignatureFields) → IsReceived (signer_of s) → sign_covered m s aad ≢ None
  received_covered s signer none =
      let there : sign_covered m s aad ≡ Some (structure (codes "Signature") (received_bytes m.protected) (Some (received_bytes (signer_of s))) aad (content_bytes m.payload)) =
      ap (λ o. option_and_then (λ b. option_map (λ x. structure (codes "Signature") b x aad (content_bytes m.payload)) (option_map Some (shown (signer_of s)))) o) body
      ∙ ap (λ o. option_map (λ x. structure (codes "Signature") (received_bytes m.protected) x aad (content_bytes m.payload)) (option_map Some o)) signer in
      some_is _ (sym there ∙ none)

  received_asked : (ss : List SignatureFields) → AreReceived ss → sign_questions m aad ss ≢ None
  received_asked [] r = some_is []
  received_asked (s ∷ ss) r = and_some _ (sign_covered m s aad) (received_covered s r.0) (λ c. map_some _ (sign_questions m aad ss) (received_asked ss r.1))

  pub each_question : (ss : List SignatureFields) → AreReceived ss → or_nothing (sign_questions m aad ss) ≡ map (one_question m aad) ss
  each_question [] r = refl
  each_question (s ∷ ss) r =
      next_and (sign_question m s) (sign_covered m s aad) (sign_questions m aad ss) (map (one_question m aad) ss) (received_asked (s ∷ ss) r) (each_question ss r.1)
