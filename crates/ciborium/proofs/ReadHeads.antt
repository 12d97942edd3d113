-- What the head that was read is, by its major type.
use Rattle.std.proofs.Common.{◌≡◌, ◌≢◌, ℕ, Bool, true, false, cond, Option, MatchBool, nat_eq, refl, sym, ◌∙◌}
use Rattle.std.proofs.lemmas.Bool.{cond_both, eqb-true, eqb-false}
use Rattle.ciborium_ll.specs.declared.dec.Decoder.{Decoder}
use Rattle.ciborium_ll.specs.declared.hdr.Float.{Float}
use Rattle.ciborium_ll.specs.declared.hdr.Header.{Header}
use Rattle.ciborium_ll.specs.declared.hdr.Header.TheVariants.{Positive, Negative, Bytes, Text, Array, Map, Tag, Simple, Break}
use Rattle.ciborium_ll.specs.declared.hdr.Header.TheVariants as all
use Rattle.ciborium_ll.specs.Title.{header_by}
use Rattle.ciborium_ll.specs.Views.{last_head, last_major, last_number, last_length}
use Rattle.ciborium.specs.Reading.{string_head}

pub positive_head : {R : Type 0} (d : Decoder R) → last_major d ≡ 0 → last_head d ≡ Positive (last_number d)
positive_head d e = rw e refl

pub negative_head : {R : Type 0} (d : Decoder R) → last_major d ≡ 1 → last_head d ≡ Negative (last_number d)
negative_head d e = rw e refl

pub bytes_head : {R : Type 0} (d : Decoder R) → last_major d ≡ 2 → last_head d ≡ Bytes (last_length d)
bytes_head d e = rw e refl

pub text_head : {R : Type 0} (d : Decoder R) → last_major d ≡ 3 → last_head d ≡ Text (last_length d)
text_head d e = rw e refl

pub map_head : {R : Type 0} (d : Decoder R) → last_major d ≡ 5 → last_head d ≡ Map (last_length d)
map_head d e = rw e refl

-- what holds of each header that can be the one of a major type
by_major : (P : Header → Type 0) (m info n : ℕ) → ((n : ℕ) → P (Positive n)) → ((n : ℕ) → P (Negative n)) → (m ≡ 2 → (o : Option ℕ) → P (Bytes o)) → (m ≡ 3 → (o : Option ℕ) → P (Text o))
    → (m ≡ 4 → (o : Option ℕ) → P (Array o)) → (m ≡ 5 → (o : Option ℕ) → P (Map o)) → (m ≡ 6 → P (Tag n)) → ((f : Float) → P (all.Float f)) → P Break → ((n : ℕ) → P (Simple n)) → P (header_by m info n)
by_major P m info n positive negative bytes text array map tag float break simple =
    cond_both (nat_eq m 0) _ _ P (λ _. positive _) (λ _.
    cond_both (nat_eq m 1) _ _ P (λ _. negative _) (λ _.
    cond_both (nat_eq m 2) _ _ P (λ t. bytes (eqb-true m 2 t) _) (λ _.
    cond_both (nat_eq m 3) _ _ P (λ t. text (eqb-true m 3 t) _) (λ _.
    cond_both (nat_eq m 4) _ _ P (λ t. array (eqb-true m 4 t) _) (λ _.
    cond_both (nat_eq m 5) _ _ P (λ t. map (eqb-true m 5 t) _) (λ _.
    cond_both (nat_eq m 6) _ _ P (λ t. tag (eqb-true m 6 t)) (λ _.
    cond_both (nat_eq info 25) _ _ P (λ _. float _) (λ _.
    cond_both (nat_eq info 26) _ _ P (λ _. float _) (λ _.
    cond_both (nat_eq info 27) _ _ P (λ _. float _) (λ _.
    cond_both (nat_eq info 31) _ _ P (λ _. break) (λ _. simple _)))))))))))

-- a string of a kind has its major type
no_string_head : {R : Type 0} (text : Bool) (d : Decoder R) → last_major d ≢ cond text 3 2 → (o : Option ℕ) → last_head d ≢ string_head text o
no_string_head true d not o =
    by_major (λ h. h ≢ Text o) (last_major d) _ (last_number d) (λ _ f. cc) (λ _ f. cc) (λ _ _ f. cc) (λ e. absurd (not e)) (λ _ _ f. cc) (λ _ _ f. cc) (λ _ f. cc) (λ _ f. cc) (λ f. cc) (λ _ f. cc)
no_string_head false d not o =
    by_major (λ h. h ≢ Bytes o) (last_major d) _ (last_number d) (λ _ f. cc) (λ _ f. cc) (λ e. absurd (not e)) (λ _ _ f. cc) (λ _ _ f. cc) (λ _ _ f. cc) (λ _ f. cc) (λ _ f. cc) (λ f. cc) (λ _ f. cc)

is_string_head : {R : Type 0} (text : Bool) (d : Decoder R) → last_major d ≡ cond text 3 2 → last_head d ≡ string_head text (last_length d)
is_string_head true = text_head
is_string_head false = bytes_head

pub string_test : {R : Type 0} (text : Bool) (m k : ℕ) (d : Decoder R) → m ≡ last_major d → k ≡ cond text 3 2
    → MatchBool (nat_eq m k) (last_head d ≡ string_head text (last_length d)) ((o : Option ℕ) → last_head d ≢ string_head text o)
string_test text m k d e f = go (nat_eq m k) refl
  where
    go : (b : Bool) → nat_eq m k ≡ b → MatchBool b (last_head d ≡ string_head text (last_length d)) ((o : Option ℕ) → last_head d ≢ string_head text o)
    go true t = is_string_head text d (sym e ∙ eqb-true m k t ∙ f)
    go false t = no_string_head text d (λ g. eqb-false m k t (e ∙ g ∙ sym f))
