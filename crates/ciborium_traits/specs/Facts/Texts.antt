-- Characters, texts and booleans are taken back, and those that are written alike are equal.
use Rattle.std.proofs.Common.{◌≡◌, ℕ, Bool, true, false, List, [], ◌∷◌, length, ◌&&◌, nat_eq, refl, sym, ap, ◌∙◌, append-nil}
use Rattle.std.specs.Prelude.{⊤}
use Rattle.std.specs.Ordering.{bool_cmp, nat_cmp}
use Rattle.std.specs.Char.{IsScalar, encode_utf8}
use Rattle.std.specs.Cmp.Lexicographic.{slice_cmp}
use Rattle.std.specs.Str.{IsUtf8, chars, is_utf8}
use Rattle.std.specs.declared.cmp.Ordering.TheVariants.{Equal}
use Rattle.std.proofs.lemmas.Cmp.{tied_itself, nat_list_cmp_total}
use Rattle.std.proofs.lemmas.Str.{IsUtf8-encode, chars_past_char, chars-nil, is_utf8-from_IsUtf8}
use Rattle.ciborium_value.specs.Kinds.{is_bool}
use Rattle.ciborium_value.specs.Tree.{text, bytes}
use Rattle.ciborium_value.specs.View.{bool_tree}
use Rattle.ciborium_traits.specs.Back.{TakenBackBy}
use Rattle.ciborium_traits.specs.Reading.{bare, unless}
use Rattle.ciborium_traits.specs.Texts.{is_character}

pub bool_kept : (x : Bool) → ⊤ → TakenBackBy bool_tree (λ t. unless (is_bool (bare t))) (λ t x. bare t ≡ bool_tree x) x
bool_kept true h = (refl, refl, refl)
bool_kept false h = (refl, refl, refl)

pub one_character : (b : List ℕ) (c : ℕ) → IsUtf8 b → b ≡ encode_utf8 c → is_character (text b) ≡ true
one_character b c u e =
    let k : chars b ≡ c ∷ [] = chars_past_char b [] c u (e ∙ sym (append-nil (encode_utf8 c))) ∙ ap (λ l. c ∷ l) chars-nil in
    let a : is_utf8 b ≡ true = is_utf8-from_IsUtf8 b u in
    ap (λ v. v && nat_eq (length (chars b)) 1) a ∙ ap (λ l. nat_eq (length l) 1) k

pub character_kept : (c : ℕ) → IsScalar c → TakenBackBy (λ c. text (encode_utf8 c)) (λ t. unless (is_character (bare t))) (λ t c. bare t ≡ text (encode_utf8 c)) c
character_kept c s = (refl, ap unless (one_character (encode_utf8 c) c (IsUtf8-encode c s) refl), refl)

pub tied_text : (x y : List ℕ) → text x ≡ text y → slice_cmp nat_cmp x y ≡ Equal
tied_text x y e = let f : x ≡ y = cc in ap (slice_cmp nat_cmp x) (sym f) ∙ tied_itself nat_list_cmp_total x

pub tied_bytes : (x y : List ℕ) → bytes x ≡ bytes y → slice_cmp nat_cmp x y ≡ Equal
tied_bytes x y e = let f : x ≡ y = cc in ap (slice_cmp nat_cmp x) (sym f) ∙ tied_itself nat_list_cmp_total x

pub tied_bool : (x y : Bool) → bool_tree x ≡ bool_tree y → bool_cmp x y ≡ Equal
tied_bool true true e = refl
tied_bool false false e = refl
tied_bool true false e = cc
tied_bool false true e = cc
