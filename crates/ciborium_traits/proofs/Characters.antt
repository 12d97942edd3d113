-- Texts of one character.
use Rattle.std.proofs.Common.{◌≡◌, ◌≢◌, ℕ, suc, List, [], ◌∷◌, length, true, false, ◌&&◌, nat_eq, arith, None, Some, refl, sym, ap, ◌∙◌, append-nil}
use Rattle.std.specs.Char.{IsScalar, encode_utf8}
use Rattle.std.specs.Str.{IsUtf8, chars, encode_utf8_all, all_scalars}
use Rattle.std.proofs.lemmas.Bool.{and_parts, eqb-true, false_from_ne_true}
use Rattle.std.proofs.lemmas.Str.{encodes-chars, scalars-chars, is_utf8-from_IsUtf8}
use Rattle.ciborium_value.specs.declared.kind.Kind.TheVariants.{WrongType}
use Rattle.ciborium_value.specs.Tree.{Tree, text}
use Rattle.ciborium_traits.specs.Reading.{unless}
use Rattle.ciborium_traits.specs.Texts.{is_character}
use Rattle.ciborium_traits.specs.Facts.Texts.{one_character}

pub character_read : (t : Tree) (b : List ℕ) (c : ℕ) → t ≡ text b → IsUtf8 b → b ≡ encode_utf8 c → (unless (is_character t) ≡ None) × (t ≡ text (encode_utf8 c))
character_read t b c i u e = (ap (λ t. unless (is_character t)) i ∙ ap unless (one_character b c u e), i ∙ ap text e)

no_character : (b : List ℕ) → IsUtf8 b → ((c : ℕ) → IsScalar c → b ≢ encode_utf8 c) → is_character (text b) ≡ false
no_character b u n = ap (λ v. v && nat_eq (length (chars b)) 1) (is_utf8-from_IsUtf8 b u) ∙ alone (chars b) (encodes-chars b u) (scalars-chars b u)
  where
    alone : (cs : List ℕ) → encode_utf8_all cs ≡ b → all_scalars cs ≡ true → nat_eq (length cs) 1 ≡ false
    alone [] e s = refl
    alone (c ∷ []) e s = absurd (n c (and_parts _ _ s).0 (sym e ∙ append-nil (encode_utf8 c)))
    alone (c ∷ d ∷ cs) e s = false_from_ne_true _ (λ h. let k = eqb-true (suc (suc (length cs))) 1 h in omega arith)

pub character_refused : (t : Tree) (b : List ℕ) → t ≡ text b → IsUtf8 b → ((c : ℕ) → IsScalar c → b ≢ encode_utf8 c) → unless (is_character t) ≡ Some WrongType
character_refused t b i u n = ap (λ t. unless (is_character t)) i ∙ ap unless (no_character b u n)
