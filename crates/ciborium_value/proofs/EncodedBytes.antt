-- The encoding of a tree that fits is bytes.
use Rattle.std.proofs.Common.{◌≡◌, ◌<◌, ◌≤◌, ◌+◌, ◌*◌, ◌/◌, ◌%◌, ◌^◌, ◌⊎◌, inl, inr, ℕ, zero, suc, List, [], ◌∷◌, ◌++◌, length, Option, None, Some, Bool, true, false, cond, ◌&&◌, refl, sym, ap, subst, ◌∙◌, arith, nat_lt, pos, negsuc}
use Rattle.std.proofs.lemmas.Bool.{cond_both, ltb-true, ltb-false}
use Rattle.std.proofs.lemmas.List.Elements.{All-nil, All-cons, All-append}
use Rattle.std.proofs.lemmas.Nat.{mod_below}
use lib.Utf8.{encode, encodes, scalar, scalars, next, scalar_cases}
use Rattle.std.specs.List.{All}
use Rattle.std.specs.Str.{IsUtf8}
use Rattle.std.specs.Int.{w16, w32, w64, to_be_bytes, bytes_high_first, byte_at}
use Rattle.ciborium_ll.specs.declared.hdr.Header.{Header}
use Rattle.ciborium_ll.specs.declared.hdr.Header.TheVariants.{Positive, Negative, Float, Simple, Tag, Break, Bytes, Text, Array, Map}
use Rattle.ciborium_ll.specs.declared.hdr.Float.TheVariants.{Half, Single, Double}
use Rattle.ciborium_ll.specs.Title.{first_byte, shortest, shortest_sized, title_of, FitsLen, FitsHeader}
use Rattle.ciborium_value.specs.Tree.{Tree, integer, bytes, text, array, map, tag, simple, float, Trees, no_trees, one_more, Pairs, no_pairs, pair_more, tree_count, pair_count}
use Rattle.ciborium_value.specs.Encoding.{int_head, enc, enc_all, enc_pairs, Fits, FitAll, FitPairs}

abbrev Low : ℕ → Type 0
Low x = x < 256

none : All Low []
none = All-nil Low

more : (x : ℕ) (xs : List ℕ) → x < 256 → All Low xs → All Low (x ∷ xs)
more = All-cons Low

joined : (xs ys : List ℕ) → All Low xs → All Low ys → All Low (xs ++ ys)
joined = All-append Low

byte_low : (k n : ℕ) → byte_at k n < 256
byte_low zero n = mod_below n 256 (omega arith)
byte_low (suc k) n = mod_below (n / 256 ^ suc k) 256 (omega arith)

number_low : (k n : ℕ) → All Low (bytes_high_first k n)
number_low zero n = none
number_low (suc k) n = more (byte_at k n) (bytes_high_first k n) (byte_low k n) (number_low k n)

shortest_low : (major n : ℕ) → major < 8 → All Low (shortest major n)
unfolding shortest
shortest_low major n m =
    let P : List ℕ → Type 0 = λ b. All Low b in
    cond_both (nat_lt n 24) _ _ P (λ t. let h : n < 24 = ltb-true n 24 t in more (first_byte major n) [] (omega arith) none) (λ _.
    cond_both (nat_lt n (2 ^ 8)) _ _ P (λ t. let h : n < 2 ^ 8 = ltb-true n (2 ^ 8) t in more (first_byte major 24) (n ∷ []) (omega arith) (more n [] (omega arith) none)) (λ _.
    cond_both (nat_lt n (2 ^ 16)) _ _ P (λ _. more (first_byte major 25) (to_be_bytes w16 n) (omega arith) (number_low 2 n)) (λ _.
    cond_both (nat_lt n (2 ^ 32)) _ _ P (λ _. more (first_byte major 26) (to_be_bytes w32 n) (omega arith) (number_low 4 n)) (λ _.
    more (first_byte major 27) (to_be_bytes w64 n) (omega arith) (number_low 8 n)))))

sized_low : (major : ℕ) (len : Option ℕ) → major < 8 → All Low (shortest_sized major len)
sized_low major None m = more (first_byte major 31) [] (omega arith) none
sized_low major (Some n) m = shortest_low major n m

title_low : (h : Header) → All Low (title_of h)
title_low (Positive n) = shortest_low 0 n (omega arith)
title_low (Negative n) = shortest_low 1 n (omega arith)
title_low (Bytes len) = sized_low 2 len (omega arith)
title_low (Text len) = sized_low 3 len (omega arith)
title_low (Array len) = sized_low 4 len (omega arith)
title_low (Map len) = sized_low 5 len (omega arith)
title_low (Tag n) = shortest_low 6 n (omega arith)
title_low (Simple n) = shortest_low 7 n (omega arith)
title_low (Float (Half n)) = more (first_byte 7 25) (to_be_bytes w16 n) (omega arith) (number_low 2 n)
title_low (Float (Single n)) = more (first_byte 7 26) (to_be_bytes w32 n) (omega arith) (number_low 4 n)
title_low (Float (Double n)) = more (first_byte 7 27) (to_be_bytes w64 n) (omega arith) (number_low 8 n)
title_low Break = more (first_byte 7 31) [] (omega arith) none

next_low : (n : ℕ) → next n < 256
next_low n = let h : n % 64 < 64 = mod_below n 64 (omega arith) in omega arith

scalar_small : (c : ℕ) → scalar c ≡ true → c < 1114112
scalar_small c e = go (scalar_cases c e)
  where
    go : (c < 55296) ⊎ ((57344 ≤ c) × (c < 1114112)) → c < 1114112
    go (inl l) = omega arith
    go (inr l) = omega arith

-- a character's UTF-8
character_low : (c : ℕ) → scalar c ≡ true → All Low (encode c)
unfolding encode
character_low c e =
    let P : List ℕ → Type 0 = λ b. All Low b in
    let last : All Low (next c ∷ []) = more (next c) [] (next_low c) none in
    let two : All Low (next (c / 64) ∷ next c ∷ []) = more (next (c / 64)) (next c ∷ []) (next_low (c / 64)) last in
    cond_both (nat_lt c 128) _ _ P (λ t. let h : c < 128 = ltb-true c 128 t in more c [] (omega arith) none) (λ _.
    cond_both (nat_lt c 2048) _ _ P (λ t. let h : c < 2048 = ltb-true c 2048 t in more (192 + c / 64) (next c ∷ []) (omega arith) last) (λ _.
    cond_both (nat_lt c 65536) _ _ P (λ t. let h : c < 65536 = ltb-true c 65536 t in more (224 + c / 4096) (next (c / 64) ∷ next c ∷ []) (omega arith) two) (λ _.
    let h : c < 1114112 = scalar_small c e in
    more (240 + c / 262144) (next (c / 4096) ∷ next (c / 64) ∷ next c ∷ []) (omega arith) (more (next (c / 4096)) (next (c / 64) ∷ next c ∷ []) (next_low (c / 4096)) two))))

both : (x y : Bool) → (x && y) ≡ true → (x ≡ true) × (y ≡ true)
both true y e = (refl, e)
both false y e = cc

characters_low : (cs : List ℕ) → scalars cs ≡ true → All Low (encodes cs)
characters_low [] e = none
characters_low (c ∷ cs) e = let h = both (scalar c) (scalars cs) e in joined (encode c) (encodes cs) (character_low c h.0) (characters_low cs h.1)

text_low : (b : List ℕ) → IsUtf8 b → All Low b
text_low b (cs, (e, f)) = let P : List ℕ → Type 0 = λ z. All Low z in subst P f (characters_low cs e)

mutual
  pub enc_low : (t : Tree) → Fits t → All Low (enc t)
  enc_low (integer i) f = title_low (int_head i)
  enc_low (bytes b) f = joined (title_of (Bytes (Some (length b)))) b (title_low (Bytes (Some (length b)))) f.1
  enc_low (text b) f = joined (title_of (Text (Some (length b)))) b (title_low (Text (Some (length b)))) (text_low b f.1)
  enc_low (array ts) f = joined (title_of (Array (Some (tree_count ts)))) (enc_all ts) (title_low (Array (Some (tree_count ts)))) (all_low ts f.1)
  enc_low (map ps) f = joined (title_of (Map (Some (pair_count ps)))) (enc_pairs ps) (title_low (Map (Some (pair_count ps)))) (pairs_low ps f.1)
  enc_low (tag n t) f = joined (title_of (Tag n)) (enc t) (title_low (Tag n)) (enc_low t f.1)
  enc_low (simple n) f = title_low (Simple n)
  enc_low (float w) f = title_low (Float w)

  all_low : (ts : Trees) → FitAll ts → All Low (enc_all ts)
  all_low no_trees f = none
  all_low (one_more t ts) f = joined (enc t) (enc_all ts) (enc_low t f.0) (all_low ts f.1)

  pairs_low : (ps : Pairs) → FitPairs ps → All Low (enc_pairs ps)
  pairs_low no_pairs f = none
  pairs_low (pair_more k v ps) f = joined (enc k) (enc v ++ enc_pairs ps) (enc_low k f.0) (joined (enc v) (enc_pairs ps) (enc_low v f.1) (pairs_low ps f.2))
