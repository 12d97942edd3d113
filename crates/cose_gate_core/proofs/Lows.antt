-- What is read from bytes holds bytes: each byte string in it is below 256 at each place, and if
-- the bytes are few it fits heads.
use Rattle.std.proofs.Common.{◌≡◌, ℕ, ◌^◌, ◌<◌, ◌≤◌, inl, inr, List, [], ◌∷◌, ◌++◌, length, take, Bool, true, false, cond, Option, Some, None, option_map, option_and_then, refl, sym, ap, subst, ◌∙◌, arith, append_assoc}
use Rattle.std.specs.Prelude.{ℤ, All, nat_eq, nat_lt, nat_le, ◌||◌, ◌&&◌, pos, negsuc}
use Rattle.std.specs.Str.{IsUtf8}
use Rattle.std.proofs.lemmas.List.{take-append-le, take_all}
use Rattle.std.proofs.lemmas.List.Elements.{All-same, All-take, All-append, All-nil, All-tail}
use Rattle.std.proofs.lemmas.Str.{IsUtf8-append, IsUtf8-nil}
use Rattle.std.proofs.lemmas.Bool.{ltb-true}
use Rattle.ciborium_ll.specs.declared.hdr.Header.{Header}
use Rattle.ciborium_ll.specs.declared.hdr.Header.TheVariants.{Bytes, Text, Array, Map}
use Rattle.ciborium_ll.specs.declared.hdr.Header.TheVariants as head
use Rattle.ciborium_ll.specs.declared.hdr.Float.TheVariants.{Half, Single, Double}
use Rattle.ciborium_ll.specs.Title.{Title, NumberAt, FitsHeader}
use Rattle.ciborium_ll.specs.Title.NumberAt.{direct, one, two, four, eight}
use Rattle.ciborium_ll.specs.Framing.{Frame, Frames, whole, cut, no_frames, frame_more, joined, Any}
use Rattle.ciborium_value.specs.Tree.{Tree, integer, bytes, text, array, map as map_tree, tag, simple, float, Trees, no_trees, one_more, Pairs, no_pairs, pair_more, tree_count, pair_count}
use Rattle.ciborium_value.specs.Folding.{fold_by, fold_all_by, fold_pairs_by, fold_bytes, fold_number, tagged, big_endian_from, without_zeros}
use Rattle.ciborium_value.specs.Encoding.{int_head, Fits, FitAll, FitPairs}
use Rattle.ciborium_ll.specs.declared.hdr.Float.{Float as FloatBits}
use Rattle.ciborium.specs.Front.{Reads}
use Rattle.ciborium.specs.Meaning.{simple_meaning}
use Rattle.ciborium.specs.Spelling.{Spells, SpellsAll, SpellsPairs, Around}
use Rattle.ciborium.proofs.StringCases.{bytes_behind}
use Rattle.coset_headers.specs.Weight.{weight, weight_all, weight_pairs}
use Rattle.coset_headers.proofs.Weights.{weight_pos, reads_long}

abbrev pub IsByte : ℕ → Type 0
IsByte x = x < 256

-- each number lies in its range, a byte string is bytes, and each text is UTF-8; nothing is said of
-- lengths
abbrev mutual
  pub Low : Tree → Type 0
  Low (integer i) = FitsHeader (int_head i)
  Low (bytes b) = All IsByte b
  Low (text b) = IsUtf8 b
  Low (array ts) = LowAll ts
  Low (map_tree ps) = LowPairs ps
  Low (tag n t) = (n < 2 ^ 64) × Low t
  Low (simple n) = n < 2 ^ 8
  Low (float f) = FitsHeader (head.Float f)

  pub LowAll : Trees → Type 0
  LowAll no_trees = Unit {0}
  LowAll (one_more t ts) = Low t × LowAll ts

  pub LowPairs : Pairs → Type 0
  LowPairs no_pairs = Unit {0}
  LowPairs (pair_more k v ps) = Low k × Low v × LowPairs ps

mutual
  pub fits_low : (t : Tree) → Fits t → Low t
  fits_low (integer i) f = f
  fits_low (bytes b) f = f.1
  fits_low (text b) f = f.1
  fits_low (array ts) f = fit_low ts f.1
  fits_low (map_tree ps) f = pairs_fit_low ps f.1
  fits_low (tag n t) f = (f.0, fits_low t f.1)
  fits_low (simple n) f = f
  fits_low (float x) f = f

  fit_low : (ts : Trees) → FitAll ts → LowAll ts
  fit_low no_trees f = tt
  fit_low (one_more t ts) f = (fits_low t f.0, fit_low ts f.1)

  pairs_fit_low : (ps : Pairs) → FitPairs ps → LowPairs ps
  pairs_fit_low no_pairs f = tt
  pairs_fit_low (pair_more k v ps) f = (fits_low k f.0, fits_low v f.1, pairs_fit_low ps f.2)

-- what is light enough fits heads
all_count : (ts : Trees) → tree_count ts ≤ weight_all ts
all_count no_trees = omega arith
all_count (one_more t ts) = let h = all_count ts in let k = weight_pos t in omega (arith, h, k)

pairs_count : (ps : Pairs) → pair_count ps ≤ weight_pairs ps
pairs_count no_pairs = omega arith
pairs_count (pair_more k v ps) = let h = pairs_count ps in let j = weight_pos k in omega (arith, h, j)

mutual
  pub low_fits : (t : Tree) → Low t → weight t < 2 ^ 64 → Fits t
  low_fits (integer i) l w = l
  low_fits (bytes b) l w = (omega (arith, w), l)
  low_fits (text b) l w = (omega (arith, w), l)
  low_fits (array ts) l w = let c = all_count ts in (omega (arith, w, c), all_low_fit ts l (omega (arith, w)))
  low_fits (map_tree ps) l w = let c = pairs_count ps in (omega (arith, w, c), pairs_low_fit ps l (omega (arith, w)))
  low_fits (tag n t) l w = (l.0, low_fits t l.1 (omega (arith, w)))
  low_fits (simple n) l w = l
  low_fits (float f) l w = l

  all_low_fit : (ts : Trees) → LowAll ts → weight_all ts < 2 ^ 64 → FitAll ts
  all_low_fit no_trees l w = tt
  all_low_fit (one_more t ts) l w = (low_fits t l.0 (omega (arith, w)), all_low_fit ts l.1 (omega (arith, w)))

  pairs_low_fit : (ps : Pairs) → LowPairs ps → weight_pairs ps < 2 ^ 64 → FitPairs ps
  pairs_low_fit no_pairs l w = tt
  pairs_low_fit (pair_more k v ps) l w = (low_fits k l.0 (omega (arith, w)), low_fits v l.1 (omega (arith, w)), pairs_low_fit ps l.2 (omega (arith, w)))

-- ---- numbers of heads
number_low : (info n : ℕ) (bytes : List ℕ) → NumberAt info bytes n → n < 2 ^ 64
number_low info n b (direct l e f) = omega (arith, l, e)
number_low info n b (one i l f) = omega (arith, l)
number_low info n b (two i l f) = omega (arith, l)
number_low info n b (four i l f) = omega (arith, l)
number_low info n b (eight i l f) = l

simple_low : (info n : ℕ) (bytes : List ℕ) → info < 25 → NumberAt info bytes n → n < 2 ^ 8
simple_low info n b k (direct l e f) = omega (arith, l, e)
simple_low info n b k (one i l f) = l
simple_low info n b k (two i l f) = absurd (omega (arith, k, i))
simple_low info n b k (four i l f) = absurd (omega (arith, k, i))
simple_low info n b k (eight i l f) = absurd (omega (arith, k, i))

half_low : (info n : ℕ) (bytes : List ℕ) → info ≡ 25 → NumberAt info bytes n → n < 2 ^ 16
half_low info n b k (direct l e f) = absurd (omega (arith, k, l))
half_low info n b k (one i l f) = absurd (omega (arith, k, i))
half_low info n b k (two i l f) = l
half_low info n b k (four i l f) = absurd (omega (arith, k, i))
half_low info n b k (eight i l f) = absurd (omega (arith, k, i))

single_low : (info n : ℕ) (bytes : List ℕ) → info ≡ 26 → NumberAt info bytes n → n < 2 ^ 32
single_low info n b k (direct l e f) = absurd (omega (arith, k, l))
single_low info n b k (one i l f) = absurd (omega (arith, k, i))
single_low info n b k (two i l f) = absurd (omega (arith, k, i))
single_low info n b k (four i l f) = l
single_low info n b k (eight i l f) = absurd (omega (arith, k, i))

integer_low : (i : ℤ) (b : List ℕ) → Title b (int_head i) → FitsHeader (int_head i)
integer_low (pos n) b t = number_low t.0 n t.1.0 t.1.2
integer_low (negsuc n) b t = number_low t.0 n t.1.0 t.1.2

float_low : (f : FloatBits) (b : List ℕ) → Title b (head.Float f) → FitsHeader (head.Float f)
float_low (Half n) b t = half_low 25 n t.0 refl t.2
float_low (Single n) b t = single_low 26 n t.0 refl t.2
float_low (Double n) b t = number_low 27 n t.0 t.2

-- ---- parts of bytes
front_is : (a rest : List ℕ) → take (length a) (a ++ rest) ≡ a
front_is a rest = take-append-le (length a) a rest (omega arith) ∙ take_all (length a) a (omega arith)

pub before : (b a rest : List ℕ) → b ≡ a ++ rest → All IsByte b → All IsByte a
before b a rest e low = All-same IsByte a (take (length a) b) (sym (ap (take (length a)) e ∙ front_is a rest)) (All-take IsByte (length a) b low)

pub behind : (b a rest : List ℕ) → b ≡ a ++ rest → All IsByte b → All IsByte rest
behind b a rest e low = bytes_behind b a rest e low

joined_append : (xs ys : List (List ℕ)) → joined (xs ++ ys) ≡ joined xs ++ joined ys
joined_append [] ys = refl
joined_append (x ∷ xs) ys = ap (λ z. x ++ z) (joined_append xs ys) ∙ sym (append_assoc x (joined xs) (joined ys))

joined_low : (xs ys : List (List ℕ)) → All IsByte (joined xs) → All IsByte (joined ys) → All IsByte (joined (xs ++ ys))
joined_low [] ys p q = q
joined_low (x ∷ xs) ys p q =
    All-append IsByte x (joined (xs ++ ys)) (before (x ++ joined xs) x (joined xs) refl p) (joined_low xs ys (behind (x ++ joined xs) x (joined xs) refl p) q)

mutual
  frame_low : (k : Option ℕ → Header) (P : List ℕ → Type 0) (b : List ℕ) (xs : List (List ℕ)) → Frame k P b xs → All IsByte b → All IsByte (joined xs)
  frame_low k P b xs (whole _ body title t p e) low = All-append IsByte body [] (behind b title body e low) (All-nil IsByte)
  frame_low k P b xs (cut _ inner title bodies t f e) low =
      frames_low k P inner bodies f (behind (title ++ inner) title inner refl (before b (title ++ inner) (255 ∷ []) e low))

  frames_low : (k : Option ℕ → Header) (P : List ℕ → Type 0) (b : List ℕ) (xs : List (List ℕ)) → Frames k P b xs → All IsByte b → All IsByte (joined xs)
  frames_low k P b xs no_frames low = All-nil IsByte
  frames_low k P b xs (frame_more a c ys zs f g) low =
      joined_low ys zs (frame_low k P a ys f (before (a ++ c) a c refl low)) (frames_low k P c zs g (behind (a ++ c) a c refl low))

text_joined : (xs ys : List (List ℕ)) → IsUtf8 (joined xs) → IsUtf8 (joined ys) → IsUtf8 (joined (xs ++ ys))
text_joined [] ys p q = q
text_joined (x ∷ xs) ys p q = subst IsUtf8 (sym (joined_append (x ∷ xs) ys)) (IsUtf8-append (joined (x ∷ xs)) (joined ys) p q)

mutual
  frame_text : (k : Option ℕ → Header) (b : List ℕ) (xs : List (List ℕ)) → Frame k IsUtf8 b xs → IsUtf8 (joined xs)
  frame_text k b xs (whole _ body title t p e) = IsUtf8-append body [] p IsUtf8-nil
  frame_text k b xs (cut _ inner title bodies t f e) = frames_text k inner bodies f

  frames_text : (k : Option ℕ → Header) (b : List ℕ) (xs : List (List ℕ)) → Frames k IsUtf8 b xs → IsUtf8 (joined xs)
  frames_text k b xs no_frames = IsUtf8-nil
  frames_text k b xs (frame_more a c ys zs f g) = text_joined ys zs (frame_text k a ys f) (frames_text k c zs g)

around_low : (k : Option ℕ → Header) (n : ℕ) (b : List ℕ) (Inner : List ℕ → Type 0) (A : Type 0) → ((c : List ℕ) → Inner c → All IsByte c → A) → Around k n b Inner → All IsByte b → A
around_low k n b Inner A f (inl (title, c, t, i, e)) low = f c i (behind b title c e low)
around_low k n b Inner A f (inr (title, c, t, i, e)) low = f c i (before (c ++ 255 ∷ []) c (255 ∷ []) refl (behind b title (c ++ 255 ∷ []) e low))

mutual
  pub spells_low : (t : Tree) (b : List ℕ) → Spells b t → All IsByte b → Low t
  spells_low (integer i) b s low = integer_low i b s
  spells_low (bytes c) b s low = All-same IsByte c (joined s.0) s.2 (frame_low Bytes Any b s.0 s.1 low)
  spells_low (text c) b s low = subst IsUtf8 (sym s.2) (frame_text Text b s.0 s.1)
  spells_low (array ts) b s low = around_low Array (tree_count ts) b (λ c. SpellsAll c ts) (LowAll ts) (λ c i l. all_low ts c i l) s low
  spells_low (map_tree ps) b s low = around_low Map (pair_count ps) b (λ c. SpellsPairs c ps) (LowPairs ps) (λ c i l. pairs_low ps c i l) s low
  spells_low (tag n t) b s low = (number_low s.2.0 n s.2.1.0 s.2.1.2, spells_low t s.1 s.3 (behind b s.0 s.1 s.4 low))
  spells_low (simple n) b s low = simple_low s.0 n s.2.0 s.1 s.2.2
  spells_low (float f) b s low = float_low f b s

  all_low : (ts : Trees) (b : List ℕ) → SpellsAll b ts → All IsByte b → LowAll ts
  all_low no_trees b s low = tt
  all_low (one_more t ts) b s low = (spells_low t s.0 s.2 (before b s.0 s.1 s.4 low), all_low ts s.1 s.3 (behind b s.0 s.1 s.4 low))

  pairs_low : (ps : Pairs) (b : List ℕ) → SpellsPairs b ps → All IsByte b → LowPairs ps
  pairs_low no_pairs b s low = tt
  pairs_low (pair_more k v ps) b s low =
      let rest = behind b s.0 (s.1 ++ s.2) s.6 low in
      (spells_low k s.0 s.3 (before b s.0 (s.1 ++ s.2) s.6 low), spells_low v s.1 s.4 (before (s.1 ++ s.2) s.1 s.2 refl rest), pairs_low ps s.2 s.5 (behind (s.1 ++ s.2) s.1 s.2 refl rest))

-- ---- folding keeps them
abbrev IfTree : (Tree → Type 0) → Option Tree → Type 0
IfTree P None = Unit {0}
IfTree P (Some t) = P t

cond_if : (P : Tree → Type 0) (c : Bool) (x y : Option Tree) → IfTree P x → IfTree P y → IfTree P (cond c x y)
cond_if P true x y a b = a
cond_if P false x y a b = b

zeros_step : (c : Bool) (P : List ℕ → Type 0) (xs ys : List ℕ) → P xs → P ys → P (cond c xs ys)
zeros_step true P xs ys a b = a
zeros_step false P xs ys a b = b

zeros_low : (b : List ℕ) → All IsByte b → All IsByte (without_zeros b)
zeros_low [] l = l
zeros_low (x ∷ xs) l = zeros_step (nat_eq x 0) (All IsByte) (without_zeros xs) (x ∷ xs) (zeros_low xs (All-tail IsByte x xs l)) l

abbrev IfTrees : (Trees → Type 0) → Option Trees → Type 0
IfTrees P None = Unit {0}
IfTrees P (Some ts) = P ts

abbrev IfPairs : (Pairs → Type 0) → Option Pairs → Type 0
IfPairs P None = Unit {0}
IfPairs P (Some ps) = P ps

cond_by : (P : Tree → Type 0) (c : Bool) (x y : Option Tree) → (c ≡ true → IfTree P x) → IfTree P y → IfTree P (cond c x y)
cond_by P true x y a b = a refl
cond_by P false x y a b = b

sign_low : (c : Bool) (m : ℕ) → m < 2 ^ 64 → Low (integer (cond c (pos m) (negsuc m)))
sign_low true m l = l
sign_low false m l = l

low_bytes : (n : ℕ) (b : List ℕ) → n < 2 ^ 64 → All IsByte b → IfTree Low (tagged n (bytes b))
low_bytes n b k l =
    let m : ℕ = big_endian_from 0 b in
    let short : Option Tree = cond (nat_eq n 3 && nat_le 170141183460469231731687303715884105728 m) None (Some (tag n (bytes (without_zeros b)))) in
    cond_if Low (nat_eq n 2 || nat_eq n 3) (fold_bytes n b) (Some (tag n (bytes b)))
    (cond_if Low (nat_le (length b) 16) (fold_number n m b) (Some (tag n (bytes b)))
    (cond_by Low (nat_lt m 18446744073709551616) (Some (integer (cond (nat_eq n 2) (pos m) (negsuc m)))) short
    (λ t. sign_low (nat_eq n 2) m (let h : m < 18446744073709551616 = ltb-true m 18446744073709551616 t in omega arith))
    (cond_if Low (nat_eq n 3 && nat_le 170141183460469231731687303715884105728 m) None (Some (tag n (bytes (without_zeros b)))) tt (k, zeros_low b l)))
    (k, l)) (k, l)

low_tag : (n : ℕ) (u : Tree) → n < 2 ^ 64 → Low u → IfTree Low (tagged n u)
low_tag n (integer i) k l = (k, l)
low_tag n (bytes b) k l = low_bytes n b k l
low_tag n (text b) k l = (k, l)
low_tag n (array ts) k l = (k, l)
low_tag n (map_tree ps) k l = (k, l)
low_tag n (tag m t) k l = (k, l)
low_tag n (simple m) k l = (k, l)
low_tag n (float f) k l = (k, l)

low_tagged : (n : ℕ) (o : Option Tree) → n < 2 ^ 64 → IfTree Low o → IfTree Low (option_and_then (tagged n) o)
low_tagged n None k l = tt
low_tagged n (Some u) k l = low_tag n u k l

low_array : (o : Option Trees) → IfTrees LowAll o → IfTree Low (option_map array o)
low_array None l = tt
low_array (Some ts) l = l

low_map : (o : Option Pairs) → IfPairs LowPairs o → IfTree Low (option_map map_tree o)
low_map None l = tt
low_map (Some ps) l = l

low_more : (o : Option Tree) (p : Option Trees) → IfTree Low o → IfTrees LowAll p → IfTrees LowAll (option_and_then (λ u. option_map (one_more u) p) o)
low_more None p a b = tt
low_more (Some u) None a b = tt
low_more (Some u) (Some ts) a b = (a, b)

low_pair : (o q : Option Tree) (p : Option Pairs) → IfTree Low o → IfTree Low q → IfPairs LowPairs p → IfPairs LowPairs (option_and_then (λ a. option_and_then (λ b. option_map (pair_more a b) p) q) o)
low_pair None q p a b c = tt
low_pair (Some k) None p a b c = tt
low_pair (Some k) (Some x) None a b c = tt
low_pair (Some k) (Some x) (Some ps) a b c = (a, b, c)

module _ (s : ℕ → Option Tree) (plain : (n : ℕ) → n < 2 ^ 8 → IfTree Low (s n)) where
  mutual
    folded_low : (t : Tree) → Low t → IfTree Low (fold_by s t)
    folded_low (integer i) l = l
    folded_low (bytes b) l = l
    folded_low (text b) l = l
    folded_low (array ts) l = low_array (fold_all_by s ts) (all_folded_low ts l)
    folded_low (map_tree ps) l = low_map (fold_pairs_by s ps) (pairs_folded_low ps l)
    folded_low (tag n t) l = low_tagged n (fold_by s t) l.0 (folded_low t l.1)
    folded_low (simple n) l = plain n l
    folded_low (float f) l = l

    all_folded_low : (ts : Trees) → LowAll ts → IfTrees LowAll (fold_all_by s ts)
    all_folded_low no_trees l = l
    all_folded_low (one_more t ts) l = low_more (fold_by s t) (fold_all_by s ts) (folded_low t l.0) (all_folded_low ts l.1)

    pairs_folded_low : (ps : Pairs) → LowPairs ps → IfPairs LowPairs (fold_pairs_by s ps)
    pairs_folded_low no_pairs l = l
    pairs_folded_low (pair_more k v ps) l =
        low_pair (fold_by s k) (fold_by s v) (fold_pairs_by s ps) (folded_low k l.0) (folded_low v l.1) (pairs_folded_low ps l.2)

simple_if : (P : Tree → Type 0) (n : ℕ) → P (simple 22) → P (simple n) → IfTree P (simple_meaning n)
simple_if P n a b =
    cond_if P (nat_eq n 23) (Some (simple 22)) (cond (nat_le 20 n && nat_le n 22) (Some (simple n)) None) a
    (cond_if P (nat_le 20 n && nat_le n 22) (Some (simple n)) None b tt)

pub reads_low : (b : List ℕ) (n : ℕ) (v : Tree) → Reads b n v → All IsByte b → Low v
reads_low b n v r low = subst (IfTree Low) r.means (folded_low simple_meaning (λ n l. simple_if Low n (omega arith) l) r.tree (spells_low r.tree b r.spells low))

pub reads_fits : (b : List ℕ) (n : ℕ) (v : Tree) → Reads b n v → All IsByte b → length b < 2 ^ 64 → Fits v
reads_fits b n v r low few = low_fits v (reads_low b n v r low) (omega (arith, reads_long b n v r, few))
