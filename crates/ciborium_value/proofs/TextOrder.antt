-- The order of encodings is that of the trees.
use Rattle.std.proofs.Common.{◌≡◌, ℕ, pos, negsuc, ◌+◌, ◌*◌, ◌/◌, ◌%◌, ◌^◌, ◌<◌, ◌≤◌, List, [], ◌∷◌, ◌++◌, length, Bool, true, false, cond, nat_lt, refl, sym, ap, subst, ◌∙◌, arith, append_assoc, append-nil}
use Rattle.std.proofs.lemmas.Bool.{ltb-true, ltb-false}
use Rattle.std.proofs.lemmas.Cmp.{ranked, by_ranked, tied_itself}
use Rattle.std.proofs.lemmas.Nat.{mul-add-lt}
use Rattle.std.proofs.Math.Nat.{div-div-eq-div-mul}
use Rattle.std.specs.Int.{w16, w32, w64, to_be_bytes}
use Rattle.std.specs.Cmp.{nat_cmp_is}
use Rattle.std.specs.declared.cmp.Ordering.{Ordering}
use Rattle.std.specs.declared.cmp.Ordering.TheVariants.{Less, Equal, Greater}
use Rattle.std.specs.Ordering.{ordering_then, nat_cmp, MatchOrdering}
use Rattle.ciborium_ll.specs.Title.{shortest}
use Rattle.ciborium_ll.specs.declared.hdr.Float.TheVariants.{Half, Single, Double}
use Rattle.ciborium_value.specs.Tree.{Tree, integer, bytes, text, array, map, tag, simple, float, Trees, no_trees, one_more, Pairs, no_pairs, pair_more, tree_count, pair_count}
use Rattle.ciborium_value.specs.Encoding.{enc, enc_all, enc_pairs, Fits, FitAll, FitPairs}
use Rattle.ciborium_value.specs.Order.{tree_cmp}
use Rattle.ciborium_value.specs.Canonical.{bytewise, canonical, text_cmp, canonical_cmp}
use Rattle.ciborium_value.specs.Facts.Heads.{place, number, heads_cmp, all_cmp, each_cmp, Sized, SizedAll, SizedPairs}
use Rattle.ciborium_value.specs.Facts.Orders.{bytes_cmp, assoc, then_equal, then_tied, where_equal, apart, same_long, places}
use Rattle.ciborium_value.specs.Facts.TreeTotal.{tree_total}
use Rattle.ciborium_value.proofs.HeadsTie.{heads_tied}

-- ---- numbers by their bytes, the highest first

is_less : {x y : ℕ} → x < y → nat_cmp x y ≡ Less
is_less {x} {y} l = sym (nat_cmp_is x y Less l)

is_greater : {x y : ℕ} → y < x → nat_cmp x y ≡ Greater
is_greater {x} {y} l = sym (nat_cmp_is x y Greater l)

both_less : (x y r q : ℕ) (S T : Ordering) → x < y → r < q → ordering_then (nat_cmp x y) S ≡ ordering_then (nat_cmp r q) T
both_less x y r q S T l k = ap (λ o. ordering_then o S) (is_less {x = x} {y = y} l) ∙ sym (ap (λ o. ordering_then o T) (is_less {x = r} {y = q} k))

both_greater : (x y r q : ℕ) (S T : Ordering) → y < x → q < r → ordering_then (nat_cmp x y) S ≡ ordering_then (nat_cmp r q) T
both_greater x y r q S T l k = ap (λ o. ordering_then o S) (is_greater {x = x} {y = y} l) ∙ sym (ap (λ o. ordering_then o T) (is_greater {x = r} {y = q} k))

-- the order of numbers with two digits
digits : (b x y i j : ℕ) → i < b → j < b → nat_cmp (x * b + i) (y * b + j) ≡ ordering_then (nat_cmp x y) (nat_cmp i j)
digits b x y i j p q =
    by_ranked (x < y) (x ≡ y) (y < x) (nat_cmp x y) (ranked x y (nat_cmp x y) refl)
    (λ e l. let k = mul-add-lt x b i y l p in is_less {x = x * b + i} {y = y * b + j} (omega (arith, k)) ∙ sym (ap (λ o. ordering_then o (nat_cmp i j)) e))
    (λ e l. sym (nat_cmp_is (x * b + i) (y * b + j) (nat_cmp i j) (lowest (nat_cmp i j) l (ranked i j (nat_cmp i j) refl))) ∙ sym (ap (λ o. ordering_then o (nat_cmp i j)) e))
    (λ e l. let k = mul-add-lt y b j x l q in is_greater {x = x * b + i} {y = y * b + j} (omega (arith, k)) ∙ sym (ap (λ o. ordering_then o (nat_cmp i j)) e))
  where
    lowest : (o : Ordering) → x ≡ y → MatchOrdering o (i < j) (i ≡ j) (j < i) → MatchOrdering o (x * b + i < y * b + j) (x * b + i ≡ y * b + j) (y * b + j < x * b + i)
    lowest Less e l = let k : x * b ≡ y * b = ap (λ z. z * b) e in omega (arith, k, l)
    lowest Equal e l = λ k. e k * b + l k
    lowest Greater e l = let k : x * b ≡ y * b = ap (λ z. z * b) e in omega (arith, k, l)

lowest_byte : (n m : ℕ) (S : Ordering) → ordering_then (nat_cmp n m) S ≡ ordering_then (nat_cmp (n / 256) (m / 256)) (ordering_then (nat_cmp (n % 256) (m % 256)) S)
lowest_byte n m S =
    let a : n ≡ n / 256 * 256 + n % 256 = omega arith in
    let b : m ≡ m / 256 * 256 + m % 256 = omega arith in
    (λ i. ordering_then (nat_cmp (a i) (b i)) S)
    ∙ ap (λ o. ordering_then o S) (digits 256 (n / 256) (m / 256) (n % 256) (m % 256) (omega arith) (omega arith))
    ∙ sym (assoc (nat_cmp (n / 256) (m / 256)) (nat_cmp (n % 256) (m % 256)) S)

next_byte : (n m p : ℕ) (S : Ordering) → ordering_then (nat_cmp (n / p) (m / p)) S ≡ ordering_then (nat_cmp (n / (p * 256)) (m / (p * 256))) (ordering_then (nat_cmp (n / p % 256) (m / p % 256)) S)
next_byte n m p S = lowest_byte (n / p) (m / p) S ∙ (λ i. ordering_then (nat_cmp (div-div-eq-div-mul n p 256 i) (div-div-eq-div-mul m p 256 i)) (ordering_then (nat_cmp (n / p % 256) (m / p % 256)) S))

highest : (x y : ℕ) (S : Ordering) → x < 256 → y < 256 → ordering_then (nat_cmp x y) S ≡ ordering_then (nat_cmp (x % 256) (y % 256)) S
highest x y S p q =
    let a : x ≡ x % 256 = omega arith in
    let b : y ≡ y % 256 = omega arith in
    λ i. ordering_then (nat_cmp (a i) (b i)) S

be_2 : (n m : ℕ) → n < 65536 → m < 65536 → (S : Ordering)
    → ordering_then (nat_cmp (n / 256 % 256) (m / 256 % 256)) (ordering_then (nat_cmp (n % 256) (m % 256)) S) ≡ ordering_then (nat_cmp n m) S
be_2 n m p q S = sym (lowest_byte n m S ∙ highest (n / 256) (m / 256) _ (omega arith) (omega arith))

be_4 : (n m : ℕ) → n < 4294967296 → m < 4294967296 → (S : Ordering)
    → ordering_then (nat_cmp (n / 16777216 % 256) (m / 16777216 % 256)) (ordering_then (nat_cmp (n / 65536 % 256) (m / 65536 % 256)) (ordering_then (nat_cmp (n / 256 % 256) (m / 256 % 256)) (ordering_then (nat_cmp (n % 256) (m % 256)) S))) ≡ ordering_then (nat_cmp n m) S
be_4 n m p q S = sym (lowest_byte n m S ∙ next_byte n m 256 _ ∙ next_byte n m 65536 _ ∙ highest (n / 16777216) (m / 16777216) _ (omega arith) (omega arith))

be_8 : (n m : ℕ) → n < 2 ^ 64 → m < 2 ^ 64 → (S : Ordering)
    → ordering_then (nat_cmp (n / 72057594037927936 % 256) (m / 72057594037927936 % 256)) (ordering_then (nat_cmp (n / 281474976710656 % 256) (m / 281474976710656 % 256)) (ordering_then (nat_cmp (n / 1099511627776 % 256) (m / 1099511627776 % 256)) (ordering_then (nat_cmp (n / 4294967296 % 256) (m / 4294967296 % 256)) (ordering_then (nat_cmp (n / 16777216 % 256) (m / 16777216 % 256)) (ordering_then (nat_cmp (n / 65536 % 256) (m / 65536 % 256)) (ordering_then (nat_cmp (n / 256 % 256) (m / 256 % 256)) (ordering_then (nat_cmp (n % 256) (m % 256)) S))))))) ≡ ordering_then (nat_cmp n m) S
be_8 n m p q S = sym (lowest_byte n m S ∙ next_byte n m 256 _ ∙ next_byte n m 65536 _ ∙ next_byte n m 16777216 _ ∙ next_byte n m 4294967296 _ ∙ next_byte n m 1099511627776 _ ∙ next_byte n m 281474976710656 _ ∙ highest (n / 72057594037927936) (m / 72057594037927936) _ (omega arith) (omega arith))

-- ---- heads

-- the low five bits of the first byte, and the bytes after it, of the shortest head with the number
-- n
pub data Form (n : ℕ) : ℕ → List ℕ → Type 0 where
  in_short : n < 24 → Form n n []
  in_one : 24 ≤ n → n < 256 → Form n 24 (n ∷ [])
  in_two : 256 ≤ n → n < 65536 → Form n 25 (to_be_bytes w16 n)
  in_four : 65536 ≤ n → n < 4294967296 → Form n 26 (to_be_bytes w32 n)
  in_eight : 4294967296 ≤ n → n < 2 ^ 64 → Form n 27 (to_be_bytes w64 n)

form_cmp : (n l i j : ℕ) (a b u v : List ℕ) → Form n i a → Form l j b → ordering_then (nat_cmp i j) (bytes_cmp (a ++ u) (b ++ v)) ≡ ordering_then (nat_cmp n l) (bytes_cmp u v)
form_cmp n l i j a b u v (in_short p0) (in_short p1) = refl
form_cmp n l i j a b u v (in_short p0) (in_one q1 p1) = both_less n 24 n l (bytes_cmp (a ++ u) (b ++ v)) (bytes_cmp u v) (omega arith) (omega arith)
form_cmp n l i j a b u v (in_short p0) (in_two q1 p1) = both_less n 25 n l (bytes_cmp (a ++ u) (b ++ v)) (bytes_cmp u v) (omega arith) (omega arith)
form_cmp n l i j a b u v (in_short p0) (in_four q1 p1) = both_less n 26 n l (bytes_cmp (a ++ u) (b ++ v)) (bytes_cmp u v) (omega arith) (omega arith)
form_cmp n l i j a b u v (in_short p0) (in_eight q1 p1) = both_less n 27 n l (bytes_cmp (a ++ u) (b ++ v)) (bytes_cmp u v) (omega arith) (omega arith)
form_cmp n l i j a b u v (in_one q0 p0) (in_short p1) = both_greater 24 l n l (bytes_cmp (a ++ u) (b ++ v)) (bytes_cmp u v) (omega arith) (omega arith)
form_cmp n l i j a b u v (in_one q0 p0) (in_one q1 p1) = refl
form_cmp n l i j a b u v (in_one q0 p0) (in_two q1 p1) = both_less 24 25 n l (bytes_cmp (a ++ u) (b ++ v)) (bytes_cmp u v) (omega arith) (omega arith)
form_cmp n l i j a b u v (in_one q0 p0) (in_four q1 p1) = both_less 24 26 n l (bytes_cmp (a ++ u) (b ++ v)) (bytes_cmp u v) (omega arith) (omega arith)
form_cmp n l i j a b u v (in_one q0 p0) (in_eight q1 p1) = both_less 24 27 n l (bytes_cmp (a ++ u) (b ++ v)) (bytes_cmp u v) (omega arith) (omega arith)
form_cmp n l i j a b u v (in_two q0 p0) (in_short p1) = both_greater 25 l n l (bytes_cmp (a ++ u) (b ++ v)) (bytes_cmp u v) (omega arith) (omega arith)
form_cmp n l i j a b u v (in_two q0 p0) (in_one q1 p1) = both_greater 25 24 n l (bytes_cmp (a ++ u) (b ++ v)) (bytes_cmp u v) (omega arith) (omega arith)
form_cmp n l i j a b u v (in_two q0 p0) (in_two q1 p1) = be_2 n l p0 p1 _
form_cmp n l i j a b u v (in_two q0 p0) (in_four q1 p1) = both_less 25 26 n l (bytes_cmp (a ++ u) (b ++ v)) (bytes_cmp u v) (omega arith) (omega arith)
form_cmp n l i j a b u v (in_two q0 p0) (in_eight q1 p1) = both_less 25 27 n l (bytes_cmp (a ++ u) (b ++ v)) (bytes_cmp u v) (omega arith) (omega arith)
form_cmp n l i j a b u v (in_four q0 p0) (in_short p1) = both_greater 26 l n l (bytes_cmp (a ++ u) (b ++ v)) (bytes_cmp u v) (omega arith) (omega arith)
form_cmp n l i j a b u v (in_four q0 p0) (in_one q1 p1) = both_greater 26 24 n l (bytes_cmp (a ++ u) (b ++ v)) (bytes_cmp u v) (omega arith) (omega arith)
form_cmp n l i j a b u v (in_four q0 p0) (in_two q1 p1) = both_greater 26 25 n l (bytes_cmp (a ++ u) (b ++ v)) (bytes_cmp u v) (omega arith) (omega arith)
form_cmp n l i j a b u v (in_four q0 p0) (in_four q1 p1) = be_4 n l p0 p1 _
form_cmp n l i j a b u v (in_four q0 p0) (in_eight q1 p1) = both_less 26 27 n l (bytes_cmp (a ++ u) (b ++ v)) (bytes_cmp u v) (omega arith) (omega arith)
form_cmp n l i j a b u v (in_eight q0 p0) (in_short p1) = both_greater 27 l n l (bytes_cmp (a ++ u) (b ++ v)) (bytes_cmp u v) (omega arith) (omega arith)
form_cmp n l i j a b u v (in_eight q0 p0) (in_one q1 p1) = both_greater 27 24 n l (bytes_cmp (a ++ u) (b ++ v)) (bytes_cmp u v) (omega arith) (omega arith)
form_cmp n l i j a b u v (in_eight q0 p0) (in_two q1 p1) = both_greater 27 25 n l (bytes_cmp (a ++ u) (b ++ v)) (bytes_cmp u v) (omega arith) (omega arith)
form_cmp n l i j a b u v (in_eight q0 p0) (in_four q1 p1) = both_greater 27 26 n l (bytes_cmp (a ++ u) (b ++ v)) (bytes_cmp u v) (omega arith) (omega arith)
form_cmp n l i j a b u v (in_eight q0 p0) (in_eight q1 p1) = be_8 n l p0 p1 _

low : (n i : ℕ) (a : List ℕ) → Form n i a → i < 32
low n i a (in_short p) = omega arith
low n i a (in_one q p) = omega arith
low n i a (in_two q p) = omega arith
low n i a (in_four q p) = omega arith
low n i a (in_eight q p) = omega arith

lower : (n i : ℕ) (a : List ℕ) → n < 256 → Form n i a → i < 25
lower n i a l (in_short p) = omega arith
lower n i a l (in_one q p) = omega arith
lower n i a l (in_two q p) = absurd (omega arith)
lower n i a l (in_four q p) = absurd (omega arith)
lower n i a l (in_eight q p) = absurd (omega arith)

record Formed (m n : ℕ) (b : List ℕ) : Type 0 where
  info : ℕ
  more : List ℕ
  form : Form n info more
  is : b ≡ (32 * m + info) ∷ more

choose : (m n : ℕ) (c : Bool) (k : ℕ) (x y : List ℕ) → nat_lt n k ≡ c → (n < k → Formed m n x) → (k ≤ n → Formed m n y) → Formed m n (cond c x y)
choose m n true k x y e p q = p (ltb-true n k e)
choose m n false k x y e p q = q (ltb-false n k e)

formed : (m n : ℕ) → n < 2 ^ 64 → Formed m n (shortest m n)
unfolding shortest
formed m n f =
    choose m n (nat_lt n 24) 24 _ _ refl (λ p. record { info = n; more = []; form = in_short p; is = refl })
    (λ l. choose m n (nat_lt n 256) 256 _ _ refl (λ p. record { info = 24; more = n ∷ []; form = in_one l p; is = refl })
    (λ l. choose m n (nat_lt n 65536) 65536 _ _ refl (λ p. record { info = 25; more = to_be_bytes w16 n; form = in_two l p; is = refl })
    (λ l. choose m n (nat_lt n 4294967296) 4294967296 _ _ refl (λ p. record { info = 26; more = to_be_bytes w32 n; form = in_four l p; is = refl })
    (λ l. record { info = 27; more = to_be_bytes w64 n; form = in_eight l f; is = refl }))))

-- the first byte of a tree's head, and those after it, by its place and number
data Lead (n : ℕ) : ℕ → ℕ → List ℕ → Type 0 where
  counts : (m i : ℕ) (a : List ℕ) → m < 7 → Form n i a → Lead n m (32 * m + i) a
  plain : (i : ℕ) (a : List ℕ) → n < 256 → Form n i a → Lead n 7 (32 * 7 + i) a
  in_half : n < 65536 → Lead n 8 249 (to_be_bytes w16 n)
  in_single : n < 4294967296 → Lead n 9 250 (to_be_bytes w32 n)
  in_double : n < 2 ^ 64 → Lead n 10 251 (to_be_bytes w64 n)

same_lead : (m k n l i j : ℕ) (a b u v : List ℕ) → Form n i a → Form l j b → ordering_then (nat_cmp (32 * m + i) (32 * k + j)) (bytes_cmp (a ++ u) (b ++ v)) ≡ ordering_then (nat_cmp m k) (ordering_then (nat_cmp n l) (bytes_cmp u v))
same_lead m k n l i j a b u v f g =
    let x : 32 * m + i ≡ m * 32 + i = omega arith in
    let y : 32 * k + j ≡ k * 32 + j = omega arith in
    (λ z. ordering_then (nat_cmp (x z) (y z)) (bytes_cmp (a ++ u) (b ++ v)))
    ∙ ap (λ o. ordering_then o (bytes_cmp (a ++ u) (b ++ v))) (digits 32 m k i j (low n i a f) (low l j b g))
    ∙ sym (assoc (nat_cmp m k) (nat_cmp i j) (bytes_cmp (a ++ u) (b ++ v)))
    ∙ ap (ordering_then (nat_cmp m k)) (form_cmp n l i j a b u v f g)

lead_cmp : (r q n l x y : ℕ) (a b u v : List ℕ) → Lead n r x a → Lead l q y b → ordering_then (nat_cmp x y) (bytes_cmp (a ++ u) (b ++ v)) ≡ ordering_then (nat_cmp r q) (ordering_then (nat_cmp n l) (bytes_cmp u v))
lead_cmp r q n l x y a b u v (counts m0 i0 a0 p0 f0) (counts m1 i1 a1 p1 f1) = same_lead m0 m1 n l i0 i1 a0 a1 u v f0 f1
lead_cmp r q n l x y a b u v (counts m0 i0 a0 p0 f0) (plain i1 a1 p1 f1) = let g0 : i0 < 32 = low _ _ _ f0 in let g1 : i1 < 25 = lower _ _ _ p1 f1 in both_less (32 * m0 + i0) (32 * 7 + i1) m0 7 (bytes_cmp (a ++ u) (b ++ v)) (ordering_then (nat_cmp n l) (bytes_cmp u v)) (omega arith) (omega arith)
lead_cmp r q n l x y a b u v (counts m0 i0 a0 p0 f0) (in_half p1) = let g0 : i0 < 32 = low _ _ _ f0 in both_less (32 * m0 + i0) 249 m0 8 (bytes_cmp (a ++ u) (b ++ v)) (ordering_then (nat_cmp n l) (bytes_cmp u v)) (omega arith) (omega arith)
lead_cmp r q n l x y a b u v (counts m0 i0 a0 p0 f0) (in_single p1) = let g0 : i0 < 32 = low _ _ _ f0 in both_less (32 * m0 + i0) 250 m0 9 (bytes_cmp (a ++ u) (b ++ v)) (ordering_then (nat_cmp n l) (bytes_cmp u v)) (omega arith) (omega arith)
lead_cmp r q n l x y a b u v (counts m0 i0 a0 p0 f0) (in_double p1) = let g0 : i0 < 32 = low _ _ _ f0 in both_less (32 * m0 + i0) 251 m0 10 (bytes_cmp (a ++ u) (b ++ v)) (ordering_then (nat_cmp n l) (bytes_cmp u v)) (omega arith) (omega arith)
lead_cmp r q n l x y a b u v (plain i0 a0 p0 f0) (counts m1 i1 a1 p1 f1) = let g0 : i0 < 25 = lower _ _ _ p0 f0 in let g1 : i1 < 32 = low _ _ _ f1 in both_greater (32 * 7 + i0) (32 * m1 + i1) 7 m1 (bytes_cmp (a ++ u) (b ++ v)) (ordering_then (nat_cmp n l) (bytes_cmp u v)) (omega arith) (omega arith)
lead_cmp r q n l x y a b u v (plain i0 a0 p0 f0) (plain i1 a1 p1 f1) = same_lead 7 7 n l i0 i1 a0 a1 u v f0 f1
lead_cmp r q n l x y a b u v (plain i0 a0 p0 f0) (in_half p1) = let g0 : i0 < 25 = lower _ _ _ p0 f0 in both_less (32 * 7 + i0) 249 7 8 (bytes_cmp (a ++ u) (b ++ v)) (ordering_then (nat_cmp n l) (bytes_cmp u v)) (omega arith) (omega arith)
lead_cmp r q n l x y a b u v (plain i0 a0 p0 f0) (in_single p1) = let g0 : i0 < 25 = lower _ _ _ p0 f0 in both_less (32 * 7 + i0) 250 7 9 (bytes_cmp (a ++ u) (b ++ v)) (ordering_then (nat_cmp n l) (bytes_cmp u v)) (omega arith) (omega arith)
lead_cmp r q n l x y a b u v (plain i0 a0 p0 f0) (in_double p1) = let g0 : i0 < 25 = lower _ _ _ p0 f0 in both_less (32 * 7 + i0) 251 7 10 (bytes_cmp (a ++ u) (b ++ v)) (ordering_then (nat_cmp n l) (bytes_cmp u v)) (omega arith) (omega arith)
lead_cmp r q n l x y a b u v (in_half p0) (counts m1 i1 a1 p1 f1) = let g1 : i1 < 32 = low _ _ _ f1 in both_greater 249 (32 * m1 + i1) 8 m1 (bytes_cmp (a ++ u) (b ++ v)) (ordering_then (nat_cmp n l) (bytes_cmp u v)) (omega arith) (omega arith)
lead_cmp r q n l x y a b u v (in_half p0) (plain i1 a1 p1 f1) = let g1 : i1 < 25 = lower _ _ _ p1 f1 in both_greater 249 (32 * 7 + i1) 8 7 (bytes_cmp (a ++ u) (b ++ v)) (ordering_then (nat_cmp n l) (bytes_cmp u v)) (omega arith) (omega arith)
lead_cmp r q n l x y a b u v (in_half p0) (in_half p1) = be_2 n l p0 p1 _
lead_cmp r q n l x y a b u v (in_half p0) (in_single p1) = both_less 249 250 8 9 (bytes_cmp (a ++ u) (b ++ v)) (ordering_then (nat_cmp n l) (bytes_cmp u v)) (omega arith) (omega arith)
lead_cmp r q n l x y a b u v (in_half p0) (in_double p1) = both_less 249 251 8 10 (bytes_cmp (a ++ u) (b ++ v)) (ordering_then (nat_cmp n l) (bytes_cmp u v)) (omega arith) (omega arith)
lead_cmp r q n l x y a b u v (in_single p0) (counts m1 i1 a1 p1 f1) = let g1 : i1 < 32 = low _ _ _ f1 in both_greater 250 (32 * m1 + i1) 9 m1 (bytes_cmp (a ++ u) (b ++ v)) (ordering_then (nat_cmp n l) (bytes_cmp u v)) (omega arith) (omega arith)
lead_cmp r q n l x y a b u v (in_single p0) (plain i1 a1 p1 f1) = let g1 : i1 < 25 = lower _ _ _ p1 f1 in both_greater 250 (32 * 7 + i1) 9 7 (bytes_cmp (a ++ u) (b ++ v)) (ordering_then (nat_cmp n l) (bytes_cmp u v)) (omega arith) (omega arith)
lead_cmp r q n l x y a b u v (in_single p0) (in_half p1) = both_greater 250 249 9 8 (bytes_cmp (a ++ u) (b ++ v)) (ordering_then (nat_cmp n l) (bytes_cmp u v)) (omega arith) (omega arith)
lead_cmp r q n l x y a b u v (in_single p0) (in_single p1) = be_4 n l p0 p1 _
lead_cmp r q n l x y a b u v (in_single p0) (in_double p1) = both_less 250 251 9 10 (bytes_cmp (a ++ u) (b ++ v)) (ordering_then (nat_cmp n l) (bytes_cmp u v)) (omega arith) (omega arith)
lead_cmp r q n l x y a b u v (in_double p0) (counts m1 i1 a1 p1 f1) = let g1 : i1 < 32 = low _ _ _ f1 in both_greater 251 (32 * m1 + i1) 10 m1 (bytes_cmp (a ++ u) (b ++ v)) (ordering_then (nat_cmp n l) (bytes_cmp u v)) (omega arith) (omega arith)
lead_cmp r q n l x y a b u v (in_double p0) (plain i1 a1 p1 f1) = let g1 : i1 < 25 = lower _ _ _ p1 f1 in both_greater 251 (32 * 7 + i1) 10 7 (bytes_cmp (a ++ u) (b ++ v)) (ordering_then (nat_cmp n l) (bytes_cmp u v)) (omega arith) (omega arith)
lead_cmp r q n l x y a b u v (in_double p0) (in_half p1) = both_greater 251 249 10 8 (bytes_cmp (a ++ u) (b ++ v)) (ordering_then (nat_cmp n l) (bytes_cmp u v)) (omega arith) (omega arith)
lead_cmp r q n l x y a b u v (in_double p0) (in_single p1) = both_greater 251 250 10 9 (bytes_cmp (a ++ u) (b ++ v)) (ordering_then (nat_cmp n l) (bytes_cmp u v)) (omega arith) (omega arith)
lead_cmp r q n l x y a b u v (in_double p0) (in_double p1) = be_8 n l p0 p1 _

-- what is after the head
abbrev inner : Tree → List ℕ
inner (integer i) = []
inner (bytes b) = b
inner (text b) = b
inner (array ts) = enc_all ts
inner (map ps) = enc_pairs ps
inner (tag n t) = enc t
inner (simple n) = []
inner (float f) = []

record Begun (t : Tree) : Type 0 where
  byte : ℕ
  more : List ℕ
  lead : Lead (number t) (place t) byte more
  is : enc t ≡ (byte ∷ more) ++ inner t

headed : (t : Tree) (m n : ℕ) (b : List ℕ) → m < 7 → Formed m n b → n ≡ number t → m ≡ place t → enc t ≡ b ++ inner t → Begun t
headed t m n b l h e k g = record {
  byte = 32 * m + h.info;
  more = h.more;
  lead = subst (λ z. Lead z (place t) (32 * m + h.info) h.more) e (subst (λ z. Lead n z (32 * m + h.info) h.more) k (counts m h.info h.more l h.form));
  is = g ∙ ap (λ z. z ++ inner t) h.is;
}

begun : (t : Tree) → Sized t → Begun t
begun (integer (pos n)) f = headed (integer (pos n)) 0 n (shortest 0 n) (omega arith) (formed 0 n f) refl refl (sym (append-nil (shortest 0 n)))
begun (integer (negsuc n)) f = headed (integer (negsuc n)) 1 n (shortest 1 n) (omega arith) (formed 1 n f) refl refl (sym (append-nil (shortest 1 n)))
begun (bytes b) f = headed (bytes b) 2 (length b) (shortest 2 (length b)) (omega arith) (formed 2 (length b) f) refl refl refl
begun (text b) f = headed (text b) 3 (length b) (shortest 3 (length b)) (omega arith) (formed 3 (length b) f) refl refl refl
begun (array ts) f = headed (array ts) 4 (tree_count ts) (shortest 4 (tree_count ts)) (omega arith) (formed 4 (tree_count ts) f.0) refl refl refl
begun (map ps) f = headed (map ps) 5 (pair_count ps) (shortest 5 (pair_count ps)) (omega arith) (formed 5 (pair_count ps) f.0) refl refl refl
begun (tag n t) f = headed (tag n t) 6 n (shortest 6 n) (omega arith) (formed 6 n f.0) refl refl refl
begun (simple n) f =
    let h = formed 7 n (omega arith) in
    record { byte = 32 * 7 + h.info; more = h.more; lead = plain h.info h.more f h.form; is = h.is ∙ sym (append-nil _) }
begun (float (Half n)) f = record { byte = 249; more = to_be_bytes w16 n; lead = in_half f; is = sym (append-nil _) }
begun (float (Single n)) f = record { byte = 250; more = to_be_bytes w32 n; lead = in_single f; is = sym (append-nil _) }
begun (float (Double n)) f = record { byte = 251; more = to_be_bytes w64 n; lead = in_double f; is = sym (append-nil _) }

head_is : (t s : Tree) → Sized t → Sized s → (u v : List ℕ)
    → bytes_cmp (enc t ++ u) (enc s ++ v) ≡ ordering_then (nat_cmp (place t) (place s)) (ordering_then (nat_cmp (number t) (number s)) (bytes_cmp (inner t ++ u) (inner s ++ v)))
head_is t s f g u v =
    let a = begun t f in
    let b = begun s g in
    let x = ap (λ z. z ++ u) a.is ∙ append_assoc (a.byte ∷ a.more) (inner t) u in
    let y = ap (λ z. z ++ v) b.is ∙ append_assoc (b.byte ∷ b.more) (inner s) v in
    (λ i. bytes_cmp (x i) (y i)) ∙ lead_cmp (place t) (place s) (number t) (number s) a.byte b.byte a.more b.more (inner t ++ u) (inner s ++ v) a.lead b.lead

-- ---- trees

mutual
  pub text_is : (t s : Tree) → Sized t → Sized s → (u v : List ℕ) → bytes_cmp (enc t ++ u) (enc s ++ v) ≡ ordering_then (heads_cmp t s) (bytes_cmp u v)
  text_is (bytes a) (bytes b) f g u v =
      head_is (bytes a) (bytes b) f g u v ∙ where_equal (length a) (length b) _ (bytes_cmp a b) (bytes_cmp u v) (same_long a b u v)
  text_is (text a) (text b) f g u v =
      head_is (text a) (text b) f g u v ∙ where_equal (length a) (length b) _ (bytes_cmp a b) (bytes_cmp u v) (same_long a b u v)
  text_is (array ts) (array ss) f g u v =
      head_is (array ts) (array ss) f g u v ∙ where_equal (tree_count ts) (tree_count ss) _ (all_cmp ts ss) (bytes_cmp u v) (all_is ts ss f.1 g.1 u v)
  text_is (map ps) (map qs) f g u v =
      head_is (map ps) (map qs) f g u v ∙ where_equal (pair_count ps) (pair_count qs) _ (each_cmp ps qs) (bytes_cmp u v) (each_is ps qs f.1 g.1 u v)
  text_is (tag n t) (tag m s) f g u v =
      head_is (tag n t) (tag m s) f g u v ∙ where_equal n m _ (heads_cmp t s) (bytes_cmp u v) (λ e. text_is t s f.1 g.1 u v)
  text_is (integer i) (integer j) f g u v = head_is (integer i) (integer j) f g u v ∙ assoc (nat_cmp (place (integer i)) (place (integer j))) _ (bytes_cmp u v)
  text_is (simple n) (simple m) f g u v = head_is (simple n) (simple m) f g u v
  text_is (float w) (float x) f g u v = head_is (float w) (float x) f g u v ∙ assoc (nat_cmp (place (float w)) (place (float x))) _ (bytes_cmp u v)
  text_is t s f g u v =
      head_is t s f g u v
      ∙ apart (place t) (place s) (ordering_then (nat_cmp (number t) (number s)) (bytes_cmp (inner t ++ u) (inner s ++ v))) (ordering_then (nat_cmp (number t) (number s)) (bytes_cmp u v)) (λ e. let k = places t in let l = places s in omega (arith, k.0, k.1, l.0, l.1, e))
      ∙ assoc (nat_cmp (place t) (place s)) (nat_cmp (number t) (number s)) (bytes_cmp u v)

  all_is : (ts ss : Trees) → SizedAll ts → SizedAll ss → (u v : List ℕ) → tree_count ts ≡ tree_count ss → bytes_cmp (enc_all ts ++ u) (enc_all ss ++ v) ≡ ordering_then (all_cmp ts ss) (bytes_cmp u v)
  all_is no_trees no_trees f g u v e = refl
  all_is no_trees (one_more s ss) f g u v e = absurd (omega (arith, e))
  all_is (one_more t ts) no_trees f g u v e = absurd (omega (arith, e))
  all_is (one_more t ts) (one_more s ss) f g u v e =
      (λ i. bytes_cmp (append_assoc (enc t) (enc_all ts) u i) (append_assoc (enc s) (enc_all ss) v i))
      ∙ text_is t s f.0 g.0 (enc_all ts ++ u) (enc_all ss ++ v)
      ∙ ap (ordering_then (heads_cmp t s)) (all_is ts ss f.1 g.1 u v (omega (arith, e)))
      ∙ assoc (heads_cmp t s) (all_cmp ts ss) (bytes_cmp u v)

  each_is : (ps qs : Pairs) → SizedPairs ps → SizedPairs qs → (u v : List ℕ) → pair_count ps ≡ pair_count qs → bytes_cmp (enc_pairs ps ++ u) (enc_pairs qs ++ v) ≡ ordering_then (each_cmp ps qs) (bytes_cmp u v)
  each_is no_pairs no_pairs f g u v e = refl
  each_is no_pairs (pair_more l w qs) f g u v e = absurd (omega (arith, e))
  each_is (pair_more k v ps) no_pairs f g a b e = absurd (omega (arith, e))
  each_is (pair_more k x ps) (pair_more l y qs) f g u v e =
      let p = append_assoc (enc k) (enc x ++ enc_pairs ps) u ∙ ap (λ z. enc k ++ z) (append_assoc (enc x) (enc_pairs ps) u) in
      let q = append_assoc (enc l) (enc y ++ enc_pairs qs) v ∙ ap (λ z. enc l ++ z) (append_assoc (enc y) (enc_pairs qs) v) in
      (λ i. bytes_cmp (p i) (q i))
      ∙ text_is k l f.0 g.0 _ _
      ∙ ap (ordering_then (heads_cmp k l)) (text_is x y f.1 g.1 _ _ ∙ ap (ordering_then (heads_cmp x y)) (each_is ps qs f.2 g.2 u v (omega (arith, e))))
      ∙ assoc (heads_cmp k l) (heads_cmp x y) (ordering_then (each_cmp ps qs) (bytes_cmp u v))
      ∙ assoc (ordering_then (heads_cmp k l) (heads_cmp x y)) (each_cmp ps qs) (bytes_cmp u v)

mutual
  pub fits_sized : (t : Tree) → Fits t → Sized t
  fits_sized (integer i) f = f
  fits_sized (bytes b) f = f.0
  fits_sized (text b) f = f.0
  fits_sized (array ts) f = (f.0, all_sized ts f.1)
  fits_sized (map ps) f = (f.0, pairs_sized ps f.1)
  fits_sized (tag n t) f = (f.0, fits_sized t f.1)
  fits_sized (simple n) f = f
  fits_sized (float w) f = f

  all_sized : (ts : Trees) → FitAll ts → SizedAll ts
  all_sized no_trees f = f
  all_sized (one_more t ts) f = (fits_sized t f.0, all_sized ts f.1)

  pairs_sized : (ps : Pairs) → FitPairs ps → SizedPairs ps
  pairs_sized no_pairs f = f
  pairs_sized (pair_more k v ps) f = (fits_sized k f.0, fits_sized v f.1, pairs_sized ps f.2)

-- the order of encodings is that of heads and contents
pub heads_order : (t s : Tree) → Sized t → Sized s → bytewise t s ≡ heads_cmp t s
heads_order t s f g = (λ i. bytes_cmp (sym (append-nil (enc t)) i) (sym (append-nil (enc s)) i)) ∙ text_is t s f g [] [] ∙ then_equal (heads_cmp t s)

-- an order that ties equal trees alone
unbroken : (o : Ordering) (t s : Tree) → (o ≡ Equal → t ≡ s) → o ≡ ordering_then o (tree_cmp t s)
unbroken Less t s h = refl
unbroken Equal t s h = sym (ap (λ z. tree_cmp z s) (h refl) ∙ tied_itself tree_total s)
unbroken Greater t s h = refl

pub text_order : (t s : Tree) → Sized t → Sized s → bytewise t s ≡ text_cmp t s
text_order t s f g = unbroken (bytewise t s) t s (λ e. heads_tied t s (sym (heads_order t s f g) ∙ e))

pub canonical_order : (t s : Tree) → Sized t → Sized s → canonical t s ≡ canonical_cmp t s
canonical_order t s f g = unbroken (canonical t s) t s (λ e. heads_tied t s (sym (heads_order t s f g) ∙ (then_tied _ (bytewise t s) e).1))
