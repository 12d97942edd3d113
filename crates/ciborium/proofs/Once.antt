-- No spelling begins another, and one list spells at most one tree.
use Rattle.std.proofs.Common.{◌≡◌, ℕ, ℤ, pos, negsuc, ◌+◌, ◌<◌, ◌⊎◌, inl, inr, List, [], ◌∷◌, ◌++◌, Option, Some, None, refl, sym, ap, ◌∙◌, arith, append_assoc}
use Rattle.std.proofs.lemmas.List.{append_cancel_left}
use Rattle.std.specs.Str.{IsUtf8}
use Rattle.ciborium_ll.specs.declared.hdr.Header.{Header}
use Rattle.ciborium_ll.specs.declared.hdr.Header.TheVariants.{Positive, Negative, Simple, Tag, Break, Bytes, Text, Array, Map, Float}
use Rattle.ciborium_ll.specs.Title.{Title}
use Rattle.ciborium_ll.proofs.TitleLaws.{one_title}
use Rattle.ciborium_value.specs.Tree.{Tree, integer, bytes, text, array, map, tag, simple, float, Trees, no_trees, one_more, Pairs, no_pairs, pair_more, tree_count, pair_count}
use Rattle.ciborium_ll.specs.Framing.{joined, Frame, whole, cut, Any, bytes_same, bytes_unbroken, text_same, text_unbroken}
use Rattle.ciborium_ll.proofs.Closings.{Same, split_heads, break_title}
use Rattle.ciborium_ll.proofs.Framed.{frame_once}
use Rattle.ciborium_value.specs.Encoding.{int_head}
use Rattle.ciborium.specs.Spelling.{Around, Spells, SpellsAll, SpellsPairs}

pub title_once : (a b u v : List ℕ) (h k : Header) → Title a h → Title b k → a ++ u ≡ b ++ v → (h ≡ k) × (a ≡ b)
title_once a b u v h k p q e = let w = one_title a b u v h k p q e in (w.1, w.0)

pub regroup : (a t r u : List ℕ) → a ≡ t ++ r → a ++ u ≡ t ++ (r ++ u)
regroup a t r u e = ap (λ z. z ++ u) e ∙ append_assoc t r u

-- two lists that begin with heads, and go on to one list
pub split : (a b s t l r u v : List ℕ) (h k : Header) → Title s h → Title t k → a ≡ s ++ l → b ≡ t ++ r → a ++ u ≡ b ++ v → Same s t h k (l ++ u) (r ++ v)
split a b s t l r u v h k p q ea eb e = split_heads s t (l ++ u) (r ++ v) h k p q (sym (regroup a s l u ea) ∙ e ∙ regroup b t r v eb)

unfoldable pub head_kind : Header → ℕ
head_kind (Positive n) = 0
head_kind (Negative n) = 0
head_kind (Bytes n) = 1
head_kind (Text n) = 2
head_kind (Array n) = 3
head_kind (Map n) = 4
head_kind (Tag n) = 5
head_kind (Simple n) = 6
head_kind (Float w) = 7
head_kind Break = 8

abbrev pub tree_kind : Tree → ℕ
tree_kind (integer i) = 0
tree_kind (bytes b) = 1
tree_kind (text b) = 2
tree_kind (array ts) = 3
tree_kind (map ps) = 4
tree_kind (tag n t) = 5
tree_kind (simple n) = 6
tree_kind (float w) = 7

kind_low : (t : Tree) → tree_kind t < 8
kind_low (integer i) = omega arith
kind_low (bytes b) = omega arith
kind_low (text b) = omega arith
kind_low (array ts) = omega arith
kind_low (map ps) = omega arith
kind_low (tag n t) = omega arith
kind_low (simple n) = omega arith
kind_low (float w) = omega arith

-- the head that a spelling begins with
pub record First (b : List ℕ) (kind : ℕ) : Type 0 where
  pub title : List ℕ
  pub rest : List ℕ
  pub head : Header
  pub is_title : Title title head
  pub whole_is : b ≡ title ++ rest
  pub kind_is : head_kind head ≡ kind

pub append_nil : (b : List ℕ) → b ≡ b ++ []
append_nil [] = refl
append_nil (x ∷ xs) = ap (λ z. x ∷ z) (append_nil xs)

int_kind : (i : ℤ) → head_kind (int_head i) ≡ 0
unfolding head_kind
int_kind (pos n) = refl
int_kind (negsuc n) = refl

pub frame_first : (k : Option ℕ → Header) (P : List ℕ → Type 0) (n : ℕ) → ((o : Option ℕ) → head_kind (k o) ≡ n) → (b : List ℕ) (xs : List (List ℕ)) → Frame k P b xs → First b n
frame_first k P n kinds b xs (whole _ body title t _ e) = record { title = title; rest = body; head = _; is_title = t; whole_is = e; kind_is = kinds _ }
frame_first k P n kinds b xs (cut _ inner title _ t fs e) = record { title = title; rest = _; head = _; is_title = t; whole_is = e ∙ append_assoc title inner (255 ∷ []); kind_is = kinds _ }

around_first : (k : Option ℕ → Header) (n c : ℕ) → ((o : Option ℕ) → head_kind (k o) ≡ n) → (b : List ℕ) (P : List ℕ → Type 0) → Around k c b P → First b n
around_first k n c kinds b P (inl (title, inner, t, p, e)) = record { title = title; rest = inner; head = _; is_title = t; whole_is = e; kind_is = kinds _ }
around_first k n c kinds b P (inr (title, inner, t, p, e)) = record { title = title; rest = _; head = _; is_title = t; whole_is = e; kind_is = kinds _ }

pub first : (t : Tree) (b : List ℕ) → Spells b t → First b (tree_kind t)
unfolding head_kind
first (integer i) b s = record { title = b; rest = []; head = int_head i; is_title = s; whole_is = append_nil b; kind_is = int_kind i }
first (bytes x) b s = frame_first Bytes Any 1 (λ o. refl) b s.0 s.1
first (text x) b s = frame_first Text IsUtf8 2 (λ o. refl) b s.0 s.1
first (array ts) b s = around_first Array 3 (tree_count ts) (λ o. refl) b (λ inner. SpellsAll inner ts) s
first (map ps) b s = around_first Map 4 (pair_count ps) (λ o. refl) b (λ inner. SpellsPairs inner ps) s
first (tag n t) b s = record { title = s.0; rest = s.1; head = Tag n; is_title = s.2; whole_is = s.4; kind_is = refl }
first (simple n) b s = record { title = b; rest = []; head = Simple n; is_title = s; whole_is = append_nil b; kind_is = refl }
first (float w) b s = record { title = b; rest = []; head = Float w; is_title = s; whole_is = append_nil b; kind_is = refl }

kinds_once : (a b u v : List ℕ) (n m : ℕ) → First a n → First b m → a ++ u ≡ b ++ v → n ≡ m
kinds_once a b u v n m p q e =
    let s = split a b p.title q.title p.rest q.rest u v p.head q.head p.is_title q.is_title p.whole_is q.whole_is e in
    sym p.kind_is ∙ ap head_kind s.heads ∙ q.kind_is

-- no spelling begins with a break
pub no_break : (t : Tree) (b u v : List ℕ) → Spells b t → b ++ u ≡ 255 ∷ v → ⊥
unfolding head_kind
no_break t b u v s e =
    let p = first t b s in
    let w = split b (255 ∷ []) p.title (255 ∷ []) p.rest [] u v p.head Break p.is_title break_title p.whole_is refl e in
    let k : tree_kind t ≡ 8 = sym p.kind_is ∙ ap head_kind w.heads in
    let l : tree_kind t < 8 = kind_low t in
    omega arith

-- the same number of parts, or a break after both
abbrev Ends : ℕ → ℕ → List ℕ → List ℕ → Type 0
Ends n m u v = (n ≡ m) ⊎ ((x y : List ℕ) × (u ≡ 255 ∷ x) × (v ≡ 255 ∷ y))

module _ (k : Option ℕ → Header) (inj : (o p : Option ℕ) → k o ≡ k p → o ≡ p) where
  around_once : {A : Type 0} (x y : A) (n m : ℕ) (a b u v : List ℕ) (P Q : List ℕ → Type 0)
      → ((i j u v : List ℕ) → P i → Q j → i ++ u ≡ j ++ v → Ends n m u v → (x ≡ y) × (i ≡ j))
      → Around k n a P → Around k m b Q → a ++ u ≡ b ++ v → (x ≡ y) × (a ≡ b)
  around_once x y n m a b u v P Q each (inl (s, i, p, pi, ea)) (inl (t, j, q, qj, eb)) e =
      let w = split a b s t i j u v (k (Some n)) (k (Some m)) p q ea eb e in
      let c : Some n ≡ Some m = inj (Some n) (Some m) w.heads in
      let r = each i j u v pi qj w.rests (inl (cc)) in
      (r.0, ea ∙ ap (λ z. z ++ i) w.titles ∙ ap (λ z. t ++ z) r.1 ∙ sym eb)
  around_once x y n m a b u v P Q each (inl (s, i, p, pi, ea)) (inr (t, j, q, qj, eb)) e =
      let w = split a b s t i (j ++ 255 ∷ []) u v (k (Some n)) (k None) p q ea eb e in
      let c : Some n ≡ None = inj (Some n) None w.heads in
      cc
  around_once x y n m a b u v P Q each (inr (s, i, p, pi, ea)) (inl (t, j, q, qj, eb)) e =
      let w = split a b s t (i ++ 255 ∷ []) j u v (k None) (k (Some m)) p q ea eb e in
      let c : None ≡ Some m = inj None (Some m) w.heads in
      cc
  around_once x y n m a b u v P Q each (inr (s, i, p, pi, ea)) (inr (t, j, q, qj, eb)) e =
      let w = split a b s t (i ++ 255 ∷ []) (j ++ 255 ∷ []) u v (k None) (k None) p q ea eb e in
      let r = each i j (255 ∷ u) (255 ∷ v) pi qj (sym (append_assoc i (255 ∷ []) u) ∙ w.rests ∙ append_assoc j (255 ∷ []) v) (inr (u, v, refl, refl)) in
      (r.0, ea ∙ ap (λ z. z ++ (i ++ 255 ∷ [])) w.titles ∙ ap (λ z. t ++ (z ++ 255 ∷ [])) r.1 ∙ sym eb)

pub array_same : (o p : Option ℕ) → Array o ≡ Array p → o ≡ p
array_same o p e = cc

pub map_same : (o p : Option ℕ) → Map o ≡ Map p → o ≡ p
map_same o p e = cc

int_same : (i j : ℤ) → int_head i ≡ int_head j → i ≡ j
int_same (pos n) (pos m) e = cc
int_same (pos n) (negsuc m) e = cc
int_same (negsuc n) (pos m) e = cc
int_same (negsuc n) (negsuc m) e = cc

pub kind_0 : (o : Option ℕ) → head_kind (Bytes o) ≡ 1
unfolding head_kind
kind_0 o = refl

pub kind_1 : (o : Option ℕ) → head_kind (Text o) ≡ 2
unfolding head_kind
kind_1 o = refl

kinds_of : (a b u v : List ℕ) (t s : Tree) → Spells a t → Spells b s → a ++ u ≡ b ++ v → tree_kind t ≡ tree_kind s
kinds_of a b u v t s p q e = kinds_once a b u v (tree_kind t) (tree_kind s) (first t a p) (first s b q) e

fewer : (n m : ℕ) (u v : List ℕ) → Ends (1 + n) (1 + m) u v → Ends n m u v
fewer n m u v (inl e) = inl (omega arith)
fewer n m u v (inr w) = inr w

mutual
  pub once : (t s : Tree) (a b u v : List ℕ) → Spells a t → Spells b s → a ++ u ≡ b ++ v → (t ≡ s) × (a ≡ b)
  once (integer i) (integer j) a b u v p q e =
      let w = title_once a b u v (int_head i) (int_head j) p q e in
      (ap integer (int_same i j w.0), w.1)
  once (bytes x) (bytes y) a b u v p q e =
      let w = frame_once Bytes bytes_same bytes_unbroken Any a b u v p.0 q.0 p.1 q.1 e in
      (ap bytes (p.2 ∙ ap joined w.0 ∙ sym q.2), w.1)
  once (text x) (text y) a b u v p q e =
      let w = frame_once Text text_same text_unbroken IsUtf8 a b u v p.0 q.0 p.1 q.1 e in
      (ap text (p.2 ∙ ap joined w.0 ∙ sym q.2), w.1)
  once (array ts) (array ss) a b u v p q e =
      let w = around_once Array array_same ts ss (tree_count ts) (tree_count ss) a b u v (λ inner. SpellsAll inner ts) (λ inner. SpellsAll inner ss)
      (λ i j u v pi qj f g. once_all ts ss i j u v pi qj f g) p q e in
      (ap array w.0, w.1)
  once (map ps) (map ss) a b u v p q e =
      let w = around_once Map map_same ps ss (pair_count ps) (pair_count ss) a b u v (λ inner. SpellsPairs inner ps) (λ inner. SpellsPairs inner ss)
      (λ i j u v pi qj f g. once_pairs ps ss i j u v pi qj f g) p q e in
      (ap map w.0, w.1)
  once (tag n t) (tag m s) a b u v p q e =
      let w = split a b p.0 q.0 p.1 q.1 u v (Tag n) (Tag m) p.2 q.2 p.4 q.4 e in
      let h : Tag n ≡ Tag m = w.heads in
      let r = once t s p.1 q.1 u v p.3 q.3 w.rests in
      let r0 : t ≡ s = r.0 in
      (cc, p.4 ∙ ap (λ z. z ++ p.1) w.titles ∙ ap (λ z. q.0 ++ z) r.1 ∙ sym q.4)
  once (simple n) (simple m) a b u v p q e =
      let w = title_once a b u v (Simple n) (Simple m) p q e in
      let h : Simple n ≡ Simple m = w.0 in
      (cc, w.1)
  once (float x) (float y) a b u v p q e =
      let w = title_once a b u v (Float x) (Float y) p q e in
      let h : Float x ≡ Float y = w.0 in
      (cc, w.1)
  once t s a b u v p q e = absurd (let k : tree_kind t ≡ tree_kind s = kinds_of a b u v t s p q e in omega arith)

  once_all : (ts ss : Trees) (a b u v : List ℕ) → SpellsAll a ts → SpellsAll b ss → a ++ u ≡ b ++ v → Ends (tree_count ts) (tree_count ss) u v → (ts ≡ ss) × (a ≡ b)
  once_all no_trees no_trees a b u v p q e ends = (refl, p ∙ sym q)
  once_all no_trees (one_more s ss) a b u v p q e (inl n) = absurd (omega arith)
  once_all no_trees (one_more s ss) a b u v p q e (inr (x, y, f, g)) =
      absurd (no_break s q.0 (q.1 ++ v) x q.2 (sym (regroup b q.0 q.1 v q.4) ∙ sym e ∙ ap (λ z. z ++ u) p ∙ f))
  once_all (one_more t ts) no_trees a b u v p q e (inl n) = absurd (omega arith)
  once_all (one_more t ts) no_trees a b u v p q e (inr (x, y, f, g)) =
      absurd (no_break t p.0 (p.1 ++ u) y p.2 (sym (regroup a p.0 p.1 u p.4) ∙ e ∙ ap (λ z. z ++ v) q ∙ g))
  once_all (one_more t ts) (one_more s ss) a b u v p q e ends =
      let e' : p.0 ++ (p.1 ++ u) ≡ q.0 ++ (q.1 ++ v) = sym (regroup a p.0 p.1 u p.4) ∙ e ∙ regroup b q.0 q.1 v q.4 in
      let h = once t s p.0 q.0 (p.1 ++ u) (q.1 ++ v) p.2 q.2 e' in
      let e'' : p.1 ++ u ≡ q.1 ++ v = append_cancel_left p.0 (p.1 ++ u) (q.1 ++ v) (e' ∙ ap (λ z. z ++ (q.1 ++ v)) (sym h.1)) in
      let r = once_all ts ss p.1 q.1 u v p.3 q.3 e'' (fewer (tree_count ts) (tree_count ss) u v ends) in
      (ap (λ z. one_more z ts) h.0 ∙ ap (λ z. one_more s z) r.0, p.4 ∙ ap (λ z. z ++ p.1) h.1 ∙ ap (λ z. q.0 ++ z) r.1 ∙ sym q.4)

  once_pairs : (ts ss : Pairs) (a b u v : List ℕ) → SpellsPairs a ts → SpellsPairs b ss → a ++ u ≡ b ++ v → Ends (pair_count ts) (pair_count ss) u v → (ts ≡ ss) × (a ≡ b)
  once_pairs no_pairs no_pairs a b u v p q e ends = (refl, p ∙ sym q)
  once_pairs no_pairs (pair_more k s ss) a b u v p q e (inl n) = absurd (omega arith)
  once_pairs no_pairs (pair_more k s ss) a b u v p q e (inr (x, y, f, g)) =
      absurd (no_break k q.0 ((q.1 ++ q.2) ++ v) x q.3 (sym (regroup b q.0 (q.1 ++ q.2) v q.6) ∙ sym e ∙ ap (λ z. z ++ u) p ∙ f))
  once_pairs (pair_more k t ts) no_pairs a b u v p q e (inl n) = absurd (omega arith)
  once_pairs (pair_more k t ts) no_pairs a b u v p q e (inr (x, y, f, g)) =
      absurd (no_break k p.0 ((p.1 ++ p.2) ++ u) y p.3 (sym (regroup a p.0 (p.1 ++ p.2) u p.6) ∙ e ∙ ap (λ z. z ++ v) q ∙ g))
  once_pairs (pair_more k t ts) (pair_more l s ss) a b u v p q e ends =
      let e0 : p.0 ++ ((p.1 ++ p.2) ++ u) ≡ q.0 ++ ((q.1 ++ q.2) ++ v) = sym (regroup a p.0 (p.1 ++ p.2) u p.6) ∙ e ∙ regroup b q.0 (q.1 ++ q.2) v q.6 in
      let h = once k l p.0 q.0 ((p.1 ++ p.2) ++ u) ((q.1 ++ q.2) ++ v) p.3 q.3 e0 in
      let e1 : (p.1 ++ p.2) ++ u ≡ (q.1 ++ q.2) ++ v = append_cancel_left p.0 ((p.1 ++ p.2) ++ u) ((q.1 ++ q.2) ++ v) (e0 ∙ ap (λ z. z ++ ((q.1 ++ q.2) ++ v)) (sym h.1)) in
      let e2 : p.1 ++ (p.2 ++ u) ≡ q.1 ++ (q.2 ++ v) = sym (append_assoc p.1 p.2 u) ∙ e1 ∙ append_assoc q.1 q.2 v in
      let h' = once t s p.1 q.1 (p.2 ++ u) (q.2 ++ v) p.4 q.4 e2 in
      let e3 : p.2 ++ u ≡ q.2 ++ v = append_cancel_left p.1 (p.2 ++ u) (q.2 ++ v) (e2 ∙ ap (λ z. z ++ (q.2 ++ v)) (sym h'.1)) in
      let r = once_pairs ts ss p.2 q.2 u v p.5 q.5 e3 (fewer (pair_count ts) (pair_count ss) u v ends) in (
        ap (λ z. pair_more z t ts) h.0 ∙ ap (λ z. pair_more l z ts) h'.0 ∙ ap (λ z. pair_more l s z) r.0,
        p.6 ∙ ap (λ z. z ++ (p.1 ++ p.2)) h.1 ∙ ap (λ z. q.0 ++ (z ++ p.2)) h'.1 ∙ ap (λ z. q.0 ++ (q.1 ++ z)) r.1 ∙ sym q.6,
      )
