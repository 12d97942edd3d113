-- How the flag "exact so far" goes on, from title to title and from fold to fold.
use Rattle.std.proofs.Common.{◌≡◌, ◌≢◌, ◌≤◌, ◌<◌, ℕ, pos, negsuc, suc, ◌-◌, ◌^◌, Bool, true, false, cond, List, [], ◌∷◌, ◌++◌, length, Some, None, refl, sym, ap, subst, ◌∙◌, arith, nat_eq, nat_lt, nat_le, ◌&&◌, ◌||◌, append_assoc}
use Rattle.std.specs.Prelude.{MatchBool}
use Rattle.std.proofs.lemmas.List.{append_cancel_left}
use Rattle.ciborium_ll.specs.declared.hdr.Header.{Header}
use Rattle.ciborium_ll.specs.declared.hdr.Header.TheVariants.{Bytes, Text, Array, Map}
use Rattle.ciborium_ll.specs.Title.{Title, title_of, FitsHeader}
use Rattle.ciborium_ll.proofs.Shortest.{title_of_is}
use Rattle.ciborium_value.specs.Tree.{Tree, integer, bytes, text, array, map, tag, Trees, no_trees, one_more, Pairs, no_pairs, pair_more, tree_count, pair_count, flat}
use Rattle.ciborium_value.specs.Encoding.{enc, enc_all, enc_pairs}
use Rattle.ciborium_value.specs.Folding.{tagged, fold_bytes, fold_number, big_endian_from, without_zeros}
use Rattle.ciborium.specs.Spelling.{Spells, SpellsAll}
use Rattle.ciborium.specs.Meaning.{meaning, meanings}
use Rattle.ciborium.specs.Front.{ReadsAll}
use Rattle.ciborium.proofs.Once.{append_nil, once, title_once}
use Rattle.ciborium.proofs.ExactSound.{sound_spells}
use Rattle.ciborium.specs.Frames.{snoc}
use Rattle.ciborium.proofs.ReadLemmas.{meanings_parts}
use Rattle.ciborium.specs.Exact.{Sound, AllSound, Says, level_enc, levels_enc, AllFit}
use Rattle.ciborium.specs.Levels.{Level, Begun, Within}

-- flags
pub says_and : (w u : Bool) (P Q : Type 0) → Says w P → Says u Q → Says (w && u) (P × Q)
says_and true true P Q p q = (p, q)
says_and true false P Q p q = λ x. q x.1
says_and false u P Q p q = λ x. p x.0

-- if it was true, the flag says whether Q, and else it stays false
pub says_kept : (w w' : Bool) (P Q : Type 0) → Says w P → MatchBool w (Says w' Q) (w' ≡ false) → Says w' (P × Q)
says_kept true true P Q p q = (p, q)
says_kept true false P Q p q = λ x. q x.1
says_kept false w' P Q p e = subst (λ (z : Bool). Says z (P × Q)) (sym e) (λ x. p x.0)

pub says_as : (w : Bool) (P Q : Type 0) → (P → Q) → (Q → P) → Says w P → Says w Q
says_as true P Q to back p = to p
says_as false P Q to back p = λ q. p (back q)

-- a title and an item at the front of more
pub title_front : (h : Header) (b x y : List ℕ) → Title b h → FitsHeader h → b ++ x ≡ title_of h ++ y → (b ≡ title_of h) × (x ≡ y)
title_front h b x y t f e =
    let w = title_once b (title_of h) x y h h t (title_of_is h f) e in
    (w.1, append_cancel_left (title_of h) x y (ap (λ z. z ++ x) (sym w.1) ∙ e))

-- an open title begins no definite one
pub other_front : (h k : Header) (b x y : List ℕ) → Title b h → FitsHeader k → h ≢ k → b ++ x ≡ title_of k ++ y → ⊥
other_front h k b x y t f not e = not (title_once b (title_of k) x y h k t (title_of_is k f) e).0

pub spelled_front : (t v : Tree) (b x y : List ℕ) → Spells b t → meaning t ≡ Some v → Sound v → b ++ x ≡ enc v ++ y → (t ≡ v) × (b ≡ enc v) × (x ≡ y)
spelled_front t v b x y s m f e =
    let w = once t v b (enc v) x y s (sound_spells v f) e in
    (w.0, w.1, append_cancel_left (enc v) x y (ap (λ z. z ++ x) (sym w.1) ∙ e))

spelled_all : (ts vs : Trees) (b x y : List ℕ) → SpellsAll b ts → meanings ts ≡ Some vs → AllSound vs → b ++ x ≡ enc_all vs ++ y → (b ≡ enc_all vs) × (x ≡ y)
spelled_all no_trees vs b x y s m f e =
    let i : no_trees ≡ vs = cc in
    let g : b ++ x ≡ y = subst (λ (z : Trees). b ++ x ≡ enc_all z ++ y) (sym i) e in
    (s ∙ ap enc_all i, ap (λ z. z ++ x) (sym s) ∙ g)
spelled_all (one_more t ts) vs b x y (front, rest, s, ss, is) m f e =
    let p = meanings_parts t ts vs m in
    let fits : Sound p.0 × AllSound p.1 = subst AllSound p.4 f in
    let g : front ++ (rest ++ x) ≡ enc p.0 ++ (enc_all p.1 ++ y) =
    sym (append_assoc front rest x) ∙ ap (λ z. z ++ x) (sym is) ∙ e ∙ ap (λ z. enc_all z ++ y) p.4 ∙ append_assoc (enc p.0) (enc_all p.1) y in
    let w = spelled_front t p.0 front (rest ++ x) (enc_all p.1 ++ y) s p.2 fits.0 g in
    let ws = spelled_all ts p.1 rest x y ss p.3 fits.1 w.2 in
    (is ∙ ap (λ z. z ++ rest) w.1 ∙ ap (λ z. enc p.0 ++ z) ws.0 ∙ ap enc_all (sym p.4), ws.1)

pub items_front : (limit : ℕ) (vs : Trees) (b x y : List ℕ) → ReadsAll b limit vs → AllSound vs → b ++ x ≡ enc_all vs ++ y → (b ≡ enc_all vs) × (x ≡ y)
items_front limit vs b x y r f e = spelled_all r.trees vs b x y r.spells r.means f e

-- one more item
pub enc_snoc : (vs : Trees) (v : Tree) → enc_all (snoc vs v) ≡ enc_all vs ++ enc v
enc_snoc no_trees v = sym (append_nil (enc v))
enc_snoc (one_more u us) v = ap (λ z. enc u ++ z) (enc_snoc us v) ∙ sym (append_assoc (enc u) (enc_all us) (enc v))

-- a level that has begun, at the front of more
pub begun_front : (low : ℕ) (f : Level) (b x y : List ℕ) → Begun low f b → FitsHeader f.head → AllSound f.done → b ++ x ≡ level_enc f.head f.done ++ y → (b ≡ level_enc f.head f.done) × (x ≡ y)
begun_front low f b x y g fh fd e =
    let k : g.title ++ (g.inner ++ x) ≡ title_of f.head ++ (enc_all f.done ++ y) =
    sym (append_assoc g.title g.inner x) ∙ ap (λ z. z ++ x) (sym g.whole) ∙ e ∙ append_assoc (title_of f.head) (enc_all f.done) y in
    let t = title_front f.head g.title (g.inner ++ x) (enc_all f.done ++ y) g.is_title fh k in
    let i = items_front low f.done g.inner x y g.reads fd t.1 in
    (g.whole ∙ ap (λ z. z ++ g.inner) t.0 ∙ ap (λ z. title_of f.head ++ z) i.0, i.1)

flat_enc : (ps : Pairs) → enc_all (flat ps) ≡ enc_pairs ps
flat_enc no_pairs = refl
flat_enc (pair_more k v ps) = ap (λ z. enc k ++ (enc v ++ z)) (flat_enc ps)

-- an open level is never the encoding of anything that it means
pub open_array : (title inner : List ℕ) (vs : Trees) → Title title (Array None) → tree_count vs < 2 ^ 64 → title ++ inner ≡ enc (array vs) → ⊥
open_array title inner vs t f e = other_front (Array None) (Array (Some (tree_count vs))) title inner (enc_all vs) t f (λ i. cc) e

pub open_map : (title inner : List ℕ) (ps : Pairs) → Title title (Map None) → pair_count ps < 2 ^ 64 → title ++ inner ≡ enc (map ps) → ⊥
open_map title inner ps t f e = other_front (Map None) (Map (Some (pair_count ps))) title inner (enc_pairs ps) t f (λ i. cc) e

-- strings of a definite length: the title alone decides
pub whole_bytes : (w : Bool) (title body : List ℕ) → Title title (Bytes (Some (length body))) → length body < 2 ^ 64 → Says w (title ≡ title_of (Bytes (Some (length body)))) → Says w (title ++ body ≡ enc (bytes body))
whole_bytes w title body t f p =
    says_as w (title ≡ title_of (Bytes (Some (length body)))) (title ++ body ≡ enc (bytes body)) (λ e. ap (λ z. z ++ body) e)
    (λ e. (title_front (Bytes (Some (length body))) title body body t f e).0) p

pub whole_text : (w : Bool) (title body : List ℕ) → Title title (Text (Some (length body))) → length body < 2 ^ 64 → Says w (title ≡ title_of (Text (Some (length body)))) → Says w (title ++ body ≡ enc (text body))
whole_text w title body t f p =
    says_as w (title ≡ title_of (Text (Some (length body)))) (title ++ body ≡ enc (text body)) (λ e. ap (λ z. z ++ body) e)
    (λ e. (title_front (Text (Some (length body))) title body body t f e).0) p

-- a bignum stays exactly when a tag over as many bytes was made of it
zeros_length : (b : List ℕ) → length (without_zeros b) ≤ length b
zeros_length [] = omega arith
zeros_length (x ∷ xs) = go (nat_eq x 0) (zeros_length xs)
  where
    go : (p : Bool) → length (without_zeros xs) ≤ length xs → length (cond p (without_zeros xs) (x ∷ xs)) ≤ suc (length xs)
    go true h = omega arith
    go false h = omega arith

zeros_same : (b : List ℕ) → length (without_zeros b) ≡ length b → without_zeros b ≡ b
zeros_same [] e = refl
zeros_same (x ∷ xs) e = go (nat_eq x 0) (zeros_length xs) e
  where
    go : (p : Bool) → length (without_zeros xs) ≤ length xs → length (cond p (without_zeros xs) (x ∷ xs)) ≡ suc (length xs) → cond p (without_zeros xs) (x ∷ xs) ≡ x ∷ xs
    go true h e = absurd (omega arith)
    go false h e = refl

pub bignum_stays : (n : ℕ) (b c : List ℕ) (v : Tree) → tagged n (bytes b) ≡ Some v → v ≡ tag n (bytes c) → length c ≡ length b → v ≡ tag n (bytes b)
bignum_stays n b c v e is l = go (nat_eq n 2 || nat_eq n 3) e
  where
    folds : (m : ℕ) (p q : Bool) → cond p (Some (integer (cond (nat_eq n 2) (pos m) (negsuc m)))) (cond q None (Some (tag n (bytes (without_zeros b))))) ≡ Some v → v ≡ tag n (bytes b)
    folds m true q e = let f : integer (cond (nat_eq n 2) (pos m) (negsuc m)) ≡ v = cc in cc
    folds m false true e = cc
    folds m false false e =
        let f : tag n (bytes (without_zeros b)) ≡ v = cc in
        let g : without_zeros b ≡ c = cc in
        sym f ∙ ap (λ z. tag n (bytes z)) (zeros_same b (ap length g ∙ l))

    small : (p : Bool) → cond p (fold_number n (big_endian_from 0 b) b) (Some (tag n (bytes b))) ≡ Some v → v ≡ tag n (bytes b)
    small true e = folds (big_endian_from 0 b) (nat_lt (big_endian_from 0 b) 18446744073709551616) (nat_eq n 3 && nat_le 170141183460469231731687303715884105728 (big_endian_from 0 b)) e
    small false e = let f : tag n (bytes b) ≡ v = cc in sym f

    go : (p : Bool) → cond p (fold_bytes n b) (Some (tag n (bytes b))) ≡ Some v → v ≡ tag n (bytes b)
    go true e = small (nat_le (length b) 16) e
    go false e = let f : tag n (bytes b) ≡ v = cc in sym f

-- all open levels
pub levels_front : (limit : ℕ) (fs : List Level) (b x y : List ℕ) → Within limit fs b → AllFit fs → b ++ x ≡ levels_enc fs ++ y → (b ≡ levels_enc fs) × (x ≡ y)
levels_front limit [] b x y is f e = (is, ap (λ z. z ++ x) (sym is) ∙ e)
levels_front limit (f ∷ fs) b x y (before, last, within, child, room, begun, is) fit e =
    let k : before ++ (last ++ x) ≡ levels_enc fs ++ (level_enc f.head f.done ++ y) =
    sym (append_assoc before last x) ∙ ap (λ z. z ++ x) (sym is) ∙ e ∙ append_assoc (levels_enc fs) (level_enc f.head f.done) y in
    let w = levels_front limit fs before (last ++ x) (level_enc f.head f.done ++ y) within fit.0 k in
    let l = begun_front (limit - length fs - 1) f last x y begun fit.1 fit.2 w.1 in
    (is ∙ ap (λ z. z ++ last) w.0 ∙ ap (λ z. levels_enc fs ++ z) l.0, l.1)
