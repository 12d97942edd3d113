-- Reading the encoding of a tree and folding the tree agree.
use Rattle.std.proofs.Common.{◌≡◌, ◌≢◌, ◌≤◌, ◌<◌, ◌+◌, ◌-◌, ◌*◌, ◌⊎◌, inl, inr, ℕ, suc, List, [], ◌++◌, Option, None, Some, refl, sym, ap, subst, ◌∙◌, arith, append_assoc}
use Rattle.std.specs.Option.{option_map, option_and_then}
use Rattle.ciborium_ll.specs.declared.hdr.Header.{Header}
use Rattle.ciborium_ll.specs.declared.hdr.Header.TheVariants.{Tag, Array, Map}
use Rattle.ciborium_ll.specs.Title.{title_of, Begins, FitsHeader}
use Rattle.ciborium_ll.proofs.Shortest.{title_of_is}
use Rattle.ciborium_value.specs.declared.kind.Kind.TheVariants as kind
use Rattle.ciborium_value.specs.Tree.{Tree, integer, bytes, text, array, map, tag, simple, float, Trees, no_trees, one_more, Pairs, no_pairs, pair_more, tree_count, pair_count, depth, depth_all, depth_pairs}
use Rattle.ciborium_value.specs.Folding.{tagged, fold_bytes, fold}
use Rattle.ciborium_value.specs.Encoding.{enc, enc_all, enc_pairs, Fits, FitAll, FitPairs}
use Rattle.ciborium.specs.Spelling.{Spells}
use Rattle.ciborium.specs.Meaning.{meaning, meanings, pair_meanings, simple_meaning, Assigned, AllAssigned, PairsAssigned}
use Rattle.ciborium.specs.Damage.{Fault, semantic, Damage, too_negative, in_child, in_array, in_map, IsLevel}
use Rattle.ciborium.specs.Front.{Front, Fronts}
use Rattle.ciborium.proofs.Once.{once, first, regroup, tree_kind, head_kind, kind_0}
use Rattle.ciborium.proofs.ReadLemmas.{meanings_made, all_none}
use Rattle.ciborium.proofs.TagLemmas.{bytes_meant, in_tag}
use Rattle.ciborium.proofs.Folded.{means_folding, assigned_simple}
use Rattle.ciborium.proofs.Encoded.{enc_spells}
use Rattle.ciborium.proofs.Parts.{Stands, level_deep}
use Rattle.ciborium.proofs.Excludes.{fault_negative}
use Rattle.ciborium.proofs.ItemCases.{none_negative}

pub encoding_means : (t u : Tree) → Fits t → Assigned t → fold t ≡ Some u → Spells (enc t) t × (meaning t ≡ Some u)
encoding_means t u f a e = (enc_spells t f, means_folding t a ∙ e)

pub negative_means : (t : Tree) → Assigned t → fold t ≡ None → meaning t ≡ None
negative_means t a e = means_folding t a ∙ e

pub folded_read : (limit : ℕ) (rest : List ℕ) (t u : Tree) → Fits t → Assigned t → depth t ≤ limit → fold t ≡ Some u → Front (enc t ++ rest) limit u rest
folded_read limit rest t u f a low e = record { spelling = enc t; whole = refl; reads = record { tree = t; spells = enc_spells t f; shallow = low; means = means_folding t a ∙ e } }

pub negative_unread : (limit : ℕ) (rest more : List ℕ) (t v : Tree) → Fits t → Assigned t → fold t ≡ None → Front (enc t ++ rest) limit v more → ⊥
negative_unread limit rest more t v f a e r =
    let same : r.reads.tree ≡ t = (once r.reads.tree t r.spelling (enc t) more rest r.reads.spells (enc_spells t f) (sym r.whole)).0 in
    let means : meaning t ≡ Some v = sym (ap meaning same) ∙ r.reads.means in
    let none : meaning t ≡ None = negative_means t a e in
    cc

encoding_stands : (t : Tree) (rest : List ℕ) → Fits t → Stands (enc t ++ rest) t rest
encoding_stands t rest f = record { spelling = enc t; whole = refl; spells = enc_spells t f }

pub only_negative : (stop limit : ℕ) (rest : List ℕ) (t : Tree) (e : Fault) → Fits t → Assigned t → depth t ≤ limit → Damage stop (enc t ++ rest) limit e → e ≡ semantic kind.BigNegative
only_negative stop limit rest t e f a low d = fault_negative stop (enc t ++ rest) limit e d t rest (encoding_stands t rest f) low a

-- some of n children are there, and the next has the fault
record Broken (stop limit : ℕ) (b : List ℕ) (n : ℕ) : Type 0 where
  done : Trees
  at : List ℕ
  fronts : Fronts b limit done at
  few : tree_count done < n
  damage : Damage stop at limit (semantic kind.BigNegative)

broken_first : (stop limit : ℕ) (b c rest : List ℕ) (n : ℕ) → Damage stop (b ++ (c ++ rest)) limit (semantic kind.BigNegative) → Broken stop limit ((b ++ c) ++ rest) (1 + n)
broken_first stop limit b c rest n d =
    record { done = no_trees; at = b ++ (c ++ rest); fronts = record { spelling = []; whole = append_assoc b c rest; reads = all_none limit }; few = omega arith; damage = d }

broken_more : (stop limit : ℕ) (t v : Tree) (c rest : List ℕ) (n : ℕ) → Fits t → depth t ≤ limit → meaning t ≡ Some v → Broken stop limit (c ++ rest) n → Broken stop limit ((enc t ++ c) ++ rest) (1 + n)
broken_more stop limit t v c rest n f low e b =
    let p = b.fronts in
    let l : depth_all p.reads.trees ≤ limit = p.reads.shallow in
    let few : tree_count b.done < n = b.few in
    record {
      done = one_more v b.done;
      at = b.at;
      fronts = record {
        spelling = enc t ++ p.spelling;
        whole = append_assoc (enc t) c rest ∙ ap (λ z. enc t ++ z) p.whole ∙ sym (append_assoc (enc t) p.spelling b.at);
        reads = record {
          trees = one_more t p.reads.trees;
          spells = (enc t, p.spelling, enc_spells t f, p.reads.spells, refl);
          shallow = omega arith;
          means = meanings_made t p.reads.trees v b.done e p.reads.means;
        };
      };
      few = omega arith;
      damage = b.damage;
    }

begins_title : (h : Header) (c rest : List ℕ) → FitsHeader h → Begins ((title_of h ++ c) ++ rest) h (c ++ rest)
begins_title h c rest f = record { title = title_of h; is_title = title_of_is h f; whole = append_assoc (title_of h) c rest }

-- which parts mean nothing
items_none : (t : Tree) (ts : Trees) → meanings (one_more t ts) ≡ None → (meaning t ≡ None) ⊎ ((v : Tree) × (meaning t ≡ Some v) × (meanings ts ≡ None))
items_none t ts e = go (meaning t) (meanings ts) refl refl e
  where
    go : (m : Option Tree) (ms : Option Trees) → meaning t ≡ m → meanings ts ≡ ms → option_and_then (λ u. option_map (one_more u) ms) m ≡ None → (meaning t ≡ None) ⊎ ((v : Tree) × (meaning t ≡ Some v) × (meanings ts ≡ None))
    go None ms a b e = inl a
    go (Some v) None a b e = inr (v, a, b)
    go (Some v) (Some ws) a b e = cc

pairs_none : (k v : Tree) (ps : Pairs) → pair_meanings (pair_more k v ps) ≡ None
    → (meaning k ≡ None) ⊎ ((x : Tree) × (meaning k ≡ Some x) × ((meaning v ≡ None) ⊎ ((y : Tree) × (meaning v ≡ Some y) × (pair_meanings ps ≡ None))))
pairs_none k v ps e = go (meaning k) (meaning v) (pair_meanings ps) refl refl refl e
  where
    go : (m n : Option Tree) (r : Option Pairs) → meaning k ≡ m → meaning v ≡ n → pair_meanings ps ≡ r → option_and_then (λ a. option_and_then (λ b. option_map (pair_more a b) r) n) m ≡ None
        → (meaning k ≡ None) ⊎ ((x : Tree) × (meaning k ≡ Some x) × ((meaning v ≡ None) ⊎ ((y : Tree) × (meaning v ≡ Some y) × (pair_meanings ps ≡ None))))
    go None n r x y z e = inl x
    go (Some a) None r x y z e = inr (a, x, inl y)
    go (Some a) (Some b) None x y z e = inr (a, x, inr (b, y, z))
    go (Some a) (Some b) (Some rs) x y z e = cc

map_none : {A B : Type 0} (f : A → B) (o : Option A) → option_map f o ≡ None → o ≡ None
map_none f None e = refl
map_none f (Some u) e = cc

then_none : {A B : Type 0} (f : A → Option B) (o : Option A) → option_and_then f o ≡ None → (o ≡ None) ⊎ ((u : A) × (o ≡ Some u) × (f u ≡ None))
then_none f None e = inl refl
then_none f (Some u) e = inr (u, refl, e)

-- a tag over a tree that means nothing is a level
not_bytes : (t : Tree) → meaning t ≡ None → tree_kind t ≢ 1
not_bytes (bytes b) e k = cc
not_bytes t e k = omega arith

none_level : (n : ℕ) (t : Tree) (rest : List ℕ) → Fits t → meaning t ≡ None → IsLevel n (enc t ++ rest)
unfolding head_kind
none_level n t rest f e =
    let p = first t (enc t) (enc_spells t f) in
    let b : Begins (enc t ++ rest) p.head (p.rest ++ rest) = record { title = p.title; is_title = p.is_title; whole = regroup (enc t) p.title p.rest rest p.whole_is } in
    inr (p.head, p.rest ++ rest, b, λ o g. not_bytes t e (sym p.kind_is ∙ ap head_kind g ∙ kind_0 o))

tag_negative : (stop limit n : ℕ) (t : Tree) (rest : List ℕ) → Fits (tag n t) → depth (tag n t) ≤ limit → (depth t ≤ limit - 1 → meaning t ≡ None → Damage stop (enc t ++ rest) (limit - 1) (semantic kind.BigNegative))
    → meaning (tag n t) ≡ None → Damage stop (enc (tag n t) ++ rest) limit (semantic kind.BigNegative)
tag_negative stop limit n t rest f low inside e = go (then_none (tagged n) (meaning t) e)
  where
    begins : Begins (enc (tag n t) ++ rest) (Tag n) (enc t ++ rest)
    begins = begins_title (Tag n) (enc t) rest f.0

    go : (meaning t ≡ None) ⊎ ((u : Tree) × (meaning t ≡ Some u) × (tagged n u ≡ None)) → Damage stop (enc (tag n t) ++ rest) limit (semantic kind.BigNegative)
    go (inl m) =
        let l = none_level n t rest f.1 m in
        let d : suc (depth t) ≤ limit = level_deep n limit (enc t ++ rest) rest t l (encoding_stands t rest f.1) low in
        in_tag (enc (tag n t) ++ rest) (enc t ++ rest) limit n (semantic kind.BigNegative) begins (omega arith) l (inside (omega arith) m)
    go (inr (u, m, g)) =
        let w = none_negative n u g in
        let same : t ≡ bytes w.1 = bytes_meant t w.1 (m ∙ ap Some w.2) in
        let s : Spells (enc t) (bytes w.1) = subst (λ (z : Tree). Spells (enc t) z) same (enc_spells t f.1) in
        too_negative (enc (tag n t) ++ rest) (enc t ++ rest) (enc t) rest limit s.0 (subst (λ (z : ℕ). Begins (enc (tag n t) ++ rest) (Tag z) (enc t ++ rest)) w.0 begins) s.1 refl
        (subst (λ (z : List ℕ). fold_bytes 3 z ≡ None) s.2 w.3)

module _ (stop : ℕ) where
  mutual
    no_meaning : (t : Tree) (limit : ℕ) (rest : List ℕ) → Fits t → Assigned t → depth t ≤ limit → meaning t ≡ None → Damage stop (enc t ++ rest) limit (semantic kind.BigNegative)
    no_meaning (integer i) limit rest f a low e = cc
    no_meaning (bytes b) limit rest f a low e = cc
    no_meaning (text b) limit rest f a low e = cc
    no_meaning (float x) limit rest f a low e = cc
    no_meaning (simple n) limit rest f a low e = absurd (let g : simple_meaning n ≡ Some (simple n) = assigned_simple n a in cc)
    no_meaning (array ts) limit rest f a low e =
        let r = no_meanings ts (limit - 1) rest f.1 a (omega arith) (map_none array (meanings ts) e) in
        in_child (enc (array ts) ++ rest) (enc_all ts ++ rest) r.at limit (Array (Some (tree_count ts))) r.done (semantic kind.BigNegative) (begins_title (Array (Some (tree_count ts))) (enc_all ts) rest f.0) (omega arith) r.fronts (in_array (tree_count ts) r.few) r.damage
    no_meaning (map ps) limit rest f a low e =
        let r = no_pair_meanings ps (limit - 1) rest f.1 a (omega arith) (map_none map (pair_meanings ps) e) in
        in_child (enc (map ps) ++ rest) (enc_pairs ps ++ rest) r.at limit (Map (Some (pair_count ps))) r.done (semantic kind.BigNegative) (begins_title (Map (Some (pair_count ps))) (enc_pairs ps) rest f.0) (omega arith) r.fronts (in_map (pair_count ps) r.few) r.damage
    no_meaning (tag n t) limit rest f a low e = tag_negative stop limit n t rest f low (λ l m. no_meaning t (limit - 1) rest f.1 a l m) e

    no_meanings : (ts : Trees) (limit : ℕ) (rest : List ℕ) → FitAll ts → AllAssigned ts → depth_all ts ≤ limit → meanings ts ≡ None → Broken stop limit (enc_all ts ++ rest) (tree_count ts)
    no_meanings no_trees limit rest f a low e = cc
    no_meanings (one_more t ts) limit rest f a low e = by_item (items_none t ts e)
        (λ m. no_meaning t limit (enc_all ts ++ rest) f.0 a.0 (omega arith) m) (λ m. no_meanings ts limit rest f.1 a.1 (omega arith) m)
      where
        by_item : (meaning t ≡ None) ⊎ ((v : Tree) × (meaning t ≡ Some v) × (meanings ts ≡ None)) → (meaning t ≡ None → Damage stop (enc t ++ (enc_all ts ++ rest)) limit (semantic kind.BigNegative))
            → (meanings ts ≡ None → Broken stop limit (enc_all ts ++ rest) (tree_count ts)) → Broken stop limit (enc_all (one_more t ts) ++ rest) (tree_count (one_more t ts))
        by_item (inl m) here there = broken_first stop limit (enc t) (enc_all ts) rest (tree_count ts) (here m)
        by_item (inr (v, m, n)) here there = broken_more stop limit t v (enc_all ts) rest (tree_count ts) f.0 (omega arith) m (there n)

    no_pair_meanings : (ps : Pairs) (limit : ℕ) (rest : List ℕ) → FitPairs ps → PairsAssigned ps → depth_pairs ps ≤ limit → pair_meanings ps ≡ None → Broken stop limit (enc_pairs ps ++ rest) (2 * pair_count ps)
    no_pair_meanings no_pairs limit rest f a low e = cc
    no_pair_meanings (pair_more k v ps) limit rest f a low e = by_pair (pairs_none k v ps e)
        (λ m. no_meaning k limit ((enc v ++ enc_pairs ps) ++ rest) f.0 a.0 (omega arith) m) (λ m. no_meaning v limit (enc_pairs ps ++ rest) f.1 a.1 (omega arith) m)
        (λ m. no_pair_meanings ps limit rest f.2 a.2 (omega arith) m)
      where
        twice : Broken stop limit (enc_pairs (pair_more k v ps) ++ rest) (1 + (1 + 2 * pair_count ps)) → Broken stop limit (enc_pairs (pair_more k v ps) ++ rest) (2 * pair_count (pair_more k v ps))
        twice b = let c : 1 + (1 + 2 * pair_count ps) ≡ 2 * pair_count (pair_more k v ps) = omega arith in subst (λ (z : ℕ). Broken stop limit (enc_pairs (pair_more k v ps) ++ rest) z) c b

        by_pair : (meaning k ≡ None) ⊎ ((x : Tree) × (meaning k ≡ Some x) × ((meaning v ≡ None) ⊎ ((y : Tree) × (meaning v ≡ Some y) × (pair_meanings ps ≡ None))))
            → (meaning k ≡ None → Damage stop (enc k ++ ((enc v ++ enc_pairs ps) ++ rest)) limit (semantic kind.BigNegative)) → (meaning v ≡ None → Damage stop (enc v ++ (enc_pairs ps ++ rest)) limit (semantic kind.BigNegative))
            → (pair_meanings ps ≡ None → Broken stop limit (enc_pairs ps ++ rest) (2 * pair_count ps)) → Broken stop limit (enc_pairs (pair_more k v ps) ++ rest) (2 * pair_count (pair_more k v ps))
        by_pair (inl m) at_key at_value behind = twice (broken_first stop limit (enc k) (enc v ++ enc_pairs ps) rest (1 + 2 * pair_count ps) (at_key m))
        by_pair (inr (x, m, inl n)) at_key at_value behind =
            twice (broken_more stop limit k x (enc v ++ enc_pairs ps) rest (1 + 2 * pair_count ps) f.0 (omega arith) m (broken_first stop limit (enc v) (enc_pairs ps) rest (2 * pair_count ps) (at_value n)))
        by_pair (inr (x, m, inr (y, n, r))) at_key at_value behind =
            twice (broken_more stop limit k x (enc v ++ enc_pairs ps) rest (1 + 2 * pair_count ps) f.0 (omega arith) m (broken_more stop limit v y (enc_pairs ps) rest (2 * pair_count ps) f.1 (omega arith) n (behind r)))

pub is_negative : (stop limit : ℕ) (rest : List ℕ) (t : Tree) → Fits t → Assigned t → depth t ≤ limit → fold t ≡ None → Damage stop (enc t ++ rest) limit (semantic kind.BigNegative)
is_negative stop limit rest t f a low e = no_meaning stop t limit rest f a low (negative_means t a e)
