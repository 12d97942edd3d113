-- What a key or a set of keys that was read is written as is read again: it nests no deeper, its
-- bignums stay folded, and its simple values are those that a value can have. So it is with the
-- entries in another order.
use Rattle.std.proofs.Common.{◌≡◌, ℕ, ◌-◌, ⊎_elim, List, [], ◌∷◌, ◌++◌, map, Option, Some, None, refl, sym, subst}
use Rattle.std.specs.List.{Contains}
use Rattle.std.specs.List.Sorted.{IsPermutation}
use Rattle.std.proofs.lemmas.List.Sorted.{Contains-permutation, IsPermutation-sym, IsPermutation-refl}
use Rattle.ciborium_value.specs.Tree.{Tree, array, Trees}
use Rattle.ciborium_value.specs.Encoding.{enc, Fits}
use Rattle.ciborium_value.specs.View.{trees, pairs}
use Rattle.coset_labels.specs.Facts.Sound.{others_sound}
use Rattle.coset_labels.specs.Fields.{LabelFields, Named}
use Rattle.coset_labels.specs.Labels.{named_tree}
use Rattle.coset_labels.specs.Reading.{HasItem}
use Rattle.coset_headers.specs.Headers.{at}
use Rattle.coset_headers.specs.Written.{name_entry, bytes_entry, entry_tree, tree_of}
use Rattle.coset_headers.proofs.Sound.{Sound, SoundAll, AllSound, array_inside, map_inside, array_sound, map_sound, all_none, all_more, all_parts, names_sound, entries_sound, at_sound, sound_append, sound_pairs, name_sound, string_sound, reads_sound, sound_reads}
use Rattle.coset_keys.specs.Fields.{KeyFields}
use Rattle.coset_keys.specs.Keys.{is_own, HasKeyOps, AreFields, HasKey, HaveKeys, HasKeySet}
use Rattle.coset_keys.specs.Sorted.{SameButOrder}
use Rattle.coset_keys.specs.Written.{ops_entry, key_entries, key_tree, key_set_tree}
use Rattle.coset_keys.proofs.Again.{sorted_key, writes, reads_back}
use Rattle.coset_keys.proofs.Good.{is_key}
use Rattle.coset_keys.proofs.Rising.{contains_head, contains_tail, contains_cases, contains_none}
use Rattle.coset_keys.proofs.Sets.{all_trees, set_writes, set_reads_back}

-- ---- the other entries, in any order
one_of : (d : ℕ) (es : List (LabelFields × Tree)) (e : LabelFields × Tree) → AllSound d es → Contains es e → Sound d e.1
one_of d [] e s c = absurd (contains_none e c)
one_of d (x ∷ es) e s c = ⊎_elim (λ q. subst (λ z. Sound d z.1) q s.0) (λ h. one_of d es e s.1 h) (contains_cases x es e c)

each_of : (d : ℕ) (es : List (LabelFields × Tree)) → ((e : LabelFields × Tree) → Contains es e → Sound d e.1) → AllSound d es
each_of d [] f = tt
each_of d (x ∷ es) f = (f x (contains_head x es), each_of d es (λ e c. f e (contains_tail x es e c)))

moved_sound : (d : ℕ) (es fs : List (LabelFields × Tree)) → IsPermutation es fs → AllSound d es → AllSound d fs
moved_sound d es fs p s = each_of d fs (λ e c. one_of d es e s (Contains-permutation fs es e (IsPermutation-sym es fs p) c))

-- a list of operations was one level already
ops_sound : (d : ℕ) (o : Option Tree) (ns : List Named) → HasKeyOps o ns → ((t : Tree) → o ≡ Some t → Sound d t) → AllSound d (ops_entry ns)
ops_sound d o [] h s = tt
ops_sound d None (n ∷ ns) h s = let k : n ∷ ns ≡ [] = h in absurd (let f : ⊥ = cc in f)
ops_sound d (Some t) (n ∷ ns) h s =
    let l = (array_inside d h.items (subst (Sound d) h.list (s t refl))).0 in
    (array_sound d (trees (map named_tree (n ∷ ns))) l (names_sound (d - 1) (n ∷ ns)), tt)

wrote_sound : (d : ℕ) (es : List (LabelFields × Tree)) (k l : KeyFields) → AllSound d es → AreFields es k → SameButOrder k l → AllSound d (key_entries l)
wrote_sound d es k l s a m =
    let own = subst (AllSound d) (sym a.params) (others_sound is_own d es s) in
    let e5 = bytes_entry 5 k.base_iv ++ l.params in
    let e4 = ops_entry k.key_ops ++ e5 in
    let e3 = name_entry 3 k.alg ++ e4 in
    let e2 = bytes_entry 2 k.key_id ++ e3 in
    subst (λ z. AllSound d (key_entries z)) (sym m.others)
    (sound_append d (name_entry 1 (Some k.kty)) e2 (name_sound d 1 (Some k.kty))
    (sound_append d (bytes_entry 2 k.key_id) e3 (string_sound d 2 k.key_id)
    (sound_append d (name_entry 3 k.alg) e4 (name_sound d 3 k.alg)
    (sound_append d (ops_entry k.key_ops) e5 (ops_sound d (at 4 es) k.key_ops a.key_ops (λ t e. at_sound d 4 es t s e))
    (sound_append d (bytes_entry 5 k.base_iv) l.params (string_sound d 5 k.base_iv) (moved_sound d k.params l.params m.pairs own))))))

key_sound : (d : ℕ) (t : Tree) (k l : KeyFields) → HasKey t k → SameButOrder k l → Sound d t → Sound d (tree_of (key_entries l))
key_sound d t k l a m s =
    let w = map_inside d a.pairs (subst (Sound d) a.map s) in
    map_sound d (pairs (map entry_tree (key_entries l))) w.0
    (sound_pairs (d - 1) (key_entries l) (wrote_sound (d - 1) a.es k l (entries_sound (d - 1) a.pairs a.es a.labels w.1) a.fields m))

-- ---- bytes
pub key_reads : (b : List ℕ) (k l : KeyFields) → ((u : Tree) → key_tree l ≡ Some u → Fits u) → HasItem HasKey b k → SameButOrder k l → (u : Tree) × (key_tree l ≡ Some u) × HasItem HasKey (enc u) l
key_reads b k l f i m =
    let w = sorted_key k l (is_key i.tree k i.shape) m in
    let u = tree_of (key_entries l) in
    (u, writes l w, record { tree = u; reads = sound_reads 256 u (f u (writes l w)) (key_sound 256 i.tree k l i.shape m (reads_sound b 256 i.tree i.reads)); shape = reads_back l w })

pub itself : (k : KeyFields) → SameButOrder k k
itself k = record { others = refl; pairs = IsPermutation-refl k.params }

-- ---- sets
keys_sound : (d : ℕ) (ts : Trees) (ks : List KeyFields) → HaveKeys ts ks → SoundAll d ts → SoundAll d (trees (all_trees ks))
keys_sound d ts [] a s = all_none d
keys_sound d ts (k ∷ ks) a s =
    let p = all_parts d a.0 a.1 (subst (SoundAll d) a.2 s) in
    all_more d (tree_of (key_entries k)) (trees (all_trees ks)) (key_sound d a.0 k k a.3 (itself k) p.0) (keys_sound d a.1 ks a.4 p.1)

pub set_reads : (b : List ℕ) (ks : List KeyFields) → ((u : Tree) → key_set_tree ks ≡ Some u → Fits u) → HasItem HasKeySet b ks → (u : Tree) × (key_set_tree ks ≡ Some u) × HasItem HasKeySet (enc u) ks
set_reads b ks f i =
    let a = i.shape in
    let u = array (trees (all_trees ks)) in
    let w = array_inside 256 a.0 (subst (Sound 256) a.1 (reads_sound b 256 i.tree i.reads)) in
    let s = array_sound 256 (trees (all_trees ks)) w.0 (keys_sound 255 a.0 ks a.2 w.1) in
    (u, set_writes i.tree ks a, record { tree = u; reads = sound_reads 256 u (f u (set_writes i.tree ks a)) s; shape = set_reads_back i.tree ks a })
