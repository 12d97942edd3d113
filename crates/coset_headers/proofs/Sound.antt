-- What is written of a header that was read is read again: it nests no deeper, its bignums stay
-- folded, and its simple values are those that a value can have.
use Rattle.std.proofs.Common.{◌≡◌, ℕ, zero, suc, ◌≤◌, ◌-◌, ◌⊎◌, inl, inr, List, [], ◌∷◌, ◌++◌, map, Option, Some, None, refl, sym, ap, subst, ◌∙◌, arith}
use Rattle.ciborium_value.specs.Tree.{Tree, bytes, array, Trees, no_trees, one_more, Pairs}
use Rattle.ciborium_value.specs.View.{trees, pairs}
use Rattle.coset_labels.specs.Fields.{LabelFields, Named}
use Rattle.coset_labels.specs.Labels.{label_of, label_tree, named_tree}
use Rattle.coset_labels.specs.Facts.Sound as sound
pub use Rattle.coset_labels.specs.Facts.Sound.{folds_all, Sound, SoundAll, SoundPairs, AllSound, deeper, array_inside, map_inside, array_sound, map_sound, all_none, all_more, all_parts, bytes_sound, label_sound, named_sound, names_sound, kept_sound, sound_append, reads_sound, sound_reads}
use Rattle.coset_headers.specs.Fields.{Plain, HeaderFields, header, SignatureFields, signature, Signatures, no_signatures, signature_more}
use Rattle.coset_headers.specs.Headers.{is_at, is_core, entries, at, others, IsPlain, list_of_three, HasHeader, HasSignature, HasSigned, HasSignatures}
use Rattle.coset_headers.specs.Written.{name_entry, bytes_entry, entry_of, written_entries, entry_tree, bare_or_list, header_tree, shown, signature_tree, signature_trees}
use Rattle.coset_headers.specs.Values.{entries_from}
use Rattle.coset_headers.proofs.Again.{header_parts, signature_parts, trees_parts}
use Rattle.coset_headers.proofs.Entered.{values_at, fields_are}

-- ---- entries
pub entries_sound : (d : ℕ) (ps : Pairs) (es : List (LabelFields × Tree)) → entries ps ≡ Some es → SoundPairs d ps → AllSound d es
entries_sound = sound.entries_sound label_of

pub others_sound : (d : ℕ) (es : List (LabelFields × Tree)) → AllSound d es → AllSound d (others es)
others_sound = sound.others_sound is_core

pub at_sound : (d n : ℕ) (es : List (LabelFields × Tree)) (t : Tree) → AllSound d es → at n es ≡ Some t → Sound d t
at_sound d n = sound.at_sound (is_at n) d

pub sound_pairs : (d : ℕ) (es : List (LabelFields × Tree)) → AllSound d es → SoundPairs d (pairs (map entry_tree es))
sound_pairs d = sound.sound_pairs label_tree d (label_sound d)

pub name_sound : (d k : ℕ) (o : Option Named) → AllSound d (name_entry k o)
name_sound d k None = tt
name_sound d k (Some m) = (named_sound d m, tt)

pub string_sound : (d k : ℕ) (b : List ℕ) → AllSound d (bytes_entry k b)
string_sound d k [] = tt
string_sound d k (x ∷ xs) = (bytes_sound d (x ∷ xs), tt)

entry_sound : (d n : ℕ) (o : Option Tree) → ((t : Tree) → o ≡ Some t → Sound d t) → AllSound d (entry_of n o)
entry_sound d n None s = tt
entry_sound d n (Some t) s = (s t refl, tt)

-- the values are those that were read, but for the counter signatures
read_sound : (d f n : ℕ) (es zs : List (LabelFields × Tree)) → AllSound d es → AllSound d zs → AllSound d (entries_from n (values_at f n es) zs)
read_sound d zero n es zs s r = r
read_sound d (suc f) n es zs s r = sound_append d (entry_of n (at n es)) _ (entry_sound d n (at n es) (λ t e. at_sound d n es t s e)) (read_sound d f (suc n) es zs s r)

wrote_sound : (d : ℕ) (es : List (LabelFields × Tree)) (p : Plain) (o : Option Tree) → AllSound d es → IsPlain es p → ((t : Tree) → o ≡ Some t → Sound d t) → AllSound d (written_entries p o)
wrote_sound d es p o s w f =
    subst (AllSound d) (sym (fields_are es p o w)) (read_sound d 6 1 es (entry_of 7 o ++ others es) s (sound_append d (entry_of 7 o) (others es) (entry_sound d 7 o f) (others_sound d es s)))

-- one counter signature is written by itself, so that it nests no deeper than in a list
pub one_or_list : (d : ℕ) (v : Tree) (vs : Trees) (x : Tree) → Sound d v → ((1 ≤ d) × SoundAll (d - 1) (one_more v vs)) ⊎ (vs ≡ no_trees) → bare_or_list (one_more v vs) ≡ Some x → Sound d x
one_or_list d v no_trees x s w e = let h : v ≡ x = (let k : Some v ≡ Some x = e in cc) in subst (Sound d) h s
one_or_list d v (one_more u us) x s (inr z) e = let h : one_more u us ≡ no_trees = z in absurd (let f : ⊥ = cc in f)
one_or_list d v (one_more u us) x s (inl w) e =
    let h : array (one_more v (one_more u us)) ≡ x = (let k : Some (array (one_more v (one_more u us))) ≡ Some x = e in cc) in
    subst (Sound d) h (array_sound d (one_more v (one_more u us)) w.0 w.1)

pub none_more : (ss : Signatures) (vs : Trees) → ss ≡ no_signatures → signature_trees ss ≡ Some vs → vs ≡ no_trees
none_more ss vs e f = let g : Some no_trees ≡ Some vs = sym (ap signature_trees e) ∙ f in cc

mutual
  pub hdr_sound : (n : ℕ) (h : HeaderFields) (t u : Tree) (k d : ℕ) → HasHeader n t h k → header_tree h ≡ Some u → Sound d t → Sound d u
  hdr_sound n (header p ss) t u k d a e s =
      let w = header_parts p (signature_trees ss) u e in
      let m = map_inside d a.0 (subst (Sound d) a.2 s) in
      let all = entries_sound (d - 1) a.0 a.1 a.3 m.1 in
      let signs = signed_sound n ss (at 7 a.1) w.0 k (d - 1) a.6 w.1 (λ c q. at_sound (d - 1) 7 a.1 c all q) in
      subst (Sound d) w.2 (map_sound d _ m.0 (sound_pairs (d - 1) (written_entries p (bare_or_list w.0)) (wrote_sound (d - 1) a.1 p (bare_or_list w.0) all a.5 signs)))

  pub sig_sound : (n : ℕ) (s : SignatureFields) (t u : Tree) (k d : ℕ) → HasSignature n t s k → signature_tree s ≡ Some u → Sound d t → Sound d u
  sig_sound n (signature p h c) t u k d a e s =
      let w = signature_parts (shown p) (header_tree h) c u e in
      let m = array_inside d (list_of_three a.0 a.1 (bytes c)) (subst (Sound d) a.2 s) in
      let second = (all_parts (d - 1) a.1 (one_more (bytes c) no_trees) (all_parts (d - 1) a.0 (one_more a.1 (one_more (bytes c) no_trees)) m.1).1).0 in
      let inner = hdr_sound n h a.1 w.1 k (d - 1) a.4 w.3 second in
      subst (Sound d) w.4 (array_sound d (list_of_three (bytes w.0) w.1 (bytes c)) m.0
      (all_more (d - 1) (bytes w.0) _ (bytes_sound (d - 1) w.0) (all_more (d - 1) w.1 _ inner (all_more (d - 1) (bytes c) no_trees (bytes_sound (d - 1) c) (all_none (d - 1))))))

  signed_sound : (n : ℕ) (ss : Signatures) (o : Option Tree) (us : Trees) (k d : ℕ) → HasSigned n o ss k → signature_trees ss ≡ Some us → ((c : Tree) → o ≡ Some c → Sound d c) → (x : Tree) → bare_or_list us ≡ Some x → Sound d x
  signed_sound n no_signatures o us k d a e s x q =
      let h : no_trees ≡ us = (let f : Some no_trees ≡ Some us = e in cc) in
      let g : None ≡ Some x = ap bare_or_list h ∙ q in
      absurd (let f : ⊥ = cc in f)
  signed_sound n (signature_more g ss) o us k d (ts, is, inl (bare, rest, one)) e s x q =
      let w = trees_parts (signature_tree g) (signature_trees ss) us e in
      one_or_list d w.0 w.1 x (sig_sound n g (array ts) w.0 k d one w.2 (s (array ts) is)) (inr (none_more ss w.1 rest w.3)) (ap bare_or_list w.4 ∙ q)
  signed_sound n (signature_more g ss) o us k d (ts, is, inr (list, more)) e s x q =
      let w = trees_parts (signature_tree g) (signature_trees ss) us e in
      let m = array_inside d ts (s (array ts) is) in
      let both = all_parts (d - 1) more.0 more.1 (subst (SoundAll (d - 1)) more.2 m.1) in
      let first = sig_sound n g more.0 w.0 k (d - 1) more.3 w.2 both.0 in
      let l : d - 1 ≤ d = omega arith in
      one_or_list d w.0 w.1 x (deeper (d - 1) d w.0 l first)
      (inl (m.0, all_more (d - 1) w.0 w.1 first (sigs_sound n ss more.1 w.1 k (d - 1) more.4 w.3 both.1))) (ap bare_or_list w.4 ∙ q)

  sigs_sound : (n : ℕ) (ss : Signatures) (ts us : Trees) (k d : ℕ) → HasSignatures n ts ss k → signature_trees ss ≡ Some us → SoundAll d ts → SoundAll d us
  sigs_sound n no_signatures ts us k d a e s = let h : no_trees ≡ us = (let f : Some no_trees ≡ Some us = e in cc) in subst (SoundAll d) h (all_none d)
  sigs_sound n (signature_more g ss) ts us k d a e s =
      let w = trees_parts (signature_tree g) (signature_trees ss) us e in
      let both = all_parts d a.0 a.1 (subst (SoundAll d) a.2 s) in
      subst (SoundAll d) w.4 (all_more d w.0 w.1 (sig_sound n g a.0 w.0 k d a.3 w.2 both.0) (sigs_sound n ss a.1 w.1 k d a.4 w.3 both.1))
