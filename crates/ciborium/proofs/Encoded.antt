-- The encoding of a tree spells it, and trees with one encoding are one.
use Rattle.std.proofs.Common.{◌≡◌, ℕ, inl, List, [], ◌∷◌, ◌++◌, length, Some, refl, sym, ap, ◌∙◌}
use Rattle.std.proofs.lemmas.List.{append_cancel_left}
use Rattle.ciborium_ll.specs.declared.hdr.Header.TheVariants.{Simple, Tag, Bytes, Text, Array, Map}
use Rattle.ciborium_ll.specs.declared.hdr.Header.TheVariants as head
use Rattle.ciborium_ll.specs.Title.{title_of}
use Rattle.ciborium_ll.specs.Framing.{whole}
use Rattle.ciborium_ll.proofs.Shortest.{title_of_is}
use Rattle.ciborium_value.specs.Tree.{Tree, integer, bytes, text, array, map, tag, simple, float, Trees, no_trees, one_more, Pairs, no_pairs, pair_more, tree_count, pair_count}
use Rattle.ciborium_value.specs.Encoding.{int_head, enc, enc_all, enc_pairs, Fits, FitAll, FitPairs}
use Rattle.ciborium.specs.Spelling.{Spells, SpellsAll, SpellsPairs}
use Rattle.ciborium.proofs.Once.{append_nil, once}

mutual
  pub enc_spells : (t : Tree) → Fits t → Spells (enc t) t
  enc_spells (integer i) f = title_of_is (int_head i) f
  enc_spells (bytes b) f = (b ∷ [], whole _ b (title_of (Bytes (Some (length b)))) (title_of_is (Bytes (Some (length b))) f.0) tt refl, append_nil b)
  enc_spells (text b) f = (b ∷ [], whole _ b (title_of (Text (Some (length b)))) (title_of_is (Text (Some (length b))) f.0) f.1 refl, append_nil b)
  enc_spells (array ts) f = inl (title_of (Array (Some (tree_count ts))), enc_all ts, title_of_is (Array (Some (tree_count ts))) f.0, all_spells ts f.1, refl)
  enc_spells (map ps) f = inl (title_of (Map (Some (pair_count ps))), enc_pairs ps, title_of_is (Map (Some (pair_count ps))) f.0, pairs_spell ps f.1, refl)
  enc_spells (tag n t) f = (title_of (Tag n), enc t, title_of_is (Tag n) f.0, enc_spells t f.1, refl)
  enc_spells (simple n) f = title_of_is (Simple n) f
  enc_spells (float w) f = title_of_is (head.Float w) f

  all_spells : (ts : Trees) → FitAll ts → SpellsAll (enc_all ts) ts
  all_spells no_trees f = refl
  all_spells (one_more t ts) f = (enc t, enc_all ts, enc_spells t f.0, all_spells ts f.1, refl)

  pairs_spell : (ps : Pairs) → FitPairs ps → SpellsPairs (enc_pairs ps) ps
  pairs_spell no_pairs f = refl
  pairs_spell (pair_more k v ps) f = (enc k, enc v, enc_pairs ps, enc_spells k f.0, enc_spells v f.1, pairs_spell ps f.2, refl)

-- no encoding begins another
pub enc_prefix : (t s : Tree) (u v : List ℕ) → Fits t → Fits s → enc t ++ u ≡ enc s ++ v → (t ≡ s) × (u ≡ v)
enc_prefix t s u v f g e =
    let w = once t s (enc t) (enc s) u v (enc_spells t f) (enc_spells s g) e in
    (w.0, append_cancel_left (enc s) u v (ap (λ z. z ++ u) (sym w.1) ∙ e))

pub enc_once : (t s : Tree) → Fits t → Fits s → enc t ≡ enc s → t ≡ s
enc_once t s f g e = (enc_prefix t s [] [] f g (ap (λ z. z ++ []) e)).0
