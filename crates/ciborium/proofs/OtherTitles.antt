-- Another title of the same header in the first place spells the same tree.
use Rattle.std.proofs.Common.{◌≡◌, ℕ, inl, inr, List, [], ◌∷◌, ◌++◌, length, Option, None, Some, refl, sym, ap, subst, ◌∙◌, append_assoc}
use Rattle.std.specs.Str.{IsUtf8}
use Rattle.ciborium_ll.specs.declared.hdr.Header.{Header}
use Rattle.ciborium_ll.specs.declared.hdr.Header.TheVariants.{Simple, Tag, Bytes, Text, Array, Map, Float}
use Rattle.ciborium_ll.specs.Title.{Title}
use Rattle.ciborium_ll.specs.Framing.{Frame, whole, cut, Any}
use Rattle.ciborium_ll.proofs.Closings.{split_heads}
use Rattle.ciborium_value.specs.Tree.{Tree, integer, bytes, text, array, map, tag, simple, float, tree_count, pair_count}
use Rattle.ciborium_value.specs.Encoding.{int_head}
use Rattle.ciborium.specs.Spelling.{Around, Spells, SpellsAll, SpellsPairs}
use Rattle.ciborium.proofs.Once.{append_nil}

module _ (h : Header) (a b rest : List ℕ) (p : Title a h) (q : Title b h) where
  -- the other title in front of what follows
  other_title : (title tail : List ℕ) (k : Header) → Title title k → a ++ rest ≡ title ++ tail → Title b k × (b ++ rest ≡ b ++ tail)
  other_title title tail k r e =
      let w = split_heads a title rest tail h k p r e in
      (subst (λ (z : Header). Title b z) w.heads q, ap (λ z. b ++ z) w.rests)

  title_alone : (k : Header) → Title (a ++ rest) k → Title (b ++ rest) k
  title_alone k r =
      let w = other_title (a ++ rest) [] k r (append_nil (a ++ rest)) in
      subst (λ (z : List ℕ). Title z k) (append_nil b ∙ sym w.1) w.0

  frame_too : (k : Option ℕ → Header) (P : List ℕ → Type 0) (c : List ℕ) (bodies : List (List ℕ)) → a ++ rest ≡ c → Frame k P c bodies → Frame k P (b ++ rest) bodies
  frame_too k P c _ e (whole _ body title t has f) =
      let w = other_title title body (k (Some (length body))) t (e ∙ f) in
      whole (b ++ rest) body b w.0 has w.1
  frame_too k P c bodies e (cut _ inner title _ t fs f) =
      let w = other_title title (inner ++ 255 ∷ []) (k None) t (e ∙ f ∙ append_assoc title inner (255 ∷ [])) in
      cut (b ++ rest) inner b bodies w.0 fs (w.1 ∙ sym (append_assoc b inner (255 ∷ [])))

  around_too : (k : Option ℕ → Header) (n : ℕ) (P : List ℕ → Type 0) → Around k n (a ++ rest) P → Around k n (b ++ rest) P
  around_too k n P (inl (title, inner, t, has, e)) = let w = other_title title inner (k (Some n)) t e in inl (b, inner, w.0, has, w.1)
  around_too k n P (inr (title, inner, t, has, e)) = let w = other_title title (inner ++ 255 ∷ []) (k None) t e in inr (b, inner, w.0, has, w.1)

  pub spells_too : (t : Tree) → Spells (a ++ rest) t → Spells (b ++ rest) t
  spells_too (integer i) s = title_alone (int_head i) s
  spells_too (bytes x) s = (s.0, frame_too Bytes Any (a ++ rest) s.0 refl s.1, s.2)
  spells_too (text x) s = (s.0, frame_too Text IsUtf8 (a ++ rest) s.0 refl s.1, s.2)
  spells_too (array ts) s = around_too Array (tree_count ts) (λ inner. SpellsAll inner ts) s
  spells_too (map ps) s = around_too Map (pair_count ps) (λ inner. SpellsPairs inner ps) s
  spells_too (tag n t) s = let w = other_title s.0 s.1 (Tag n) s.2 s.4 in (b, s.1, w.0, s.3, w.1)
  spells_too (simple n) s = title_alone (Simple n) s
  spells_too (float f) s = title_alone (Float f) s
