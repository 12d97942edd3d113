-- What spells an item of ciborium is an item by its heads.
use Rattle.std.proofs.Common.{◌≡◌, ℕ, suc, pos, negsuc, ◌*◌, List, [], ◌∷◌, ◌++◌, length, true, Option, Some, None, inl, inr, refl, sym, subst, ◌∙◌, append_assoc, append-nil, arith}
use Rattle.std.specs.Str.{IsUtf8}
use Rattle.ciborium_ll.specs.Framing.{Frame, whole, cut, Frames, no_frames, frame_more, Any}
use Rattle.ciborium_ll.specs.Title.{Title}
use Rattle.ciborium_ll.specs.declared.hdr.Header.{Header}
use Rattle.ciborium_ll.specs.declared.hdr.Header.TheVariants.{Positive, Negative, Float, Simple, Tag, Bytes, Text, Array, Map}
use Rattle.ciborium_value.specs.Tree.{Tree, integer, bytes, text, array, map, tag, simple, float, Trees, no_trees, one_more, Pairs, no_pairs, pair_more, tree_count, pair_count}
use Rattle.ciborium.specs.Spelling.{Spells, SpellsAll, SpellsPairs}
use Rattle.cbor_walk.specs.declared.walk.Holds.{Holds}
use Rattle.cbor_walk.specs.declared.walk.Holds.TheVariants as holds
use Rattle.cbor_walk.specs.Grammar.{stated, upto, after, size, takes, StartsFor, Item, item, Rest, of_stated, of_open, Items, no_items, item_more, Groups, no_groups, group_more}
use Rattle.cbor_walk.proofs.Going.{regroup}

-- a head that says all
leaf : (h : Header) (b : List ℕ) → after h ≡ stated 0 0 → Title b h → Item b
leaf h b is t = item b b [] h t (subst (λ z. Rest z []) (sym is) (of_stated 0 0 [] [] [] refl no_items refl)) (sym (append-nil b))

one : (b : List ℕ) → Item b → Items 1 b
one b i = subst (Items 1) (append-nil b) (item_more 0 b [] i no_items)

module _ (k : Option ℕ → Header) (P : List ℕ → Type 0) (held : Holds) (single : size held ≡ 1) (taken : (o : Option ℕ) → takes held (k o) ≡ true)
    (whole_is : (n : ℕ) → after (k (Some n)) ≡ stated n 0) (open_is : after (k None) ≡ upto held) where
  frame_starts : (b : List ℕ) (xs : List (List ℕ)) → Frame k P b xs → StartsFor held b
  frame_starts b xs (whole _ body title t p e) = (title, body, k (Some (length body)), t, taken _, e)
  frame_starts b xs (cut _ inner title _ t fs e) = (title, inner ++ 255 ∷ [], k None, t, taken _, e ∙ append_assoc title inner (255 ∷ []))

  mutual
    frame_item : (b : List ℕ) (xs : List (List ℕ)) → Frame k P b xs → Item b
    frame_item b xs (whole _ body title t p e) =
        item b title body (k (Some (length body))) t (subst (λ z. Rest z body) (sym (whole_is (length body))) (of_stated (length body) 0 body body [] refl no_items (sym (append-nil body)))) e
    frame_item b xs (cut _ inner title _ t fs e) =
        item b title (inner ++ 255 ∷ []) (k None) t (subst (λ z. Rest z (inner ++ 255 ∷ [])) (sym open_is) (of_open held (inner ++ 255 ∷ []) inner (frame_groups inner _ fs) refl)) (e ∙ append_assoc title inner (255 ∷ []))

    frame_groups : (b : List ℕ) (xs : List (List ℕ)) → Frames k P b xs → Groups held b
    frame_groups _ _ no_frames = no_groups held
    frame_groups _ _ (frame_more a b xs ys f fs) = group_more held a b (frame_starts a xs f) (subst (λ z. Items z a) (sym single) (one a (frame_item a xs f))) (frame_groups b ys fs)

starts_any : (b : List ℕ) → Item b → (k : Holds) → ((h : Header) → takes k h ≡ true) → StartsFor k b
starts_any b (item _ title rest h t r e) k any = (title, rest, h, t, any h, e)

pair : (a b : List ℕ) → Item a → Item b → Items 2 (a ++ b)
pair a b i j = item_more 1 a b i (one b j)

starts_pair : (a b : List ℕ) → Item a → StartsFor holds.Pairs (a ++ b)
starts_pair a b (item _ title rest h t r e) = (title, rest ++ b, h, t, refl, regroup a title rest b e)

mutual
  pub spelled : (t : Tree) (b : List ℕ) → Spells b t → Item b
  spelled (integer (pos n)) b s = leaf (Positive n) b refl s
  spelled (integer (negsuc n)) b s = leaf (Negative n) b refl s
  spelled (bytes x) b s = frame_item Bytes Any holds.Bytes refl (λ o. refl) (λ n. refl) refl b s.0 s.1
  spelled (text x) b s = frame_item Text IsUtf8 holds.Text refl (λ o. refl) (λ n. refl) refl b s.0 s.1
  spelled (array ts) b (inl (title, inner, t, all, e)) =
      item b title inner (Array (Some (tree_count ts))) t (of_stated 0 (tree_count ts) inner [] inner refl (spelled_all ts inner all) refl) e
  spelled (array ts) b (inr (title, inner, t, all, e)) =
      item b title (inner ++ 255 ∷ []) (Array None) t (of_open holds.Items (inner ++ 255 ∷ []) inner (spelled_each ts inner all) refl) e
  spelled (map ps) b (inl (title, inner, t, all, e)) =
      item b title inner (Map (Some (pair_count ps))) t (of_stated 0 (2 * pair_count ps) inner [] inner refl (spelled_pairs ps inner all) refl) e
  spelled (map ps) b (inr (title, inner, t, all, e)) =
      item b title (inner ++ 255 ∷ []) (Map None) t (of_open holds.Pairs (inner ++ 255 ∷ []) inner (spelled_entries ps inner all) refl) e
  spelled (tag n t) b (title, inner, is, s, e) = item b title inner (Tag n) is (of_stated 0 1 inner [] inner refl (one inner (spelled t inner s)) refl) e
  spelled (simple n) b s = leaf (Simple n) b refl s
  spelled (float f) b s = leaf (Float f) b refl s

  spelled_all : (ts : Trees) (b : List ℕ) → SpellsAll b ts → Items (tree_count ts) b
  spelled_all no_trees b s = subst (Items 0) (sym s) no_items
  spelled_all (one_more t ts) b (x, y, s, all, e) = subst (λ z. Items z b) (omega arith) (subst (Items (suc (tree_count ts))) (sym e) (item_more (tree_count ts) x y (spelled t x s) (spelled_all ts y all)))

  spelled_each : (ts : Trees) (b : List ℕ) → SpellsAll b ts → Groups holds.Items b
  spelled_each no_trees b s = subst (Groups holds.Items) (sym s) (no_groups holds.Items)
  spelled_each (one_more t ts) b (x, y, s, all, e) =
      subst (Groups holds.Items) (sym e) (group_more holds.Items x y (starts_any x (spelled t x s) holds.Items (λ h. refl)) (one x (spelled t x s)) (spelled_each ts y all))

  spelled_pairs : (ps : Pairs) (b : List ℕ) → SpellsPairs b ps → Items (2 * pair_count ps) b
  spelled_pairs no_pairs b s = subst (Items 0) (sym s) no_items
  spelled_pairs (pair_more k v ps) b (x, y, z, s, t, all, e) =
      subst (λ n. Items n b) (omega arith) (subst (Items (suc (suc (2 * pair_count ps)))) (sym e) (item_more (suc (2 * pair_count ps)) x (y ++ z) (spelled k x s) (item_more (2 * pair_count ps) y z (spelled v y t) (spelled_pairs ps z all))))

  spelled_entries : (ps : Pairs) (b : List ℕ) → SpellsPairs b ps → Groups holds.Pairs b
  spelled_entries no_pairs b s = subst (Groups holds.Pairs) (sym s) (no_groups holds.Pairs)
  spelled_entries (pair_more k v ps) b (x, y, z, s, t, all, e) =
      subst (Groups holds.Pairs) (append_assoc x y z ∙ sym e) (group_more holds.Pairs (x ++ y) z (starts_pair x y (spelled k x s)) (pair x y (spelled k x s) (spelled v y t)) (spelled_entries ps z all))
