-- What a sink of bytes wrote: the encodings of the events that it took, one after another.
use Rattle.std.proofs.Common.{◌≡◌, ℕ, ◌+◌, List, [], ◌∷◌, ◌++◌, Option, None, Some, Result, Ok, Err, OnOk, OnErr, refl, sym, ap, subst, ◌∙◌, append_assoc, append-nil}
use Rattle.std.specs.Io.KnownBytes.{Appends}
use Rattle.std.proofs.KnownBytes.{Appends-trans}
use Rattle.ciborium_ll.specs.Device.{AppendsFront, write_failures}
use Rattle.ciborium_ll.proofs.Appending.{front_then, then_front}
use Rattle.ciborium_ll.specs.Title.{title_of}
use Rattle.ciborium_ll.specs.declared.hdr.Header.TheVariants.{Tag, Array, Map}
use Rattle.ciborium_value.specs.Tree as tree
use Rattle.ciborium_value.specs.Tree.{Tree, Trees, no_trees, one_more, Pairs, no_pairs, pair_more, tree_count, pair_count}
use Rattle.ciborium_value.specs.Encoding.{enc, enc_all, enc_pairs}
use Rattle.ciborium_typed.specs.Events.{Event, events, events_all, events_pairs, Puts, Stops}
use Rattle.ciborium.specs.Writing.{event_text, IsWritten, IsTorn, IsDue}

abbrev event_texts : List Event → List ℕ
event_texts [] = []
event_texts (e ∷ es) = event_text e ++ event_texts es

texts_joined : (es fs : List Event) → event_texts (es ++ fs) ≡ event_texts es ++ event_texts fs
texts_joined [] fs = refl
texts_joined (e ∷ es) fs = ap (λ z. event_text e ++ z) (texts_joined es fs) ∙ sym (append_assoc (event_text e) (event_texts es) (event_texts fs))

two : (es fs : List Event) (a b : List ℕ) → event_texts es ≡ a → event_texts fs ≡ b → event_texts (es ++ fs) ≡ a ++ b
two es fs a b p q = texts_joined es fs ∙ ap (λ z. z ++ event_texts fs) p ∙ ap (λ z. a ++ z) q

-- the events of an item are its encoding
mutual
  pub texts_of : (t : Tree) → event_texts (events t) ≡ enc t
  texts_of (tree.integer i) = append-nil (enc (tree.integer i))
  texts_of (tree.bytes b) = append-nil (enc (tree.bytes b))
  texts_of (tree.text b) = append-nil (enc (tree.text b))
  texts_of (tree.array ts) = ap (λ z. title_of (Array (Some (tree_count ts))) ++ z) (texts_of_all ts)
  texts_of (tree.map ps) = ap (λ z. title_of (Map (Some (pair_count ps))) ++ z) (texts_of_pairs ps)
  texts_of (tree.tag n t) = ap (λ z. title_of (Tag n) ++ z) (texts_of t)
  texts_of (tree.simple n) = append-nil (enc (tree.simple n))
  texts_of (tree.float f) = append-nil (enc (tree.float f))

  texts_of_all : (ts : Trees) → event_texts (events_all ts) ≡ enc_all ts
  texts_of_all no_trees = refl
  texts_of_all (one_more t ts) = two (events t) (events_all ts) (enc t) (enc_all ts) (texts_of t) (texts_of_all ts)

  texts_of_pairs : (ps : Pairs) → event_texts (events_pairs ps) ≡ enc_pairs ps
  texts_of_pairs no_pairs = refl
  texts_of_pairs (pair_more k v ps) =
      two (events k) (events v ++ events_pairs ps) (enc k) (enc v ++ enc_pairs ps) (texts_of k)
      (two (events v) (events_pairs ps) (enc v) (enc_pairs ps) (texts_of v) (texts_of_pairs ps))

nothing_more : (o : Option (List ℕ)) → Appends o o []
nothing_more None = tt
nothing_more (Some xs) = sym (append-nil xs)

module _ {W : Type 0} (written : W → Option (List ℕ)) (handle : W → List ℕ) (failed : W → ℕ) where
  abbrev Due : W × List ℕ → List Event → W → Type 0
  Due p es w = IsDue written handle failed p.0 p.1 es w

  abbrev Torn : W × List ℕ → W → Type 0
  Torn p w = IsTorn written handle failed p.0 p.1 w

  -- a part is written, and the rest are these events
  due_from : (es : List Event) (start w : W) (part text : List ℕ) → part ++ event_texts es ≡ text → IsWritten written handle failed start part w → Due (start, text) es w
  due_from [] start w part text q h = (subst (λ z. Appends (written start) (written w) z) (sym (append-nil part) ∙ q) h.0, h.1, h.2)
  due_from (e ∷ es) start w part text q h = (
    λ u g. due_from es start u (part ++ event_text e) text (append_assoc part (event_text e) (event_texts es) ∙ q)
        (Appends-trans (written start) (written w) (written u) part (event_text e) h.0 g.0, g.1 ∙ h.1, g.2 ∙ h.2),
    λ u g. (
      subst (λ z. AppendsFront (written start) (written u) z) q
          (then_front (written start) (written w) (written u) part (event_texts (e ∷ es)) h.0 (front_then (written w) (written u) (event_text e) (event_texts es) g.0)),
      g.1 ∙ h.1,
      g.2 ∙ ap (λ n. n + 1) h.2,
    ),
  )

  begun : (t : Tree) (w : W) → Due (w, enc t) (events t ++ []) w
  begun t w = due_from (events t ++ []) w w [] (enc t) (rw append-nil (texts_of t)) (nothing_more (written w), refl, refl)

  pub item_written : {T E : Type 0} (r : Result T E) (t : Tree) (w u : W) → OnOk r (Puts Due w (events t) u) → OnErr r (Stops Due Torn w (events t) u)
      → OnOk r (Appends (written w) (written u) (enc t)) × OnErr r (AppendsFront (written w) (written u) (enc t)) × (handle u ≡ handle w) × (failed u ≡ write_failures r (failed w))
  item_written (Ok x) t w u p q = let d = p (w, enc t) [] (begun t w) in (d.0, tt, d.1, d.2)
  item_written (Err x) t w u p q = let d = q (w, enc t) [] (begun t w) in (tt, d.0, d.1, d.2)
