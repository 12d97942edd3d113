-- The payload that a message of a stated length carries, as an item.
use Rattle.std.proofs.Common.{◌≡◌, ℕ, ◌+◌, inl, inr, List, [], ◌∷◌, ◌++◌, length, Option, None, Some, refl, sym, ap, subst, ◌∙◌, append_assoc, append-nil, arith}
use Rattle.ciborium_ll.specs.declared.hdr.Header.TheVariants.{Bytes, Array}
use Rattle.ciborium_ll.specs.Framing.{whole}
use Rattle.ciborium_ll.specs.Title.{Title}
use Rattle.ciborium_value.specs.Tree.{Tree, bytes, array, tag, Trees, no_trees, one_more, tree_count}
use Rattle.ciborium_value.specs.View.{trees}
use Rattle.ciborium.specs.Front.{Reads}
use Rattle.ciborium.specs.Meaning.{meaning, meanings}
use Rattle.ciborium.specs.Spelling.{Spells, SpellsAll}
use Rattle.ciborium.proofs.Once.{once}
use Rattle.ciborium.proofs.ReadLemmas.{meanings_parts}
use Rattle.cose_gate.specs.Findings.{Bounds, IsJudged}
use Rattle.cose_gate.specs.PartShapes.{HasWhole, PartsFields}
use Rattle.cose_gate.specs.PartsWritten.{optional_tree}
use Rattle.cose_gate.specs.Questions.{MessageFields, sign1, mac0, sign, mac, payload_of}
use Rattle.cose_gate.specs.Stated.{Stated, IsFour, IsSingle, closing}
use Rattle.cose_gate.proofs.Elements.{append, append_count, tag_means}

spells_append : (ts us : Trees) (a b : List ℕ) → SpellsAll a ts → SpellsAll b us → SpellsAll (a ++ b) (append ts us)
spells_append no_trees us a b p q = subst (λ (z : List ℕ). SpellsAll (z ++ b) us) (sym p) q
spells_append (one_more t ts) us a b p q = (p.0, p.1 ++ b, p.2, spells_append ts us p.1 b p.3 q, ap (λ z. z ++ b) p.4 ∙ append_assoc p.0 p.1 b)

-- the last two of the elements
last_two : List ℕ → Tree → Trees
last_two payload last = one_more (bytes payload) (one_more last no_trees)

array_spelled : (count : Option ℕ) (title inner : List ℕ) (ts : Trees) → IsFour count → Title title (Array count) → tree_count ts ≡ 4 → SpellsAll inner ts
    → Spells (title ++ (inner ++ closing count)) (array ts)
array_spelled None title inner ts four t n p = inr (title, inner, t, p, refl)
array_spelled (Some k) title inner ts four t n p =
    inl (title, inner, subst (λ (z : ℕ). Title title (Array (Some z))) (four ∙ sym n) t, p, ap (λ z. title ++ z) (append-nil inner))

-- what two elements and these mean
meant : (two : Trees) (payload : List ℕ) (last : Tree) (vs : Trees) → tree_count two ≡ 2 → meanings (append two (last_two payload last)) ≡ Some vs
    → (a b d : Tree) × (vs ≡ one_more a (one_more b (one_more (bytes payload) (one_more d no_trees))))
unfolding last_two
meant no_trees payload last vs n e = absurd (omega arith)
meant (one_more x no_trees) payload last vs n e = absurd (omega arith)
meant (one_more x (one_more y no_trees)) payload last vs n e =
    let one = meanings_parts x (one_more y (one_more (bytes payload) (one_more last no_trees))) vs e in
    let two = meanings_parts y (one_more (bytes payload) (one_more last no_trees)) one.1 one.3 in
    let three = meanings_parts (bytes payload) (one_more last no_trees) two.1 two.3 in
    let four = meanings_parts last no_trees three.1 three.3 in
    let third : Some (bytes payload) ≡ Some three.0 = three.2 in
    let is : three.0 ≡ bytes payload = cc in
    let none : Some no_trees ≡ Some four.1 = four.3 in
    let end : four.1 ≡ no_trees = cc in (
      one.0,
      two.0,
      four.0,
      one.4 ∙ ap (one_more one.0) (two.4 ∙ ap (one_more two.0) (three.4 ∙ ap (λ z. one_more z three.1) is ∙ ap (one_more (bytes payload)) (four.4 ∙ ap (one_more four.0) end))),
    )
meant (one_more x (one_more y (one_more z more))) payload last vs n e = absurd (omega arith)

module _ (front : List ℕ) (size : ℕ) (s : Stated front size) where
  elements : Trees
  elements = append s.two (last_two s.payload s.signature)

  spelled : Spells front (tag s.number (array elements))
  unfolding elements last_two
  spelled =
      let body : List ℕ = s.length_title ++ s.payload in
      let title : Title s.length_title (Bytes (Some (length s.payload))) = subst (λ (z : ℕ). Title s.length_title (Bytes (Some z))) (sym s.is_payload) s.is_length in
      let string : Spells body (bytes s.payload) = (s.payload ∷ [], whole body s.payload s.length_title title tt refl, sym (append-nil s.payload)) in
      let ends : SpellsAll (body ++ s.last) (last_two s.payload s.signature) = (body, s.last, string, (s.last, [], s.spells_last, refl, sym (append-nil s.last)), refl) in
      let inner : List ℕ = s.headers ++ (body ++ s.last) in
      let all : SpellsAll inner elements = spells_append s.two (last_two s.payload s.signature) s.headers (body ++ s.last) s.spells ends in
      let four : tree_count elements ≡ 4 = append_count s.two (last_two s.payload s.signature) ∙ ap (λ (z : ℕ). z + 2) s.are_two in
      let under = array_spelled s.count s.array_title inner elements s.is_four s.is_array four all in
      (s.tag_title, s.array_title ++ (inner ++ closing s.count), s.is_tag, under, s.whole ∙ simp append_assoc)

  -- so the item that is read of these bytes has it in its place
  pub carried : (limit : ℕ) (item : Tree) → Reads front limit item
      → (a b d : Tree) × (item ≡ tag s.number (array (one_more a (one_more b (one_more (bytes s.payload) (one_more d no_trees))))))
  unfolding elements
  carried limit item r =
      let same = once r.tree (tag s.number (array elements)) front front [] [] r.spells spelled refl in
      let means : meaning (tag s.number (array elements)) ≡ Some item = subst (λ (t : Tree). meaning t ≡ Some item) same.0 r.means in
      let under = tag_means s.number (meanings elements) item means in
      let parts = meant s.two s.payload s.signature under.0 s.are_two under.1 in
      let four : Trees = one_more parts.0 (one_more parts.1 (one_more (bytes s.payload) (one_more parts.2 no_trees))) in
      (parts.0, parts.1, parts.2, under.2 ∙ ap (λ z. tag s.number (array z)) {y = four} parts.3)

-- the content of the parts of a message that carries one is what is third among its elements
content : (n k : ℕ) (u : Tree) (f : PartsFields) (Lasts : List (Tree → Type 0)) (a b d : Tree) (p q : List ℕ) → HasWhole n u f Lasts k
    → u ≡ array (one_more a (one_more b (one_more (bytes p) (one_more d no_trees)))) → f.content ≡ Some q → f.content ≡ Some p
content n k u f Lasts a b d p q w e there =
    let items : array (one_more w.first (one_more w.second (one_more w.third (trees w.lasts)))) ≡ array (one_more a (one_more b (one_more (bytes p) (one_more d no_trees)))) = sym w.is ∙ e in
    let third : w.third ≡ bytes p = cc in
    let both : bytes q ≡ bytes p = sym (w.parts.content ∙ ap optional_tree there) ∙ third in
    let same : q ≡ p = cc in
    there ∙ ap Some same

-- the payload of the message is the one that was read
pub paid : (limits : Bounds) (item : Tree) (m : MessageFields) (n : ℕ) (a b d : Tree) (p : List ℕ) → IsJudged limits item m → IsSingle m
    → item ≡ tag n (array (one_more a (one_more b (one_more (bytes p) (one_more d no_trees))))) → payload_of m ≡ Some p
paid limits item (sign1 m) n a b d p j s e =
    let tags : tag 18 j.0.0 ≡ tag n (array (one_more a (one_more b (one_more (bytes p) (one_more d no_trees))))) = sym j.0.1 ∙ e in
    let is : j.0.0 ≡ array (one_more a (one_more b (one_more (bytes p) (one_more d no_trees)))) = cc in
    content limits.nesting limits.layers j.0.0 _ _ a b d p j.1.0 j.0.2 is j.1.1
paid limits item (mac0 m) n a b d p j s e =
    let tags : tag 17 j.0.0 ≡ tag n (array (one_more a (one_more b (one_more (bytes p) (one_more d no_trees))))) = sym j.0.1 ∙ e in
    let is : j.0.0 ≡ array (one_more a (one_more b (one_more (bytes p) (one_more d no_trees)))) = cc in
    content limits.nesting limits.layers j.0.0 _ _ a b d p j.1.0 j.0.2 is j.1.1
paid limits item (sign m) n a b d p j s e = absurd s
paid limits item (mac m) n a b d p j s e = absurd s
