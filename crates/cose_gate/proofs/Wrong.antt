-- Faults at a part of a message are faults of the whole.
use Rattle.std.proofs.Common.{◌≡◌, ◌≢◌, ◌≤◌, ◌<◌, ◌+◌, ◌-◌, ◌⊎◌, inl, inr, ℕ, Bool, true, false, List, [], ◌∷◌, ◌++◌, length, nat_eq, Option, None, Some, refl, sym, ap, subst, ◌∙◌, arith, append_assoc}
use Rattle.std.specs.Prelude.{option_map, option_and_then}
use Rattle.std.proofs.lemmas.Bool.Decides.{nat_tests}
use borrow.Author.Tests.{eqb-true}
use Rattle.ciborium_ll.specs.declared.hdr.Header.TheVariants.{Tag, Bytes, Array}
use Rattle.ciborium_ll.specs.Reading.{Moves}
use Rattle.ciborium_ll.specs.Title.{Title, Begins}
use Rattle.ciborium_value.specs.Tree.{Tree, bytes, array, tag, Trees, no_trees, one_more, tree_count}
use Rattle.ciborium_value.specs.Folding.{tagged as tagged_by}
use Rattle.ciborium.specs.Spelling.{SpellsAll}
use Rattle.ciborium.specs.Meaning.{meaning, meanings}
use Rattle.ciborium.specs.Front.{Front, ReadsAll}
use Rattle.ciborium.specs.Reading.{IfKnown}
use Rattle.ciborium.specs.Damage.{Fault, end, deep, syntax, semantic, Damage, in_title, in_bytes, cut_body, in_child, Due, in_array, in_open_array}
use Rattle.ciborium.proofs.Once.{once, no_break, regroup}
use Rattle.ciborium.proofs.OtherDamage.{damaged_by, damaged_as}
use Rattle.ciborium.proofs.Parts.{Held, tag_parts}
use Rattle.ciborium.proofs.ReadLemmas.{meanings_parts}
use Rattle.ciborium.proofs.TagLemmas.{in_tag}
use Rattle.ciborium.proofs.ChildLemmas.{all_count, title_no_break, begun_no_break}
use Rattle.coset_labels.specs.Faults.{CoseFault, unexpected}
use Rattle.coset_headers.specs.Wrong.{WrongProtected, WrongHeader}
use Rattle.cose_gate_core.specs.WrongParts.{in_protected, in_unprotected}
use Rattle.cose_gate_core.specs.Findings.{Bounds}
use Rattle.cose_gate_core.specs.Misshapen.{IsMisshapen}
use Rattle.cose_gate.specs.declared.fault.StreamFault.{StreamFault}
use Rattle.cose_gate.specs.declared.form.Form.{Form}
use Rattle.cose_gate.specs.Forms.{tag_number}
use Rattle.cose_gate.specs.Stated.{IsFour}
use Rattle.cose_gate.specs.Opening.{BeginsMessage, IsProtected, IsHeaderItem, AreInPlace, RightUpTo, ShowsFault, break_too_early, no_protected, no_header, no_signature, not_closed, IsShapeFault, IsHeaderFault}
use Rattle.cose_gate.specs.StreamFaults.{Why, damaged, untagged, tagged, shape, without_payload, without_length, refused}
use Rattle.cose_gate.specs.Streaming.{UnstreamedBy}
use Rattle.cose_gate.specs.ElementFaults.{PartFault, TagFault, NoBreak, WrongPart, NoneWrong, NoBytes, ShortFault, CloseFault}
use Rattle.cose_gate.proofs.Faults.{Names, known_tells, tells_behind}
use Rattle.cose_gate.proofs.Forms.{WrongForm, shaped, not_four_items, wrong_parts, wrong_last, not_two, not_three, single_tag}
use Rattle.cose_gate.proofs.Whole.{Within}
use Rattle.cose_gate.proofs.Elements.{Items, array_items, append, append_count, Enough, split_items, meanings_append, tag_means}

-- what follows the elements that are read, if an item is there
pub record Left (f : Form) (o : Option ℕ) (done : Trees) (rest : List ℕ) (t : Tree) : Type 0 where
  pub more : Trees
  pub means : Trees
  pub inner : List ℕ
  pub behind : List ℕ
  pub is : t ≡ tag (tag_number f) (array (append done means))
  pub spells : SpellsAll inner more
  pub mean : meanings more ≡ Some means
  pub whole : rest ≡ inner ++ behind
  pub closed : o ≡ None → (r : List ℕ) × (behind ≡ 255 ∷ r)
  pub counted : (o ≡ None) ⊎ (tree_count (append done means) ≡ 4)

pub four_due : (o : Option ℕ) (done : Trees) (rest : List ℕ) → IsFour o → tree_count done < 4 → NoBreak rest → Due done rest (Array o)
four_due None done rest f l not = in_open_array not
four_due (Some k) done rest f l not = in_array k (omega arith)

pub four_or : (n : ℕ) → (n ≡ 4) ⊎ (n ≢ 4)
four_or n = go (nat_eq n 4) refl
  where
    go : (b : Bool) → nat_eq n 4 ≡ b → (n ≡ 4) ⊎ (n ≢ 4)
    go true e = inl (eqb-true n 4 e)
    go false e = inr (λ f. absurd (grind (arith, nat_tests, e, f)))

-- The place after these elements, if W is wrong: the bytes up to it show the fault. Where there are
-- four elements the message has it. If there are more or fewer, it is that of a header, or the one
-- of their number.
pub record Place (limits : Bounds) (f : Form) (done : Trees) (W : CoseFault → Tree → Type 0) : Type 0 where
  pub in_place : AreInPlace limits done
  pub shows : (b items rest : List ℕ) (v : Tree) (e : CoseFault) → RightUpTo limits b done items → Front items (limits.nesting - 2) v rest → W e v → ShowsFault limits b e
  pub has : (e : CoseFault) (v : Tree) (ms : Trees) → W e v
      → (tree_count (append done (one_more v ms)) ≡ 4 → WrongForm limits f (array (append done (one_more v ms))) e)
      × ((e ≡ unexpected) ⊎ IsHeaderFault limits (append done (one_more v ms)) e)

-- the payload is cut, or it is out of memory while it was fed
short_fault : (k n stop : ℕ) (x rest : List ℕ) (w : Why) → Title x (Bytes (Some n)) → ShortFault n rest w → PartFault k NoneWrong stop (x ++ rest) w
short_fault k n stop x rest (damaged end) t d =
    let s : Begins (x ++ rest) (Bytes (Some n)) rest = record { title = x; is_title = t; whole = refl } in
    (begun_no_break (Bytes (Some n)) (x ++ rest) rest s (λ e. cc), in_bytes (x ++ rest) k end (inl (cut_body n rest s d)))
short_fault k n stop x rest (damaged deep) t d = absurd d
short_fault k n stop x rest (damaged (syntax p)) t d = absurd d
short_fault k n stop x rest (damaged (semantic s)) t d = absurd d
short_fault k n stop x rest untagged t d = absurd d
short_fault k n stop x rest (tagged i) t d = absurd d
short_fault k n stop x rest (shape e) t d = absurd d
short_fault k n stop x rest without_payload t d = absurd d
short_fault k n stop x rest without_length t d = absurd d
short_fault k n stop x rest refused t d = tt

pub short_tells_part : {E : Type 0} (k : ℕ) (ends : E → Bool) (l₀ l₁ : Option (List ℕ)) (o₀ o₁ n room : ℕ) (e : StreamFault E) → Moves l₀ l₁ o₀ o₁ (λ (b : List ℕ). Title b (Bytes (Some n)))
    → Names ends (λ stop b. ShortFault n b) room l₁ o₁ e → Names ends (PartFault k NoneWrong) room l₀ o₀ e
short_tells_part k ends l₀ l₁ o₀ o₁ n room e t names = tells_behind ends l₀ l₁ o₀ o₁ room room (λ (b : List ℕ). Title b (Bytes (Some n))) (λ stop b. ShortFault n b) (PartFault k NoneWrong) e t (omega arith) (λ stop x rest w le p d. short_fault k n stop x rest w p d) names

module _ (limits : Bounds) where
  -- the first title
  pub first_fault : (stop : ℕ) (b : List ℕ) (w : Why) → TagFault stop b w → UnstreamedBy limits stop b w
  first_fault stop b (damaged f) d = damaged_by stop b limits.nesting f (in_title b limits.nesting f d)
  first_fault stop b untagged d = d
  first_fault stop b (tagged n) d = d
  first_fault stop b (shape e) d = absurd d
  first_fault stop b without_payload d = absurd d
  first_fault stop b without_length d = absurd d
  first_fault stop b refused d = absurd d

  pub first_tells : {E : Type 0} (ends : E → Bool) (l : Option (List ℕ)) (o room : ℕ) (f : StreamFault E)
      → Names ends TagFault 0 l o f → Names ends (UnstreamedBy limits) room l o f
  first_tells ends l o room f k = known_tells ends l o 0 room TagFault (UnstreamedBy limits) f (omega arith) (λ stop b w le d. first_fault stop b w d) k

  -- the titles of a message that is begun
  pub within_tag : (f : Form) (o : Option ℕ) (done : Trees) (x rest : List ℕ) (w : Within limits f o done x) → Begins (x ++ rest) (Tag (tag_number f)) (w.array_title ++ (w.inner ++ rest))
  within_tag f o done x rest w = record {
    title = w.tag_title;
    is_title = w.is_tag;
    whole = ap (λ z. z ++ rest) w.whole ∙ append_assoc w.tag_title (w.array_title ++ w.inner) rest ∙ ap (λ z. w.tag_title ++ z) (append_assoc w.array_title w.inner rest);
  }

  pub within_array : (f : Form) (o : Option ℕ) (done : Trees) (x rest : List ℕ) (w : Within limits f o done x) → Begins (w.array_title ++ (w.inner ++ rest)) (Array o) (w.inner ++ rest)
  within_array f o done x rest w = record { title = w.array_title; is_title = w.is_array; whole = refl }

  -- a message of this kind is begun, with its array
  abbrev pub begun : (f : Form) (o : Option ℕ) (done : Trees) (x rest : List ℕ) → Within limits f o done x → BeginsMessage (x ++ rest)
  begun f o done x rest w = record {
    number = tag_number f;
    inside = w.array_title ++ (w.inner ++ rest);
    count = o;
    items = w.inner ++ rest;
    is_single = single_tag f;
    tag_first = within_tag f o done x rest w;
    array_next = within_array f o done x rest w;
    is_four = w.is_four;
  }

  -- the elements that are read are right in their places
  abbrev pub right_up_to : (f : Form) (o : Option ℕ) (done : Trees) (x rest : List ℕ) → Within limits f o done x → AreInPlace limits done → RightUpTo limits (x ++ rest) done rest
  right_up_to f o done x rest w right = record { begins = begun f o done x rest w; fronts = record { spelling = w.inner; whole = refl; reads = w.reads }; in_place = right }

  -- damage after the elements that are read
  pub within_damage : 2 ≤ limits.nesting → (stop : ℕ) (f : Form) (o : Option ℕ) (done : Trees) (x rest : List ℕ) (e : Fault) → Within limits f o done x → Due done rest (Array o)
      → Damage stop rest (limits.nesting - 2) e → Damage stop (x ++ rest) limits.nesting e
  within_damage least stop f o done x rest e w due d =
      let n = limits.nesting in
      let same : n - 2 ≡ (n - 1) - 1 = omega arith in
      in_tag (x ++ rest) (w.array_title ++ (w.inner ++ rest)) n (tag_number f) e (within_tag f o done x rest w) (omega arith) (inl (not_two f, not_three f))
      (in_child (w.array_title ++ (w.inner ++ rest)) (w.inner ++ rest) rest (n - 1) (Array o) done e (within_array f o done x rest w) (omega arith)
      (record { spelling = w.inner; whole = refl; reads = subst (λ (z : ℕ). ReadsAll w.inner z done) same w.reads }) due (subst (λ (z : ℕ). Damage stop rest z e) same d))

  pub left : (f : Form) (o : Option ℕ) (done : Trees) (x rest after : List ℕ) (t : Tree) → Within limits f o done x → tree_count done ≤ 4 → Front (x ++ rest) limits.nesting t after → Left f o done rest t
  left f o done x rest after t w few r =
      let c = tag_parts (x ++ rest) (w.array_title ++ (w.inner ++ rest)) after (tag_number f) r.reads.tree (within_tag f o done x rest w) (record { spelling = r.spelling; whole = r.whole; spells = r.reads.spells }) in
      let i = array_items (w.array_title ++ (w.inner ++ rest)) (w.inner ++ rest) after o c.under (within_array f o done x rest w) c.at in
      let means : option_and_then (tagged_by (tag_number f)) (option_map array (meanings i.trees)) ≡ Some t = ap meaning (sym (c.is ∙ ap (tag (tag_number f)) i.is)) ∙ r.reads.means in
      let m = tag_means (tag_number f) (meanings i.trees) t means in
      go i m.0 m.1 m.2 i.held
    where
      finish : {under : Tree} (i : Items o under (w.inner ++ rest) after) (vs : Trees) → meanings i.trees ≡ Some vs → t ≡ tag (tag_number f) (array vs) → (behind : List ℕ) → w.inner ++ rest ≡ i.inner ++ behind
          → Enough (tree_count w.reads.trees) (tree_count i.trees) behind → (o ≡ None → (r : List ℕ) × (behind ≡ 255 ∷ r)) → (o ≡ None) ⊎ (tree_count vs ≡ 4) → Left f o done rest t
      finish i vs m is behind whole n ends count =
          let s = split_items w.reads.trees i.trees w.inner rest i.inner behind w.reads.spells i.spells whole n in
          let a = meanings_append w.reads.trees s.more vs done (ap meanings (sym s.is) ∙ m) w.reads.means in
          record {
            more = s.more;
            means = a.0;
            inner = s.inner;
            behind = behind;
            is = is ∙ ap (λ z. tag (tag_number f) (array z)) a.2;
            spells = s.spells;
            mean = a.1;
            whole = s.whole;
            closed = ends;
            counted = subst (λ (z : Trees). (o ≡ None) ⊎ (tree_count z ≡ 4)) a.2 count;
          }

      go : {under : Tree} (i : Items o under (w.inner ++ rest) after) (vs : Trees) → meanings i.trees ≡ Some vs → t ≡ tag (tag_number f) (array vs) → Held o (tree_count i.trees) i.inner (w.inner ++ rest) after → Left f o done rest t
      go i vs m is (inl (e, whole)) =
          let k : tree_count i.trees ≡ 4 = subst IsFour e w.is_four in
          let d : tree_count w.reads.trees ≡ tree_count done = all_count w.reads.trees done w.reads.means in
          let a : tree_count i.trees ≡ tree_count vs = all_count i.trees vs m in
          finish i vs m is after whole (inl (omega arith)) (λ k. let g : Some (tree_count i.trees) ≡ None = sym e ∙ k in absurd (cc)) (inr (sym a ∙ k))
      go i vs m is (inr (e, whole)) = finish i vs m is (255 ∷ after) whole (inr (after, refl)) (λ k. (after, refl)) (inl e)

  -- an array of another length
  pub not_four_shape : (f : Form) (done means : Trees) (t : Tree) (e : CoseFault) → t ≡ tag (tag_number f) (array (append done means)) → tree_count (append done means) ≢ 4 → e ≡ unexpected → IsMisshapen limits t e
  not_four_shape f done means t e is n u = shaped limits f t (array (append done means)) e is (subst (WrongForm limits f (array (append done means))) (sym u) (not_four_items limits f (append done means) n))

  -- a break in an element's place
  break_shape : (f : Form) (o : Option ℕ) (done : Trees) (rest r : List ℕ) (t : Tree) (e : CoseFault) → tree_count done < 4 → Left f o done rest t → e ≡ unexpected → rest ≡ 255 ∷ r → IsMisshapen limits t e
  break_shape f o done rest r t e few l u b = go l.more l.spells l.mean
    where
      go : (more : Trees) → SpellsAll l.inner more → meanings more ≡ Some l.means → IsMisshapen limits t e
      go no_trees p m =
          let k : Some no_trees ≡ Some l.means = m in
          let q : no_trees ≡ l.means = cc in
          let c : tree_count l.means ≡ 0 = ap tree_count (sym q) in
          not_four_shape f done l.means t e l.is (λ x. let a = append_count done l.means in omega arith) u
      go (one_more s ss) p m = absurd (no_break s p.0 (p.1 ++ l.behind) r p.2 (sym (regroup l.inner p.0 p.1 l.behind p.4) ∙ sym l.whole ∙ b))

  -- an element that is wrong in its place
  wrong_shape : (f : Form) (o : Option ℕ) (done : Trees) (W : CoseFault → Tree → Type 0) → Place limits f done W
      → (x rest after : List ℕ) (v t : Tree) (e : CoseFault) → Within limits f o done x → tree_count done < 4 → Left f o done rest t → Front rest (limits.nesting - 2) v after → W e v
      → IsShapeFault limits (x ++ rest) t e
  wrong_shape f o done W place x rest after v t e w few l r wrong = go l.more l.spells l.mean
    where
      other : (means : Trees) → t ≡ tag (tag_number f) (array (append done means)) → tree_count (append done means) ≢ 4 → (o ≡ None) ⊎ (tree_count (append done means) ≡ 4)
          → (e ≡ unexpected) ⊎ IsHeaderFault limits (append done means) e → IsShapeFault limits (x ++ rest) t e
      other means is n c (inl u) = inl (not_four_shape f done means t e is n u)
      other means is n (inr c) (inr h) = absurd (n c)
      other means is n (inl c) (inr h) = inr (
        append done means,
        record { begins = begun f o done x rest w; open_array = c; is = is; other = n },
        h,
      )

      by : (means : Trees) → t ≡ tag (tag_number f) (array (append done means)) → (o ≡ None) ⊎ (tree_count (append done means) ≡ 4)
          → (tree_count (append done means) ≡ 4 → WrongForm limits f (array (append done means)) e) × ((e ≡ unexpected) ⊎ IsHeaderFault limits (append done means) e)
          → (tree_count (append done means) ≡ 4) ⊎ (tree_count (append done means) ≢ 4) → IsShapeFault limits (x ++ rest) t e
      by means is c p (inl four) = inl (shaped limits f t (array (append done means)) e is (p.0 four))
      by means is c p (inr n) = other means is n c p.1

      none : (r' : List ℕ) → l.behind ≡ 255 ∷ r' → l.inner ≡ [] → ⊥
      none r' b p = no_break r.reads.tree r.spelling after r' r.reads.spells (sym r.whole ∙ l.whole ∙ ap (λ z. z ++ l.behind) p ∙ b)

      go : (more : Trees) → SpellsAll l.inner more → meanings more ≡ Some l.means → IsShapeFault limits (x ++ rest) t e
      go no_trees p m =
          let n : Some no_trees ≡ Some l.means = m in
          let q : no_trees ≡ l.means = cc in
          let c : tree_count l.means ≡ 0 = ap tree_count (sym q) in
          absurd (ends c l.counted)
        where
          ends : tree_count l.means ≡ 0 → (o ≡ None) ⊎ (tree_count (append done l.means) ≡ 4) → ⊥
          ends c (inl unsized) = let b = l.closed unsized in none b.0 b.1 p
          ends c (inr four) = let a = append_count done l.means in omega arith
      go (one_more s ss) p m =
          let y = meanings_parts s ss l.means m in
          let same = once s r.reads.tree p.0 r.spelling (p.1 ++ l.behind) after p.2 r.reads.spells (sym (regroup l.inner p.0 p.1 l.behind p.4) ∙ sym l.whole ∙ r.whole) in
          let i : Some y.0 ≡ Some v = sym y.2 ∙ ap meaning same.0 ∙ r.reads.means in
          let j : y.0 ≡ v = cc in
          let ms : l.means ≡ one_more v y.1 = y.4 ∙ ap (λ z. one_more z y.1) j in
          by (one_more v y.1) (l.is ∙ ap (λ z. tag (tag_number f) (array (append done z))) ms) (subst (λ (z : Trees). (o ≡ None) ⊎ (tree_count (append done z) ≡ 4)) ms l.counted)
          (place.has e v y.1 wrong) (four_or (tree_count (append done (one_more v y.1))))

  -- a fault at the next element is one of the whole
  part_fault : 2 ≤ limits.nesting → (f : Form) (o : Option ℕ) (done : Trees) (W : CoseFault → Tree → Type 0) → tree_count done < 4 → Place limits f done W
      → (stop : ℕ) (x rest : List ℕ) (w : Why) → Within limits f o done x → PartFault (limits.nesting - 2) W stop rest w → UnstreamedBy limits stop (x ++ rest) w
  part_fault least f o done W few place stop x rest (damaged e) w d =
      damaged_as stop rest (x ++ rest) (limits.nesting - 2) limits.nesting e (λ g b. within_damage least stop f o done x rest g w (four_due o done rest w.is_four few d.0) b) d.1
  part_fault least f o done W few place stop x rest untagged w d = absurd d
  part_fault least f o done W few place stop x rest (tagged n) w d = absurd d
  part_fault least f o done W few place stop x rest (shape e) w (inl (u, (r, b))) = (
    subst (ShowsFault limits (x ++ rest)) (sym u) (break_too_early done r (subst (RightUpTo limits (x ++ rest) done) b (right_up_to f o done x rest w place.in_place)) few),
    λ t after i. inl (break_shape f o done rest r t e few (left f o done x rest after t w (omega arith) i) u b),
  )
  part_fault least f o done W few place stop x rest (shape e) w (inr (v, behind, there, wrong)) = (
    place.shows (x ++ rest) rest behind v e (right_up_to f o done x rest w place.in_place) there wrong,
    λ t after i. wrong_shape f o done W place x rest behind v t e w few (left f o done x rest after t w (omega arith) i) there wrong,
  )
  part_fault least f o done W few place stop x rest without_payload w d = absurd d
  part_fault least f o done W few place stop x rest without_length w d = absurd d
  part_fault least f o done W few place stop x rest refused w d = begun f o done x rest w

  pub part_tells : 2 ≤ limits.nesting → {E : Type 0} (ends : E → Bool) (l₀ l₁ : Option (List ℕ)) (o₀ o₁ asked room : ℕ) (f : Form) (o : Option ℕ) (done : Trees) (W : CoseFault → Tree → Type 0) (e : StreamFault E) → asked ≤ room
      → Moves l₀ l₁ o₀ o₁ (Within limits f o done) → tree_count done < 4 → Place limits f done W → Names ends (PartFault (limits.nesting - 2) W) asked l₁ o₁ e → Names ends (UnstreamedBy limits) room l₀ o₀ e
  part_tells least ends l₀ l₁ o₀ o₁ asked room f o done W e le t few place k =
      tells_behind ends l₀ l₁ o₀ o₁ asked room (Within limits f o done) (PartFault (limits.nesting - 2) W) (UnstreamedBy limits) e t le (λ stop x rest w le p d. part_fault least f o done W few place stop x rest w p d) k

  -- the places of the elements
  pub protected_place : (f : Form) → Place limits f no_trees (WrongPart (λ v e. WrongProtected limits.nesting v limits.layers e))
  protected_place f = record { in_place = tt; shows = λ b items rest v e right there wrong. no_protected v items rest e right there wrong; has = has }
    where
      has : (e : CoseFault) (v : Tree) (ms : Trees) → WrongProtected limits.nesting v limits.layers e
          → (tree_count (one_more v ms) ≡ 4 → WrongForm limits f (array (one_more v ms)) e) × ((e ≡ unexpected) ⊎ IsHeaderFault limits (one_more v ms) e)
      has e v no_trees w = (λ n. absurd (omega arith), inr w)
      has e v (one_more b no_trees) w = (λ n. absurd (omega arith), inr (inl w))
      has e v (one_more b (one_more c no_trees)) w = (λ n. absurd (omega arith), inr (inl w))
      has e v (one_more b (one_more c (one_more d no_trees))) w = (λ n. wrong_parts limits f v b c d e (in_protected e w), inr (inl w))
      has e v (one_more b (one_more c (one_more d (one_more x xs)))) w = (λ n. absurd (omega arith), inr (inl w))

  pub unprotected_place : (f : Form) (a : Tree) → IsProtected limits a → Place limits f (one_more a no_trees) (WrongPart (λ v e. WrongHeader limits.nesting v limits.layers e))
  unprotected_place f a first = record { in_place = first; shows = λ b items rest v e right there wrong. no_header a v items rest e right there wrong; has = has }
    where
      has : (e : CoseFault) (v : Tree) (ms : Trees) → WrongHeader limits.nesting v limits.layers e
          → (tree_count (one_more a (one_more v ms)) ≡ 4 → WrongForm limits f (array (one_more a (one_more v ms))) e) × ((e ≡ unexpected) ⊎ IsHeaderFault limits (one_more a (one_more v ms)) e)
      has e v no_trees w = (λ n. absurd (omega arith), inr (inr w))
      has e v (one_more c no_trees) w = (λ n. absurd (omega arith), inr (inr w))
      has e v (one_more c (one_more d no_trees)) w = (λ n. wrong_parts limits f a v c d e (in_unprotected e w), inr (inr w))
      has e v (one_more c (one_more d (one_more x xs))) w = (λ n. absurd (omega arith), inr (inr w))

  pub signature_place : (f : Form) (a b : Tree) (payload : List ℕ) → IsProtected limits a → IsHeaderItem limits b → Place limits f (one_more a (one_more b (one_more (bytes payload) no_trees))) NoBytes
  signature_place f a b payload first second = record {
    in_place = (first, second, (refl, tt));
    shows = λ all items rest v e right there wrong. subst (ShowsFault limits all) (sym wrong.0) (no_signature (one_more a (one_more b (one_more (bytes payload) no_trees))) v items rest right refl there wrong.1);
    has = has;
  }
    where
      has : (e : CoseFault) (v : Tree) (ms : Trees) → NoBytes e v
          → (tree_count (one_more a (one_more b (one_more (bytes payload) (one_more v ms)))) ≡ 4 → WrongForm limits f (array (one_more a (one_more b (one_more (bytes payload) (one_more v ms))))) e)
          × ((e ≡ unexpected) ⊎ IsHeaderFault limits (one_more a (one_more b (one_more (bytes payload) (one_more v ms)))) e)
      has e v no_trees w = (λ n. subst (WrongForm limits f (array (one_more a (one_more b (one_more (bytes payload) (one_more v no_trees)))))) (sym w.0) (wrong_last limits f a b (bytes payload) v w.1), inl w.0)
      has e v (one_more d ms) w = (λ n. absurd (omega arith), inl w.0)

  pub any_place : (f : Form) (done : Trees) → AreInPlace limits done → Place limits f done NoneWrong
  any_place f done right = record { in_place = right; shows = λ b items rest v e before there wrong. absurd wrong; has = λ e v ms w. absurd w }

  -- the end of an open array
  close_fault : 2 ≤ limits.nesting → (f : Form) (o : Option ℕ) (done : Trees) → AreInPlace limits done → o ≡ None → tree_count done ≡ 4 → (stop : ℕ) (x rest : List ℕ) (w : Why) → Within limits f o done x → CloseFault stop rest w
      → UnstreamedBy limits stop (x ++ rest) w
  close_fault least f o done right unsized four stop x rest (damaged e) w d =
      damaged_by stop (x ++ rest) limits.nesting e (within_damage least stop f o done x rest e w (subst (λ (z : Option ℕ). Due done rest (Array z)) (sym unsized) (in_open_array (title_no_break stop rest e d))) (in_title rest (limits.nesting - 2) e d))
  close_fault least f o done right unsized four stop x rest untagged w d = absurd d
  close_fault least f o done right unsized four stop x rest (tagged n) w d = absurd d
  close_fault least f o done right unsized four stop x rest (shape e) w (u, d) = (
    subst (ShowsFault limits (x ++ rest)) (sym u) (not_closed done d.0 rest d.1 (right_up_to f o done x rest w right) unsized four d.2 d.3),
    λ t after i. inl (go t (left f o done x rest after t w (omega arith) i)),
  )
    where
      go : (t : Tree) → Left f o done rest t → IsMisshapen limits t e
      go t l = cases l.more l.spells l.mean
        where
          cases : (more : Trees) → SpellsAll l.inner more → meanings more ≡ Some l.means → IsMisshapen limits t e
          cases no_trees p m =
              let c = l.closed unsized in
              absurd (begun_no_break d.0 rest d.1 d.2 d.3 c.0 (l.whole ∙ ap (λ z. z ++ l.behind) p ∙ c.1))
          cases (one_more s ss) p m =
              let k = meanings_parts s ss l.means m in
              let c : tree_count l.means ≡ 1 + tree_count k.1 = ap tree_count k.4 in
              not_four_shape f done l.means t e l.is (λ x. let a = append_count done l.means in omega arith) u
  close_fault least f o done right unsized four stop x rest without_payload w d = absurd d
  close_fault least f o done right unsized four stop x rest without_length w d = absurd d
  close_fault least f o done right unsized four stop x rest refused w d = absurd d

  pub close_tells : 2 ≤ limits.nesting → {E : Type 0} (ends : E → Bool) (l₀ l₁ : Option (List ℕ)) (o₀ o₁ room : ℕ) (f : Form) (o : Option ℕ) (done : Trees) (e : StreamFault E) → Moves l₀ l₁ o₀ o₁ (Within limits f o done)
      → AreInPlace limits done → tree_count done ≡ 4 → o ≡ None → Names ends CloseFault 0 l₁ o₁ e → Names ends (UnstreamedBy limits) room l₀ o₀ e
  close_tells least ends l₀ l₁ o₀ o₁ room f o done e t right four unsized k =
      tells_behind ends l₀ l₁ o₀ o₁ 0 room (Within limits f o done) CloseFault (UnstreamedBy limits) e t (omega arith) (λ stop x rest w le p d. close_fault least f o done right unsized four stop x rest w p d) k

  -- there was no memory if nothing is read
  pub refused_tells : (l₀ l₁ : Option (List ℕ)) (o₀ o₁ : ℕ) (f : Form) (o : Option ℕ) (done : Trees) → Moves l₀ l₁ o₀ o₁ (Within limits f o done)
      → IfKnown l₀ (λ b. UnstreamedBy limits (o₀ + length b) b refused)
  refused_tells l₀ l₁ o₀ o₁ f o done t = go l₀ l₁ t
    where
      go : (l₀ l₁ : Option (List ℕ)) → Moves l₀ l₁ o₀ o₁ (Within limits f o done) → IfKnown l₀ (λ b. UnstreamedBy limits (o₀ + length b) b refused)
      go None l₁ t = tt
      go (Some b) None t = absurd t.taken
      go (Some b) (Some rest) t = let w = begun f o done t.bytes rest t.has in subst BeginsMessage (sym t.taken) w
