-- Faults at the titles of a message that is streamed: of its array, and of its payload.
use Rattle.std.proofs.Common.{◌≡◌, ◌≢◌, ◌-◌, ◌≤◌, ◌⊎◌, inl, inr, ℕ, Bool, false, List, [], ◌∷◌, ◌++◌, Option, None, Some, refl, sym, ap, subst, ◌∙◌, arith, append_assoc}
use Rattle.ciborium_ll.specs.declared.hdr.Header.{Header}
use Rattle.ciborium_ll.specs.declared.hdr.Header.TheVariants.{Tag, Bytes, Array, Simple}
use Rattle.ciborium_ll.specs.Title.{Title, Begins}
use Rattle.ciborium_ll.specs.Reading.{Moves}
use Rattle.ciborium_value.specs.Tree.{Tree, integer, bytes, text, array, map, tag, simple, float, Trees, no_trees, one_more, tree_count, is_bytes}
use Rattle.ciborium.specs.Spelling.{Spells, SpellsAll}
use Rattle.ciborium.specs.Meaning.{meaning, meanings}
use Rattle.ciborium.specs.Damage.{in_title}
use Rattle.ciborium.proofs.Once.{title_once, regroup}
use Rattle.ciborium.proofs.OtherDamage.{damaged_by}
use Rattle.ciborium.proofs.Parts.{Stands, tag_parts, kind_at, head_bytes}
use Rattle.ciborium.proofs.ReadLemmas.{meanings_parts}
use Rattle.ciborium.proofs.ChildLemmas.{all_count, title_no_break}
use Rattle.ciborium.proofs.TagLemmas.{bytes_meant, in_tag}
use Rattle.coset_labels.specs.Faults.{CoseFault, unexpected}
use Rattle.cose_gate_core.specs.PartsWritten.{optional_tree}
use Rattle.cose_gate_core.specs.WrongParts.{in_content}
use Rattle.cose_gate_core.specs.Findings.{Bounds}
use Rattle.cose_gate_core.specs.Misshapen.{IsMisshapen}
use Rattle.cose_gate.specs.declared.fault.StreamFault.{StreamFault}
use Rattle.cose_gate.specs.declared.form.Form.{Form}
use Rattle.cose_gate.specs.Forms.{tag_number}
use Rattle.cose_gate.specs.Opening.{IsProtected, IsHeaderItem, MessageOpening, ShowsFault, no_array_of_four, no_payload}
use Rattle.cose_gate.specs.StreamFaults.{Why, damaged, untagged, tagged, shape, without_payload, without_length, refused}
use Rattle.cose_gate.specs.Streaming.{UnstreamedBy}
use Rattle.cose_gate.specs.ElementFaults.{FourFault, SizeFault}
use Rattle.cose_gate.proofs.Faults.{Names, tells_behind}
use Rattle.cose_gate.proofs.Forms.{WrongForm, shaped, no_array, not_four_items, wrong_parts, not_two, not_three, single_tag}
use Rattle.cose_gate.proofs.Whole.{Within}
use Rattle.cose_gate.proofs.Wrong.{right_up_to, within_damage, four_due, Left, left, not_four_shape, four_or}
use Rattle.cose_gate.proofs.Elements.{append, append_count}
use Rattle.cose_gate.proofs.Meant.{array_meant, null_meant, message_meant}

-- a value under the tag that is no array of four
other_shape : (l : Bounds) (f : Form) (u : Tree) → ((ts : Trees) → u ≡ array ts → tree_count ts ≢ 4) → WrongForm l f u unexpected
other_shape l f (array ts) n = not_four_items l f ts (n ts refl)
other_shape l f (integer i) n = no_array l f (integer i) refl
other_shape l f (bytes b) n = no_array l f (bytes b) refl
other_shape l f (text b) n = no_array l f (text b) refl
other_shape l f (map ps) n = no_array l f (map ps) refl
other_shape l f (tag k t) n = no_array l f (tag k t) refl
other_shape l f (simple k) n = no_array l f (simple k) refl
other_shape l f (float x) n = no_array l f (float x) refl

array_title : (inside r after : List ℕ) (h : Header) (ts : Trees) → Begins inside h r → Stands inside (array ts) after → (h ≡ Array (Some (tree_count ts))) ⊎ (h ≡ Array None)
array_title inside r after h ts s st = go st.spells
  where
    at : (title tail : List ℕ) → st.spelling ≡ title ++ tail → s.title ++ r ≡ title ++ (tail ++ after)
    at title tail e = sym s.whole ∙ st.whole ∙ ap (λ z. z ++ after) e ∙ append_assoc title tail after

    go : Spells st.spelling (array ts) → (h ≡ Array (Some (tree_count ts))) ⊎ (h ≡ Array None)
    go (inl (title, c, p, all, e)) = inl (title_once s.title title r (c ++ after) h (Array (Some (tree_count ts))) s.is_title p (at title c e)).0
    go (inr (title, c, p, all, e)) = inr (title_once s.title title r ((c ++ 255 ∷ []) ++ after) h (Array None) s.is_title p (at title (c ++ 255 ∷ []) e)).0

four_fault : (limits : Bounds) → 2 ≤ limits.nesting → (f : Form) (stop : ℕ) (x rest : List ℕ) (w : Why) → Title x (Tag (tag_number f)) → FourFault stop rest w → UnstreamedBy limits stop (x ++ rest) w
four_fault limits least f stop x rest (damaged e) t d =
    let n = limits.nesting in
    damaged_by stop (x ++ rest) n e (in_tag (x ++ rest) rest n (tag_number f) e (record { title = x; is_title = t; whole = refl }) (omega arith) (inl (not_two f, not_three f)) (in_title rest (n - 1) e d))
four_fault limits least f stop x rest untagged t d = absurd d
four_fault limits least f stop x rest (tagged n) t d = absurd d
four_fault limits least f stop x rest (shape e) t (u, d) = (
  subst (ShowsFault limits (x ++ rest)) (sym u) (no_array_of_four (tag_number f) rest d.1 d.0 (single_tag f) (record { title = x; is_title = t; whole = refl }) d.2 d.3),
  λ v after i.
      let c = tag_parts (x ++ rest) rest after (tag_number f) i.reads.tree (record { title = x; is_title = t; whole = refl }) (record { spelling = i.spelling; whole = i.whole; spells = i.reads.spells }) in
      let m = message_meant f (meaning c.under) v (ap meaning (sym c.is) ∙ i.reads.means) in
      let wrong : WrongForm limits f m.0 unexpected = other_shape limits f m.0 (λ ts u k. none c.under after c.at ts (m.1 ∙ ap Some u) k) in
      inl (shaped limits f v m.0 e m.2 (subst (WrongForm limits f m.0) (sym u) wrong)),
)
  where
    none : (under : Tree) (after : List ℕ) → Stands rest under after → (ts : Trees) → meaning under ≡ Some (array ts) → tree_count ts ≡ 4 → ⊥
    none under after st ts m k =
        let a = array_meant under ts m in
        let n : tree_count a.0 ≡ tree_count ts = all_count a.0 ts a.2 in
        go a.0 (n ∙ k) (array_title rest d.1 after d.0 a.0 d.2 (subst (λ (z : Tree). Stands rest z after) a.1 st))
      where
        go : (us : Trees) → tree_count us ≡ 4 → (d.0 ≡ Array (Some (tree_count us))) ⊎ (d.0 ≡ Array None) → ⊥
        go us four (inl e) = d.3 (Some (tree_count us)) four e
        go us four (inr e) = d.3 None tt e
four_fault limits least f stop x rest without_payload t d = absurd d
four_fault limits least f stop x rest without_length t d = absurd d
four_fault limits least f stop x rest refused t d = absurd d

pub four_tells : (limits : Bounds) → 2 ≤ limits.nesting → {E : Type 0} (ends : E → Bool) (l₀ l₁ : Option (List ℕ)) (o₀ o₁ room : ℕ) (f : Form) (e : StreamFault E) → Moves l₀ l₁ o₀ o₁ (λ (b : List ℕ). Title b (Tag (tag_number f)))
    → Names ends FourFault 0 l₁ o₁ e → Names ends (UnstreamedBy limits) room l₀ o₀ e
four_tells limits least ends l₀ l₁ o₀ o₁ room f e t k =
    tells_behind ends l₀ l₁ o₀ o₁ 0 room (λ (b : List ℕ). Title b (Tag (tag_number f))) FourFault (UnstreamedBy limits) e t (omega arith) (λ stop x rest w le p d. four_fault limits least f stop x rest w p d) k

-- the title of the payload
payload_not : (rest r after : List ℕ) (h : Header) (s c : Tree) → Begins rest h r → Stands rest s after → meaning s ≡ Some c → ((o : Option ℕ) → h ≢ Bytes o) → h ≢ Simple 22 → h ≢ Simple 23
    → (o : Option (List ℕ)) → c ≢ optional_tree o
payload_not rest r after h s c b st m no_bytes no_null no_undefined (Some x) e =
    let i : s ≡ bytes x = bytes_meant s x (m ∙ ap Some e) in
    let w = head_bytes h (kind_at rest r after h (bytes x) b (subst (λ (z : Tree). Stands rest z after) i st)) in
    no_bytes w.0 w.1
payload_not rest r after h s c b st m no_bytes no_null no_undefined None e =
    let i = null_meant s (m ∙ ap Some e) in
    let there : Stands rest (simple i.0) after = subst (λ (z : Tree). Stands rest z after) i.1 st in
    let same : h ≡ Simple i.0 = (title_once b.title there.spelling r after h (Simple i.0) b.is_title there.spells (sym b.whole ∙ there.whole)).0 in
    go same i.2
  where
    go : {n : ℕ} → h ≡ Simple n → (n ≡ 22) ⊎ (n ≡ 23) → ⊥
    go e (inl k) = no_null (e ∙ ap Simple k)
    go e (inr k) = no_undefined (e ∙ ap Simple k)

no_string : (c : Tree) → ((x : List ℕ) → c ≢ bytes x) → is_bytes c ≡ false
no_string (bytes b) n = absurd (n b refl)
no_string (array ts) n = refl
no_string (integer i) n = refl
no_string (text b) n = refl
no_string (map ps) n = refl
no_string (tag k t) n = refl
no_string (simple k) n = refl
no_string (float x) n = refl

payload_shape : (limits : Bounds) (f : Form) (o : Option ℕ) (a b : Tree) (rest r : List ℕ) (h : Header) (t : Tree) (e : CoseFault) → Begins rest h r → ((o : Option ℕ) → h ≢ Bytes o) → h ≢ Simple 22 → h ≢ Simple 23
    → Left f o (one_more a (one_more b no_trees)) rest t → e ≡ unexpected → IsMisshapen limits t e
payload_shape limits f o a b rest r h t e s no_bytes no_null no_undefined l u = go (four_or (tree_count (append two l.means)))
  where
    two : Trees
    two = one_more a (one_more b no_trees)

    there : (more means : Trees) → SpellsAll l.inner more → meanings more ≡ Some means → t ≡ tag (tag_number f) (array (append two means)) → tree_count (append two means) ≡ 4 → IsMisshapen limits t e
    there no_trees means p m is k = let n : Some no_trees ≡ Some means = m in let q : no_trees ≡ means = cc in let c : tree_count means ≡ 0 = ap tree_count (sym q) in absurd (let d = append_count two means in omega arith)
    there (one_more x xs) means p m is k =
        let y = meanings_parts x xs means m in
        let st : Stands rest x (p.1 ++ l.behind) = record { spelling = p.0; whole = l.whole ∙ regroup l.inner p.0 p.1 l.behind p.4; spells = p.2 } in
        last y.0 y.1 (is ∙ ap (λ z. tag (tag_number f) (array (append two z))) y.4) (ap (λ z. tree_count (append two z)) (sym y.4) ∙ k) (payload_not rest r (p.1 ++ l.behind) h x y.0 s st y.2 no_bytes no_null no_undefined)
      where
        last : (c : Tree) (ms : Trees) → t ≡ tag (tag_number f) (array (append two (one_more c ms))) → tree_count (append two (one_more c ms)) ≡ 4 → ((o : Option (List ℕ)) → c ≢ optional_tree o) → IsMisshapen limits t e
        last c no_trees is k n = absurd (omega arith)
        last c (one_more d no_trees) is k n =
            let u4 : Tree = array (one_more a (one_more b (one_more c (one_more d no_trees)))) in
            shaped limits f t u4 e is (subst (WrongForm limits f u4) (sym u) (wrong_parts limits f a b c d unexpected (in_content (no_string c (λ x. n (Some x))) (n None))))
        last c (one_more d (one_more x xs)) is k n = absurd (omega arith)

    go : (tree_count (append two l.means) ≡ 4) ⊎ (tree_count (append two l.means) ≢ 4) → IsMisshapen limits t e
    go (inl k) = there l.more l.means l.spells l.mean l.is k
    go (inr n) = not_four_shape limits f two l.means t e l.is n u

-- the headers were accepted
module _ (limits : Bounds) (f : Form) (o : Option ℕ) (a b : Tree) (first : IsProtected limits a) (second : IsHeaderItem limits b) where
  opens : (x rest r : List ℕ) (h : Header) → Within limits f o (one_more a (one_more b no_trees)) x → Begins rest h r → MessageOpening limits (x ++ rest) h
  opens x rest r h w s = record {
    headers = one_more a (one_more b no_trees);
    third = rest;
    behind = r;
    right = right_up_to limits f o (one_more a (one_more b no_trees)) x rest w (first, second, tt);
    are_two = refl;
    title = s;
  }

  size_fault : 2 ≤ limits.nesting → (stop : ℕ) (x rest : List ℕ) (w : Why) → Within limits f o (one_more a (one_more b no_trees)) x → SizeFault stop rest w → UnstreamedBy limits stop (x ++ rest) w
  size_fault least stop x rest (damaged e) w d =
      damaged_by stop (x ++ rest) limits.nesting e (within_damage limits least stop f o (one_more a (one_more b no_trees)) x rest e w (four_due o (one_more a (one_more b no_trees)) rest w.is_four (omega arith) (title_no_break stop rest e d)) (in_title rest (limits.nesting - 2) e d))
  size_fault least stop x rest untagged w d = absurd d
  size_fault least stop x rest (tagged n) w d = absurd d
  size_fault least stop x rest (shape e) w (is, d) = (
    subst (ShowsFault limits (x ++ rest)) (sym is) (no_payload d.0 (opens x rest d.1 d.0 w d.2) d.3 d.4 d.5),
    λ t after i. inl (payload_shape limits f o a b rest d.1 d.0 t e d.2 d.3 d.4 d.5 (left limits f o (one_more a (one_more b no_trees)) x rest after t w (omega arith) i) is),
  )
  size_fault least stop x rest without_payload w (inl d) = inl (opens x rest d.0 (Simple 22) w d.1)
  size_fault least stop x rest without_payload w (inr d) = inr (opens x rest d.0 (Simple 23) w d.1)
  size_fault least stop x rest without_length w d = opens x rest d.0 (Bytes None) w d.1
  size_fault least stop x rest refused w d = absurd d

  pub size_tells : 2 ≤ limits.nesting → {E : Type 0} (ends : E → Bool) (l₀ l₁ : Option (List ℕ)) (o₀ o₁ room : ℕ) (e : StreamFault E) → Moves l₀ l₁ o₀ o₁ (Within limits f o (one_more a (one_more b no_trees)))
      → Names ends SizeFault 0 l₁ o₁ e → Names ends (UnstreamedBy limits) room l₀ o₀ e
  size_tells least ends l₀ l₁ o₀ o₁ room e t k =
      tells_behind ends l₀ l₁ o₀ o₁ 0 room (Within limits f o (one_more a (one_more b no_trees))) SizeFault (UnstreamedBy limits) e t (omega arith) (λ stop x rest w le p d. size_fault least stop x rest w p d) k
