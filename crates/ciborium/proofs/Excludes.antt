-- The faults at the place of an item. Damage and a front exclude each other: bytes that begin a
-- readable item have no fault there. An item with assigned simple values has no fault but a
-- negative number that is too large.
use Rattle.std.proofs.Common.{◌≡◌, ◌≤◌, ◌-◌, inl, inr, ℕ, List, ◌++◌, Option, None, Some, refl, sym, ap, subst, ◌∙◌, arith, append_assoc}
use Rattle.std.specs.Option.{option_map, option_and_then}
use Rattle.std.specs.Str.{IsUtf8}
use Rattle.ciborium_ll.specs.declared.hdr.Header.{Header}
use Rattle.ciborium_ll.specs.declared.hdr.Header.TheVariants.{Simple, Tag, Break, Bytes, Text}
use Rattle.ciborium_ll.specs.Title.{Begins}
use Rattle.ciborium_ll.specs.Framing.{joined, Frame, Any, Opened, opened, deeper, bytes_same, bytes_unbroken, text_same, text_unbroken}
use Rattle.ciborium_value.specs.declared.kind.Kind.TheVariants as kind
use Rattle.ciborium_value.specs.Tree.{Tree, bytes, text, array, map, tag, simple, Trees, no_trees, one_more, Pairs, no_pairs, pair_more, flat, depth}
use Rattle.ciborium_value.specs.Folding.{tagged, fold_bytes}
use Rattle.ciborium.specs.Meaning.{meaning, meanings, pair_meanings, simple_meaning, Assigned, AllAssigned, PairsAssigned}
use Rattle.ciborium.specs.Damage.{Fault, semantic, Damage, in_title, in_bytes, in_text, unassigned, stray_break, too_negative, too_deep, in_child, in_free, ChunkDamage, cut_body, bad_body, StringDamage, Opens, level_array, level_map, level_tag}
use Rattle.ciborium.specs.Front.{Front}
use Rattle.ciborium.proofs.Once.{once, no_break, tree_kind, kind_0, kind_1}
use Rattle.ciborium.proofs.Exact.{title_not, string_not}
use Rattle.ciborium.proofs.Parts.{Stands, Inherited, stands_begins, kind_at, simple_part, tag_parts, array_deep, map_deep, child_there, level_there, free_there}
use Rattle.ciborium.proofs.ReadLemmas.{meanings_parts, meanings_made}
use Rattle.ciborium.proofs.Folded.{pairs_parts, assigned_simple}

-- damage of a string begins with a title of its kind
module _ (k : Option ℕ → Header) (P : List ℕ → Type 0) where
  opened_begins : (n : ℕ) (a rest : List ℕ) (xs : List (List ℕ)) → Opened k P n a xs → (r : List ℕ) × Begins (a ++ rest) (k None) r
  opened_begins _ _ rest _ (opened title inner xs t fs) = (inner ++ rest, record { title = title; is_title = t; whole = append_assoc title inner rest })
  opened_begins _ _ rest _ (deeper n a title inner xs ys o t fs) =
      let w = opened_begins n a ((title ++ inner) ++ rest) xs o in
      (w.0, record { title = w.1.title; is_title = w.1.is_title; whole = append_assoc a (title ++ inner) rest ∙ w.1.whole })

  chunk_begins : (stop : ℕ) (b : List ℕ) (e : Fault) → ChunkDamage k P stop b e → (o : Option ℕ) × (r : List ℕ) × Begins b (k o) r
  chunk_begins stop b _ (cut_body n rest s _) = (Some n, rest, s)
  chunk_begins stop b _ (bad_body n p rest s _ _) = (Some n, rest, s)

  pub string_begins : (stop : ℕ) (b : List ℕ) (e : Fault) → StringDamage k P stop b e → (o : Option ℕ) × (r : List ℕ) × Begins b (k o) r
  string_begins stop b e (inl d) = chunk_begins stop b e d
  string_begins stop b e (inr (rest, i, d)) =
      let w = opened_begins i.opens i.read rest i.bodies i.is in
      (None, w.0, record { title = w.1.title; is_title = w.1.is_title; whole = i.whole ∙ w.1.whole })

bytes_not : (stop : ℕ) (b rest : List ℕ) (e : Fault) (t : Tree) → StringDamage Bytes Any stop b e → Stands b t rest → ⊥
bytes_not stop b rest e (bytes x) d f =
    string_not Bytes bytes_same bytes_unbroken Any stop f.spelling rest e f.spells.0 f.spells.1 (subst (λ (z : List ℕ). StringDamage Bytes Any stop z e) f.whole d)
bytes_not stop b rest e t d f = absurd (let w = string_begins Bytes Any stop b e d in let k : 1 ≡ tree_kind t = sym (kind_0 w.0) ∙ kind_at b w.1 rest (Bytes w.0) t w.2 f in omega arith)

text_not : (stop : ℕ) (b rest : List ℕ) (e : Fault) (t : Tree) → StringDamage Text IsUtf8 stop b e → Stands b t rest → ⊥
text_not stop b rest e (text x) d f =
    string_not Text text_same text_unbroken IsUtf8 stop f.spelling rest e f.spells.0 f.spells.1 (subst (λ (z : List ℕ). StringDamage Text IsUtf8 stop z e) f.whole d)
text_not stop b rest e t d f = absurd (let w = string_begins Text IsUtf8 stop b e d in let k : 2 ≡ tree_kind t = sym (kind_1 w.0) ∙ kind_at b w.1 rest (Text w.0) t w.2 f in omega arith)

-- if an item of at most `limit` levels is there and has P, each fault there has R
module _ (P : Tree → Type 0) (Q : Trees → Type 0) (inherited : Inherited P Q) (R : Fault → Type 0) (bare : (n : ℕ) → P (simple n) → simple_meaning n ≡ None → R (semantic kind.Simple))
    (negative : (x : List ℕ) → P (tag 3 (bytes x)) → fold_bytes 3 x ≡ None → R (semantic kind.BigNegative)) where
  unassigned_there : (b r rest : List ℕ) (n : ℕ) (t : Tree) → Begins b (Simple n) r → simple_meaning n ≡ None → Stands b t rest → P t → R (semantic kind.Simple)
  unassigned_there b r rest n t s e f p = bare n (subst P (simple_part b r rest n t s f) p) e

  break_not : (b r rest : List ℕ) (t : Tree) → Begins b Break r → Stands b t rest → ⊥
  break_not b r rest t s f = no_break t f.spelling rest r f.spells (sym f.whole ∙ s.whole ∙ ap (λ z. z ++ r) s.is_title)

  negative_there : (b inside inner r rest : List ℕ) (bodies : List (List ℕ)) (t : Tree) → Begins b (Tag 3) inside → Frame Bytes Any inner bodies → inside ≡ inner ++ r → fold_bytes 3 (joined bodies) ≡ None
      → Stands b t rest → P t → R (semantic kind.BigNegative)
  negative_there b inside inner r rest bodies t s g w e f p =
      let c = tag_parts b inside rest 3 t s f in
      let u : c.under ≡ bytes (joined bodies) = (once c.under (bytes (joined bodies)) c.at.spelling inner rest r c.at.spells (bodies, g, refl) (sym c.at.whole ∙ w)).0 in
      negative (joined bodies) (subst P (c.is ∙ ap (tag 3) u) p) e

  deep_not : (b r rest : List ℕ) (h : Header) (t : Tree) → Begins b h r → Opens r h → Stands b t rest → depth t ≤ 0 → P t → ⊥
  deep_not b r rest _ t s (level_array o) f d p = let q = array_deep P Q inherited b r rest o 0 t s f d p in omega arith
  deep_not b r rest _ t s (level_map o) f d p = let q = map_deep P Q inherited b r rest o 0 t s f d p in omega arith
  deep_not b r rest _ t s (level_tag n l) f d p = let q = (level_there P Q inherited b r rest n 0 t s l f d p).0 in omega arith

  pub fault_there : (stop : ℕ) (b : List ℕ) (limit : ℕ) (e : Fault) → Damage stop b limit e → (t : Tree) (rest : List ℕ) → Stands b t rest → depth t ≤ limit → P t → R e
  fault_there stop b limit e (in_title _ _ _ d) t rest f low p = let h = stands_begins b rest t f in absurd (title_not stop b h.1 h.0 e h.2 d)
  fault_there stop b limit e (in_bytes _ _ _ d) t rest f low p = absurd (bytes_not stop b rest e t d f)
  fault_there stop b limit e (in_text _ _ _ d) t rest f low p = absurd (text_not stop b rest e t d f)
  fault_there stop b limit _ (unassigned _ r _ n s m) t rest f low p = unassigned_there b r rest n t s m f p
  fault_there stop b limit _ (stray_break _ r _ s) t rest f low p = absurd (break_not b r rest t s f)
  fault_there stop b limit _ (too_negative _ inside inner r _ bodies s g w m) t rest f low p = negative_there b inside inner r rest bodies t s g w m f p
  fault_there stop b _ _ (too_deep _ r h s l) t rest f low p = absurd (deep_not b r rest h t s l f low p)
  fault_there stop b limit e (in_child _ inside at _ h done _ s l fs due d) t rest f low p =
      let w = child_there P Q inherited b inside at rest limit h done t s fs due f low p in
      fault_there stop at (limit - 1) e d w.tree w.rest w.there w.shallow w.has
  fault_there stop b limit e (in_free _ inside _ n _ s _ d) t rest f low p =
      let w = free_there P Q inherited b inside rest n limit t s f low p in
      fault_there stop inside limit e d w.tree w.rest w.there w.shallow w.has

-- an item that means something
abbrev Means : Tree → Type 0
Means t = (v : Tree) × (meaning t ≡ Some v)

abbrev AllMean : Trees → Type 0
AllMean ts = (vs : Trees) × (meanings ts ≡ Some vs)

map_some : {A B : Type 0} (f : A → B) (o : Option A) (v : B) → option_map f o ≡ Some v → (u : A) × (o ≡ Some u)
map_some f None v e = cc
map_some f (Some u) v e = (u, refl)

then_some : {A B : Type 0} (f : A → Option B) (o : Option A) (v : B) → option_and_then f o ≡ Some v → (u : A) × (o ≡ Some u)
then_some f None v e = cc
then_some f (Some u) v e = (u, refl)

flat_means : (ps qs : Pairs) → pair_meanings ps ≡ Some qs → AllMean (flat ps)
flat_means no_pairs qs e = (no_trees, refl)
flat_means (pair_more k v ps) qs e =
    let w = pairs_parts k v ps qs e in
    let r = flat_means ps w.2 w.5 in
    (one_more w.0 (one_more w.1 r.0), meanings_made k (one_more v (flat ps)) w.0 (one_more w.1 r.0) w.3 (meanings_made v (flat ps) w.1 r.0 w.4 r.1))

items_mean : (t : Tree) (ts : Trees) → AllMean (one_more t ts) → Means t × AllMean ts
items_mean t ts p = let w = meanings_parts t ts p.0 p.1 in ((w.0, w.2), (w.1, w.3))

parts_mean : Inherited Means AllMean
parts_mean = record {
  of_array = λ ts p. map_some array (meanings ts) p.0 p.1;
  of_map = λ ps p. let m = map_some map (pair_meanings ps) p.0 p.1 in flat_means ps m.0 m.1;
  of_tag = λ n t p. then_some (tagged n) (meaning t) p.0 p.1;
  of_items = items_mean;
}

bare_means : (n : ℕ) → Means (simple n) → simple_meaning n ≡ None → ⊥
bare_means n p e = let f : simple_meaning n ≡ Some p.0 = p.1 in cc

negative_means : (x : List ℕ) → Means (tag 3 (bytes x)) → fold_bytes 3 x ≡ None → ⊥
negative_means x p e = let f : fold_bytes 3 x ≡ Some p.0 = p.1 in cc

pub excludes : (stop : ℕ) (b : List ℕ) (limit : ℕ) (e : Fault) → Damage stop b limit e → (v : Tree) (rest : List ℕ) → Front b limit v rest → ⊥
excludes stop b limit e d v rest f =
    fault_there Means AllMean parts_mean (λ e. ⊥) bare_means negative_means stop b limit e d f.reads.tree rest (record { spelling = f.spelling; whole = f.whole; spells = f.reads.spells }) f.reads.shallow (v, f.reads.means)

-- an item with assigned simple values
flat_assigned : (ps : Pairs) → PairsAssigned ps → AllAssigned (flat ps)
flat_assigned no_pairs a = a
flat_assigned (pair_more k v ps) a = (a.0, (a.1, flat_assigned ps a.2))

parts_assigned : Inherited Assigned AllAssigned
parts_assigned = record { of_array = λ ts a. a; of_map = flat_assigned; of_tag = λ n t a. a; of_items = λ t ts a. a }

bare_assigned : (n : ℕ) → Assigned (simple n) → simple_meaning n ≡ None → semantic kind.Simple ≡ semantic kind.BigNegative
bare_assigned n a e = absurd (let f : simple_meaning n ≡ Some (simple n) = assigned_simple n a in cc)

pub fault_negative : (stop : ℕ) (b : List ℕ) (limit : ℕ) (e : Fault) → Damage stop b limit e → (t : Tree) (rest : List ℕ) → Stands b t rest → depth t ≤ limit → Assigned t → e ≡ semantic kind.BigNegative
fault_negative stop b limit e d t rest f low a =
    fault_there Assigned AllAssigned parts_assigned (λ e. e ≡ semantic kind.BigNegative) bare_assigned (λ x p m. refl) stop b limit e d t rest f low a
