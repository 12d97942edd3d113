-- Bytes begin a readable item, or have a fault there.
use Rattle.std.proofs.Common.{◌≡◌, ◌≤◌, ◌<◌, ◌-◌, ◌⊎◌, inl, inr, ℕ, zero, suc, pos, negsuc, Bool, true, false, cond, List, ◌++◌, length, Option, None, Some, refl, sym, ap, subst, ◌∙◌, arith, append_assoc, nat_eq, nat_lt, nat_le, ◌&&◌, ◌||◌}
use Rattle.std.specs.List.{All}
use Rattle.std.specs.Str.{IsUtf8}
use Rattle.std.proofs.lemmas.Bool.{cases_eq}
use Rattle.std.proofs.lemmas.Bool.Decides.{nat_tests}
use Rattle.ciborium_ll.specs.declared.hdr.Header.{Header}
use Rattle.ciborium_ll.specs.declared.hdr.Header.TheVariants.{Positive, Negative, Simple, Tag, Break, Bytes, Text, Array, Map}
use Rattle.ciborium_ll.specs.declared.hdr.Header.TheVariants as head
use Rattle.ciborium_ll.specs.Title.{Begins}
use Rattle.ciborium_ll.specs.Framing.{Any, joined}
use Rattle.ciborium_ll.proofs.Titled.{TitleCase, begins, is_cut, starts_bad, title_case}
use Rattle.ciborium_value.specs.declared.kind.Kind.TheVariants as kind
use Rattle.ciborium_value.specs.Tree.{Tree, integer, bytes, text, array, map, tag, simple, float, depth}
use Rattle.ciborium_value.specs.Folding.{tagged, fold_bytes, big_endian_from, without_zeros, IsTooNegative}
use Rattle.ciborium.specs.Spelling.{Spells}
use Rattle.ciborium.specs.Meaning.{meaning, simple_meaning}
use Rattle.ciborium.specs.Damage.{Fault, end, deep, syntax, semantic, Damage, in_title, in_bytes, in_text, unassigned, stray_break, too_negative, too_deep, in_child, in_free, TitleDamage, cut_title, bad_title, IsLevel, Opens, level_array, level_map, level_tag}
use Rattle.ciborium.specs.Front.{Front}
use Rattle.ciborium.specs.Reading.{ReadsAfterTitle}
use Rattle.ciborium.proofs.Words.{TaggedAfterTitle}
use Rattle.ciborium.proofs.StringLemmas.{title_some}
use Rattle.ciborium.proofs.ChildLemmas.{array_read, map_read}
use Rattle.ciborium.proofs.TagLemmas.{tag_read, tag_level, free_depth, bytes_meant, title_free, bytes_free, in_tag}
use Rattle.ciborium.proofs.StringCases.{PartCase, closes, of_kind, other, bytes_part, StringCase, string_front, string_fault, bytes_case, text_case, bytes_behind, shorter}
use Rattle.ciborium.proofs.ChildCases.{ItemCase, readable, damaged, Decided, ArrayCase, array_front, array_fault, array_case, MapCase, map_front, map_fault, map_case}

-- a fold that is none is of tag 3
fold_three : (n : ℕ) (b : List ℕ) → (n ≡ 3 → ⊥) → fold_bytes n b ≡ None → ⊥
fold_three n b not e = go (nat_le (length b) 16) (nat_lt (big_endian_from 0 b) 18446744073709551616) (nat_eq n 3) refl e
  where
    three : nat_eq n 3 ≡ true → ⊥
    three t = not (grind (arith, nat_tests))

    go : (p q t : Bool) → nat_eq n 3 ≡ t → cond p (cond q (Some (integer (cond (nat_eq n 2) (pos (big_endian_from 0 b)) (negsuc (big_endian_from 0 b)))))
        (cond (t && nat_le 170141183460469231731687303715884105728 (big_endian_from 0 b)) None (Some (tag n (bytes (without_zeros b)))))) (Some (tag n (bytes b))) ≡ None → ⊥
    go true true t f e = cc
    go true false true f e = three f
    go true false false f e = cc
    go false q t f e = cc

pub none_negative : (n : ℕ) (c : Tree) → tagged n c ≡ None → IsTooNegative n c
none_negative n (bytes b) e = by_tag (nat_eq n 2 || nat_eq n 3) e
  where
    by_three : (n ≡ 3) ⊎ (n ≡ 3 → ⊥) → fold_bytes n b ≡ None → IsTooNegative n (bytes b)
    by_three (inl f) e = (f, b, refl, subst (λ (z : ℕ). fold_bytes z b ≡ None) f e)
    by_three (inr p) e = absurd (fold_three n b p e)

    by_tag : (t : Bool) → cond t (fold_bytes n b) (Some (tag n (bytes b))) ≡ None → IsTooNegative n (bytes b)
    by_tag true e = by_three (cases_eq n 3) e
    by_tag false e = cc
none_negative n (integer i) e = cc
none_negative n (text b) e = cc
none_negative n (array ts) e = cc
none_negative n (map ps) e = cc
none_negative n (tag k t) e = cc
none_negative n (simple k) e = cc
none_negative n (float f) e = cc

-- an item of its title alone
leaf : (stop limit : ℕ) (b rest : List ℕ) (h : Header) (t v : Tree) (s : Begins b h rest) → Spells s.title t → depth t ≤ limit → meaning t ≡ Some v → ItemCase stop limit b
leaf stop limit b rest h t v s spells low means =
    readable v rest (record { spelling = s.title; whole = s.whole; reads = record { tree = t; spells = spells; shallow = low; means = means } })

-- an item after its title
behind : (stop limit : ℕ) (b inside read rest : List ℕ) (h : Header) (v : Tree) → Begins b h inside → inside ≡ read ++ rest → ReadsAfterTitle h limit v read → ItemCase stop limit b
behind stop limit b inside read rest h v s w p =
    readable v rest (record { spelling = s.title ++ read; whole = s.whole ∙ ap (λ z. s.title ++ z) w ∙ sym (append_assoc s.title read rest); reads = p s.title s.is_title })

simple_case : (stop limit n : ℕ) (b rest : List ℕ) → Begins b (Simple n) rest → ItemCase stop limit b
simple_case stop limit n b rest s = by_meaning (simple_meaning n) refl
  where
    by_meaning : (m : Option Tree) → simple_meaning n ≡ m → ItemCase stop limit b
    by_meaning None e = damaged (semantic kind.Simple) (unassigned b rest limit n s e)
    by_meaning (Some v) e = leaf stop limit b rest (Simple n) (simple n) v s s.is_title (omega arith) e

bytes_item : (stop limit : ℕ) (b : List ℕ) → StringCase Bytes Any stop b → ItemCase stop limit b
bytes_item stop limit b (string_front f) =
    readable (bytes (joined f.bodies)) f.rest (record { spelling = f.read; whole = f.whole; reads = record { tree = bytes (joined f.bodies); spells = (f.bodies, f.frame, refl); shallow = omega arith; means = refl } })
bytes_item stop limit b (string_fault e d) = damaged e (in_bytes b limit e d)

text_item : (stop limit : ℕ) (b : List ℕ) → StringCase Text IsUtf8 stop b → ItemCase stop limit b
text_item stop limit b (string_front f) =
    readable (text (joined f.bodies)) f.rest (record { spelling = f.read; whole = f.whole; reads = record { tree = text (joined f.bodies); spells = (f.bodies, f.frame, refl); shallow = omega arith; means = refl } })
text_item stop limit b (string_fault e d) = damaged e (in_text b limit e d)

-- at the limit 0 a header that opens a level is too deep
no_level : (stop limit : ℕ) (b rest : List ℕ) (h : Header) → limit ≡ 0 → Begins b h rest → Opens rest h → ItemCase stop limit b
no_level stop limit b rest h e s o = damaged deep (subst (λ (z : ℕ). Damage stop b z deep) (sym e) (too_deep b rest h s o))

array_item : (stop limit : ℕ) (b inside : List ℕ) (o : Option ℕ) → Begins b (Array o) inside → 0 < limit → ArrayCase stop o (limit - 1) inside → ItemCase stop limit b
array_item stop limit b inside o s some (array_front f) =
    behind stop limit b inside f.read f.rest (Array o) (array f.values) s f.whole (array_read o _ limit (array f.values) f.values f.read refl refl some f.behind)
array_item stop limit b inside o s some (array_fault e d) = damaged e (in_child b inside d.rest limit (Array o) d.done e s some d.fronts d.due d.damage)

map_item : (stop limit : ℕ) (b inside : List ℕ) (o : Option ℕ) → Begins b (Map o) inside → 0 < limit → MapCase stop o (limit - 1) inside → ItemCase stop limit b
map_item stop limit b inside o s some (map_front f) =
    behind stop limit b inside f.read f.rest (Map o) (map f.values) s f.whole (map_read o f.count limit (map f.values) f.values f.read refl f.counts some f.behind)
map_item stop limit b inside o s some (map_fault e d) = damaged e (in_child b inside d.rest limit (Map o) d.done e s some d.fronts d.due d.damage)

-- the item after a tag is there
content_case : (stop limit n : ℕ) (b inside read rest : List ℕ) (c : Tree) → Begins b (Tag n) inside → inside ≡ read ++ rest → TaggedAfterTitle n limit c read → ItemCase stop limit b
content_case stop limit n b inside read rest c s w p = by_fold (tagged n c) refl
  where
    negative : IsTooNegative n c → ItemCase stop limit b
    negative (three, x, is, none) =
        let e : p.tree ≡ bytes x = bytes_meant p.tree x (p.means ∙ ap Some is) in
        let f : Spells read (bytes x) = subst (λ (z : Tree). Spells read z) e p.spells in
        damaged (semantic kind.BigNegative) (too_negative b inside read rest limit f.0 (subst (λ (z : ℕ). Begins b (Tag z) inside) three s) f.1 w (subst (λ (z : List ℕ). fold_bytes 3 z ≡ None) f.2 none))

    by_fold : (m : Option Tree) → tagged n c ≡ m → ItemCase stop limit b
    by_fold None e = negative (none_negative n c e)
    by_fold (Some v) e = behind stop limit b inside read rest (Tag n) v s w (tag_read n limit c v read p e)

module _ (stop n : ℕ) (decided : Decided stop n) (limit : ℕ) (b : List ℕ) (few : length b ≤ n) (within : length b ≤ stop) (low : All (λ x. x < 256) b) where
  -- what is after a title is shorter
  less : (h : Header) (inside : List ℕ) → Begins b h inside → length inside < length b
  less h inside s = shorter b s.title inside s.whole (title_some s.title h s.is_title)

  inner : (h : Header) (inside : List ℕ) → Begins b h inside → All (λ x. x < 256) inside
  inner h inside s = bytes_behind b s.title inside s.whole low

  level_case : (t : ℕ) (inside : List ℕ) → Begins b (Tag t) inside → IsLevel t inside → ItemCase stop limit b
  level_case t inside s level = by_limit (cases_eq limit 0)
    where
      by_item : 0 < limit → ItemCase stop (limit - 1) inside → ItemCase stop limit b
      by_item some (readable c rest f) = content_case stop limit t b inside f.spelling rest c s f.whole (tag_level t limit c f.spelling some f.reads)
      by_item some (damaged e d) = damaged e (in_tag b inside limit t e s some level d)

      by_limit : (limit ≡ 0) ⊎ (limit ≡ 0 → ⊥) → ItemCase stop limit b
      by_limit (inl e) = no_level stop limit b inside (Tag t) e s (level_tag t level)
      by_limit (inr p) = let l = less (Tag t) inside s in by_item (omega arith) (decided (limit - 1) inside (omega arith) (omega arith) (inner (Tag t) inside s))

  free_case : (t : ℕ) (inside : List ℕ) → Begins b (Tag t) inside → (t ≡ 2) ⊎ (t ≡ 3) → ItemCase stop limit b
  free_case t inside s which = by_title (title_case inside (inner (Tag t) inside s))
    where
      by_string : (o : Option ℕ) (r : List ℕ) → Begins inside (Bytes o) r → StringCase Bytes Any stop inside → ItemCase stop limit b
      by_string o r u (string_front f) = content_case stop limit t b inside f.read f.rest (bytes (joined f.bodies)) s f.whole (record {
        tree = bytes (joined f.bodies);
        spells = (f.bodies, f.frame, refl);
        shallow = free_depth t limit (joined f.bodies) which;
        means = refl;
      })
      by_string o r u (string_fault e d) = damaged e (in_free b inside limit t e s (bytes_free t inside r o which u) (in_bytes inside limit e d))

      by_part : (h : Header) (r : List ℕ) → Begins inside h r → PartCase Bytes h → ItemCase stop limit b
      by_part h r u (closes e) = level_case t inside s (inr (h, r, u, λ o f. let g : Break ≡ Bytes o = sym e ∙ f in cc))
      by_part h r u (of_kind o e) =
          let v : Begins inside (Bytes o) r = subst (λ (z : Header). Begins inside z r) e u in
          let l = less (Tag t) inside s in
          by_string o r v (bytes_case stop inside r o v (omega arith) (inner (Tag t) inside s))
      by_part h r u (other p q) = level_case t inside s (inr (h, r, u, q))

      by_damage : (e : Fault) → TitleDamage stop inside e → ItemCase stop limit b
      by_damage e d = damaged e (in_free b inside limit t e s (title_free t stop inside e which d) (in_title inside limit e d))

      by_title : TitleCase inside → ItemCase stop limit b
      by_title (is_cut c) = by_damage end (cut_title c)
      by_title (starts_bad c) =
          let l = less (Tag t) inside s in
          by_damage (syntax (stop - length inside)) (bad_title (stop - length inside) c (omega arith))
      by_title (begins h r u) = by_part h r u (bytes_part h)

  tag_case : (t : ℕ) (inside : List ℕ) → Begins b (Tag t) inside → ItemCase stop limit b
  tag_case t inside s = by_2 (cases_eq t 2)
    where
      by_3 : (t ≡ 3) ⊎ (t ≡ 3 → ⊥) → (t ≡ 2 → ⊥) → ItemCase stop limit b
      by_3 (inl e) p = free_case t inside s (inr e)
      by_3 (inr q) p = level_case t inside s (inl (p, q))

      by_2 : (t ≡ 2) ⊎ (t ≡ 2 → ⊥) → ItemCase stop limit b
      by_2 (inl e) = free_case t inside s (inl e)
      by_2 (inr p) = by_3 (cases_eq t 3) p

  list_case : (o : Option ℕ) (inside : List ℕ) → Begins b (Array o) inside → (limit ≡ 0) ⊎ (limit ≡ 0 → ⊥) → ItemCase stop limit b
  list_case o inside s (inl e) = no_level stop limit b inside (Array o) e s (level_array o)
  list_case o inside s (inr p) =
      let l = less (Array o) inside s in
      array_item stop limit b inside o s (omega arith) (array_case stop n decided o (limit - 1) inside (omega arith) (omega arith) (inner (Array o) inside s))

  pairs_case : (o : Option ℕ) (inside : List ℕ) → Begins b (Map o) inside → (limit ≡ 0) ⊎ (limit ≡ 0 → ⊥) → ItemCase stop limit b
  pairs_case o inside s (inl e) = no_level stop limit b inside (Map o) e s (level_map o)
  pairs_case o inside s (inr p) =
      let l = less (Map o) inside s in
      map_item stop limit b inside o s (omega arith) (map_case stop n decided o (limit - 1) inside (omega arith) (omega arith) (inner (Map o) inside s))

  head_case : (h : Header) (rest : List ℕ) → Begins b h rest → ItemCase stop limit b
  head_case (Positive i) rest s = leaf stop limit b rest (Positive i) (integer (pos i)) (integer (pos i)) s s.is_title (omega arith) refl
  head_case (Negative i) rest s = leaf stop limit b rest (Negative i) (integer (negsuc i)) (integer (negsuc i)) s s.is_title (omega arith) refl
  head_case (head.Float f) rest s = leaf stop limit b rest (head.Float f) (float f) (float f) s s.is_title (omega arith) refl
  head_case (Simple i) rest s = simple_case stop limit i b rest s
  head_case Break rest s = damaged (semantic kind.Break) (stray_break b rest limit s)
  head_case (Bytes o) rest s = bytes_item stop limit b (bytes_case stop b rest o s within low)
  head_case (Text o) rest s = text_item stop limit b (text_case stop b rest o s within low)
  head_case (Array o) rest s = list_case o rest s (cases_eq limit 0)
  head_case (Map o) rest s = pairs_case o rest s (cases_eq limit 0)
  head_case (Tag t) rest s = tag_case t rest s

  item_step : TitleCase b → ItemCase stop limit b
  item_step (is_cut c) = damaged end (in_title b limit end (cut_title c))
  item_step (starts_bad c) = damaged (syntax (stop - length b)) (in_title b limit _ (bad_title (stop - length b) c (omega arith)))
  item_step (begins h rest s) = head_case h rest s

decided_below : (n stop : ℕ) → Decided stop n
decided_below zero stop limit b few within low = absurd (omega arith)
decided_below (suc n) stop limit b few within low =
    item_step stop n (λ limit' b' few' within' low'. decided_below n stop limit' b' few' within' low') limit b (omega arith) within low (title_case b low)

pub item_case : (stop limit : ℕ) (b : List ℕ) → length b ≤ stop → All (λ x. x < 256) b → ItemCase stop limit b
item_case stop limit b within low = decided_below (suc (length b)) stop limit b (omega arith) within low

pub front_or_fault : (stop limit : ℕ) (b : List ℕ) → All (λ x. x < 256) b → length b ≤ stop → ((v : Tree) × (rest : List ℕ) × Front b limit v rest) ⊎ ((e : Fault) × Damage stop b limit e)
front_or_fault stop limit b low within = by_item (item_case stop limit b within low)
  where
    by_item : ItemCase stop limit b → ((v : Tree) × (rest : List ℕ) × Front b limit v rest) ⊎ ((e : Fault) × Damage stop b limit e)
    by_item (readable v rest f) = inl (v, rest, f)
    by_item (damaged e d) = inr (e, d)
