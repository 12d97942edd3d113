-- The item after a tag.
use Rattle.std.proofs.Common.{◌≡◌, ◌≢◌, ◌≤◌, ◌<◌, ◌-◌, ◌⊎◌, inl, inr, ℕ, suc, Bool, true, false, cond, List, [], ◌++◌, Option, None, Some, refl, sym, ap, subst, ◌∙◌, arith, nat_eq, nat_le, ◌&&◌, ℤ}
use Rattle.std.specs.Option.{option_map, option_and_then}
use Rattle.ciborium_ll.specs.Reading.{Moves}
use Rattle.ciborium_ll.specs.declared.hdr.Header.{Header}
use Rattle.ciborium_ll.specs.declared.hdr.Header.TheVariants.{Tag, Bytes}
use Rattle.ciborium_ll.specs.Title.{Title}
use Rattle.ciborium.specs.declared.de.Error.{Error}
use Rattle.ciborium.specs.declared.de.Error.TheVariants as code
use Rattle.ciborium_value.specs.declared.kind.Kind.TheVariants as kind
use Rattle.ciborium_value.specs.Tree.{Tree, integer, bytes, text, array, map, tag, simple, float, Trees, no_trees, Pairs, depth, opens_none}
use Rattle.ciborium.specs.Spelling.{Spells}
use Rattle.ciborium.specs.Meaning.{meaning, meanings, pair_meanings}
use Rattle.ciborium_value.specs.Folding.{tagged, fold_bytes}
use Rattle.ciborium.specs.Damage.{Fault, deep, Damage, in_title, too_negative, too_deep, in_child, in_free, TitleDamage, IsLevel, level_tag, under_tag}
use Rattle.ciborium.specs.Front.{Reads}
use Rattle.ciborium_ll.specs.Title.{Begins}
use Rattle.ciborium.specs.Reading.{FailsAt, FailsAfterTitle, IfKnown, ReadsAfterTitle, TagDamage, OpensOver}
use Rattle.ciborium.proofs.Words.{TaggedAfterTitle}
use Rattle.ciborium_value.specs.Folding.{IsTooNegative}
use Rattle.ciborium.proofs.Taking.{known_as}
use Rattle.ciborium.proofs.Exact.{begins_once, title_not}
use Rattle.ciborium.proofs.ReadLemmas.{behind_rest, all_none}
use Rattle.ciborium.proofs.ChildLemmas.{Begun, fails_begun}

pub tag_read : (n limit : ℕ) (c v : Tree) (inner : List ℕ) → TaggedAfterTitle n limit c inner → tagged n c ≡ Some v → ReadsAfterTitle (Tag n) limit v inner
tag_read n limit c v inner p e title t = record {
  tree = tag n p.tree;
  spells = (title, inner, t, p.spells, refl);
  shallow = p.shallow;
  means = ap (option_and_then (tagged n)) p.means ∙ e;
}

cond_below : (c : Bool) (a b n : ℕ) → a ≤ n → b ≤ n → cond c a b ≤ n
cond_below true a b n p q = p
cond_below false a b n p q = q

pub tag_level : (n limit : ℕ) (v : Tree) (b : List ℕ) → 0 < limit → Reads b (limit - 1) v → TaggedAfterTitle n limit v b
tag_level n limit v b l r = record {
  tree = r.tree;
  spells = r.spells;
  shallow = let h : depth r.tree ≤ limit - 1 = r.shallow in cond_below (opens_none n r.tree) 0 (suc (depth r.tree)) limit (omega arith) (omega arith);
  means = r.means;
}

pub free_depth : (n limit : ℕ) (x : List ℕ) → (n ≡ 2) ⊎ (n ≡ 3) → depth (tag n (bytes x)) ≤ limit
free_depth n limit x (inl e) = subst (λ (z : ℕ). depth (tag z (bytes x)) ≤ limit) (sym e) (omega arith)
free_depth n limit x (inr e) = subst (λ (z : ℕ). depth (tag z (bytes x)) ≤ limit) (sym e) (omega arith)

-- any other tag
pub plain_deep : {E : Type 0} (ends : E → Bool) (n limit : ℕ) (l : Option (List ℕ)) (o : ℕ) → (n ≢ 2) × (n ≢ 3) → limit ≡ 0 → IfKnown l (λ b. FailsAt {E = E} ends b o o (TagDamage n limit) code.RecursionLimitExceeded)
plain_deep ends n limit None o p e = tt
plain_deep ends n limit (Some b) o p e = inr (inl (inl p, e, refl))

pub plain_title : {E : Type 0} (ends : E → Bool) (n limit : ℕ) (l : Option (List ℕ)) (o o' : ℕ) (e : Error E) → (n ≢ 2) × (n ≢ 3) → 0 < limit → IfKnown l (λ b. FailsAt ends b o o' TitleDamage e) → IfKnown l (λ b. FailsAt ends b o o' (TagDamage n limit) e)
plain_title ends n limit l o o' e p low w = known_as ends l o o' TitleDamage (TagDamage n limit) e (λ stop b f d. inr (inr (inl p, low, in_title b (limit - 1) f d))) w

-- a tag 2 or 3
bignum_free : (n : ℕ) → (n ≡ 2) ⊎ (n ≡ 3) → (n ≢ 2) × (n ≢ 3) → ⊥
bignum_free n (inl e) not = not.0 e
bignum_free n (inr e) not = not.1 e

pub title_free : (n stop : ℕ) (b : List ℕ) (f : Fault) → (n ≡ 2) ⊎ (n ≡ 3) → TitleDamage stop b f → IsLevel n b → ⊥
title_free n stop b f which d (inl not) = bignum_free n which not
title_free n stop b f which d (inr (h, r, s, _)) = title_not stop b r h f s d

pub bytes_free : (n : ℕ) (b r : List ℕ) (o : Option ℕ) → (n ≡ 2) ⊎ (n ≡ 3) → Begins b (Bytes o) r → IsLevel n b → ⊥
bytes_free n b r o which s (inl not) = bignum_free n which not
bytes_free n b r o which s (inr (h, q, t, not)) = not o (begins_once b q r h (Bytes o) t s)

pub free_title : {E : Type 0} (ends : E → Bool) (n limit : ℕ) (l : Option (List ℕ)) (o o' : ℕ) (e : Error E) → (n ≡ 2) ⊎ (n ≡ 3) → IfKnown l (λ b. FailsAt ends b o o' TitleDamage e) → IfKnown l (λ b. FailsAt ends b o o' (TagDamage n limit) e)
free_title ends n limit l o o' e which w = known_as ends l o o' TitleDamage (TagDamage n limit) e (λ stop b f d. inl (title_free n stop b f which d, in_title b limit f d)) w

pub free_item : {E : Type 0} (ends : E → Bool) (n limit at : ℕ) (k : Option ℕ) (h : Header) (l₀ l₁ : Option (List ℕ)) (o₀ o₁ o₂ : ℕ) (e : Error E) → (n ≡ 2) ⊎ (n ≡ 3) → h ≡ Bytes k → Moves l₀ l₁ o₀ o₁ (λ (b : List ℕ). Title b h) → at ≡ o₀
    → FailsAfterTitle ends h at o₁ l₁ o₂ (λ stop b f. Damage stop b limit f) e → IfKnown l₀ (λ b. FailsAt ends b o₀ o₂ (TagDamage n limit) e)
free_item ends n limit at k h l₀ l₁ o₀ o₁ o₂ e which is t same w =
    known_as ends l₀ o₀ o₂ (Begun h (λ stop b f. Damage stop b limit f)) (TagDamage n limit) e (λ stop b f d. inl (bytes_free n b d.0.0 k which (subst (λ (z : Header). Begins b z d.0.0) is d.0.1), d.1))
    (fails_begun ends l₀ l₁ o₀ o₁ o₂ h (λ stop b f. Damage stop b limit f) e t (subst (λ (z : ℕ). FailsAfterTitle ends h z o₁ l₁ o₂ (λ stop b f. Damage stop b limit f) e) same w))

pub opens_level : (n : ℕ) (h : Header) (b : List ℕ) → OpensOver n h → (rest : List ℕ) → Begins b h rest → IsLevel n b
opens_level n h b (inl plain) rest s = inl plain
opens_level n h b (inr not) rest s = inr (h, rest, s, not)

pub level_deep : {E : Type 0} (ends : E → Bool) (n limit : ℕ) (h : Header) (l₀ l₁ : Option (List ℕ)) (o₀ o₁ : ℕ) → OpensOver n h → limit ≡ 0 → Moves l₀ l₁ o₀ o₁ (λ (b : List ℕ). Title b h)
    → IfKnown l₀ (λ b. FailsAt {E = E} ends b o₀ o₁ (TagDamage n limit) code.RecursionLimitExceeded)
level_deep ends n limit h None l₁ o₀ o₁ over e t = tt
level_deep ends n limit h (Some b) None o₀ o₁ over e t = absurd t.taken
level_deep ends n limit h (Some b) (Some rest) o₀ o₁ over e t = inr (inl (opens_level n h b over rest (record { title = t.bytes; is_title = t.has; whole = t.taken }), e, refl))

pub level_item : {E : Type 0} (ends : E → Bool) (n limit at : ℕ) (h : Header) (l₀ l₁ : Option (List ℕ)) (o₀ o₁ o₂ : ℕ) (e : Error E) → OpensOver n h → 0 < limit → Moves l₀ l₁ o₀ o₁ (λ (b : List ℕ). Title b h) → at ≡ o₀
    → FailsAfterTitle ends h at o₁ l₁ o₂ (λ stop b f. Damage stop b (limit - 1) f) e → IfKnown l₀ (λ b. FailsAt ends b o₀ o₂ (TagDamage n limit) e)
level_item ends n limit at h l₀ l₁ o₀ o₁ o₂ e over low t same w =
    known_as ends l₀ o₀ o₂ (Begun h (λ stop b f. Damage stop b (limit - 1) f)) (TagDamage n limit) e (λ stop b f d. inr (inr (opens_level n h b over d.0.0 d.0.1, low, d.1)))
    (fails_begun ends l₀ l₁ o₀ o₁ o₂ h (λ stop b f. Damage stop b (limit - 1) f) e t (subst (λ (z : ℕ). FailsAfterTitle ends h z o₁ l₁ o₂ (λ stop b f. Damage stop b (limit - 1) f) e) same w))

-- a fault of the item in a level is one of the tag
pub in_tag : {stop : ℕ} (b inside : List ℕ) (limit n : ℕ) (e : Fault) → Begins b (Tag n) inside → 0 < limit → IsLevel n inside → Damage stop inside (limit - 1) e → Damage stop b limit e
in_tag b inside limit n e s low lv d = in_child b inside inside limit (Tag n) no_trees e s low (record { spelling = []; whole = refl; reads = all_none (limit - 1) }) (under_tag n refl lv) d

-- a fault after the tag is one of the item
tag_damage : (n limit stop : ℕ) (b rest : List ℕ) (f : Fault) → Begins b (Tag n) rest → TagDamage n limit stop rest f → Damage stop b limit f
tag_damage n limit stop b rest f s (inl (free, d)) = in_free b rest limit n f s free d
tag_damage n limit stop b rest f s (inr (inl (lv, e, g))) = subst (λ (z : Fault). Damage stop b limit z) (sym g) (subst (λ (z : ℕ). Damage stop b z deep) (sym e) (too_deep b rest (Tag n) s (level_tag n lv)))
tag_damage n limit stop b rest f s (inr (inr (lv, low, d))) = in_tag b rest limit n f s low lv d

pub tag_fails : {E : Type 0} (ends : E → Bool) (n at limit : ℕ) (l : Option (List ℕ)) (o o' : ℕ) (e : Error E) → IfKnown l (λ b. FailsAt ends b o o' (TagDamage n limit) e) → FailsAfterTitle ends (Tag n) at o l o' (λ stop b f. Damage stop b limit f) e
tag_fails ends n at limit l o o' e w = behind_rest ends (Tag n) at l o o' (TagDamage n limit) _ e (λ stop b rest f s d. tag_damage n limit stop b rest f s d) w

-- only bytes mean bytes
cond_not : (c : Bool) (x y z : Option Tree) → x ≢ z → y ≢ z → cond c x y ≢ z
cond_not true x y z p q = p
cond_not false x y z p q = q

int_no : (i : ℤ) (x : List ℕ) → Some (integer i) ≢ Some (bytes x)
int_no i x e = cc

tag_no : (n : ℕ) (t : Tree) (x : List ℕ) → Some (tag n t) ≢ Some (bytes x)
tag_no n t x e = cc

none_no : (x : List ℕ) → None ≢ Some (bytes x)
none_no x e = cc

simple_no : (n : ℕ) (x : List ℕ) → Some (simple n) ≢ Some (bytes x)
simple_no n x e = cc

fold_not : (n : ℕ) (b x : List ℕ) → fold_bytes n b ≢ Some (bytes x)
fold_not n b x = cond_not _ _ _ _ (cond_not _ _ _ _ (int_no _ x) (cond_not _ _ _ _ (none_no x) (tag_no _ _ x))) (tag_no _ _ x)

tagged_not : (n : ℕ) (u : Tree) (x : List ℕ) → tagged n u ≢ Some (bytes x)
tagged_not n (bytes b) x = cond_not _ _ _ _ (fold_not n b x) (tag_no _ _ x)
tagged_not n (integer i) x = tag_no _ _ x
tagged_not n (text b) x = tag_no _ _ x
tagged_not n (array ts) x = tag_no _ _ x
tagged_not n (map ps) x = tag_no _ _ x
tagged_not n (tag m t) x = tag_no _ _ x
tagged_not n (simple m) x = tag_no _ _ x
tagged_not n (float f) x = tag_no _ _ x

array_no : (a : Trees) (x : List ℕ) → array a ≢ bytes x
array_no a x e = cc

map_no : (a : Pairs) (x : List ℕ) → map a ≢ bytes x
map_no a x e = cc

map_not : {A : Type 0} (f : A → Tree) (m : Option A) (x : List ℕ) → ((a : A) → f a ≢ bytes x) → option_map f m ≢ Some (bytes x)
map_not f None x p e = none_no x e
map_not f (Some a) x p e = p a (let g : f a ≡ bytes x = cc in g)

then_not : (n : ℕ) (m : Option Tree) (x : List ℕ) → option_and_then (tagged n) m ≢ Some (bytes x)
then_not n None x = none_no x
then_not n (Some u) x = tagged_not n u x

pub bytes_meant : (t : Tree) (x : List ℕ) → meaning t ≡ Some (bytes x) → t ≡ bytes x
bytes_meant (bytes b) x e = cc
bytes_meant (integer i) x e = cc
bytes_meant (text b) x e = cc
bytes_meant (array ts) x e = absurd (map_not array (meanings ts) x (λ a f. array_no a x f) e)
bytes_meant (map ps) x e = absurd (map_not map (pair_meanings ps) x (λ a f. map_no a x f) e)
bytes_meant (tag n t) x e = absurd (then_not n (meaning t) x e)
bytes_meant (simple n) x e = absurd (cond_not (nat_eq n 23) (Some (simple 22)) (cond (nat_le 20 n && nat_le n 22) (Some (simple n)) None) (Some (bytes x)) (simple_no _ x) (cond_not _ _ _ _ (simple_no _ x) (none_no x)) e)
bytes_meant (float f) x e = cc

pub negative_fails : {E : Type 0} (ends : E → Bool) (n at limit : ℕ) (c : Tree) (l₀ l₁ : Option (List ℕ)) (o₀ o₁ : ℕ) → IsTooNegative n c → Moves l₀ l₁ o₀ o₁ (λ (b : List ℕ). TaggedAfterTitle n limit c b)
    → FailsAfterTitle {E = E} ends (Tag n) at o₀ l₀ o₁ (λ stop b f. Damage stop b limit f) (code.Semantic None kind.BigNegative)
negative_fails ends n at limit c None l₁ o₀ o₁ w t title u g = tt
negative_fails ends n at limit c (Some b) None o₀ o₁ w t title u g = absurd t.taken
negative_fails ends n at limit c (Some b) (Some rest) o₀ o₁ (three, x, is, none) t title u g =
    let p = t.has in
    let e : p.tree ≡ bytes x = bytes_meant p.tree x (p.means ∙ ap Some is) in
    let s : Spells t.bytes (bytes x) = subst (λ (z : Tree). Spells t.bytes z) e p.spells in (
      refl,
      too_negative (title ++ b) b t.bytes rest limit s.0 (record { title = title; is_title = subst (λ (z : ℕ). Title title (Tag z)) three u; whole = refl }) s.1 t.taken
          (subst (λ (z : List ℕ). fold_bytes 3 z ≡ None) s.2 none),
    )

-- a bignum's tag over a byte string that was read
pub tag_free : (n limit low : ℕ) (x : List ℕ) (c : Tree) (b : List ℕ) → (n ≡ 2) ⊎ (n ≡ 3) → c ≡ bytes x → Reads b low c → TaggedAfterTitle n limit c b
tag_free n limit low x c b which is r =
    let e : r.tree ≡ bytes x = bytes_meant r.tree x (r.means ∙ ap Some is) in record {
      tree = r.tree;
      spells = r.spells;
      shallow = subst (λ (z : Tree). depth (tag n z) ≤ limit) (sym e) (free_depth n limit x which);
      means = r.means;
    }
