-- A map that is read entry by entry.
use Rattle.std.proofs.Common.{◌≡◌, ◌≢◌, ◌≤◌, ◌<◌, ◌+◌, ◌-◌, ◌*◌, ℕ, Bool, false, List, [], ◌∷◌, ◌++◌, length, Option, None, Some, refl, sym, ap, subst, ◌∙◌, arith, append_assoc, length-append, nat_eq}
use Rattle.std.specs.Option.{option_map}
use Rattle.std.specs.Prelude.{Result, Ok, Err, IsErrAnd}
use Rattle.ciborium_ll.specs.Seen.{Seen, Takes}
use Rattle.std.proofs.lemmas.Bool.Decides.{nat_tests}
use Rattle.ciborium_ll.specs.Reading.{Moves}
use Rattle.ciborium_ll.specs.declared.hdr.Header.{Header}
use Rattle.ciborium_ll.specs.declared.hdr.Header.TheVariants.{Break, Map}
use Rattle.ciborium_ll.specs.Title.{Title}
use Rattle.ciborium_value.specs.Tree.{Tree, map as map_tree, Trees, flat, tree_count}
use Rattle.ciborium_value.specs.View.{view, pairs}
use Rattle.ciborium_value.specs.declared.value.Value.{Value}
use Rattle.ciborium.specs.declared.de.Error.{Error}
use Rattle.ciborium.specs.declared.maps.MapReader.{MapReader}
use Rattle.ciborium.specs.Damage.{Fault, Damage, in_title, in_child, Due, TitleDamage}
use Rattle.ciborium.specs.Front.{Reads, ReadsAll, HoldsOne}
use Rattle.ciborium.specs.Frames.{snoc}
use Rattle.ciborium.specs.Maps.{InMap, NextEntry}
use Rattle.ciborium.specs.Reading.{IfKnown, FailsAt, FailsAfterTitle, NamesFault, NamesFaultAfterTitle, TakesSome, IsNoMemory, IfMemory, OneAfterTitle, ReadsAfterTitle, Closes, ChildrenAfterHead, IsNext, is_full}
use Rattle.ciborium.proofs.Words.{FitsIn}
use Rattle.ciborium.proofs.Halting.{some_then, not_memory, memory_then}
use Rattle.ciborium.proofs.Taking.{takes_as, takes_then, fails_behind}
use Rattle.ciborium.proofs.StringLemmas.{title_some}
use Rattle.ciborium.proofs.ReadLemmas.{all_none, all_more, flat_more, snoc_count}
use Rattle.ciborium.proofs.LevelLemmas.{begins}
use Rattle.ciborium.proofs.ChildLemmas.{Begun, fails_begun, map_read, map_due, value_due, not_all, title_no_break, begun_no_break}
use Rattle.ciborium.proofs.OneItem.{level_one}

-- how many its head claims, if so many are left after d
abbrev claims : Option ℕ → ℕ → Option ℕ
claims l d = option_map (λ n. n + d) l

claims_none : (l : Option ℕ) (d : ℕ) → claims l d ≡ None → l ≡ None
claims_none (Some n) d e = cc
claims_none None d e = refl

claims_fit : (l : Option ℕ) (d : ℕ) → FitsIn (claims l d) d
claims_fit (Some n) d = omega arith
claims_fit None d = tt

claims_more : (l : Option ℕ) (d : ℕ) → is_full l 0 ≡ false → is_full (claims l d) d ≡ false
claims_more (Some n) d e = let p = not_all n 0 e (omega arith) in grind (arith, nat_tests)
claims_more None d e = refl

claims_less : (l : Option ℕ) (d e : ℕ) → is_full l 0 ≡ false → e ≡ d + 1 → claims l d ≡ claims (option_map (λ n. n - 1) l) e
claims_less (Some n) d e f g = let p = not_all n 0 f (omega arith) in let q : n + d ≡ (n - 1) + e = omega arith in ap Some q
claims_less None d e f g = refl

count_pairs : (ps : List (Tree × Tree)) → tree_count (flat (pairs ps)) ≡ 2 * length ps
count_pairs [] = refl
count_pairs (p ∷ ps) = let h = count_pairs ps in omega arith

-- the head of a map was taken
pub begun : (limit : ℕ) (m : MapReader) (b : List ℕ) (o : Option ℕ) → o ≡ m.left → limit ≡ m.limit + 1 → Title b (Map o) → InMap limit m [] b
begun limit m b o e l t = record { title = b; inner = []; is_title = subst (λ z. Title b (Map z)) (e ∙ none m.left) t; reads = all_none m.limit; whole = sym (nothing b); levels = l }
  where
    none : (l : Option ℕ) → l ≡ claims l 0
    none (Some n) = let e : n ≡ n + 0 = omega arith in ap Some e
    none None = refl

    nothing : (b : List ℕ) → b ++ [] ≡ b
    nothing [] = refl
    nothing (x ∷ b) = ap (λ z. x ∷ z) (nothing b)

-- it is whole
children : (l : Option ℕ) (d low : ℕ) (vs : Trees) (x y : List ℕ) → Closes l 0 y → ReadsAll x low vs → ChildrenAfterHead (claims l d) d low vs (x ++ y)
children (Some n) d low vs x y c r = (omega (arith, c.0), subst (λ (z : List ℕ). ReadsAll z low vs) (sym (nothing x) ∙ ap (λ z. x ++ z) (sym c.1)) r)
  where
    nothing : (b : List ℕ) → b ++ [] ≡ b
    nothing [] = refl
    nothing (x ∷ b) = ap (λ z. x ∷ z) (nothing b)
children None d low vs x y c r = (x, r, ap (λ z. x ++ z) c)

pub map_whole : (limit : ℕ) (m : MapReader) (ps : List (Tree × Tree)) (b y : List ℕ) → InMap limit m ps b → Closes m.left 0 y → Reads (b ++ y) limit (map_tree (pairs ps))
map_whole limit m ps b y s c =
    let low : m.limit ≡ limit - 1 = omega (arith, s.levels) in
    let inside = children m.left (length ps) (limit - 1) (flat (pairs ps)) s.inner y c (subst (λ (z : ℕ). ReadsAll s.inner z (flat (pairs ps))) low s.reads) in
    subst (λ (z : List ℕ). Reads z limit (map_tree (pairs ps))) (sym (append_assoc s.title s.inner y) ∙ ap (λ z. z ++ y) (sym s.whole))
    (map_read (claims m.left (length ps)) (length ps) limit (map_tree (pairs ps)) (pairs ps) (s.inner ++ y) refl (count_pairs ps) (omega (arith, s.levels)) inside s.title s.is_title)

-- a key was taken after its entries
pub record KeyTaken (limit : ℕ) (m : MapReader) (ps : List (Tree × Tree)) (k : Tree) (b : List ℕ) : Type 0 where
  pub before : List ℕ
  pub key : List ℕ
  pub inside : InMap limit m ps before
  pub reads : Reads key m.limit k
  pub joined : b ≡ before ++ key

-- and then its value
pub map_more : (limit : ℕ) (m m' : MapReader) (ps : List (Tree × Tree)) (k v : Tree) (b y : List ℕ) → is_full m.left 0 ≡ false → m'.left ≡ option_map (λ n. n - 1) m.left → m'.limit ≡ m.limit
    → KeyTaken limit m ps k b → Reads y m.limit v → InMap limit m' (ps ++ (k, v) ∷ []) (b ++ y)
map_more limit m m' ps k v b y full e l s r =
    let i = s.inside in
    let count : length (ps ++ (k, v) ∷ []) ≡ length ps + 1 = length-append ps ((k, v) ∷ []) in
    record {
      title = i.title;
      inner = (i.inner ++ s.key) ++ y;
      is_title = subst (λ z. Title i.title (Map z)) (claims_less m.left (length ps) (length (ps ++ (k, v) ∷ [])) full count ∙ ap (λ z. claims z (length (ps ++ (k, v) ∷ []))) (sym e)) i.is_title;
      reads = subst (λ (z : ℕ). ReadsAll ((i.inner ++ s.key) ++ y) z (flat (pairs (ps ++ (k, v) ∷ [])))) (sym l)
          (subst (λ (z : Trees). ReadsAll ((i.inner ++ s.key) ++ y) m.limit z) (sym (flat_more ps (k, v)))
          (all_more (i.inner ++ s.key) y m.limit (snoc (flat (pairs ps)) k) v (all_more i.inner s.key m.limit (flat (pairs ps)) k i.reads s.reads) r));
      whole = ap (λ z. z ++ y) (s.joined ∙ ap (λ z. z ++ s.key) i.whole ∙ append_assoc i.title i.inner s.key) ∙ append_assoc i.title (i.inner ++ s.key) y;
      levels = i.levels ∙ ap (λ z. z + 1) (sym l);
    }

-- ---- what is due in it
key_due : (limit : ℕ) (m : MapReader) (ps : List (Tree × Tree)) (rest : List ℕ) → is_full m.left 0 ≡ false → (m.left ≡ None → (r : List ℕ) → rest ≢ 255 ∷ r)
    → Due (flat (pairs ps)) rest (Map (claims m.left (length ps)))
key_due limit m ps rest full not =
    map_due (claims m.left (length ps)) (flat (pairs ps)) (length ps) rest (count_pairs ps) (claims_fit m.left (length ps)) (claims_more m.left (length ps) full) (λ e. not (claims_none m.left (length ps) e))

value_is_due : (m : MapReader) (ps : List (Tree × Tree)) (k : Tree) (rest : List ℕ) → is_full m.left 0 ≡ false → Due (snoc (flat (pairs ps)) k) rest (Map (claims m.left (length ps)))
value_is_due m ps k rest full =
    value_due (claims m.left (length ps)) (snoc (flat (pairs ps)) k) (length ps) rest (snoc_count (flat (pairs ps)) k ∙ ap (λ z. z + 1) (count_pairs ps)) (claims_fit m.left (length ps)) (claims_more m.left (length ps) full)

-- a fault of a child is one of the map
child_damage : (limit low stop : ℕ) (o : Option ℕ) (title inner rest : List ℕ) (done : Trees) (f : Fault) → limit ≡ low + 1 → Title title (Map o) → ReadsAll inner low done → Due done rest (Map o)
    → Damage stop rest low f → Damage stop (title ++ (inner ++ rest)) limit f
child_damage limit low stop o title inner rest done f e t r due d =
    let same : low ≡ limit - 1 = omega arith in
    in_child (title ++ (inner ++ rest)) (inner ++ rest) rest limit (Map o) done f (begins title (inner ++ rest) (Map o) t) (omega arith)
    (record { spelling = inner; whole = refl; reads = subst (λ (z : ℕ). ReadsAll inner z done) same r }) due (subst (λ (z : ℕ). Damage stop rest z f) same d)

key_damage : (limit stop : ℕ) (m : MapReader) (ps : List (Tree × Tree)) (b rest : List ℕ) (f : Fault) → is_full m.left 0 ≡ false → (m.left ≡ None → (r : List ℕ) → rest ≢ 255 ∷ r) → InMap limit m ps b
    → Damage stop rest m.limit f → Damage stop (b ++ rest) limit f
key_damage limit stop m ps b rest f full not s d =
    subst (λ (z : List ℕ). Damage stop z limit f) (sym (append_assoc s.title s.inner rest) ∙ ap (λ z. z ++ rest) (sym s.whole))
    (child_damage limit m.limit stop (claims m.left (length ps)) s.title s.inner rest (flat (pairs ps)) f s.levels s.is_title s.reads (key_due limit m ps rest full not) d)

key_one : (limit : ℕ) (m : MapReader) (ps : List (Tree × Tree)) (b rest : List ℕ) → is_full m.left 0 ≡ false → (m.left ≡ None → (r : List ℕ) → rest ≢ 255 ∷ r) → InMap limit m ps b
    → HoldsOne rest → HoldsOne (b ++ rest)
key_one limit m ps b rest full not s one =
    subst HoldsOne (sym (append_assoc s.title s.inner rest) ∙ ap (λ z. z ++ rest) (sym s.whole))
    (level_one (Map (claims m.left (length ps))) (flat (pairs ps)) m.limit s.title s.inner rest s.is_title s.reads (key_due limit m ps rest full not) one)

joined_up : (b before key title inner rest : List ℕ) → b ≡ before ++ key → before ≡ title ++ inner → title ++ ((inner ++ key) ++ rest) ≡ b ++ rest
joined_up b before key title inner rest e f = sym (append_assoc title (inner ++ key) rest) ∙ ap (λ z. z ++ rest) (sym (e ∙ ap (λ z. z ++ key) f ∙ append_assoc title inner key))

value_damage : (limit stop : ℕ) (m : MapReader) (ps : List (Tree × Tree)) (k : Tree) (b rest : List ℕ) (f : Fault) → is_full m.left 0 ≡ false → KeyTaken limit m ps k b
    → Damage stop rest m.limit f → Damage stop (b ++ rest) limit f
value_damage limit stop m ps k b rest f full s d =
    let i = s.inside in
    subst (λ (z : List ℕ). Damage stop z limit f) (joined_up b s.before s.key i.title i.inner rest s.joined i.whole)
    (child_damage limit m.limit stop (claims m.left (length ps)) i.title (i.inner ++ s.key) rest (snoc (flat (pairs ps)) k) f i.levels i.is_title
    (all_more i.inner s.key m.limit (flat (pairs ps)) k i.reads s.reads) (value_is_due m ps k rest full) d)

pub value_one : (limit : ℕ) (m : MapReader) (ps : List (Tree × Tree)) (k : Tree) (b rest : List ℕ) → is_full m.left 0 ≡ false → KeyTaken limit m ps k b → HoldsOne rest → HoldsOne (b ++ rest)
value_one limit m ps k b rest full s one =
    let i = s.inside in
    subst HoldsOne (joined_up b s.before s.key i.title i.inner rest s.joined i.whole)
    (level_one (Map (claims m.left (length ps))) (snoc (flat (pairs ps)) k) m.limit i.title (i.inner ++ s.key) rest i.is_title
    (all_more i.inner s.key m.limit (flat (pairs ps)) k i.reads s.reads) (value_is_due m ps k rest full) one)

-- no break begins at the title of a key
no_break : (m : MapReader) (h : Header) (rest q : List ℕ) → IsNext m.left 0 h → Title q h → m.left ≡ None → (r : List ℕ) → q ++ rest ≢ 255 ∷ r
no_break m h rest q n t e = begun_no_break h (q ++ rest) rest (begins q rest h t) (n.stays e)

-- ---- faults, seen from where the map began
module _ {E : Type 0} (ends : E → Bool) (limit : ℕ) (m : MapReader) (ps : List (Tree × Tree)) (l₀ l₁ : Option (List ℕ)) (o₀ o₁ : ℕ) (full : is_full m.left 0 ≡ false) where
  -- of the title of a key
  pub title_fails : (o₂ : ℕ) (e : Error E) → Moves l₀ l₁ o₀ o₁ (InMap limit m ps) → IfKnown l₁ (λ b. FailsAt ends b o₁ o₂ TitleDamage e)
      → IfKnown l₀ (λ b. FailsAt ends b o₀ o₂ (λ stop b f. Damage stop b limit f) e)
  title_fails o₂ e t w = fails_behind ends l₀ l₁ o₀ o₁ o₂ (InMap limit m ps) TitleDamage (λ stop b f. Damage stop b limit f) e t
      (λ stop x rest f p d. key_damage limit stop m ps x rest f full (λ _. title_no_break stop rest f d) p (in_title rest m.limit f d)) w

  -- of a key
  pub key_fails : (h : Header) (l₂ : Option (List ℕ)) (o₂ o₃ : ℕ) (e : Error E) → Moves l₀ l₁ o₀ o₁ (InMap limit m ps) → IsNext m.left 0 h → Moves l₁ l₂ o₁ o₂ (λ (b : List ℕ). Title b h)
      → FailsAfterTitle ends h o₁ o₂ l₂ o₃ (λ stop b f. Damage stop b m.limit f) e → IfKnown l₀ (λ b. FailsAt ends b o₀ o₃ (λ stop b f. Damage stop b limit f) e)
  key_fails h l₂ o₂ o₃ e t n u w = fails_behind ends l₀ l₁ o₀ o₁ o₃ (InMap limit m ps) (Begun h (λ stop b f. Damage stop b m.limit f)) (λ stop b f. Damage stop b limit f) e t
      (λ stop x rest f p d. key_damage limit stop m ps x rest f full (λ is. begun_no_break h rest d.0.0 d.0.1 (n.stays is)) p d.1)
      (fails_begun ends l₁ l₂ o₁ o₂ o₃ h (λ stop b f. Damage stop b m.limit f) e u w)

  -- of a value
  pub value_fails : (k : Tree) (o₂ : ℕ) (e : Error E) → Moves l₀ l₁ o₀ o₁ (KeyTaken limit m ps k) → IfKnown l₁ (λ b. FailsAt ends b o₁ o₂ (λ stop b f. Damage stop b m.limit f) e)
      → IfKnown l₀ (λ b. FailsAt ends b o₀ o₂ (λ stop b f. Damage stop b limit f) e)
  value_fails k o₂ e t w = fails_behind ends l₀ l₁ o₀ o₁ o₂ (KeyTaken limit m ps k) (λ stop b f. Damage stop b m.limit f) (λ stop b f. Damage stop b limit f) e t
      (λ stop x rest f p d. value_damage limit stop m ps k x rest f full p d) w

-- in the map, no item ends before the end of what a key's title begins
pub key_begun_one : (limit : ℕ) (m : MapReader) (ps : List (Tree × Tree)) (h : Header) (b q rest : List ℕ) → is_full m.left 0 ≡ false → IsNext m.left 0 h → InMap limit m ps b → Title q h → HoldsOne (q ++ rest)
    → HoldsOne (b ++ (q ++ rest))
key_begun_one limit m ps h b q rest full n s t one = key_one limit m ps b (q ++ rest) full (no_break m h rest q n t) s one

-- ---- what the next entry shows
-- a fault, seen from where the map began
abbrev pub FailsIn : {E : Type 0} → (E → Bool) → ℕ → Seen → Seen → Error E → Type 0
FailsIn ends limit start now e = NamesFault ends (λ stop b f. Damage stop b limit f) start now e × TakesSome start now e × IfMemory (Takes start now HoldsOne) e

module _ {E : Type 0} (ends : E → Bool) (limit : ℕ) (m m' : MapReader) (ps : List (Tree × Tree)) (start old : Seen) (t : Takes start old (InMap limit m ps)) where
  pub ends_by : (now : Seen) (r : Result (Option (Value × Value)) (Error E)) (e : Error E) → IsErrAnd r (λ x. x ≡ e) → FailsIn ends limit start now e → NextEntry ends limit start now m' ps r
  ends_by now (Ok x) e h w = absurd h
  ends_by now (Err x) e h w = record { whole = tt; more = tt; err = subst (NamesFault ends (λ stop b f. Damage stop b limit f) start now) (sym h) w.0; stops = subst (TakesSome start now) (sym h) w.1; one = subst (IfMemory (Takes start now HoldsOne)) (sym h) w.2 }

  pub at_title : (now : Seen) (e : Error E) → is_full m.left 0 ≡ false → NamesFault ends TitleDamage old now e → TakesSome old now e → IsNoMemory e → FailsIn ends limit start now e
  at_title now e full w s n =
      (title_fails ends limit m ps start.left old.left start.offset old.offset full now.offset e t w, some_then now.left now.offset e t s, not_memory (Takes start now HoldsOne) e n)

  pub at_key : (mid now : Seen) (h : Header) (at : ℕ) (K : List ℕ → Type 0) (e : Error E) → is_full m.left 0 ≡ false → IsNext m.left 0 h → at ≡ old.offset → Takes old mid (λ b. Title b h × K b)
      → NamesFaultAfterTitle ends h at (λ stop b f. Damage stop b m.limit f) mid now e → TakesSome mid now e → IfMemory (Takes mid now (OneAfterTitle h)) e → FailsIn ends limit start now e
  at_key mid now h at K e full n same u w s o =
      let title : Takes old mid (λ b. Title b h) = takes_as old.left mid.left old.offset mid.offset _ _ u (λ x p. p.0) in (
        key_fails ends limit m ps start.left old.left start.offset old.offset full h mid.left mid.offset now.offset e t n title
            (subst (λ (z : ℕ). FailsAfterTitle ends h z mid.offset mid.left now.offset (λ stop b f. Damage stop b m.limit f) e) same w),
        some_then now.left now.offset e t (some_then now.left now.offset e u s),
        memory_then start.left old.left now.left start.offset old.offset now.offset (InMap limit m ps) (λ b. (q rest : List ℕ) × Title q h × HoldsOne b × (b ≡ q ++ rest)) HoldsOne e t
            (λ x y p d. subst (λ (z : List ℕ). HoldsOne (x ++ z)) (sym d.4) (key_begun_one limit m ps h x d.0 d.1 full n p d.2 (subst HoldsOne d.4 d.3)))
            (memory_then old.left mid.left now.left old.offset mid.offset now.offset (λ b. Title b h) (OneAfterTitle h) (λ b. (q rest : List ℕ) × Title q h × HoldsOne b × (b ≡ q ++ rest)) e title
            (λ x y p d. (x, y, p, d x p, refl)) o),
      )

  -- the bytes up to a key
  key_taken : (mid now : Seen) (h : Header) (K : List ℕ → Type 0) (k : Tree) → Takes old mid (λ b. Title b h × K b) → Takes mid now (ReadsAfterTitle h m.limit k) → Takes start now (KeyTaken limit m ps k)
  key_taken mid now h K k u v =
      takes_then start.left old.left now.left start.offset old.offset now.offset (InMap limit m ps) (λ b. Reads b m.limit k) (KeyTaken limit m ps k) t
      (takes_then old.left mid.left now.left old.offset mid.offset now.offset (λ b. Title b h × K b) (ReadsAfterTitle h m.limit k) (λ b. Reads b m.limit k) u v (λ x y p r. r x p.0))
      (λ x y p r. record { before = x; key = y; inside = p; reads = r; joined = refl })

  pub at_value : (mid keyed now : Seen) (h : Header) (K : List ℕ → Type 0) (k : Tree) (e : Error E) → is_full m.left 0 ≡ false → Takes old mid (λ b. Title b h × K b) → Takes mid keyed (ReadsAfterTitle h m.limit k)
      → NamesFault ends (λ stop b f. Damage stop b m.limit f) keyed now e → TakesSome keyed now e → IfMemory (Takes keyed now HoldsOne) e → FailsIn ends limit start now e
  at_value mid keyed now h K k e full u v w s o =
      let before = key_taken mid keyed h K k u v in (
        value_fails ends limit m ps start.left keyed.left start.offset keyed.offset full k now.offset e before w,
        some_then now.left now.offset e before s,
        memory_then start.left keyed.left now.left start.offset keyed.offset now.offset (KeyTaken limit m ps k) HoldsOne HoldsOne e before (λ x y p one. value_one limit m ps k x y full p one) o,
      )

  pub at_end : (now : Seen) → Takes old now (Closes m.left 0) → NextEntry ends limit start now m' ps (Ok None)
  at_end now u = record {
    whole = takes_then start.left old.left now.left start.offset old.offset now.offset (InMap limit m ps) (Closes m.left 0) (λ b. Reads b limit (map_tree (pairs ps))) t u (λ x y p c. map_whole limit m ps x y p c);
    more = tt;
    err = tt;
    stops = tt;
    one = tt;
  }

  pub at_entry : (mid keyed now : Seen) (h : Header) (K : List ℕ → Type 0) (k v : Value) → is_full m.left 0 ≡ false → m'.left ≡ option_map (λ n. n - 1) m.left → m'.limit ≡ m.limit
      → Takes old mid (λ b. Title b h × K b) → Takes mid keyed (ReadsAfterTitle h m.limit (view k)) → Takes keyed now (λ b. Reads b m.limit (view v)) → NextEntry ends limit start now m' ps (Ok (Some (k, v)))
  at_entry mid keyed now h K k v full e l u w x = record {
    whole = tt;
    more = takes_then start.left keyed.left now.left start.offset keyed.offset now.offset (KeyTaken limit m ps (view k)) (λ b. Reads b m.limit (view v)) (InMap limit m' (ps ++ (view k, view v) ∷ []))
        (key_taken mid keyed h K (view k) u w) x (λ a b p r. map_more limit m m' ps (view k) (view v) a b full e l p r);
    err = tt;
    stops = tt;
    one = tt;
  }

-- its title takes a byte at least
pub entry_grows : (old mid keyed now : Seen) (h : Header) (K P Q : List ℕ → Type 0) → Takes old mid (λ b. Title b h × K b) → Takes mid keyed P → Takes keyed now Q → old.offset < now.offset
entry_grows old mid keyed now h K P Q t u v = omega (arith, t.grown, title_some t.bytes h t.has.0, u.grown, v.grown)
