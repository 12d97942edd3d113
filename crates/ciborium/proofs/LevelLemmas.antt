-- Open levels: a fault in the innermost one is one of the whole, and an item that is whole is
-- handed over.
use Rattle.std.proofs.Common.{◌≡◌, ◌<◌, ◌+◌, ◌-◌, ℕ, Bool, List, [], ◌∷◌, ◌++◌, length, Option, None, Some, refl, sym, ap, subst, ◌∙◌, arith, append_assoc, length-append}
use Rattle.ciborium_ll.specs.declared.hdr.Header.{Header}
use Rattle.ciborium_ll.specs.declared.hdr.Header.TheVariants.{Tag, Array, Map}
use Rattle.ciborium_ll.specs.Title.{Title, Begins}
use Rattle.ciborium_value.specs.Tree.{Tree, Trees, no_trees, tree_count}
use Rattle.ciborium.specs.declared.de.Error.{Error}
use Rattle.ciborium.specs.Damage.{Fault, semantic, Damage, in_child, too_negative, Due, in_array, in_map, in_open_array, in_open_map, in_entry}
use Rattle.ciborium.specs.Front.{Reads, ReadsAll}
use Rattle.ciborium.specs.Reading.{IfKnown, FailsAt, FailsAfterTitle, ReadsAfterTitle}
use Rattle.ciborium.proofs.Taking.{fails_over}
use Rattle.ciborium.proofs.Once.{append_nil}
use Rattle.ciborium.specs.Frames.{snoc}
use Rattle.ciborium.proofs.ReadLemmas.{all_none, all_more}
use Rattle.ciborium.proofs.ChildLemmas.{none_read}
use Rattle.ciborium_value.specs.declared.kind.Kind.TheVariants as kind
use Rattle.ciborium_value.specs.Folding.{IsTooNegative, fold_bytes}
use Rattle.ciborium_value.specs.Tree.{bytes}
use Rattle.ciborium.proofs.TagLemmas.{tag_read, tag_level, bytes_meant}
use Rattle.ciborium.specs.Spelling.{Spells}
use Rattle.ciborium_value.specs.Folding.{tagged}
use Rattle.ciborium.specs.Levels.{Level, IsChild, IsDue, Fits, of_array, of_map, of_open_array, of_open_map, Within, Titled, Handing}

pub begins : (title more : List ℕ) (k : Header) → Title title k → Begins (title ++ more) k more
begins title more k t = record { title = title; is_title = t; whole = refl }

-- a fault in a level is one of its item
level_damage : (k : Header) (done : Trees) (stop limit : ℕ) (title inner rest : List ℕ) (f : Fault) → 0 < limit → Title title k → ReadsAll inner (limit - 1) done
    → Due done rest k → Damage stop rest (limit - 1) f → Damage stop (title ++ (inner ++ rest)) limit f
level_damage k done stop limit title inner rest f low t p due d =
    in_child (title ++ (inner ++ rest)) (inner ++ rest) rest limit k done f (begins title (inner ++ rest) k t) low (record { spelling = inner; whole = refl; reads = p }) due d

pub joined_up : (x a b title inner rest : List ℕ) → x ≡ a ++ b → b ≡ title ++ inner → x ++ rest ≡ a ++ (title ++ (inner ++ rest))
joined_up x a b title inner rest e f = ap (λ z. z ++ rest) (e ∙ ap (λ z. a ++ z) f) ∙ append_assoc a (title ++ inner) rest ∙ ap (λ z. a ++ z) (append_assoc title inner rest)

-- a fault in the innermost level is one of the whole
pub damaged : (limit : ℕ) (fs : List Level) (x rest : List ℕ) (stop : ℕ) (f : Fault) → Within limit fs x → IsDue fs rest → Damage stop rest (limit - length fs) f → Damage stop (x ++ rest) limit f
damaged limit [] x rest stop f w due d =
    let same : limit - 0 ≡ limit = omega arith in
    subst (λ (z : List ℕ). Damage stop (z ++ rest) limit f) (sym w) (subst (λ (z : ℕ). Damage stop rest z f) same d)
damaged limit (g ∷ gs) x rest stop f w due d =
    let p = w.5 in
    let low : 0 < limit - length gs = omega (arith, w.4) in
    let same : limit - length (g ∷ gs) ≡ limit - length gs - 1 = omega arith in
    let inside = level_damage g.head g.done stop (limit - length gs) p.title p.inner rest f low p.is_title p.reads due (subst (λ (z : ℕ). Damage stop rest z f) same d) in
    subst (λ (z : List ℕ). Damage stop z limit f) (sym (joined_up x w.0 w.1 p.title p.inner rest w.6 p.whole))
    (damaged limit gs w.0 (p.title ++ (p.inner ++ rest)) stop f w.2 (w.3 (p.title ++ (p.inner ++ rest)) (p.inner ++ rest) (begins p.title (p.inner ++ rest) g.head p.is_title)) inside)

-- a fault after a title is one of the whole
pub titled_fails : {E : Type 0} (ends : E → Bool) (limit : ℕ) (fs : List Level) (h : Header) (from at o o' : ℕ) (l : Option (List ℕ)) (b : List ℕ) (e : Error E) → from + length b ≡ o → Titled limit fs h at from o b
    → FailsAfterTitle ends h at o l o' (λ stop b f. Damage stop b (limit - length fs) f) e → IfKnown l (λ rest. FailsAt ends (b ++ rest) from o' (λ stop b f. Damage stop b limit f) e)
titled_fails ends limit fs h from at o o' None b e same t w = tt
titled_fails ends limit fs h from at o o' (Some rest) b e same t w =
    let start : at ≡ from + length t.before = omega (arith, same, t.place same, ap length t.whole, length-append t.before t.title) in
    subst (λ (z : List ℕ). FailsAt ends z from o' (λ stop b f. Damage stop b limit f) e) (sym (ap (λ z. z ++ rest) t.whole ∙ append_assoc t.before t.title rest))
    (fails_over ends t.before (t.title ++ rest) from at o' (λ stop b f. Damage stop b (limit - length fs) f) (λ stop b f. Damage stop b limit f) e start
    (λ stop f d. damaged limit fs t.before (t.title ++ rest) stop f t.within (t.child (t.title ++ rest) rest (begins t.title rest h t.is_title)) d)
    (w t.title t.is_title (t.place same)))

-- a fault if the next item is due is one of the whole
pub due_fails : {E : Type 0} (ends : E → Bool) (limit : ℕ) (fs : List Level) (from o o' : ℕ) (l : Option (List ℕ)) (b : List ℕ) (D : ℕ → List ℕ → Fault → Type 0) (e : Error E) → from + length b ≡ o → Within limit fs b
    → ((stop : ℕ) (rest : List ℕ) (f : Fault) → D stop rest f → IsDue fs rest × Damage stop rest (limit - length fs) f)
    → IfKnown l (λ rest. FailsAt ends rest o o' D e) → IfKnown l (λ rest. FailsAt ends (b ++ rest) from o' (λ stop b f. Damage stop b limit f) e)
due_fails ends limit fs from o o' None b D e same t due w = tt
due_fails ends limit fs from o o' (Some rest) b D e same t due w =
    fails_over ends b rest from o o' D (λ stop b f. Damage stop b limit f) e (sym same) (λ stop f d. let q = due stop rest f d in damaged limit fs b rest stop f t q.0 q.1) w

-- an item that opens no level
pub titled_read : (limit : ℕ) (fs : List Level) (h : Header) (at from now : ℕ) (b y : List ℕ) (v : Tree) → Titled limit fs h at from now b → ReadsAfterTitle h (limit - length fs) v y → Handing limit fs v (b ++ y)
titled_read limit fs h at from now b y v t r = record {
  before = t.before;
  title = t.title;
  rest = y;
  head = h;
  within = t.within;
  child = t.child;
  is_title = t.is_title;
  reads = r t.title t.is_title;
  whole = ap (λ z. z ++ y) t.whole ∙ append_assoc t.before t.title y;
}

-- a level is opened
pub level_opened : (limit : ℕ) (fs : List Level) (h : Header) (at from now : ℕ) (b : List ℕ) → Titled limit fs h at from now b → length fs < limit → Fits no_trees h
    → Within limit (record { head = h; done = no_trees } ∷ fs) b
level_opened limit fs h at from now b t low fits = (
  t.before,
  t.title,
  t.within,
  t.child,
  low,
  record { title = t.title; inner = []; is_title = t.is_title; reads = all_none (limit - length fs - 1); fits = fits; whole = append_nil t.title },
  t.whole,
)

-- an item is handed to its level
pub level_more : (limit : ℕ) (f g : Level) (fs : List Level) (v : Tree) (b : List ℕ) → g.head ≡ f.head → g.done ≡ snoc f.done v → Fits g.done g.head → Handing limit (f ∷ fs) v b → Within limit (g ∷ fs) b
level_more limit f g fs v b same more fits p =
    let w = p.within in
    let q = w.5 in
    let low : limit - length (f ∷ fs) ≡ limit - length fs - 1 = omega arith in
    let item : Reads (p.title ++ p.rest) (limit - length fs - 1) v = subst (λ (z : ℕ). Reads (p.title ++ p.rest) z v) low p.reads in (
      w.0,
      w.1 ++ (p.title ++ p.rest),
      w.2,
      subst (λ (z : Header). IsChild fs z) (sym same) w.3,
      w.4,
      record {
        title = q.title;
        inner = q.inner ++ (p.title ++ p.rest);
        is_title = subst (λ (z : Header). Title q.title z) (sym same) q.is_title;
        reads = subst (λ (z : Trees). ReadsAll (q.inner ++ (p.title ++ p.rest)) (limit - length fs - 1) z) (sym more) (all_more q.inner (p.title ++ p.rest) (limit - length fs - 1) f.done v q.reads item);
        fits = fits;
        whole = ap (λ z. z ++ (p.title ++ p.rest)) q.whole ∙ append_assoc q.title q.inner (p.title ++ p.rest);
      },
      p.whole ∙ ap (λ z. z ++ (p.title ++ p.rest)) w.6 ∙ append_assoc w.0 w.1 (p.title ++ p.rest),
    )

-- a level is whole
pub level_whole : (limit : ℕ) (f : Level) (fs : List Level) (v : Tree) (b y : List ℕ) → Within limit (f ∷ fs) b
    → ((inner : List ℕ) → ReadsAll inner (limit - length fs - 1) f.done → ReadsAfterTitle f.head (limit - length fs) v (inner ++ y)) → Handing limit fs v (b ++ y)
level_whole limit f fs v b y w r =
    let q = w.5 in record {
      before = w.0;
      title = q.title;
      rest = q.inner ++ y;
      head = f.head;
      within = w.2;
      child = w.3;
      is_title = q.is_title;
      reads = r q.inner q.reads q.title q.is_title;
      whole = joined_up b w.0 w.1 q.title q.inner y w.6 q.whole;
    }

-- a tag is whole with its item
pub tag_whole : (limit n : ℕ) (f : Level) (fs : List Level) (c v : Tree) (b : List ℕ) → f.head ≡ Tag n → f.done ≡ no_trees → Handing limit (f ∷ fs) c b → tagged n c ≡ Some v → Handing limit fs v b
tag_whole limit n f fs c v b is none p e =
    let w = p.within in
    let q = w.5 in
    let low : limit - length (f ∷ fs) ≡ limit - length fs - 1 = omega arith in
    let some : 0 < limit - length fs = omega (arith, w.4) in
    let item : Reads (p.title ++ p.rest) (limit - length fs - 1) c = subst (λ (z : ℕ). Reads (p.title ++ p.rest) z c) low p.reads in
    let t : Title q.title (Tag n) = subst (λ (z : Header). Title q.title z) is q.is_title in
    let nothing : q.inner ≡ [] = none_read q.inner (limit - length fs - 1) f.done none q.reads in record {
      before = w.0;
      title = q.title;
      rest = p.title ++ p.rest;
      head = Tag n;
      within = w.2;
      child = subst (λ (z : Header). IsChild fs z) is w.3;
      is_title = t;
      reads = tag_read n (limit - length fs) c v (p.title ++ p.rest) (tag_level n (limit - length fs) c (p.title ++ p.rest) some item) e q.title t;
      whole = p.whole ∙ joined_up p.before w.0 w.1 q.title q.inner (p.title ++ p.rest) w.6 q.whole ∙ ap (λ z. w.0 ++ (q.title ++ (z ++ (p.title ++ p.rest)))) nothing;
    }

-- a number that is too negative
pub negative_damage : (limit n : ℕ) (f : Level) (fs : List Level) (c : Tree) (b rest : List ℕ) (stop : ℕ) → f.head ≡ Tag n → f.done ≡ no_trees → Handing limit (f ∷ fs) c b → IsTooNegative n c
    → Damage stop (b ++ rest) limit (semantic kind.BigNegative)
negative_damage limit n f fs c b rest stop is nil p (three, x, of, none) =
    let w = p.within in
    let q = w.5 in
    let t : Title q.title (Tag n) = subst (λ (z : Header). Title q.title z) is q.is_title in
    let t3 : Title q.title (Tag 3) = subst (λ (z : ℕ). Title q.title (Tag z)) three t in
    let nothing : q.inner ≡ [] = none_read q.inner (limit - length fs - 1) f.done nil q.reads in
    let e : p.reads.tree ≡ bytes x = bytes_meant p.reads.tree x (p.reads.means ∙ ap Some of) in
    let s : Spells (p.title ++ p.rest) (bytes x) = subst (λ (z : Tree). Spells (p.title ++ p.rest) z) e p.reads.spells in
    let d = too_negative (q.title ++ ((p.title ++ p.rest) ++ rest)) ((p.title ++ p.rest) ++ rest) (p.title ++ p.rest) rest (limit - length fs) s.0
    (begins q.title ((p.title ++ p.rest) ++ rest) (Tag 3) t3) s.1 refl (subst (λ (z : List ℕ). fold_bytes 3 z ≡ None) s.2 none) in
    let whole : b ≡ w.0 ++ (q.title ++ (p.title ++ p.rest)) = p.whole ∙ joined_up p.before w.0 w.1 q.title q.inner (p.title ++ p.rest) w.6 q.whole ∙ ap (λ z. w.0 ++ (q.title ++ (z ++ (p.title ++ p.rest)))) nothing in
    subst (λ (z : List ℕ). Damage stop z limit (semantic kind.BigNegative)) (sym (joined_up b w.0 (q.title ++ (p.title ++ p.rest)) q.title (p.title ++ p.rest) rest whole refl))
    (damaged limit fs w.0 (q.title ++ ((p.title ++ p.rest) ++ rest)) stop (semantic kind.BigNegative) w.2
    (w.3 (q.title ++ ((p.title ++ p.rest) ++ rest)) ((p.title ++ p.rest) ++ rest) (begins q.title ((p.title ++ p.rest) ++ rest) f.head q.is_title)) d)

-- one item more
pub array_more : (o : Option ℕ) (done more : Trees) (rest : List ℕ) → tree_count more ≡ tree_count done + 1 → Due done rest (Array o) → Fits more (Array o)
array_more _ done more rest e (in_array n l) = of_array n (omega arith)
array_more _ done more rest e (in_open_array _) = of_open_array

pub map_more : (o : Option ℕ) (done more : Trees) (rest : List ℕ) → tree_count more ≡ tree_count done + 1 → Due done rest (Map o) → Fits more (Map o)
map_more _ done more rest e (in_map n l) = of_map n (omega arith)
map_more _ done more rest e (in_open_map _) = of_open_map
map_more _ done more rest e (in_entry _) = of_open_map
