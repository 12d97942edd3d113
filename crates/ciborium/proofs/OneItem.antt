-- Bytes that hold at most one item: those of a title, of a part of a string, of an item, and of
-- open levels before them.
use Rattle.std.proofs.Common.{◌≡◌, ◌≢◌, ◌≤◌, ◌+◌, ◌-◌, ℕ, Bool, true, false, List, [], ◌∷◌, ◌++◌, length, Option, None, Some, refl, sym, ap, subst, ◌∙◌, arith, append_assoc, length-append}
use Rattle.std.proofs.lemmas.List.{append_cancel_left}
use Rattle.std.specs.Str.{IsUtf8}
use Rattle.ciborium_ll.specs.declared.hdr.Header.{Header}
use Rattle.ciborium_ll.specs.declared.hdr.Header.TheVariants.{Tag, Break, Bytes, Text}
use Rattle.ciborium_ll.specs.Reading.{Moves}
use Rattle.ciborium_ll.specs.Title.{Title, Begins}
use Rattle.ciborium_ll.specs.Framing.{Frame, whole, cut, Frames, no_frames, frame_more, Opened, Any, joined, bytes_same, bytes_unbroken, text_same, text_unbroken}
use Rattle.ciborium_ll.proofs.Closings.{break_title}
use Rattle.ciborium_value.specs.Tree.{Tree, bytes, text, Trees, depth}
use Rattle.ciborium.specs.declared.de.Error.{Error}
use Rattle.ciborium.specs.Spelling.{Spells}
use Rattle.ciborium.specs.Damage.{Due}
use Rattle.ciborium.specs.Front.{Reads, ReadsAll, HoldsOne}
use Rattle.ciborium.specs.Levels.{Level, IsDue, Within, Titled, Handing}
use Rattle.ciborium.specs.Reading.{string_head, StringAfterHead, OpenAfterHead, ReadsAfterTitle, OneAfterTitle, IfMemory}
use Rattle.ciborium.proofs.Once.{append_nil, first, split, once, tree_kind, kind_0, kind_1}
use Rattle.ciborium.proofs.Exact.{begins_once, closing}
use Rattle.ciborium.proofs.Taking.{takes_as, takes_then}
use Rattle.ciborium.proofs.Halting.{memory_as}
use Rattle.ciborium.proofs.Parts.{Inherited, no_more, kind_at, tag_parts, child_there}
use Rattle.ciborium.proofs.LevelLemmas.{begins, joined_up}

-- an item holds one
pub item_one : (b : List ℕ) (t : Tree) → Spells b t → HoldsOne b
item_one b t p s x y e q =
    let w = once s t x b y [] q p (sym e ∙ append_nil b) in
    append_cancel_left x y [] (sym e ∙ sym w.1 ∙ append_nil x)

pub read_one : (b : List ℕ) (limit : ℕ) (v : Tree) → Reads b limit v → HoldsOne b
read_one b limit v r = item_one b r.tree r.spells

-- a title holds no more
pub title_one : (title : List ℕ) (h : Header) → Title title h → HoldsOne title
title_one title h t s x y e p =
    let f = first s x p in
    let w = split title x title f.title [] f.rest [] y h f.head t f.is_title (append_nil title) f.whole_is (sym (append_nil title) ∙ e) in
    no_more f.rest y (sym w.rests)

pub none_behind : (h : Header) → OneAfterTitle h []
none_behind h title t = subst HoldsOne (append_nil title) (title_one title h t)

pub reads_behind : (h : Header) (limit : ℕ) (v : Tree) (y : List ℕ) → ReadsAfterTitle h limit v y → OneAfterTitle h y
reads_behind h limit v y r title t = read_one (title ++ y) limit v (r title t)

-- the item of a tag, from the one in it
pub tag_one : (n : ℕ) (title inside : List ℕ) → Title title (Tag n) → HoldsOne inside → HoldsOne (title ++ inside)
tag_one n title inside t one u x y e p =
    let w = tag_parts (title ++ inside) inside y n u (record { title = title; is_title = t; whole = refl }) (record { spelling = x; whole = e; spells = p }) in
    one w.under w.at.spelling y w.at.whole w.at.spells

any_parts : Inherited (λ (t : Tree). Unit {0}) (λ (ts : Trees). Unit {0})
any_parts = record { of_array = λ ts p. tt; of_map = λ ps p. tt; of_tag = λ n t p. tt; of_items = λ t ts p. (tt, tt) }

-- an item, from the one that is due in it
pub level_one : (h : Header) (done : Trees) (limit : ℕ) (title inner rest : List ℕ) → Title title h → ReadsAll inner limit done → Due done rest h → HoldsOne rest → HoldsOne (title ++ (inner ++ rest))
level_one h done limit title inner rest t r due one u x y e p =
    let low : ℕ = limit + depth u + 1 in
    let w = child_there (λ (t : Tree). Unit {0}) (λ (ts : Trees). Unit {0}) any_parts (title ++ (inner ++ rest)) (inner ++ rest) rest y low h done u
    (record { title = title; is_title = t; whole = refl })
    (record { spelling = inner; whole = refl; reads = record { trees = r.trees; spells = r.spells; shallow = omega (arith, r.shallow); means = r.means } })
    due (record { spelling = x; whole = e; spells = p }) (omega arith) tt in
    w.last (one w.tree w.there.spelling w.rest w.there.whole w.there.spells)

-- the whole, from what is due in its innermost level
within_one : (limit : ℕ) (fs : List Level) (x rest : List ℕ) → Within limit fs x → IsDue fs rest → HoldsOne rest → HoldsOne (x ++ rest)
within_one limit [] x rest w due one = subst (λ (z : List ℕ). HoldsOne (z ++ rest)) (sym w) one
within_one limit (g ∷ gs) x rest w due one =
    let p = w.5 in
    let inside = level_one g.head g.done (limit - length gs - 1) p.title p.inner rest p.is_title p.reads due one in
    subst HoldsOne (sym (joined_up x w.0 w.1 p.title p.inner rest w.6 p.whole))
    (within_one limit gs w.0 (p.title ++ (p.inner ++ rest)) w.2 (w.3 (p.title ++ (p.inner ++ rest)) (p.inner ++ rest) (begins p.title (p.inner ++ rest) g.head p.is_title)) inside)

-- the whole, from what follows the title in hand
pub titled_one : (limit : ℕ) (fs : List Level) (h : Header) (at from now : ℕ) (b y : List ℕ) → Titled limit fs h at from now b → OneAfterTitle h y → HoldsOne (b ++ y)
titled_one limit fs h at from now b y t one =
    subst HoldsOne (sym (ap (λ z. z ++ y) t.whole ∙ append_assoc t.before t.title y))
    (within_one limit fs t.before (t.title ++ y) t.within (t.child (t.title ++ y) y (begins t.title y h t.is_title)) (one t.title t.is_title))

-- the whole, with an item that is to be handed over
pub handing_one : (limit : ℕ) (fs : List Level) (v : Tree) (b : List ℕ) → Handing limit fs v b → HoldsOne b
handing_one limit fs v b p =
    subst HoldsOne (sym p.whole)
    (within_one limit fs p.before (p.title ++ p.rest) p.within (p.child (p.title ++ p.rest) p.rest (begins p.title p.rest p.head p.is_title)) (read_one (p.title ++ p.rest) (limit - length fs) v p.reads))

-- no string of the kind k ends before the end of these bytes
abbrev FrameOne : (Option ℕ → Header) → (List ℕ → Type 0) → List ℕ → Type 0
FrameOne k P b = (x y : List ℕ) (xs : List (List ℕ)) → b ≡ x ++ y → Frame k P x xs → y ≡ []

nothing : (y : List ℕ) → length y ≤ 0 → y ≡ []
nothing [] l = refl
nothing (x ∷ xs) l = absurd (let e : length (x ∷ xs) ≤ 0 = l in omega arith)

module _ (k : Option ℕ → Header) (inj : (o p : Option ℕ) → k o ≡ k p → o ≡ p) (unbroken : (o : Option ℕ) → k o ≢ Break) (P : List ℕ → Type 0) where
  -- a definite string with no more bytes than its head says
  chunk_one : (title body : List ℕ) (n : ℕ) → Title title (k (Some n)) → length body ≤ n → FrameOne k P (title ++ body)
  chunk_one title body n t l x y _ e (whole _ inner s p has eb) =
      let v = split (title ++ body) x title s body inner [] y (k (Some n)) (k (Some (length inner))) t p refl eb (sym (append_nil (title ++ body)) ∙ e) in
      let c : Some n ≡ Some (length inner) = inj (Some n) (Some (length inner)) v.heads in
      let m : n ≡ length inner = cc in
      let r : body ++ [] ≡ inner ++ y = v.rests in
      nothing y (omega (arith, ap length r, length-append body [], length-append inner y))
  chunk_one title body n t l x y xs e (cut _ j s _ p gs eb) =
      let v = split (title ++ body) x title s body (j ++ 255 ∷ []) [] y (k (Some n)) (k None) t p refl (eb ∙ append_assoc s j (255 ∷ [])) (sym (append_nil (title ++ body)) ∙ e) in
      let c : Some n ≡ None = inj (Some n) None v.heads in
      cc

  -- an open string that a part of a string follows
  open_one : (n : ℕ) (a rest r : List ℕ) (xs : List (List ℕ)) (o : Option ℕ) → Opened k P n a xs → Begins rest (k o) r → FrameOne k P rest → FrameOne k P (a ++ rest)
  open_one n a rest r xs o q s one x y ys e f = absurd (let c = closing k inj unbroken P n a rest x y xs ys q f e in go c.inner c.behind c.bodies c.frames c.is)
    where
      go : (j w : List ℕ) (vs : List (List ℕ)) → Frames k P j vs → rest ≡ j ++ (255 ∷ w) → ⊥
      go _ w _ no_frames g = unbroken o (begins_once rest r w (k o) Break s (record { title = 255 ∷ []; is_title = break_title; whole = g }))
      go _ w _ (frame_more c d ps qs f fs) g =
          let z : 255 ∷ w ≡ [] = no_more d (255 ∷ w) (one c (d ++ (255 ∷ w)) ps (g ∙ append_assoc c d (255 ∷ w)) f) in
          cc

bytes_one : (b r : List ℕ) (o : Option ℕ) → Begins b (Bytes o) r → FrameOne Bytes Any b → HoldsOne b
bytes_one b r o s one (bytes z) x y e p = one x y p.0 e p.1
bytes_one b r o s one t x y e p = absurd (let k : 1 ≡ tree_kind t = sym (kind_0 o) ∙ kind_at b r y (Bytes o) t s (record { spelling = x; whole = e; spells = p }) in omega arith)

text_one : (b r : List ℕ) (o : Option ℕ) → Begins b (Text o) r → FrameOne Text IsUtf8 b → HoldsOne b
text_one b r o s one (text z) x y e p = one x y p.0 e p.1
text_one b r o s one t x y e p = absurd (let k : 2 ≡ tree_kind t = sym (kind_1 o) ∙ kind_at b r y (Text o) t s (record { spelling = x; whole = e; spells = p }) in omega arith)

-- a definite string of which not all was taken
pub chunk_behind : (is_text : Bool) (n : ℕ) (body : List ℕ) → length body ≤ n → OneAfterTitle (string_head is_text (Some n)) body
chunk_behind false n body l title t = bytes_one (title ++ body) body (Some n) (begins title body (Bytes (Some n)) t) (chunk_one Bytes bytes_same bytes_unbroken Any title body n t l)
chunk_behind true n body l title t = text_one (title ++ body) body (Some n) (begins title body (Text (Some n)) t) (chunk_one Text text_same text_unbroken IsUtf8 title body n t l)

-- an open string with a body of which not all was taken
pub open_behind : (is_text : Bool) (n m : ℕ) (items inner title body : List ℕ) → OpenAfterHead is_text n items inner → Title title (string_head is_text (Some m)) → length body ≤ m → OneAfterTitle (string_head is_text None) (inner ++ (title ++ body))
open_behind false n m items inner title body o u l head t =
    subst HoldsOne (append_assoc head inner (title ++ body))
    (bytes_one ((head ++ inner) ++ (title ++ body)) (inner ++ (title ++ body)) None (record { title = head; is_title = t; whole = append_assoc head inner (title ++ body) })
    (open_one Bytes bytes_same bytes_unbroken Any n (head ++ inner) (title ++ body) body o.bodies (Some m) (o.begun head t) (begins title body (Bytes (Some m)) u) (chunk_one Bytes bytes_same bytes_unbroken Any title body m u l)))
open_behind true n m items inner title body o u l head t =
    subst HoldsOne (append_assoc head inner (title ++ body))
    (text_one ((head ++ inner) ++ (title ++ body)) (inner ++ (title ++ body)) None (record { title = head; is_title = t; whole = append_assoc head inner (title ++ body) })
    (open_one Text text_same text_unbroken IsUtf8 n (head ++ inner) (title ++ body) body o.bodies (Some m) (o.begun head t) (begins title body (Text (Some m)) u) (chunk_one Text text_same text_unbroken IsUtf8 title body m u l)))

-- a string that was taken whole
pub string_behind : (is_text : Bool) (o : Option ℕ) (items inner : List ℕ) → StringAfterHead is_text o items inner → OneAfterTitle (string_head is_text o) inner
string_behind false o items inner s title t = item_one (title ++ inner) (bytes (joined s.bodies)) (s.bodies, s.frame title t, refl)
string_behind true o items inner s title t = item_one (title ++ inner) (text (joined s.bodies)) (s.bodies, s.frame title t, refl)

pub chunk_memory : {E : Type 0} (is_text : Bool) (n : ℕ) (l₀ l₁ : Option (List ℕ)) (o₀ o₁ : ℕ) (e : Error E) → IfMemory (Moves l₀ l₁ o₀ o₁ (λ (b : List ℕ). length b ≤ n)) e → IfMemory (Moves l₀ l₁ o₀ o₁ (OneAfterTitle (string_head is_text (Some n)))) e
chunk_memory is_text n l₀ l₁ o₀ o₁ e m =
    memory_as _ _ e (λ t. takes_as l₀ l₁ o₀ o₁ (λ (b : List ℕ). length b ≤ n) (OneAfterTitle (string_head is_text (Some n))) t (chunk_behind is_text n)) m

-- a title of the kind, and no more bytes than it says
abbrev Cut : Bool → ℕ → List ℕ → Type 0
Cut is_text m b = (title body : List ℕ) × Title title (string_head is_text (Some m)) × (length body ≤ m) × (b ≡ title ++ body)

pub open_memory : {E : Type 0} (is_text : Bool) (n m : ℕ) (items : List ℕ) (h : Header) (l₀ l₁ l₂ l₃ : Option (List ℕ)) (o₀ o₁ o₂ o₃ : ℕ) (e : Error E) → Moves l₀ l₁ o₀ o₁ (OpenAfterHead is_text n items) → Moves l₁ l₂ o₁ o₂ (λ (b : List ℕ). Title b h)
    → h ≡ string_head is_text (Some m) → IfMemory (Moves l₂ l₃ o₂ o₃ (λ (b : List ℕ). length b ≤ m)) e → IfMemory (Moves l₀ l₃ o₀ o₃ (OneAfterTitle (string_head is_text None))) e
open_memory is_text n m items h l₀ l₁ l₂ l₃ o₀ o₁ o₂ o₃ e t a is w =
    memory_as _ _ e (λ q.
    takes_then l₀ l₁ l₃ o₀ o₁ o₃ (OpenAfterHead is_text n items) (Cut is_text m) (OneAfterTitle (string_head is_text None)) t
    (takes_then l₁ l₂ l₃ o₁ o₂ o₃ (λ (b : List ℕ). Title b h) (λ (b : List ℕ). length b ≤ m) (Cut is_text m) a q (λ x y s l. (x, y, subst (Title x) is s, l, refl)))
    (λ x y o c. subst (λ (z : List ℕ). OneAfterTitle (string_head is_text None) (x ++ z)) (sym c.4) (open_behind is_text n m items x c.0 c.1 o c.2 c.3))) w
