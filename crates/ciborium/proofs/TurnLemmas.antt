-- The turns of the reader's loop.
use Rattle.std.proofs.Common.{◌≡◌, ◌+◌, ◌^◌, ◌<◌, ◌&&◌, ℕ, Bool, true, false, List, [], ◌∷◌, ◌++◌, length, Option, None, Some, refl, sym, ap, subst, ◌∙◌, arith, append_assoc, length-append, reverse}
use Rattle.std.specs.Io.KnownBytes.{Consumes}
use Rattle.std.proofs.KnownBytes.{Consumes-trans}
use Rattle.ciborium_ll.specs.Seen.{Seen, Takes}
use Rattle.ciborium_ll.specs.declared.hdr.Header.{Header}
use Rattle.ciborium_ll.specs.Title.{Title, title_of, IsShortest}
use Rattle.ciborium_value.specs.declared.value.Value.{Value}
use Rattle.ciborium_value.specs.View.{view}
use Rattle.ciborium.specs.declared.de.Error.{Error}
use Rattle.ciborium.specs.declared.frames.Frame.{Frame}
use Rattle.ciborium.specs.declared.frames.Frame.TheVariants as code
use Rattle.ciborium.specs.declared.frames.Opened.TheVariants as opens
use Rattle.ciborium.specs.Damage.{Damage}
use Rattle.ciborium.specs.Front.{Reads}
use Rattle.ciborium.specs.Levels.{Titled}
use Rattle.ciborium.specs.Reading.{FailsAt, FailsAfterTitle, IfKnown, ReadsAfterTitle, NamesFault, NamesFaultAfterTitle}
use Rattle.ciborium.specs.Exact.{Says, IsEncoded, encoded}
use Rattle.ciborium_value.specs.Tree.{Tree}
use Rattle.ciborium_value.specs.Encoding.{enc}
use Rattle.ciborium.proofs.ExactSteps.{says_and}
use Rattle.ciborium.proofs.ToldLemmas.{encoded_says}
use Rattle.ciborium.specs.Frames.{IfAsked, InHand, Asks, CloseGives, ReadExact, opened, HasHalf, Stage, IsStaged, IsClosed, GoesUp, IsKept, HandFails, IsHandedOver, Opening, Faults, FillEnds, FillGives, HaveHalf, HalfIn, BeginsItem, BeginFails}
use Rattle.ciborium_value.specs.Folding.{tagged}
use Rattle.ciborium.specs.declared.frames.Entries.{Entries}
use Rattle.ciborium.proofs.FrameLemmas.{last_pushed, handed_on, tag_up}
use Rattle.ciborium.proofs.BeginLemmas.{first_begun, first_read, whole_read}
use Rattle.ciborium.proofs.Taking.{fails_titled, takes_as, takes_then}

-- what is known of the flag at the title of the whole
abbrev pub Starts : Bool → Bool → Header → List ℕ → Type 0
Starts k w h title = IfAsked k w (length title) ((title ≡ title_of h) × IsEncoded h)

-- what was taken after the title of h, which begins at the place `at`
abbrev pub Behind : ℕ → Header → ℕ → Seen → Seen → Bool → Bool → List Frame → Option Value → List ℕ → Type 0
Behind limit h at old new u w fs read y = (k : Bool) (title : List ℕ) → Title title h → Starts k u h title → Stage k w limit fs read at new.offset (title ++ y)

-- the reader's state between two turns
pub record Turn (limit : ℕ) (h : Header) (at : ℕ) (old new : Seen) (u w : Bool) (fs : List Frame) (read : Option Value) : Type 0 where
  pub taken : Takes old new (Behind limit h at old new u w fs read)

-- if the flag is not asked for, any serves
asks_as : (w w' : Bool) (limit : ℕ) (fs : List Frame) (from now : ℕ) (b : List ℕ) → Asks false w limit fs from now b → Asks false w' limit fs from now b
asks_as w w' limit [] from now b p = p
asks_as w w' limit (code.Items l ∷ fs) from now b p = (p.0, tt)
asks_as w w' limit (code.Entries l ∷ fs) from now b p = (p.0, tt)
asks_as w w' limit (code.Tag n at h room ∷ fs) from now b p = (p.0, tt)

pub unasked_as : (w w' : Bool) (limit : ℕ) (fs : List Frame) (read : Option Value) (from now : ℕ) (b : List ℕ) → Stage false w limit fs read from now b → Stage false w' limit fs read from now b
unasked_as w w' limit fs None from now b p = (p.0, asks_as w w' limit fs from now b p.1)
unasked_as w w' limit fs (Some v) from now b p = (p.0, (p.1.0, tt))

pub unasked : (w : Bool) (limit : ℕ) (fs : List Frame) (read : Option Value) (from now : ℕ) (b : List ℕ) → Stage false w limit fs read from now b → Stage false false limit fs read from now b
unasked w limit fs read from now b p = unasked_as w false limit fs read from now b p

-- the outermost level is opened, or there is none
pub turn_start : (limit at : ℕ) (h : Header) (old new : Seen) (u w : Bool) (f : Frame) (fs : List Frame) → fs ≡ [] → Takes old new (Opening h at old.offset limit u w (opens.Level f)) → Turn limit h at old new u w (f ∷ reverse fs) None
turn_start limit at h old new u w f fs e t = record {
  taken = record {
    bytes = t.bytes;
    has = λ k title i flag.
        subst (λ (z : List Frame). Stage k w limit (f ∷ reverse z) None at new.offset (title ++ t.bytes)) (sym e)
        (subst (λ (n : ℕ). Stage k w limit (f ∷ []) None at n (title ++ t.bytes)) (sym t.grown) (first_begun limit at old.offset h f k u w title t.bytes t.has i flag));
    taken = t.taken;
    grown = t.grown;
  };
}

pub first_exact : (limit at : ℕ) (h : Header) (old new : Seen) (u w : Bool) (v : Value) → Takes old new (Opening h at old.offset limit u w (opens.Leaf v)) → Takes old new (ReadExact h limit (view v) u w)
first_exact limit at h old new u w v t = takes_as old.left new.left old.offset new.offset (Opening h at old.offset limit u w (opens.Leaf v)) _ t (λ y i title p. first_read h at old.offset limit u w v title y i p)

-- there are bytes of the whole so far
pub turn_staged : {limit : ℕ} {h : Header} {at : ℕ} {old new : Seen} {u w : Bool} {fs : List Frame} {read : Option Value} → Turn limit h at old new u w fs read → (title : List ℕ) × Title title h → IsStaged fs read
turn_staged {limit} {h} {at} {old} {new} {u} {w} {fs} {read} t v = (limit, at, new.offset, v.0 ++ t.taken.bytes, unasked w limit fs read at new.offset (v.0 ++ t.taken.bytes) (t.taken.has false v.0 v.1 tt))

-- the whole is read
pub turn_done : {limit : ℕ} {h : Header} {at : ℕ} {old new : Seen} {u w : Bool} {fs : List Frame} {v : Value} (gs : List Frame) (w' : Bool) (x : Value) → Turn limit h at old new u w fs (Some v) → IsHandedOver fs gs v (Some x) w w' → Takes old new (ReadExact h limit (view x) u w')
turn_done {limit} {h} {at} {old} {new} {u} {w} {fs} {v} gs w' x t s = takes_as old.left new.left old.offset new.offset (Behind limit h at old new u w fs (Some v)) _ t.taken (λ y b title i. (
  (s.step false limit at new.offset (title ++ y) (b false title i tt)).0,
  λ l says. (s.step true limit at new.offset (title ++ y) (b true title i (λ m. says))).1 l,
))

-- a value in no level is the whole
pub alone : (w : Bool) (v : Value) (gs : List Frame) → IsHandedOver [] gs v (Some v) w w
alone w v gs = record { step = λ k limit from now b s. whole_read k w limit v b s.1 }

-- a value that goes up
pub staged_on : (old new : List Frame) (v u : Value) (w w' : Bool) → IsStaged old (Some v) → GoesUp old new v u w w' → IsStaged new (Some u)
staged_on old new v u w w' (limit, from, now, b, s) up = (limit, from, now, b, unasked w' limit new (Some u) from now b (up.step false limit from now b (unasked_as false w limit old (Some v) from now b s)))

pub fails_on : {E : Type 0} (old new : List Frame) (v u : Value) (w w' : Bool) (e : Error E) → GoesUp old new v u w w' → HandFails new u e → HandFails old v e
fails_on old new v u w w' e up f ends limit from b left now off s = f ends limit from b left now off (unasked w' limit new (Some u) from now b (up.step false limit from now b (unasked_as false w limit old (Some v) from now b s)))

pub staged_half : (f : Frame) (fs : List Frame) (v : Value) (l : Entries) → f ≡ code.Entries l → IsStaged (f ∷ fs) (Some v) → HasHalf l
staged_half f fs v l e (limit, from, now, b, s) = (subst (λ (z : Frame). Stage false false limit (z ∷ fs) (Some v) from now b) e s).0.0

-- no levels
pub empty : (fs : List Frame) → length fs ≡ 0 → fs ≡ []
empty [] e = refl
empty (f ∷ fs) e = absurd (omega arith)

-- the outermost level is a tag
pub tag_last : (f : Frame) (xs gs : List Frame) (n at room : ℕ) (h : Header) (v u : Value) (w w' : Bool) → f ≡ code.Tag n at h room → xs ≡ [] → tagged n (view v) ≡ Some (view u) → IsKept n (view v) (view u) w w' → IsHandedOver (f ∷ reverse xs) gs v (Some u) w w'
tag_last f xs gs n at room h v u w w' e none t kept =
    subst (λ (z : Frame). IsHandedOver (z ∷ reverse xs) gs v (Some u) w w') (sym e)
    (subst (λ (z : List Frame). IsHandedOver (code.Tag n at h room ∷ reverse z) gs v (Some u) w w') (sym none)
    (handed_on (code.Tag n at h room ∷ []) [] gs v u (Some u) w w' w' (tag_up [] n at room h v u w w' t kept) (alone w' u gs)))

-- a value was taken
pub turn_handed : {limit : ℕ} {h : Header} {at : ℕ} {old new : Seen} {u w : Bool} {fs : List Frame} {v : Value} (gs : List Frame) (w' : Bool) → Turn limit h at old new u w fs (Some v) → IsHandedOver fs gs v None w w' → Turn limit h at old new u w' gs None
turn_handed {limit} {h} {at} {old} {new} {u} {w} {fs} {v} gs w' t s =
    record { taken = takes_as old.left new.left old.offset new.offset (Behind limit h at old new u w fs (Some v)) (Behind limit h at old new u w' gs None) t.taken (λ y b k title i f. s.step k limit at new.offset (title ++ y) (b k title i f)) }

-- half an entry is in a map
pub rooted_half : (f : Frame) (fs : List Frame) → HaveHalf (f ∷ fs) → HalfIn f
rooted_half (code.Items l) fs r = tt
rooted_half (code.Entries l) fs r = r.0
rooted_half (code.Tag n at h room) fs r = tt

pub turn_half : {limit : ℕ} {h : Header} {at : ℕ} {old new : Seen} {u w : Bool} {top : Frame} {fs : List Frame} → Turn limit h at old new u w (top ∷ fs) None → (title : List ℕ) × Title title h → HalfIn top
turn_half {limit} {h} {at} {old} {new} {u} {w} {top} {fs} t v = rooted_half top fs (t.taken.has false v.0 v.1 tt).0

-- a level is closed
pub turn_ended : {limit : ℕ} {h : Header} {at : ℕ} {old mid : Seen} {u w w' : Bool} {top : Frame} {fs : List Frame} (top' : Frame) (new : Seen) → Turn limit h at old mid u w (top ∷ fs) None → Takes mid new (FillEnds top top' mid.offset w w') → (title : List ℕ) × Title title h
    → IsClosed (top' ∷ fs)
turn_ended {limit} {h} {at} {old} {mid} {u} {w} {w'} {top} {fs} top' new t a v = (limit, (v.0 ++ t.taken.bytes) ++ a.bytes, a.has false limit at fs (v.0 ++ t.taken.bytes) (t.taken.has false v.0 v.1 tt))

pub turn_closed : {limit : ℕ} {h : Header} {at : ℕ} {old mid : Seen} {u w : Bool} {top : Frame} {fs : List Frame} (top' : Frame) (new : Seen) (v : Value) (w' : Bool) → Turn limit h at old mid u w (top ∷ fs) None
    → Takes mid new (FillEnds top top' mid.offset w w') → CloseGives top' v → Turn limit h at old new u w' fs (Some v)
turn_closed {limit} {h} {at} {old} {mid} {u} {w} {top} {fs} top' new v w' t a s = record {
  taken = takes_then old.left mid.left new.left old.offset mid.offset new.offset (Behind limit h at old mid u w (top ∷ fs) None) (FillEnds top top' mid.offset w w') (Behind limit h at old new u w' fs (Some v)) t.taken a
      (λ x y b e k title i f. subst (λ (z : List ℕ). Stage k w' limit fs (Some v) at new.offset z) (append_assoc title x y) (s k w' limit at new.offset fs ((title ++ x) ++ y) (e k limit at fs (title ++ x) (b k title i f))));
}

pub turn_popped : {limit : ℕ} {h : Header} {at : ℕ} {old new : Seen} {u w : Bool} {v : Value} (xs ys : List Frame) (x : Frame) → xs ≡ ys ++ x ∷ [] → Turn limit h at old new u w (reverse xs) (Some v) → Turn limit h at old new u w (x ∷ reverse ys) (Some v)
turn_popped {limit} {h} {at} {old} {new} {u} {w} {v} xs ys x e t = subst (λ (z : List Frame). Turn limit h at old new u w z (Some v)) (last_pushed ys xs x e) t

-- the outermost level is closed
pub turn_last : {limit : ℕ} {h : Header} {at : ℕ} {old new : Seen} {u w : Bool} {v : Value} (xs : List Frame) → xs ≡ [] → Turn limit h at old new u w (reverse xs) (Some v) → Takes old new (ReadExact h limit (view v) u w)
turn_last {limit} {h} {at} {old} {new} {u} {w} {v} xs e t = turn_done [] w v (subst (λ (z : List Frame). Turn limit h at old new u w (reverse z) (Some v)) e t) (alone w v [])

-- the item of a title is begun
pub turn_begun : {limit : ℕ} {h : Header} {at : ℕ} {old s₁ : Seen} {u w : Bool} {top : Frame} {fs : List Frame} (top' : Frame) (place : ℕ) (j : Header) (s₂ s₃ : Seen) (gs : List Frame) (read : Option Value) (w₂ w₃ : Bool) → Turn limit h at old s₁ u w (top ∷ fs) None
    → Takes s₁ s₂ (FillGives top top' j place s₁.offset w w₂) → Takes s₂ s₃ (BeginsItem (top' ∷ fs) gs limit j place s₂.offset read w₂ w₃) → Turn limit h at old s₃ u w₃ gs read
turn_begun {limit} {h} {at} {old} {s₁} {u} {w} {top} {fs} top' place j s₂ s₃ gs read w₂ w₃ r a p = let t = r.taken in record {
  taken = record {
    bytes = t.bytes ++ (a.bytes ++ p.bytes);
    has = λ k title i f.
        let q = a.has k limit at fs (title ++ t.bytes) (t.has k title i f) in
        let v = subst (λ (z : ℕ). InHand k w₂ limit (opened (top' ∷ fs)) j place at z ((title ++ t.bytes) ++ a.bytes)) (sym a.grown) q.1 in
        let x = p.has k at ((title ++ t.bytes) ++ a.bytes) q.0 v in
        subst (λ (z : ℕ). Stage k w₃ limit gs read at z (title ++ (t.bytes ++ (a.bytes ++ p.bytes)))) (sym p.grown)
        (subst (λ (z : List ℕ). Stage k w₃ limit gs read at (s₂.offset + length p.bytes) z) (append_assoc (title ++ t.bytes) a.bytes p.bytes ∙ append_assoc title t.bytes (a.bytes ++ p.bytes)) x);
    taken = Consumes-trans old.left s₁.left s₃.left t.bytes (a.bytes ++ p.bytes) t.taken (Consumes-trans s₁.left s₂.left s₃.left a.bytes p.bytes a.taken p.taken);
    grown = omega (arith, t.grown, a.grown, p.grown, length-append t.bytes (a.bytes ++ p.bytes), length-append a.bytes p.bytes);
  };
}

-- a fault after what was taken
fails_from : {E : Type 0} (ends : E → Bool) (limit at o : ℕ) (title x b : List ℕ) (m : Option (List ℕ)) (e : Error E) → Consumes (Some b) m x → Faults ends limit at (title ++ x) m o e
    → FailsAt ends (title ++ b) at o (λ stop b f. Damage stop b limit f) e
fails_from ends limit at o title x b None e p f = absurd p
fails_from ends limit at o title x b (Some rest) e p f =
    subst (λ (z : List ℕ). FailsAt ends z at o (λ stop b f. Damage stop b limit f) e) (append_assoc title x rest ∙ ap (λ z. title ++ z) (sym p)) f

pub known_fails : {E : Type 0} (ends : E → Bool) (limit at o : ℕ) (title x : List ℕ) (l m : Option (List ℕ)) (e : Error E) → Consumes l m x → Faults ends limit at (title ++ x) m o e
    → IfKnown l (λ rest. FailsAt ends (title ++ rest) at o (λ stop b f. Damage stop b limit f) e)
known_fails ends limit at o title x None m e p f = tt
known_fails ends limit at o title x (Some b) m e p f = fails_from ends limit at o title x b m e p f

pub turn_fails : {E : Type 0} {limit : ℕ} {h : Header} {at : ℕ} {old mid : Seen} {u w : Bool} {fs : List Frame} {read : Option Value} (ends : E → Bool) (o : ℕ) (e : Error E) → Turn limit h at old mid u w fs read
    → ((b : List ℕ) → at + length b ≡ mid.offset → Stage false false limit fs read at mid.offset b → Faults ends limit at b mid.left o e) → FailsAfterTitle ends h at old.offset old.left o (λ stop b f. Damage stop b limit f) e
turn_fails {E} {limit} {h} {at} {old} {mid} {u} {w} {fs} {read} ends o e r s title i place =
    let t = r.taken in
    let off : at + length (title ++ t.bytes) ≡ mid.offset = omega (arith, place, t.grown, length-append title t.bytes) in
    known_fails ends limit at o title t.bytes old.left mid.left e t.taken (s (title ++ t.bytes) off (unasked w limit fs read at mid.offset (title ++ t.bytes) (t.has false title i tt)))

-- a fault of the item whose title was taken
pub begun_fails : {E : Type 0} {limit : ℕ} {h : Header} {at : ℕ} {old s₁ : Seen} {u w : Bool} {top : Frame} {fs : List Frame} (top' : Frame) (ends : E → Bool) (place : ℕ) (k : Header) (s₂ s₃ : Seen) (w₂ : Bool) (e : Error E) → Turn limit h at old s₁ u w (top ∷ fs) None
    → Takes s₁ s₂ (FillGives top top' k place s₁.offset w w₂) → BeginFails ends limit (top' ∷ fs) k place s₂ s₃ e → FailsAfterTitle ends h at old.offset old.left s₃.offset (λ stop b f. Damage stop b limit f) e
begun_fails {E} {limit} {h} {at} {old} {s₁} {u} {w} {top} {fs} top' ends place k s₂ s₃ w₂ e n a v title i g =
    let t = n.taken in
    let off : at + length ((title ++ t.bytes) ++ a.bytes) ≡ s₂.offset = omega (arith, g, t.grown, a.grown, length-append (title ++ t.bytes) a.bytes, length-append title t.bytes) in
    let q = a.has false limit at fs (title ++ t.bytes) (t.has false title i tt) in
    let r = subst (λ (z : ℕ). Titled limit (opened (top' ∷ fs)) k place at z ((title ++ t.bytes) ++ a.bytes)) (sym a.grown) q.1.0 in
    known_fails ends limit at s₃.offset title (t.bytes ++ a.bytes) old.left s₂.left e (Consumes-trans old.left s₁.left s₂.left t.bytes a.bytes t.taken a.taken)
    (subst (λ (z : List ℕ). Faults ends limit at z s₂.left s₃.offset e) (append_assoc title t.bytes a.bytes) (v at ((title ++ t.bytes) ++ a.bytes) off q.0 r))

-- what is read is read, whatever the flag
pub behind_read : (h : Header) (limit : ℕ) (v : Tree) (u w : Bool) (old new : Seen) → Takes old new (ReadExact h limit v u w) → Takes old new (λ (b : List ℕ). ReadsAfterTitle h limit v b)
behind_read h limit v u w old new t = takes_as old.left new.left old.offset new.offset (ReadExact h limit v u w) _ t (λ y b title i. (b title i).0)

-- a title and its item, and whether both are the encoding
pub exact_read : (h : Header) (limit : ℕ) (v : Tree) (u w s : Bool) (old mid new : Seen) → new.offset < 2 ^ 64 → w ≡ (true && (s && encoded h)) → Takes old mid (λ b. Title b h × IsShortest s b h) → Takes mid new (ReadExact h limit v w u)
    → Takes old new (λ b. Reads b limit v × Says u (b ≡ enc v))
exact_read h limit v u w s old mid new few flag t r =
    let q = r.has t.bytes t.has.0 in
    let l : length (t.bytes ++ r.bytes) < 2 ^ 64 = omega (arith, t.grown, r.grown, length-append t.bytes r.bytes) in
    let p : Says w ((t.bytes ≡ title_of h) × IsEncoded h) =
    subst (λ (z : Bool). Says z ((t.bytes ≡ title_of h) × IsEncoded h)) (sym flag) (says_and s (encoded h) (t.bytes ≡ title_of h) (IsEncoded h) t.has.1 (encoded_says h)) in
    record {
      bytes = t.bytes ++ r.bytes;
      has = (q.0, q.1 l p);
      taken = Consumes-trans old.left mid.left new.left t.bytes r.bytes t.taken r.taken;
      grown = omega (arith, t.grown, r.grown, length-append t.bytes r.bytes);
    }

-- the same, told if it is asked (k)
pub exact_by : (h : Header) (limit : ℕ) (v : Tree) (k u w s : Bool) (old mid new : Seen) → new.offset < 2 ^ 64 → w ≡ (k && (s && encoded h)) → Takes old mid (λ b. Title b h) → (k ≡ true → Takes old mid (λ b. Title b h × IsShortest s b h))
    → Takes mid new (ReadExact h limit v w u) → Takes old new (λ b. Reads b limit v × (k ≡ true → Says (k && u) (b ≡ enc v)))
exact_by h limit v true u w s old mid new few flag t t' r =
    takes_as old.left new.left old.offset new.offset _ _ (exact_read h limit v u w s old mid new few flag (t' refl) r) (λ b p. (p.0, λ _. p.1))
exact_by h limit v false u w s old mid new few flag t t' r =
    takes_then old.left mid.left new.left old.offset mid.offset new.offset _ _ _ t (behind_read h limit v w u mid new r) (λ x y a b. (b x a, λ (e : false ≡ true). absurd (cc)))

-- a fault after the title of an item is one of the item
pub item_fails : {E : Type 0} (ends : E → Bool) (h : Header) (at limit : ℕ) (old mid new : Seen) (e : Error E) → at ≡ old.offset → Takes old mid (λ b. Title b h) → NamesFaultAfterTitle ends h at (λ stop b f. Damage stop b limit f) mid new e
    → NamesFault ends (λ stop b f. Damage stop b limit f) old new e
item_fails ends h at limit old mid new e same t w =
    fails_titled ends old.left mid.left old.offset mid.offset new.offset h (λ stop b f. Damage stop b limit f) e t
    (subst (λ (z : ℕ). FailsAfterTitle ends h z mid.offset mid.left new.offset (λ stop b f. Damage stop b limit f) e) same w)
