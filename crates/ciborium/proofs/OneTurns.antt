-- Out of memory in a turn of the reader's loop, what was taken holds at most one item.
use Rattle.std.proofs.Common.{◌≡◌, ◌+◌, ℕ, Bool, false, List, ◌∷◌, ◌++◌, length, Option, None, Some, Result, Ok, Err, IfErr, refl, sym, ap, subst, ◌∙◌, append_assoc}
use Rattle.ciborium_ll.specs.declared.hdr.Header.{Header}
use Rattle.ciborium_ll.specs.Reading.{Moves}
use Rattle.ciborium_ll.specs.Seen.{Seen, Takes}
use Rattle.ciborium_ll.specs.Title.{Title}
use Rattle.ciborium_value.specs.declared.value.Value.{Value}
use Rattle.ciborium_value.specs.View.{view}
use Rattle.ciborium.specs.declared.de.Error.{Error}
use Rattle.ciborium.specs.declared.frames.Frame.{Frame}
use Rattle.ciborium.specs.declared.frames.Frame.TheVariants as code
use Rattle.ciborium.specs.declared.frames.Opened.TheVariants as opens
use Rattle.ciborium.specs.Front.{HoldsOne}
use Rattle.ciborium.specs.Levels.{Titled}
use Rattle.ciborium.specs.Reading.{OneAfterTitle, IfMemory}
use Rattle.ciborium.specs.Typed.{Gives}
use Rattle.ciborium.specs.Frames.{opened, Stage, IsBegun, Opening, AskGives, FillsFrame, FillGives, FillHolds}
use Rattle.ciborium.proofs.Taking.{takes_as, takes_then}
use Rattle.ciborium.proofs.Halting.{memory_as}
use Rattle.ciborium.proofs.OneItem.{title_one, none_behind, tag_one, titled_one, handing_one}
use Rattle.ciborium.proofs.FillLemmas.{filled}
use Rattle.ciborium.proofs.TurnLemmas.{Turn, Behind, unasked_as, unasked}

-- a level that was opened
begun_behind : (f : Frame) (h : Header) (now : ℕ) (w w' : Bool) (y : List ℕ) → IsBegun f h now w w' y → OneAfterTitle h y
begun_behind (code.Items l) h now w w' y i = subst (OneAfterTitle h) (sym i.2) (none_behind h)
begun_behind (code.Entries l) h now w w' y i = subst (OneAfterTitle h) (sym i.3) (none_behind h)
begun_behind (code.Tag n at j room) h now w w' y i = λ title t. tag_one n title y (subst (Title title) i.0 t) (title_one y j i.2)

pub opened_behind : (h : Header) (at now left : ℕ) (w w' : Bool) (f : Frame) (y : List ℕ) → Opening h at now left w w' (opens.Level f) y → OneAfterTitle h y
opened_behind h at now left w w' f y i = begun_behind f h now w w' y i.1

-- a value that was not handed over
pub turn_one : {limit : ℕ} {h : Header} {at : ℕ} {old new : Seen} {u w : Bool} {fs : List Frame} {v : Value} → Turn limit h at old new u w fs (Some v) → Takes old new (OneAfterTitle h)
turn_one {limit} {h} {at} {old} {new} {u} {w} {fs} {v} t =
    takes_as old.left new.left old.offset new.offset (Behind limit h at old new u w fs (Some v)) (OneAfterTitle h) t.taken
    (λ y b title i. handing_one limit (opened fs) (view v) (title ++ y) (b false title i tt).1.0)

-- a title in hand after these bytes
abbrev Asked : Frame → Frame → Header → ℕ → ℕ → List ℕ → Type 0
Asked f g h at o x = (limit from : ℕ) (fs : List Frame) (b : List ℕ) → Stage false false limit (f ∷ fs) None from o b → (now : ℕ) × Titled limit (opened (g ∷ fs)) h at from now (b ++ x)

-- a leaf that was not put into the innermost level
pub fills_one : {E : Type 0} (f g : Frame) (h : Header) (at : ℕ) (old mid mid' new : Seen) (u w w' : Bool) (e : Error E) → Takes old mid (FillsFrame f g old.offset u w) → Takes mid mid' (AskGives g h at mid.offset w w')
    → IfMemory (Takes mid' new (OneAfterTitle h)) e → IfMemory (Takes old new (FillHolds f old.offset)) e
fills_one f g h at old mid mid' new u w w' e t a m =
    memory_as (Takes mid' new (OneAfterTitle h)) (Takes old new (FillHolds f old.offset)) e (λ r.
    takes_then old.left mid'.left new.left old.offset mid'.offset new.offset (Asked f g h at old.offset) (OneAfterTitle h) (FillHolds f old.offset)
    (takes_then old.left mid.left mid'.left old.offset mid.offset mid'.offset (λ x. x ≡ t.bytes) (λ x. x ≡ a.bytes) (Asked f g h at old.offset)
    (record { bytes = t.bytes; has = refl; taken = t.taken; grown = t.grown }) (record { bytes = a.bytes; has = refl; taken = a.taken; grown = a.grown }) asked)
    r (λ x y p one limit from fs b s.
    let q = p limit from fs b s in
    subst HoldsOne (append_assoc b x y) (titled_one limit (opened (g ∷ fs)) h at from q.0 (b ++ x) y q.1 one))) m
  where
    asked : (x y : List ℕ) → x ≡ t.bytes → y ≡ a.bytes → Asked f g h at old.offset (x ++ y)
    asked x y d c limit from fs b s =
        let q = a.has false limit from fs (b ++ t.bytes) (filled f g old mid u w t false limit from fs b (unasked_as false u limit (f ∷ fs) None from old.offset b s)) in (
          mid.offset + length a.bytes,
          subst (λ (z : List ℕ). Titled limit (opened (g ∷ fs)) h at from (mid.offset + length a.bytes) z) (append_assoc b t.bytes a.bytes ∙ ap (λ z. b ++ z) (ap (λ z. z ++ a.bytes) (sym d) ∙ ap (λ z. x ++ z) (sym c))) q.1.0,
        )

-- parts that were not read into the innermost level
pub turn_fills : {E : Type 0} {limit : ℕ} {h : Header} {at : ℕ} {old mid : Seen} {u w : Bool} {top : Frame} {fs : List Frame} (new : Seen) (e : Error E) → Turn limit h at old mid u w (top ∷ fs) None
    → IfMemory (Takes mid new (FillHolds top mid.offset)) e → IfMemory (Takes old new (OneAfterTitle h)) e
turn_fills {E} {limit} {h} {at} {old} {mid} {u} {w} {top} {fs} new e t m =
    memory_as (Takes mid new (FillHolds top mid.offset)) (Takes old new (OneAfterTitle h)) e (λ r.
    takes_then old.left mid.left new.left old.offset mid.offset new.offset (Behind limit h at old mid u w (top ∷ fs) None) (FillHolds top mid.offset) (OneAfterTitle h) t.taken r
    (λ x y p q title i. subst HoldsOne (append_assoc title x y) (q limit at fs (title ++ x) (unasked w limit (top ∷ fs) None at mid.offset (title ++ x) (p false title i tt))))) m

-- an item that was not begun
pub turn_begins : {E : Type 0} {limit : ℕ} {h : Header} {at : ℕ} {old s₁ : Seen} {u w : Bool} {top : Frame} {fs : List Frame} (top' : Frame) (place : ℕ) (k : Header) (s₂ s₃ : Seen) (w₂ : Bool) (e : Error E) → Turn limit h at old s₁ u w (top ∷ fs) None
    → Takes s₁ s₂ (FillGives top top' k place s₁.offset w w₂) → IfMemory (Takes s₂ s₃ (OneAfterTitle k)) e → IfMemory (Takes old s₃ (OneAfterTitle h)) e
turn_begins {E} {limit} {h} {at} {old} {s₁} {u} {w} {top} {fs} top' place k s₂ s₃ w₂ e t a m =
    turn_fills s₃ e t (memory_as (Takes s₂ s₃ (OneAfterTitle k)) (Takes s₁ s₃ (FillHolds top s₁.offset)) e (λ r.
    takes_then s₁.left s₂.left s₃.left s₁.offset s₂.offset s₃.offset (FillGives top top' k place s₁.offset w w₂) (OneAfterTitle k) (FillHolds top s₁.offset) a r
    (λ x y p one limit from fs b s.
    let q = p false limit from fs b (unasked_as false w limit (top ∷ fs) None from s₁.offset b s) in
    subst HoldsOne (append_assoc b x y) (titled_one limit (opened (top' ∷ fs)) k place from (s₁.offset + length x) (b ++ x) y q.1.0 one))) m)

-- the same over a reader that was lent
pub given_one : {T E : Type 0} (r : Result T (Error E)) (l l' m m' : Option (List ℕ)) (o o' : ℕ) → IfErr r (IfMemory (Moves m m' o o' HoldsOne)) → m ≡ l → m' ≡ l' → IfErr r (IfMemory (Gives l l' HoldsOne))
given_one (Ok x) l l' m m' o o' w p q = tt
given_one (Err e) l l' m m' o o' w p q =
    subst (λ (a : Option (List ℕ)). IfMemory (Gives a l' HoldsOne) e) p (subst (λ (a : Option (List ℕ)). IfMemory (Gives m a HoldsOne) e) q (memory_as (Moves m m' o o' HoldsOne) (Gives m m' HoldsOne) e (λ t. (t.bytes, t.taken, t.has)) w))
