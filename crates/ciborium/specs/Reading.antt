-- What the contracts of the reader cite.
use Rattle.std.specs.Prelude.{◌≡◌, ◌≢◌, ℕ, ◌+◌, ◌-◌, ◌^◌, ◌<◌, ◌≤◌, ◌⊎◌, nat_eq, List, [], ◌∷◌, ◌++◌, length, Option, Some, None, Bool, true, false, Result, Ok, Err, IfErr, IsTrue, if◌then◌else◌}
use Rattle.std.specs.Str.{IsUtf8}
use Rattle.ciborium_ll.specs.declared.hdr.Header.{Header}
use Rattle.ciborium_ll.specs.declared.hdr.Header.TheVariants.{Tag, Break, Bytes, Text, Array, Map}
use Rattle.ciborium_ll.specs.declared.hdr.Error.{Error as HeadError}
use Rattle.ciborium_ll.specs.declared.hdr.Error.TheVariants as below
use Rattle.ciborium_ll.specs.Reading.{Moves, Stops}
use Rattle.ciborium_ll.specs.Seen.{Seen, Takes}
use Rattle.ciborium_ll.specs.Title.{Title}
use Rattle.ciborium_value.specs.declared.kind.Kind.TheVariants as kind
use Rattle.ciborium.specs.declared.de.Error.{Error}
use Rattle.ciborium.specs.declared.de.Error.TheVariants as code
use Rattle.ciborium_value.specs.Tree.{Tree, Trees}
use Rattle.ciborium_value.specs.Folding.{IsTooNegative}
use Rattle.ciborium_ll.specs.Framing.{Frame, joined}
use Rattle.ciborium.specs.Damage.{Fault, end, deep, syntax, semantic, Damage, IsLevel}
use Rattle.ciborium_ll.specs.Framing.{Opened}
use Rattle.ciborium.specs.Front.{Reads, ReadsAll, HoldsOne}

abbrev pub lifted : {E : Type 0} → HeadError E → Error E
lifted (below.Io e) = code.Io e
lifted (below.Syntax p) = code.Syntax p
lifted below.TooLong = code.TooLong
lifted below.Waiting = code.Semantic None kind.WrongType

abbrev pub fault_failures : {E : Type 0} → (E → Bool) → Error E → ℕ → ℕ
fault_failures ends (code.Io e) n = if ends e then n else n + 1
fault_failures ends e n = n

-- how often the reader has failed after this result
abbrev pub failures : {T E : Type 0} → (E → Bool) → Result T (Error E) → ℕ → ℕ
failures ends (Ok x) n = n
failures ends (Err e) n = fault_failures ends e n

-- every call on a decoder: a failure is counted exactly when the result is one, the reader stays
-- the same, and no header waits then
pub record Steady {T E : Type 0} (ends : E → Bool) (answer : Result T (Error E)) (old new : Seen) : Type 0 where
  pub failed : new.failed ≡ failures ends answer old.failed
  pub handle : new.handle ≡ old.handle
  pub waiting : new.waiting ≡ None

-- the place is less than a piece of 4,096 bytes before what places can be
abbrev pub IsFar : ℕ → Type 0
IsFar place = 2 ^ 64 ≤ place + 4096

-- some of the bytes that were to come were taken, or none, and the place has grown by their count;
-- the rest of them is left, but after a fault of the reader it isn't said what is left. `TooLong`
-- comes only if the place is far, whether the reader tells its bytes or not.
abbrev pub SomeTaken : {E : Type 0} → Option (List ℕ) → Option (List ℕ) → ℕ → ℕ → Error E → Type 0
SomeTaken left left' place place' (code.Io e) = Stops left place place' (λ _. Unit {0})
SomeTaken left left' place place' code.TooLong = Moves left left' place place' (λ _. IsFar place')
SomeTaken left left' place place' e = Moves left left' place place' (λ _. Unit {0})

-- what a fault leaves of a decoder
abbrev pub TakesSome : {E : Type 0} → Seen → Seen → Error E → Type 0
TakesSome old new = SomeTaken old.left new.left old.offset new.offset

-- any fault but being out of memory
abbrev pub IsNoMemory : {E : Type 0} → Error E → Type 0
IsNoMemory code.Memory = ⊥
IsNoMemory e = Unit {0}

-- any fault but that offsets grow too long
abbrev pub IsNotLong : {E : Type 0} → Error E → Type 0
IsNotLong code.TooLong = ⊥
IsNotLong e = Unit {0}

-- what a fault tells: the fault of the bytes by D, at an end Q too, and that offsets grow too long
abbrev pub Fails : {E : Type 0} → (E → Bool) → Type 0 → (Fault → Type 0) → Type 0 → Error E → Type 0
Fails ends Q D long (code.Io e) = IsTrue (ends e) → D end × Q
Fails ends Q D long (code.Syntax p) = D (syntax p)
Fails ends Q D long (code.Semantic o k) = (o ≡ None) × D (semantic k)
Fails ends Q D long code.RecursionLimitExceeded = D deep
Fails ends Q D long code.Memory = Unit {0}
Fails ends Q D long code.TooLong = long

-- P holds if the error is an end of the bytes
abbrev pub IfEnd : {E : Type 0} → (E → Bool) → Type 0 → Error E → Type 0
IfEnd ends P (code.Io e) = IsTrue (ends e) → P
IfEnd ends P e = Unit {0}

-- P holds if there was no memory
abbrev pub IfMemory : {E : Type 0} → Type 0 → Error E → Type 0
IfMemory P code.Memory = P
IfMemory P e = Unit {0}

-- what a call that reads an item, or a part of one, leaves: some bytes were taken if there is a
-- fault, and of `Memory` those have P; the reader stays the same
pub record Leaves {T E : Type 0} (ends : E → Bool) (P : List ℕ → Type 0) (answer : Result T (Error E)) (old new : Seen) : Type 0 where
  pub stops : IfErr answer (TakesSome old new)
  pub one : IfErr answer (IfMemory (Takes old new P))
  pub steady : Steady ends answer old new

-- at an end the place is the one at the call exactly when no byte was left
abbrev pub EndPlace : List ℕ → ℕ → ℕ → Type 0
EndPlace [] at at' = at' ≡ at
EndPlace (x ∷ xs) at at' = at < at'

-- offsets pass what they can be
abbrev pub IsLong : ℕ → List ℕ → Type 0
IsLong at b = 2 ^ 64 ≤ at + length b + 4096

-- P holds of the bytes, if they are known
abbrev pub IfKnown : Option (List ℕ) → (List ℕ → Type 0) → Type 0
IfKnown None P = Unit {0}
IfKnown (Some b) P = P b

-- the fault of an item that is due at the place `at`
abbrev pub FailsAt : {E : Type 0} → (E → Bool) → List ℕ → ℕ → ℕ → (ℕ → List ℕ → Fault → Type 0) → Error E → Type 0
FailsAt ends b at at' D e = Fails ends (EndPlace b at at') (D (at + length b) b) (IsLong at b) e

-- an error names the fault that is due, if the bytes to come are known
abbrev pub NamesFault : {E : Type 0} → (E → Bool) → (ℕ → List ℕ → Fault → Type 0) → Seen → Seen → Error E → Type 0
NamesFault ends D old new e = IfKnown old.left (λ b. FailsAt ends b old.offset new.offset D e)

-- the kinds of strings
abbrev pub string_head : Bool → Option ℕ → Header
string_head false o = Bytes o
string_head true o = Text o

abbrev pub IsBody : Bool → List ℕ → Type 0
IsBody false b = Unit {0}
IsBody true b = IsUtf8 b

-- fewer than n bytes are left
abbrev pub ShortBy : ℕ → List ℕ → Fault → Type 0
ShortBy n b f = (f ≡ end) × (length b < n)

-- the bytes after the head of a string
pub record StringAfterHead (text : Bool) (o : Option ℕ) (items inner : List ℕ) : Type 0 where
  pub bodies : List (List ℕ)
  pub frame : (title : List ℕ) → Title title (string_head text o) → Frame (string_head text) (IsBody text) (title ++ inner) bodies
  pub is : items ≡ joined bodies

-- the bytes after the head of an open string, in which n opens are due a break
pub record OpenAfterHead (text : Bool) (n : ℕ) (items inner : List ℕ) : Type 0 where
  pub bodies : List (List ℕ)
  pub begun : (title : List ℕ) → Title title (string_head text None) → Opened (string_head text) (IsBody text) n (title ++ inner) bodies
  pub is : items ≡ joined bodies

pub record ChunkBody (text : Bool) (n : ℕ) (old new body : List ℕ) : Type 0 where
  pub has : IsBody text body
  pub len : length body ≡ n
  pub is : new ≡ old ++ body

-- the faults after a title of h that begins at the place `at`
abbrev pub FailsAfterTitle : {E : Type 0} → (E → Bool) → Header → ℕ → ℕ → Option (List ℕ) → ℕ → (ℕ → List ℕ → Fault → Type 0) → Error E → Type 0
FailsAfterTitle ends h at place left place' D e =
    (title : List ℕ) → Title title h → at + length title ≡ place → IfKnown left (λ rest. FailsAt ends (title ++ rest) at place' D e)

-- an error names the fault of an item whose title, one of h, begins at the place `at`
abbrev pub NamesFaultAfterTitle : {E : Type 0} → (E → Bool) → Header → ℕ → (ℕ → List ℕ → Fault → Type 0) → Seen → Seen → Error E → Type 0
NamesFaultAfterTitle ends h at D old new e = FailsAfterTitle ends h at old.offset old.left new.offset D e

-- an error if n bytes are due
abbrev pub NamesShort : {E : Type 0} → (E → Bool) → ℕ → Seen → Seen → Error E → Type 0
NamesShort ends n old new e =
    IfKnown old.left (λ b. Fails ends (old.offset ≤ new.offset) (ShortBy n b) (IsLong old.offset b) e)

-- a header that no items follow
abbrev pub IsLeaf : Header → Type 0
IsLeaf (Tag n) = ⊥
IsLeaf (Array o) = ⊥
IsLeaf (Map o) = ⊥
IsLeaf h = Unit {0}

-- the bytes after a title of h
abbrev pub ReadsAfterTitle : Header → ℕ → Tree → List ℕ → Type 0
ReadsAfterTitle h limit v inner = (title : List ℕ) → Title title h → Reads (title ++ inner) limit v

-- with a title of h before them, no item ends before the end of these bytes
abbrev pub OneAfterTitle : Header → List ℕ → Type 0
OneAfterTitle h b = (title : List ℕ) → Title title h → HoldsOne (title ++ b)

-- the children of an array or a map whose head has the length o, and their break
abbrev pub ChildrenAfterHead : Option ℕ → ℕ → ℕ → Trees → List ℕ → Type 0
ChildrenAfterHead (Some n) count limit vs inner = (n ≡ count) × ReadsAll inner limit vs
ChildrenAfterHead None count limit vs inner = (body : List ℕ) × ReadsAll body limit vs × (inner ≡ body ++ 255 ∷ [])

-- as many children were read as a length says
abbrev pub is_full : Option ℕ → ℕ → Bool
is_full (Some n) done = nat_eq n done
is_full None done = false

-- all children were read, and their break is taken if they are open
abbrev pub Closes : Option ℕ → ℕ → List ℕ → Type 0
Closes (Some n) done b = (n ≡ done) × (b ≡ [])
Closes None done b = b ≡ 255 ∷ []

-- one more child is due: its title is one of h
pub record IsNext (o : Option ℕ) (done : ℕ) (h : Header) : Type 0 where
  pub due : is_full o done ≡ false
  pub stays : o ≡ None → h ≢ Break

-- a tag that opens a level over an item with this header
abbrev pub OpensOver : ℕ → Header → Type 0
OpensOver n h = ((n ≢ 2) × (n ≢ 3)) ⊎ ((o : Option ℕ) → h ≢ Bytes o)

-- out of memory, or the number is too negative
abbrev pub IsFoldFault : {E : Type 0} → ℕ → Tree → Error E → Type 0
IsFoldFault n t (code.Semantic o k) = (o ≡ None) × (k ≡ kind.BigNegative) × IsTooNegative n t
IsFoldFault n t code.Memory = Unit {0}
IsFoldFault n t e = ⊥

abbrev pub TagDamage : ℕ → ℕ → ℕ → List ℕ → Fault → Type 0
TagDamage n limit stop b f =
    ((IsLevel n b → ⊥) × Damage stop b limit f)
    ⊎ ((IsLevel n b × (limit ≡ 0) × (f ≡ deep))
    ⊎ (IsLevel n b × (0 < limit) × Damage stop b (limit - 1) f))
