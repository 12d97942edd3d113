-- What is to come while the heads of an item are taken.
use Rattle.std.specs.Prelude.{◌≡◌, ◌≢◌, ◌<◌, ◌≤◌, ◌^◌, ◌⊎◌, ◌+◌, ℕ, List, [], ◌∷◌, ◌++◌, length, reverse, Option, Some, None, nat_eq}
use Rattle.std.specs.List.{count_by}
use Rattle.cbor_walk.specs.declared.walk.Fault.{Fault}
use Rattle.cbor_walk.specs.declared.walk.Fault.TheVariants as fault
use Rattle.cbor_walk.specs.declared.walk.Holds.{Holds}
use Rattle.cbor_walk.specs.declared.walk.Level.{Level}
use Rattle.cbor_walk.specs.declared.walk.Walk.{Walk}
use Rattle.cbor_walk.specs.Grammar.{Item, Items, Groups}

-- `b` is bytes that are P, and then bytes that are Q
abbrev pub Then : (List ℕ → Type 0) → (List ℕ → Type 0) → List ℕ → Type 0
Then P Q b = (x : List ℕ) × (y : List ℕ) × P x × Q y × (b ≡ x ++ y)

abbrev pub Long : ℕ → List ℕ → Type 0
Long n b = length b ≡ n

abbrev pub IsBreak : List ℕ → Type 0
IsBreak b = b ≡ 255 ∷ []

-- `b` is the rest of an item in whose innermost open item no item is due: that one holds `k`, none if
-- no item is open, and these levels are around it
abbrev pub Behind : Option Holds → List Level → List ℕ → Type 0
Behind None ls = λ b. b ≡ []
Behind (Some k) [] = λ _. ⊥
Behind (Some k) (l ∷ ls) = Then (Groups k) (Then IsBreak (Then (Items l.due) (Behind l.holds ls)))

-- the same if so many items are due in it
abbrev pub Wants : Option Holds → ℕ → List Level → List ℕ → Type 0
Wants k due ls = Then (Items due) (Behind k ls)

abbrev pub wanted_by : Walk → List ℕ → Type 0
wanted_by w = Wants w.holds w.due (reverse w.levels.items)

-- the item isn't whole
abbrev pub IsDue : Walk → Type 0
IsDue w = w.due ≡ 0 → w.holds ≢ None

-- each open item has what is around it, and nothing else has
abbrev pub IsAround : Option Holds → List Level → Type 0
IsAround None ls = ls ≡ []
IsAround (Some k) [] = ⊥
IsAround (Some k) (l ∷ ls) = IsAround l.holds ls

abbrev pub IsSound : Walk → Type 0
IsSound w = IsAround w.holds (reverse w.levels.items)

-- how many breaks and items are due in what is around an open item
abbrev pub due_around : List Level → ℕ
due_around [] = 0
due_around (l ∷ ls) = 1 + (l.due + due_around ls)

-- so many items are open, or so many bytes are due at least
abbrev pub Counts : ℕ → Walk → Type 0
Counts most w = (most < length w.levels.items)
    ⊎ (2 ^ 64 ≤ w.due + due_around (reverse w.levels.items))

-- the bytes `i` are `x` and then bytes that are Q
pub record Follows (Q : List ℕ → Type 0) (x i : List ℕ) : Type 0 where
  pub rest : List ℕ
  pub has : Q rest
  pub whole : i ≡ x ++ rest

-- after `x` Q is due where P was: `x` and bytes that are Q are P, and all that are P and go on as
-- `x` are so
pub record Goes (P Q : List ℕ → Type 0) (x : List ℕ) : Type 0 where
  pub back : (rest : List ℕ) → Q rest → P (x ++ rest)
  pub on : (i behind left : List ℕ) → P i → i ++ behind ≡ x ++ left → Follows Q x i

-- no bytes that are P go on as `x`
abbrev pub Refuses : (List ℕ → Type 0) → List ℕ → Type 0
Refuses P x = (i behind left : List ℕ) → P i → i ++ behind ≡ x ++ left → ⊥

-- they are P and Q alike, if they begin with `x`
pub record Agrees (P Q : List ℕ → Type 0) (x : List ℕ) : Type 0 where
  pub back : (rest : List ℕ) → Q (x ++ rest) → P (x ++ rest)
  pub on : (i behind left : List ℕ) → P i → i ++ behind ≡ x ++ left → Q i

-- a fault says P if it is one of the bytes
abbrev pub IfSyntax : Type 0 → Fault → Type 0
IfSyntax P fault.Syntax = P
IfSyntax P fault.Deep = Unit {0}
IfSyntax P fault.Memory = Unit {0}

-- the same if it is that too many items are open or due
abbrev pub IfDeep : Type 0 → Fault → Type 0
IfDeep P fault.Syntax = Unit {0}
IfDeep P fault.Deep = P
IfDeep P fault.Memory = Unit {0}

-- how many of these bytes may be breaks: each item of indefinite length ends with one (RFC 8949,
-- section 3.2.1)
abbrev pub breaks : List ℕ → ℕ
breaks b = count_by (nat_eq 255) b

-- bytes that begin with `x` are P, and all that do so go on with more than `most` breaks, of which
-- each item of indefinite length that is open after `x` needs one, or with 2^64 bytes or more
pub record IsDeep (P : List ℕ → Type 0) (most : ℕ) (x : List ℕ) : Type 0 where
  pub begins : (rest : List ℕ) × P (x ++ rest)
  pub deep : (rest : List ℕ) → P (x ++ rest) → (most < breaks rest) ⊎ (2 ^ 64 ≤ length rest)

abbrev pub IsNothing : List ℕ → Type 0
IsNothing b = b ≡ []

-- `x` is one item, and no other begins bytes that begin with it
pub record IsOne (x : List ℕ) : Type 0 where
  pub is : Item x
  pub once : (i behind left : List ℕ) → Item i → i ++ behind ≡ x ++ left → i ≡ x

-- `b` begins with an item
abbrev pub BeginsItem : List ℕ → Type 0
BeginsItem b = (x : List ℕ) × (rest : List ℕ) × Item x × (b ≡ x ++ rest)
