-- An item that bytes begin with.
use Rattle.std.proofs.Common.{◌≡◌, ◌≤◌, ℕ, List, [], ◌++◌, length, take, Option, Some, None, IfSome, refl, sym, subst, append-nil, take-append-drop, arith}
use Rattle.std.proofs.lemmas.List.{length-take-le}
use Rattle.std.specs.Io.KnownBytes.{Consumes}
use Rattle.std.proofs.KnownBytes.{Consumes-trans}
use Rattle.ciborium_ll.specs.Device.{Drops}
use Rattle.cbor_walk.specs.Grammar.{Item}
use Rattle.cbor_walk.specs.Walking.{Then, Long, Goes, IsNothing, BeginsItem}
use Rattle.cbor_walk.proofs.Going.{goes_then, goes_to}
use Rattle.cbor_walk.proofs.Steps.{body_goes, only_rest, no_body, whole_item}

-- an item begins `b`, of which W is due, and `left` is behind that
pub record Begun (b : List ℕ) (left : Option (List ℕ)) (W : List ℕ → Type 0) : Type 0 where
  pub bytes : List ℕ
  pub goes : Goes Item W bytes
  pub taken : Consumes (Some b) left bytes

pub begun_here : (b : List ℕ) (left : Option (List ℕ)) (W : List ℕ → Type 0) → left ≡ Some b → Goes Item W [] → Begun b left W
begun_here b left W e g = record { bytes = []; goes = g; taken = subst (λ (z : Option (List ℕ)). Consumes (Some b) z []) (sym e) refl }

-- one step more
begun_then : (b y : List ℕ) (l m : Option (List ℕ)) (W V : List ℕ → Type 0) → Begun b l W → Goes W V y → Consumes l m y → Begun b m V
begun_then b y l m W V u g c = record { bytes = u.bytes ++ y; goes = goes_then Item W V u.bytes y u.goes g; taken = Consumes-trans (Some b) l m u.bytes y u.taken c }

-- the string of a head
begun_body : (b : List ℕ) (n : ℕ) (m r : Option (List ℕ)) (V : List ℕ → Type 0) → Begun b m (Then (Long n) V) → Drops m r n → IfSome m (λ xs. n ≤ length xs) → Begun b r V
begun_body b n None r V u d within = absurd u.taken
begun_body b n (Some xs) r V u d within =
    let y = take n xs in
    begun_then b y (Some xs) r (Then (Long n) V) V u
    (goes_to _ _ _ y (body_goes V n 0 y (omega (arith, length-take-le n xs within))) (only_rest V) (no_body V))
    (subst (λ (z : Option (List ℕ)). Consumes (Some xs) z y) (sym d) (sym (take-append-drop n xs)))

-- a head, and its string
pub begun_head : (b title : List ℕ) (n k : ℕ) (l m r : Option (List ℕ)) (W V : List ℕ → Type 0) → Begun b l W → n ≡ k → Goes W (Then (Long k) V) title → Consumes l m title
    → Drops m r n → IfSome m (λ xs. n ≤ length xs) → Begun b r V
begun_head b title n k l m r W V u e g c d within =
    begun_body b n m r V (begun_then b title l m W (Then (Long n) V) u (subst (λ (z : ℕ). Goes W (Then (Long z) V) title) (sym e) g) c) d within

pub begun_done : (b : List ℕ) (left : Option (List ℕ)) (W : List ℕ → Type 0) → Begun b left W → Goes W IsNothing [] → BeginsItem b
begun_done b None W u d = absurd u.taken
begun_done b (Some rest) W u d = (u.bytes, rest, (whole_item u.bytes (subst (Goes Item IsNothing) (append-nil u.bytes) (goes_then Item W IsNothing u.bytes [] u.goes d))).is, u.taken)
