-- A value has the fields of at most one message, and of none if it has a fault.
use Rattle.std.proofs.Common.{◌≡◌, ◌≢◌, ℕ, inl, inr, List, [], ◌∷◌, true, false, Option, None, Some, refl, sym, ap, subst, ◌∙◌, arith}
use Rattle.ciborium_value.specs.Tree.{Tree, bytes, array, simple, Trees, tree_count, is_bytes}
use Rattle.ciborium_value.specs.View.{trees}
use Rattle.coset_labels.specs.Faults.{CoseFault, unexpected}
use Rattle.ciborium_value.specs.Kinds.{is_array}
use Rattle.coset_headers.specs.Fields.{HeaderFields, ProtectedFields}
use Rattle.coset_headers.proofs.Excludes.{header_not, prot_not}
use Rattle.coset_headers.proofs.Unique.{hdr_once, prot_once}
use Rattle.coset_recipients.specs.PartsFields.{parts}
use Rattle.coset_recipients.specs.PartShapes.{HasParts, HoldOf, HasWhole}
use Rattle.coset_recipients.specs.PartsWritten.{optional_tree}
use Rattle.coset_recipients.specs.WrongParts.{WrongParts, in_protected, in_unprotected, in_content, IsNoBytes, how_many, AnyWrong, WrongWhole, no_array, not_as_many, in_parts, in_lasts}
use Rattle.coset_recipients.proofs.PartsCanonical.{array_same}

-- ---- the parts
optional_once : (c d : Option (List ℕ)) → optional_tree c ≡ optional_tree d → c ≡ d
optional_once None None e = refl
optional_once None (Some b) e = let h : simple 22 ≡ bytes b = e in cc
optional_once (Some a) None e = let h : bytes a ≡ simple 22 = e in cc
optional_once (Some a) (Some b) e =
    let h : bytes a ≡ bytes b = e in
    let s : a ≡ b = cc in
    ap Some s

pub parts_once : (n : ℕ) (x y z : Tree) (p q : ProtectedFields) (u v : HeaderFields) (c d : Option (List ℕ)) (k : ℕ) → HasParts n x y z (parts p u c) k → HasParts n x y z (parts q v d) k → (p ≡ q) × (u ≡ v) × (c ≡ d)
parts_once n x y z p q u v c d k a b = (prot_once n p q x k a.protected b.protected, hdr_once n u v y k a.unprotected b.unprotected, optional_once c d (sym a.content ∙ b.content))

pub parts_moved : (n : ℕ) (x y z a b d : Tree) (p : ProtectedFields) (u : HeaderFields) (c : Option (List ℕ)) (k : ℕ) → x ≡ a → y ≡ b → z ≡ d → HasParts n a b d (parts p u c) k → HasParts n x y z (parts p u c) k
parts_moved n x y z a b d p u c k e f g h =
    subst (λ s. HasParts n s y z (parts p u c) k) (sym e) (subst (λ s. HasParts n a s z (parts p u c) k) (sym f) (subst (λ s. HasParts n a b s (parts p u c) k) (sym g) h))

content_not : (z : Tree) (c : Option (List ℕ)) → is_bytes z ≡ false → z ≢ simple 22 → z ≡ optional_tree c → ⊥
content_not z None f g e = g e
content_not z (Some b) f g e = let d : true ≡ false = sym (ap is_bytes e) ∙ f in cc

pub parts_not : (n : ℕ) (x y z : Tree) (k : ℕ) (e : CoseFault) → WrongParts n x y z k e → (p : ProtectedFields) (u : HeaderFields) (c : Option (List ℕ)) → HasParts n x y z (parts p u c) k → ⊥
parts_not n x y z k e (in_protected _ w) p u c h = prot_not n x k e w p h.protected
parts_not n x y z k e (in_unprotected _ w) p u c h = header_not n y k e w u h.unprotected
parts_not n x y z k e (in_content f g) p u c h = content_not z c f g h.content

-- ---- the items of two arrays that are one
pub record Same (x y z a b c : Tree) (ls ms : List Tree) : Type 0 where
  pub first : x ≡ a
  pub second : y ≡ b
  pub third : z ≡ c
  pub lasts : ls ≡ ms

pub same_items : (x y z a b c : Tree) (ls ms : List Tree) → array (trees (x ∷ y ∷ z ∷ ls)) ≡ array (trees (a ∷ b ∷ c ∷ ms)) → Same x y z a b c ls ms
same_items x y z a b c ls ms e =
    let h : x ∷ y ∷ z ∷ ls ≡ a ∷ b ∷ c ∷ ms = array_same (x ∷ y ∷ z ∷ ls) (a ∷ b ∷ c ∷ ms) e in
    record { first = cc; second = cc; third = cc; lasts = cc }

-- ---- the last items
-- of each item both hold
abbrev pub Shared : List (Tree → Type 0) → List (Tree → Type 0) → Type 0
Shared (P ∷ Ps) (Q ∷ Qs) = ((x : Tree) × P x × Q x) × Shared Ps Qs
Shared _ _ = Unit {0}

shared : (Ps Qs : List (Tree → Type 0)) (ts : List Tree) → HoldOf Ps ts → HoldOf Qs ts → Shared Ps Qs
shared [] Qs ts a b = tt
shared (P ∷ Ps) [] ts a b = tt
shared (P ∷ Ps) (Q ∷ Qs) [] a b = absurd a
shared (P ∷ Ps) (Q ∷ Qs) (t ∷ ts) a b = ((t, a.0, b.0), shared Ps Qs ts a.1 b.1)

-- an item with the fault isn't what it should have been
abbrev pub AllNot : List (Tree → CoseFault → Type 0) → List (Tree → Type 0) → CoseFault → Type 0
AllNot [] [] e = Unit {0}
AllNot [] (P ∷ Ps) e = ⊥
AllNot (W ∷ Ws) [] e = ⊥
AllNot (W ∷ Ws) (P ∷ Ps) e = ((x : Tree) → W x e → P x → ⊥) × AllNot Ws Ps e

as_many : (Ws : List (Tree → CoseFault → Type 0)) (Ps : List (Tree → Type 0)) (e : CoseFault) (ts : List Tree) → AllNot Ws Ps e → HoldOf Ps ts → tree_count (trees ts) ≡ how_many Ws
as_many [] [] e [] f h = refl
as_many [] (P ∷ Ps) e ts f h = absurd f
as_many (W ∷ Ws) [] e ts f h = absurd f
as_many (W ∷ Ws) (P ∷ Ps) e (t ∷ ts) f h = let m = as_many Ws Ps e ts f.1 h.1 in omega (arith, m)
as_many Ws Ps e ts f h = absurd h

any_not : (Ws : List (Tree → CoseFault → Type 0)) (Ps : List (Tree → Type 0)) (e : CoseFault) (ts : List Tree) → AllNot Ws Ps e → AnyWrong Ws ts e → HoldOf Ps ts → ⊥
any_not [] Ps e ts f w h = w
any_not (W ∷ Ws) [] e ts f w h = f
any_not (W ∷ Ws) (P ∷ Ps) e [] f w h = h
any_not (W ∷ Ws) (P ∷ Ps) e (t ∷ ts) f (inl w) h = f.0 t w h.0
any_not (W ∷ Ws) (P ∷ Ps) e (t ∷ ts) f (inr w) h = any_not Ws Ps e ts f.1 w h.1

pub bytes_not : (b : List ℕ) (e : CoseFault) (x : Tree) → IsNoBytes x e → x ≡ bytes b → ⊥
bytes_not b e x w q = let d : true ≡ false = sym (ap is_bytes q) ∙ w.0 in cc

pub bytes_once : (a b : List ℕ) (x : Tree) → x ≡ bytes a → x ≡ bytes b → a ≡ b
bytes_once a b x p q = let h : bytes a ≡ bytes b = sym p ∙ q in cc

-- ---- messages
pub record SameWhole (p q : ProtectedFields) (u v : HeaderFields) (c d : Option (List ℕ)) (Ps Qs : List (Tree → Type 0)) : Type 0 where
  pub protected : p ≡ q
  pub unprotected : u ≡ v
  pub content : c ≡ d
  pub lasts : Shared Ps Qs

pub whole_once : (n : ℕ) (t : Tree) (p q : ProtectedFields) (u v : HeaderFields) (c d : Option (List ℕ)) (Ps Qs : List (Tree → Type 0)) (k : ℕ) → HasWhole n t (parts p u c) Ps k → HasWhole n t (parts q v d) Qs k
    → SameWhole p q u v c d Ps Qs
whole_once n t p q u v c d Ps Qs k a b =
    let s = same_items a.first a.second a.third b.first b.second b.third a.lasts b.lasts (sym a.is ∙ b.is) in
    let parts = parts_once n a.first a.second a.third p q u v c d k a.parts (parts_moved n a.first a.second a.third b.first b.second b.third q v d k s.first s.second s.third b.parts) in
    record { protected = parts.0; unprotected = parts.1; content = parts.2; lasts = shared Ps Qs a.lasts a.hold (subst (HoldOf Qs) (sym s.lasts) b.hold) }

pub in_array : (ts us : Trees) → array ts ≡ array us → ts ≡ us
in_array ts us e = cc

pub whole_not : (n : ℕ) (t : Tree) (p : ProtectedFields) (u : HeaderFields) (c : Option (List ℕ)) (Ws : List (Tree → CoseFault → Type 0)) (Ps : List (Tree → Type 0)) (k : ℕ) (e : CoseFault)
    → WrongWhole n t Ws k e → HasWhole n t (parts p u c) Ps k → AllNot Ws Ps e → ⊥
whole_not n t p u c Ws Ps k e (no_array x) h f = let d : true ≡ false = sym (ap is_array h.is) ∙ x in cc
whole_not n t p u c Ws Ps k e (not_as_many ts q x) h f =
    let m = as_many Ws Ps unexpected h.lasts f h.hold in
    let g = ap tree_count (in_array ts (trees (h.first ∷ h.second ∷ h.third ∷ h.lasts)) (sym q ∙ h.is)) in
    x (omega (arith, g, m))
whole_not n t p u c Ws Ps k e (in_parts x y z ls _ q l w) h f =
    let s = same_items x y z h.first h.second h.third ls h.lasts (sym q ∙ h.is) in
    parts_not n x y z k e w p u c (parts_moved n x y z h.first h.second h.third p u c k s.first s.second s.third h.parts)
whole_not n t p u c Ws Ps k e (in_lasts x y z ls _ q l w) h f =
    let s = same_items x y z h.first h.second h.third ls h.lasts (sym q ∙ h.is) in
    any_not Ws Ps e ls f w (subst (HoldOf Ps) (sym s.lasts) h.hold)
