-- What one step of reading a message shows, over plain variables.
use Rattle.std.proofs.Common.{◌≡◌, ◌≢◌, ℕ, ◌+◌, inr, List, ◌∷◌, length, false, Option, sym, ap, subst, ◌∙◌}
use Rattle.ciborium_value.specs.Tree.{Tree, array, Trees, is_bytes}
use Rattle.ciborium_value.specs.View.{trees, views}
use Rattle.ciborium_value.specs.declared.value.Value.{Value}
use Rattle.coset_labels.specs.Facts.Walks.{passed_on, views_count}
use Rattle.coset_labels.specs.Faults.{CoseFault, OrMemory, fault_of, unexpected}
use Rattle.ciborium_value.specs.Kinds.{is_array}
use Rattle.coset_labels.specs.declared.error.CoseError.{CoseError}
use Rattle.coset_headers.specs.Fields.{HeaderFields, ProtectedFields}
use Rattle.coset_recipients.specs.PartsFields.{parts}
use Rattle.coset_recipients.specs.PartShapes.{HasParts, HoldOf, HasWhole}
use Rattle.coset_recipients.specs.WrongParts.{WrongParts, IsNoBytes, how_many, AnyWrong, WrongWhole, no_array, not_as_many, in_parts, in_lasts}

-- ---- reading
pub no_bytes : (t : Tree) (e : CoseError) → (fault_of e ≡ unexpected) × (is_bytes t ≡ false) → OrMemory (IsNoBytes t) e
no_bytes t e p = inr (p.1, p.0)

pub whole_kind : (n : ℕ) (t : Tree) (Ws : List (Tree → CoseFault → Type 0)) (k : ℕ) (e : CoseError) → (fault_of e ≡ unexpected) × (is_array t ≡ false) → OrMemory (WrongWhole n t Ws k) e
whole_kind n t Ws k e p = inr (subst (WrongWhole n t Ws k) (sym p.0) (no_array p.1))

pub whole_count : (n : ℕ) (t : Tree) (Ws : List (Tree → CoseFault → Type 0)) (k : ℕ) (vs : List Value) → t ≡ array (views vs) → length vs ≢ 3 + how_many Ws → WrongWhole n t Ws k unexpected
whole_count n t Ws k vs q m = not_as_many (views vs) q (λ e. m (sym (views_count vs) ∙ e))

pub whole_parts : (n : ℕ) (t : Tree) (Ws : List (Tree → CoseFault → Type 0)) (k : ℕ) (x y z : Tree) (ls : List Tree) (ts : Trees) (e : CoseError) → t ≡ array ts → ts ≡ trees (x ∷ y ∷ z ∷ ls) → length ls ≡ how_many Ws
    → OrMemory (WrongParts n x y z k) e → OrMemory (WrongWhole n t Ws k) e
whole_parts n t Ws k x y z ls ts e q h l w = passed_on (WrongParts n x y z k) (WrongWhole n t Ws k) e (λ m. in_parts x y z ls (fault_of e) (q ∙ ap array h) l m) w

-- W is the condition of one of the last items
pub whole_lasts : (n : ℕ) (t : Tree) (Ws : List (Tree → CoseFault → Type 0)) (k : ℕ) (x y z : Tree) (ls : List Tree) (ts : Trees) (W : CoseFault → Type 0) (e : CoseError) → t ≡ array ts → ts ≡ trees (x ∷ y ∷ z ∷ ls)
    → length ls ≡ how_many Ws → ((f : CoseFault) → W f → AnyWrong Ws ls f) → OrMemory W e → OrMemory (WrongWhole n t Ws k) e
whole_lasts n t Ws k x y z ls ts W e q h l at w = passed_on W (WrongWhole n t Ws k) e (λ m. in_lasts x y z ls (fault_of e) (q ∙ ap array h) l (at (fault_of e) m)) w

pub whole_has : (n : ℕ) (t : Tree) (p : ProtectedFields) (u : HeaderFields) (c : Option (List ℕ)) (Ps : List (Tree → Type 0)) (k : ℕ) (x y z : Tree) (ls : List Tree) (ts : Trees) → t ≡ array ts → ts ≡ trees (x ∷ y ∷ z ∷ ls)
    → HasParts n x y z (parts p u c) k → HoldOf Ps ls → HasWhole n t (parts p u c) Ps k
whole_has n t p u c Ps k x y z ls ts q h parts hold = record { first = x; second = y; third = z; lasts = ls; is = q ∙ ap array h; parts = parts; hold = hold }
