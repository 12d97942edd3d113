-- Which fault a value has as an authenticated message (RFC 9052, sections 6.1 and 6.2). A value may
-- have several. The nesting limit `n` and the layers `k` are those of the fields.
use Rattle.std.specs.Prelude.{◌≡◌, ◌≢◌, ℕ, [], ◌∷◌, false}
use Rattle.std.proofs.Common.{inl, inr, refl}
use Rattle.ciborium_value.specs.Tree.{Tree, array, Trees, tree_count, is_bytes}
use Rattle.ciborium_value.specs.View.{trees}
use Rattle.coset_labels.specs.Faults.{CoseFault, unexpected}
use Rattle.ciborium_value.specs.Kinds.{is_array}
use Rattle.coset_recipients.specs.WrongParts.{WrongParts, IsNoBytes, WrongWhole}
use Rattle.coset_recipients.specs.WrongParts as whole
use Rattle.coset_recipients.specs.Wrong.{WrongList}

-- no array, one of another length, one of its parts, or no tag
abbrev pub WrongMac0 : ℕ → Tree → ℕ → CoseFault → Type 0
WrongMac0 n t k e = WrongWhole n t (IsNoBytes ∷ []) k e

-- the same, or its recipients
abbrev pub WrongMac : ℕ → Tree → ℕ → CoseFault → Type 0
WrongMac n t k e = WrongWhole n t (IsNoBytes ∷ (λ r f. WrongList n r k f) ∷ []) k e

-- ---- the faults, one by one
abbrev pub no_array0 : {n : ℕ} (t : Tree) (k : ℕ) → is_array t ≡ false → WrongMac0 n t k unexpected
no_array0 t k x = whole.no_array x

abbrev pub not_four : {n : ℕ} (ts : Trees) (k : ℕ) → tree_count ts ≢ 4 → WrongMac0 n (array ts) k unexpected
not_four ts k x = whole.not_as_many ts refl x

abbrev pub in_parts0 : {n : ℕ} (x y z d : Tree) (k : ℕ) (e : CoseFault) → WrongParts n x y z k e → WrongMac0 n (array (trees (x ∷ y ∷ z ∷ d ∷ []))) k e
in_parts0 x y z d k e w = whole.in_parts x y z (d ∷ []) e refl refl w

abbrev pub in_tag0 : {n : ℕ} (x y z d : Tree) (k : ℕ) → is_bytes d ≡ false → WrongMac0 n (array (trees (x ∷ y ∷ z ∷ d ∷ []))) k unexpected
in_tag0 x y z d k w = whole.in_lasts x y z (d ∷ []) unexpected refl refl (inl (w, refl))

abbrev pub no_array : {n : ℕ} (t : Tree) (k : ℕ) → is_array t ≡ false → WrongMac n t k unexpected
no_array t k x = whole.no_array x

abbrev pub not_five : {n : ℕ} (ts : Trees) (k : ℕ) → tree_count ts ≢ 5 → WrongMac n (array ts) k unexpected
not_five ts k x = whole.not_as_many ts refl x

abbrev pub in_parts : {n : ℕ} (x y z d r : Tree) (k : ℕ) (e : CoseFault) → WrongParts n x y z k e → WrongMac n (array (trees (x ∷ y ∷ z ∷ d ∷ r ∷ []))) k e
in_parts x y z d r k e w = whole.in_parts x y z (d ∷ r ∷ []) e refl refl w

abbrev pub in_tag : {n : ℕ} (x y z d r : Tree) (k : ℕ) → is_bytes d ≡ false → WrongMac n (array (trees (x ∷ y ∷ z ∷ d ∷ r ∷ []))) k unexpected
in_tag x y z d r k w = whole.in_lasts x y z (d ∷ r ∷ []) unexpected refl refl (inl (w, refl))

abbrev pub in_recipients : {n : ℕ} (x y z d r : Tree) (k : ℕ) (e : CoseFault) → WrongList n r k e → WrongMac n (array (trees (x ∷ y ∷ z ∷ d ∷ r ∷ []))) k e
in_recipients x y z d r k e w = whole.in_lasts x y z (d ∷ r ∷ []) e refl refl (inr (inl w))
