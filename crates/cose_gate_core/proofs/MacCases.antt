-- A value has the fields of an authenticated message of each kind, or a fault as one.
use Rattle.std.proofs.Common.{ℕ, ◌⊎◌, inl, inr, [], ◌∷◌, refl, arith}
use Rattle.ciborium_value.specs.Tree.{Tree, integer, bytes, text, array, map as map_tree, tag, simple, float, Trees, no_trees, one_more}
use Rattle.ciborium_value.specs.View.{trees}
use Rattle.coset_labels.specs.Faults.{CoseFault, unexpected}
use Rattle.coset_maced.specs.Fields.{Mac0Fields, MacFields}
use Rattle.coset_maced.specs.Shapes.{HasMac0, HasMac}
use Rattle.coset_maced.specs.Wrong.{WrongMac0, no_array0, in_parts0, in_tag0, WrongMac, not_five, in_tag, in_recipients}
use Rattle.coset_maced.specs.Wrong.{not_four as not_four0, no_array as no_array_of_five, in_parts as in_parts_of_five}
use Rattle.cose_gate_core.proofs.Lows.{Low, LowAll}
use Rattle.cose_gate_core.proofs.MessageCases.{PartsCase, parts_case, StringCase, string_case, ListCase, list_case}

-- ---- authenticated messages
module _ (n k : ℕ) where
  abbrev Mac0Case : Tree → Type 0
  Mac0Case t = ((m : Mac0Fields) × HasMac0 n t m k) ⊎ ((e : CoseFault) × WrongMac0 n t k e)

  mac0_of : (a b c d : Tree) → PartsCase n a b c k → StringCase d → Mac0Case (array (trees (a ∷ b ∷ c ∷ d ∷ [])))
  mac0_of a b c d (inr (e, x)) s = inr (e, in_parts0 a b c d k e x)
  mac0_of a b c d (inl h) (inr f) = inr (unexpected, in_tag0 a b c d k f)
  mac0_of a b c d (inl (p, u, m, h)) (inl (s, e)) = inl (
    record { protected = p; unprotected = u; payload = m; tag = s },
    record {
      first = a;
      second = b;
      third = c;
      lasts = d ∷ [];
      is = refl;
      parts = h;
      hold = (e, tt);
    },
  )

  mac0_trees : (ts : Trees) → LowAll ts → Mac0Case (array ts)
  mac0_trees no_trees low = inr (unexpected, not_four0 no_trees k (λ e. omega (arith, e)))
  mac0_trees (one_more a no_trees) low = inr (unexpected, not_four0 (one_more a no_trees) k (λ e. omega (arith, e)))
  mac0_trees (one_more a (one_more b no_trees)) low = inr (unexpected, not_four0 (one_more a (one_more b no_trees)) k (λ e. omega (arith, e)))
  mac0_trees (one_more a (one_more b (one_more c no_trees))) low = inr (unexpected, not_four0 (one_more a (one_more b (one_more c no_trees))) k (λ e. omega (arith, e)))
  mac0_trees (one_more a (one_more b (one_more c (one_more d no_trees)))) low = mac0_of a b c d (parts_case n k a b c low.0 low.1.0) (string_case d)
  mac0_trees (one_more a (one_more b (one_more c (one_more d (one_more f ts))))) low =
      inr (unexpected, not_four0 (one_more a (one_more b (one_more c (one_more d (one_more f ts))))) k (λ e. omega (arith, e)))

  pub mac0_case : (t : Tree) → Low t → Mac0Case t
  mac0_case (array ts) low = mac0_trees ts low
  mac0_case (bytes b) low = inr (unexpected, no_array0 (bytes b) k refl)
  mac0_case (integer i) low = inr (unexpected, no_array0 (integer i) k refl)
  mac0_case (text b) low = inr (unexpected, no_array0 (text b) k refl)
  mac0_case (map_tree ps) low = inr (unexpected, no_array0 (map_tree ps) k refl)
  mac0_case (tag m t) low = inr (unexpected, no_array0 (tag m t) k refl)
  mac0_case (simple m) low = inr (unexpected, no_array0 (simple m) k refl)
  mac0_case (float f) low = inr (unexpected, no_array0 (float f) k refl)

  abbrev MacCase : Tree → Type 0
  MacCase t = ((m : MacFields) × HasMac n t m k) ⊎ ((e : CoseFault) × WrongMac n t k e)

  mac_of : (a b c d f : Tree) → PartsCase n a b c k → StringCase d → ListCase n f k → MacCase (array (trees (a ∷ b ∷ c ∷ d ∷ f ∷ [])))
  mac_of a b c d f (inr (e, x)) s l = inr (e, in_parts_of_five a b c d f k e x)
  mac_of a b c d f (inl h) (inr g) l = inr (unexpected, in_tag a b c d f k g)
  mac_of a b c d f (inl h) (inl s) (inr (e, x)) = inr (e, in_recipients a b c d f k e x)
  mac_of a b c d f (inl (p, u, m, h)) (inl (s, e)) (inl (rs, x)) = inl (
    record { protected = p; unprotected = u; payload = m; tag = s; recipients = rs },
    record {
      first = a;
      second = b;
      third = c;
      lasts = d ∷ f ∷ [];
      is = refl;
      parts = h;
      hold = (e, (x, tt));
    },
  )

  mac_trees : (ts : Trees) → LowAll ts → MacCase (array ts)
  mac_trees no_trees low = inr (unexpected, not_five no_trees k (λ e. omega (arith, e)))
  mac_trees (one_more a no_trees) low = inr (unexpected, not_five (one_more a no_trees) k (λ e. omega (arith, e)))
  mac_trees (one_more a (one_more b no_trees)) low = inr (unexpected, not_five (one_more a (one_more b no_trees)) k (λ e. omega (arith, e)))
  mac_trees (one_more a (one_more b (one_more c no_trees))) low = inr (unexpected, not_five (one_more a (one_more b (one_more c no_trees))) k (λ e. omega (arith, e)))
  mac_trees (one_more a (one_more b (one_more c (one_more d no_trees)))) low = inr (unexpected, not_five (one_more a (one_more b (one_more c (one_more d no_trees)))) k (λ e. omega (arith, e)))
  mac_trees (one_more a (one_more b (one_more c (one_more d (one_more f no_trees))))) low =
      mac_of a b c d f (parts_case n k a b c low.0 low.1.0) (string_case d) (list_case n k f low.1.1.1.1.0)
  mac_trees (one_more a (one_more b (one_more c (one_more d (one_more f (one_more g ts)))))) low =
      inr (unexpected, not_five (one_more a (one_more b (one_more c (one_more d (one_more f (one_more g ts)))))) k (λ e. omega (arith, e)))

  pub mac_case : (t : Tree) → Low t → MacCase t
  mac_case (array ts) low = mac_trees ts low
  mac_case (bytes b) low = inr (unexpected, no_array_of_five (bytes b) k refl)
  mac_case (integer i) low = inr (unexpected, no_array_of_five (integer i) k refl)
  mac_case (text b) low = inr (unexpected, no_array_of_five (text b) k refl)
  mac_case (map_tree ps) low = inr (unexpected, no_array_of_five (map_tree ps) k refl)
  mac_case (tag m t) low = inr (unexpected, no_array_of_five (tag m t) k refl)
  mac_case (simple m) low = inr (unexpected, no_array_of_five (simple m) k refl)
  mac_case (float f) low = inr (unexpected, no_array_of_five (float f) k refl)
