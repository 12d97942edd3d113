-- Trees with one encoding are one, and no encoding begins another: the order ties them.
use Rattle.std.proofs.Common.{◌≡◌, ℕ, List, [], ◌++◌, ◌<◌, ◌^◌, length, ap, sym, ◌∙◌, arith}
use Rattle.std.proofs.lemmas.Cmp.{nat_list_cmp_total, tied_itself}
use Rattle.std.proofs.lemmas.Map.Lookups.{exact_bytes}
use Rattle.std.specs.declared.cmp.Ordering.TheVariants.{Equal}
use Rattle.std.specs.Ordering.{ordering_then, nat_cmp}
use Rattle.ciborium_value.specs.Tree.{Tree}
use Rattle.ciborium_value.specs.Encoding.{enc, Fits}
use Rattle.ciborium_value.specs.Canonical.{counted, bytewise, canonical, length_first}
use Rattle.ciborium_value.specs.Facts.Heads.{heads_cmp, Sized}
use Rattle.ciborium_value.specs.Facts.Orders.{bytes_cmp, then_tied}
use Rattle.ciborium_value.proofs.HeadsTie.{heads_tied}
use Rattle.ciborium_value.proofs.TextOrder.{text_is, fits_sized}

sized_prefix : (t s : Tree) (u v : List ℕ) → Sized t → Sized s → enc t ++ u ≡ enc s ++ v → (t ≡ s) × (u ≡ v)
sized_prefix t s u v f g e =
    let same : bytes_cmp (enc t ++ u) (enc s ++ v) ≡ Equal = ap (λ z. bytes_cmp z (enc s ++ v)) e ∙ tied_itself nat_list_cmp_total (enc s ++ v) in
    let h = then_tied (heads_cmp t s) (bytes_cmp u v) (sym (text_is t s f g u v) ∙ same) in
    (heads_tied t s h.0, exact_bytes u v h.1)

pub enc_prefix : (t s : Tree) (u v : List ℕ) → Fits t → Fits s → enc t ++ u ≡ enc s ++ v → (t ≡ s) × (u ≡ v)
enc_prefix t s u v f g = sized_prefix t s u v (fits_sized t f) (fits_sized s g)

pub sized_once : (t s : Tree) → Sized t → Sized s → enc t ≡ enc s → t ≡ s
sized_once t s f g e = (sized_prefix t s [] [] f g (ap (λ z. z ++ []) e)).0

pub enc_once : (t s : Tree) → Fits t → Fits s → enc t ≡ enc s → t ≡ s
enc_once t s f g = sized_once t s (fits_sized t f) (fits_sized s g)

-- short encodings are counted as they are
pub short_lengths : (t s : Tree) → length (enc t) < 2 ^ 64 → length (enc s) < 2 ^ 64 → canonical t s ≡ length_first t s
short_lengths t s l m =
    let p : counted (enc t) ≡ length (enc t) = omega arith in
    let q : counted (enc s) ≡ length (enc s) = omega arith in
    λ i. ordering_then (nat_cmp (p i) (q i)) (bytewise t s)
