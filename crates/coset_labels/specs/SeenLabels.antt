-- Which keys were seen.
use Rattle.std.specs.Prelude.{◌≡◌, List, Bool, true, false, ◌||◌, Option, Some, None}
use Rattle.std.specs.BTreeSet.{contains}
use Rattle.std.specs.Ordering.{is_eq}
use Rattle.std.specs.declared.cmp.Ordering.{Ordering}
use Rattle.ciborium_value.specs.Tree.{Tree}
use Rattle.coset_labels.specs.Entries.{IsIn}
use Rattle.coset_labels.specs.declared.seen_labels.SeenLabels.{SeenLabels}

module _ {K : Type 0} (cmp : K → K → Ordering) where
  abbrev pub holds : Option K → K → Bool
  holds None k = false
  holds (Some m) k = is_eq (cmp m k)

  abbrev pub has_seen : SeenLabels K → K → Bool
  has_seen s k = holds s.first k || (holds s.second k || contains cmp s.others k)

  -- the key is seen now, and any other is as before
  abbrev pub Grows : SeenLabels K → SeenLabels K → K → Type 0
  Grows old new k = (q : K) → has_seen new q ≡ (holds (Some k) q || has_seen old q)

  -- every key is as before
  abbrev pub Keeps : SeenLabels K → SeenLabels K → Type 0
  Keeps old new = (q : K) → has_seen new q ≡ has_seen old q

-- the keys of these entries, and no others, were seen
pub record Sees {K L : Type 0} (cmp : K → K → Ordering) (fields : K → L) (s : SeenLabels K) (es : List (L × Tree)) : Type 0 where
  pub seen : (k : K) → has_seen cmp s k ≡ true → IsIn (fields k) es
  pub unseen : (k : K) → has_seen cmp s k ≡ false → IsIn (fields k) es → ⊥
