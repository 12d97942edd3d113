-- What the parts of the reader show.
use Rattle.std.specs.Prelude.{◌≡◌, ◌≢◌, ℕ, ◌⊎◌, List, [], Some, Result, MatchResult}
use Rattle.ciborium_value.specs.Tree.{Tree}
use Rattle.ciborium_value.specs.View.{pairs}
use Rattle.ciborium.specs.Front.{Reads}
use Rattle.coset_labels.specs.Faults.{CoseFault, OrMemory}
use Rattle.coset_labels.specs.Fields.{LabelFields}
use Rattle.coset_labels.specs.Labels.{label_of}
use Rattle.coset_labels.specs.Reading.{NotReadable}
use Rattle.coset_labels.specs.Walks.{WrongEntries}
use Rattle.coset_labels.specs.declared.error.CoseError.{CoseError}
use Rattle.coset_labels.specs.declared.label.Label.{Label}
use Rattle.coset_labels.specs.declared.seen_labels.SeenLabels.{SeenLabels}
use Rattle.coset_headers.specs.Fields.{HeaderFields, no_header}
use Rattle.coset_headers.specs.Headers.{entries, HasHeader}
use Rattle.coset_headers.specs.Parts.{KnownIn}
use Rattle.coset_headers.specs.View.{header_view}
use Rattle.coset_headers.specs.Wrong.{WrongHeader, WrongEntry}
use Rattle.coset_headers.specs.declared.header.Header.{Header}

-- the header inside a byte string, and its fault
abbrev pub Inside : ℕ → HeaderFields → List ℕ → ℕ → Type 0
Inside n h b k = ((b ≡ []) × (h ≡ no_header))
    ⊎ ((b ≢ []) × ((v : Tree) × Reads b n v × HasHeader n v h k))

pub data WrongInside (n : ℕ) (b : List ℕ) (k : ℕ) (e : CoseFault) : Type 0 where
  is_unreadable : b ≢ [] → NotReadable b n e → WrongInside n b k e
  is_wrong : (t : Tree) → b ≢ [] → Reads b n t → WrongHeader n t k e → WrongInside n b k e

-- what reading a value as a header gives: its fields are those of h, or it has a fault
abbrev pub IsHeader : ℕ → ℕ → Tree → Header → Result (Unit {0}) CoseError → Type 0
IsHeader n k t h r = MatchResult r (λ _. HasHeader n t (header_view h) k) (λ e. OrMemory (WrongHeader n t k) e)

-- what reading the entries ps one by one gives: their labels were seen, and they have the fields of
-- h; or one of them has a fault
abbrev pub AreRead : ℕ → ℕ → List (Tree × Tree) → SeenLabels Label → Header → Result (Unit {0}) CoseError → Type 0
AreRead n k ps s h r = MatchResult r (λ _. (es : List (LabelFields × Tree)) × (entries (pairs ps) ≡ Some es) × KnownIn n es s h k)
    (λ e. OrMemory (WrongEntries label_of (λ es l v f. WrongEntry n es l v k f) (pairs ps)) e)
