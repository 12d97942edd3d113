-- Bytes that are one item: it has one header or signature at most, and none beside a fault.
use Rattle.std.proofs.Common.{◌≡◌, ℕ, List, subst}
use Rattle.ciborium_value.specs.Tree.{Tree}
use Rattle.coset_labels.specs.Faults.{CoseFault}
use Rattle.coset_labels.specs.Reading.{HasItem, WrongItem, unreadable, inside}
use Rattle.coset_headers.proofs.Excludes.{unreadable_not}
use Rattle.coset_headers.proofs.Unique.{readable_once}

pub item_once : {F : Type 0} (Shape : Tree → F → Type 0) (b : List ℕ) (f g : F) → ((t : Tree) → Shape t f → Shape t g → f ≡ g) → HasItem Shape b f → HasItem Shape b g → f ≡ g
item_once Shape b f g k x y = k x.tree x.shape (subst (λ t. Shape t g) (readable_once 256 b y.tree x.tree y.reads x.reads) y.shape)

pub item_not : {F : Type 0} (Shape : Tree → F → Type 0) (Wrong : Tree → CoseFault → Type 0) (b : List ℕ) (e : CoseFault) (f : F) → ((t : Tree) → Wrong t e → Shape t f → ⊥) → WrongItem Wrong b e → HasItem Shape b f → ⊥
item_not Shape Wrong b e f k (unreadable w) x = unreadable_not 256 b e x.tree w x.reads
item_not Shape Wrong b e f k (inside v r w) x = k x.tree (subst (λ t. Wrong t e) (readable_once 256 b v x.tree r x.reads) w) x.shape
