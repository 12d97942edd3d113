-- Whole inputs that are an encoding.
use Rattle.std.proofs.Common.{◌≡◌, ℕ, List, ◌++◌, Option, Some, None, sym, ap, ◌∙◌}
use Rattle.ciborium.specs.HeadReading.{Moves}
use Rattle.ciborium.specs.Front.{Reads}
use Rattle.ciborium.specs.Meaning.{meaning}
use Rattle.ciborium.specs.Spelling.{Spells}
use Rattle.ciborium.specs.Tree.{Tree}

-- what was taken of a whole input is at its front
pub front : (old new : Option (List ℕ)) (p q : ℕ) (P : List ℕ → Type 0) (input : List ℕ) (m : Moves old new p q P) → old ≡ Some input
    → (rest : List ℕ) × (input ≡ m.bytes ++ rest)
front None new p q P input m e = let h : None ≡ Some input = e in cc
front (Some xs) None p q P input m e = absurd m.taken
front (Some xs) (Some ys) p q P input m e = let h : Some xs ≡ Some input = e in let g : xs ≡ input = cc in (ys, sym g ∙ m.taken)

-- two readings that go on to one list are the same, as no spelling begins another
pub read_once : (one : (t s : Tree) (a b u v : List ℕ) → Spells a t → Spells b s → a ++ u ≡ b ++ v → (t ≡ s) × (a ≡ b))
    (limit : ℕ) (a b u v : List ℕ) (x y : Tree) → a ++ u ≡ b ++ v → Reads a limit x → Reads b limit y → (a ≡ b) × (x ≡ y)
read_once one limit a b u v x y e p q =
    let s = one p.tree q.tree a b u v p.spells q.spells e in
    let m : meaning p.tree ≡ Some x = p.means in
    let n : meaning q.tree ≡ Some y = q.means in
    let h : Some x ≡ Some y = sym m ∙ ap meaning s.0 ∙ n in
    (s.1, cc)
