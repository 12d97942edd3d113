-- No tag begins nothing.
use Rattle.std.proofs.Common.{ℕ, ◌≤◌, List, [], ◌∷◌, length, subst, arith}
use Rattle.ciborium_ll.specs.Title.{IsCut}
use Rattle.ciborium_ll.proofs.TitleLaws.{not_cut}
use Rattle.cose_rules.specs.Untagging.{Wraps, Unwraps, bare}

none_around : (inner : List ℕ) → Wraps [] inner → ⊥
none_around inner w = not_cut w.title inner w.head w.is_title (subst IsCut w.whole tt)

pub bare_end : (b : List ℕ) → length b ≤ 0 → Unwraps b b
bare_end [] e = bare [] none_around
bare_end (x ∷ xs) e = absurd (omega (arith, e))
