use Rattle.coset.specs.CborOrdering.TheVariants.{Lexicographic}
use Rattle.callers.proofs.Spelled.{alike}
use Rattle.callers.proofs.keeping.is_same_key.Goals as goal

pub returns : goal.returns
returns c =
    let l = c.in_ok-left.ensures.ok in
    let r = c.in_ok-right.ensures.ok in (
      l.key,
      r.key,
      l.read,
      r.read,
      rw c.are_same.ensures (alike _ _ _ _ _ c.in_ok-one.ensures c.in_ok-other.ensures
          (c.one_spelling.ensures Lexicographic l.read.tree r.read.tree l.key r.key l.read.shape r.read.shape l.sorted r.sorted)),
    )
