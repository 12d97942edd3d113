use Rattle.std.proofs.Common.{ℕ}
use Rattle.ciborium_value.specs.Tree.{Tree}
use Rattle.coset_headers.specs.Levels.{Reading, work}
use Rattle.coset_headers.proofs.reader.HeaderReader.read.Given as goal

abbrev pub invariant-turns : goal.invariant-turns
invariant-turns l = (n k : ℕ) (t : Tree) → Reading n k t l.fn.self l.fn.into → Reading n k t l.self l.into

abbrev pub decreases-turns : goal.decreases-turns
decreases-turns l = work l.self
