use Rattle.std.proofs.Common.{◌≡◌, ℕ, List, ◌++◌, map, Vec, Global}
use Rattle.ciborium_value.specs.Tree.{bytes}
use Rattle.ciborium_value.specs.View.{view}
use Rattle.coset_kdf.proofs.writer.push_private.Given as goal

abbrev pub invariant-private : goal.invariant-private
invariant-private l = record {
  front : (after : List (Vec ℕ Global)) × (l.fn.private.items ≡ l.yielded ++ after);
  done : map view l.items.items ≡ map view l.fn.items.items ++ map bytes (map (λ v. v.items) l.yielded);
}
