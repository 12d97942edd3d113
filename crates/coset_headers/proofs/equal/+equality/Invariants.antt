use Rattle.std.proofs.Common.{◌≡◌, length}
use Rattle.std.specs.Iterator.Adapters.{zip_first, zip_second}
use Rattle.std.specs.Slice.Iter.{iter_rest}
use Rattle.coset_headers.specs.Same.{same_signatures}
use Rattle.coset_headers.specs.View.{signatures_view}
use Rattle.coset_headers.proofs.equal.+equality.Given as goal

-- what is left decides
abbrev pub invariant-loop-x : goal.invariant-loop-x
invariant-loop-x l = record {
  same : same_signatures (signatures_view l.a) (signatures_view l.b)
      ≡ same_signatures (signatures_view (iter_rest (zip_first l.x-iterator))) (signatures_view (iter_rest (zip_second l.x-iterator)));
  long : length (iter_rest (zip_first l.x-iterator)) ≡ length (iter_rest (zip_second l.x-iterator));
}
