use Rattle.std.proofs.Common.{◌≡◌, List, ◌++◌}
use Rattle.ciborium_value.specs.View.{views}
use Rattle.ciborium_value.specs.declared.value.Value.{Value}
use Rattle.coset_labels.specs.Limits.{nesting_of, layers_of}
use Rattle.coset_headers.specs.Headers.{HasSignatures}
use Rattle.coset_headers.specs.View.{signatures_view}
use Rattle.coset_signed.proofs.sign_serial.read_list.Given as goal

abbrev pub invariant-items : goal.invariant-items
invariant-items l = record {
  front : (after : List Value) × (l.fn.items.items ≡ l.yielded ++ after);
  done : HasSignatures (nesting_of l.fn.limits) (views l.yielded) (signatures_view l.signatures.items) (layers_of l.fn.limits);
}
