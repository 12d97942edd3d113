use Rattle.std.proofs.Common.{◌≡◌, map, take, Some}
use Rattle.ciborium_value.specs.View.{view, views}
use Rattle.coset_labels.specs.Arrays.{all_written}
use Rattle.coset_headers.specs.View.{signature_view, signatures_view}
use Rattle.coset_headers.specs.Written.{signature_tree, signature_trees}
use Rattle.coset_headers.proofs.writer.+writer.Given as goal

abbrev pub invariant-take_signatures-signatures : goal.invariant-take_signatures-signatures
invariant-take_signatures-signatures l = record {
  later : goal.unvisited-take_signatures-signatures l;
  done : all_written signature_tree (map signature_view (take l.signature-index l.fn.signatures.items)) ≡ Some (map view l.values.items);
  trees : signature_trees (signatures_view (take l.signature-index l.fn.signatures.items)) ≡ Some (views l.values.items);
}
