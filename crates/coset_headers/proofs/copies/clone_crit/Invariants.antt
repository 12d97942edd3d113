use Rattle.std.proofs.Common.{◌≡◌, map, take}
use Rattle.cose_iana.specs.Headers.{header_parameters}
use Rattle.coset_labels.specs.View.{named_view}
use Rattle.coset_headers.proofs.copies.clone_crit.Given as goal

abbrev pub invariant-loop-name : goal.invariant-loop-name
invariant-loop-name l = map (named_view header_parameters.number) l.copies.items ≡ map (named_view header_parameters.number) (take l.name-index l.crit)
