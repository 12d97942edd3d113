use Rattle.std.proofs.Common.{rules, ◌≡◌, ap, sym, ◌∙◌, nat_lt}
use Rattle.ciborium_value.specs.Tree.{tree_count}
use Rattle.ciborium_value.specs.View.{views}
use Rattle.ciborium_value.proofs.Fitting.{count_items}
use Rattle.coset_labels.specs.Arrays.{is_structure}
use Rattle.coset_labels.proofs.tuples.is_structure.Goals as goal

pub returns-in-Some : goal.returns-in-Some
returns-in-Some c =
    let counted : c.len.result ≡ tree_count (views c.in-Some.parts.now.items) = rw (count_items c.in-Some.parts.now.items) (search rules) in
    ap (nat_lt 2) counted ∙ ap is_structure (sym c.in-Some.ensures)
