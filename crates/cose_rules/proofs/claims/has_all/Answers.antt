use Rattle.std.proofs.Common.{◌∙◌, map, sym}
use Rattle.std.specs.Prelude.{is_some}
use Rattle.std.proofs.lemmas.List.Folds.{list_all-map}
use Rattle.coset_headers.specs.View.{entry_view}
use Rattle.coset_labels.specs.Fields.{LabelFields}
use Rattle.coset_labels.specs.View.{label_view}
use Rattle.cose_rules.specs.Labels.{value_under}
use Rattle.cose_rules.proofs.claims.has_all.Goals as goal

pub returns : goal.returns
returns c = c.all_there.ensures ∙ sym (list_all-map (λ (l : LabelFields). is_some (value_under l (map entry_view c.args.claims.now))) label_view c.args.needed.now)
