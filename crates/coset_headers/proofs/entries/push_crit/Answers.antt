use Rattle.std.proofs.Common.{map, ap, ◌∙◌}
use Rattle.std.proofs.lemmas.Result.{err_from_is_err_and}
use Rattle.cose_iana.specs.Headers.{header_parameters}
use Rattle.ciborium_value.specs.Tree.{integer}
use Rattle.ciborium_value.proofs.Views.{view_integer}
use Rattle.coset_labels.specs.View.{named_view}
use Rattle.coset_headers.proofs.Empty.{empty_vec, full_vec}
use Rattle.coset_headers.proofs.Pushed.{cant_names, crit_none, crit_pushed}
use Rattle.coset_headers.proofs.entries.push_crit.Goals as goal

pub returns-then-is_empty : goal.returns-then-is_empty
returns-then-is_empty c = crit_none (named_view header_parameters.number) _ c.args.crit.items (empty_vec c.args.crit _ c.is_empty.ensures c.if-is_empty.true)

pub returns-in_err-list : goal.returns-in_err-list
returns-in_err-list c =
    let p = err_from_is_err_and c.from_residual.result c.from_residual.ensures.1 in
    rw (p.1, p.2) (cant_names (map (named_view header_parameters.number) c.args.crit.items) _ c.in_err-list.ensures)

pub returns : goal.returns
returns c = crit_pushed (named_view header_parameters.number) c.args.crit.items _ _ _ c.in_ok-list.list c.in_ok-push.ensures.items (view_integer c.from.result ∙ ap integer c.from.ensures) c.in_ok-list.ensures (full_vec c.args.crit _ c.is_empty.ensures c.if-is_empty.false)
