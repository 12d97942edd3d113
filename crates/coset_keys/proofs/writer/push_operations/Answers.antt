use Rattle.std.proofs.Common.{ap, ◌∙◌}
use Rattle.cose_iana.specs.Keys.{key_operations}
use Rattle.ciborium_value.specs.Tree.{integer}
use Rattle.ciborium_value.proofs.Views.{view_integer}
use Rattle.coset_labels.specs.View.{registered_view}
use Rattle.coset_keys.proofs.Pushed.{ops_none, ops_pushed, none_of, some_of}
use Rattle.coset_keys.proofs.writer.push_operations.Goals as goal

pub returns-then-is_empty : goal.returns-then-is_empty
returns-then-is_empty c = ops_none _ _ (none_of (registered_view key_operations.number) c.args.operations.keys _ c.is_empty.ensures c.if-is_empty.true)

pub returns : goal.returns
returns c = ops_pushed _ _ _ c.in_ok-items.items _ c.in_ok-push.ensures.items (view_integer c.from.result ∙ ap integer c.from.ensures) c.in_ok-items.ensures (some_of (registered_view key_operations.number) c.args.operations.keys _ c.is_empty.ensures c.if-is_empty.false)
