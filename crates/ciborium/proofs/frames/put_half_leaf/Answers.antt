use Rattle.std.proofs.Common.{rules, arith, ap, sym, ◌∙◌, Some, pos, negsuc}
use Rattle.ciborium_ll.specs.declared.hdr.Header.TheVariants.{Positive, Negative}
use Rattle.ciborium_ll.specs.Views.{last_head}
use Rattle.ciborium.proofs.ReadHeads.{positive_head, negative_head}
use Rattle.ciborium_value.specs.declared.value.Value.TheVariants as value
use Rattle.ciborium_value.specs.Tree as spec
use Rattle.ciborium_value.specs.View.{view}
use Rattle.ciborium_value.proofs.Views.{view_integer}
use Rattle.ciborium.proofs.Taking.{takes_none}
use Rattle.ciborium.proofs.ReadLemmas.{leaf}
use Rattle.ciborium.proofs.OneItem.{none_behind}
use Rattle.ciborium.proofs.frames.put_half_leaf.Goals as goal

pub returns-in-Ok-clause-ok : goal.returns-in-Ok-clause-ok
returns-in-Ok-clause-ok g c =
    rw (positive_head c.args.decoder.now (sym c.major.ensures ∙ c.in-0.is) ∙ ap Positive (sym c.head_number.ensures))
    (value.Integer c.from.result, leaf (Positive c.head_number.result) (spec.integer (pos c.head_number.result)) (view (value.Integer c.from.result)) _ _ (λ title t. t) (omega arith) (ap Some (sym (view_integer _ ∙ ap spec.integer c.from.ensures))), c.in-Ok.ensures.ok)

pub returns-in-Ok-put_half-clause-ok : goal.returns-in-Ok-put_half-clause-ok
returns-in-Ok-put_half-clause-ok g c =
    rw (negative_head c.args.decoder.now (sym c.major.ensures ∙ c.in-1.is) ∙ ap Negative (sym c.head_number-in-1.ensures))
    (value.Integer c.negative.result, leaf (Negative c.head_number-in-1.result) (spec.integer (negsuc c.head_number-in-1.result)) (view (value.Integer c.negative.result)) _ _ (λ title t. t) (omega arith) (ap Some (sym (view_integer _ ∙ ap spec.integer c.negative.ensures))), c.in-Ok-put_half.ensures.ok)

pub returns-in_default-put_half-clause-leaves : goal.returns-in_default-put_half-clause-leaves
returns-in_default-put_half-clause-leaves g c =
    record { stops = search rules; one = takes_none _ _ _ (none_behind (last_head c.args.decoder.now)); steady = search rules }

pub returns-in_default-put_half-2-clause-leaves : goal.returns-in_default-put_half-2-clause-leaves
returns-in_default-put_half-2-clause-leaves g c =
    record { stops = search rules; one = takes_none _ _ _ (none_behind (last_head c.args.decoder.now)); steady = search rules }
