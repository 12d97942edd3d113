use Rattle.std.proofs.Common.{sym, subst, map}
use Rattle.std.proofs.lemmas.List.{take-map}
use Rattle.coset_labels.proofs.Items.{match_map}
use Rattle.coset_labels.specs.View.{label_view}
use Rattle.coset_headers.specs.Headers.{IsIn}
use Rattle.coset_headers.specs.View.{entry_view}
use Rattle.coset_headers.proofs.Fresh.{front_again, more_fresh, front_long}
use Rattle.coset_headers.proofs.fields.is_new_among.Goals as goal

pub returns-then-is_among : goal.returns-then-is_among
returns-then-is_among c = λ g.
    front_again c.args.seen.now (map entry_view c.args.rest.now) (label_view c.args.label.now) g (front_long c.args.rest.now c.if-rest-lt-FEW.false)
    (subst (IsIn (label_view c.args.label.now)) (sym (take-map entry_view 64 c.args.rest.now)) (rw c.if-is_among.true at c.is_among-2.ensures))

pub returns : goal.returns
returns c = λ g.
    match_map c.add.result _ _ _ _
    (λ b x. more_fresh c.args.seen.now (map entry_view c.args.rest.now) (label_view c.args.label.now) g (front_long c.args.rest.now c.if-rest-lt-FEW.false) _ b
    (λ p. (rw c.if-is_among.false at c.is_among-2.ensures) (subst (IsIn (label_view c.args.label.now)) (take-map entry_view 64 c.args.rest.now) p)) x)
    (λ e x. x) (c.add.ensures g.more g.sees)
