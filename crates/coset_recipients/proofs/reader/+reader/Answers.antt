use Rattle.std.proofs.Common.{Some, None, arith}
use Rattle.std.proofs.lemmas.Result.{err_from_is_err_and}
use Rattle.std.proofs.lemmas.Iterator.Consumers.{YieldsList-turn, YieldsList-so_far}
use Rattle.coset_labels.proofs.Items.{match_map}
use Rattle.coset_labels.proofs.Loops.{vec_yields}
use Rattle.coset_labels.specs.Facts.Walks.{item_at_fault}
use Rattle.coset_labels.specs.Limits.{nesting_of, layers_of}
use Rattle.coset_recipients.specs.Wrong.{WrongRecipient}
use Rattle.coset_recipients.proofs.Steps.{recipient_kind, recipient_inner, recipient_wrong, recipient_pushed, inner_has, inner_none, list_kind, list_inside, turned_at, recipients_pushed, fourth_lighter, item_lighter}
use Rattle.coset_recipients.proofs.reader.+reader.Goals as goal

pub read_into-returns-in_err-items-clause-read : goal.read_into-returns-in_err-items-clause-read
read_into-returns-in_err-items-clause-read t c =
    let p = err_from_is_err_and c.from_residual.result c.from_residual.ensures.1 in
    rw (p.1, p.2) (recipient_kind _ _ _ _ c.in_err-items.ensures)

pub read_into-read_recipients-requires : goal.read_into-read_recipients-requires
read_into-read_recipients-requires t c =
    let h = fourth_lighter _ _ _ _ c.in_ok-items.ensures c.in-Some.ensures.0 in (omega (arith, c.decreases, h), tt)

pub read_into-returns-in_err-inner-in-Some-clause-read : goal.read_into-returns-in_err-inner-in-Some-clause-read
read_into-returns-in_err-inner-in-Some-clause-read t c =
    let p = err_from_is_err_and c.from_residual-in_err-inner-in-Some.result c.from_residual-in_err-inner-in-Some.ensures.1 in
    rw (p.1, p.2) (recipient_inner _ _ _ _ _ _ _ c.in_ok-items.ensures c.in-Some.ensures c.in_err-inner-in-Some.ensures)

pub read_into-returns-in_ok-inner-in-Some-clause-read : goal.read_into-returns-in_ok-inner-in-Some-clause-read
read_into-returns-in_ok-inner-in-Some-clause-read t c =
    match_map c.push_read.result _ _ _ _
    (λ _ s. recipient_pushed _ _ _ _ (Some c.in-Some.list) _ _ _ _ c.in_ok-items.ensures c.in-Some.ensures (inner_has _ _ _ _ c.in_ok-inner-in-Some.ensures) s)
    (λ e w. recipient_wrong _ _ _ _ (Some c.in-Some.list) _ e c.in_ok-items.ensures c.in-Some.ensures w)
    c.push_read.ensures.read

pub read_into-returns-in-None-clause-read : goal.read_into-returns-in-None-clause-read
read_into-returns-in-None-clause-read t c =
    match_map c.push_read-in-None.result _ _ _ _
    (λ _ s. recipient_pushed _ _ _ _ None _ _ _ _ c.in_ok-items.ensures c.in-None.ensures (inner_none _ _ _ c.new.ensures.items) s)
    (λ e w. recipient_wrong _ _ _ _ None _ e c.in_ok-items.ensures c.in-None.ensures w)
    c.push_read-in-None.ensures.read

pub read_recipients-returns-in_err-items : goal.read_recipients-returns-in_err-items
read_recipients-returns-in_err-items t c =
    let p = err_from_is_err_and c.from_residual.result c.from_residual.ensures.1 in
    rw (p.1, p.2) (list_kind _ _ _ _ c.in_err-items.ensures)

pub read_recipients-read_into-requires : goal.read_recipients-read_into-requires
read_recipients-read_into-requires t c =
    let y = vec_yields c.into_iter-item-iterator.result c.in_ok-items.items c.into_iter-item-iterator.ensures.into_iter_gives.0 c.into_iter-item-iterator.ensures.into_iter_gives.1 in
    let turn = turned_at _ _ _ (YieldsList-so_far y c.items.yielded c.items.item-iterator c.items.yielded_by) (YieldsList-turn y c.items.yielded c.items.item-iterator c.items.yielded_by c.next.result c.next.new.self c.in-Some.item c.in-Some.is c.next.ensures.steps) in
    let h = item_lighter _ _ _ turn.0 _ c.in_ok-items.ensures turn.1 in
    (omega (arith, c.decreases, h), tt)

pub read_recipients-items-preserved : goal.read_recipients-items-preserved
read_recipients-items-preserved t c =
    let w = c.in_ok-read_into.ensures.read in
    recipients_pushed (nesting_of c.args.limits) c.items.yielded c.in-Some.item _ _ w.0 (layers_of c.args.limits) w.1 c.items.invariant w.2

pub read_recipients-returns-in_err-read_into : goal.read_recipients-returns-in_err-read_into
read_recipients-returns-in_err-read_into t c =
    let p = err_from_is_err_and c.from_residual-in_err-read_into.result c.from_residual-in_err-read_into.ensures.1 in
    let y = vec_yields c.into_iter-item-iterator.result c.in_ok-items.items c.into_iter-item-iterator.ensures.into_iter_gives.0 c.into_iter-item-iterator.ensures.into_iter_gives.1 in
    let turn = turned_at _ _ _ (YieldsList-so_far y c.items.yielded c.items.item-iterator c.items.yielded_by) (YieldsList-turn y c.items.yielded c.items.item-iterator c.items.yielded_by c.next.result c.next.new.self c.in-Some.item c.in-Some.is c.next.ensures.steps) in
    rw (p.1, p.2) (list_inside _ _ _ _ _ c.in_ok-items.ensures
    (item_at_fault (λ t. WrongRecipient (nesting_of c.args.limits) t (layers_of c.args.limits)) c.in_ok-items.items.items c.items.yielded turn.0 c.in-Some.item _ turn.1 c.in_err-read_into.ensures.read))
