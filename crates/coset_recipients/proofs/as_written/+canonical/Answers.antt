use Rattle.coset_recipients.proofs.CanonicalSteps.{no_fourth, some_fourth, filled_canonical, empty_canonical}
use Rattle.coset_recipients.proofs.as_written.+canonical.Goals as goal

pub is_canonical_fourth-returns-in_default : goal.is_canonical_fourth-returns-in_default
is_canonical_fourth-returns-in_default t c = no_fourth c.args.items.now c.in_default.len_below

pub is_canonical_fourth-returns-in-len4-up : goal.is_canonical_fourth-returns-in-len4-up
is_canonical_fourth-returns-in-len4-up t c = some_fourth c.args.items.now c.inner-item.result c.is_canonical_list.result c.in-len4-up.len_at_least c.inner-item.is c.is_canonical_list.ensures

pub is_canonical_list-returns-then-not-is_empty : goal.is_canonical_list-returns-then-not-is_empty
is_canonical_list-returns-then-not-is_empty t c =
    filled_canonical c.args.value.now c.in-Array.items c.deref.result.now c.is_empty.result c.are_canonical_recipients.result c.in-Array.is c.is_empty.ensures c.if-not-is_empty.true c.deref.ensures.value c.are_canonical_recipients.ensures

pub is_canonical_list-returns-else-not-is_empty : goal.is_canonical_list-returns-else-not-is_empty
is_canonical_list-returns-else-not-is_empty t c = empty_canonical c.args.value.now c.in-Array.items c.is_empty.result c.in-Array.is c.is_empty.ensures c.if-not-is_empty.false
