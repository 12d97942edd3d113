use Rattle.std.proofs.Common.{refl, sym, subst, []}
use Rattle.std.proofs.lemmas.Iterator.Consumers.{YieldsList-turn}
use Rattle.std.proofs.lemmas.Result.{err_from_is_err_and}
use Rattle.coset_labels.proofs.Loops.{vec_yields, turned, moved}
use Rattle.coset_labels.specs.Facts.Walks.{entry_at_fault}
use Rattle.coset_labels.specs.Labels.{label_of}
use Rattle.coset_keys.specs.Parts.{Known}
use Rattle.coset_keys.specs.Wrong.{WrongEntry}
use Rattle.coset_keys.proofs.Entered.{known_none}
use Rattle.coset_keys.proofs.Steps.{entries_pushed}
use Rattle.coset_keys.proofs.reader.read_entries.Goals as goal

pub entries-init : goal.entries-init
entries-init c = record { front = (c.args.entries.items, refl); known = ([], refl, record { sees = c.new-seen.ensures; known = subst (Known []) (sym c.new-key.ensures) known_none }) }

pub entries-preserved : goal.entries-preserved
entries-preserved c =
    let turn = turned c.args.entries.items c.entries.yielded c.in-Some.entry c.entries.invariant.front (YieldsList-turn (vec_yields c.into_iter-entry-iterator.result c.args.entries c.into_iter-entry-iterator.ensures.into_iter_gives.0 c.into_iter-entry-iterator.ensures.into_iter_gives.1) c.entries.yielded c.entries.entry-iterator c.entries.yielded_by c.next.result c.next.new.self c.in-Some.entry c.in-Some.is c.next.ensures.steps) in
    record {
      front = moved _ c.entries.yielded c.in-Some.entry turn;
      known = entries_pushed c.entries.yielded c.in-Some.entry _ _ _ c.entries.invariant.known.1 (c.in_ok-read_entry.ensures _ c.entries.invariant.known.2);
    }

pub returns-in_err-read_entry : goal.returns-in_err-read_entry
returns-in_err-read_entry c =
    let p = err_from_is_err_and c.from_residual.result c.from_residual.ensures.1 in
    let turn = turned c.args.entries.items c.entries.yielded c.in-Some.entry c.entries.invariant.front (YieldsList-turn (vec_yields c.into_iter-entry-iterator.result c.args.entries c.into_iter-entry-iterator.ensures.into_iter_gives.0 c.into_iter-entry-iterator.ensures.into_iter_gives.1) c.entries.yielded c.entries.entry-iterator c.entries.yielded_by c.next.result c.next.new.self c.in-Some.entry c.in-Some.is c.next.ensures.steps) in
    rw (p.1, p.2) (entry_at_fault label_of WrongEntry c.args.entries.items c.entries.yielded turn.0 c.in-Some.entry _ _ turn.1 c.entries.invariant.known.1 (c.in_err-read_entry.ensures _ c.entries.invariant.known.2))
