use Rattle.std.proofs.Common.{refl, sym, ap, map, Some}
use Rattle.std.proofs.lemmas.Iterator.Consumers.{YieldsList-turn}
use Rattle.std.proofs.lemmas.Result.{err_from_is_err_and}
use Rattle.coset_labels.proofs.Loops.{vec_yields, turned, moved}
use Rattle.coset_headers.specs.View.{entry_view}
use Rattle.cose_rules.proofs.Labelled.{labelled_more, fault_at}
use Rattle.cose_rules.proofs.claims_set.labelled.Goals as goal

pub entries-init : goal.entries-init
entries-init c = record { front = (c.args.pairs.items, refl); read = ap (λ z. Some (map entry_view z)) (sym c.new-claims.ensures.items) }

pub entries-preserved : goal.entries-preserved
entries-preserved c =
    let turn = turned c.args.pairs.items c.entries.yielded c.in-Some.entry c.entries.invariant.front (YieldsList-turn (vec_yields c.into_iter-entry-iterator.result c.args.pairs c.into_iter-entry-iterator.ensures.into_iter_gives.0 c.into_iter-entry-iterator.ensures.into_iter_gives.1) c.entries.yielded c.entries.entry-iterator c.entries.yielded_by c.next.result c.next.new.self c.in-Some.entry c.in-Some.is c.next.ensures.steps) in
    record {
      front = moved _ c.entries.yielded c.in-Some.entry turn;
      read = labelled_more c.entries.yielded c.in-Some.entry _ _ c.entries.invariant.read c.in_ok-read_claim.ensures;
    }

pub returns-in_err-read_claim : goal.returns-in_err-read_claim
returns-in_err-read_claim c =
    let p = err_from_is_err_and c.from_residual.result c.from_residual.ensures.1 in
    let turn = turned c.args.pairs.items c.entries.yielded c.in-Some.entry c.entries.invariant.front (YieldsList-turn (vec_yields c.into_iter-entry-iterator.result c.args.pairs c.into_iter-entry-iterator.ensures.into_iter_gives.0 c.into_iter-entry-iterator.ensures.into_iter_gives.1) c.entries.yielded c.entries.entry-iterator c.entries.yielded_by c.next.result c.next.new.self c.in-Some.entry c.in-Some.is c.next.ensures.steps) in
    rw (p.1, p.2) (fault_at c.args.pairs.items c.entries.yielded turn.0 c.in-Some.entry _ turn.1 c.in_err-read_claim.ensures)
