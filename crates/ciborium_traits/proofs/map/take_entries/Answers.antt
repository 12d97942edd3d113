use Rattle.std.proofs.Common.{sym, ◌∙◌}
use Rattle.std.proofs.lemmas.Result.{err_from_is_err_and}
use Rattle.ciborium_traits.proofs.Items.{inserted_none, inserted_one, key_refused, value_refused, inserted_all}
use Rattle.ciborium_traits.proofs.map.take_entries.Goals as goal

pub entries-init : goal.entries-init
entries-init g c =
    inserted_none g.K.Ord.cmp g.K.Deserialize.refusal g.V.Deserialize.refusal g.K.Deserialize.takes g.V.Deserialize.takes _ _ _ c.into_iter-entry-iterator.ensures.into_iter_gives.0 c.new-taken.ensures.empty

pub entries-preserved : goal.entries-preserved
entries-preserved g c =
    inserted_one g.K.Ord.cmp g.K.Deserialize.refusal g.V.Deserialize.refusal g.K.Deserialize.takes g.V.Deserialize.takes _ _ _ _ _ c.in-Some.entry c.in_ok-key.key c.in_ok-value.value c.in-Some.ensures.steps.0 c.in_ok-insert.ensures.entries
    c.in_ok-key.ensures.ok.0 c.in_ok-value.ensures.ok.0 c.in_ok-key.ensures.ok.1 c.in_ok-value.ensures.ok.1 c.entries.invariant

pub entries-preserved-in_ok-insert : goal.entries-preserved-in_ok-insert
entries-preserved-in_ok-insert g c =
    inserted_one g.K.Ord.cmp g.K.Deserialize.refusal g.V.Deserialize.refusal g.K.Deserialize.takes g.V.Deserialize.takes _ _ _ _ _ c.in-Some.entry c.in_ok-key.key c.in_ok-value.value c.in-Some.ensures.steps.0 c.in_ok-insert.ensures.entries
    c.in_ok-key.ensures.ok.0 c.in_ok-value.ensures.ok.0 c.in_ok-key.ensures.ok.1 c.in_ok-value.ensures.ok.1 c.entries.invariant

pub returns-in_err-key-clause-err : goal.returns-in_err-key-clause-err
returns-in_err-key-clause-err g c =
    let p = err_from_is_err_and c.from_residual.result c.from_residual.ensures.1 in
    rw (p.1, p.2) (key_refused g.K.Ord.cmp g.K.Deserialize.refusal g.V.Deserialize.refusal g.K.Deserialize.takes g.V.Deserialize.takes _ _ _ _ c.in-Some.entry g.K.Deserialize.grows _ c.in-Some.ensures.steps.0 c.in_err-key.ensures.err c.entries.invariant)

pub returns-in_err-value-clause-err : goal.returns-in_err-value-clause-err
returns-in_err-value-clause-err g c =
    let p = err_from_is_err_and c.from_residual-in_err-value.result c.from_residual-in_err-value.ensures.1 in
    rw (p.1, p.2) (value_refused g.K.Ord.cmp g.K.Deserialize.refusal g.V.Deserialize.refusal g.K.Deserialize.takes g.V.Deserialize.takes _ _ _ _ c.in-Some.entry g.V.Deserialize.grows _ c.in-Some.ensures.steps.0 c.in_ok-key.ensures.ok.0 c.in_err-value.ensures.err
    c.entries.invariant)

pub returns-clause-ok : goal.returns-clause-ok
returns-clause-ok g c =
    inserted_all g.K.Ord.cmp g.K.Deserialize.refusal g.V.Deserialize.refusal g.K.Deserialize.takes g.V.Deserialize.takes _ _ _ (sym c.entries.entry-iterator.rest.ok.0 ∙ c.in-None.ensures.steps.0) c.entries.invariant
