use Rattle.std.proofs.Common.{[], ◌∷◌, ◌++◌, ◌≡◌, map, take, false, sym, subst, take_all}
use Rattle.std.proofs.lemmas.Result.{err_from_is_err_and}
use Rattle.ciborium_value.specs.Tree.{Tree}
use Rattle.coset_labels.specs.View.{label_view}
use Rattle.coset_headers.specs.Headers.{IsIn}
use Rattle.coset_headers.specs.Parts.{SeesLabels}
use Rattle.coset_headers.specs.View.{entry_view}
use Rattle.coset_headers.specs.Written.{twice}
use Rattle.coset_headers.proofs.Written.{once_only, twice_there, sees_next, distinct_next}
use Rattle.coset_headers.proofs.entries.repeats.Goals as goal

pub returns-in_err-fresh : goal.returns-in_err-fresh
returns-in_err-fresh c =
    let p = err_from_is_err_and c.from_residual.result c.from_residual.ensures.1 in
    rw (p.1, p.2) (c.in_err-fresh.ensures _ c.entries.invariant.sees)

pub returns-then-not-fresh : goal.returns-then-not-fresh
returns-then-not-fresh c =
    let w = rw c.if-not-fresh.true at (c.in_ok-fresh.ensures _ c.entries.invariant.sees) in
    sym (twice_there c.args.entries.now c.entries.entry-index c.entry-item.result c.entries-test.true
    (subst (λ z. IsIn (label_view z.0) (map entry_view (take c.entries.entry-index c.args.entries.now))) c.entry-item.is w.0))

pub entries-preserved : goal.entries-preserved
entries-preserved c =
    let w = rw c.if-not-fresh.false at (c.in_ok-fresh.ensures _ c.entries.invariant.sees) in
    record {
      sees = sees_next c.add.new.self c.args.entries.now c.entries.entry-index c.entry-item.result c.entries-test.true
          (subst (λ z. (v : Tree) → SeesLabels c.add.new.self (map entry_view (take c.entries.entry-index c.args.entries.now) ++ (label_view z.0, v) ∷ [])) c.entry-item.is w.1);
      distinct = distinct_next c.args.entries.now c.entries.entry-index c.entry-item.result c.entries-test.true c.entries.invariant.distinct
          (subst (λ z. IsIn (label_view z.0) (map entry_view (take c.entries.entry-index c.args.entries.now)) → ⊥) c.entry-item.is w.0);
    }

pub returns : goal.returns
returns c = sym (subst (λ z. twice (map entry_view z) ≡ false) (take_all c.entries.entry-index c.args.entries.now c.entries-test.false) (once_only _ c.entries.invariant.distinct))
