use Rattle.std.proofs.Common.{sym, ◌∙◌, inl, inr}
use Rattle.std.proofs.lemmas.Result.{err_from_is_err_and}
use Rattle.ciborium_value.specs.View.{view}
use Rattle.coset_labels.specs.Faults.{fault_of}
use Rattle.coset_labels.specs.View.{label_view}
use Rattle.coset_headers.specs.Parts.{plain_of, WrongFill}
use Rattle.coset_headers.specs.Wrong.{WrongEntry, label_again}
use Rattle.coset_headers.proofs.Steps.{passed_on, entry_label, entry_filled, known_filled}
use Rattle.coset_headers.proofs.reader.read_entry.Goals as goal

pub returns-in_err-label-clause-read : goal.returns-in_err-label-clause-read
returns-in_err-label-clause-read c =
    let p = err_from_is_err_and c.from_residual.result c.from_residual.ensures.1 in
    rw (p.1, p.2) (λ n k es w. entry_label n es _ _ k _ c.in_err-label.ensures)

pub returns-in_err-fresh-clause-read : goal.returns-in_err-fresh-clause-read
returns-in_err-fresh-clause-read c =
    let p = err_from_is_err_and c.from_residual-in_err-fresh.result c.from_residual-in_err-fresh.ensures.1 in
    rw (p.1, p.2) (λ n k es w. inl (c.in_err-fresh.ensures n k es w.known w.sees))

pub returns-then-not-fresh-clause-read : goal.returns-then-not-fresh-clause-read
returns-then-not-fresh-clause-read c = λ n k es w.
    let d = rw c.if-not-fresh.true at (c.in_ok-fresh.ensures n k es w.known w.sees) in
    inr (label_again es _ _ _ _ c.in_ok-label.ensures d)

pub returns-then-is_counter_signatures-clause-read : goal.returns-then-is_counter_signatures-clause-read
returns-then-is_counter_signatures-clause-read c = λ n k es w.
    let d = rw c.if-not-fresh.false at (c.in_ok-fresh.ensures n k es w.known w.sees) in
    record {
      label = label_view c.in_ok-label.label;
      is = c.in_ok-label.ensures;
      signs = sym (c.is_counter_signatures.ensures _ c.place_of-place.ensures) ∙ c.if-is_counter_signatures.true;
      fresh = d.0;
      sees = d.1;
    }

pub returns-in_err-set-clause-read : goal.returns-in_err-set-clause-read
returns-in_err-set-clause-read c =
    let p = err_from_is_err_and c.from_residual-in_err-set.result c.from_residual-in_err-set.ensures.1 in
    rw (p.1, p.2) (λ n k es w.
    let d = rw c.if-not-fresh.false at (c.in_ok-fresh.ensures n k es w.known w.sees) in
    let e = c.in_err-set.field-0.0 in
    passed_on (WrongFill (label_view c.in_ok-label.label) (view c.args.value) (plain_of c.args.into.now)) (WrongEntry n es (view c.args.key) (view c.args.value) k) e
    (λ y. entry_filled n es _ _ k _ (plain_of c.args.into.now) _ (fault_of e) w.known c.in_ok-label.ensures d.0 y) c.in_err-set.ensures)

pub returns-clause-read : goal.returns-clause-read
returns-clause-read c = λ n k es w.
    let d = rw c.if-not-fresh.false at (c.in_ok-fresh.ensures n k es w.known w.sees) in
    known_filled n es _ _ _ c.args.into.now _ k _ w.known c.in_ok-label.ensures d.0 d.1 (sym (c.is_counter_signatures.ensures _ c.place_of-place.ensures) ∙ c.if-is_counter_signatures.false) c.in_ok-set.ensures
