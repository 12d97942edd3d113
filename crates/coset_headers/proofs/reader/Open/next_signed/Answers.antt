use Rattle.std.proofs.lemmas.Result.{err_from_is_err_and}
use Rattle.std.proofs.Common.{refl, subst, ap, arith}
use Rattle.ciborium_value.specs.View.{view_pairs}
use Rattle.coset_labels.specs.Faults.{OrMemory}
use Rattle.coset_headers.specs.Weight.{weight_pairs}
use Rattle.coset_headers.specs.Wrong.{WrongHeader}
use Rattle.coset_headers.proofs.Empty.{none_left}
use Rattle.coset_headers.proofs.Levels.{entry_wrong, filled, signs_next, whole}
use Rattle.coset_headers.proofs.reader.Open.next_signed.Goals as goal

pub returns-in_err-signed-clause-read : goal.returns-in_err-signed-clause-read
returns-in_err-signed-clause-read c =
    let p = err_from_is_err_and c.from_residual.result c.from_residual.ensures.1 in
    rw (p.1, p.2) (λ n t r.
    let g = c.entries.invariant.going n t r in
    subst (λ z. OrMemory (WrongHeader n t z) c.in_err-signed.field-0.0) c.entries.invariant.layers
    (entry_wrong n t c.entries.self c.entries.into (c.in-Some.key, c.in-Some.value) _ _ g c.in-Some.ensures.items (c.in_err-signed.ensures.read n c.entries.self.layers g.es g.known)))

-- counter signatures: their label is read
pub returns-in-Some-signed-clause-read : goal.returns-in-Some-signed-clause-read
returns-in-Some-signed-clause-read c = λ n t r.
    let g = c.entries.invariant.going n t r in
    let x = rw c.in-Some-signed.is at (c.in_ok-signed.ensures.read n c.entries.self.layers g.es g.known) in
    let same = rw c.in-Some-signed.is at c.in_ok-signed.ensures.same in
    rw (same.0, same.1) (signs_next n t c.entries.self _ c.entries.into (c.in-Some.key, c.in-Some.value) _ x.label g c.in-Some.ensures.items refl refl x.is x.signs x.fresh x.sees)

pub entries-preserved : goal.entries-preserved
entries-preserved c = record {
  going = λ n t r.
      let g = c.entries.invariant.going n t r in
      filled n t c.entries.self _ c.entries.into _ (c.in-Some.key, c.in-Some.value) _ g c.in-Some.ensures.items refl (rw c.in-None.is at (c.in_ok-signed.ensures.read n c.entries.self.layers g.es g.known));
  layers = c.entries.invariant.layers;
  left = let e = ap (λ z. weight_pairs (view_pairs z)) c.in-Some.ensures.items in omega (arith, e, c.entries.invariant.left);
}

pub returns-clause-read : goal.returns-clause-read
returns-clause-read c = λ n t r. whole n t c.entries.self c.entries.into (c.entries.invariant.going n t r) (none_left c.entries.self.entries c.in_default.ensures.cases.0)
