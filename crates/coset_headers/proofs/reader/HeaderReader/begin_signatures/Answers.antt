use Rattle.std.proofs.Common.{◌≡◌, subst, sym, ◌∙◌}
use Rattle.std.specs.Vec.Iter.{into_iter_items}
use Rattle.std.proofs.lemmas.Result.{err_from_is_err_and}
use Rattle.ciborium_value.specs.View.{view, views}
use Rattle.ciborium_value.proofs.Views.{view_array}
use Rattle.coset_labels.specs.Faults.{fault_of, unexpected}
use Rattle.coset_headers.specs.Headers.{IsBare, IsList}
use Rattle.coset_headers.specs.Levels.{IsNext}
use Rattle.coset_headers.specs.Wrong.{NoSignature}
use Rattle.coset_headers.specs.declared.reader.SignatureList.{SignatureList}
use Rattle.coset_headers.proofs.Levels.{signatures_wrong, first_alone, first_listed}
use Rattle.coset_headers.proofs.Steps.{signed_kind, signed_first}
use Rattle.coset_headers.proofs.reader.HeaderReader.begin_signatures.Goals as goal

pub returns-in_err-items-clause-read : goal.returns-in_err-items-clause-read
returns-in_err-items-clause-read c =
    let p = err_from_is_err_and c.from_residual.result c.from_residual.ensures.1 in
    rw (p.1, p.2) (λ n k t r. signatures_wrong n k t (view c.args.value) c.args.self.now c.args.into.now _ r (signed_kind n _ _ _ c.in_err-items.ensures))

pub returns-in_err-is_bare-clause-read : goal.returns-in_err-is_bare-clause-read
returns-in_err-is_bare-clause-read c =
    let p = err_from_is_err_and c.from_residual-in_err-is_bare.result c.from_residual-in_err-is_bare.ensures.1 in
    rw (p.1, p.2) (λ n k t r. signatures_wrong n k t (view c.args.value) c.args.self.now c.args.into.now _ r (signed_first n _ (views c.in_ok-items.items.items) _ _ c.in_ok-items.ensures
    (subst (λ z. (fault_of c.in_err-is_bare.field-0.0 ≡ unexpected) × NoSignature (views z)) c.deref.ensures.value c.in_err-is_bare.ensures)))

pub returns-then-branch-clause-read : goal.returns-then-branch-clause-read
returns-then-branch-clause-read c = λ n k t r.
    let bare = subst (λ z. IsBare (views z)) c.deref.ensures.value (rw c.if-branch.true at c.in_ok-is_bare.ensures) in
    let items : SignatureList = record { left = c.into_iter-left.result; done = c.in_ok-done.done } in
    c.begin.ensures.read n k t (view c.args.value) r
    (subst (λ z. IsNext n c.args.self.now.top.layers (view c.args.value) z items) (sym (view_array c.in_ok-items.items))
    (first_alone n c.args.self.now.top.layers (view c.args.value) (views c.in_ok-items.items.items) items c.in_ok-items.ensures bare
    c.in_ok-done.ensures.items (c.into_iter-left.ensures.rest ∙ c.new.ensures.items)))

pub returns-clause-read : goal.returns-clause-read
returns-clause-read c = λ n k t r.
    let list = subst (λ z. IsList (views z)) c.deref.ensures.value (rw c.if-branch.false at c.in_ok-is_bare.ensures) in
    c.begin-in-Some.ensures.read n k t (view c.args.value) r
    (first_listed n c.args.self.now.top.layers (view c.args.value) c.in_ok-items.items.items c.in-Some.first _ c.in_ok-items.ensures list
    (sym c.into_iter-left-2.ensures.rest ∙ c.in-Some.ensures.items) c.in_ok-done-2.ensures.items)
