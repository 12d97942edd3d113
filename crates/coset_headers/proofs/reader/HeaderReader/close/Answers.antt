use Rattle.std.proofs.Common.{refl, subst, sym, ap, ◌∙◌, inl, arith, Some}
use Rattle.std.proofs.lemmas.Result.{err_from_is_err_and, on_ok_weaker}
use Rattle.ciborium.specs.Front.{Reads}
use Rattle.ciborium_value.specs.Tree.{map}
use Rattle.ciborium_value.specs.View.{view, view_pairs}
use Rattle.coset_labels.specs.Faults.{OrMemory}
use Rattle.coset_labels.proofs.Items.{match_map}
use Rattle.coset_headers.specs.Fields.{signature, protected}
use Rattle.coset_headers.specs.Headers.{HasSignature}
use Rattle.coset_headers.specs.Levels.{IsHalf, half_left}
use Rattle.coset_headers.specs.View.{header_view}
use Rattle.coset_headers.specs.Weight.{weight}
use Rattle.coset_headers.specs.Wrong.{WrongProtected}
use Rattle.coset_headers.proofs.Levels.{signs_of_inside, protected_wrong, turns, built, half_done, half_empty}
use Rattle.coset_headers.proofs.Weights.{reads_long}
use Rattle.coset_headers.proofs.reader.HeaderReader.close.Goals as goal

pub returns-in_err-bytes-clause-read : goal.returns-in_err-bytes-clause-read
returns-in_err-bytes-clause-read c =
    let p = err_from_is_err_and c.from_residual.result c.from_residual.ensures.1 in
    rw (p.1, p.2) (λ n k i t w r h.
    protected_wrong n k t w i c.args.self.now c.args.into.now c.args.signing c.in-Unprotected.first _ r c.in-Unprotected.is
    (subst (λ z. OrMemory (WrongProtected z (view c.in-Unprotected.first) c.args.self.now.top.layers) c.in_err-bytes.field-0.0) r.nesting c.in_err-bytes.ensures))

pub returns-in-Protected-clause-read : goal.returns-in-Protected-clause-read
returns-in-Protected-clause-read c = λ n k i t w r h.
    let f = subst (λ z. IsHalf n c.args.self.now.top.layers r.around.signature c.args.signing.signature.items z w i) c.in-Protected.is r.around.half in
    c.finish.ensures.read n k t r.around.value r.around.signature (signs_of_inside n k t w i _ _ _ r) r.around.next
    (subst (λ z. HasSignature n r.around.signature z c.args.self.now.top.layers) (sym (built c.in-Protected.bytes c.args.header c.in-Protected.unprotected c.args.signing.signature))
    (half_done n c.args.self.now.top.layers r.around.signature c.args.signing.signature.items c.in-Protected.unprotected c.in-Protected.bytes w i (header_view c.args.header) f h))

pub returns-in-Some-clause-read : goal.returns-in-Some-clause-read
returns-in-Some-clause-read c = λ n k i t w r h.
    let o = c.in_ok-bytes.ensures in
    let s = rw c.in-Some.is at o.2 in
    match_map c.descend.result _ _ _ _ (λ u z. z) (λ e z. inl z)
    (c.descend.ensures.read n k t (turns n k t w _ i _ _ c.args.signing _ c.in-Unprotected.first c.args.header c.in_ok-bytes.bytes r c.in-Unprotected.is h o.0 o.1 s.0 (subst (λ z. Reads c.in_ok-bytes.bytes.items z (map (view_pairs c.in-Some.entries.items))) r.nesting s.1) refl refl refl))

pub returns-in-Some-clause-left : goal.returns-in-Some-clause-left
returns-in-Some-clause-left c =
    let o = c.in_ok-bytes.ensures in
    let s = rw c.in-Some.is at o.2 in
    let long = reads_long _ _ _ s.1 in
    let a = ap half_left c.in-Unprotected.is in
    let b = ap weight o.0 in
    on_ok_weaker c.descend.result (λ h. omega (arith, long, a, b, h)) c.descend.ensures.left

pub returns-in-None-clause-read : goal.returns-in-None-clause-read
returns-in-None-clause-read c = λ n k i t w r h.
    let o = c.in_ok-bytes.ensures in
    let f = subst (λ z. IsHalf n c.args.self.now.top.layers r.around.signature c.args.signing.signature.items z w i) c.in-Unprotected.is r.around.half in
    c.finish-in-None.ensures.read n k t r.around.value r.around.signature (signs_of_inside n k t w i _ _ _ r) r.around.next
    (subst (λ z. HasSignature n r.around.signature z c.args.self.now.top.layers)
    (sym (built c.in_ok-bytes.bytes c.new.result c.args.header c.args.signing.signature
    ∙ ap (λ z. signature (protected (Some c.in_ok-bytes.bytes.items) z) (header_view c.args.header) c.args.signing.signature.items) c.new.ensures))
    (half_empty n c.args.self.now.top.layers r.around.signature c.args.signing.signature.items c.in-Unprotected.first c.in_ok-bytes.bytes.items w i (header_view c.args.header) f h o.0 o.1
    (rw c.in-None.is at o.2)))
