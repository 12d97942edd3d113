use Rattle.std.proofs.Common.{refl, sym, ◌∙◌, arith, le_refl, false}
use Rattle.std.proofs.lemmas.Result.{err_from_is_err_and}
use Rattle.ciborium_ll.specs.declared.hdr.Header.TheVariants.{Array, Tag}
use Rattle.ciborium_value.specs.Tree.{no_trees, one_more, bytes}
use Rattle.coset_headers.specs.View.{header_view, protected_view}
use Rattle.coset_headers.specs.Wrong.{WrongProtected, WrongHeader}
use Rattle.cose_gate.specs.Forms.{tag_number}
use Rattle.cose_gate.specs.ElementFaults.{WrongPart, NoneWrong, NoBytes}
use Rattle.cose_gate.proofs.Wrong.{first_tells, part_tells, protected_place, unprotected_place, signature_place, any_place, short_tells_part, close_tells, refused_tells}
use Rattle.cose_gate.proofs.Heads.{four_tells, size_tells}
use Rattle.cose_gate.proofs.CutOff.{copied_part}
use Rattle.cose_gate.proofs.Placed.{placed}
use Rattle.cose_gate.proofs.Whole.{within_start, within_more, part_is, paid, paid_within, checked, received_is, subject_is, question_is, in_pieces, asked_as}
use Rattle.cose_gate_core.specs.Findings.{within}
use Rattle.cose_gate.proofs.Far.{far_more}
use Rattle.cose_gate.proofs.checking.stream_check_into.Goals as goal

pub returns-in_err-form-clause-err : goal.returns-in_err-form-clause-err
returns-in_err-form-clause-err g c =
    let p = err_from_is_err_and c.from_residual.result c.from_residual.ensures.1 in
    rw (p.1, p.2) (first_tells (within c.args.limits.nesting c.args.limits.layers false) g.R.Read.ends _ _ _ _ c.in_err-form.ensures.err)

pub returns-in_err-count-clause-err : goal.returns-in_err-count-clause-err
returns-in_err-count-clause-err g c =
    let p = err_from_is_err_and c.from_residual-in_err-count.result c.from_residual-in_err-count.ensures.1 in
    rw (p.1, p.2) (four_tells (within c.args.limits.nesting c.args.limits.layers false) c.args.limits.least_nesting g.R.Read.ends _ _ _ _ _ _ _ c.in_ok-form.ensures.ok c.in_err-count.ensures.err)

pub returns-in_err-protected-clause-err : goal.returns-in_err-protected-clause-err
returns-in_err-protected-clause-err g c =
    let p = err_from_is_err_and c.from_residual-in_err-protected.result c.from_residual-in_err-protected.ensures.1 in
    let w0 = within_start (within c.args.limits.nesting c.args.limits.layers false) _ _ _ _ _ _ _ _ c.in_ok-form.ensures.ok c.in_ok-count.ensures.ok c.in_ok-count.ensures.is in
    rw (p.1, p.2) (part_tells (within c.args.limits.nesting c.args.limits.layers false) c.args.limits.least_nesting g.R.Read.ends _ _ _ _ 0 _ _ _ no_trees (WrongPart (λ v e. WrongProtected c.args.limits.nesting v c.args.limits.layers e)) _ (omega arith) w0 (omega arith) (protected_place (within c.args.limits.nesting c.args.limits.layers false) _) c.in_err-protected.ensures.err)

pub returns-in_err-unprotected-clause-err : goal.returns-in_err-unprotected-clause-err
returns-in_err-unprotected-clause-err g c =
    let p = err_from_is_err_and c.from_residual-in_err-unprotected.result c.from_residual-in_err-unprotected.ensures.1 in
    let w0 = within_start (within c.args.limits.nesting c.args.limits.layers false) _ _ _ _ _ _ _ _ c.in_ok-form.ensures.ok c.in_ok-count.ensures.ok c.in_ok-count.ensures.is in
    let a = part_is _ _ _ _ _ _ c.in_ok-protected.ensures.ok in
    rw (p.1, p.2) (part_tells (within c.args.limits.nesting c.args.limits.layers false) c.args.limits.least_nesting g.R.Read.ends _ _ _ _ 0 _ _ _ (one_more a.0 no_trees) (WrongPart (λ v e. WrongHeader c.args.limits.nesting v c.args.limits.layers e)) _ (omega arith) (within_more (within c.args.limits.nesting c.args.limits.layers false) _ _ _ _ _ _ _ _ _ _ w0 a.1) (omega arith) (unprotected_place (within c.args.limits.nesting c.args.limits.layers false) _ a.0 (protected_view c.in_ok-protected.protected, a.2)) c.in_err-unprotected.ensures.err)

pub returns-in_err-size-clause-err : goal.returns-in_err-size-clause-err
returns-in_err-size-clause-err g c =
    let p = err_from_is_err_and c.from_residual-in_err-size.result c.from_residual-in_err-size.ensures.1 in
    let w0 = within_start (within c.args.limits.nesting c.args.limits.layers false) _ _ _ _ _ _ _ _ c.in_ok-form.ensures.ok c.in_ok-count.ensures.ok c.in_ok-count.ensures.is in
    let a = part_is _ _ _ _ _ _ c.in_ok-protected.ensures.ok in
    let b = part_is _ _ _ _ _ _ c.in_ok-unprotected.ensures.ok in
    let w2 = within_more (within c.args.limits.nesting c.args.limits.layers false) _ _ _ _ _ _ _ _ _ _ (within_more (within c.args.limits.nesting c.args.limits.layers false) _ _ _ _ _ _ _ _ _ _ w0 a.1) b.1 in
    rw (p.1, p.2) (size_tells (within c.args.limits.nesting c.args.limits.layers false) _ _ a.0 b.0 (protected_view c.in_ok-protected.protected, a.2) (header_view c.in_ok-unprotected.unprotected, b.2) c.args.limits.least_nesting g.R.Read.ends _ _ _ _ _ _ w2 c.in_err-size.ensures.err)

pub returns-in_err-begin-clause-err : goal.returns-in_err-begin-clause-err
returns-in_err-begin-clause-err g c =
    let p = err_from_is_err_and c.from_residual-in_err-begin.result c.from_residual-in_err-begin.ensures.1 in
    let w0 = within_start (within c.args.limits.nesting c.args.limits.layers false) _ _ _ _ _ _ _ _ c.in_ok-form.ensures.ok c.in_ok-count.ensures.ok c.in_ok-count.ensures.is in
    rw (p.1, p.2) (tt, refused_tells (within c.args.limits.nesting c.args.limits.layers false) _ _ _ _ _ _ _ w0)

pub returns-in_err-feed_front-clause-err : goal.returns-in_err-feed_front-clause-err
returns-in_err-feed_front-clause-err g c =
    let p = err_from_is_err_and c.from_residual-in_err-feed_front.result c.from_residual-in_err-feed_front.ensures.1 in
    let w0 = within_start (within c.args.limits.nesting c.args.limits.layers false) _ _ _ _ _ _ _ _ c.in_ok-form.ensures.ok c.in_ok-count.ensures.ok c.in_ok-count.ensures.is in
    rw (p.1, p.2) (tt, refused_tells (within c.args.limits.nesting c.args.limits.layers false) _ _ _ _ _ _ _ w0)

pub returns-in_err-written-clause-err : goal.returns-in_err-written-clause-err
returns-in_err-written-clause-err g c =
    let p = err_from_is_err_and c.from_residual-in_err-written.result c.from_residual-in_err-written.ensures.1 in
    let w0 = within_start (within c.args.limits.nesting c.args.limits.layers false) _ _ _ _ _ _ _ _ c.in_ok-form.ensures.ok c.in_ok-count.ensures.ok c.in_ok-count.ensures.is in
    let a = part_is _ _ _ _ _ _ c.in_ok-protected.ensures.ok in
    let b = part_is _ _ _ _ _ _ c.in_ok-unprotected.ensures.ok in
    let w2 = within_more (within c.args.limits.nesting c.args.limits.layers false) _ _ _ _ _ _ _ _ _ _ (within_more (within c.args.limits.nesting c.args.limits.layers false) _ _ _ _ _ _ _ _ _ _ w0 a.1) b.1 in
    rw (p.1, p.2) (part_tells (within c.args.limits.nesting c.args.limits.layers false) c.args.limits.least_nesting g.R.Read.ends _ _ _ _ _ _ _ _ (one_more a.0 (one_more b.0 no_trees)) NoneWrong _ (le_refl _) w2 (omega arith) (any_place (within c.args.limits.nesting c.args.limits.layers false) _ (one_more a.0 (one_more b.0 no_trees)) ((protected_view c.in_ok-protected.protected, a.2), (header_view c.in_ok-unprotected.unprotected, b.2), tt)) (short_tells_part _ g.R.Read.ends _ _ _ _ _ _ _ c.in_ok-size.ensures.ok c.in_err-written.ensures.err))

pub returns-in_err-signature-clause-err : goal.returns-in_err-signature-clause-err
returns-in_err-signature-clause-err g c =
    let p = err_from_is_err_and c.from_residual-in_err-signature.result c.from_residual-in_err-signature.ensures.1 in
    let w0 = within_start (within c.args.limits.nesting c.args.limits.layers false) _ _ _ _ _ _ _ _ c.in_ok-form.ensures.ok c.in_ok-count.ensures.ok c.in_ok-count.ensures.is in
    let a = part_is _ _ _ _ _ _ c.in_ok-protected.ensures.ok in
    let b = part_is _ _ _ _ _ _ c.in_ok-unprotected.ensures.ok in
    let w2 = within_more (within c.args.limits.nesting c.args.limits.layers false) _ _ _ _ _ _ _ _ _ _ (within_more (within c.args.limits.nesting c.args.limits.layers false) _ _ _ _ _ _ _ _ _ _ w0 a.1) b.1 in
    let paying = paid (within c.args.limits.nesting c.args.limits.layers false) _ _ _ _ _ _ _ _ _ _ _ _ _ _ w2 c.in_ok-size.ensures.ok c.in_ok-written.ensures.ok in
    let w3 = paid_within (within c.args.limits.nesting c.args.limits.layers false) _ _ _ _ _ _ _ _ _ _ paying in
    rw (p.1, p.2) (part_tells (within c.args.limits.nesting c.args.limits.layers false) c.args.limits.least_nesting g.R.Read.ends _ _ _ _ 0 _ _ _ (one_more a.0 (one_more b.0 (one_more (bytes w3.0) no_trees))) NoBytes _ (omega arith) w3.1 (omega arith) (signature_place (within c.args.limits.nesting c.args.limits.layers false) _ a.0 b.0 w3.0 (protected_view c.in_ok-protected.protected, a.2) (header_view c.in_ok-unprotected.unprotected, b.2)) c.in_err-signature.ensures.err)

pub returns-in_err-close-clause-err : goal.returns-in_err-close-clause-err
returns-in_err-close-clause-err g c =
    let p = err_from_is_err_and c.from_residual-in_err-close.result c.from_residual-in_err-close.ensures.1 in
    let w0 = within_start (within c.args.limits.nesting c.args.limits.layers false) _ _ _ _ _ _ _ _ c.in_ok-form.ensures.ok c.in_ok-count.ensures.ok c.in_ok-count.ensures.is in
    let a = part_is _ _ _ _ _ _ c.in_ok-protected.ensures.ok in
    let b = part_is _ _ _ _ _ _ c.in_ok-unprotected.ensures.ok in
    let w2 = within_more (within c.args.limits.nesting c.args.limits.layers false) _ _ _ _ _ _ _ _ _ _ (within_more (within c.args.limits.nesting c.args.limits.layers false) _ _ _ _ _ _ _ _ _ _ w0 a.1) b.1 in
    let paying = paid (within c.args.limits.nesting c.args.limits.layers false) _ _ _ _ _ _ _ _ _ _ _ _ _ _ w2 c.in_ok-size.ensures.ok c.in_ok-written.ensures.ok in
    let w3 = paid_within (within c.args.limits.nesting c.args.limits.layers false) _ _ _ _ _ _ _ _ _ _ paying in
    let w4 = within_more (within c.args.limits.nesting c.args.limits.layers false) _ _ _ _ _ _ _ _ _ _ w3.1 c.in_ok-signature.ensures.ok in
    rw (p.1, p.2) (close_tells (within c.args.limits.nesting c.args.limits.layers false) c.args.limits.least_nesting g.R.Read.ends _ _ _ _ _ _ _ _ _ w4 ((protected_view c.in_ok-protected.protected, a.2), (header_view c.in_ok-unprotected.unprotected, b.2), (refl, (refl, tt))) refl c.in_err-close.ensures.open c.in_err-close.ensures.err)

pub returns-clause-ok : goal.returns-clause-ok
returns-clause-ok g c =
    let a = part_is _ _ _ _ _ _ c.in_ok-protected.ensures.ok in
    let b = part_is _ _ _ _ _ _ c.in_ok-unprotected.ensures.ok in
    let w0 = within_start (within c.args.limits.nesting c.args.limits.layers false) _ _ _ _ _ _ _ _ c.in_ok-form.ensures.ok c.in_ok-count.ensures.ok c.in_ok-count.ensures.is in
    let w1 = within_more (within c.args.limits.nesting c.args.limits.layers false) _ _ _ _ _ _ _ _ _ _ w0 a.1 in
    let w2 = within_more (within c.args.limits.nesting c.args.limits.layers false) _ _ _ _ _ _ _ _ _ _ w1 b.1 in
    let paying = paid (within c.args.limits.nesting c.args.limits.layers false) _ _ _ _ _ _ _ _ _ _ _ _ _ _ w2 c.in_ok-size.ensures.ok c.in_ok-written.ensures.ok in
    let who = c.in_ok-written.ensures.who ∙ c.in_ok-feed_front.ensures.who ∙ c.in_ok-begin.ensures.who in
    let told = c.in_ok-written.ensures.told ∙ c.in_ok-feed_front.ensures.told ∙ c.in_ok-begin.ensures.told in
    let front = c.in_ok-feed_front.ensures.ok in
    let about = subject_is c.alone-about.result _ _ _ (c.alone-about.ensures.kind ∙ c.kind.ensures) c.alone-about.ensures.protected c.alone-about.ensures.unprotected c.alone-about.ensures.signer c.alone-about.ensures.recipients in
    checked (within c.args.limits.nesting c.args.limits.layers false) c.args.limits.least_nesting g.J.Judge.decided (g.J.Judge.yes (g.J.Judge.who c.args.judge.now)) c.args.aad.now _ _ _ _ _ _ _ _ _ _ _ _ _ _ _ _ _ _ _ _ _ _ _ _ a.2 b.2 (received_is (protected_view c.in_ok-protected.protected) _ c.in_ok-protected.ensures.received c.received.ensures) (in_pieces _ _ _ _ _ c.in_ok-written.ensures.pieces c.decide-yes.ensures.pieces)
    (λ payload len held.
    let h = held _ front.0 (front.1 _ c.in_ok-begin.ensures.holds) in
    let q = question_is _ _ _ _ _ _ about (sym (front.2 payload len)) c.deref.ensures.value in (
      asked_as g.J.Judge.yes _ _ _ _ _ (c.decide-yes.ensures.answer _ _ h) who q,
      asked_as g.J.Judge.decided _ _ _ _ _ (c.decide-yes.ensures.told _ _ h) told q,
    ))
    paying c.in_ok-signature.ensures.ok c.in_ok-close.ensures.ok

pub returns-clause-place : goal.returns-clause-place
returns-clause-place g c =
    let a = part_is _ _ _ _ _ _ c.in_ok-protected.ensures.ok in
    let b = part_is _ _ _ _ _ _ c.in_ok-unprotected.ensures.ok in
    placed _ (Tag (tag_number c.in_ok-form.form)) (Array c.in_ok-count.count) _ a.0 b.0 _ _ _ _ _ _ _ _ _ _ _ _ _ _ c.in_ok-form.ensures.ok c.in_ok-count.ensures.ok a.1 b.1 c.in_ok-size.ensures.ok c.offset.ensures refl

pub returns-in_err-form-clause-far : goal.returns-in_err-form-clause-far
returns-in_err-form-clause-far g c =
    let p = err_from_is_err_and c.from_residual.result c.from_residual.ensures.1 in
    rw (p.1, p.2) (far_more 0 _ _ _ (omega arith) c.in_err-form.ensures.far)

pub returns-in_err-count-clause-far : goal.returns-in_err-count-clause-far
returns-in_err-count-clause-far g c =
    let p = err_from_is_err_and c.from_residual-in_err-count.result c.from_residual-in_err-count.ensures.1 in
    rw (p.1, p.2) (far_more 0 _ _ _ (omega arith) c.in_err-count.ensures.far)

pub returns-in_err-protected-clause-far : goal.returns-in_err-protected-clause-far
returns-in_err-protected-clause-far g c =
    let p = err_from_is_err_and c.from_residual-in_err-protected.result c.from_residual-in_err-protected.ensures.1 in
    rw (p.1, p.2) (far_more 0 _ _ _ (omega arith) c.in_err-protected.ensures.far)

pub returns-in_err-unprotected-clause-far : goal.returns-in_err-unprotected-clause-far
returns-in_err-unprotected-clause-far g c =
    let p = err_from_is_err_and c.from_residual-in_err-unprotected.result c.from_residual-in_err-unprotected.ensures.1 in
    rw (p.1, p.2) (far_more 0 _ _ _ (omega arith) c.in_err-unprotected.ensures.far)

pub returns-in_err-size-clause-far : goal.returns-in_err-size-clause-far
returns-in_err-size-clause-far g c =
    let p = err_from_is_err_and c.from_residual-in_err-size.result c.from_residual-in_err-size.ensures.1 in
    rw (p.1, p.2) (far_more 0 _ _ _ (omega arith) c.in_err-size.ensures.far)

pub returns-in_err-signature-clause-far : goal.returns-in_err-signature-clause-far
returns-in_err-signature-clause-far g c =
    let p = err_from_is_err_and c.from_residual-in_err-signature.result c.from_residual-in_err-signature.ensures.1 in
    rw (p.1, p.2) (far_more 0 _ _ _ (omega arith) c.in_err-signature.ensures.far)

pub returns-in_err-close-clause-far : goal.returns-in_err-close-clause-far
returns-in_err-close-clause-far g c =
    let p = err_from_is_err_and c.from_residual-in_err-close.result c.from_residual-in_err-close.ensures.1 in
    rw (p.1, p.2) (far_more 0 _ _ _ (omega arith) c.in_err-close.ensures.far)

pub returns-in_err-written-clause-part : goal.returns-in_err-written-clause-part
returns-in_err-written-clause-part g c =
    let w0 = within_start (within c.args.limits.nesting c.args.limits.layers false) _ _ _ _ _ _ _ _ c.in_ok-form.ensures.ok c.in_ok-count.ensures.ok c.in_ok-count.ensures.is in
    let a = part_is _ _ _ _ _ _ c.in_ok-protected.ensures.ok in
    let b = part_is _ _ _ _ _ _ c.in_ok-unprotected.ensures.ok in
    let w2 = within_more (within c.args.limits.nesting c.args.limits.layers false) _ _ _ _ _ _ _ _ _ _ (within_more (within c.args.limits.nesting c.args.limits.layers false) _ _ _ _ _ _ _ _ _ _ w0 a.1) b.1 in
    copied_part g.W.Write (within c.args.limits.nesting c.args.limits.layers false) _ _ a.0 b.0 (protected_view c.in_ok-protected.protected, a.2) (header_view c.in_ok-unprotected.unprotected, b.2) _ _ _ _ _ _ _ _ _ w2 c.in_ok-size.ensures.ok c.in_err-written.ensures.part

pub returns-in_err-signature-clause-part : goal.returns-in_err-signature-clause-part
returns-in_err-signature-clause-part g c =
    let w0 = within_start (within c.args.limits.nesting c.args.limits.layers false) _ _ _ _ _ _ _ _ c.in_ok-form.ensures.ok c.in_ok-count.ensures.ok c.in_ok-count.ensures.is in
    let a = part_is _ _ _ _ _ _ c.in_ok-protected.ensures.ok in
    let b = part_is _ _ _ _ _ _ c.in_ok-unprotected.ensures.ok in
    let w2 = within_more (within c.args.limits.nesting c.args.limits.layers false) _ _ _ _ _ _ _ _ _ _ (within_more (within c.args.limits.nesting c.args.limits.layers false) _ _ _ _ _ _ _ _ _ _ w0 a.1) b.1 in
    copied_part g.W.Write (within c.args.limits.nesting c.args.limits.layers false) _ _ a.0 b.0 (protected_view c.in_ok-protected.protected, a.2) (header_view c.in_ok-unprotected.unprotected, b.2) _ _ _ _ _ _ _ _ _ w2 c.in_ok-size.ensures.ok c.in_ok-written.ensures.part

pub returns-in_err-close-clause-part : goal.returns-in_err-close-clause-part
returns-in_err-close-clause-part g c =
    let w0 = within_start (within c.args.limits.nesting c.args.limits.layers false) _ _ _ _ _ _ _ _ c.in_ok-form.ensures.ok c.in_ok-count.ensures.ok c.in_ok-count.ensures.is in
    let a = part_is _ _ _ _ _ _ c.in_ok-protected.ensures.ok in
    let b = part_is _ _ _ _ _ _ c.in_ok-unprotected.ensures.ok in
    let w2 = within_more (within c.args.limits.nesting c.args.limits.layers false) _ _ _ _ _ _ _ _ _ _ (within_more (within c.args.limits.nesting c.args.limits.layers false) _ _ _ _ _ _ _ _ _ _ w0 a.1) b.1 in
    copied_part g.W.Write (within c.args.limits.nesting c.args.limits.layers false) _ _ a.0 b.0 (protected_view c.in_ok-protected.protected, a.2) (header_view c.in_ok-unprotected.unprotected, b.2) _ _ _ _ _ _ _ _ _ w2 c.in_ok-size.ensures.ok c.in_ok-written.ensures.part

pub returns-clause-part : goal.returns-clause-part
returns-clause-part g c =
    let w0 = within_start (within c.args.limits.nesting c.args.limits.layers false) _ _ _ _ _ _ _ _ c.in_ok-form.ensures.ok c.in_ok-count.ensures.ok c.in_ok-count.ensures.is in
    let a = part_is _ _ _ _ _ _ c.in_ok-protected.ensures.ok in
    let b = part_is _ _ _ _ _ _ c.in_ok-unprotected.ensures.ok in
    let w2 = within_more (within c.args.limits.nesting c.args.limits.layers false) _ _ _ _ _ _ _ _ _ _ (within_more (within c.args.limits.nesting c.args.limits.layers false) _ _ _ _ _ _ _ _ _ _ w0 a.1) b.1 in
    copied_part g.W.Write (within c.args.limits.nesting c.args.limits.layers false) _ _ a.0 b.0 (protected_view c.in_ok-protected.protected, a.2) (header_view c.in_ok-unprotected.unprotected, b.2) _ _ _ _ _ _ _ _ _ w2 c.in_ok-size.ensures.ok c.in_ok-written.ensures.part
