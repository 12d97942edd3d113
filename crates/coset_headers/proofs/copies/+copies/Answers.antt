use Rattle.std.proofs.Common.{◌≡◌, ◌-◌, ◌∷◌, [], arith, length, refl, ap, ◌∙◌, length-append}
use Rattle.coset_headers.specs.Copies.{unsigned}
use Rattle.coset_headers.specs.View.{signature_view}
use Rattle.coset_headers.proofs.Alike.{copied_more, filled, last_of, last_replaced}
use Rattle.coset_headers.proofs.copies.+copies.Goals as goal

pub signatures-preserved : goal.signatures-preserved
signatures-preserved t c =
    let pushed = c.in_ok-push_plain.ensures in
    let one : c.len-last.result - 1 ≡ length c.signatures.copies.items =
    (let e = ap length pushed.1 in omega (arith, e, c.push_plain.new.copies.ok.0, c.len-last.ensures, length-append c.signatures.copies.items (pushed.0 ∷ []))) in
    let two : c.len-last-in-signatures.result - 1 ≡ length c.signatures.copies.items =
    (let e = ap length pushed.1 in omega (arith, e, c.push_plain.new.copies.ok.0, c.len-last-in-signatures.ensures, length-append c.signatures.copies.items (pushed.0 ∷ []))) in
    let copy = c.index_mut.result.now in
    let same : copy ≡ pushed.0 = c.index_mut.ensures.value ∙ last_of c.signatures.copies.items c.push_plain.new.copies.items pushed.0 copy _ pushed.1 one in
    let again = c.index_mut-in-signatures.result.now in
    let is : signature_view copy ≡ unsigned (signature_view c.signature-item.result) = ap signature_view same ∙ pushed.2 in
    copied_more c.args.copies.now.items c.signatures.copies.items c.push_plain.new.copies.items c.args.signatures.now c.signatures.signature-index _ _ pushed.0 _ _ c.signature-item.result pushed.1 one two
    c.signatures.invariant c.signatures-test.true c.signature-item.is
    (filled copy c.signature-item.result is _ _ again _ _ _ _ _
    (c.index_mut-in-signatures.ensures.value ∙ last_replaced c.signatures.copies.items c.push_plain.new.copies.items pushed.0 _ again _ _ pushed.1 one two) refl refl refl refl refl refl refl refl refl refl
    c.in_ok-copy_signatures.ensures c.deref.ensures.value c.in_ok-copy_signatures-2.ensures c.deref-in-signatures.ensures.value)
