use Rattle.std.proofs.Common.{◌≡◌, length, inl, refl, ◌∙◌, arith}
use Rattle.cose_gate_c.proofs.Written.{left_out, put_in, of_some}
use Rattle.cose_gate_c.proofs.question_writing.write_with.Goals as goal

pub returns-then-question-sizes : goal.returns-then-question-sizes
returns-then-question-sizes c = λ q h p known covered all.
    let l : c.len.result ≡ length c.args.keeper.now.front.items = grind (arith, c.len.ensures) in
    inl (left_out q h p c.args.question.now c.args.question.now c.args.payload c.in-Some.sizes c.args.length c.told.result
    c.args.keeper.now.front.items c.args.keeper.now.kept.items c.args.signature.now c.args.keeper.now.covered (of_some _ _ known) covered all (rw l at c.in-Some.ensures)
    c.told.ensures.fault c.told.ensures.length c.told.ensures.payload c.told.ensures.payload_length c.told.ensures.head c.told.ensures.question_length
    c.if-question-sizes.true c.told.ensures.status refl)

pub returns-in-Ok : goal.returns-in-Ok
returns-in-Ok c = λ q h p known covered all.
    let l : c.len.result ≡ length c.args.keeper.now.front.items = grind (arith, c.len.ensures) in
    let k : c.len-2.result ≡ length c.args.keeper.now.kept.items = grind (arith, c.len-2.ensures, c.deref.ensures.len, c.deref.ensures.value) in
    let told = c.told-in-Ok.ensures in
    inl (put_in q h p c.args.question.now c.fill.new.question c.args.payload c.in-Some.sizes c.args.length c.told-in-Ok.result
    c.args.keeper.now.front.items c.args.keeper.now.kept.items c.args.signature.now c.args.keeper.now.covered (of_some _ _ known) covered all (rw l at c.in-Some.ensures)
    told.fault told.length told.payload told.payload_length told.head told.question_length
    c.if-question-sizes.false told.status c.in-Ok.text.items _ refl
    (c.in-Ok.ensures.text ∙ rw (c.deref-2.ensures.value, c.deref.ensures.value, c.min.ensures, c.saturating_sub-count.ensures, k) refl)
    (c.fill.ensures ∙ rw c.deref-in-Ok.ensures.value refl))
