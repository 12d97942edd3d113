use Rattle.std.proofs.Common.{◌≡◌, ◌<◌, List, OnErr, length, get_or, true, false, refl, sym, ap, subst, ◌∙◌}
use Rattle.std.proofs.lemmas.List.{drop_all}
use Rattle.coset_headers.specs.View.{signature_view}
use Rattle.coset_signed.specs.View.{sign_view}
use Rattle.cose_gate_core.specs.Asked.{asked, first_no, folded_over, ToldPart}
use Rattle.cose_gate_core.specs.Questions.{Question, one_question}
use Rattle.cose_gate_core.proofs.InOrder.{asking_start, asking_yes, asking_no, told_no, asking_done, told_all, told_part, on_err_is, rest_step, each_question}
use Rattle.cose_gate_core.proofs.sign.CoseSignMessage.ask.Goals as goal

pub loop-index-init : goal.loop-index-init
loop-index-init g c = record { who = refl; received = c.requires.1; asking = asking_start _ _ _ _ }

pub ask_signature-requires-clause-body : goal.ask_signature-requires-clause-body
ask_signature-requires-clause-body g c = c.requires.0

pub ask_signature-requires-clause-signer : goal.ask_signature-requires-clause-signer
ask_signature-requires-clause-signer g c =
    let value = c.deref-signature-items.ensures.value in
    let item = c.signature-item in
    let h : c.loop-index.index < length c.args.self.now.signatures.items = rw value at c.loop-index-test.true in
    let e : item.result ≡ get_or c.args.self.now.signatures.items c.loop-index.index item.result = rw (← value) item.is in
    (rw (rest_step signature_view _ _ item.result h e) at c.loop-index.invariant.received).0

pub returns-in_err-ask_signature-clause-err : goal.returns-in_err-ask_signature-clause-err
returns-in_err-ask_signature-clause-err g c =
    let j = g.J.Judge in
    let m = sign_view c.args.self.now in
    let value = c.deref-signature-items.ensures.value in
    let item = c.signature-item in
    let h : c.loop-index.index < length c.args.self.now.signatures.items = rw value at c.loop-index-test.true in
    let e : item.result ≡ get_or c.args.self.now.signatures.items c.loop-index.index item.result = rw (← value) item.is in
    let told = told_part j.decided (j.yes (j.who c.args.judge.now)) _ _ _ _ _ _ (rw (rest_step signature_view _ _ item.result h e) at c.loop-index.invariant.asking) (j.told c.ask_signature.new.judge) c.in_err-ask_signature.ensures.err in
    subst (λ (qs : List Question). OnErr c.from_residual.result (ToldPart j.decided (j.told c.args.judge.now) (j.told c.ask_signature.new.judge) (asked (j.yes (j.who c.args.judge.now)) qs)))
    (sym (each_question m c.args.aad.now c.requires.0 m.signatures c.requires.1)) (on_err_is c.from_residual.result told)

pub returns-then-not-branch-clause-answer : goal.returns-then-not-branch-clause-answer
returns-then-not-branch-clause-answer g c =
    let j = g.J.Judge in
    let m = sign_view c.args.self.now in
    let inv = c.loop-index.invariant in
    let value = c.deref-signature-items.ensures.value in
    let item = c.signature-item in
    let ens = c.in_ok-ask_signature.ensures in
    let h : c.loop-index.index < length c.args.self.now.signatures.items = rw value at c.loop-index-test.true in
    let e : item.result ≡ get_or c.args.self.now.signatures.items c.loop-index.index item.result = rw (← value) item.is in
    let q = one_question m c.args.aad.now (signature_view item.result) in
    let refused : false ≡ j.yes (j.who c.args.judge.now) q = sym c.if-not-branch.true ∙ ens.answer ∙ ap (λ w. j.yes w q) inv.who in
    asking_no j.decided (j.yes (j.who c.args.judge.now)) _ _ _ _ _ _ (rw (rest_step signature_view _ _ item.result h e) at inv.asking) refused
    ∙ ap (first_no (j.yes (j.who c.args.judge.now))) (sym (each_question m c.args.aad.now c.requires.0 m.signatures c.requires.1))

pub returns-then-not-branch-clause-told : goal.returns-then-not-branch-clause-told
returns-then-not-branch-clause-told g c =
    let j = g.J.Judge in
    let m = sign_view c.args.self.now in
    let inv = c.loop-index.invariant in
    let value = c.deref-signature-items.ensures.value in
    let item = c.signature-item in
    let ens = c.in_ok-ask_signature.ensures in
    let h : c.loop-index.index < length c.args.self.now.signatures.items = rw value at c.loop-index-test.true in
    let e : item.result ≡ get_or c.args.self.now.signatures.items c.loop-index.index item.result = rw (← value) item.is in
    let q = one_question m c.args.aad.now (signature_view item.result) in
    let refused : false ≡ j.yes (j.who c.args.judge.now) q = sym c.if-not-branch.true ∙ ens.answer ∙ ap (λ w. j.yes w q) inv.who in
    told_no j.decided (j.yes (j.who c.args.judge.now)) _ _ _ _ _ _ (rw (rest_step signature_view _ _ item.result h e) at inv.asking) refused _ ens.told
    ∙ ap (λ qs. folded_over j.decided (j.told c.args.judge.now) (asked (j.yes (j.who c.args.judge.now)) qs)) (sym (each_question m c.args.aad.now c.requires.0 m.signatures c.requires.1))

pub loop-index-preserved : goal.loop-index-preserved
loop-index-preserved g c =
    let j = g.J.Judge in
    let m = sign_view c.args.self.now in
    let inv = c.loop-index.invariant in
    let value = c.deref-signature-items.ensures.value in
    let item = c.signature-item in
    let ens = c.in_ok-ask_signature.ensures in
    let h : c.loop-index.index < length c.args.self.now.signatures.items = rw value at c.loop-index-test.true in
    let e : item.result ≡ get_or c.args.self.now.signatures.items c.loop-index.index item.result = rw (← value) item.is in
    let q = one_question m c.args.aad.now (signature_view item.result) in
    let allowed : true ≡ j.yes (j.who c.args.judge.now) q = sym c.if-not-branch.false ∙ ens.answer ∙ ap (λ w. j.yes w q) inv.who in
    record {
      who = ens.who ∙ inv.who;
      received = (rw (rest_step signature_view _ _ item.result h e) at inv.received).1;
      asking = asking_yes j.decided (j.yes (j.who c.args.judge.now)) _ _ _ _ _ _ (rw (rest_step signature_view _ _ item.result h e) at inv.asking) allowed _ ens.told;
    }

pub returns-clause-answer : goal.returns-clause-answer
returns-clause-answer g c =
    let j = g.J.Judge in
    let m = sign_view c.args.self.now in
    let none = drop_all c.loop-index.index c.args.self.now.signatures.items (rw c.deref-signature-items.ensures.value at c.loop-index-test.false) in
    asking_done j.decided (j.yes (j.who c.args.judge.now)) _ _ _ _ (rw none at c.loop-index.invariant.asking)
    ∙ ap (first_no (j.yes (j.who c.args.judge.now))) (sym (each_question m c.args.aad.now c.requires.0 m.signatures c.requires.1))

pub returns-clause-told : goal.returns-clause-told
returns-clause-told g c =
    let j = g.J.Judge in
    let m = sign_view c.args.self.now in
    let none = drop_all c.loop-index.index c.args.self.now.signatures.items (rw c.deref-signature-items.ensures.value at c.loop-index-test.false) in
    told_all j.decided (j.yes (j.who c.args.judge.now)) _ _ _ _ (rw none at c.loop-index.invariant.asking)
    ∙ ap (λ qs. folded_over j.decided (j.told c.args.judge.now) (asked (j.yes (j.who c.args.judge.now)) qs)) (sym (each_question m c.args.aad.now c.requires.0 m.signatures c.requires.1))
