use Rattle.std.proofs.Common.{◌≡◌, ◌++◌, ℕ, List, sym, subst, ◌∙◌, arith}
use Rattle.std.proofs.lemmas.Result.{IfErr-weaker, on_ok_weaker}
use Rattle.ciborium_ll.specs.Views.{seen}
use Rattle.cbor_walk.specs.Walking.{wanted_by}
use Rattle.cose_sift.specs.Taking.{due_by, Held}
use Rattle.cbor_walk.proofs.Steps.{walk_begins}
use Rattle.cose_sift.proofs.Takes.{head_fails, walk_fails, head_goes_on, body_begins}
use Rattle.cose_sift.proofs.Deep.{not_deep, head_not_deep, walk_deep}
use Rattle.cose_sift.proofs.taking.Taking.step.Goals as goal

pub returns-in-Err-clause-err : goal.returns-in-Err-clause-err
returns-in-Err-clause-err g c =
    let none : c.args.self.now.body ≡ 0 = omega arith in
    head_fails (due_by c.args.self.now) (body_begins (wanted_by c.args.self.now.walk) c.args.self.now.body none (λ i w. walk_begins c.args.self.now.walk i (c.requires.due none) w))
    (seen g.R.Read c.args.decoder.now) (seen g.R.Read c.take_head.new.decoder) c.in-Err.stop c.in-Err.ensures.err

pub returns-in-Err-take-clause-err : goal.returns-in-Err-take-clause-err
returns-in-Err-take-clause-err g c =
    let none : c.args.self.now.body ≡ 0 = omega arith in
    let t = c.in-Ok.ensures.ok in
    walk_fails (wanted_by c.args.self.now.walk) c.args.self.now.body (seen g.R.Read c.args.decoder.now) (seen g.R.Read c.take_head.new.decoder) c.in-Ok.header c.offset-at.result c.in-Err-take.fault c.walk_fault.result t.bytes none
    c.walk_fault.ensures c.offset-at.ensures t.has.1 t.taken t.grown c.in-Err-take.ensures.syntax

pub returns-clause-ok : goal.returns-clause-ok
returns-clause-ok g c =
    let none : c.args.self.now.body ≡ 0 = omega arith in
    let t = c.in-Ok.ensures.ok in
    on_ok_weaker c.keep.result (λ held. record {
      bytes = t.bytes;
      has = (
        rw (c.keep.ensures.walk, c.keep.ensures.body, c.body_of-self.ensures) (head_goes_on (wanted_by c.args.self.now.walk) _ c.args.self.now.body _ c.in-Ok.header t.bytes none t.has.1 c.in-Ok-take.ensures.ok),
        λ y h. subst (λ (z : List ℕ). Held c.keep.new.self (y ++ z)) (c.as_slice.ensures.value ∙ sym t.has.0) (held y h),
      );
      taken = t.taken;
      grown = t.grown;
    }) c.keep.ensures.ok

pub returns-clause-sound : goal.returns-clause-sound
returns-clause-sound g c = on_ok_weaker c.keep.result (λ held s. rw c.keep.ensures.walk (c.in-Ok-take.ensures.sound s)) c.keep.ensures.ok

pub returns-then-self-gt0-clause-deep : goal.returns-then-self-gt0-clause-deep
returns-then-self-gt0-clause-deep g c = λ s. IfErr-weaker c.take_body.result _ _ (λ stop n. not_deep (due_by c.args.self.now) c.args.self.now.walk.most (seen g.R.Read c.args.decoder.now) (seen g.R.Read c.take_body.new.decoder) stop n) c.take_body.ensures.deep

pub returns-in-Err-clause-deep : goal.returns-in-Err-clause-deep
returns-in-Err-clause-deep g c = λ s. head_not_deep (due_by c.args.self.now) c.args.self.now.walk.most (seen g.R.Read c.args.decoder.now) (seen g.R.Read c.take_head.new.decoder) c.in-Err.stop c.in-Err.ensures.err

pub returns-in-Err-take-clause-deep : goal.returns-in-Err-take-clause-deep
returns-in-Err-take-clause-deep g c = λ s.
    let none : c.args.self.now.body ≡ 0 = omega arith in
    let t = c.in-Ok.ensures.ok in
    walk_deep (wanted_by c.args.self.now.walk) c.args.self.now.walk.most c.args.self.now.body (seen g.R.Read c.args.decoder.now) (seen g.R.Read c.take_head.new.decoder) c.in-Ok.header c.offset-at.result c.in-Err-take.fault c.walk_fault.result t.bytes none
    c.walk_fault.ensures t.has.1 t.taken t.grown (c.in-Err-take.ensures.deep s)
