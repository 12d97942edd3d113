use Rattle.std.proofs.Common.{◌∙◌, ap, sym, refl, length, arith}
use Rattle.coset_headers.proofs.SameParts.{unlike_long, unlike_protected, unlike_unprotected, like_first}
use Rattle.coset_headers.proofs.equal.+equality.Goals as goal

pub returns-then-a-b : goal.returns-then-a-b
returns-then-a-b t c = unlike_long c.args.a.now c.args.b.now c.if-a-b.true

pub returns-then-not-same_signatures : goal.returns-then-not-same_signatures
returns-then-not-same_signatures t c =
    let steps = c.in-Some.ensures.steps in
    unlike_protected _ _ _ _ c.in-Some.x.now c.in-Some.y.now _ _ _ _ steps.0 steps.1 c.if-not-same_fields.ensures c.deref.ensures.value c.deref-in-loop-x.ensures.value refl refl
    c.if-not-same_signatures.ensures ∙ sym c.loop-x.invariant.same

pub returns-then-not-same_signatures-2 : goal.returns-then-not-same_signatures-2
returns-then-not-same_signatures-2 t c =
    let steps = c.in-Some.ensures.steps in
    unlike_unprotected _ _ _ _ c.in-Some.x.now c.in-Some.y.now _ _ _ _ steps.0 steps.1 c.if-not-same_fields.ensures c.deref.ensures.value c.deref-in-loop-x.ensures.value
    c.deref-in-loop-x-2.ensures.value c.deref-in-loop-x-3.ensures.value c.if-not-same_signatures.ensures c.if-not-same_signatures-2.ensures ∙ sym c.loop-x.invariant.same

pub loop-x-preserved : goal.loop-x-preserved
loop-x-preserved t c =
    let steps = c.in-Some.ensures.steps in
    record {
      same = c.loop-x.invariant.same ∙ like_first _ _ _ _ c.in-Some.x.now c.in-Some.y.now _ _ _ _ steps.0 steps.1 c.if-not-same_fields.ensures c.deref.ensures.value
          c.deref-in-loop-x.ensures.value c.deref-in-loop-x-2.ensures.value c.deref-in-loop-x-3.ensures.value c.if-not-same_signatures.ensures c.if-not-same_signatures-2.ensures;
      long = let a = ap length steps.0 in let b = ap length steps.1 in omega (arith, a, b, c.loop-x.invariant.long);
    }
