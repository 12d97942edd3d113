use Rattle.std.proofs.Common.{◌∷◌, [], arith, length-append, rules}
use Rattle.std.proofs.lemmas.Slice.Zip.{zip_turn, zip_end}
use Rattle.cose_hmac.proofs.Differences.{differs-more, differs-end}
use Rattle.cose_hmac.proofs.tag.same_tag.Goals as goal

pub loop-x-preserved : goal.loop-x-preserved
loop-x-preserved c =
    let t = zip_turn c.args.a.now c.args.b.now c.loop-x.yielded c.into_iter-x-iterator.result c.loop-x.x-iterator c.next.new.self c.next.result (search rules) (search rules) c.loop-x.yielded_by (c.in-Some.x, c.in-Some.y) c.in-Some.is c.next.ensures.steps in
    differs-more _ _ (omega (arith, length-append c.loop-x.yielded ((c.in-Some.x, c.in-Some.y) ∷ []))) c.loop-x.invariant (t.2 0) (t.3 0)

pub returns-then-a-b : goal.returns-then-a-b
returns-then-a-b c =
    let n = zip_end c.args.a.now c.args.b.now c.loop-x.yielded c.into_iter-x-iterator.result c.loop-x.x-iterator c.next.new.self c.next.result (search rules) (search rules) c.loop-x.yielded_by c.in-None.is c.next.ensures.steps in
    differs-end c.loop-x.invariant n c.if-a-b.true
