use Rattle.std.proofs.Common.{◌++◌, flat_map}
use Rattle.std.proofs.lemmas.Result.{IfOk-equal}
use Rattle.cose_ruled.specs.Told.{parts_in}
use Rattle.cose_ruled.proofs.Keeping.{body_is}
use Rattle.cose_ruled.proofs.questions.Kept.append_body.Goals as goal

pub returns-in_ok-append-in-Passed : goal.returns-in_ok-append-in-Passed
returns-in_ok-append-in-Passed c =
    let self = c.args.self.now in
    let parts = parts_in self.told in
    rw c.in-Passed.is (IfOk-equal c.append_all.result c.append_all.new.text.items (c.append.new.text.items ++ flat_map (λ v. v.items) c.deref.result.now) _
    c.append_all.ensures
    (body_is c.args.text.now.items c.base.result.now c.append.new.text.items self.texts.items c.deref.result.now parts self.kept.1.1
    c.base.ensures c.in_ok-append-in-Passed.ensures c.deref.ensures.value))
