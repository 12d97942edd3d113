use Rattle.std.proofs.Common.{◌∙◌, ap, subst, List, ℕ, OnOk, OnErr}
use Rattle.ciborium_value.specs.Folding.{without_zeros}
use Rattle.ciborium_value.specs.Tree.{tag, bytes}
use Rattle.ciborium_traits.specs.Events.{events, Puts, Stops}
use Rattle.ciborium_traits.proofs.wide.put_bignum.Goals as goal

pub returns-clause-ok : goal.returns-clause-ok
returns-clause-ok g c =
    let P : List ℕ → Type 0 = λ b. OnOk c.put_tagged.result (Puts g.S.Sink.due c.args.sink.now (events (tag c.args.tag (bytes b))) c.put_tagged.new.sink) in
    subst P (c.stripped.ensures ∙ ap without_zeros c.to_be_bytes.ensures) c.put_tagged.ensures.ok

pub returns-clause-err : goal.returns-clause-err
returns-clause-err g c =
    let P : List ℕ → Type 0 = λ b. OnErr c.put_tagged.result (Stops g.S.Sink.due g.S.Sink.torn c.args.sink.now (events (tag c.args.tag (bytes b))) c.put_tagged.new.sink) in
    subst P (c.stripped.ensures ∙ ap without_zeros c.to_be_bytes.ensures) c.put_tagged.ensures.err
