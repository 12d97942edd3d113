use Rattle.std.proofs.Common.{refl, sym, ◌∙◌}
use Rattle.cose_stream.specs.Putting.{refused, partless, begun}
use Rattle.cose_stream.proofs.Steps.{then_does}
use Rattle.cose_stream.proofs.putting.stream_into.Goals as goal

pub returns-in-Some-clause-ran : goal.returns-in-Some-clause-ran
returns-in-Some-clause-ran g c =
    refused c.look-under.result c.in-Some.why (sym c.refusal.ensures ∙ c.in-Some.is) c.unread.ensures.end refl c.look-under.ensures c.unread.ensures.others

pub returns-in-Ok-clause-ran : goal.returns-in-Ok-clause-ran
returns-in-Ok-clause-ran g c =
    rw c.fill.ensures.others (begun c.look-under.result c.in-Ok.part.file _ (sym c.refusal.ensures ∙ c.in-None.is) c.in-Ok.ensures.number (then_does _ _ _ _ _ c.look-under.ensures c.in-Ok.ensures.made) c.in-Ok.ensures.empty (rw c.in-Ok.ensures.name at c.fill.ensures.ran))

pub returns-in-Err-clause-ran : goal.returns-in-Err-clause-ran
returns-in-Err-clause-ran g c =
    let e = c.in-Err.ensures.err in
    partless c.look-under.result e.0 c.in-Err.why (sym c.refusal.ensures ∙ c.in-None.is) e.1.0 c.unread-in-Err.ensures.end refl (then_does _ _ _ _ _ c.look-under.ensures e.1.1) c.unread-in-Err.ensures.others
