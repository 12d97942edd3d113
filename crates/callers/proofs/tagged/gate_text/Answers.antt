use Rattle.std.proofs.Common.{◌≡◌, ℕ, List, [], ◌++◌, ap, ◌∙◌}
use Rattle.ciborium_value.specs.Encoding.{enc}
use Rattle.callers.specs.Tagged.{tagged_put}
use Rattle.callers.proofs.Tagging.{gate_text}
use Rattle.callers.proofs.tagged.gate_text.Goals as goal

pub returns-in-Ok : goal.returns-in-Ok
returns-in-Ok c =
    let signed = c.put_is_written.ensures in
    let maced = c.put_is_written-2.ensures in
    let new : c.new-out.result.inner.items ≡ [] = (λ i. (c.new-out.ensures.inner i).items) ∙ c.new.ensures.items in
    (λ i. (c.into_inner.ensures i).items)
    ∙ (c.in-Ok.ensures.ok
    ∙ (ap (λ (z : List ℕ). z ++ enc (tagged_put c.args.message)) new
    ∙ gate_text signed.sign1 maced.mac0 signed.sign maced.mac c.args.message c.requires))
