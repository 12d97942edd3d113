use Rattle.cose_gate.proofs.Fed.{fronted}
use Rattle.std.proofs.Common.{refl, ◌∙◌}
use Rattle.cose_gate.proofs.feeding.feed_front.Goals as goal

pub returns-clause-ok : goal.returns-clause-ok
returns-clause-ok g c = (
  _,
  (λ subject h. c.in_ok-feed-6.ensures.holds subject _ (c.in_ok-feed-5.ensures.holds subject _ (c.in_ok-feed-4.ensures.holds subject _ (c.in_ok-feed-3.ensures.holds subject _ (c.in_ok-feed-2.ensures.holds subject _ (c.in_ok-feed.ensures.holds subject _ h)))))),
  (λ payload e. c.prefix.ensures c.args.protected.now c.args.aad.now payload
      ∙ fronted _ _ _ _ _ _ payload _ c.args.size (c.as_slice.ensures ∙ c.bytes_title.ensures) refl (c.as_slice-2.ensures ∙ c.bytes_title-2.ensures) (c.as_slice-3.ensures ∙ c.bytes_title-3.ensures) e),
)
