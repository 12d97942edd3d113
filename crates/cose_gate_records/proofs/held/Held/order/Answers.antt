use Rattle.std.proofs.Common.{◌≡◌, List, ℕ, sym, subst, ◌∙◌}
use Rattle.cose_gate_records.specs.Framing.{framed}
use Rattle.cose_gate_records.proofs.Order.{TellsOf, told_by_signature}
use Rattle.cose_gate_records.proofs.held.Held.order.Goals as goal

pub returns : goal.returns
returns c =
    let key = c.args.key.now in
    let rest = c.order_to-order.result.1.now in
    let more = c.order_to_framed-order.result.1.now in
    c.then.ensures ∙ told_by_signature key rest more c.order_to_framed-order-2.result.1.now
    c.args.self.now.front.items c.args.self.now.covered.items c.args.signature.now
    c.order_to-order.result.0 c.order_to_framed-order.result.0 c.order_to_framed-order-2.result.0 c.cmp.result
    (sym c.is_ne.ensures ∙ c.if-is_ne.false)
    (subst (λ (z : List ℕ). TellsOf key c.order_to-order.result.0 rest z) c.deref.ensures.value c.order_to-order.ensures)
    (sym c.is_ne-2.ensures ∙ c.if-is_ne-2.false)
    (subst (λ (z : List ℕ). TellsOf rest c.order_to_framed-order.result.0 more (framed z)) c.deref-2.ensures.value c.order_to_framed-order.ensures)
    c.order_to_framed-order-2.ensures c.cmp.ensures
