use Rattle.std.proofs.Common.{List, ℕ, Bor, rules, sym, subst, ◌∙◌}
use Rattle.std.proofs.lemmas.Fn.{always_returns_same}
use Rattle.cose_gate_records.specs.Order.{bytes_cmp}
use Rattle.cose_gate_records.proofs.Order.{IsFound, found_by_halves, same_among}
use Rattle.cose_gate_records.proofs.ordered.Ordered.has.Goals as goal

pub returns : goal.returns
returns c =
    let self = c.args.self.now in
    let key = c.args.key.now in
    let found = c.binary_search_by in
    let there = found.ensures.position (λ p. bytes_cmp p.now key) (always_returns_same _ _ _ (λ a r g called. search rules)) in
    c.is_ok.ensures.value ∙ (found_by_halves self.places.items key found.result self.ordered
    (subst (λ (z : List (Bor (List ℕ))). IsFound key z found.result) c.as_slice-sorted.ensures.value (found.ensures.bound, there))
    ∙ sym (same_among self.received.items self.places.items key self.same))
