use Rattle.std.proofs.Common.{◌≡◌, ◌∙◌, IfOk, drop, sym, subst}
use Rattle.std.specs.Vec.Iter.{into_iter_items, into_iter_steps}
use Rattle.std.proofs.lemmas.Iterator.{items_from_collect}
use Rattle.std.proofs.lemmas.Iterator.Adapters.{YieldsList-from_skip}
use Rattle.std.proofs.lemmas.Iterator.Consumers.{YieldsList-from_shown}
use Rattle.cose_gate_command.proofs.starting.words_after_first.Goals as goal

-- the iterator gives what it has, and all but the first is collected
pub returns : goal.returns
returns c =
    let all = YieldsList-from_shown into_iter_steps (λ x. x) into_iter_items (λ s t h. sym s.rest.ok.0 ∙ h.0) (λ s x t h. h.0) _ in
    subst (λ it. IfOk c.collect.result (λ words. words.items ≡ drop 1 (into_iter_items it))) c.skip.ensures.source
    (items_from_collect _ c.collect.ensures.ran (YieldsList-from_skip 1 all c.skip.ensures.count))
