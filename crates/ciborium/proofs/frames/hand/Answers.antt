use Rattle.std.proofs.Common.{◌≡◌, ◌∷◌, ◌∙◌, arith, length, reverse, sym}
use Rattle.ciborium.proofs.FrameLemmas.{items_taken, entries_taken, array_is_closed, array_pops, tag_pops, tag_folds, goes_on, handed_on}
use Rattle.ciborium.proofs.TurnLemmas.{staged_on, staged_half, fails_on, empty, tag_last}
use Rattle.ciborium.proofs.Halting.{fold_not_long}
use Rattle.ciborium.proofs.Passing.{passed_on}
use Rattle.ciborium.proofs.frames.hand.Goals as goal

pub levels-init : goal.levels-init
levels-init g c = record { up = record { step = λ k limit from now b s. s }; fewer = omega arith }

pub returns-then-not-all_read-clause-ok : goal.returns-then-not-all_read-clause-ok
returns-then-not-all_read-clause-ok g c =
    handed_on _ (c.levels.top ∷ reverse c.levels.below.items) _ _ c.levels.value _ _ c.levels.exact.holds _ c.levels.invariant.up
    (items_taken c.levels.top (reverse c.levels.below.items) c.in-Items.list c.put_item.new.list c.levels.value c.levels.exact.holds c.in-Items.is c.put_item.ensures.count c.in_ok-put_item-in-Items.ensures.ok)

pub returns-in-None-clause-ok : goal.returns-in-None-clause-ok
returns-in-None-clause-ok g c =
    rw (empty c.pop.new.self.items (omega (arith, c.in-None.ensures.cases.1, c.pop.new.self.ok.0)) ∙ sym (empty c.levels.below.items (omega (arith, c.in-None.ensures.cases.0, c.levels.below.ok.0))))
    (handed_on _ (c.levels.top ∷ reverse c.levels.below.items) _ _ c.levels.value _ _ c.levels.exact.holds _ c.levels.invariant.up
    (items_taken c.levels.top (reverse c.levels.below.items) c.in-Items.list c.put_item.new.list c.levels.value c.levels.exact.holds c.in-Items.is c.put_item.ensures.count c.in_ok-put_item-in-Items.ensures.ok))

pub closed-value-requires : goal.closed-value-requires
closed-value-requires g c =
    let n : c.len.result ≡ length c.put_item.new.list.items.items = omega (arith, c.len.ensures, c.put_item.new.list.items.ok.0) in
    rw c.replace.ensures.value (array_is_closed c.levels.top (reverse c.levels.below.items) c.in-Items.list c.put_item.new.list c.levels.value c.len.result c.in-Items.is c.put_item.ensures.count c.in_ok-put_item-in-Items.ensures.ok n
    (sym c.all_read.ensures ∙ c.if-not-all_read.false) (staged_on _ _ _ _ _ _ c.requires.staged c.levels.invariant.up))

pub levels-preserved-in-Some : goal.levels-preserved-in-Some
levels-preserved-in-Some g c =
    let n : c.len.result ≡ length c.put_item.new.list.items.items = omega (arith, c.len.ensures, c.put_item.new.list.items.ok.0) in
    record {
      up = goes_on _ (c.levels.top ∷ reverse c.levels.below.items) _ _ c.levels.value _ _ c.levels.exact.holds _ c.levels.invariant.up
          (rw c.replace.ensures.after (array_pops c.levels.top c.in-Some.frame c.levels.below.items c.pop.new.self.items c.in-Items.list c.put_item.new.list c.levels.value c.closed-value.result c.levels.exact.holds c.len.result c.in-Items.is c.in-Some.ensures.items c.put_item.ensures.count c.in_ok-put_item-in-Items.ensures.ok n
          (sym c.all_read.ensures ∙ c.if-not-all_read.false) (rw c.replace.ensures.value at c.closed-value.ensures)));
      fewer = omega (arith, c.in-Some.ensures.cases, c.levels.invariant.fewer, c.levels.below.ok.0, c.pop.new.self.ok.0);
    }

pub put_half-requires : goal.put_half-requires
put_half-requires g c = record { half = staged_half c.levels.top (reverse c.levels.below.items) c.levels.value c.in-Entries.list c.in-Entries.is (staged_on _ _ _ _ _ _ c.requires.staged c.levels.invariant.up) }

pub returns-in-Entries-clause-ok : goal.returns-in-Entries-clause-ok
returns-in-Entries-clause-ok g c =
    handed_on _ (c.levels.top ∷ reverse c.levels.below.items) _ _ c.levels.value _ _ c.levels.exact.holds _ c.levels.invariant.up
    (entries_taken c.levels.top (reverse c.levels.below.items) c.in-Entries.list c.put_half.new.list c.levels.value c.levels.exact.holds c.in-Entries.is c.put_half.ensures.count c.in_ok-put_half-in-Entries.ensures.half c.in_ok-put_half-in-Entries.ensures.ok)

pub returns-in_err-value-in-Tag-clause-err : goal.returns-in_err-value-in-Tag-clause-err
returns-in_err-value-in-Tag-clause-err g c =
    passed_on _ _ c.from_residual-in_err-value-in-Tag.ensures.1 (fails_on _ (c.levels.top ∷ reverse c.levels.below.items) _ c.levels.value _ c.levels.exact.holds _ c.levels.invariant.up
    (rw c.in-Tag.is (tag_folds (reverse c.levels.below.items) c.in-Tag.n c.in-Tag.field-1 c.in-Tag.field-3 c.in-Tag.field-2 c.levels.value _ c.in_err-value-in-Tag.ensures.err)))

pub returns-in_err-value-in-Tag-clause-far : goal.returns-in_err-value-in-Tag-clause-far
returns-in_err-value-in-Tag-clause-far g c =
    passed_on _ _ c.from_residual-in_err-value-in-Tag.ensures.1 (fold_not_long _ _ _ c.in_err-value-in-Tag.ensures.err)

pub levels-preserved : goal.levels-preserved
levels-preserved g c = record {
  up = goes_on _ (c.levels.top ∷ reverse c.levels.below.items) _ _ c.levels.value _ _ c.levels.exact.holds _ c.levels.invariant.up
      (tag_pops c.levels.top c.in-Some-pop.frame c.levels.below.items c.pop-in-Tag.new.self.items c.in-Tag.n c.in-Tag.field-1 c.in-Tag.field-3 c.in-Tag.field-2 c.levels.value c.in_ok-value-in-Tag.value c.levels.exact.holds c.tag_value.new.exact.holds c.in-Tag.is c.in-Some-pop.ensures.items c.in_ok-value-in-Tag.ensures.ok c.in_ok-value-in-Tag.ensures.kept);
  fewer = omega (arith, c.in-Some-pop.ensures.cases, c.levels.invariant.fewer, c.levels.below.ok.0, c.pop-in-Tag.new.self.ok.0);
}

pub returns-in-None-pop-clause-ok : goal.returns-in-None-pop-clause-ok
returns-in-None-pop-clause-ok g c =
    handed_on _ (c.levels.top ∷ reverse c.levels.below.items) _ _ c.levels.value _ _ c.levels.exact.holds _ c.levels.invariant.up
    (tag_last c.levels.top c.levels.below.items _ c.in-Tag.n c.in-Tag.field-1 c.in-Tag.field-3 c.in-Tag.field-2 c.levels.value c.in_ok-value-in-Tag.value c.levels.exact.holds c.tag_value.new.exact.holds c.in-Tag.is (empty c.levels.below.items (omega (arith, c.in-None-pop.ensures.cases.0, c.levels.below.ok.0))) c.in_ok-value-in-Tag.ensures.ok c.in_ok-value-in-Tag.ensures.kept)
