use Rattle.std.proofs.Common.{ℕ, ◌+◌, ◌<◌, List, [], Some, None, Ok, Err, drop, get_or, true, refl, sym, ap, ◌∙◌, arith, rules}
use Rattle.std.proofs.KnownBytes.{Appends-nil}
use Rattle.cose_gate_core.proofs.InOrder.{err_is}
use Rattle.cose_gate_core.proofs.Reach.{reached_start}
use Rattle.cose_gate_program.proofs.Runs.{no_title}
use Rattle.cose_ruled.specs.Blocks.{AskedSoFar, ItemTerms}
use Rattle.cose_ruled.proofs.Runs.{asked_same, at_end, come_next, goes_on, not_handed}
use Rattle.cose_ruled.proofs.running.ask_items.Goals as goal

pub items-init : goal.items-init
items-init g c =
    let reader = c.from-decoder.ensures.0 in
    record {
      who = ap (λ (z : ItemTerms). z.keys) c.new-asker.ensures.item;
      reader = ap (λ z. g.R.Read.failed z.reader.now) reader;
      name = refl;
      kept = ap (λ z. g.R.Read.handle z.reader.now) reader;
      lent = refl;
      fresh = c.from-decoder.ensures.2;
      room = omega arith;
      come = record {
        first = _;
        start = c.from-decoder.ensures.1;
        nothing = refl;
        there = no_title _ _ _ refl c.from-decoder.ensures.2 ∙ ap (λ z. g.R.Read.left z.reader.now) reader;
        done = [];
        reached = reached_start _ _;
        failed = refl;
        blocks = [];
        are = refl;
        written = Appends-nil _;
        told = refl;
      };
    }

-- the next item, seen from the first one on
pub items-preserved : goal.items-preserved
items-preserved g c =
    let inv = c.items.invariant in
    let next = c.in_ok-next.ensures in
    let more = rw c.in-Some.is at next.more in
    let who = ap (λ (z : ItemTerms). z.keys) c.next_item.ensures.item ∙ inv.who in
    let here = ap (λ (z : ItemTerms). z.before) (next.who ∙ c.next_item.ensures.item) ∙ ap (λ (z : AskedSoFar). z.told) (sym c.next_item.ensures.told) in
    let come = asked_same _ _ _ _ g.W.Write g.T.Teller _ _ _ _ _ _ _ _ _ _ _ _ c.next_item.ensures.told inv.come in
    let far = goes_on _ _ _ _ _ _ _ (Ok (Some c.in-Some.next)) who (rw c.in-Some.is at next.ran) true come.first come.done come.reached in
    record {
      who = ap (λ (z : ItemTerms). z.keys) next.who ∙ who;
      reader = search rules;
      name = ap (λ (z : List ℕ). get_or z 0 0) next.kept ∙ inv.name;
      kept = ap (λ (z : List ℕ). drop 1 z) next.kept ∙ inv.kept;
      lent = c.in_ok-ask_item.ensures.lent ∙ inv.lent;
      fresh = next.fresh;
      room = omega (arith, more.1);
      come = come_next _ _ _ _ g.W.Write g.T.Teller _ _ _ _ _ _ _ _ come _ _ _ far _ _ _ _ tt who here c.offset.ensures c.in_ok-ask_item.ensures.handed;
    }

pub items-smaller : goal.items-smaller
items-smaller g c = let more = rw c.in-Some.is at c.in_ok-next.ensures.more in omega arith

-- the gate stopped
pub returns-in_err-next-clause-ran : goal.returns-in_err-next-clause-ran
returns-in_err-next-clause-ran g c =
    let inv = c.items.invariant in
    let next = c.in_err-next.ensures in
    let who = ap (λ (z : ItemTerms). z.keys) c.next_item.ensures.item ∙ inv.who in
    let come = asked_same _ _ _ _ g.W.Write g.T.Teller _ _ _ _ _ _ _ _ _ _ _ _ c.next_item.ensures.told inv.come in
    let ran = goes_on _ _ _ _ _ _ _ (Err _) who next.ran true come.first come.done come.reached in
    rw (err_is _ _ c.from_residual.ensures.1)
    (at_end _ _ _ _ g.W.Write g.T.Teller _ _ _ _ _ _ _ _ come _ _ ran _ _ _ (search rules ∙ sym (no_title _ _ _ refl next.fresh)) refl (search rules) (search rules))

-- all items are gone through
pub returns-in_default-clause-ran : goal.returns-in_default-clause-ran
returns-in_default-clause-ran g c =
    let inv = c.items.invariant in
    let next = c.in_ok-next.ensures in
    let who = ap (λ (z : ItemTerms). z.keys) c.next_item.ensures.item ∙ inv.who in
    let come = asked_same _ _ _ _ g.W.Write g.T.Teller _ _ _ _ _ _ _ _ _ _ _ _ c.next_item.ensures.told inv.come in
    let ran = goes_on _ _ _ _ _ _ _ (Ok None) who (rw c.in_default.is at next.ran) true come.first come.done come.reached in
    at_end _ _ _ _ g.W.Write g.T.Teller _ _ _ _ _ _ _ _ come _ _ ran _ _ _ (search rules ∙ sym (no_title _ _ _ refl next.fresh)) refl (search rules) (search rules)

-- a block could not be handed on
pub returns-in_err-ask_item-clause-ran : goal.returns-in_err-ask_item-clause-ran
returns-in_err-ask_item-clause-ran g c =
    let inv = c.items.invariant in
    let next = c.in_ok-next.ensures in
    let more = rw c.in-Some.is at next.more in
    let some : 0 < c.in-Some.next.passed + c.in-Some.next.refused = omega (arith, more.1) in
    let who = ap (λ (z : ItemTerms). z.keys) c.next_item.ensures.item ∙ inv.who in
    let here = ap (λ (z : ItemTerms). z.before) (next.who ∙ c.next_item.ensures.item) ∙ ap (λ (z : AskedSoFar). z.told) (sym c.next_item.ensures.told) in
    let come = asked_same _ _ _ _ g.W.Write g.T.Teller _ _ _ _ _ _ _ _ _ _ _ _ c.next_item.ensures.told inv.come in
    let far = goes_on _ _ _ _ _ _ _ (Ok (Some c.in-Some.next)) who (rw c.in-Some.is at next.ran) true come.first come.done come.reached in
    rw (err_is _ _ c.from_residual-in_err-ask_item.ensures.1)
    (not_handed _ _ _ _ g.W.Write g.T.Teller _ _ _ _ _ _ _ _ come _ _ _ far _ _ _ (search rules ∙ sym (no_title _ _ _ refl next.fresh)) refl (search rules) some _ _ _ _ _ who here c.offset.ensures c.in_err-ask_item.ensures.handed)
