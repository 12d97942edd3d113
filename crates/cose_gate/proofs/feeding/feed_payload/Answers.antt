use Rattle.std.proofs.Common.{rules, sym, ap, ◌∙◌, ◌≡◌, ◌<◌, ◌≤◌, length, arith}
use Rattle.std.specs.Prelude.{min, take}
use Rattle.cose_gate.proofs.Fed.{fed_more, begun_more, begun_all, take_front}
use Rattle.cose_gate.proofs.CutOff.{copied_next}
use Rattle.cose_gate.proofs.feeding.feed_payload.Goals as goal

pub pieces-preserved : goal.pieces-preserved
pieces-preserved g c =
    let inv = c.pieces.invariant in
    let small : c.min-count.result ≤ c.pieces.due = search rules in
    let asked : length (take c.min-count.result c.pieces.buffer) ≡ c.min-count.result = search rules in
    let size : length c.read_exact.new.data ≡ c.min-count.result = search rules in
    let least : c.min-count.result ≡ min c.pieces.due (length c.args.buffer.now) = search rules in
    let some : 0 < c.pieces.due = search rules in
    let same = take_front c.min-count.result c.read_exact.new.data _ size in
    record {
      who = c.in_ok-feed.ensures.who ∙ inv.who;
      told = c.in_ok-feed.ensures.told ∙ inv.told;
      failed = search rules;
      kept = search rules;
      fresh = search rules;
      room = search rules;
      some = search rules;
      lent = search rules;
      taken = fed_more g.J.Judge.holds _ _ _ _ _ _ _ _ _ _ _ _ _ _ _ _ _ inv.taken c.in_ok-read_exact.ensures.ok c.in_ok-read_exact.ensures.grown (size ∙ sym asked) same (omega arith) c.in_ok-feed.ensures.holds (λ x p. c.write_on-written.ensures.grows _ x p);
      pieces = begun_more _ _ _ _ _ _ _ _ _ inv.pieces least some (omega arith) (ap length same ∙ size) c.in_ok-feed.ensures.pieces;
    }

pub returns-clause-pieces : goal.returns-clause-pieces
returns-clause-pieces g c = begun_all _ _ _ _ _ c.pieces.invariant.pieces (omega arith)

pub returns-in_err-read_exact-clause-part : goal.returns-in_err-read_exact-clause-part
returns-in_err-read_exact-clause-part g c = copied_next g.W.Write g.J.Judge.holds _ _ _ _ c.pieces.written _ _ _ _ _ _ c.pieces.invariant.taken

pub returns-in_err-feed-clause-part : goal.returns-in_err-feed-clause-part
returns-in_err-feed-clause-part g c = copied_next g.W.Write g.J.Judge.holds _ _ _ _ c.pieces.written _ _ _ _ _ _ c.pieces.invariant.taken

pub returns-clause-part : goal.returns-clause-part
returns-clause-part g c = copied_next g.W.Write g.J.Judge.holds _ _ _ _ c.pieces.written _ _ _ _ _ _ c.pieces.invariant.taken
