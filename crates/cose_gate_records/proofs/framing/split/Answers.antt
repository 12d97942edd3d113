use Rattle.std.proofs.Common.{rules, ◌≡◌, ◌++◌, ℕ, List, MatchOption, map, flat_map, ◌+◌, ◌-◌, ◌<◌, ◌≤◌, length, take, drop, get_or, Bool, true, false, nat_eq, [], ◌∷◌, Bor, refl, sym, ap, ◌∙◌, arith, append_assoc}
use Rattle.cose_gate_records.specs.Framing.{eight, framed, key_by}
use Rattle.cose_gate_records.proofs.Frames as frames
use Rattle.cose_gate_records.proofs.framing.split.Goals as goal

pub returns-in_default : goal.returns-in_default
returns-in_default c = frames.no_frames (map (λ p. p.now) c.loop-rest.pieces.items) c.args.bytes.now c.loop-rest.rest.now c.well_formed.1.0.0
    c.loop-rest-test.true c.in_default.ensures c.loop-rest.invariant

pub loop-rest-smaller : goal.loop-rest-smaller
loop-rest-smaller c = frames.shorter c.loop-rest.rest.now c.in-Some.piece.now c.in-Some.more.now c.in-Some.ensures
