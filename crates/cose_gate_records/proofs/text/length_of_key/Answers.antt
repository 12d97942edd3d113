use Rattle.std.proofs.Common.{rules, ◌≡◌, ◌++◌, ℕ, List, MatchOption, map, flat_map, ◌+◌, ◌-◌, ◌<◌, ◌≤◌, length, take, drop, get_or, Bool, true, false, nat_eq, [], ◌∷◌, Bor, refl, sym, ap, ◌∙◌, arith, append_assoc}
use Rattle.cose_gate_records.specs.Framing.{eight, framed, key_by}
use Rattle.cose_gate_records.proofs.Frames as frames
use Rattle.cose_gate_records.proofs.text.length_of_key.Goals as goal

pub returns : goal.returns
returns c = let h = c.low_eight.ensures in let l = frames.length-key c.args.held.now.front.items c.args.held.now.covered.items c.args.signature.now in rw l (rw h (ap (λ (n : ℕ). eight n) (grind (arith, c.len.ensures, c.len-2.ensures))))
