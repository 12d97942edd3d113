use Rattle.cose_gate.proofs.gating.gate_strict_with.Goals as goal

pub returns : goal.returns
returns g c = record {
  ran = c.gate_by.ensures.ran;
  reader = c.gate_by.ensures.reader;
  writer = c.gate_by.ensures.writer;
  far = c.gate_by.ensures.far;
  fits = c.gate_by.ensures.fits;
  fresh = c.gate_by.ensures.fresh;
  who = c.gate_by.ensures.who;
  kept = c.gate_by.ensures.kept;
  lent = c.gate_by.ensures.lent;
}
