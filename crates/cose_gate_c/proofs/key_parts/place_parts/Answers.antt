use Rattle.std.proofs.Common.{[], inl, inr, refl, ◌∙◌}
use Rattle.cose_gate_records.proofs.Runs.{places_none}
use Rattle.cose_gate_c.proofs.key_parts.place_parts.Goals as goal

pub returns-in-Ok : goal.returns-in-Ok
returns-in-Ok c = record {
  written = c.deref.result.now;
  status = 0;
  is = inl (c.deref.ensures.value ∙ c.in-Ok.ensures, refl);
  placed = record { length_is = c.place.ensures.length; fits = c.place.ensures.fits; no_room = c.place.ensures.no_room };
  no_lines = c.place.ensures.lines;
}

pub returns-in-Err : goal.returns-in-Err
returns-in-Err c = record {
  written = [];
  status = 4;
  is = inr (refl, refl);
  placed = places_none 4 _ _ _ c.place_none.ensures.length c.place_none.ensures.status c.place_none.ensures.same;
  no_lines = c.place_none.ensures.lines;
}
