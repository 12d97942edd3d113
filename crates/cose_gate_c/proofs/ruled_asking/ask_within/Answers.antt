use Rattle.std.proofs.Common.{[], inl, inr, refl, ◌∙◌}
use Rattle.cose_gate_program.specs.Beginning.{status_of}
use Rattle.cose_gate_records.proofs.Runs.{places_none}
use Rattle.cose_gate_c.proofs.RuledAsked.{begins_not, set_of}
use Rattle.cose_gate_c.proofs.ruled_asking.ask_within.Goals as goal

pub returns-in-Ok : goal.returns-in-Ok
returns-in-Ok c =
    let b = c.in-Ok.ensures in
    let told = rw c.as_slice.ensures.value at c.ask_under.ensures in
    (told.0, told.1, inl (_, set_of _ _ _ b.1 b.3, told.2), told.3)

pub returns-in-Err : goal.returns-in-Err
returns-in-Err c = (
  [],
  status_of c.in-Err.why,
  inr (c.in-Err.why, begins_not _ _ _ _ c.in-Err.ensures, refl, refl, (c.tell_unbegun.ensures.0, c.place_none.ensures.lines ∙ c.tell_unbegun.ensures.1)),
  places_none _ _ _ _ c.place_none.ensures.length (c.place_none.ensures.status ∙ c.status.ensures) c.place_none.ensures.same,
)
