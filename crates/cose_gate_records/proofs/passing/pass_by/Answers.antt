use Rattle.std.proofs.Common.{[], inl, inr, refl, sym, ◌∙◌}
use Rattle.cose_gate_program.proofs.Tellings.{ran_as}
use Rattle.cose_gate_records.proofs.Runs.{ran_in_memory, places_none}
use Rattle.cose_gate_records.proofs.Told.{cut_last}
use Rattle.cose_gate_records.proofs.passing.pass_by.Goals as goal

pub returns-then-is_refused : goal.returns-then-is_refused
returns-then-is_refused g c = (
  [],
  4,
  inr (
    (refl, refl),
    (
      _,
      _,
      _,
      refl,
      ran_as c.run_with_judge-ended.ensures (λ qs asked. tt) (λ ns n held. cut_last _ _ _ _ _ ns n held c.stop_for_memory.ensures.shown
          (λ before at. c.place_none.ensures.lines ∙ c.stop_for_memory.ensures.counted before at)),
    ),
  ),
  places_none 4 _ _ _ c.place_none.ensures.length c.place_none.ensures.status c.place_none.ensures.same,
)

pub returns : goal.returns
returns g c = (
  c.as_written.result.now,
  c.run_with_judge-ended.result.status,
  inl (
    _,
    ran_in_memory c.new-output.ensures.text c.new-output.ensures.failures (sym c.as_written.ensures) (c.is_refused.ensures.never c.if-is_refused.false)
        (ran_as c.run_with_judge-ended.ensures (λ qs asked. tt) (λ ns n held. (held.0.0, c.place.ensures.lines ∙ held.0.1))),
  ),
  record { length_is = c.place.ensures.length; fits = c.place.ensures.fits; no_room = c.place.ensures.no_room },
)
