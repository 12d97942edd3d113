use Rattle.std.proofs.Common.{◌++◌, [], flat_map, inl, inr, refl, ap, ◌∙◌}
use Rattle.cose_gate_program.proofs.Tellings.{ran_as}
use Rattle.cose_gate_records.specs.Records.{record_of}
use Rattle.cose_gate_records.proofs.Asked.{told_all}
use Rattle.cose_gate_records.proofs.Runs.{places_none}
use Rattle.cose_gate_records.proofs.Told.{cut_last}
use Rattle.cose_gate_records.proofs.asking.ask_within.Goals as goal

pub returns-in-Some : goal.returns-in-Some
returns-in-Some c = (
  c.in-Some.records.now,
  c.run_with_judge-ended.result.status,
  inl (
    _,
    ran_as c.run_with_judge-ended.ensures
        (λ qs asked. c.in-Some.ensures.records ∙ (asked ∙ (told_all _ qs ∙ ap (λ z. z ++ flat_map record_of qs) c.new-asker.ensures.told)))
        (λ ns n held. (held.0.0, c.place.ensures.lines ∙ held.0.1)),
  ),
  record { length_is = c.place.ensures.length; fits = c.place.ensures.fits; no_room = c.place.ensures.no_room },
)

pub returns : goal.returns
returns c = (
  [],
  4,
  inr (
    (refl, refl),
    (
      _,
      _,
      _,
      refl,
      ran_as c.run_with_judge-ended.ensures (λ qs asked. tt) (λ ns n held. cut_last _ _ _ _ _ ns n held c.stop_for_memory.ensures.shown
          (λ before at. c.place_none.ensures.lines ∙ c.stop_for_memory.ensures.counted before at)),
    ),
  ),
  places_none 4 _ _ _ c.place_none.ensures.length c.place_none.ensures.status c.place_none.ensures.same,
)
