use Rattle.std.proofs.Common.{[], inl, inr, refl, map, option_map, ◌∙◌}
use Rattle.coset_keys.specs.View.{key_view}
use Rattle.cose_gate_program.proofs.Tellings.{ran_as}
use Rattle.cose_gate_records.proofs.Runs.{places_none}
use Rattle.cose_gate_records.proofs.Told.{cut_last}
use Rattle.cose_rules.specs.TokenView.{terms_view}
use Rattle.cose_gate_c.proofs.RuledAsked.{told_whole}
use Rattle.cose_gate_c.proofs.ruled_asking.ask_under.Goals as goal

pub returns-then-is_refused : goal.returns-then-is_refused
returns-then-is_refused c = (
  [],
  4,
  inr (
    (refl, refl),
    (
      _,
      _,
      _,
      refl,
      ran_as c.ask_told-ended.ensures.0 (λ qs asked. tt) (λ ns n held. cut_last _ _ _ _ _ ns n held c.stop_for_memory.ensures.shown
          (λ before at. c.place_none.ensures.lines ∙ c.stop_for_memory.ensures.counted before at)),
    ),
  ),
  places_none 4 _ _ _ c.place_none.ensures.length c.place_none.ensures.status c.place_none.ensures.same,
)

pub returns : goal.returns
returns c = (
  c.as_written.result.now,
  c.ask_told-ended.result.status,
  inl (told_whole _ (option_map terms_view c.args.rules.token) (map key_view c.args.rules.keys.now) c.args.run.aad.now c.args.input.now _ _ _ _ _ _ _ _ _ c.ask_told-ended.ensures.1 c.ask_told-ended.ensures.0 c.ask_told-ended.ensures.2 c.new-output.ensures.text c.new-output.ensures.failures (c.is_refused.ensures.never c.if-is_refused.false)
      (λ same. c.as_written.ensures ∙ c.ask_told-ended.ensures.3 same) (λ ns n held. (held.0.0, c.place.ensures.lines ∙ held.0.1))),
  record { length_is = c.place.ensures.length; fits = c.place.ensures.fits; no_room = c.place.ensures.no_room },
)
