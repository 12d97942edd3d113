use Rattle.std.proofs.Common.{◌≡◌, ℕ, ◌*◌, [], length, inl, inr, refl, ◌∙◌}
use Rattle.std.proofs.lemmas.Option.{MatchOption-at_none, MatchOption-at_some}
use Rattle.cose_gate_records.specs.Digests.{AreDigests, digests_of}
use Rattle.cose_gate_records.proofs.Runs.{places_none}
use Rattle.cose_gate_records.proofs.passing.pass_digests_within.Goals as goal

pub returns-in-Some : goal.returns-in-Some
returns-in-Some c = (
  c.pass_by.ensures.0,
  c.pass_by.ensures.1,
  inl (
    digests_of c.in-Some.judge,
    MatchOption-at_some ((n : ℕ) → length c.args.accepted.now ≡ n * 32 → ⊥)
        (λ judge. AreDigests c.args.accepted.now (digests_of judge)) c.in-Some.judge c.in-Some.is c.in-Ok.ensures,
    c.pass_by.ensures.2,
  ),
  c.pass_by.ensures.3,
)

pub returns-in-None : goal.returns-in-None
returns-in-None c = (
  [],
  3,
  inr (inl (
    MatchOption-at_none ((n : ℕ) → length c.args.accepted.now ≡ n * 32 → ⊥)
        (λ judge. AreDigests c.args.accepted.now (digests_of judge)) c.in-None.is c.in-Ok.ensures,
    refl,
    refl,
    (c.lone_line-in-None.ensures.shown, c.place_none-in-None.ensures.lines ∙ c.lone_line-in-None.ensures.counted),
  )),
  places_none 3 _ _ _ c.place_none-in-None.ensures.length c.place_none-in-None.ensures.status c.place_none-in-None.ensures.same,
)

pub returns-in_default : goal.returns-in_default
returns-in_default c = (
  [],
  4,
  inr (inr ((refl, refl), (c.lone_line.ensures.shown, c.place_none.ensures.lines ∙ c.lone_line.ensures.counted))),
  places_none 4 _ _ _ c.place_none.ensures.length c.place_none.ensures.status c.place_none.ensures.same,
)
