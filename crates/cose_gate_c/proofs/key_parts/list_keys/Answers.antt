use Rattle.std.proofs.Common.{[], inl, inr, refl}
use Rattle.cose_gate_records.proofs.Runs.{places_none}
use Rattle.cose_gate_c.proofs.key_parts.list_keys.Goals as goal

pub returns-in-Ok : goal.returns-in-Ok
returns-in-Ok c = inl (_, c.in-Ok.ensures, rw c.as_slice.ensures.value at c.place_parts.ensures)

pub returns-in-Memory : goal.returns-in-Memory
returns-in-Memory c = inr (inr (record {
  written = [];
  status = 4;
  is = (refl, refl);
  placed = places_none 4 _ _ _ c.place_none.ensures.length c.place_none.ensures.status c.place_none.ensures.same;
  no_lines = c.place_none.ensures.lines;
}))

pub returns-in_default : goal.returns-in_default
returns-in_default c =
    elim c.in-Err.ensures [
      | inl memory ↦ absurd (c.in_default.not-Memory memory)
      | inr wrong ↦ inr (inl (
        _,
        wrong,
        record {
          written = [];
          status = 3;
          is = (refl, refl);
          placed = places_none 3 _ _ _ c.place_none-in_default.ensures.length c.place_none-in_default.ensures.status c.place_none-in_default.ensures.same;
          no_lines = c.place_none-in_default.ensures.lines;
        },
      ))
    ]
