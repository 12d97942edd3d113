-- What is seen of a writer over memory.
use Rattle.std.specs.Prelude.{ℕ, ◌+◌, List, Bool, true, false}
use Rattle.ciborium_ll.specs.Count.{total}
use Rattle.cose_gate_records.specs.declared.growing.Growing.{Growing}
use Rattle.cose_gate_records.specs.declared.growing.Refusals.{Refusals}
use Rattle.cose_gate_records.specs.declared.growing.Refusals.TheVariants.{Never, AndThen}

-- what was written
abbrev pub text_of : Growing → List ℕ
text_of w = w.text.items

abbrev pub times : Refusals → ℕ
times Never = 0
times (AndThen count) = total count + 1

-- how often it was out of memory, and whether it was
abbrev pub failures_of : Growing → ℕ
failures_of w = times w.refusals

abbrev pub was_refused : Refusals → Bool
was_refused Never = false
was_refused (AndThen count) = true

abbrev pub is_refused : Growing → Bool
is_refused w = was_refused w.refusals
