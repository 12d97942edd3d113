-- What a gate does with a whole input: the items in order, with what is found, asked, written and
-- noted of each.
use Rattle.std.specs.Prelude.{◌≡◌, ℕ, ◌+◌, List, [], ◌∷◌, map, flat_map, Option, Some, None, Bool, true, false, not, if◌then◌else◌, is_none, count_by}
use Rattle.ciborium.specs.Items.{Item, SequenceWithin, ItemsWithin}
use Rattle.coset_labels.specs.declared.error.CoseError.{CoseError}
use Rattle.cose_gate_core.specs.Questions.{Question, questions, message_text}
use Rattle.cose_gate_core.specs.Asked.{asked, first_no}
use Rattle.cose_gate_core.specs.Findings.{not_tagged, encrypted, other_tag, shape, detached, no_signature, not_shortest, Finding, judged, barred, Bounds, Finds}
use Rattle.cose_gate_core.specs.declared.report.Entry.{Entry}
use Rattle.cose_gate_core.specs.declared.report.Verdict.{Verdict}
use Rattle.cose_gate_core.specs.declared.report.Verdict.TheVariants.{Passed, Refused}
use Rattle.cose_gate_core.specs.declared.report.Refusal.TheVariants as refusal

-- one item on its way through the gate
pub record Step : Type 0 where
  pub item : Item
  pub finding : Finding
  pub entry : Entry

-- the judge's answers to a message's questions: passed if there is no no, else judged by the first
abbrev pub judged_by : Option ℕ → Verdict
judged_by None = Passed
judged_by (Some n) = Refused (refusal.Judged n)

abbrev pub has_passed : Verdict → Bool
has_passed Passed = true
has_passed (Refused r) = false

-- which verdict stands for what is found; which fault a shape names is said by `NamesShapes`
abbrev pub IsVerdict : (Question → Bool) → List ℕ → Finding → Verdict → Type 0
IsVerdict allows aad (judged m) v = v ≡ judged_by (first_no allows (questions m aad))
IsVerdict allows aad (barred not_tagged) v = v ≡ Refused refusal.NotTagged
IsVerdict allows aad (barred encrypted) v = v ≡ Refused refusal.Encrypted
IsVerdict allows aad (barred (other_tag n)) v = v ≡ Refused (refusal.OtherTag n)
IsVerdict allows aad (barred shape) v = (e : CoseError) × (v ≡ Refused (refusal.Shape e))
IsVerdict allows aad (barred detached) v = v ≡ Refused refusal.Detached
IsVerdict allows aad (barred no_signature) v = v ≡ Refused refusal.NoSignature
IsVerdict allows aad (barred not_shortest) v = v ≡ Refused refusal.NotShortest

-- the steps from number n on: each finds what is there, and its entry says so
abbrev pub Steps : Bounds → (Question → Bool) → List ℕ → ℕ → List Step → Type 0
Steps limits allows aad n [] = Unit {0}
Steps limits allows aad n (s ∷ ss) =
    Finds limits s.item.bytes s.item.value s.finding
    × (s.entry.number ≡ n)
    × (s.entry.offset ≡ s.item.offset)
    × IsVerdict allows aad s.finding s.entry.verdict
    × Steps limits allows aad (n + 1) ss

-- the questions that are asked of one finding, up to the first no
abbrev pub asked_of : (Question → Bool) → List ℕ → Finding → List Question
asked_of allows aad (judged m) = asked allows (questions m aad)
asked_of allows aad (barred r) = []

-- whether it passes: a yes to each question
abbrev pub passes : (Question → Bool) → List ℕ → Finding → Bool
passes allows aad (judged m) = is_none (first_no allows (questions m aad))
passes allows aad (barred r) = false

abbrev pub text_of : Finding → List ℕ
text_of (judged m) = message_text m
text_of (barred r) = []

-- what is written of it: its canonical encoding if it passes, else nothing
abbrev pub written_of : (Question → Bool) → List ℕ → Finding → List ℕ
written_of allows aad f = if passes allows aad f then text_of f else []

-- all questions that are asked, all that is written, and all entries
abbrev pub questions_of : (Question → Bool) → List ℕ → List Step → List Question
questions_of allows aad ss = flat_map (λ s. asked_of allows aad s.finding) ss

abbrev pub output_of : (Question → Bool) → List ℕ → List Step → List ℕ
output_of allows aad ss = flat_map (λ s. written_of allows aad s.finding) ss

abbrev pub entries_of : List Step → List Entry
entries_of ss = map (λ s. s.entry) ss

abbrev pub passed_count : (Question → Bool) → List ℕ → List Step → ℕ
passed_count allows aad ss = count_by (λ s. passes allows aad s.finding) ss

abbrev pub refused_count : (Question → Bool) → List ℕ → List Step → ℕ
refused_count allows aad ss = count_by (λ s. not (passes allows aad s.finding)) ss

-- the input b, which begins at the offset `at`, is gone through by these steps, up to `more`
pub record Course (limits : Bounds) (allows : Question → Bool) (aad : List ℕ) (at : ℕ) (b : List ℕ)
    (ss : List Step) (more : List ℕ) : Type 0 where
  pub sequence : SequenceWithin limits.nesting at b (map (λ s. s.item) ss) more
  pub steps : Steps limits allows aad 1 ss

-- the whole run over b: the steps over all its items
pub record Run (limits : Bounds) (allows : Question → Bool) (aad : List ℕ) (at : ℕ) (b : List ℕ)
    (ss : List Step) (rest : List ℕ) : Type 0 where
  pub items : ItemsWithin limits.nesting at b (map (λ s. s.item) ss) rest
  pub steps : Steps limits allows aad 1 ss
