-- What the judge of `cose-ask` has written of its questions.
use Rattle.std.specs.Prelude.{◌≡◌, ◌+◌, ◌-◌, ◌≤◌, ℕ, List, [], ◌∷◌, map, flat_map, length, take, Option, Some, None, Result, Ok, Err}
use Rattle.std.specs.Coded.{×_prop, →_prop, le_prop, Π_prop, Unit-prop, Coded-set, coded_list, coded_ℕ}
use Rattle.std.specs.Io.KnownBytes.{Appends}
use Rattle.ciborium_ll.specs.declared.log.Log.{Log}
use Rattle.ciborium_ll.specs.declared.write.Write.{Ghosts as Writes}
use Rattle.cose_gate_core.specs.Questions.{Question}
use Rattle.cose_gate_command.specs.Lines.{parts_of, told_as}
use Rattle.cose_gate_command.specs.declared.not_run.NotRun.{NotRun}
use Rattle.cose_gate_command.specs.declared.not_run.NotRun.TheVariants as unrun
use Rattle.cose_gate_command.specs.declared.options.Form.{Form}
use Rattle.cose_gate_command.specs.declared.parts.Parts.{Parts}

-- what is told of a question, in its log
abbrev pub parts_in : Parts → List ℕ × List ℕ
parts_in p = (p.fields.items, p.record.items)

-- how many bytes were written, if that is known
abbrev pub added : Option (List ℕ) → Option (List ℕ) → ℕ
added (Some xs) (Some ys) = length ys - length xs
added (Some xs) None = 0
added None new = 0

-- so many failures of the writer, and as much of the text as was written
abbrev pub Beginning : {W F : Type 0} → Writes W F → W → W → ℕ → List ℕ → Type 0
Beginning w old new failures text = (w.failed new ≡ w.failed old + failures)
    × Appends (w.written old) (w.written new) (take (added (w.written old) (w.written new)) text)

-- a text was written; or nothing, out of memory; or a beginning of it, and the output failed
abbrev pub HasText : {W F : Type 0} → Writes W F → W → W → Result (Unit {0}) NotRun → List ℕ
    → Type 0
HasText w old new (Ok u) text =
    (w.failed new ≡ w.failed old) × Appends (w.written old) (w.written new) text
HasText w old new (Err unrun.Memory) text =
    (w.failed new ≡ w.failed old) × Appends (w.written old) (w.written new) []
HasText w old new (Err unrun.Output) text = Beginning w old new 1 text
HasText w old new (Err why) text = ⊥

-- the same, and the writer is the same
abbrev pub IsQuestionWritten : {W F : Type 0} → Writes W F → W → W → Result (Unit {0}) NotRun → List ℕ
    → Type 0
IsQuestionWritten w old new written text = (w.handle new ≡ w.handle old) × HasText w old new written text

-- the texts of all questions were written; or out of memory those of the first n; or a beginning,
-- and the output failed
abbrev pub HasTexts : {W F : Type 0} → Writes W F → Form → W → W → Result (Unit {0}) NotRun → ℕ
    → List Question → Type 0
HasTexts w form old new (Ok u) n qs = (n ≡ length qs) × ((w.failed new ≡ w.failed old)
    × Appends (w.written old) (w.written new) (flat_map (told_as form) qs))
HasTexts w form old new (Err unrun.Memory) n qs = (n ≤ length qs) × ((w.failed new ≡ w.failed old)
    × Appends (w.written old) (w.written new) (flat_map (told_as form) (take n qs)))
HasTexts w form old new (Err unrun.Output) n qs =
    Beginning w old new 1 (flat_map (told_as form) qs)
HasTexts w form old new (Err why) n qs = ⊥

abbrev pub AreWritten : {W F : Type 0} → Writes W F → Form → W → W → Result (Unit {0}) NotRun → ℕ
    → List Question → Type 0
AreWritten w form old new written n qs =
    (w.handle new ≡ w.handle old) × HasTexts w form old new written n qs

-- the same of the first of a log of a writer
abbrev pub AreWrittenSince : {W F : Type 0} → Writes W F → Form → List W → W
    → Result (Unit {0}) NotRun → ℕ → List Question → Type 0
AreWrittenSince w form [] new written n qs = Unit {0}
AreWrittenSince w form (old ∷ more) new written n qs = AreWritten w form old new written n qs

-- if this was told of questions, they were written since a writer was as in a log, and their number
-- is that of another log
abbrev pub AreOut : {W F : Type 0} → Writes W F → Form → Log W → W → Result (Unit {0}) NotRun
    → Log ℕ → Log Parts → Type 0
AreOut w form first new written sent told = (qs : List Question)
    → map (parts_of form) qs ≡ map parts_in told.items
    → AreWrittenSince w form first.items new written (length sent.items) qs

-- each of these has one proof at most
Appends-prop : (old new : Option (List ℕ)) (text : List ℕ) → IsProp (Appends old new text)
Appends-prop None new text = Unit-prop
Appends-prop (Some xs) None text = λ p. absurd p
Appends-prop (Some xs) (Some ys) text = Coded-set (coded_list coded_ℕ) ys _

Beginning-prop : {W F : Type 0} (w : Writes W F) (old new : W) (n : ℕ) (text : List ℕ)
    → IsProp (Beginning w old new n text)
Beginning-prop w old new n text =
    ×_prop (Coded-set coded_ℕ _ _) (Appends-prop (w.written old) (w.written new) _)

HasTexts-prop : {W F : Type 0} (w : Writes W F) (form : Form) (old new : W)
    (written : Result (Unit {0}) NotRun) (n : ℕ) (qs : List Question)
    → IsProp (HasTexts w form old new written n qs)
HasTexts-prop w form old new (Ok u) n qs =
    ×_prop (Coded-set coded_ℕ _ _) (×_prop (Coded-set coded_ℕ _ _)
    (Appends-prop (w.written old) (w.written new) _))
HasTexts-prop w form old new (Err unrun.Memory) n qs =
    ×_prop le_prop (×_prop (Coded-set coded_ℕ _ _)
    (Appends-prop (w.written old) (w.written new) _))
HasTexts-prop w form old new (Err unrun.Output) n qs = Beginning-prop w old new 1 _
HasTexts-prop w form old new (Err why) n qs = λ p. absurd p

AreWrittenSince-prop : {W F : Type 0} (w : Writes W F) (form : Form) (first : List W) (new : W)
    (written : Result (Unit {0}) NotRun) (n : ℕ) (qs : List Question)
    → IsProp (AreWrittenSince w form first new written n qs)
AreWrittenSince-prop w form [] new written n qs = Unit-prop
AreWrittenSince-prop w form (old ∷ more) new written n qs =
    ×_prop (Coded-set (coded_list coded_ℕ) _ _) (HasTexts-prop w form old new written n qs)

pub AreOut-prop : {W F : Type 0} (w : Writes W F) (form : Form) (first : Log W) (new : W)
    (written : Result (Unit {0}) NotRun) (sent : Log ℕ) (told : Log Parts)
    → IsProp (AreOut w form first new written sent told)
AreOut-prop w form first new written sent told =
    Π_prop (λ qs. →_prop
    (AreWrittenSince-prop w form first.items new written (length sent.items) qs))

-- nothing is held back, if each question was written and nothing was held back before the first
abbrev pub HandedIfOk : {W F : Type 0} → Writes W F → List W → W → Result (Unit {0}) NotRun
    → Type 0
HandedIfOk w [] new written = Unit {0}
HandedIfOk w (old ∷ more) new (Ok u) = w.held old ≡ [] → w.held new ≡ []
HandedIfOk w (old ∷ more) new (Err why) = Unit {0}

pub HandedIfOk-prop : {W F : Type 0} (w : Writes W F) (begun : List W) (new : W)
    (written : Result (Unit {0}) NotRun) → IsProp (HandedIfOk w begun new written)
HandedIfOk-prop w [] new written = Unit-prop
HandedIfOk-prop w (old ∷ more) new (Ok u) = →_prop (Coded-set (coded_list coded_ℕ) _ _)
HandedIfOk-prop w (old ∷ more) new (Err why) = Unit-prop

-- questions on a writer that is lent: what the writer was at first, and what was told since
pub record QuestionLog (W : Type 0) : Type 0 where
  pub name : ℕ
  pub was : List W
  pub form : Form
  pub told : List (List ℕ × List ℕ)
