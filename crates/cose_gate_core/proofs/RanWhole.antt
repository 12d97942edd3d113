-- What the gate says of a call, beside the runs of the input.
use Rattle.std.proofs.Common.{◌≡◌, ℕ, List, [], ◌∷◌, ◌++◌, Option, Some, Bool, cond, refl, sym, ap, subst, ◌∙◌, append_assoc, append-nil}
use Rattle.std.specs.Prelude.{Result, IfOk}
use Rattle.std.specs.Io.KnownBytes.{Appends}
use Rattle.ciborium.specs.Items.{IsUnreadableWithin}
use Rattle.ciborium.specs.Reading.{IfKnown}
use Rattle.ciborium.specs.declared.de.Error.{Error}
use Rattle.ciborium.specs.declared.de.Error.TheVariants as de
use Rattle.cose_gate_core.specs.Asked.{folded_over, IsFront}
use Rattle.cose_gate_core.specs.GateRun.{asking, writing, noting, Ending, finished, unflushed, unreadable, no_memory, within, at_hand, taken_at, asked_at, written_at, result_at, IfOfBytes, EndsAt, Ran}
use Rattle.cose_gate_core.specs.Misshapen.{NamesShapes}
use Rattle.cose_gate_core.specs.Outcome.{Rules, GateState}
use Rattle.cose_gate_core.specs.Questions.{Question}
use Rattle.cose_gate_core.specs.Run.{Step, Course, Run, text_of, questions_of, output_of, passed_count, refused_count}
use Rattle.cose_gate_core.specs.Runs.{IfThrough, MadeRun, BeginsSteps}
use Rattle.cose_gate_core.specs.declared.gating.Counts.{Counts}
use Rattle.cose_gate_core.specs.declared.gating.GateFault.{GateFault}
use Rattle.cose_gate_core.proofs.Fronts.{asks_append, writes_append}
use Rattle.cose_gate_core.proofs.Within.{course_within, nothing_unreadable, twins_split, twins_questions, twins_output, twins_entries}

of_bytes_then : {E : Type 0} (ends : E → Bool) (P Q : Type 0) (e : Error E) → (P → Q) → IfOfBytes ends P e → IfOfBytes ends Q e
of_bytes_then ends P Q (de.Io x) f p = λ y. f (p y)
of_bytes_then ends P Q (de.Syntax n) f p = f p
of_bytes_then ends P Q (de.Semantic o k) f p = f p
of_bytes_then ends P Q de.RecursionLimitExceeded f p = f p
of_bytes_then ends P Q de.Memory f p = tt
of_bytes_then ends P Q de.TooLong f p = tt

-- a beginning of what is in between
pub front_within : {A : Type 0} (xs part ys zs all : List A) → all ≡ xs ++ (ys ++ zs) → IsFront part ys → IsFront (xs ++ part) all
front_within xs part ys zs all e f = record {
  more = f.more ++ zs;
  whole = e ∙ ap (λ z. xs ++ (z ++ zs)) f.whole ∙ ap (λ z. xs ++ z) (append_assoc part f.more zs) ∙ sym (append_assoc xs part (f.more ++ zs));
}

none_first : {A : Type 0} (xs : List A) → IsFront [] xs
none_first xs = record { more = xs; whole = refl }

all_first : {A : Type 0} (xs ys : List A) → ys ≡ xs → IsFront xs ys
all_first xs ys e = record { more = []; whole = e ∙ sym (append-nil xs) }

first_then : {A : Type 0} (part xs ys : List A) → ys ≡ xs → IsFront part xs → IsFront part ys
first_then part xs ys e f = record { more = f.more; whole = e ∙ f.whole }

module _ {T S E : Type 0} (ends : E → Bool) (live : Bool) (rules : Rules T S) (old new : GateState T S) (r : Result Counts (GateFault E)) (b : List ℕ) (a : Ran ends live rules old new r) (is : old.left ≡ Some b) where
  abbrev qs : List Step → List Question
  qs ss = questions_of rules.allows rules.aad ss

  abbrev ws : List Step → List ℕ
  ws ss = output_of rules.allows rules.aad ss

  abbrev counts : Counts
  counts = record { passed = passed_count rules.allows rules.aad a.run.done; refused = refused_count rules.allows rules.aad a.run.done }

  pub input : a.input ≡ b
  input = sym (subst (λ (l : Option (List ℕ)). IfKnown l (λ z. z ≡ a.input)) is a.is)

  pub course : Course rules.limits rules.allows rules.aad old.offset b (a.run.done ++ at_hand a.run.ending) (taken_at a.run.ending ++ a.run.rest)
  course = subst (λ (z : List ℕ). Course rules.limits rules.allows rules.aad old.offset z (a.run.done ++ at_hand a.run.ending) (taken_at a.run.ending ++ a.run.rest)) input a.course

  -- no item was at hand, and none begins after the steps
  made : (g : Ending E) (q : Result Counts (GateFault E)) → a.run.ending ≡ g → at_hand g ≡ [] → asked_at rules.allows rules.aad g ≡ [] → written_at rules.allows rules.aad g ≡ []
      → IsUnreadableWithin rules.limits.nesting (taken_at g ++ a.run.rest)
      → IfOk q (λ n. (n.passed ≡ counts.passed) × (n.refused ≡ counts.refused) × (taken_at g ++ a.run.rest ≡ [])) → MadeRun rules old new b q
  made g q e hand asked written u counted =
      let c = subst (λ (g : Ending E). Course rules.limits rules.allows rules.aad old.offset b (a.run.done ++ at_hand g) (taken_at g ++ a.run.rest)) e course in
      let d = subst (λ (ss : List Step). Course rules.limits rules.allows rules.aad old.offset b ss (taken_at g ++ a.run.rest)) (ap (λ z. a.run.done ++ z) hand ∙ append-nil a.run.done) c in
      record {
        steps = a.run.done;
        rest = taken_at g ++ a.run.rest;
        run = record { items = record { sequence = d.sequence; ends = u }; steps = d.steps };
        made = record {
          told = a.asked ∙ ap (folded_over rules.decided old.told) (ap (λ g. qs a.run.done ++ asked_at rules.allows rules.aad g) e ∙ ap (λ z. qs a.run.done ++ z) asked ∙ append-nil (qs a.run.done));
          state = a.noted;
          written = subst (λ (z : List ℕ). Appends old.written new.written z) (ap (λ g. ws a.run.done ++ written_at rules.allows rules.aad g) e ∙ ap (λ z. ws a.run.done ++ z) written ∙ append-nil (ws a.run.done)) a.written;
        };
        shapes = subst (λ (ss : List Step). NamesShapes rules.limits ss) (ap (λ g. a.run.done ++ at_hand g) e ∙ ap (λ z. a.run.done ++ z) hand ∙ append-nil a.run.done) a.shapes;
        counted = counted;
      }

  at : (g : Ending E) → a.run.ending ≡ g → EndsAt ends live rules.limits rules.allows rules.aad old.left a.run.done a.run.rest g
  at g e = subst (λ (g : Ending E). EndsAt ends live rules.limits rules.allows rules.aad old.left a.run.done a.run.rest g) e a.ends_at

  through : (g : Ending E) → a.run.ending ≡ g → IfThrough ends (result_at counts g) (MadeRun rules old new b (result_at counts g))
  through finished e = made finished _ e refl refl refl (nothing_unreadable rules.limits rules.allows rules.aad a.run.rest (at finished e)) (refl, refl, at finished e)
  through unflushed e = tt
  through (unreadable f taken) e =
      of_bytes_then ends _ _ f (λ u. made (unreadable f taken) _ e refl refl refl u tt)
      (subst (λ (l : Option (List ℕ)). IfKnown l (λ z. IfOfBytes ends (IsUnreadableWithin rules.limits.nesting (taken ++ a.run.rest)) f)) is (at (unreadable f taken) e).1)
  through (no_memory taken) e = tt
  through (within next (asking asked)) e = tt
  through (within next (writing part)) e = tt
  through (within next noting) e = tt

  pub whole : IfThrough ends r (MadeRun rules old new b r)
  whole = subst (λ (z : Result Counts (GateFault E)). IfThrough ends z (MadeRun rules old new b z)) (sym a.returned) (through a.run.ending refl)

  -- of the item at hand a beginning was asked and written
  pub asked_first : (g : Ending E) → EndsAt ends live rules.limits rules.allows rules.aad old.left a.run.done a.run.rest g → IsFront (asked_at rules.allows rules.aad g) (qs (at_hand g))
  asked_first finished e = none_first []
  asked_first unflushed e = none_first []
  asked_first (unreadable f taken) e = none_first []
  asked_first (no_memory taken) e = none_first []
  asked_first (within next (asking asked)) e = first_then asked _ _ (append-nil _) e.0
  asked_first (within next (writing part)) e = all_first _ _ (append-nil _)
  asked_first (within next noting) e = all_first _ _ (append-nil _)

  written_first : (g : Ending E) → EndsAt ends live rules.limits rules.allows rules.aad old.left a.run.done a.run.rest g → IsFront (written_at rules.allows rules.aad g) (ws (at_hand g))
  written_first finished e = none_first []
  written_first unflushed e = none_first []
  written_first (unreadable f taken) e = none_first []
  written_first (no_memory taken) e = none_first []
  written_first (within next (asking asked)) e = none_first _
  written_first (within next (writing part)) e = first_then part _ _ (append-nil _ ∙ ap (λ z. cond z (text_of next.finding) []) e.0) e.1
  written_first (within next noting) e = all_first _ _ (append-nil _)

  pub begins : (ss : List Step) (rest : List ℕ) → Run rules.limits rules.allows rules.aad old.offset b ss rest → BeginsSteps rules.allows rules.aad a.run ss
  begins ss rest run =
      let w = course_within rules.limits rules.allows rules.aad old.offset b _ ss _ rest course run in
      let s = twins_split rules.limits rules.allows rules.aad a.run.done (at_hand a.run.ending) w.front w.twins in
      let parts : ss ≡ s.front ++ (s.behind ++ w.behind) = w.whole ∙ ap (λ z. z ++ w.behind) s.whole ∙ append_assoc s.front s.behind w.behind in
      record {
        asked = front_within (qs a.run.done) _ (qs (at_hand a.run.ending)) (qs w.behind) _
            (ap (λ z. qs z) parts ∙ asks_append rules.allows rules.aad s.front (s.behind ++ w.behind) ∙ ap (λ z. qs s.front ++ z) (asks_append rules.allows rules.aad s.behind w.behind)
            ∙ ap (λ z. z ++ (qs s.behind ++ qs w.behind)) (sym (twins_questions rules.limits rules.allows rules.aad a.run.done s.front s.first))
            ∙ ap (λ z. qs a.run.done ++ (z ++ qs w.behind)) (sym (twins_questions rules.limits rules.allows rules.aad (at_hand a.run.ending) s.behind s.then)))
            (asked_first a.run.ending a.ends_at);
        written = front_within (ws a.run.done) _ (ws (at_hand a.run.ending)) (ws w.behind) _
            (ap (λ z. ws z) parts ∙ writes_append rules.allows rules.aad s.front (s.behind ++ w.behind) ∙ ap (λ z. ws s.front ++ z) (writes_append rules.allows rules.aad s.behind w.behind)
            ∙ ap (λ z. z ++ (ws s.behind ++ ws w.behind)) (sym (twins_output rules.limits rules.allows rules.aad a.run.done s.front s.first))
            ∙ ap (λ z. ws a.run.done ++ (z ++ ws w.behind)) (sym (twins_output rules.limits rules.allows rules.aad (at_hand a.run.ending) s.behind s.then)))
            (written_first a.run.ending a.ends_at);
        noted = (s.front, record { more = s.behind ++ w.behind; whole = parts }, twins_entries rules.limits rules.allows rules.aad a.run.done s.front s.first);
      }
