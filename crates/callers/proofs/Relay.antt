-- What the gate's result says of a relay.
use Rattle.std.proofs.Common.{◌≡◌, ℕ, ◌+◌, List, [], ◌∷◌, ◌++◌, length, Option, Some, Bool, false, refl, ap, subst, sym, ◌∙◌, append_assoc, append-nil, zero-add}
use Rattle.std.specs.Prelude.{Result, Ok, Err, IfErr}
use Rattle.std.specs.Io.KnownBytes.{Appends}
use Rattle.cose_gate.specs.Reading.{IfKnown}
use Rattle.cose_gate.specs.Findings.{Bounds, usual}
use Rattle.cose_gate.specs.Questions.{Question}
use Rattle.cose_gate.specs.Asked.{folded_over}
use Rattle.cose_gate.specs.GateRun.{asking, writing, noting, Ending, finished, unflushed, unreadable, no_memory, within, at_hand, taken_at, asked_at, asked_in, result_at, FaultAt, Ran}
use Rattle.cose_gate.specs.Run.{Step, Run, Course, questions_of}
use Rattle.cose_gate.specs.Outcome.{Rules, GateState, IsFaultOf}
use Rattle.cose_gate.specs.Counts.{Counts}
use Rattle.cose_gate.specs.GateFault.{GateFault}
use Rattle.cose_gate_core.proofs.RanWhole as ran
use Rattle.callers.specs.Judging.{key_id_of, key_ids_of, allows, Sides, Relayed, RelayedRun, IsDue, Halted}
use Rattle.callers.specs.Tallies.{Tallied, tallied}
use Rattle.callers.proofs.Over.{says_all}

abbrev pub decided : List (List ℕ) → Question → List (List ℕ)
decided told q = told ++ key_id_of q.subject ∷ []

-- questions that are told one after another are in that order
pub told_all : (told : List (List ℕ)) (qs : List Question) → folded_over decided told qs ≡ told ++ key_ids_of qs
told_all told [] = sym (append-nil told)
told_all told (q ∷ qs) = told_all (told ++ key_id_of q.subject ∷ []) qs ∙ append_assoc told (key_id_of q.subject ∷ []) (key_ids_of qs)

abbrev pub by : Bounds → List (List ℕ) → List ℕ → Rules (List (List ℕ)) Tallied
by limits ids aad = record { limits = limits; decided = decided; folded = tallied; allows = allows ids; aad = aad }

-- what was written into an empty memory
pub appended : {old new : Option (List ℕ)} {output xs : List ℕ} → old ≡ Some [] → new ≡ Some output → Appends old new xs → output ≡ xs
appended {old} {new} {output} {xs} a b p =
    let q = subst (λ (z : Option (List ℕ)). Appends z new xs) a p in
    let r = subst (λ (z : Option (List ℕ)). Appends (Some []) z xs) b q in r

-- nothing is left after the items of this run
pub whole_course : (limits : Bounds) (allows : Question → Bool) (aad : List ℕ) (at : ℕ) (b : List ℕ) → at ≡ 0 → (ss : List Step) (rest : List ℕ) → rest ≡ [] → Run limits allows aad at b ss rest
    → Course limits allows aad 0 b ss []
whole_course limits allows aad at b start ss rest none run =
    subst (λ (z : List ℕ). Course limits allows aad 0 b ss z) none (subst (λ (n : ℕ). Course limits allows aad n b ss rest) start (record { sequence = run.items.sequence; steps = run.steps }))

abbrev sides : GateState (List (List ℕ)) Tallied → Sides
sides s = record { asked = s.told; tally = s.state }

module _ (ids : List (List ℕ)) (aad input : List ℕ) (old new : GateState (List (List ℕ)) Tallied) {E : Type 0} (ends : E → Bool) (start : old.offset ≡ 0) (is : old.left ≡ Some input) where
  pub whole : (output : List ℕ) (counts : Counts) → old.written ≡ Some [] → new.written ≡ Some output → Ran ends false (by usual ids aad) old new (Ok counts)
      → Relayed ids aad input (sides old) (sides new) output counts
  whole output counts none out a =
      let m = ran.whole ends false (by usual ids aad) old new (Ok counts) input a is in
      record {
        steps = m.steps;
        course = whole_course usual (allows ids) aad old.offset input start m.steps m.rest m.counted.2 m.run;
        output_is = appended none out m.made.written;
        passed = m.counted.0;
        refused = m.counted.1;
        asked = m.made.told ∙ told_all old.told (questions_of (allows ids) aad m.steps);
        tally = m.made.state;
      }

  -- the fault of what is left
  module _ (r : Result Counts (GateFault E)) (a : Ran ends false (by usual ids aad) old new r) where
    due_at : (counts : Counts) (g : Ending E) → a.run.ending ≡ g → IfErr (result_at counts g) (IsDue ends (length input) (taken_at g ++ a.run.rest) (at_hand g))
    due_at counts finished e = tt
    due_at counts unflushed e = tt
    due_at counts (unreadable f taken) e =
        let fault = subst (λ (g : Ending E). FaultAt ends usual old.offset old.left a.run.rest g) e a.fault in
        let here = subst (λ (l : Option (List ℕ)). IfKnown l (λ b. IsFaultOf ends usual.nesting (old.offset + length b) (taken ++ a.run.rest) f)) is fault in
        (refl, subst (λ (n : ℕ). IsFaultOf ends usual.nesting n (taken ++ a.run.rest) f) (ap (λ n. n + length input) start ∙ zero-add (length input)) here)
    due_at counts (no_memory taken) e = tt
    due_at counts (within next (asking asked)) e = tt
    due_at counts (within next (writing part)) e = tt
    due_at counts (within next noting) e = tt

    due : IfErr r (IsDue ends (length input) (taken_at a.run.ending ++ a.run.rest) (at_hand a.run.ending))
    due = subst (λ (q : Result Counts (GateFault E)). IfErr q (IsDue ends (length input) (taken_at a.run.ending ++ a.run.rest) (at_hand a.run.ending))) (sym a.returned) (due_at _ a.run.ending refl)

  pub halted : (fault : GateFault E) → Ran ends false (by usual ids aad) old new (Err fault) → Halted ends ids aad input (sides old) (sides new) fault
  halted fault a = record {
    done = a.run.done;
    last = at_hand a.run.ending;
    more = taken_at a.run.ending ++ a.run.rest;
    course = subst (λ (n : ℕ). Course usual (allows ids) aad n input (a.run.done ++ at_hand a.run.ending) (taken_at a.run.ending ++ a.run.rest)) start
        (ran.course ends false (by usual ids aad) old new (Err fault) input a is);
    asked = asked_at (allows ids) aad a.run.ending;
    asked_front = ran.asked_first ends false (by usual ids aad) old new (Err fault) input a is a.run.ending a.ends_at;
    told = a.asked ∙ told_all old.told (asked_in (allows ids) aad a.run);
    tally = a.noted;
    due = due (Err fault) a;
  }

-- over a run of the input
pub ran_whole : (limits : Bounds) (ids : List (List ℕ)) (aad input : List ℕ) (old new : GateState (List (List ℕ)) Tallied) {E : Type 0} (ends : E → Bool) (output : List ℕ) (counts : Counts) (ss : List Step) (rest : List ℕ)
    → Ran ends false (by limits ids aad) old new (Ok counts) → old.offset ≡ 0 → old.left ≡ Some input → old.written ≡ Some [] → new.written ≡ Some output
    → Run limits (allows ids) aad 0 input ss rest → RelayedRun ids aad ss rest output counts
ran_whole limits ids aad input old new ends output counts ss rest a start is none out run =
    let s = says_all ends (by limits ids aad) old new counts input a is start ss rest run in
    record {
      output_is = appended none out s.written;
      rest_is = s.counted.2;
      passed = s.counted.0;
      refused = s.counted.1;
    }
