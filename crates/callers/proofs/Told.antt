-- What runs say whose answers come from elsewhere.
use Rattle.std.proofs.Common.{◌≡◌, ℕ, List, [], ◌∷◌, ◌++◌, flat_map, Some, Bool, true, false, ap, subst, sym, ◌∙◌, append_assoc, append-nil}
use Rattle.std.proofs.lemmas.Grind.{flat_map-append}
use Rattle.std.specs.Prelude.{Ok, Err}
use Rattle.cose_gate.specs.Asked.{folded_over}
use Rattle.cose_gate.specs.Counts.{Counts}
use Rattle.cose_gate.specs.Entry.{Entry}
use Rattle.cose_gate.specs.Findings.{usual}
use Rattle.cose_gate.specs.GateFault.{GateFault}
use Rattle.cose_gate.specs.GateRun.{at_hand, taken_at, asked_at, asked_in, Ran}
use Rattle.cose_gate.specs.Outcome.{Rules, GateState}
use Rattle.cose_gate.specs.Questions.{Question}
use Rattle.cose_gate.specs.Records.{record_of}
use Rattle.cose_gate.specs.Run.{Course, asked_of, questions_of}
use Rattle.callers.specs.Asking.{always, IsAsked, IsAskedInPart, IsPassedBy}
use Rattle.callers.proofs.Relay.{appended, whole_course}
use Rattle.cose_gate_core.proofs.RanWhole as ran

-- records that are told one after another are in that order
told_records : (told : List ℕ) (qs : List Question)
    → folded_over (λ t q. t ++ record_of q) told qs ≡ told ++ flat_map record_of qs
told_records told [] = sym (append-nil told)
told_records told (q ∷ qs) =
    told_records (told ++ record_of q) qs ∙ append_assoc told (record_of q) (flat_map record_of qs)

-- what the gate goes by with a judge that tells what it is asked, and with one that keeps nothing
abbrev pub asking : {S : Type 0} → (S → Entry → S) → List ℕ → Rules (List ℕ) S
asking folded aad = record {
  limits = usual;
  decided = λ t q. t ++ record_of q;
  folded = folded;
  allows = λ q. true;
  aad = aad;
}

abbrev pub passing : {S : Type 0} → (S → Entry → S) → (Question → Bool) → List ℕ
    → Rules (Unit {0}) S
passing folded rule aad = record {
  limits = usual;
  decided = λ t q. t;
  folded = folded;
  allows = rule;
  aad = aad;
}

module _ {S : Type 0} (folded : S → Entry → S) (aad input : List ℕ) (old new : GateState (List ℕ) S) {E : Type 0} (ends : E → Bool) (start : old.offset ≡ 0) (is : old.left ≡ Some input) where
  pub asked : (counts : Counts) → Ran ends false (asking folded aad) old new (Ok counts) → IsAsked aad input old.told new.told counts
  asked counts a =
      let m = ran.whole ends false (asking folded aad) old new (Ok counts) input a is in
      record {
        steps = m.steps;
        course = whole_course usual always aad old.offset input start m.steps m.rest m.counted.2 m.run;
        records = m.made.told ∙ told_records old.told (questions_of always aad m.steps);
        passed = m.counted.0;
        refused = m.counted.1;
      }

  pub asked_in_part : (fault : GateFault E) → Ran ends false (asking folded aad) old new (Err fault) → IsAskedInPart aad input old.told new.told
  asked_in_part fault a = record {
    steps = a.run.done ++ at_hand a.run.ending;
    more = taken_at a.run.ending ++ a.run.rest;
    course = subst (λ (n : ℕ). Course usual always aad n input (a.run.done ++ at_hand a.run.ending) (taken_at a.run.ending ++ a.run.rest)) start
        (ran.course ends false (asking folded aad) old new (Err fault) input a is);
    front = asked_in always aad a.run;
    is_front = ran.front_within (questions_of always aad a.run.done) (asked_at always aad a.run.ending) (questions_of always aad (at_hand a.run.ending)) [] _
        (flat_map-append (λ s. asked_of always aad s.finding) a.run.done (at_hand a.run.ending)
        ∙ ap (λ (qs : List Question). questions_of always aad a.run.done ++ qs) (sym (append-nil (questions_of always aad (at_hand a.run.ending)))))
        (ran.asked_first ends false (asking folded aad) old new (Err fault) input a is a.run.ending a.ends_at);
    records = a.asked ∙ told_records old.told (asked_in always aad a.run);
  }

pub passed_by : {S : Type 0} (folded : S → Entry → S) (grants : Question → Bool) (aad input : List ℕ) (old new : GateState (Unit {0}) S) {E : Type 0} (ends : E → Bool) → old.offset ≡ 0 → old.left ≡ Some input
    → (output : List ℕ) (counts : Counts) → old.written ≡ Some [] → new.written ≡ Some output → Ran ends false (passing folded grants aad) old new (Ok counts)
    → IsPassedBy grants aad input output counts
passed_by folded grants aad input old new ends start is output counts none out a =
    let m = ran.whole ends false (passing folded grants aad) old new (Ok counts) input a is in
    record {
      steps = m.steps;
      course = whole_course usual grants aad old.offset input start m.steps m.rest m.counted.2 m.run;
      output_is = appended none out m.made.written;
      passed = m.counted.0;
      refused = m.counted.1;
    }
