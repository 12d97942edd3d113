-- What a judge by rules and a verifier says, and what it holds of a question (RFC 9052, sections 4.4
-- and 6.3).
use Rattle.std.specs.Prelude.{◌≡◌, ℕ, ℤ, List, Option, None, Some, Bool, Result, Ok, Err, map}
use Rattle.coset_keys.specs.Fields.{KeyFields}
use Rattle.coset_keys.specs.View.{key_view}
use Rattle.cose_rules.specs.Algorithms.{verify, verify_mac}
use Rattle.cose_rules.specs.Rule.{RulingFields, ask, refuse, ruling, is_good}
use Rattle.cose_rules.specs.declared.algorithms.Scheme.{Scheme}
use Rattle.cose_rules.specs.declared.deciding.Refusal.{Refusal}
use Rattle.cose_rules.specs.declared.deciding.Refusal.TheVariants as refusal
use Rattle.cose_rules.specs.declared.verifying.Verify.{Ghosts as Verifies}
use Rattle.cose_gate_core.specs.Questions.{Subject, Question}
use Rattle.cose_gate_core.specs.declared.about.MessageKind.{MessageKind}
use Rattle.cose_gate_core.specs.declared.about.MessageKind.TheVariants as kind
use Rattle.cose_ruled.specs.declared.judge.RuledJudge.{RuledJudge}

-- what its answers depend on
pub record RuledBy (V : Type 0) : Type 0 where
  pub verifier : V
  pub keys : List KeyFields

-- what a key has to be for: to verify a signature or a MAC (RFC 9052, section 7.1); the key of a
-- COSE_Mac is that of its recipients (section 6.1), which no rule here speaks of
abbrev pub operation_of : MessageKind → Option ℤ
operation_of kind.Sign1 = Some verify
operation_of kind.Mac0 = Some verify_mac
operation_of kind.Sign = Some verify
operation_of kind.Mac = None

abbrev pub ruled_for : List KeyFields → Subject → Option ℤ → RulingFields
ruled_for keys s None = refuse refusal.Recipients
ruled_for keys s (Some operation) = ruling operation keys (s.protected, s.unprotected) s.signer

-- the ruling on a question, under these keys
abbrev pub ruled : List KeyFields → Subject → RulingFields
ruled keys s = ruled_for keys s (operation_of s.kind)

-- yes if the rules allow it, and the signature is good under one of the keys that they allow
abbrev pub accepts : {V : Type 0} → Verifies V → RuledBy V → Question → Bool
accepts v w q =
    is_good (λ n k. v.verifies w.verifier n k q.covered q.signature) w.keys (ruled w.keys q.subject)

-- why a question isn't asked
abbrev pub reason : RulingFields → Option Refusal
reason (ask s id) = None
reason (refuse r) = Some r

abbrev pub who_of : {V : Type 0} → RuledJudge V → RuledBy V
who_of j = record { verifier = j.verifier; keys = map key_view j.keys.now }

-- the ruling that it holds in its parts
abbrev pub ruling_by : List ℕ → Result Scheme Refusal → RulingFields
ruling_by id (Ok s) = ask s id
ruling_by id (Err r) = refuse r

-- the covered bytes were gathered, if it is asked about
abbrev pub IsFed : Result Scheme Refusal → List ℕ → List ℕ → Type 0
IsFed (Ok s) gathered covered = gathered ≡ covered
IsFed (Err r) gathered covered = Unit {0}

-- a judge holds a question: the ruling is that on the subject, and these covered bytes were fed
abbrev pub IsHeld : {V : Type 0} → RuledJudge V → Subject → List ℕ → Type 0
IsHeld j s covered = (ruling_by j.id.items j.asked ≡ ruled (who_of j).keys s)
    × IsFed j.asked j.covered.items covered
