-- What the gate says of a call, over a run of the input.
use Rattle.std.proofs.Common.{◌≡◌, ℕ, List, [], ◌++◌, Some, Bool, false, not, sym, ap, subst, ◌∙◌, append-nil}
use Rattle.std.specs.Prelude.{Result, Ok, Err, IfOk}
use Rattle.std.specs.Io.KnownBytes.{Appends}
use Rattle.cose_gate.specs.Counts.{Counts}
use Rattle.cose_gate.specs.GateFault.{GateFault}
use Rattle.cose_gate.specs.GateRun.{Ran}
use Rattle.cose_gate.specs.Outcome.{Rules, GateState}
use Rattle.cose_gate.specs.Run.{Step, Run, passes, output_of, passed_count, refused_count}
use Rattle.cose_gate.specs.Runs.{MadeRun}
use Rattle.cose_gate_core.proofs.RanWhole.{whole}
use Rattle.cose_gate_core.proofs.Within.{Twins, course_within, unreadable_ends, twins_output, twins_count}

module _ {T S : Type 0} (rules : Rules T S) where
  -- what was written is what the steps of the run say, and so are the counts
  pub record Says (old new : GateState T S) {E : Type 0} (r : Result Counts (GateFault E)) (ss : List Step) (rest : List ℕ) : Type 0 where
    pub written : Appends old.written new.written (output_of rules.allows rules.aad ss)
    pub counted : IfOk r (λ n. (n.passed ≡ passed_count rules.allows rules.aad ss) × (n.refused ≡ refused_count rules.allows rules.aad ss) × (rest ≡ []))

  module _ (old new : GateState T S) {E : Type 0} (r : Result Counts (GateFault E)) (b : List ℕ) (ss : List Step) (rest : List ℕ) (run : Run rules.limits rules.allows rules.aad old.offset b ss rest) where
    counted : (cs : List Step) (more : List ℕ) → Twins rules.limits rules.allows rules.aad cs ss → rest ≡ more → (q : Result Counts (GateFault E))
        → IfOk q (λ n. (n.passed ≡ passed_count rules.allows rules.aad cs) × (n.refused ≡ refused_count rules.allows rules.aad cs) × (more ≡ []))
        → IfOk q (λ n. (n.passed ≡ passed_count rules.allows rules.aad ss) × (n.refused ≡ refused_count rules.allows rules.aad ss) × (rest ≡ []))
    counted cs more t e (Ok n) c = (
      c.0 ∙ twins_count rules.limits rules.allows rules.aad (λ f. passes rules.allows rules.aad f) cs ss t,
      c.1 ∙ twins_count rules.limits rules.allows rules.aad (λ f. not (passes rules.allows rules.aad f)) cs ss t,
      e ∙ c.2,
    )
    counted cs more t e (Err f) c = tt

    pub says : MadeRun rules old new b r → Says old new r ss rest
    says m =
        let w = course_within rules.limits rules.allows rules.aad old.offset b m.steps ss m.rest rest (record { sequence = m.run.items.sequence; steps = m.run.steps }) run in
        let e = unreadable_ends rules.limits rules.allows rules.aad w.place m.rest rest w.behind m.run.items.ends w.left in
        let t : Twins rules.limits rules.allows rules.aad m.steps ss = subst (λ z. Twins rules.limits rules.allows rules.aad m.steps z) (sym (w.whole ∙ ap (λ x. w.front ++ x) e.0 ∙ append-nil w.front)) w.twins in
        record {
          written = subst (λ (z : List ℕ). Appends old.written new.written z) (twins_output rules.limits rules.allows rules.aad m.steps ss t) m.made.written;
          counted = counted m.steps m.rest t e.1 r m.counted;
        }

-- over a run that begins where the reader did, if the gate went through all items
pub says_all : {T S E : Type 0} (ends : E → Bool) (rules : Rules T S) (old new : GateState T S) (counts : Counts) (b : List ℕ) → Ran ends false rules old new (Ok counts) → old.left ≡ Some b → old.offset ≡ 0
    → (ss : List Step) (rest : List ℕ) → Run rules.limits rules.allows rules.aad 0 b ss rest → Says rules old new {E = E} (Ok counts) ss rest
says_all ends rules old new counts b a is start ss rest run =
    says rules old new (Ok counts) b ss rest (subst (λ (n : ℕ). Run rules.limits rules.allows rules.aad n b ss rest) (sym start) run) (whole ends false rules old new (Ok counts) b a is)

pub counts_all : {T S E : Type 0} (ends : E → Bool) (rules : Rules T S) (old new : GateState T S) (counts : Counts) (b : List ℕ) → Ran ends false rules old new (Ok counts) → old.left ≡ Some b → old.offset ≡ 0
    → (ss : List Step) (rest : List ℕ) → Run rules.limits rules.allows rules.aad 0 b ss rest
    → (counts.passed ≡ passed_count rules.allows rules.aad ss) × (counts.refused ≡ refused_count rules.allows rules.aad ss)
counts_all ends rules old new counts b a is start ss rest run =
    let s = says_all ends rules old new counts b a is start ss rest run in
    (s.counted.0, s.counted.1)
