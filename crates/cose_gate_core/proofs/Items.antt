-- One item: what is found of it, and what is after it.
use Rattle.std.proofs.Common.{◌≡◌, ◌≢◌, ℕ, inl, inr, List, [], Option, None, Some, cond, refl, sym, ap, subst, ◌∙◌, take, drop}
use Rattle.std.specs.Prelude.{is_none}
use Rattle.std.specs.Io.KnownBytes.{Appends}
use Rattle.std.proofs.KnownBytes.{Appends-nil}
use Rattle.std.proofs.lemmas.List.{take-append-drop}
use Rattle.ciborium_value.specs.Tree.{Tree, tag}
use Rattle.coset_labels.specs.Faults.{CoseFault, OrMemory, fault_of}
use Rattle.coset_labels.specs.declared.error.CoseError.{CoseError}
use Rattle.coset_labels.specs.declared.error.CoseError.TheVariants as code
use Rattle.cose_gate_core.specs.Questions.{MessageFields, number_of, tag_of, payload_of, questions, message_text}
use Rattle.cose_gate_core.specs.Asked.{asked, first_no, folded_over, ToldPart}
use Rattle.cose_gate_core.specs.Findings.{Reason, not_tagged, encrypted, other_tag, shape, detached, no_signature, not_shortest, judged, barred, Bounds, HasMessage, IsCarried, IsUnsigned, IsJudged, IsBarred, Finds}
use Rattle.cose_gate_core.specs.Misshapen.{NamesShape}
use Rattle.cose_gate_core.specs.Run.{IsVerdict, judged_by, written_of}
use Rattle.cose_gate_core.specs.Passing.{IsRefused, ItemRules, ItemSight, WentThrough, IsWriteFault, ItemFails}
use Rattle.cose_gate_core.specs.declared.passing.ItemFault.{ItemFault}
use Rattle.cose_gate_core.specs.declared.passing.ItemFault.TheVariants as fault
use Rattle.cose_gate_core.specs.declared.report.Refusal.{Refusal}
use Rattle.cose_gate_core.specs.declared.report.Refusal.TheVariants as refusal
use Rattle.cose_gate_core.specs.declared.report.Verdict.TheVariants.{Passed, Refused}
use Rattle.cose_gate_core.proofs.Unique.{no_message}

-- a fault other than being out of memory
pub not_memory : (Wrong : CoseFault → Type 0) (e : CoseError) → OrMemory Wrong e → e ≢ code.Memory → Wrong (fault_of e)
not_memory Wrong e (inl memory) other = absurd (other memory)
not_memory Wrong e (inr wrong) other = wrong

-- a message that doesn't carry its payload
pub is_detached : (limits : Bounds) (b : List ℕ) (u : Tree) (m : MessageFields) → HasMessage limits u m → payload_of m ≡ None → IsBarred limits b (tag (tag_of m) u) detached
is_detached limits b u m h n = (m, (u, refl, h), n)

-- a message that carries its payload and has no signature
pub is_unsigned : (limits : Bounds) (b : List ℕ) (u : Tree) (m : MessageFields) → HasMessage limits u m → IsCarried m → IsUnsigned m → IsBarred limits b (tag (tag_of m) u) no_signature
is_unsigned limits b u m h p s = (m, (u, refl, h), p, s)

-- a message that is judged
pub is_judged : (limits : Bounds) (u : Tree) (m : MessageFields) → HasMessage limits u m → IsCarried m → (IsUnsigned m → ⊥) → IsJudged limits (tag (tag_of m) u) m
is_judged limits u m h p s = ((u, refl, h), p, s)

-- the judge's answers name no shape
pub answers_name : (limits : Bounds) (t : Tree) (o : Option ℕ) → NamesShape limits t (judged_by o)
answers_name limits t None = tt
answers_name limits t (Some n) = tt

module _ {T : Type 0} (rules : ItemRules T) where
  abbrev seen : T → Option (List ℕ) → ItemSight T
  seen told written = record { told = told; written = written }

  barred_as : (b : List ℕ) (t : Tree) (told : T) (w : Option (List ℕ)) (r : Reason) (v : Refusal) → IsBarred rules.limits b t r
      → IsVerdict rules.allows rules.aad (barred r) (Refused v) → NamesShape rules.limits t (Refused v) → WentThrough rules b t (seen told w) (seen told w) (Refused v)
  barred_as b t told w r v is says named = record { finding = barred r; finds = is; verdict = says; shape = named; tells = refl; writes = Appends-nil w }

  -- a refusal before any question
  pub taken_barred : (b : List ℕ) (t : Tree) (told : T) (w : Option (List ℕ)) (r : Refusal) → IsRefused rules.limits b t r → WentThrough rules b t (seen told w) (seen told w) (Refused r)
  taken_barred b t told w refusal.NotTagged is = barred_as b t told w not_tagged refusal.NotTagged is refl tt
  taken_barred b t told w (refusal.OtherTag n) is = barred_as b t told w (other_tag n) (refusal.OtherTag n) is refl tt
  taken_barred b t told w refusal.Encrypted is = barred_as b t told w encrypted refusal.Encrypted is refl tt
  taken_barred b t told w (refusal.Shape e) is =
      barred_as b t told w shape (refusal.Shape e) ((number_of is.0, is.1, is.2, (is.0, refl)), no_message rules.limits t (fault_of e) is) (e, refl) is
  taken_barred b t told w refusal.Detached is = barred_as b t told w detached refusal.Detached is refl tt
  taken_barred b t told w refusal.NoSignature is = barred_as b t told w no_signature refusal.NoSignature is refl tt
  taken_barred b t told w (refusal.Judged n) is = absurd is
  taken_barred b t told w refusal.NotShortest is = barred_as b t told w not_shortest refusal.NotShortest is refl tt

  written_no : (m : MessageFields) (i : ℕ) → Some i ≡ first_no rules.allows (questions m rules.aad) → written_of rules.allows rules.aad (judged m) ≡ []
  written_no m i e = ap (λ o. cond (is_none o) (message_text m) []) (sym e)

  written_yes : (m : MessageFields) → None ≡ first_no rules.allows (questions m rules.aad) → written_of rules.allows rules.aad (judged m) ≡ message_text m
  written_yes m e = ap (λ o. cond (is_none o) (message_text m) []) (sym e)

  -- the judge said no
  pub taken_no : (b : List ℕ) (t : Tree) (told told' : T) (w : Option (List ℕ)) (m : MessageFields) (i : ℕ) → Finds rules.limits b t (judged m) → Some i ≡ first_no rules.allows (questions m rules.aad)
      → told' ≡ folded_over rules.decided told (asked rules.allows (questions m rules.aad)) → WentThrough rules b t (seen told w) (seen told' w) (Refused (refusal.Judged i))
  taken_no b t told told' w m i is said tells = record {
    finding = judged m;
    finds = is;
    verdict = ap judged_by said;
    shape = tt;
    tells = tells;
    writes = subst (λ (x : List ℕ). Appends w w x) (sym (written_no m i said)) (Appends-nil w);
  }

  -- the judge said yes, and the encoding was written
  pub taken_yes : (b : List ℕ) (t : Tree) (told told' : T) (w w' : Option (List ℕ)) (m : MessageFields) → Finds rules.limits b t (judged m) → None ≡ first_no rules.allows (questions m rules.aad)
      → told' ≡ folded_over rules.decided told (asked rules.allows (questions m rules.aad)) → Appends w w' (message_text m) → WentThrough rules b t (seen told w) (seen told' w') Passed
  taken_yes b t told told' w w' m is said tells writes = record {
    finding = judged m;
    finds = is;
    verdict = ap judged_by said;
    shape = tt;
    tells = tells;
    writes = subst (λ (x : List ℕ). Appends w w' x) (sym (written_yes m said)) writes;
  }

  -- writing failed
  pub half_written : (b : List ℕ) (t : Tree) (told told' : T) (w w' : Option (List ℕ)) (m : MessageFields) (f : ItemFault) → Finds rules.limits b t (judged m) → None ≡ first_no rules.allows (questions m rules.aad)
      → told' ≡ folded_over rules.decided told (asked rules.allows (questions m rules.aad)) → IsWriteFault w w' (message_text m) f → ItemFails rules b t (seen told w) (seen told' w') f
  half_written b t told told' w w' m fault.Write is said tells writes = record {
    message = m;
    is = is;
    passed = ap is_none (sym said);
    tells = tells;
    front = take writes.0 (message_text m);
    front_is = record { more = drop writes.0 (message_text m); whole = written_yes m said ∙ sym (take-append-drop writes.0 (message_text m)) };
    writes = writes.1;
  }
  half_written b t told told' w w' m fault.Memory is said tells writes = absurd writes
