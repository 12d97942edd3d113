-- What the run that asks by the rules wrote into memory.
use Rattle.std.proofs.Common.{◌≡◌, ℕ, ◌+◌, List, [], ◌∷◌, ◌++◌, Option, Some, None, refl, sym, ap, subst, ◌∙◌, arith}
use Rattle.std.specs.Io.KnownBytes.{Appends}
use Rattle.ciborium_ll.specs.declared.write.Write.{Ghosts as Writes}
use Rattle.coset_labels.specs.Reading.{HasItem}
use Rattle.coset_keys.specs.Fields.{KeyFields}
use Rattle.coset_keys.specs.Keys.{HasKeySet}
use Rattle.cose_rules.specs.Claims.{TermsFields}
use Rattle.cose_gate_core.specs.Findings.{Bounds}
use Rattle.cose_gate_core.specs.GateRun.{Ending, finished, unflushed, unreadable, no_memory, within, result_at}
use Rattle.cose_gate_core.specs.Outcome.{writer_failures}
use Rattle.cose_gate_core.specs.declared.gating.Counts.{Counts}
use Rattle.cose_gate_program.specs.Beginning.{BeginsNot}
use Rattle.cose_gate_program.specs.Program.{Devices, Shows}
use Rattle.cose_gate_program.specs.Telling.{RanTold}
use Rattle.cose_gate_program.specs.declared.beginning.NotBegun.{NotBegun}
use Rattle.cose_gate_program.specs.declared.beginning.NotBegun.TheVariants as unbegun
use Rattle.cose_gate_program.specs.declared.devices.InputFault.{InputFault}
use Rattle.cose_gate_program.specs.declared.telling.Notice.{Notice}
use Rattle.cose_gate_records.specs.Calls.{devices}
use Rattle.cose_gate_records.specs.Lines.{AreLinesOf}
use Rattle.cose_ruled.specs.Blocks.{asks}
use Rattle.cose_ruled.specs.Running.{AreBlocks, Handed}
use Rattle.cose_gate_c.specs.RuledAsking.{TellsBlocks}

-- a writer that didn't fail has all blocks
pub handed_whole : {W F : Type 0} (w : Writes W F) (out out' : W) (blocks : List ℕ) (counts : Counts) (ending : Ending InputFault) (f f' k : ℕ) → Handed w out out' blocks ending
    → f' ≡ f → f' ≡ f + writer_failures (result_at counts ending) + k → Appends (w.written out) (w.written out') blocks
handed_whole w out out' blocks counts finished f f' k h same e = h
handed_whole w out out' blocks counts unflushed f f' k h same e = absurd (omega (arith, same, e))
handed_whole w out out' blocks counts (unreadable x taken) f f' k h same e = h
handed_whole w out out' blocks counts (no_memory taken) f f' k h same e = h
handed_whole w out out' blocks counts (within next half) f f' k h same e = h

-- a reader, and how often a writer has failed
abbrev reader : Option (List ℕ) → ℕ → Devices
reader left f = record { left = left; written = None; read_failures = 0; write_failures = f }

-- the run with a writer into memory
pub told_whole : (limits : Bounds) (token : Option TermsFields) (keys : List KeyFields) (aad : List ℕ) (input : List ℕ) (left : Option (List ℕ)) (f f' status : ℕ) (first text lines : List ℕ) (count : ℕ) (P : List Notice → Type 0) (blocks : List ℕ)
    (r : RanTold limits (asks keys) aad (reader (Some input) f) (reader left f') status (λ _. Unit {0}) P) → AreBlocks token keys aad r.run.done blocks → first ≡ [] → f ≡ 0 → f' ≡ 0 → (f' ≡ f → text ≡ first ++ blocks)
    → ((ns : List Notice) (last : Notice) → P (ns ++ last ∷ []) → AreLinesOf lines count (ns ++ last ∷ []))
    → TellsBlocks limits token keys aad input lines count text status
told_whole limits token keys aad input left f f' status first text lines count P blocks r are begun none well wrote tells =
    let run = r.run in (
      left,
      record {
        run = run;
        flushed = r.flushed;
        shows = subst (λ (n : ℕ). Shows limits (asks keys) aad (reader (Some input) n) (devices left None) run r.flushed) none
            (subst (λ (n : ℕ). Shows limits (asks keys) aad (reader (Some input) f) (reader left n) run r.flushed) well r.shows);
        asked = tt;
        told = tells _ _ r.told;
        status_is = r.status_is;
      },
      subst (λ (z : List ℕ). AreBlocks token keys aad run.done z) (sym (wrote (well ∙ sym none) ∙ ap (λ (z : List ℕ). z ++ blocks) begun)) are,
    )

-- the bytes are those that were read
pub set_of : (keys b : List ℕ) (ks : List KeyFields) → Some keys ≡ Some b → HasItem HasKeySet b ks → HasItem HasKeySet keys ks
set_of keys b ks e has = let same : b ≡ keys = cc in subst (λ (z : List ℕ). HasItem HasKeySet z ks) same has

-- why a run doesn't begin, whatever the external data
pub begins_not : (keys d aad : List ℕ) (why : NotBegun) → BeginsNot (Some keys) (Some d) why → BeginsNot (Some keys) (Some aad) why
begins_not keys d aad unbegun.NoFile n = n
begins_not keys d aad unbegun.NotHex n = absurd (let no : Some d ≡ None = n.2 in cc)
begins_not keys d aad (unbegun.NoKeys e) n = (n.0, aad, n.2, refl, n.4)
begins_not keys d aad unbegun.Memory n = n
