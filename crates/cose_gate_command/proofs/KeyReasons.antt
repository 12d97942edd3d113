-- What is said of KEYS after the line of a notice.
use Rattle.std.proofs.Common.{◌≡◌, ℕ, List, [], ◌∷◌, ◌++◌, map, Option, Bool, true, false, refl, sym, ap, subst, append-nil}
use Rattle.std.specs.Prelude.{Result, Ok, Err, flat_map}
use Rattle.ciborium_ll.specs.declared.write.Write.{Ghosts as Writes}
use Rattle.cose_gate_core.specs.Findings.{Bounds}
use Rattle.cose_gate_core.specs.Questions.{Question}
use Rattle.cose_gate_core.specs.Run.{entries_of}
use Rattle.cose_gate_core.specs.declared.gating.Counts.{Counts as Count}
use Rattle.cose_gate_core.specs.declared.gating.GateFault.{GateFault}
use Rattle.cose_gate_core.specs.declared.report.Entry.{Entry}
use Rattle.cose_gate_program.specs.Lines.{line_of}
use Rattle.cose_gate_program.specs.Program.{Devices}
use Rattle.cose_gate_program.specs.Telling.{RanTold, last_of}
use Rattle.cose_gate_program.specs.Writing.{Wrote}
use Rattle.cose_gate_program.specs.declared.beginning.NotBegun.{NotBegun as Unbegun}
use Rattle.cose_gate_program.specs.declared.devices.InputFault.{InputFault}
use Rattle.cose_gate_program.specs.declared.telling.Notice.{Notice}
use Rattle.cose_gate_program.specs.declared.telling.Notice.TheVariants.{Item, NotBegun}
use Rattle.cose_gate_program.proofs.Written.{wrote_then}
use Rattle.cose_gate_command.specs.declared.line_writer.Items.{Items}
use Rattle.cose_gate_command.specs.KeyFiles.{reason_line}
use Rattle.cose_gate_command.specs.RunLines.{AddsReasons, SaysAll, SaysSince, line_with, shown}
use Rattle.cose_gate_command.specs.RunLines.Among.{nothing, line, more}

plain_last : (fault : List ℕ) (keys : Option (List ℕ)) (kept : Items) (r : Result Count (GateFault InputFault)) (flushed : Bool)
    → line_with fault keys kept (last_of r flushed) ≡ shown kept (last_of r flushed)
plain_last fault keys kept (Ok counts) true = refl
plain_last fault keys kept (Ok counts) false = refl
plain_last fault keys kept (Err e) flushed = refl

plain_items : (fault : List ℕ) (keys : Option (List ℕ)) (kept : Items) (es : List Entry) (last : Notice) → line_with fault keys kept last ≡ shown kept last
    → flat_map (line_with fault keys kept) (map (λ e. Item e) es ++ last ∷ []) ≡ flat_map (shown kept) (map (λ e. Item e) es ++ last ∷ [])
plain_items fault keys kept [] last same = ap (λ (z : List ℕ). z ++ []) same
plain_items fault keys kept (e ∷ es) last same = ap (λ (z : List ℕ). shown kept (Item e) ++ z) (plain_items fault keys kept es last same)

-- of a run nothing is said of KEYS
pub plain_run : {limits : Bounds} {allows : Question → Bool} {aad : List ℕ} {old new : Devices} {status : ℕ} {A : List Question → Type 0} {W F : Type 0}
    (w : Writes W F) (err err' : W) (verbose : Bool) (kept : Items) (fault : List ℕ) (keys : Option (List ℕ)) → RanTold limits allows aad old new status A (λ ns. SaysSince w verbose kept (err ∷ []) err' ns)
    → RanTold limits allows aad old new status A (SaysAll w verbose kept fault keys err err')
plain_run w err err' true kept fault keys r = record {
  run = r.run;
  flushed = r.flushed;
  shows = r.shows;
  asked = r.asked;
  told = r.told;
  status_is = r.status_is;
}
plain_run w err err' false kept fault keys r = record {
  run = r.run;
  flushed = r.flushed;
  shows = r.shows;
  asked = r.asked;
  told = subst (λ (z : List ℕ). Wrote w err err' z) (sym (plain_items fault keys kept (entries_of r.run.done) _ (plain_last fault keys kept _ r.flushed))) r.told;
  status_is = r.status_is;
}

-- one that doesn't begin
pub with_reason : {W F : Type 0} (w : Writes W F) (old mid new : W) (verbose : Bool) (kept : Items) (fault : List ℕ) (keys : Option (List ℕ)) (why : Unbegun) → verbose ≡ false
    → Wrote w old mid (line_of (NotBegun why)) → Wrote w mid new (reason_line fault keys why) → SaysAll w verbose kept fault keys old new (NotBegun why ∷ [])
with_reason w old mid new true kept fault keys why is first then = absurd (cc)
with_reason w old mid new false kept fault keys why is first then =
    subst (λ (z : List ℕ). Wrote w old new z) (sym (append-nil (line_of (NotBegun why) ++ reason_line fault keys why)))
    (wrote_then w old mid new (line_of (NotBegun why)) (reason_line fault keys why) first then)

pub with_more : {W F : Type 0} (w : Writes W F) (old mid new : W) (verbose : Bool) (kept : Items) (fault : List ℕ) (keys : Option (List ℕ)) (why : Unbegun) → verbose ≡ true
    → Wrote w old mid (line_of (NotBegun why)) → AddsReasons w true mid new → SaysAll w verbose kept fault keys old new (NotBegun why ∷ [])
with_more w old mid new false kept fault keys why is first adds = absurd (cc)
with_more w old mid new true kept fault keys why is first adds =
    ∣ (line_of (NotBegun why) ++ adds.0, more (line nothing (NotBegun why)) adds.1, wrote_then w old mid new (line_of (NotBegun why)) adds.0 first adds.2) ∣₁
