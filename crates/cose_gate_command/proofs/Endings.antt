-- What lines whose last one waits are, as they were told.
use Rattle.std.proofs.Common.{◌≡◌, ℕ, List, [], ◌∷◌, ◌++◌, map, Option, None, Some, Bool, true, false, refl, sym, ap, subst, ◌∙◌, append-nil, append_assoc}
use Rattle.std.specs.Prelude.{Result, Ok, Err, is_ok}
use Rattle.ciborium_ll.specs.declared.write.Write.{Ghosts as Writes}
use Rattle.cose_gate_core.specs.Asked.{folded_over}
use Rattle.cose_gate_core.specs.Findings.{Bounds}
use Rattle.cose_gate_core.specs.Questions.{Question}
use Rattle.cose_gate_core.specs.Run.{entries_of}
use Rattle.cose_gate_core.specs.declared.gating.Counts.{Counts as Count}
use Rattle.cose_gate_core.specs.declared.gating.GateFault.{GateFault}
use Rattle.cose_gate_core.specs.declared.report.Entry.{Entry}
use Rattle.cose_gate_program.specs.Lines.{line_of, lines_of}
use Rattle.cose_gate_core.specs.GateRun.{GateRun, result_of}
use Rattle.cose_gate_program.specs.Program.{Devices}
use Rattle.cose_gate_program.specs.Telling.{RanTold, last_of, told_in}
use Rattle.cose_gate_program.specs.Writing.{Wrote, WroteSince, HandedOn}
use Rattle.cose_gate_program.specs.declared.devices.InputFault.{InputFault}
use Rattle.cose_gate_program.specs.declared.telling.Notice.{Notice}
use Rattle.cose_gate_program.specs.declared.telling.Notice.TheVariants.{Item}
use Rattle.cose_gate_program.proofs.Handed.{handed_after}
use Rattle.cose_gate_program.proofs.Tellings.{folded_then}
use Rattle.cose_gate_program.proofs.Written.{wrote_then}
use Rattle.cose_gate_command.specs.Asking.{item_line, item_lines, lines_if}
use Rattle.cose_gate_command.specs.declared.not_run.NotRun.{NotRun}
use Rattle.cose_gate_command.specs.Waiting.{Waiting, HoldsLast, waits, waits_by, waits_after, last_line}

-- items leave the writer and the last line as they are
over_items : {W : Type 0} (s : Waiting W) (es : List Entry)
    → folded_over waits_after s (map (λ e. Item e) es) ≡ record s { said = s.said ++ map (λ e. Item e) es }
over_items s [] = ap (λ (z : List Notice). record s { said = z }) (sym (append-nil s.said))
over_items s (e ∷ es) = over_items (waits_after s (Item e)) es
    ∙ ap (λ (z : List Notice). record s { said = z }) (append_assoc s.said (Item e ∷ []) (map (λ e. Item e) es))

after_last : {W : Type 0} (s : Waiting W) (n : Notice) → waits n ≡ Some n → waits_after s n ≡ record s { last = Some n }
after_last s n e = ap (λ (z : Option Notice). waits_by s n z) e

over_run : {W : Type 0} (s : Waiting W) (es : List Entry) (n : Notice) → waits n ≡ Some n
    → folded_over waits_after s (map (λ e. Item e) es ++ n ∷ []) ≡ record s { said = s.said ++ map (λ e. Item e) es; last = Some n }
over_run s es n w = folded_then waits_after s (map (λ e. Item e) es) n
    ∙ (ap (λ (z : Waiting _). waits_after z n) (over_items s es) ∙ after_last (record s { said = s.said ++ map (λ e. Item e) es }) n w)

-- both stay where they are
abbrev Stays : {W : Type 0} → Waiting W → Waiting W → Type 0
Stays s s' = (s'.name ≡ s.name) × (s'.place ≡ s.place)

stays_by : {W : Type 0} (s : Waiting W) (n : Notice) (o : Option Notice) → Stays s (waits_by s n o)
stays_by s n None = (refl, refl)
stays_by s n (Some x) = (refl, refl)

stays_over : {W : Type 0} (s : Waiting W) (ns : List Notice) → Stays s (folded_over waits_after s ns)
stays_over s [] = (refl, refl)
stays_over s (n ∷ ns) =
    let a = stays_over (waits_after s n) ns in
    let b = stays_by s n (waits n) in
    (a.0 ∙ b.0, a.1 ∙ b.1)

-- what a run ends with is no item
no_item : (r : Result Count (GateFault InputFault)) (flushed : Bool) → item_line (last_of r flushed) ≡ []
no_item (Ok counts) true = refl
no_item (Ok counts) false = refl
no_item (Err e) flushed = refl

it_waits : (r : Result Count (GateFault InputFault)) (flushed : Bool) → waits (last_of r flushed) ≡ Some (last_of r flushed)
it_waits (Ok counts) true = refl
it_waits (Ok counts) false = refl
it_waits (Err e) flushed = refl

-- the lines of the items of a run
only_items : (es : List Entry) (n : Notice) → item_line n ≡ [] → lines_of (map (λ e. Item e) es) ≡ item_lines (map (λ e. Item e) es ++ n ∷ [])
only_items [] n none = sym (ap (λ (z : List ℕ). z ++ []) none)
only_items (e ∷ es) n none = ap (λ (z : List ℕ). line_of (Item e) ++ z) (only_items es n none)

with_last : (done : List Notice) (n : Notice) → lines_of done ++ line_of n ≡ lines_of (done ++ n ∷ [])
with_last [] n = sym (append-nil (line_of n))
with_last (m ∷ done) n = append_assoc (line_of m) (lines_of done) (line_of n) ∙ ap (λ (z : List ℕ). line_of m ++ z) (with_last done n)

-- all lines, or those of the items
abbrev lines_so : Bool → List Notice → List ℕ
lines_so true ns = lines_of ns
lines_so false ns = item_lines ns

said_so : (so : Bool) (done : List Notice) (n : Notice) (ns : List Notice) → ns ≡ done ++ n ∷ [] → lines_of done ≡ item_lines ns
    → lines_of done ++ last_line so (Some n) ≡ lines_so so ns
said_so true done n ns e items = with_last done n ∙ sym (ap (λ (z : List Notice). lines_of z) e)
said_so false done n ns e items = append-nil (lines_of done) ∙ items

so_if : (so : Bool) (r : Result ℕ NotRun) (ns : List Notice) → so ≡ is_ok r → lines_so so ns ≡ lines_if r ns
so_if so (Ok s) ns e = ap (λ (z : Bool). lines_so z ns) e
so_if so (Err why) ns e = ap (λ (z : Bool). lines_so z ns) e

-- the last line was written, or not
pub last_written : {W F : Type 0} (w : Writes W F) (first mid err' : W) (so : Bool) (result : Result ℕ NotRun) (last : Option Notice) (ns : List Notice)
    → so ≡ is_ok result → HoldsLast w first mid last ns → Wrote w mid err' (last_line so last) → Wrote w first err' (lines_if result ns)
last_written w first mid err' so result last ns same h one =
    let said : Wrote w mid err' (last_line so (Some h.1)) = subst (λ (z : Option Notice). Wrote w mid err' (last_line so z)) h.3 one in
    subst (λ (z : List ℕ). Wrote w first err' z) (said_so so h.0 h.1 ns h.2 h.4 ∙ so_if so result ns same)
    (wrote_then w first mid err' (lines_of h.0) (last_line so (Some h.1)) h.5 said)

-- the last line waits
pub held_by : {W F : Type 0} (w : Writes W F) (allows : Question → Bool) (aad : List ℕ) (run : GateRun InputFault) (flushed : Bool) (s s' : Waiting W) (first now : W) (last : Option Notice)
    → s' ≡ folded_over waits_after s (told_in allows aad run flushed)
    → s.begun ≡ first ∷ [] → s.said ≡ [] → WroteSince w s'.begun now (lines_of s'.said) → last ≡ s'.last
    → HoldsLast w first now last (told_in allows aad run flushed)
held_by w allows aad run flushed s s' first now last told begun none spoke is =
    let es = entries_of run.done in
    let items : List Notice = map (λ e. Item e) es in
    let n : Notice = last_of (result_of allows aad run) flushed in
    let e : s' ≡ record s { said = s.said ++ items; last = Some n } = told ∙ over_run s es n (it_waits (result_of allows aad run) flushed) in
    let said : s'.said ≡ items = ap (λ (z : Waiting _). z.said) e ∙ ap (λ (z : List Notice). z ++ items) none in
    let since : s'.begun ≡ first ∷ [] = ap (λ (z : Waiting _). z.begun) e ∙ begun in
    let wrote : Wrote w first now (lines_of items)
    = subst (λ (z : List _). WroteSince w z now (lines_of items)) since (subst (λ (z : List Notice). WroteSince w s'.begun now (lines_of z)) said spoke) in
    (items, n, refl, is ∙ ap (λ (z : Waiting _). z.last) e, only_items es n (no_item (result_of allows aad run) flushed), wrote)

-- the run whose last line waits
pub waited : {limits : Bounds} {allows : Question → Bool} {aad : List ℕ} {old new : Devices} {status : ℕ} {A : List Question → Type 0} {W F : Type 0}
    (w : Writes W F) (s s' : Waiting W) (first now : W) (last : Option Notice)
    → RanTold limits allows aad old new status A (λ ns. s' ≡ folded_over waits_after s ns)
    → s.begun ≡ first ∷ [] → s.said ≡ [] → WroteSince w s'.begun now (lines_of s'.said) → last ≡ s'.last
    → RanTold limits allows aad old new status A (HoldsLast w first now last)
waited {allows = allows} {aad = aad} w s s' first now last r begun none spoke is = record {
  run = r.run;
  flushed = r.flushed;
  shows = r.shows;
  asked = r.asked;
  told = held_by w allows aad r.run r.flushed s s' first now last r.told begun none spoke is;
  status_is = r.status_is;
}

-- after its last line nothing is held back
pub held_lines : {limits : Bounds} {allows : Question → Bool} {aad : List ℕ} {old new : Devices} {status : ℕ} {A : List Question → Type 0} {W F : Type 0}
    (w : Writes W F) (first mid err' : W) (so : Bool) (last : Option Notice)
    → Wrote w mid err' (last_line so last) → HandedOn w mid err' → RanTold limits allows aad old new status A (HoldsLast w first mid last) → HandedOn w first err'
held_lines w first mid err' so last wrote handed ran = handed_after w first mid err' ran.told.5.1.0 wrote.1.0 handed

-- writer and place are the same
pub writer_kept : {limits : Bounds} {allows : Question → Bool} {aad : List ℕ} {old new : Devices} {status : ℕ} {A : List Question → Type 0} {W : Type 0}
    (s s' : Waiting W) → RanTold limits allows aad old new status A (λ ns. s' ≡ folded_over waits_after s ns) → Stays s s'
writer_kept {allows = allows} {aad = aad} s s' r = subst (λ (z : Waiting _). Stays s z) (sym r.told) (stays_over s (told_in allows aad r.run r.flushed))
