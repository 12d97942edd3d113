-- What is said of a run, as it is told.
use Rattle.std.proofs.Common.{◌≡◌, ◌≤◌, ℕ, List, [], ◌∷◌, ◌++◌, Bool, true, false, refl, sym, ap, subst, ◌∙◌, append-nil, append_assoc, arith}
use Rattle.std.specs.Prelude.{Option, Some, None, flat_map}
use Rattle.std.specs.Io.KnownBytes.{Appends}
use Rattle.std.proofs.lemmas.Grind.{flat_map-append}
use Rattle.std.proofs.lemmas.Bool.{true≢false}
use Rattle.std.specs.Coded.{le_prop}
use mathlib.Core.Logic.{∥∥₁_map}
use Rattle.ciborium_ll.specs.declared.write.Write.{Ghosts as Writes}
use Rattle.cose_gate_core.specs.Asked.{folded_over}
use Rattle.cose_gate_core.specs.Findings.{Bounds}
use Rattle.cose_gate_core.specs.GateRun.{result_of}
use Rattle.cose_gate_core.specs.Questions.{Question}
use Rattle.cose_gate_program.specs.Program.{Devices}
use Rattle.cose_gate_program.specs.Telling.{RanTold, items_of, last_of}
use Rattle.cose_gate_program.specs.Writing.{Wrote, WroteSince, HandedOn, HandedSince, is_last}
use Rattle.cose_gate_program.specs.declared.telling.Notice.{Notice}
use Rattle.cose_gate_program.specs.declared.telling.Notice.TheVariants as notice
use Rattle.cose_gate_program.proofs.Handed.{handed_after, it_is_last, over_by_last}
use Rattle.cose_gate_program.proofs.Written.{wrote_then}
use Rattle.cose_gate_command.specs.declared.line_writer.Items.{Items}
use Rattle.cose_gate_command.specs.KeyFiles.{indented}
use Rattle.cose_gate_command.specs.RunLines.{AddsReasons, AreIndented, SaidLog, SaysSince, StaysHandedOn, is_line, is_silent, shown}
use Rattle.cose_gate_command.specs.RunLines.AreIndented.{none, one_more}
use Rattle.cose_gate_command.specs.RunLines.Among.{nothing, line, more}

unchanged : (b : Option (List ℕ)) → Appends b b []
unchanged None = tt
unchanged (Some b) = sym (append-nil b)

same : {W F : Type 0} (w : Writes W F) (now : W) → Wrote w now now []
same w now = (refl, (omega arith, λ e. unchanged (w.written now)))

both_lines : (xs ys : List ℕ) → is_line xs ≡ true → is_line ys ≡ true → is_line (xs ++ ys) ≡ true
both_lines [] ys p q = q
both_lines (x ∷ xs) ys p q = grind (arith, p, both_lines xs ys)

-- nothing more
pub adds_nothing : {W F : Type 0} (w : Writes W F) (verbose : Bool) (now : W) → AddsReasons w verbose now now
adds_nothing w true now = ([], none, same w now)
adds_nothing w false now = same w now

-- a line of two texts of one line each
pub adds_line : {W F : Type 0} (w : Writes W F) (old new : W) (xs ys : List ℕ) → is_line xs ≡ true → is_line ys ≡ true
    → Wrote w old new (indented (xs ++ ys)) → AddsReasons w true old new
adds_line w old new xs ys p q wrote = (indented (xs ++ ys), one_more none (xs ++ ys) (both_lines xs ys p q), wrote)

indented_both : {xs ys : List ℕ} → AreIndented xs → AreIndented ys → AreIndented (xs ++ ys)
indented_both {xs} p none = subst AreIndented (sym (append-nil xs)) p
indented_both {xs} p (one_more {text} are last is) =
    subst AreIndented (append_assoc xs text (indented last)) (one_more (indented_both p are) last is)

-- one after another
pub adds_both : {W F : Type 0} (w : Writes W F) (old mid new : W) → AddsReasons w true old mid → AddsReasons w true mid new → AddsReasons w true old new
adds_both w old mid new p q = (p.0 ++ q.0, indented_both p.1 q.1, wrote_then w old mid new p.0 q.0 p.2 q.2)

-- and a flush
pub adds_flushed : {W F : Type 0} (w : Writes W F) (old mid new : W) → AddsReasons w true old mid → Wrote w mid new [] → AddsReasons w true old new
adds_flushed w old mid new p q = adds_both w old mid new p ([], none, q)

since_then : {W F : Type 0} (w : Writes W F) (was : List W) (old new : W) (x y : List ℕ)
    → WroteSince w was old x → Wrote w old new y → WroteSince w was new (x ++ y)
since_then w [] old new x y p q = tt
since_then w (first ∷ ws) old new x y p q = wrote_then w first old new x y p q

-- one more notice
pub says_line : {W F : Type 0} (w : Writes W F) (verbose : Bool) (kept : Items) (was : List W) (old new : W) (told : List Notice) (n : Notice)
    → SaysSince w verbose kept was old told → Wrote w old new (shown kept n) → SaysSince w verbose kept was new (told ++ n ∷ [])
says_line w true kept was old new told n says wrote =
    ∥∥₁_map says (λ s. (s.0 ++ shown kept n, line s.1 n, since_then w was old new s.0 (shown kept n) s.2 wrote))
says_line w false kept was old new told n says wrote =
    subst (λ z. WroteSince w was new z) (sym (flat_map-append (shown kept) told (n ∷ []) ∙ ap (λ z. flat_map (shown kept) told ++ z) (append-nil (shown kept n))))
    (since_then w was old new (flat_map (shown kept) told) (shown kept n) says wrote)

-- lines more, if it is verbose
pub says_more : {W F : Type 0} (w : Writes W F) (verbose : Bool) (kept : Items) (was : List W) (old new : W) (told : List Notice)
    → SaysSince w verbose kept was old told → AddsReasons w verbose old new → SaysSince w verbose kept was new told
says_more w true kept was old new told says adds =
    ∥∥₁_map says (λ s. (s.0 ++ adds.0, more s.1 adds.1, since_then w was old new s.0 adds.0 s.2 adds.2))
says_more w false kept was old new told says adds =
    subst (λ z. WroteSince w was new z) (append-nil _) (since_then w was old new (flat_map (shown kept) told) [] says adds)

-- a flush
pub says_flushed : {W F : Type 0} (w : Writes W F) (verbose : Bool) (kept : Items) (was : List W) (old new : W) (told : List Notice)
    → SaysSince w verbose kept was old told → Wrote w old new [] → SaysSince w verbose kept was new told
says_flushed w true kept was old new told says wrote = says_more w true kept was old new told says ([], none, wrote)
says_flushed w false kept was old new told says wrote = says_more w false kept was old new told says wrote

-- nothing yet
pub says_nothing : {W F : Type 0} (w : Writes W F) (verbose : Bool) (kept : Items) (was : List W) (now : W) (told : List Notice) → was ≡ now ∷ [] → told ≡ []
    → SaysSince w verbose kept was now told
says_nothing {W} w verbose kept was now told first empty =
    subst (λ (z : List W). SaysSince w verbose kept z now told) (sym first)
    (subst (λ (z : List Notice). SaysSince w verbose kept (now ∷ []) now z) (sym empty) (start verbose))
  where
    start : (v : Bool) → SaysSince w v kept (now ∷ []) now []
    start true = ∣ ([], nothing, same w now) ∣₁
    start false = same w now

abbrev says : {W : Type 0} → SaidLog W → Notice → SaidLog W
says s notice = record s { told = s.told ++ notice ∷ [] }

said_over : {W : Type 0} (s : SaidLog W) (ns : List Notice) → folded_over says s ns ≡ record s { told = s.told ++ ns }
said_over s [] = ap (λ (z : List Notice). record s { told = z }) (sym (append-nil s.told))
said_over s (n ∷ ns) = said_over (says s n) ns ∙ ap (λ (z : List Notice). record s { told = z }) (append_assoc s.told (n ∷ []) ns)

-- all that was said on a writer that was `first`
pub said_all : {W F : Type 0} (w : Writes W F) (s s' : SaidLog W) (ns : List Notice) (first now : W) (verbose : Bool) (kept : Items)
    → s' ≡ folded_over says s ns → s.was ≡ first ∷ [] → s.told ≡ [] → s.verbose ≡ verbose → s.kept ≡ kept
    → SaysSince w s'.verbose s'.kept s'.was now s'.told → SaysSince w verbose kept (first ∷ []) now ns
said_all {W} w s s' ns first now verbose kept e begun empty loud still is =
    let end : s' ≡ record s { told = s.told ++ ns } = e ∙ said_over s ns in
    let v : s'.verbose ≡ verbose = ap (λ (z : SaidLog W). z.verbose) end ∙ loud in
    let q : s'.kept ≡ kept = ap (λ (z : SaidLog W). z.kept) end ∙ still in
    let b : s'.was ≡ first ∷ [] = ap (λ (z : SaidLog W). z.was) end ∙ begun in
    let t : s'.told ≡ ns = ap (λ (z : SaidLog W). z.told) end ∙ ap (λ (z : List Notice). z ++ ns) empty in
    subst (λ (z : Bool). SaysSince w z kept (first ∷ []) now ns) v
    (subst (λ (z : Items). SaysSince w s'.verbose z (first ∷ []) now ns) q
    (subst (λ (z : List W). SaysSince w s'.verbose s'.kept z now ns) b
    (subst (λ (z : List Notice). SaysSince w s'.verbose s'.kept s'.was now z) t is)))

-- they are on the same writer
pub same_writer : {W : Type 0} (s s' : SaidLog W) (ns : List Notice) → s' ≡ folded_over says s ns → s'.name ≡ s.name
same_writer s s' ns e = ap (λ (z : SaidLog _). z.name) (e ∙ said_over s ns)

-- a notice without a line is of an item
pub not_silent : (kept : Items) (n : Notice) → is_silent kept n ≡ true → is_last n ≡ true → ⊥
not_silent kept (notice.Item e) s l = true≢false (sym l)
not_silent kept (notice.Counts c) s l = true≢false (sym s)
not_silent kept (notice.Stopped f) s l = true≢false (sym s)
not_silent kept (notice.NotBegun why) s l = true≢false (sym s)

-- how often the writer had failed at first
fails_since : {W F : Type 0} (w : Writes W F) (verbose : Bool) (kept : Items) (first : W) (later : List W) (now : W) (told : List Notice) → SaysSince w verbose kept (first ∷ later) now told
    → w.failed first ≤ w.failed now
fails_since w true kept first later now told so = ∥∥₁_rec le_prop (λ s. s.2.1.0) so
fails_since w false kept first later now told so = so.1.0

fails_more : {W F : Type 0} (w : Writes W F) (verbose : Bool) (old new : W) → AddsReasons w verbose old new → w.failed old ≤ w.failed new
fails_more w true old new adds = adds.2.1.0
fails_more w false old new adds = adds.1.0

same_both : (a b c d : ℕ) → a ≤ b → b ≤ c → c ≤ d → d ≡ a → (c ≡ b) × (d ≡ c)
same_both a b c d p q r e = (omega (arith, p, q, r, e), omega (arith, p, q, r, e))

-- what is held back after one more notice, and after a flush
pub handed_line : {W F : Type 0} (w : Writes W F) (verbose : Bool) (kept : Items) (was : List W) (old mid new : W) (told : List Notice) (n : Notice)
    → SaysSince w verbose kept was old told → Wrote w old mid (shown kept n) → (is_last n ≡ true → HandedOn w old mid) → AddsReasons w verbose mid new → StaysHandedOn w mid new
    → HandedSince w was new (told ++ n ∷ [])
handed_line w verbose kept [] old mid new told n so wrote last adds stays = tt
handed_line w verbose kept (first ∷ later) old mid new told n so wrote last adds stays = λ over steady.
    let s = same_both (w.failed first) (w.failed old) (w.failed mid) (w.failed new) (fails_since w verbose kept first later old told so) wrote.1.0 (fails_more w verbose mid new adds) steady in
    stays s.1 (last (sym (over_by_last told n) ∙ over) s.0)

pub handed_rest : {W F : Type 0} (w : Writes W F) (verbose : Bool) (kept : Items) (was : List W) (old new : W) (told : List Notice)
    → SaysSince w verbose kept was old told → Wrote w old new [] → HandedOn w old new → HandedSince w was new told
handed_rest w verbose kept [] old new told so wrote handed = tt
handed_rest w verbose kept (first ∷ later) old new told so wrote handed = λ over. handed_after w first old new (fails_since w verbose kept first later old told so) wrote.1.0 handed

-- a run's lines are on one writer
pub ran_on : {limits : Bounds} {allows : Question → Bool} {aad : List ℕ} {old new : Devices} {status : ℕ} {A : List Question → Type 0} {W : Type 0} (s s' : SaidLog W)
    → RanTold limits allows aad old new status A (λ ns. s' ≡ folded_over says s ns) → s'.name ≡ s.name
ran_on {allows = allows} {aad = aad} s s' r = same_writer s s' (items_of r.run.done ++ last_of (result_of allows aad r.run) r.flushed ∷ []) r.told

-- and at the end of a run
pub handed_said : {limits : Bounds} {allows : Question → Bool} {aad : List ℕ} {old new : Devices} {status : ℕ} {A : List Question → Type 0} {W F : Type 0} (w : Writes W F) (s s' : SaidLog W) (first now : W)
    → RanTold limits allows aad old new status A (λ ns. s' ≡ folded_over says s ns) → s.was ≡ first ∷ [] → s.told ≡ [] → HandedSince w s'.was now s'.told → HandedOn w first now
handed_said {allows = allows} {aad = aad} {W = W} w s s' first now r begun empty handed =
    let last = last_of (result_of allows aad r.run) r.flushed in
    let ns : List Notice = items_of r.run.done in
    let end : s' ≡ record s { told = s.told ++ (ns ++ last ∷ []) } = r.told ∙ said_over s (ns ++ last ∷ []) in
    let b : s'.was ≡ first ∷ [] = ap (λ (z : SaidLog W). z.was) end ∙ begun in
    let t : s'.told ≡ ns ++ last ∷ [] = ap (λ (z : SaidLog W). z.told) end ∙ ap (λ (z : List Notice). z ++ (ns ++ last ∷ [])) empty in
    let all : HandedSince w (first ∷ []) now (ns ++ last ∷ [])
    = subst (λ (z : List W). HandedSince w z now (ns ++ last ∷ [])) b (subst (λ (z : List Notice). HandedSince w s'.was now z) t handed) in
    all (over_by_last ns last ∙ it_is_last (result_of allows aad r.run) r.flushed)
