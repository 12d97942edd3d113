-- What lines on a writer hold back.
use Rattle.std.proofs.Common.{◌≡◌, ◌≤◌, ℕ, List, [], ◌∷◌, ◌++◌, Bool, true, false, refl, sym, ap, subst, ◌∙◌, arith}
use Rattle.std.specs.Prelude.{◌+◌, Option, Result, Ok, Err, OnOk}
use Rattle.ciborium_ll.specs.Device.{write_failures}
use Rattle.ciborium_ll.specs.declared.write.Write.{Ghosts as Writes}
use Rattle.cose_gate_core.specs.Asked.{folded_over}
use Rattle.cose_gate_core.specs.Findings.{Bounds}
use Rattle.cose_gate_core.specs.GateRun.{result_of}
use Rattle.cose_gate_core.specs.Questions.{Question}
use Rattle.cose_gate_core.specs.declared.gating.Counts.{Counts as Count}
use Rattle.cose_gate_core.specs.declared.gating.GateFault.{GateFault}
use Rattle.coset_keys.specs.Fields.{KeyFields}
use Rattle.cose_gate_program.specs.Lines.{line_of}
use Rattle.cose_gate_program.specs.Program.{Devices}
use Rattle.cose_gate_program.specs.Telling.{items_of, last_of, RanTold, EndsTold, not_begun, after_run, told_in}
use Rattle.cose_gate_program.specs.Writing.{Wrote, WroteSince, HandedOn, HandedSince, LentLines, is_last, is_over}
use Rattle.cose_gate_program.specs.declared.devices.InputFault.{InputFault}
use Rattle.cose_gate_program.specs.declared.telling.Notice.{Notice}
use Rattle.cose_gate_program.specs.declared.telling.Notice.TheVariants.{NotBegun}
use Rattle.cose_gate_program.proofs.LentLines.{speaks, spoken_over, same_writer}

pub over_by_last : (told : List Notice) (n : Notice) → is_over (told ++ n ∷ []) ≡ is_last n
over_by_last [] n = refl
over_by_last (m ∷ []) n = refl
over_by_last (m ∷ k ∷ told) n = over_by_last (k ∷ told) n

pub it_is_last : (r : Result Count (GateFault InputFault)) (flushed : Bool) → is_last (last_of r flushed) ≡ true
it_is_last (Ok counts) true = refl
it_is_last (Ok counts) false = refl
it_is_last (Err e) flushed = refl

same_first : (a b c : ℕ) → a ≤ b → b ≤ c → c ≡ a → c ≡ b
same_first a b c p q e = omega (arith, p, q, e)

module _ {W F : Type 0} (w : Writes W F) where
  pub flushed : {T E : Type 0} (old new : W) (r : Result T E) → w.failed new ≡ write_failures r (w.failed old) → OnOk r (w.held new ≡ []) → HandedOn w old new
  flushed old new (Ok x) f handed steady = handed
  flushed old new (Err x) f handed steady = let g : w.failed new ≡ w.failed old + 1 = f in absurd (omega (arith, g, steady))

  pub handed_after : (old mid new : W) → w.failed old ≤ w.failed mid → w.failed mid ≤ w.failed new → HandedOn w mid new → HandedOn w old new
  handed_after old mid new p q h steady = h (same_first (w.failed old) (w.failed mid) (w.failed new) p q steady)

  -- one more notice is told
  pub handed_told : (begun : List W) (old new : W) (told : List Notice) (n : Notice) (text line : List ℕ) → WroteSince w begun old text → Wrote w old new line
      → (is_last n ≡ true → HandedOn w old new) → HandedSince w begun new (told ++ n ∷ [])
  handed_told [] old new told n text line since wrote last = tt
  handed_told (first ∷ more) old new told n text line since wrote last = λ over.
      handed_after first old new since.1.0 wrote.1.0 (last (sym (over_by_last told n) ∙ over))

  -- what is held back is handed on
  pub handed_more : (begun : List W) (old new : W) (told : List Notice) (text line : List ℕ) → WroteSince w begun old text → Wrote w old new line → HandedOn w old new → HandedSince w begun new told
  handed_more [] old new told text line since wrote last = tt
  handed_more (first ∷ more) old new told text line since wrote last = λ over. handed_after first old new since.1.0 wrote.1.0 last

  pub handed_none : (begun : List W) (now : W) (told : List Notice) → told ≡ [] → HandedSince w begun now told
  handed_none [] now told none = tt
  handed_none (first ∷ more) now told none = λ over. let f : false ≡ true = sym (ap is_over none) ∙ over in cc

  pub handed_all : (s s' : LentLines W) (ns : List Notice) (last : Notice) (first now : W) → s' ≡ folded_over speaks s (ns ++ last ∷ []) → s.begun ≡ first ∷ [] → s.told ≡ [] → is_last last ≡ true
      → HandedSince w s'.begun now s'.told → HandedOn w first now
  handed_all s s' ns last first now e begun none is handed =
      let end : s' ≡ record s { told = s.told ++ (ns ++ last ∷ []) } = e ∙ spoken_over s (ns ++ last ∷ []) in
      let told : s'.told ≡ ns ++ last ∷ [] = ap (λ (z : LentLines _). z.told) end ∙ ap (λ (z : List Notice). z ++ (ns ++ last ∷ [])) none in
      let since : s'.begun ≡ first ∷ [] = ap (λ (z : LentLines _). z.begun) end ∙ begun in
      let all : HandedSince w (first ∷ []) now (ns ++ last ∷ [])
      = subst (λ (z : List _). HandedSince w z now (ns ++ last ∷ [])) since (subst (λ (z : List Notice). HandedSince w s'.begun now z) told handed) in
      all (over_by_last ns last ∙ is)

  pub ran_handed : {limits : Bounds} {allows : Question → Bool} {aad : List ℕ} {old new : Devices} {status : ℕ} {A : List Question → Type 0} (s s' : LentLines W) (first now : W)
      → RanTold limits allows aad old new status A (λ ns. s' ≡ folded_over speaks s ns) → s.begun ≡ first ∷ [] → s.told ≡ [] → HandedSince w s'.begun now s'.told → HandedOn w first now
  ran_handed {allows = allows} {aad = aad} s s' first now r begun none handed =
      handed_all s s' (items_of r.run.done) (last_of (result_of allows aad r.run) r.flushed) first now r.told begun none (it_is_last (result_of allows aad r.run) r.flushed) handed

  pub ends_handed : {limits : Bounds} {allows : List KeyFields → Question → Bool} {keys aad : Option (List ℕ)} {old new : Devices} {status : ℕ} (s s' : LentLines W) (first now : W)
      → EndsTold limits allows keys aad old new status (λ ns. s' ≡ folded_over speaks s ns) → s.begun ≡ first ∷ [] → s.told ≡ [] → HandedSince w s'.begun now s'.told → HandedOn w first now
  ends_handed s s' first now (not_begun why n st same told) begun none handed = handed_all s s' [] (NotBegun why) first now told begun none refl handed
  ends_handed s s' first now (after_run b d k a ks has r) begun none handed = ran_handed s s' first now r begun none handed

pub ran_name : {W : Type 0} {limits : Bounds} {allows : Question → Bool} {aad : List ℕ} {old new : Devices} {status : ℕ} {A : List Question → Type 0} (s s' : LentLines W)
    → RanTold limits allows aad old new status A (λ ns. s' ≡ folded_over speaks s ns) → s'.name ≡ s.name
ran_name {allows = allows} {aad = aad} s s' r = same_writer s s' (told_in allows aad r.run r.flushed) r.told

pub ends_name : {W : Type 0} {limits : Bounds} {allows : List KeyFields → Question → Bool} {keys aad : Option (List ℕ)} {old new : Devices} {status : ℕ} (s s' : LentLines W)
    → EndsTold limits allows keys aad old new status (λ ns. s' ≡ folded_over speaks s ns) → s'.name ≡ s.name
ends_name s s' (not_begun why n st same told) = same_writer s s' (NotBegun why ∷ []) told
ends_name s s' (after_run b d k a ks has r) = ran_name s s' r
