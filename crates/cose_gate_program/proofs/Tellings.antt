-- How the program ends, from what was told as its run went.
use Rattle.std.proofs.Common.{◌≡◌, ℕ, List, [], ◌∷◌, ◌++◌, map, Option, Some, Bool, false, ◌<◌, arith, refl, sym, ap, subst, ◌∙◌}
use Rattle.std.specs.Prelude.{Result, Ok, Err, OnOk, is_ok}
use Rattle.coset_labels.specs.Limits.{nesting, layers, nesting_of, layers_of}
use Rattle.coset_labels.specs.Reading.{HasItem}
use Rattle.coset_labels.specs.declared.limits.Limits.{Limits}
use Rattle.cose_gate_core.specs.Asked.{folded_over}
use Rattle.cose_gate_core.specs.Findings.{Bounds, within, usual}
use Rattle.cose_gate_core.specs.GateRun.{GateRun, asked_in, result_of}
use Rattle.cose_gate_core.specs.Questions.{Question}
use Rattle.cose_gate_core.specs.Terms.{limits_by}
use Rattle.cose_gate_core.specs.declared.gating.Counts.{Counts as Count}
use Rattle.cose_gate_core.specs.declared.gating.GateFault.{GateFault}
use Rattle.cose_gate_core.specs.declared.report.Entry.{Entry}
use Rattle.coset_keys.specs.Fields.{KeyFields}
use Rattle.coset_keys.specs.Keys.{HasKeySet}
use Rattle.cose_gate_program.specs.Beginning.{status_of}
use Rattle.cose_gate_program.specs.LentTeller.{LentTeller}
use Rattle.cose_gate_program.specs.Program.{Devices, Shows}
use Rattle.cose_gate_program.specs.Telling.{items_of, last_of, status_at, RanTold, EndsTold, not_begun, after_run}
use Rattle.cose_gate_program.specs.declared.beginning.NotBegun.{NotBegun}
use Rattle.cose_gate_program.specs.declared.beginning.NotBegun.TheVariants as unbegun
use Rattle.cose_gate_program.specs.declared.devices.InputFault.{InputFault}
use Rattle.cose_gate_program.specs.declared.telling.Notice.{Notice}
use Rattle.cose_gate_program.specs.declared.telling.Notice.TheVariants.{Item}

-- one more after a list
pub folded_then : {S X : Type 0} (step : S → X → S) (s : S) (xs : List X) (x : X) → folded_over step s (xs ++ x ∷ []) ≡ step (folded_over step s xs) x
folded_then step s [] x = refl
folded_then step s (y ∷ ys) x = folded_then step (step s y) ys x

-- a teller that was told these, and then this one
pub tells_then : {S X : Type 0} (step : S → X → S) (s mid last : S) (xs : List X) (x : X) → mid ≡ folded_over step s xs → last ≡ step mid x
    → last ≡ folded_over step s (xs ++ x ∷ [])
tells_then step s mid last xs x first then = then ∙ (ap (λ (z : _). step z x) first ∙ sym (folded_then step s xs x))

-- a report that hands items on
abbrev hears : {S : Type 0} → (S → Notice → S) → LentTeller S → Entry → LentTeller S
hears step h e = record h { state = step h.state (Item e) }

heard_over : {S : Type 0} (step : S → Notice → S) (h : LentTeller S) (es : List Entry)
    → folded_over (hears step) h es ≡ record h { state = folded_over step h.state (map (λ e. Item e) es) }
heard_over step h [] = refl
heard_over step h (e ∷ es) = heard_over step (hears step h e) es

-- it is the same one, and this is what it was told
pub heard_by : {S : Type 0} (step : S → Notice → S) (h h' : LentTeller S) (es : List Entry) → h' ≡ folded_over (hears step) h es → h'.name ≡ h.name
heard_by step h h' es e = ap (λ (z : LentTeller _). z.name) (e ∙ heard_over step h es)

pub heard_state : {S : Type 0} (step : S → Notice → S) (h h' : LentTeller S) (es : List Entry) → h' ≡ folded_over (hears step) h es
    → h'.state ≡ folded_over step h.state (map (λ e. Item e) es)
heard_state step h h' es e = ap (λ (z : LentTeller _). z.state) (e ∙ heard_over step h es)

-- the run after a flush, and the last notice
abbrev pub ran_told : {limits : Bounds} {allows : Question → Bool} {aad : List ℕ} {old new : Devices} {status : ℕ} {A : List Question → Type 0}
    {S : Type 0} (step : S → Notice → S) (s mid s' : S) (gated : Result Count (GateFault InputFault)) (k flushed : Bool) (last : Notice) (run : GateRun InputFault)
    → Shows limits allows aad old new run k → A (asked_in allows aad run) → mid ≡ folded_over step s (items_of run.done)
    → gated ≡ result_of allows aad run → flushed ≡ k → last ≡ last_of gated flushed → s' ≡ step mid last → status ≡ status_at last
    → RanTold limits allows aad old new status A (λ ns. s' ≡ folded_over step s ns)
ran_told {allows = allows} {aad = aad} step s mid s' gated k flushed last run shows asked items same is_k is told st =
    let what : last ≡ last_of (result_of allows aad run) k = is ∙ (ap (λ z. last_of z flushed) same ∙ ap (last_of (result_of allows aad run)) is_k) in
    record {
      run = run;
      flushed = k;
      shows = shows;
      asked = asked;
      told = subst (λ (n : Notice). s' ≡ folded_over step s (items_of run.done ++ n ∷ [])) what (tells_then step s mid s' (items_of run.done) last items told);
      status_is = st ∙ ap status_at what;
    }

-- what follows from what judge and teller were told
pub ran_as : {limits : Bounds} {allows : Question → Bool} {aad : List ℕ} {old new : Devices} {status : ℕ} {A B : List Question → Type 0} {P Q : List Notice → Type 0}
    → RanTold limits allows aad old new status A P → ((qs : List Question) → A qs → B qs)
    → ((ns : List Notice) (last : Notice) → P (ns ++ last ∷ []) → Q (ns ++ last ∷ [])) → RanTold limits allows aad old new status B Q
ran_as r asked told = record {
  run = r.run;
  flushed = r.flushed;
  shows = r.shows;
  asked = asked _ r.asked;
  told = told _ _ r.told;
  status_is = r.status_is;
}

pub ends_as : {limits : Bounds} {allows : List KeyFields → Question → Bool} {keys aad : Option (List ℕ)} {old new : Devices} {status : ℕ} {P Q : List Notice → Type 0}
    → EndsTold limits allows keys aad old new status P → ((ns : List Notice) (last : Notice) → P (ns ++ last ∷ []) → Q (ns ++ last ∷ []))
    → EndsTold limits allows keys aad old new status Q
ends_as (not_begun why n st same told) then = not_begun why n st same (then [] _ told)
ends_as (after_run b d k a ks has r) then = after_run b d k a ks has (ran_as r (λ qs asked. asked) then)

-- the run began
pub began : {limits : Bounds} {allows : List KeyFields → Question → Bool} {keys aad : Option (List ℕ)} {old new : Devices} {status : ℕ} {A : List Question → Type 0} {P : List Notice → Type 0}
    (b d given : List ℕ) (ks held : List KeyFields) → keys ≡ Some b → aad ≡ Some d → HasItem HasKeySet b ks → given ≡ d → held ≡ ks
    → RanTold limits (allows held) given old new status A P → EndsTold limits allows keys aad old new status P
began b d given ks held k a has e same r =
    after_run b given k (a ∙ ap Some (sym e)) held (subst (λ (z : List KeyFields). HasItem HasKeySet b z) (sym same) has) (ran_as r (λ qs asked. tt) (λ ns last told. told))

-- the limits if none are chosen
pub usually : (l : Limits) → (nesting_of l ≡ nesting) × (layers_of l ≡ layers) → limits_by l false ≡ usual
usually l e = ap (λ (n : ℕ). within n (layers_of l) false) e.0 ∙ ap (λ (k : ℕ). within nesting k false) e.1

-- after status 0 or 1 the output was flushed
pub handed_on : {X F : Type 0} (answer : Result X F) (P : Type 0) (gated : Result Count (GateFault InputFault)) (flushed : Bool) (last : Notice) (status : ℕ)
    → OnOk answer P → flushed ≡ is_ok answer → last ≡ last_of gated flushed → status ≡ status_at last → status < 2 → P
handed_on (Ok x) P gated flushed last status ok same is st less = ok
handed_on (Err e) P (Ok counts) flushed last status ok same is st less =
    let four : status ≡ 4 = st ∙ ap status_at (is ∙ ap (last_of (Ok counts)) same) in absurd (omega (arith, four, less))
handed_on (Err e) P (Err fault) flushed last status ok same is st less =
    let four : status ≡ 4 = st ∙ ap status_at (is ∙ ap (last_of (Err fault)) same) in absurd (omega (arith, four, less))

-- a run that doesn't begin has another
pub not_ended : (P : Type 0) (why : NotBegun) (status : ℕ) → status ≡ status_of why → status < 2 → P
not_ended P unbegun.NoFile status st less = absurd (omega (arith, st, less))
not_ended P unbegun.NotHex status st less = absurd (omega (arith, st, less))
not_ended P (unbegun.NoKeys e) status st less = absurd (omega (arith, st, less))
not_ended P unbegun.Memory status st less = absurd (omega (arith, st, less))
