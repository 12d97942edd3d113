-- Of an input without bytes the gate makes a whole run, if the reader doesn't fail.
use Rattle.std.proofs.Common.{◌≡◌, ◌≢◌, ℕ, ◌+◌, ◌^◌, ◌<◌, ◌≤◌, ◌⊎◌, inl, inr, List, [], ◌∷◌, ◌++◌, length, map, Option, Some, None, Bool, true, false, cond, refl, sym, ap, subst, ◌∙◌, arith, length-append, append-nil}
use Rattle.std.specs.Prelude.{Result, Ok, Err, IsOk, IsTrue}
use Rattle.ciborium.specs.Damage.{end, deep, syntax, semantic, Damage}
use Rattle.ciborium.specs.Items.{Item, SequenceWithin}
use Rattle.ciborium.specs.Reading.{IfKnown, IsNoMemory}
use Rattle.ciborium.specs.declared.de.Error.{Error}
use Rattle.ciborium.specs.declared.de.Error.TheVariants as de
use Rattle.coset_headers.proofs.Entered.{bool_cases}
use Rattle.cose_gate_core.specs.Outcome.{Rules, GateState, IsFaultOf, reader_failures}
use Rattle.cose_gate_core.specs.Run.{Step}
use Rattle.cose_gate_core.specs.declared.gating.Counts.{Counts}
use Rattle.cose_gate_core.specs.declared.gating.GateFault.{GateFault}
use Rattle.cose_gate_core.specs.declared.gating.GateFault.TheVariants.{Decode, Write, Memory}
use Rattle.cose_gate_core.proofs.Nothing.{empty_damage}
use Rattle.cose_gate_core.proofs.Reach.{reads_some}
use Rattle.cose_gate_core.specs.GateRun.{asking, writing, noting, Ending, finished, unflushed, unreadable, no_memory, within, GateRun, at_hand, taken_at, result_at, EndsAt, FaultAt, Ran}

no_items : (n at : ℕ) (b : List ℕ) (is : List Item) (more : List ℕ) → SequenceWithin n at b is more → b ≡ [] → (is ≡ []) × (more ≡ [])
no_items n at b [] more s e = (refl, sym s ∙ e)
no_items n at b (i ∷ is) more s e = absurd (
    let some = reads_some n i.bytes i.value s.1 in
    let l : length b ≡ length i.bytes + length s.2.0 = ap length s.2.1 ∙ length-append i.bytes s.2.0 in
    let z : length b ≡ 0 = ap length e in
    omega arith)

no_hand : (done : List Step) (next : Step) → map (λ s. s.item) (done ++ next ∷ []) ≡ [] → ⊥
no_hand [] next e = let no : next.item ∷ [] ≡ [] = e in cc
no_hand (s ∷ ss) next e = let no : s.item ∷ map (λ s. s.item) (ss ++ next ∷ []) ≡ [] = e in cc

module _ {E : Type 0} (ends : E → Bool) (k at : ℕ) where
  -- the fault of no bytes is that of the reader, or offsets are too long
  fault_of_none : (e : Error E) (more : List ℕ) → more ≡ [] → at + 4096 < 2 ^ 64 → IsNoMemory e → IsFaultOf ends k (at + 0) more e → (x : E) × (e ≡ de.Io x) × (ends x ≡ false)
  fault_of_none (de.Io x) more none small m f = by (bool_cases (ends x))
    where
      by : (ends x ≡ true) ⊎ (ends x ≡ false) → (y : E) × (de.Io x ≡ de.Io y) × (ends y ≡ false)
      by (inl y) = absurd ((f y).1 none)
      by (inr n) = (x, refl, n)
  fault_of_none (de.Syntax p) more none small m f = absurd (let no : syntax p ≡ end = empty_damage (at + 0) k (syntax p) (subst (λ (b : List ℕ). Damage (at + 0) b k (syntax p)) none f) in cc)
  fault_of_none (de.Semantic o q) more none small m f = absurd (let no : semantic q ≡ end = empty_damage (at + 0) k (semantic q) (subst (λ (b : List ℕ). Damage (at + 0) b k (semantic q)) none f.1) in cc)
  fault_of_none de.RecursionLimitExceeded more none small m f = absurd (let no : deep ≡ end = empty_damage (at + 0) k deep (subst (λ (b : List ℕ). Damage (at + 0) b k deep) none f) in cc)
  fault_of_none de.Memory more none small m f = absurd m
  fault_of_none de.TooLong more none small m f = absurd (let g : 2 ^ 64 ≤ at + 0 + 4096 = f in omega arith)

module _ {T S E : Type 0} (ends : E → Bool) (live : Bool) (rules : Rules T S) (old new : GateState T S) (r : Result Counts (GateFault E)) (a : Ran ends live rules old new r) (empty : old.left ≡ Some []) where
  input : a.input ≡ []
  input = sym (subst (λ (l : Option (List ℕ)). IfKnown l (λ b. b ≡ a.input)) empty a.is)

  none : (map (λ s. s.item) (a.run.done ++ at_hand a.run.ending) ≡ []) × (taken_at a.run.ending ++ a.run.rest ≡ [])
  none = no_items _ _ a.input _ _ a.course.sequence input

  -- which endings there are: all is done, or the reader failed
  abbrev Only : Ending E → Type 0
  Only finished = Unit {0}
  Only (unreadable e taken) = old.offset + 4096 < 2 ^ 64 → (x : E) × (e ≡ de.Io x) × (ends x ≡ false)
  Only g = ⊥

  only : (done : List Step) (rest : List ℕ) (g : Ending E) → map (λ s. s.item) (done ++ at_hand g) ≡ [] → taken_at g ++ rest ≡ []
      → EndsAt ends live rules.limits rules.allows rules.aad old.left done rest g → FaultAt ends rules.limits old.offset old.left rest g → Only g
  only done rest finished hand left at fault = tt
  only [] rest unflushed hand left at fault = at.1 refl
  only (s ∷ ss) rest unflushed hand left at fault = let no : s.item ∷ map (λ s. s.item) (ss ++ []) ≡ [] = hand in cc
  only done rest (unreadable e taken) hand left at fault = λ small.
      fault_of_none ends rules.limits.nesting old.offset e (taken ++ rest) left small at.0
      (subst (λ (l : Option (List ℕ)). IfKnown l (λ b. IsFaultOf ends rules.limits.nesting (old.offset + length b) (taken ++ rest) e)) empty fault)
  only done rest (no_memory taken) hand left at fault = subst (λ (l : Option (List ℕ)). IfKnown l (λ b. taken ++ rest ≢ [])) empty at.0 left
  only done rest (within next (asking asked)) hand left at fault = no_hand done next hand
  only done rest (within next (writing part)) hand left at fault = no_hand done next hand
  only done rest (within next noting) hand left at fault = no_hand done next hand

  here : Only a.run.ending
  here = only a.run.done a.run.rest a.run.ending none.0 none.1 a.ends_at a.fault

  not_memory : (counts : Counts) (g : Ending E) → Only g → (let q : Result Counts (GateFault E) = result_at counts g in q) ≡ Err Memory → ⊥
  not_memory counts finished o e = let no : (let q : Result Counts (GateFault E) = Ok counts in q) ≡ Err Memory = e in cc
  not_memory counts unflushed o e = absurd o
  not_memory counts (unreadable f taken) o e = let no : (let q : Result Counts (GateFault E) = Err (Decode f) in q) ≡ Err Memory = e in cc
  not_memory counts (no_memory taken) o e = absurd o
  not_memory counts (within next (asking asked)) o e = absurd o
  not_memory counts (within next (writing part)) o e = absurd o
  not_memory counts (within next noting) o e = absurd o

  pub no_memory_of_nothing : r ≢ Err Memory
  no_memory_of_nothing e = not_memory _ a.run.ending here (sym a.returned ∙ e)

  whole : (counts : Counts) (g : Ending E) → Only g → old.offset + 4096 < 2 ^ 64 → reader_failures {X = Counts} ends (result_at counts g) ≡ 0 → IsOk (result_at counts g)
  whole counts finished o small f = refl
  whole counts unflushed o small f = absurd o
  whole counts (unreadable e taken) o small f =
      let x = o small in
      let one : reader_failures {X = Counts} ends (Err (Decode e)) ≡ 1 = ap (λ z. reader_failures {X = Counts} ends (Err (Decode z))) x.1 ∙ ap (λ b. cond b 0 1) x.2 in
      absurd (omega (arith, one, f))
  whole counts (no_memory taken) o small f = absurd o
  whole counts (within next (asking asked)) o small f = absurd o
  whole counts (within next (writing part)) o small f = absurd o
  whole counts (within next noting) o small f = absurd o

  pub nothing : reader_failures ends r ≡ 0 → old.offset + 4096 < 2 ^ 64 → IsOk r
  nothing none small = subst (λ (q : Result Counts (GateFault E)). IsOk q) (sym a.returned) (whole _ a.run.ending here small (sym (ap (reader_failures ends) a.returned) ∙ none))
