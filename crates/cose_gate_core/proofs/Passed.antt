-- What became of the next item, from its steps.
use Rattle.std.proofs.Common.{◌≡◌, ◌≢◌, ◌⊎◌, inl, inr, ℕ, ◌+◌, ◌-◌, ◌<◌, ◌≤◌, List, [], ◌∷◌, ◌++◌, length, Option, None, Some, Bool, cond, not, refl, sym, ap, subst, arith, length-append}
use Rattle.std.specs.Prelude.{Ok, Err}
use Rattle.ciborium_ll.specs.Reading.{Moves}
use Rattle.ciborium_ll.specs.Seen.{Seen, Takes}
use Rattle.ciborium_ll.specs.declared.hdr.Header.TheVariants.{Tag}
use Rattle.ciborium_value.specs.Tree.{Tree, array, tag, Trees}
use Rattle.ciborium_value.specs.View.{view}
use Rattle.ciborium.specs.Damage.{Damage}
use Rattle.ciborium.specs.Front.{Reads, HoldsOne}
use Rattle.ciborium.specs.Fronts.{IsFront, TakesFour}
use Rattle.ciborium.specs.Reading.{IfKnown, IfEnd, IsFar, FailsAt, NamesFault, TakesSome, SomeTaken, IfMemory}
use Rattle.ciborium.specs.declared.de.Error.{Error}
use Rattle.ciborium.specs.declared.de.Error.TheVariants as de
use Rattle.ciborium.specs.declared.frames.Front.{Front}
use Rattle.ciborium.specs.declared.frames.Front.TheVariants as front
use Rattle.ciborium.proofs.FrontLemmas.{four_taken}
use Rattle.ciborium.proofs.StringLemmas.{title_some}
use Rattle.cose_gate_core.specs.Next.{Reached, RanSteps, IsReadFault, Passes, PassesNext}
use Rattle.cose_gate_core.specs.Outcome.{Rules, GateState, IsFaultOf, IfTooLong}
use Rattle.cose_gate_core.specs.Passing.{ItemRules, ItemSight, WentThrough, ItemFails, fault_by, stopped_by}
use Rattle.cose_gate_core.specs.Run.{Step, has_passed}
use Rattle.cose_gate_core.specs.Terms.{IsTakenFront}
use Rattle.cose_gate_core.specs.declared.terms.Terms.{Terms}
use Rattle.coset_labels.specs.Limits.{nesting_of}
use Rattle.cose_gate_core.specs.declared.gating.Counts.{Counts}
use Rattle.cose_gate_core.specs.declared.gating.GateFault.{GateFault}
use Rattle.cose_gate_core.specs.declared.gating.GateFault.TheVariants.{Memory}
use Rattle.cose_gate_core.specs.declared.passing.ItemFault.{ItemFault}
use Rattle.cose_gate_core.specs.declared.report.Entry.{Entry}
use Rattle.cose_gate_core.specs.declared.report.Verdict.{Verdict}
use Rattle.cose_gate_core.proofs.Outcomes.{item_rules_of, item_sight_of, nothing_taken, reached_step, answer_whole, answer_read, answer_item, answer_noting, read_far, stopped_not_long}
use Rattle.cose_gate_core.proofs.Reach.{reads_some, entry_at}

-- ---- a fault of reading
-- no place goes back
pub no_less : {E : Type 0} (l l' : Option (List ℕ)) (p p' : ℕ) (e : Error E) → SomeTaken l l' p p' e → p ≤ p'
no_less l l' p p' (de.Io x) s = omega (arith, s.grown)
no_less l l' p p' (de.Syntax q) s = omega (arith, s.grown)
no_less l l' p p' (de.Semantic o j) s = omega (arith, s.grown)
no_less l l' p p' de.RecursionLimitExceeded s = omega (arith, s.grown)
no_less l l' p p' de.Memory s = omega (arith, s.grown)
no_less l l' p p' de.TooLong s = omega (arith, s.grown)

-- the heads of a message are bytes
pub heads_some : (n limit : ℕ) (b : List ℕ) → IsFront limit (front.Four n) b → 0 < length b
heads_some n limit b (two, h) = omega (arith, title_some h.outer (Tag n) h.is_tag, ap length h.whole, length-append h.outer h.inner)

pub heads_grow : (n limit : ℕ) (start old : Seen) → Takes start old (IsFront limit (front.Four n)) → start.offset < old.offset
heads_grow n limit start old t = omega (arith, t.grown, heads_some n limit t.bytes t.has)

-- of nothing no front is taken
pub no_front : (terms : Terms) (f : Front) (exact : Bool) (l l' : Option (List ℕ)) (p p' : ℕ) → l ≡ Some [] → Moves l l' p p' (IsTakenFront terms f exact) → ⊥
no_front terms f exact l l' p p' none t = nothing_taken (IsTakenFront terms f exact) (some f) l l' p p' none t
  where
    some : (f : Front) (b : List ℕ) → IsTakenFront terms f exact b → 0 < length b
    some (front.Item v) b h = reads_some (nesting_of terms.limits) b (view v) h.0
    some (front.Four n) b h = heads_some n (nesting_of terms.limits) b h.1

-- a fault behind the place where the item began
end_inside : {E : Type 0} (n p p' : ℕ) (b : List ℕ) (x : E) (ends : E → Bool) → p < p' → FailsAt ends b p p' (λ stop b f. Damage stop b n f) (de.Io x) → IsFaultOf ends n (p + length b) b (de.Io x)
end_inside n p p' [] x ends less w = λ t. let same : p' ≡ p = (w t).1 in absurd (omega arith)
end_inside n p p' (y ∷ ys) x ends less w = λ t. ((w t).0, λ e. cc)

pub fault_of_bytes : {E : Type 0} (ends : E → Bool) (n : ℕ) (start new : Seen) (e : Error E) → start.offset < new.offset → NamesFault ends (λ stop b f. Damage stop b n f) start new e → TakesSome start new e → IfMemory (Takes start new HoldsOne) e
    → IsReadFault ends n start.left new.left start.offset new.offset (fault_by e)
fault_of_bytes ends n start new (de.Io x) less w s o = (tt, known start.left w, inside start.left, s)
  where
    known : (l : Option (List ℕ)) → IfKnown l (λ b. FailsAt ends b start.offset new.offset (λ stop b f. Damage stop b n f) (de.Io x)) → IfKnown l (λ b. IsFaultOf ends n (start.offset + length b) b (de.Io x))
    known None w = tt
    known (Some b) w = end_inside n start.offset new.offset b x ends less w

    inside : (l : Option (List ℕ)) → IfKnown l (λ b. IfEnd ends (start.offset < new.offset) (de.Io x))
    inside None = tt
    inside (Some b) = λ t. less
fault_of_bytes ends n start new (de.Syntax q) less w s o = (tt, w, none start.left, s)
  where
    none : (l : Option (List ℕ)) → IfKnown l (λ b. Unit {0})
    none None = tt
    none (Some b) = tt
fault_of_bytes ends n start new (de.Semantic k j) less w s o = (tt, w, none start.left, s)
  where
    none : (l : Option (List ℕ)) → IfKnown l (λ b. Unit {0})
    none None = tt
    none (Some b) = tt
fault_of_bytes ends n start new de.RecursionLimitExceeded less w s o = (tt, w, none start.left, s)
  where
    none : (l : Option (List ℕ)) → IfKnown l (λ b. Unit {0})
    none None = tt
    none (Some b) = tt
fault_of_bytes ends n start new de.Memory less w s o = o
fault_of_bytes ends n start new de.TooLong less w s o = (tt, w, none start.left, s)
  where
    none : (l : Option (List ℕ)) → IfKnown l (λ b. Unit {0})
    none None = tt
    none (Some b) = tt

-- ---- a message whose heads were taken
module _ {T E : Type 0} (ends : E → Bool) (rules : ItemRules T) (n : ℕ) (start old new : Seen) (sight : ItemSight T) (limit : ℕ) (same : limit ≡ rules.limits.nesting - 2) (which : (n ≡ 17) ⊎ (n ≡ 18))
    (t : Takes start old (IsFront rules.limits.nesting (front.Four n))) where
  -- its items have a fault
  pub four_unread : {X : Type 0} (P : X → Trees → Type 0) (e : Error E) → TakesFour ends limit P (Err e) old new → Passes ends rules start.left new.left start.offset new.offset sight sight (Err (fault_by e))
  four_unread P e w₀ =
      let w : TakesFour ends (rules.limits.nesting - 2) P (Err e) old new = subst (λ (z : ℕ). TakesFour ends z P (Err e) old new) same w₀ in
      let x = four_taken ends n rules.limits.nesting P (Err e) start old new which t w in
      inr (fault_of_bytes ends rules.limits.nesting start new e (let a = heads_grow n rules.limits.nesting start old t in let b = no_less old.left new.left old.offset new.offset e w.stops in omega (arith, a, b)) x.err x.stops x.one, refl)

module _ {T E : Type 0} (ends : E → Bool) (rules : ItemRules T) (n : ℕ) (start old new : Seen) (sight sight' : ItemSight T) (limit : ℕ) (same : limit ≡ rules.limits.nesting - 2) (which : (n ≡ 17) ⊎ (n ≡ 18))
    (t : Takes start old (IsFront rules.limits.nesting (front.Four n))) where
  -- they were read, and it went through, or was stopped
  pub four_passed : {X : Type 0} (P : X → Trees → Type 0) (x : X) (v : Verdict) → TakesFour {E = E} ends limit P (Ok x) old new
      → ((b : List ℕ) (u : Tree) (ts : Trees) → u ≡ array ts → P x ts → WentThrough rules b (tag n u) sight sight' v) → Passes ends rules start.left new.left start.offset new.offset sight sight' (Ok v)
  four_passed P x v w₀ f =
      let w : TakesFour {E = E} ends (rules.limits.nesting - 2) P (Ok x) old new = subst (λ (z : ℕ). TakesFour {E = E} ends z P (Ok x) old new) same w₀ in
      let y = (four_taken {E = E} ends n rules.limits.nesting P (Ok x) start old new which t w).ok in
      let r = y.has.1 in
      let k = y.has.2 in
      let reads : Reads y.bytes rules.limits.nesting (tag n (array k.0)) = subst (Reads y.bytes rules.limits.nesting) k.1 r in
      (tag n (array k.0), record { bytes = y.bytes; has = (reads, f y.bytes (array k.0) k.0 refl k.2); taken = y.taken; grown = y.grown })

  pub four_stopped : {X : Type 0} (P : X → Trees → Type 0) (x : X) (i : ItemFault) → TakesFour {E = E} ends limit P (Ok x) old new
      → ((b : List ℕ) (u : Tree) (ts : Trees) → u ≡ array ts → P x ts → ItemFails rules b (tag n u) sight sight' i) → Passes ends rules start.left new.left start.offset new.offset sight sight' (Err (stopped_by i))
  four_stopped P x i w₀ f =
      let w : TakesFour {E = E} ends (rules.limits.nesting - 2) P (Ok x) old new = subst (λ (z : ℕ). TakesFour {E = E} ends z P (Ok x) old new) same w₀ in
      let y = (four_taken {E = E} ends n rules.limits.nesting P (Ok x) start old new which t w).ok in
      let k = y.has.2 in
      let reads : Reads y.bytes rules.limits.nesting (tag n (array k.0)) = subst (Reads y.bytes rules.limits.nesting) k.1 y.has.1 in
      inl (tag n (array k.0), i, refl, record { bytes = y.bytes; has = (reads, f y.bytes (array k.0) k.0 refl k.2); taken = y.taken; grown = y.grown })

-- the bytes of an item that went through
abbrev pub taken_of : {T E : Type 0} (ends : E → Bool) (rules : ItemRules T) (l l' : Option (List ℕ)) (p p' : ℕ) (s s' : ItemSight T) (v : Verdict) (w : Passes {E = E} ends rules l l' p p' s s' (Ok v))
    → Moves l l' p p' (λ (b : List ℕ). Reads b rules.limits.nesting w.0)
taken_of ends rules l l' p p' s s' v w = record { bytes = w.1.bytes; has = w.1.has.0; taken = w.1.taken; grown = w.1.grown }

-- offsets grow too long only near what they can be
pub passes_far : {T E : Type 0} (ends : E → Bool) (rules : ItemRules T) (l l' : Option (List ℕ)) (p p' : ℕ) (s s' : ItemSight T) (f : GateFault E) → Passes ends rules l l' p p' s s' (Err f) → IfTooLong (IsFar p') f
passes_far {E = E} ends rules l l' p p' s s' f (inl (t, i, e, m)) = subst (IfTooLong (IsFar p')) (sym e) (stopped_not_long E (IsFar p') i)
passes_far ends rules l l' p p' s s' f (inr (d, same)) = read_far ends rules.limits.nesting l l' p p' f d

-- ---- seen from the first item on
module _ {T S E : Type 0} (ends : E → Bool) (rules : Rules T S) (old new newer : GateState T S) where
  -- it stopped, or was not taken
  pub answer_next : (live : Bool) (passed refused : ℕ) (done : List Step) → Reached rules old new passed refused done → (f : GateFault E)
      → Passes ends (item_rules_of rules) new.left newer.left new.offset newer.offset (item_sight_of new) (item_sight_of newer) (Err f)
      → newer.state ≡ new.state → (new.left ≡ Some [] → f ≢ Memory) → RanSteps ends live rules old newer done (Err f)
  answer_next live passed refused done r f (inl (t, i, e, m)) state some =
      subst (λ z. RanSteps ends live rules old newer done (Err z)) (sym e)
      (answer_item rules ends live old new newer passed refused done r t (record { bytes = m.bytes; has = m.has.0; taken = m.taken; grown = m.grown }) i m.has.1 state)
  answer_next live passed refused done r f (inr (d, same)) state some =
      answer_read rules ends live old new newer passed refused done r (ap (λ s. s.told) same) state (ap (λ s. s.written) same) f d some

  -- no byte was left
  pub answer_none : (live : Bool) (counts : Counts) (done : List Step) → Reached rules old new counts.passed counts.refused done
      → PassesNext ends (item_rules_of rules) new.left newer.left new.offset newer.offset (item_sight_of new) (item_sight_of newer) (Ok None)
      → newer.state ≡ new.state → RanSteps ends live rules old newer done (Ok counts)
  answer_none live counts done r w state = answer_whole rules ends live old new newer counts done r (ap (λ s. s.told) w.2) state (ap (λ s. s.written) w.2) (w.0, w.1)

  -- it went through, and was noted
  pub reached_next : (passed refused passed' refused' : ℕ) (done : List Step) → Reached rules old new passed refused done → (verdict : Verdict)
      → Passes ends (item_rules_of rules) new.left newer.left new.offset newer.offset (item_sight_of new) (item_sight_of newer) (Ok verdict)
      → (e : Entry) → e ≡ entry_at (passed + refused + 1) new.offset verdict → newer.state ≡ rules.folded new.state e
      → passed' ≡ passed + cond (has_passed verdict) 1 0 → refused' ≡ refused + cond (not (has_passed verdict)) 1 0
      → (s : Step) × Reached rules old newer passed' refused' (done ++ s ∷ [])
  reached_next passed refused passed' refused' done r verdict w e same state more less =
      reached_step rules old new newer passed refused passed' refused' done r w.0 (taken_of ends (item_rules_of rules) _ _ _ _ _ _ verdict w) verdict w.1.has.1 e same state more less

  -- it went through, and could not be noted
  pub answer_unnoted : (live : Bool) (passed refused : ℕ) (done : List Step) → Reached rules old new passed refused done → (verdict : Verdict)
      → Passes ends (item_rules_of rules) new.left newer.left new.offset newer.offset (item_sight_of new) (item_sight_of newer) (Ok verdict)
      → newer.state ≡ new.state → RanSteps ends live rules old newer done (Err Memory)
  answer_unnoted live passed refused done r verdict w state =
      answer_noting rules ends live old new newer passed refused done r w.0 (taken_of ends (item_rules_of rules) _ _ _ _ _ _ verdict w) verdict w.1.has.1 state

-- ---- an item that was taken whole
module _ {T E : Type 0} (ends : E → Bool) (rules : ItemRules T) (l l' : Option (List ℕ)) (p p' : ℕ) (s s' : ItemSight T) (P : List ℕ → Type 0) (v : Tree) (t : Moves l l' p p' P) where
  pub item_passed : (verdict : Verdict) → ((b : List ℕ) → P b → Reads b rules.limits.nesting v × WentThrough rules b v s s' verdict) → Passes {E = E} ends rules l l' p p' s s' (Ok verdict)
  item_passed verdict f = (v, record { bytes = t.bytes; has = f t.bytes t.has; taken = t.taken; grown = t.grown })

  pub item_stopped : (i : ItemFault) → ((b : List ℕ) → P b → Reads b rules.limits.nesting v × ItemFails rules b v s s' i) → Passes {E = E} ends rules l l' p p' s s' (Err (stopped_by i))
  item_stopped i f = inl (v, i, refl, record { bytes = t.bytes; has = f t.bytes t.has; taken = t.taken; grown = t.grown })

pub seventeen : (n : ℕ) → (n ≡ 17) ⊎ (n ≡ 18) → n ≢ 18 → n ≡ 17
seventeen n (inl e) not = e
seventeen n (inr e) not = absurd (not e)
