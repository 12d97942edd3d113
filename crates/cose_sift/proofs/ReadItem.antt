-- An item that was read, or not.
use Rattle.std.proofs.Common.{◌≡◌, ◌≢◌, ◌+◌, ◌^◌, ◌≤◌, ℕ, List, [], ◌++◌, length, Bool, false, IsTrue, MatchBool, Option, Some, None, Result, Ok, Err, IfOk, IfErr, inl, inr, refl, sym, ap, subst, ◌∙◌, append-nil, length-append, arith}
use Rattle.std.specs.Prelude.{◌⊎◌}
use Rattle.ciborium_ll.specs.Reading.{Moves}
use Rattle.ciborium_value.specs.Tree.{Tree}
use Rattle.ciborium.specs.declared.de.Error.{Error}
use Rattle.ciborium.specs.declared.de.Error.TheVariants as code
use Rattle.ciborium.specs.Damage.{Damage}
use Rattle.ciborium.specs.Front.{Reads}
use Rattle.ciborium.specs.Items.{nesting}
use Rattle.ciborium.specs.Reading.{FailsAt, IsFar, SomeTaken}
use Rattle.ciborium.proofs.Excludes.{excludes}
use Rattle.cose_sift.specs.declared.items.Halt.{Halt}
use Rattle.cose_sift.specs.declared.items.Halt.TheVariants as halt
use Rattle.cose_sift.specs.declared.taking.Stop.TheVariants as stop
use Rattle.cose_sift.specs.Reading.{IsReadable, Unread}
use Rattle.cbor_walk.specs.Walking.{IsOne}
use Rattle.cose_sift.proofs.Readable.{spelled}

pub read_whole : (b : List ℕ) (new : Option (List ℕ)) (o o' : ℕ) (v : Tree) → IsOne b → Moves (Some b) new o o' (λ x. Reads x nesting v) → IsReadable b
read_whole b None o o' v one m = absurd m.taken
read_whole b (Some rest) o o' v one m =
    let e : b ≡ m.bytes ++ rest = m.taken in
    let whole : m.bytes ≡ b = one.once m.bytes rest [] (spelled m.has.tree m.bytes m.has.spells) (sym e ∙ sym (append-nil b)) in
    (v, subst (λ (z : List ℕ). Reads z nesting v) whole m.has)

pub unread : {E : Type 0} (ends : E → Bool) (b : List ℕ) (o o' : ℕ) (e : Error E) → e ≢ code.Memory → e ≢ code.TooLong
    → FailsAt ends b o o' (λ stop c f. Damage stop c nesting f) e → ((e : E) → IsTrue (ends e)) → IsReadable b → ⊥
unread ends b o o' (code.Io e) m l f all r = excludes _ b nesting _ (f (all e)).0 r.0 [] (record { spelling = b; whole = sym (append-nil b); reads = r.1 })
unread ends b o o' (code.Syntax p) m l f all r = excludes _ b nesting _ f r.0 [] (record { spelling = b; whole = sym (append-nil b); reads = r.1 })
unread ends b o o' (code.Semantic x k) m l f all r = excludes _ b nesting _ f.1 r.0 [] (record { spelling = b; whole = sym (append-nil b); reads = r.1 })
unread ends b o o' code.RecursionLimitExceeded m l f all r = excludes _ b nesting _ f r.0 [] (record { spelling = b; whole = sym (append-nil b); reads = r.1 })
unread ends b o o' code.Memory m l f all r = absurd (m refl)
unread ends b o o' code.TooLong m l f all r = absurd (l refl)

pub unread_says : {A B : Type 0} (b : List ℕ) (r : Result Bool Halt) → IfOk r (λ yes. (yes ≡ false) × A × B) → (A → B → IsReadable b → ⊥) → IfOk r (λ yes. MatchBool yes (IsReadable b) (IsReadable b → ⊥))
unread_says b (Err e) h f = tt
unread_says b (Ok x) h f = subst (λ z. MatchBool z (IsReadable b) (IsReadable b → ⊥)) (sym h.0) (f h.1 h.2)

-- places that can't be counted are those of as many bytes
far : (b : List ℕ) (new : Option (List ℕ)) (o o' : ℕ) → o ≡ 0 → Moves (Some b) new o o' (λ _. IsFar o') → 2 ^ 64 ≤ length b + 4096
far b None o o' start m = absurd m.taken
far b (Some rest) o o' start m = omega (arith, start, m.grown, m.has, ap length m.taken, length-append m.bytes rest)

pub told : {E : Type 0} (b : List ℕ) (new : Option (List ℕ)) (o o' : ℕ) (e : Error E) (r : Result Bool Halt) → o ≡ 0 → SomeTaken (Some b) new o o' e
    → IfErr r (λ h. ((e ≡ code.Memory) × (h ≡ halt.Decode stop.Memory)) ⊎ ((e ≡ code.TooLong) × (h ≡ halt.Decode stop.TooLong))) → IfErr r (Unread b)
told b new o o' e (Ok x) start t says = tt
told b new o o' e (Err h) start t (inl m) = inl m.1
told b new o o' e (Err h) start t (inr m) = inr (m.1, far b new o o' start (subst (SomeTaken (Some b) new o o') m.0 t))
