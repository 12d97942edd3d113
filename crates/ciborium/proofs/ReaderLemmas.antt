-- The reader's parts outside its cycle.
use Rattle.std.proofs.Common.{ℕ, Bool, List, ◌++◌, Option, None, Some, sym, ap, subst, ◌∙◌}
use Rattle.ciborium_ll.specs.Reading.{Moves}
use Rattle.ciborium_ll.specs.declared.hdr.Header.TheVariants.{Tag}
use Rattle.ciborium_value.specs.Tree.{Tree, Trees}
use Rattle.ciborium.specs.declared.de.Error.{Error}
use Rattle.ciborium.specs.declared.de.Error.TheVariants as code
use Rattle.ciborium.specs.Damage.{Fault, Damage}
use Rattle.ciborium.specs.Front.{ReadsAll}
use Rattle.ciborium.specs.Reading.{FailsAt, IfKnown, FailsAfterTitle, IsFoldFault, ChildrenAfterHead, Closes}
use Rattle.ciborium.proofs.Words.{TaggedAfterTitle}
use Rattle.ciborium.proofs.Once.{append_nil}
use Rattle.ciborium.proofs.TagLemmas.{negative_fails}

memory_known : {E : Type 0} (ends : E → Bool) (k : List ℕ → List ℕ) (o at : ℕ) (l : Option (List ℕ)) (D : ℕ → List ℕ → Fault → Type 0) → IfKnown l (λ b. FailsAt {E = E} ends (k b) at o D code.Memory)
memory_known ends k o at None D = tt
memory_known ends k o at (Some b) D = tt

-- a number that does not fold
pub fold_fails : {E : Type 0} (ends : E → Bool) (n at limit : ℕ) (c : Tree) (l₀ l₁ : Option (List ℕ)) (o₀ o₁ : ℕ) (e : Error E) → IsFoldFault n c e
    → Moves l₀ l₁ o₀ o₁ (λ (b : List ℕ). TaggedAfterTitle n limit c b) → FailsAfterTitle ends (Tag n) at o₀ l₀ o₁ (λ stop b f. Damage stop b limit f) e
fold_fails ends n at limit c l₀ l₁ o₀ o₁ (code.Io e) w t = absurd w
fold_fails ends n at limit c l₀ l₁ o₀ o₁ (code.Syntax p) w t = absurd w
fold_fails ends n at limit c l₀ l₁ o₀ o₁ (code.Semantic o k) w t =
    subst (λ z. FailsAfterTitle ends (Tag n) at o₀ l₀ o₁ (λ stop b f. Damage stop b limit f) (code.Semantic z k)) (sym w.0)
    (subst (λ z. FailsAfterTitle ends (Tag n) at o₀ l₀ o₁ (λ stop b f. Damage stop b limit f) (code.Semantic None z)) (sym w.1) (negative_fails ends n at limit c l₀ l₁ o₀ o₁ w.2 t))
fold_fails ends n at limit c l₀ l₁ o₀ o₁ code.RecursionLimitExceeded w t = absurd w
fold_fails ends n at limit c l₀ l₁ o₀ o₁ code.Memory w t = λ title u g. memory_known ends (λ b. title ++ b) o₁ at l₀ (λ stop b f. Damage stop b limit f)
fold_fails ends n at limit c l₀ l₁ o₀ o₁ code.TooLong w t = absurd w

-- the end of an array or a map
pub closed : (o : Option ℕ) (done limit : ℕ) (vs : Trees) (x y : List ℕ) → ReadsAll x limit vs → Closes o done y → ChildrenAfterHead o done limit vs (x ++ y)
closed (Some n) done limit vs x y p c = (c.0, subst (λ (z : List ℕ). ReadsAll z limit vs) (append_nil x ∙ ap (λ z. x ++ z) (sym c.1)) p)
closed None done limit vs x y p c = (x, p, ap (λ z. x ++ z) c)
