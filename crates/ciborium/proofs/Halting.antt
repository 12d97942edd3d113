-- If a fault leaves the decoder, from step to step.
use Rattle.std.proofs.Common.{ℕ, List, ◌++◌, Option, None, Some, sym, ap, ◌∙◌, arith, append_assoc, length-append}
use Rattle.std.specs.Io.KnownBytes.{Consumes}
use Rattle.ciborium_ll.specs.Reading.{Moves, Starts}
use Rattle.ciborium_value.specs.Tree.{Tree}
use Rattle.ciborium.specs.declared.de.Error.{Error}
use Rattle.ciborium.specs.declared.de.Error.TheVariants as code
use Rattle.ciborium.specs.Reading.{SomeTaken, IsFar, IsNotLong, IsNoMemory, IfMemory, IsFoldFault}
use Rattle.ciborium.proofs.Taking.{takes_then}

starts_then : (l m : Option (List ℕ)) (x y : List ℕ) → Consumes l m x → Starts m y → Starts l (x ++ y)
starts_then None m x y t s = tt
starts_then (Some b) None x y t s = absurd t
starts_then (Some b) (Some c) x y t (rest, e) = (rest, t ∙ ap (λ z. x ++ z) e ∙ sym (append_assoc x y rest))

starts_with : (l m : Option (List ℕ)) (x : List ℕ) → Consumes l m x → Starts l x
starts_with None m x t = tt
starts_with (Some b) None x t = absurd t
starts_with (Some b) (Some c) x t = (c, t)

-- something was taken
pub was_taken : {l₀ l₁ : Option (List ℕ)} {o₀ o₁ : ℕ} {P : List ℕ → Type 0} → Moves l₀ l₁ o₀ o₁ P → Moves l₀ l₁ o₀ o₁ (λ _. Unit {0})
was_taken t = record { bytes = t.bytes; has = tt; taken = t.taken; grown = t.grown }

pub both_taken : {l₀ l₁ l₂ : Option (List ℕ)} {o₀ o₁ o₂ : ℕ} {P Q : List ℕ → Type 0} → Moves l₀ l₁ o₀ o₁ P → Moves l₁ l₂ o₁ o₂ Q → Moves l₀ l₂ o₀ o₂ (λ _. Unit {0})
both_taken {l₀} {l₁} {l₂} {o₀} {o₁} {o₂} {P} {Q} t u = takes_then l₀ l₁ l₂ o₀ o₁ o₂ P Q (λ _. Unit {0}) t u (λ x y p q. tt)

-- a fault after what was taken
pub some_then : {E : Type 0} {l₀ l₁ : Option (List ℕ)} {o₀ o₁ : ℕ} {P : List ℕ → Type 0} (l₂ : Option (List ℕ)) (o₂ : ℕ) (e : Error E) → Moves l₀ l₁ o₀ o₁ P → SomeTaken l₁ l₂ o₁ o₂ e → SomeTaken l₀ l₂ o₀ o₂ e
some_then {E} {l₀} {l₁} {o₀} {o₁} {P} l₂ o₂ e t s = go e s
  where
    go : (e : Error E) → SomeTaken l₁ l₂ o₁ o₂ e → SomeTaken l₀ l₂ o₀ o₂ e
    go (code.Io e) s = record {
      bytes = t.bytes ++ s.bytes;
      has = tt;
      there = starts_then l₀ l₁ t.bytes s.bytes t.taken s.there;
      grown = omega (arith, t.grown, s.grown, length-append t.bytes s.bytes);
    }
    go (code.Syntax p) s = both_taken t s
    go (code.Semantic o k) s = both_taken t s
    go code.RecursionLimitExceeded s = both_taken t s
    go code.Memory s = both_taken t s
    go code.TooLong s = takes_then l₀ l₁ l₂ o₀ o₁ o₂ P (λ _. IsFar o₂) (λ _. IsFar o₂) t s (λ x y p q. q)

-- a fold never ends with offsets that are too long
pub fold_not_long : {E : Type 0} (n : ℕ) (c : Tree) (e : Error E) → IsFoldFault n c e → IsNotLong e
fold_not_long n c (code.Io e) w = absurd w
fold_not_long n c (code.Syntax p) w = absurd w
fold_not_long n c (code.Semantic o k) w = tt
fold_not_long n c code.RecursionLimitExceeded w = absurd w
fold_not_long n c code.Memory w = tt
fold_not_long n c code.TooLong w = absurd w

-- a fault if no more was asked for
pub some_taken : {E : Type 0} {l₀ l₁ : Option (List ℕ)} {o₀ o₁ : ℕ} {P : List ℕ → Type 0} (e : Error E) → IsNotLong e → Moves l₀ l₁ o₀ o₁ P → SomeTaken l₀ l₁ o₀ o₁ e
some_taken {E} {l₀} {l₁} {o₀} {o₁} {P} e n t = go e n
  where
    go : (e : Error E) → IsNotLong e → SomeTaken l₀ l₁ o₀ o₁ e
    go (code.Io e) n = record { bytes = t.bytes; has = tt; there = starts_with l₀ l₁ t.bytes t.taken; grown = t.grown }
    go (code.Syntax p) n = was_taken t
    go (code.Semantic o k) n = was_taken t
    go code.RecursionLimitExceeded n = was_taken t
    go code.Memory n = was_taken t
    go code.TooLong n = absurd n

-- a fault that isn't of memory
pub not_memory : {E : Type 0} (P : Type 0) (e : Error E) → IsNoMemory e → IfMemory P e
not_memory P (code.Io e) n = tt
not_memory P (code.Syntax p) n = tt
not_memory P (code.Semantic o k) n = tt
not_memory P code.RecursionLimitExceeded n = tt
not_memory P code.Memory n = absurd n
not_memory P code.TooLong n = tt

pub memory_as : {E : Type 0} (P Q : Type 0) (e : Error E) → (P → Q) → IfMemory P e → IfMemory Q e
memory_as P Q (code.Io e) f p = tt
memory_as P Q (code.Syntax s) f p = tt
memory_as P Q (code.Semantic o k) f p = tt
memory_as P Q code.RecursionLimitExceeded f p = tt
memory_as P Q code.Memory f p = f p
memory_as P Q code.TooLong f p = tt

-- no memory after what was taken
pub memory_then : {E : Type 0} (l₀ l₁ l₂ : Option (List ℕ)) (o₀ o₁ o₂ : ℕ) (P Q S : List ℕ → Type 0) (e : Error E) → Moves l₀ l₁ o₀ o₁ P → ((x y : List ℕ) → P x → Q y → S (x ++ y))
    → IfMemory (Moves l₁ l₂ o₁ o₂ Q) e → IfMemory (Moves l₀ l₂ o₀ o₂ S) e
memory_then l₀ l₁ l₂ o₀ o₁ o₂ P Q S e t f m = memory_as _ _ e (λ q. takes_then l₀ l₁ l₂ o₀ o₁ o₂ P Q S t q f) m

pub memory_of : {E : Type 0} (P : Type 0) (e : Error E) → P → IfMemory P e
memory_of P (code.Io e) p = tt
memory_of P (code.Syntax s) p = tt
memory_of P (code.Semantic o k) p = tt
memory_of P code.RecursionLimitExceeded p = tt
memory_of P code.Memory p = p
memory_of P code.TooLong p = tt
