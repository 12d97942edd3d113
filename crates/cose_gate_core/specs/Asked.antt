-- How far questions are asked, and what is left of a list that was gone through.
use Rattle.std.specs.Prelude.{◌≡◌, ℕ, ◌+◌, List, [], ◌∷◌, ◌++◌, Option, Some, None, Bool, if◌then◌else◌, option_map}

-- the questions that are asked: up to and with the first no
abbrev pub asked : {Q : Type 0} → (Q → Bool) → List Q → List Q
asked allows [] = []
asked allows (q ∷ qs) = q ∷ (if allows q then asked allows qs else [])

-- the index of the first no
abbrev pub first_no : {Q : Type 0} → (Q → Bool) → List Q → Option ℕ
first_no allows [] = None
first_no allows (q ∷ qs) = if allows q then option_map (λ n. n + 1) (first_no allows qs) else Some 0

-- what a state is after a list, one after another
abbrev pub folded_over : {S X : Type 0} → (S → X → S) → S → List X → S
folded_over step s [] = s
folded_over step s (x ∷ xs) = folded_over step (step s x) xs

-- xs are a beginning of ys
pub record IsFront {A : Type 0} (xs ys : List A) : Type 0 where
  pub more : List A
  pub whole : ys ≡ xs ++ more

-- of these questions a beginning was told, and the next was not
pub record ToldPart {T Q : Type 0} (decided : T → Q → T) (told told' : T)
    (all : List Q) : Type 0 where
  pub front : List Q
  pub next : Q
  pub more : List Q
  pub whole : all ≡ front ++ next ∷ more
  pub tells : told' ≡ folded_over decided told front

-- of these questions a beginning was told
pub record ToldFront {T Q : Type 0} (decided : T → Q → T) (told told' : T)
    (all : List Q) : Type 0 where
  pub front : List Q
  pub is_front : IsFront front all
  pub tells : told' ≡ folded_over decided told front
