-- What is read of a line.
use Rattle.std.proofs.Common.{◌≡◌, ℕ, List, Option, Some, Result, Ok, Err, refl, ap, subst, sym, ◌∙◌, MatchResult}
use Rattle.cose_gate_command.specs.CommandLine.{Options, Word, Wrong, checked, read, and_then}

-- the same of another result
pub matched : {A B W : Type 0} (view : A → B) (wrong : W → Wrong) (r : Result A W) (x y : Result B Wrong) → x ≡ y
    → MatchResult r (λ a. x ≡ Ok (view a)) (λ w. x ≡ Err (wrong w)) → MatchResult r (λ a. y ≡ Ok (view a)) (λ w. y ≡ Err (wrong w))
matched view wrong (Ok a) x y e m = sym e ∙ m
matched view wrong (Err w) x y e m = sym e ∙ m

-- all words are right
pub read_all : {A : Type 0} (o o' : Options) (f : List Word → Result A Wrong) (l l' : List Word) → o ≡ o' → l ≡ l' → checked o l ≡ Ok tt → f l ≡ read o' f l'
read_all o o' f l l' p q e = sym (ap (and_then (λ _. f l)) e) ∙ λ i. read (p i) f (q i)

-- a word is wrong
pub wrong_word : {A : Type 0} (o o' : Options) (f : List Word → Result A Wrong) (l l' : List Word) (w : Wrong) → o ≡ o' → l ≡ l' → checked o l ≡ Err w → read o' f l' ≡ Err w
wrong_word o o' f l l' w p q e = (λ i. read (sym p i) f (sym q i)) ∙ ap (and_then (λ _. f l)) e
