-- The first word of a line.
use Rattle.std.proofs.Common.{◌≡◌, ℕ, List, [], ◌∷◌, map, Bool, true, false, refl, ap, codes, bytes_eq}
use Rattle.std.specs.List.{list_any}
use Rattle.cose_gate_command.specs.CommandLine.{Options, Word, words_by, any, value, plain, has, is_option, alone, other, rest}

pub any_map : {A B : Type 0} (p : B → Bool) (f : A → B) (xs : List A) → list_any p (map f xs) ≡ list_any (λ x. p (f x)) xs
any_map p f [] = refl
any_map p f (x ∷ xs) = rw (any_map p f xs) refl

pub first_named : (o : Options) (w : List ℕ) (ws : List (List ℕ)) → bytes_eq w (codes "--") ≡ false → has w o.named ≡ true → words_by o any (w ∷ ws) ≡ words_by o (value w) ws
first_named o w ws e f = rw e (rw f refl)

pub first_last : (o : Options) (w : List ℕ) (ws : List (List ℕ)) → bytes_eq w (codes "--") ≡ false → has w o.named ≡ false → has w o.last ≡ true → words_by o any (w ∷ ws) ≡ rest ws ∷ []
first_last o w ws e f g = rw e (rw f (rw g refl))

pub first_alone : (o : Options) (w : List ℕ) (ws : List (List ℕ)) → bytes_eq w (codes "--") ≡ false → has w o.named ≡ false → has w o.last ≡ false → is_option w ≡ true → words_by o any (w ∷ ws) ≡ alone w ∷ words_by o any ws
first_alone o w ws e f g h = rw e (rw f (rw g (rw h refl)))

pub first_other : (o : Options) (w : List ℕ) (ws : List (List ℕ)) → bytes_eq w (codes "--") ≡ false → has w o.named ≡ false → has w o.last ≡ false → is_option w ≡ false → words_by o any (w ∷ ws) ≡ other w ∷ words_by o any ws
first_other o w ws e f g h = rw e (rw f (rw g (rw h refl)))

pub ruleset first_words = (first_named, first_last, first_alone, first_other)
