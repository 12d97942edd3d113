-- What is left of the events of a whole, as calls write its parts.
use Rattle.std.proofs.Common.{◌≡◌, List, ◌++◌, Result, Ok, Err, OnOk, OnErr, subst, append_assoc}
use Rattle.ciborium_traits.specs.Events.{Event, Puts, Stops}

-- of the whole that was due at s, the rest is due at m
pub record Left {P S : Type 0} (due : P → List Event → S → Type 0) (s : S) (whole : List Event) (m : S) (rest : List Event) : Type 0 where
  pub left : (p : P) (es : List Event) → due p (whole ++ es) s → due p (rest ++ es) m

pub at_loop : {P S : Type 0} (due : P → List Event → S → Type 0) {s m : S} {whole rest : List Event} → ((p : P) (es : List Event) → due p (whole ++ es) s → due p (rest ++ es) m) → Left due s whole m rest
at_loop due l = record { left = l }

pub begins : {P S : Type 0} (due : P → List Event → S → Type 0) (s : S) {whole rest : List Event} → whole ≡ rest → Left due s whole s rest
begins due s e = record { left = λ p es h. subst (λ z. due p (z ++ es) s) e h }

pub same : {P S : Type 0} {due : P → List Event → S → Type 0} {s m : S} {whole xs ys : List Event} → Left due s whole m xs → xs ≡ ys → Left due s whole m ys
same {P} {S} {due} {s} {m} l e = record { left = λ p es h. subst (λ z. due p (z ++ es) m) e (l.left p es h) }

pub goes_on : {P S : Type 0} {due : P → List Event → S → Type 0} {s m n : S} {whole : List Event} (xs ys : List Event) → Left due s whole m (xs ++ ys) → Puts due m xs n → Left due s whole n ys
goes_on {P} {S} {due} {s} {m} xs ys l q = record { left = λ p es h. q p (ys ++ es) (subst (λ z. due p z m) (append_assoc xs ys es) (l.left p es h)) }

pub ends : {P S T E : Type 0} {due : P → List Event → S → Type 0} {s m : S} {whole xs : List Event} (r : Result T E) (n : S) → Left due s whole m xs → OnOk r (Puts due m xs n) → OnOk r (Puts due s whole n)
ends (Ok v) n l q = λ p es h. q p es (l.left p es h)
ends (Err v) n l q = tt

pub ends_torn : {P S T E : Type 0} {due : P → List Event → S → Type 0} (torn : P → S → Type 0) {s m : S} {whole xs : List Event} (r : Result T E) (n : S)
    → Left due s whole m xs → OnErr r (Stops due torn m xs n) → OnErr r (Stops due torn s whole n)
ends_torn torn (Ok v) n l q = tt
ends_torn torn (Err v) n l q = λ p es h. q p es (l.left p es h)

pub is_torn : {P S T E : Type 0} {due : P → List Event → S → Type 0} (torn : P → S → Type 0) {s m : S} {whole : List Event} (r : Result T E) (n : S) (xs ys : List Event)
    → Left due s whole m (xs ++ ys) → Stops due torn m xs n → OnErr r (Stops due torn s whole n)
is_torn torn (Ok v) n xs ys l q = tt
is_torn {P} {S} {T} {E} {due} torn {s} {m} (Err v) n xs ys l q = λ p es h. q p (ys ++ es) (subst (λ z. due p z m) (append_assoc xs ys es) (l.left p es h))
