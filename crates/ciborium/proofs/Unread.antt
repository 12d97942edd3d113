-- A fault of a decoder over a lent reader is one of the reader's bytes.
use Rattle.std.proofs.Common.{◌≡◌, ◌+◌, ℕ, Bool, List, length, Option, None, Some, Result, Ok, Err, IfErr, ◌⊎◌, inl, inr, subst, arith}
use Rattle.ciborium_ll.specs.Reading.{Moves}
use Rattle.ciborium_value.specs.declared.kind.Kind.{Kind}
use Rattle.ciborium_value.specs.Tree.{Tree}
use Rattle.ciborium.specs.declared.de.Error.{Error}
use Rattle.ciborium.specs.Damage.{Damage}
use Rattle.ciborium.specs.Reading.{FailsAt, IfKnown}
use Rattle.ciborium.specs.Typed.{IsRefused, IsUnread}
use Rattle.ciborium.proofs.Taking.{fails_as}

abbrev pub IfAsked : {E : Type 0} → (E → Bool) → Bool → (Tree → Option Kind) → ℕ → Option (List ℕ) → Option (List ℕ) → ℕ → ℕ → Error E → Type 0
IfAsked ends grows why limit m m' o o' e = IfKnown m (λ b. FailsAt ends b o o' (λ stop b f. Damage stop b limit f) e) ⊎ Moves m m' o o' (IsRefused grows why limit e)

if_asked : {E : Type 0} (ends : E → Bool) (grows : Bool) (why : Tree → Option Kind) (limit : ℕ) (m m' : Option (List ℕ)) (o' : ℕ) (e : Error E) → IfAsked ends grows why limit m m' 0 o' e → IsUnread ends grows why limit m m' e
if_asked ends grows why limit None m' o' e (inl w) = inl tt
if_asked ends grows why limit (Some b) m' o' e (inl w) =
    let same : 0 + length b ≡ length b = omega arith in
    inl (fails_as ends _ _ _ _ _ _ e (λ x. tt) (λ f d. subst (λ (n : ℕ). Damage n b limit f) same d) (λ l. l) w)
if_asked ends grows why limit m m' o' e (inr t) = inr (t.bytes, t.taken, t.has)

pub unread : {T E : Type 0} (ends : E → Bool) (grows : Bool) (why : Tree → Option Kind) (limit : ℕ) (r : Result T (Error E)) (l l' m m' : Option (List ℕ)) (o o' : ℕ)
    → IfErr r (λ e. IfKnown m (λ b. FailsAt ends b o o' (λ stop b f. Damage stop b limit f) e) ⊎ Moves m m' o o' (IsRefused grows why limit e))
    → m ≡ l → m' ≡ l' → o ≡ 0 → IfErr r (IsUnread ends grows why limit l l')
unread ends grows why limit (Ok x) l l' m m' o o' w p q z = tt
unread ends grows why limit (Err e) l l' m m' o o' w p q z =
    subst (λ (a : Option (List ℕ)). IsUnread ends grows why limit a l' e) p
    (subst (λ (a : Option (List ℕ)). IsUnread ends grows why limit m a e) q (if_asked ends grows why limit m m' o' e (subst (λ (a : ℕ). IfAsked ends grows why limit m m' a o' e) z w)))
