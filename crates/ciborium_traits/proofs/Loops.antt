-- A loop that stops at an item.
use Rattle.std.proofs.Common.{◌≡◌, List, ◌++◌, Result, Ok, Err, OnErr, ap, subst, ◌∙◌, append_assoc}
use Rattle.ciborium_traits.specs.Events.{Event, Stops}

-- of the whole this rest is due, and it begins with the item
pub stopped_in : {P S T E : Type 0} (r : Result T E) (due : P → List Event → S → Type 0) (torn : P → S → Type 0) (old mid new : S) (whole rest item after : List Event) → rest ≡ item ++ after
    → ((p : P) (es : List Event) → due p (whole ++ es) old → due p (rest ++ es) mid) → Stops due torn mid item new → OnErr r (Stops due torn old whole new)
stopped_in (Ok x) due torn old mid new whole rest item after e before stops = tt
stopped_in (Err x) due torn old mid new whole rest item after e before stops =
    λ p es h. stops p (after ++ es) (subst (λ z. due p z mid) (ap (λ z. z ++ es) e ∙ append_assoc item after es) (before p es h))
