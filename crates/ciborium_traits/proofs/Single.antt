-- A sink whose meaning is said of single events: what was due is put if it took all of these events,
-- one after another; it stopped if it took a beginning of them and refused the next.
use Rattle.std.proofs.Common.{◌≡◌, List, [], ◌∷◌, ◌++◌, ◌⊎◌, inl, inr, refl, sym, subst, append-nil}
use Rattle.ciborium_traits.specs.Events.{Event, Puts, Stops}

module _ {S : Type 0} (adds refuses : S → Event → S → Type 0) where
  abbrev pub AllAdded : S → List Event → S → Type 0
  AllAdded s [] t = t ≡ s
  AllAdded s (e ∷ es) t = (m : S) × adds s e m × AllAdded m es t

  abbrev pub Stopped : S → List Event → S → Type 0
  Stopped s [] t = ⊥
  Stopped s (e ∷ es) t = refuses s e t ⊎ ((m : S) × adds s e m × Stopped m es t)

  abbrev pub due : S × List Event → List Event → S → Type 0
  due p es m = ((t : S) → AllAdded m es t → AllAdded p.0 p.1 t) × ((t : S) → Stopped m es t → Stopped p.0 p.1 t)

  abbrev pub torn : S × List Event → S → Type 0
  torn p m = Stopped p.0 p.1 m

  pub one_put : (s t : S) (e : Event) → adds s e t → Puts due s (e ∷ []) t
  one_put s t e h = λ p es d. (λ u a. d.0 u (t, h, a), λ u a. d.1 u (inr (t, h, a)))

  pub one_stopped : (s t : S) (e : Event) → refuses s e t → Stops due torn s (e ∷ []) t
  one_stopped s t e h = λ p es d. d.1 t (inl h)

  whole_due : (s : S) (es : List Event) → due (s, es) (es ++ []) s
  whole_due s es = subst (λ z. due (s, es) z s) (sym (append-nil es)) (λ t a. a, λ t a. a)

  pub all_added : (s t : S) (es : List Event) → Puts due s es t → AllAdded s es t
  all_added s t es h = (h (s, es) [] (whole_due s es)).0 t refl

  pub some_stopped : (s t : S) (es : List Event) → Stops due torn s es t → Stopped s es t
  some_stopped s t es h = h (s, es) [] (whole_due s es)
