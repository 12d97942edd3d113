-- How what is due goes on.
use Rattle.std.proofs.Common.{◌≡◌, ℕ, List, ◌++◌, refl, sym, ap, ◌∙◌, append_assoc}
use Rattle.std.proofs.lemmas.List.{append_cancel_left}
use Rattle.cbor_walk.specs.Walking.{Then, Follows, Goes}

pub regroup : (a t r u : List ℕ) → a ≡ t ++ r → a ++ u ≡ t ++ (r ++ u)
regroup a t r u e = ap (λ z. z ++ u) e ∙ append_assoc t r u

-- one step after another
pub goes_then : (P Q R : List ℕ → Type 0) (x y : List ℕ) → Goes P Q x → Goes Q R y → Goes P R (x ++ y)
goes_then P Q R x y p q = record { back = back; on = on }
  where
    back : (rest : List ℕ) → R rest → P ((x ++ y) ++ rest)
    back rest r = rw (append_assoc x y rest) (p.back (y ++ rest) (q.back rest r))

    on : (i behind left : List ℕ) → P i → i ++ behind ≡ (x ++ y) ++ left → Follows R (x ++ y) i
    on i behind left h e =
        let u = p.on i behind (y ++ left) h (e ∙ append_assoc x y left) in
        let f : u.rest ++ behind ≡ y ++ left = append_cancel_left x (u.rest ++ behind) (y ++ left) (sym (regroup i x u.rest behind u.whole) ∙ e ∙ append_assoc x y left) in
        let v = q.on u.rest behind left u.has f in
        record { rest = v.rest; has = v.has; whole = u.whole ∙ ap (λ z. x ++ z) v.whole ∙ sym (append_assoc x y v.rest) }

-- what is due is said otherwise, before a step and after it
pub goes_from : (P Q R : List ℕ → Type 0) (x : List ℕ) → ((b : List ℕ) → P b → Q b) → ((b : List ℕ) → Q b → P b) → Goes Q R x → Goes P R x
goes_from P Q R x to back g = record {
  back = λ rest r. back (x ++ rest) (g.back rest r);
  on = λ i behind left h e. g.on i behind left (to i h) e;
}

pub goes_to : (P Q R : List ℕ → Type 0) (x : List ℕ) → Goes P Q x → ((b : List ℕ) → Q b → R b) → ((b : List ℕ) → R b → Q b) → Goes P R x
goes_to P Q R x g to back = record {
  back = λ rest r. g.back rest (back rest r);
  on = λ i behind left h e. let u = g.on i behind left h e in record { rest = u.rest; has = to u.rest u.has; whole = u.whole };
}

-- a step in front of what comes after it
pub goes_before : (P Q R : List ℕ → Type 0) (x : List ℕ) → Goes P Q x → Goes (Then P R) (Then Q R) x
goes_before P Q R x g = record { back = back; on = on }
  where
    back : (rest : List ℕ) → Then Q R rest → Then P R (x ++ rest)
    back rest (a, b, q, r, e) = (x ++ a, b, g.back a q, r, ap (λ z. x ++ z) e ∙ sym (append_assoc x a b))

    on : (i behind left : List ℕ) → Then P R i → i ++ behind ≡ x ++ left → Follows (Then Q R) x i
    on i behind left (a, b, p, r, e) f =
        let u = g.on a (b ++ behind) left p (sym (regroup i a b behind e) ∙ f) in
        record { rest = u.rest ++ b; has = (u.rest, b, u.has, r, refl); whole = e ∙ regroup a x u.rest b u.whole }
