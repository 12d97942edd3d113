-- Another title of the same header in the first place has the same faults, the number in Syntax
-- aside.
use Rattle.std.proofs.Common.{◌≡◌, ◌≤◌, ◌-◌, ℕ, inl, inr, List, ◌++◌, length, Option, None, Some, sym, ap, subst, ◌∙◌, arith, append_assoc}
use Rattle.std.specs.Str.{IsUtf8}
use Rattle.ciborium_ll.specs.declared.hdr.Header.{Header}
use Rattle.ciborium_ll.specs.declared.hdr.Header.TheVariants.{Bytes, Text}
use Rattle.ciborium_ll.specs.Title.{Title, Begins}
use Rattle.ciborium_ll.specs.Framing.{Any, Opened, opened, deeper}
use Rattle.ciborium_ll.proofs.Closings.{split_heads}
use Rattle.ciborium.specs.Damage.{Fault, end, deep, syntax, semantic, Damage, in_title, in_bytes, in_text, unassigned, stray_break, too_negative, too_deep, in_child, in_free, cut_body, bad_body, StringDamage}
use Rattle.ciborium.proofs.Exact.{title_not}
use Rattle.ciborium.specs.Damaged.{Damaged}

pub damaged_by : (stop : ℕ) (b : List ℕ) (limit : ℕ) (f : Fault) → Damage stop b limit f → Damaged stop b limit f
damaged_by stop b limit end d = d
damaged_by stop b limit deep d = d
damaged_by stop b limit (syntax p) d = (p, d)
damaged_by stop b limit (semantic k) d = d

pub damaged_as : (stop : ℕ) (b c : List ℕ) (limit limit' : ℕ) (f : Fault) → ((g : Fault) → Damage stop b limit g → Damage stop c limit' g) → Damaged stop b limit f → Damaged stop c limit' f
damaged_as stop b c limit limit' end step d = step end d
damaged_as stop b c limit limit' deep step d = step deep d
damaged_as stop b c limit limit' (syntax p) step d = (d.0, step (syntax d.0) d.1)
damaged_as stop b c limit limit' (semantic k) step d = step (semantic k) d

module _ (h : Header) (a b rest : List ℕ) (p : Title a h) (q : Title b h) (stop : ℕ) (fits : length (b ++ rest) ≤ stop) where
  other_begins : (x inside : List ℕ) (k : Header) → x ≡ a ++ rest → Begins x k inside → Begins (b ++ rest) k inside
  other_begins x inside k e s =
      let w = split_heads a s.title rest inside h k p s.is_title (sym e ∙ s.whole) in
      record { title = b; is_title = subst (λ (z : Header). Title b z) w.heads q; whole = ap (λ z. b ++ z) w.rests }

  opened_too : (k : Option ℕ → Header) (P : List ℕ → Type 0) (n : ℕ) (c r : List ℕ) (xs : List (List ℕ)) → Opened k P n c xs → a ++ rest ≡ c ++ r → (d : List ℕ) × Opened k P n d xs × (b ++ rest ≡ d ++ r)
  opened_too k P _ _ r _ (opened title inner xs t fs) e =
      let w = split_heads a title rest (inner ++ r) h (k None) p t (e ∙ append_assoc title inner r) in
      (b ++ inner, opened b inner xs (subst (λ (z : Header). Title b z) w.heads q) fs, ap (λ z. b ++ z) w.rests ∙ sym (append_assoc b inner r))
  opened_too k P _ _ r _ (deeper n c title inner xs ys o t fs) e =
      let w = opened_too k P n c ((title ++ inner) ++ r) xs o (e ∙ append_assoc c (title ++ inner) r) in
      (w.0 ++ (title ++ inner), deeper n w.0 title inner xs ys w.1 t fs, w.2 ∙ sym (append_assoc w.0 (title ++ inner) r))

  string_too : (k : Option ℕ → Header) (P : List ℕ → Type 0) (limit : ℕ) → ((f : Fault) → StringDamage k P stop (b ++ rest) f → Damage stop (b ++ rest) limit f)
      → (x : List ℕ) (f : Fault) → x ≡ a ++ rest → StringDamage k P stop x f → Damaged stop (b ++ rest) limit f
  string_too k P limit make x _ e (inl (cut_body n r s l)) = make end (inl (cut_body n r (other_begins x r (k (Some n)) e s) l))
  string_too k P limit make x _ e (inl (bad_body n _ r s never _)) =
      let p = stop - length (b ++ rest) in
      (p, make (syntax p) (inl (bad_body n p r (other_begins x r (k (Some n)) e s) never (omega (arith, fits)))))
  string_too k P limit make x f e (inr (r, i, d)) =
      let w = opened_too k P i.opens i.read r i.bodies i.is (sym e ∙ i.whole) in
      damaged_by stop (b ++ rest) limit f (make f (inr (r, record { opens = i.opens; read = w.0; bodies = i.bodies; is = w.1; whole = w.2 }, d)))

  pub damage_too : (x : List ℕ) (limit : ℕ) (f : Fault) → x ≡ a ++ rest → Damage stop x limit f → Damaged stop (b ++ rest) limit f
  damage_too x limit f e (in_title _ _ _ d) = absurd (title_not stop x rest h f (record { title = a; is_title = p; whole = e }) d)
  damage_too x limit f e (in_bytes _ _ _ d) = string_too Bytes Any limit (λ g s. in_bytes (b ++ rest) limit g s) x f e d
  damage_too x limit f e (in_text _ _ _ d) = string_too Text IsUtf8 limit (λ g s. in_text (b ++ rest) limit g s) x f e d
  damage_too x limit _ e (unassigned _ r _ n s m) = unassigned (b ++ rest) r limit n (other_begins x r _ e s) m
  damage_too x limit _ e (stray_break _ r _ s) = stray_break (b ++ rest) r limit (other_begins x r _ e s)
  damage_too x limit _ e (too_negative _ inside inner r _ bodies s g w m) = too_negative (b ++ rest) inside inner r limit bodies (other_begins x inside _ e s) g w m
  damage_too x _ _ e (too_deep _ r k s l) = too_deep (b ++ rest) r k (other_begins x r k e s) l
  damage_too x limit f e (in_child _ inside at _ k done _ s l fs due d) = damaged_by stop (b ++ rest) limit f (in_child (b ++ rest) inside at limit k done f (other_begins x inside k e s) l fs due d)
  damage_too x limit f e (in_free _ inside _ n _ s fr d) = damaged_by stop (b ++ rest) limit f (in_free (b ++ rest) inside limit n f (other_begins x inside _ e s) fr d)
