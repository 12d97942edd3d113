-- A tag before damage that opens no level.
use Rattle.std.proofs.Common.{◌≡◌, ◌⊎◌, inl, inr, ℕ, List, Option, sym, subst, ◌∙◌}
use Rattle.std.specs.Str.{IsUtf8}
use Rattle.std.proofs.lemmas.Bool.{cases_eq}
use Rattle.ciborium_ll.specs.declared.hdr.Header.{Header}
use Rattle.ciborium_ll.specs.declared.hdr.Header.TheVariants.{Simple, Tag, Break, Bytes, Text}
use Rattle.ciborium_ll.specs.Title.{Begins, IsCut, StartsBad}
use Rattle.ciborium_ll.specs.Framing.{Any}
use Rattle.ciborium.specs.Damage.{Fault, Damage, in_title, in_bytes, in_text, unassigned, stray_break, too_negative, too_deep, in_child, in_free, cut_title, bad_title, IsLevel}
use Rattle.ciborium.proofs.Excludes.{string_begins}
use Rattle.ciborium.proofs.StringCases.{PartCase, closes, of_kind, other, bytes_part}

damage_begins : (stop : ℕ) (b : List ℕ) (limit : ℕ) (f : Fault) → Damage stop b limit f → ((h : Header) × (r : List ℕ) × Begins b h r) ⊎ (IsCut b ⊎ StartsBad b)
damage_begins stop b limit _ (in_title _ _ _ (cut_title c)) = inr (inl c)
damage_begins stop b limit _ (in_title _ _ _ (bad_title p c _)) = inr (inr c)
damage_begins stop b limit e (in_bytes _ _ _ d) = let w = string_begins Bytes Any stop b e d in inl (Bytes w.0, w.1, w.2)
damage_begins stop b limit e (in_text _ _ _ d) = let w = string_begins Text IsUtf8 stop b e d in inl (Text w.0, w.1, w.2)
damage_begins stop b limit _ (unassigned _ r _ n s _) = inl (Simple n, r, s)
damage_begins stop b limit _ (stray_break _ r _ s) = inl (Break, r, s)
damage_begins stop b limit _ (too_negative _ inside _ _ _ _ s _ _ _) = inl (Tag 3, inside, s)
damage_begins stop b _ _ (too_deep _ r h s _) = inl (h, r, s)
damage_begins stop b limit e (in_child _ inside _ _ h _ _ s _ _ _ _) = inl (h, inside, s)
damage_begins stop b limit e (in_free _ inside _ n _ s _ _) = inl (Tag n, inside, s)

pub free_is : (stop limit n : ℕ) (b : List ℕ) (f : Fault) → Damage stop b limit f → (IsLevel n b → ⊥)
    → ((n ≡ 2) ⊎ (n ≡ 3)) × (((o : Option ℕ) × (rest : List ℕ) × Begins b (Bytes o) rest) ⊎ (IsCut b ⊎ StartsBad b))
free_is stop limit n b f d free = (by_2 (cases_eq n 2), by_begins (damage_begins stop b limit f d))
  where
    by_3 : (n ≡ 3) ⊎ (n ≡ 3 → ⊥) → (n ≡ 2 → ⊥) → (n ≡ 2) ⊎ (n ≡ 3)
    by_3 (inl e) p = inr e
    by_3 (inr q) p = absurd (free (inl (p, q)))

    by_2 : (n ≡ 2) ⊎ (n ≡ 2 → ⊥) → (n ≡ 2) ⊎ (n ≡ 3)
    by_2 (inl e) = inl e
    by_2 (inr p) = by_3 (cases_eq n 3) p

    by_part : (h : Header) (r : List ℕ) → Begins b h r → PartCase Bytes h → (o : Option ℕ) × (rest : List ℕ) × Begins b (Bytes o) rest
    by_part h r s (closes e) = absurd (free (inr (h, r, s, λ o f. let g : Break ≡ Bytes o = sym e ∙ f in cc)))
    by_part h r s (of_kind o e) = (o, r, subst (λ (z : Header). Begins b z r) e s)
    by_part h r s (other p q) = absurd (free (inr (h, r, s, q)))

    by_begins : ((h : Header) × (r : List ℕ) × Begins b h r) ⊎ (IsCut b ⊎ StartsBad b) → ((o : Option ℕ) × (rest : List ℕ) × Begins b (Bytes o) rest) ⊎ (IsCut b ⊎ StartsBad b)
    by_begins (inl (h, r, s)) = inl (by_part h r s (bytes_part h))
    by_begins (inr w) = inr w
