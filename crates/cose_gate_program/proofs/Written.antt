-- What a writer was written by several calls whose faults are ignored.
use Rattle.std.proofs.Common.{◌≡◌, ◌≤◌, ℕ, List, ◌++◌, Option, Some, None, ap, ◌∙◌, arith, append_assoc}
use Rattle.std.specs.Io.KnownBytes.{Appends}
use Rattle.ciborium_ll.specs.declared.write.Write.{Ghosts as Writes}
use Rattle.cose_gate_program.specs.Writing.{Wrote}

appends_then : (a b c : Option (List ℕ)) (x y : List ℕ) → Appends a b x → Appends b c y → Appends a c (x ++ y)
appends_then None b c x y p q = tt
appends_then (Some a) None c x y p q = absurd p
appends_then (Some a) (Some b) None x y p q = absurd q
appends_then (Some a) (Some b) (Some c) x y p q = q ∙ (ap (λ (z : List ℕ). z ++ y) p ∙ append_assoc a x y)

same_first : (a b c : ℕ) → a ≤ b → b ≤ c → c ≡ a → b ≡ a
same_first a b c p q e = omega (arith, p, q, e)

same_last : (a b c : ℕ) → a ≤ b → b ≤ c → c ≡ a → c ≡ b
same_last a b c p q e = omega (arith, p, q, e)

no_less : (a b c : ℕ) → a ≤ b → b ≤ c → a ≤ c
no_less a b c p q = omega (arith, p, q)

-- one text after another
pub wrote_then : {W F : Type 0} (w : Writes W F) (old mid new : W) (x y : List ℕ) → Wrote w old mid x → Wrote w mid new y → Wrote w old new (x ++ y)
wrote_then w old mid new x y p q = (
  q.0 ∙ p.0,
  (
    no_less (w.failed old) (w.failed mid) (w.failed new) p.1.0 q.1.0,
    λ steady. appends_then (w.written old) (w.written mid) (w.written new) x y
        (p.1.1 (same_first (w.failed old) (w.failed mid) (w.failed new) p.1.0 q.1.0 steady))
        (q.1.1 (same_last (w.failed old) (w.failed mid) (w.failed new) p.1.0 q.1.0 steady)),
  ),
)
