-- Derived equality of parts is that of what they say, field by field.
use Rattle.std.proofs.Common.{◌≡◌, ℕ, List, Bool, Option, option_map, ap}
use Rattle.std.specs.Prelude.{IsTrue, ◌↔◌, ◌&&◌, nat_eq}
use Rattle.std.specs.Cmp.Lexicographic.{pointwise}
use Rattle.std.specs.Option.{option_eq}
use Rattle.coset_labels.specs.Facts.Equal.{both, bytes_options}
use Rattle.coset_headers.specs.Facts.Decided.{headers_decided, protected_decided}
use Rattle.coset_headers.specs.Fields.{HeaderFields, ProtectedFields}
use Rattle.coset_headers.specs.Same.{same_header, same_protected}
use Rattle.coset_headers.specs.View.{header_view, protected_view}
use Rattle.coset_recipients.specs.PartsView.{parts_view}
use Rattle.coset_recipients.specs.declared.parts.Parts.{Parts}
use Rattle.coset_recipients.specs.contracts.parts.PartsPartialEq.TheImpl as equality

-- the parts, and what is after them
pub parts_and : {A Q : Type 0} (f : A → List ℕ) (p q : ProtectedFields) (u v : HeaderFields) (c d : Option A) (b : Bool) → IsTrue b ↔ Q
    → IsTrue (same_protected p q && (same_header u v && (option_eq (λ x y. pointwise nat_eq (f x) (f y)) c d && b)))
    ↔ ((p ≡ q) × ((u ≡ v) × ((option_map f c ≡ option_map f d) × Q)))
parts_and f p q u v c d b e = both _ _ (protected_decided p q) (both _ _ (headers_decided u v) (both _ _ (bytes_options f c d) e))

pub same_parts : (a b : Parts) → IsTrue (equality.eq-value.it a b) ↔ (parts_view a ≡ parts_view b)
same_parts a b =
    let w = both _ _ (protected_decided (protected_view a.protected) (protected_view b.protected))
    (both _ _ (headers_decided (header_view a.unprotected) (header_view b.unprotected))
    (bytes_options (λ v. v.items) a.content b.content)) in (
      λ h. let p = w.0 h in λ i. record { protected = p.0 i; unprotected = p.1.0 i; content = p.1.1 i },
      λ h. w.1 (ap (λ f. f.protected) h, (ap (λ f. f.unprotected) h, ap (λ f. f.content) h)),
    )
