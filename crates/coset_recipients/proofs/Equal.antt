-- Derived equality of recipients is that of what they say, with all recipients in them.
use Rattle.std.proofs.Common.{◌≡◌, List, [], ◌∷◌, map, Bool, true, false, option_map, refl, sym, subst, ◌∙◌}
use Rattle.std.specs.Prelude.{IsTrue, ◌↔◌, ◌&&◌, nat_eq}
use Rattle.std.specs.Cmp.Lexicographic.{pointwise}
use Rattle.std.specs.Option.{option_eq}
use Rattle.coset_labels.specs.Facts.Equal.{both}
use Rattle.coset_headers.specs.Same.{same_header, same_protected}
use Rattle.coset_headers.specs.View.{header_view, protected_view}
use Rattle.coset_recipients.proofs.PartsEqual.{parts_and}
use Rattle.coset_recipients.specs.Fields.{recipient, no_recipients, recipient_more}
use Rattle.coset_recipients.specs.View.{recipient_view, recipients_view, fields_of}
use Rattle.coset_recipients.specs.declared.recipient.CoseRecipient.{CoseRecipient, out-CoseRecipient, roll-CoseRecipient}
use Rattle.coset_recipients.specs.declared.recipient.CoseRecipient.TheBlock as block
use Rattle.coset_recipients.specs.declared.recipient.CoseRecipient.TheFolds.{map-CoseRecipient, ind-CoseRecipient}
use Rattle.coset_recipients.specs.declared.recipient.CoseRecipient.TheOpen.{CoseRecipient-F}
use Rattle.coset_recipients.specs.declared.recipient.CoseRecipient.TheViews.{out-roll-CoseRecipient}
use Rattle.coset_recipients.specs.contracts.recipient.CoseRecipientPartialEq.TheImpl as equality
use Rattle.coset_recipients.specs.contracts.recipient.CoseRecipientPartialEq.TheImpl.Laws as laws
use Rattle.coset_recipients.proofs.RecipientParts.{recipient_roll, recipient_out}
use denote.Hole.Compared.{compared_is}
use denote.Hole.Carrier as carrier

abbrev derived : CoseRecipient → CoseRecipient → Bool
derived = equality.eq-value.it

-- what the derive compares of one recipient
abbrev layer : CoseRecipient-F CoseRecipient → CoseRecipient-F CoseRecipient → Bool
layer x y = same_protected (protected_view x.protected) (protected_view y.protected)
    && (same_header (header_view x.unprotected) (header_view y.unprotected)
    && (option_eq (λ v w. pointwise nat_eq v.items w.items) x.ciphertext y.ciphertext
    && pointwise derived x.recipients.items y.recipients.items))

unrolled : (a b : CoseRecipient) → derived a b ≡ layer (out-CoseRecipient a) (out-CoseRecipient b)
unrolled a b = compared_is block.the_members (carrier.Values block.the_members block.the_sigs block.the_carrier) block.the_depth Bool true equality.the_step laws.local block.member-CoseRecipient a b

abbrev Same : CoseRecipient → Type 0
Same a = (b : CoseRecipient) → IsTrue (derived a b) ↔ (recipient_view a ≡ recipient_view b)

-- a recipient of which `Same` is shown
abbrev Such : Type 0
Such = (a : CoseRecipient) × Same a

abbrev bare : CoseRecipient-F Such → CoseRecipient-F CoseRecipient
bare = map-CoseRecipient Such CoseRecipient (λ e. e.0)

items : (xs : List Such) (ys : List CoseRecipient)
    → IsTrue (pointwise derived (map (λ e. e.0) xs) ys) ↔ (recipients_view (map (λ e. e.0) xs) ≡ recipients_view ys)
items [] [] = (λ h. refl, λ h. refl)
items [] (y ∷ ys) =
    (λ h. let k : false ≡ true = h in cc, λ h. let k : no_recipients ≡ recipient_more (recipient_view y) (recipients_view ys) = h in cc)
items (x ∷ xs) [] =
    (λ h. let k : false ≡ true = h in cc, λ h. let k : recipient_more (recipient_view x.0) (recipients_view (map (λ e. e.0) xs)) ≡ no_recipients = h in cc)
items (x ∷ xs) (y ∷ ys) =
    let w = both (derived x.0 y) (pointwise derived (map (λ e. e.0) xs) ys) (x.1 y) (items xs ys) in (
      λ h. let p = w.0 h in λ i. recipient_more (p.0 i) (p.1 i),
      λ h.
          let k : recipient_more (recipient_view x.0) (recipients_view (map (λ e. e.0) xs)) ≡ recipient_more (recipient_view y) (recipients_view ys) = h in
          let s : recipient_view x.0 ≡ recipient_view y = cc in
          let t : recipients_view (map (λ e. e.0) xs) ≡ recipients_view ys = cc in
          w.1 (s, t),
    )

at_layer : (x : CoseRecipient-F Such) (y : CoseRecipient-F CoseRecipient) → IsTrue (layer (bare x) y) ↔ (fields_of (bare x) ≡ fields_of y)
at_layer x y =
    let w = parts_and (λ v. v.items) (protected_view x.protected) (protected_view y.protected) (header_view x.unprotected) (header_view y.unprotected) x.ciphertext y.ciphertext _
    (items x.recipients.items y.recipients.items) in (
      λ h. let p = w.0 h in λ i. recipient (p.0 i) (p.1.0 i) (p.1.1.0 i) (p.1.1.1 i),
      λ h.
          let k : fields_of (bare x) ≡ fields_of y = h in
          let p : protected_view x.protected ≡ protected_view y.protected = cc in
          let u : header_view x.unprotected ≡ header_view y.unprotected = cc in
          let c : option_map (λ v. v.items) (bare x).ciphertext ≡ option_map (λ v. v.items) y.ciphertext = cc in
          let rs : recipients_view (bare x).recipients.items ≡ recipients_view y.recipients.items = cc in
          w.1 (p, (u, (c, rs))),
    )

at_bare : (x : CoseRecipient-F Such) → Same (roll-CoseRecipient (bare x))
at_bare x b =
    let e : derived (roll-CoseRecipient (bare x)) b ≡ layer (bare x) (out-CoseRecipient b) =
    unrolled (roll-CoseRecipient (bare x)) b ∙ (λ i. layer (out-roll-CoseRecipient (bare x) i) (out-CoseRecipient b)) in
    let w = at_layer x (out-CoseRecipient b) in
    (λ h. recipient_roll (bare x) ∙ w.0 (sym e ∙ h) ∙ sym (recipient_out b), λ h. e ∙ w.1 (sym (recipient_roll (bare x)) ∙ h ∙ recipient_out b))

pub equal : (a b : CoseRecipient) → IsTrue (equality.eq-value.it a b) ↔ (recipient_view a ≡ recipient_view b)
equal = ind-CoseRecipient Same (λ x y is. subst (λ z. Same (roll-CoseRecipient z)) is (at_bare y))

pub all_equal : (xs ys : List CoseRecipient) → IsTrue (pointwise equality.eq-value.it xs ys) ↔ (recipients_view xs ≡ recipients_view ys)
all_equal [] [] = (λ h. refl, λ h. refl)
all_equal [] (y ∷ ys) =
    (λ h. let k : false ≡ true = h in cc, λ h. let k : no_recipients ≡ recipient_more (recipient_view y) (recipients_view ys) = h in cc)
all_equal (x ∷ xs) [] =
    (λ h. let k : false ≡ true = h in cc, λ h. let k : recipient_more (recipient_view x) (recipients_view xs) ≡ no_recipients = h in cc)
all_equal (x ∷ xs) (y ∷ ys) =
    let w = both (derived x y) (pointwise derived xs ys) (equal x y) (all_equal xs ys) in (
      λ h. let p = w.0 h in λ i. recipient_more (p.0 i) (p.1 i),
      λ h.
          let k : recipient_more (recipient_view x) (recipients_view xs) ≡ recipient_more (recipient_view y) (recipients_view ys) = h in
          let s : recipient_view x ≡ recipient_view y = cc in
          let t : recipients_view xs ≡ recipients_view ys = cc in
          w.1 (s, t),
    )
