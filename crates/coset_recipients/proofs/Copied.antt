-- What copying recipients shows.
use Rattle.std.proofs.Common.{◌≡◌, ℕ, ◌+◌, ◌-◌, ◌<◌, List, [], ◌∷◌, ◌++◌, length, get_or, set, take, map, option_map, refl, sym, ap, ◌∙◌, arith, append_assoc, length-append, vec_len, Vec, Global}
use Rattle.std.proofs.lemmas.List.{map-append, take_more}
use Rattle.std.proofs.Math.Seq.{set-append_seam, get_or-append_seam}
use Rattle.std.specs.Vec.{with_item}
use Rattle.coset_headers.specs.View.{header_view, protected_view}
use Rattle.coset_recipients.specs.Copies.{without_recipients}
use Rattle.coset_recipients.specs.Fields.{RecipientFields, no_recipients, recipient_more}
use Rattle.coset_recipients.specs.View.{recipient_view, recipients_view, opened}
use Rattle.coset_recipients.specs.declared.recipient.CoseRecipient.{CoseRecipient, out-CoseRecipient, roll-CoseRecipient}
use Rattle.coset_recipients.proofs.RecipientParts.{recipient_out, recipient_copied}

-- ---- a recipient
recipients_none : (xs : List CoseRecipient) → recipients_view xs ≡ no_recipients → map recipient_view xs ≡ []
recipients_none [] e = refl
recipients_none (x ∷ xs) e = let f : recipient_more (recipient_view x) (recipients_view xs) ≡ no_recipients = e in cc

-- a copy without the recipients, and then copies of those
pub copied_inside : (k r : CoseRecipient) (xs : List CoseRecipient) (rs : Vec CoseRecipient Global) → recipient_view k ≡ without_recipients (recipient_view r) → xs ≡ (out-CoseRecipient r).recipients.items
    → map recipient_view rs.items ≡ map recipient_view (out-CoseRecipient k).recipients.items ++ map recipient_view xs
    → recipient_view (roll-CoseRecipient (record (out-CoseRecipient k) { recipients = rs })) ≡ recipient_view r
copied_inside k r xs rs e a q =
    let h : opened k ≡ without_recipients (opened r) = sym (recipient_out k) ∙ e ∙ ap without_recipients (recipient_out r) in
    let p : protected_view (out-CoseRecipient k).protected ≡ protected_view (out-CoseRecipient r).protected = cc in
    let u : header_view (out-CoseRecipient k).unprotected ≡ header_view (out-CoseRecipient r).unprotected = cc in
    let c : option_map (λ v. v.items) (out-CoseRecipient k).ciphertext ≡ option_map (λ v. v.items) (out-CoseRecipient r).ciphertext = cc in
    let i : recipients_view (out-CoseRecipient k).recipients.items ≡ no_recipients = cc in
    recipient_copied (record (out-CoseRecipient k) { recipients = rs }) r p u c
    (q ∙ ap (λ z. z ++ map recipient_view xs) (recipients_none _ i) ∙ ap (map recipient_view) a)

-- ---- a list
last_at : (v : Vec CoseRecipient Global) (xs : List CoseRecipient) (x : CoseRecipient) → v.items ≡ xs ++ x ∷ [] → vec_len v - 1 ≡ length xs
last_at v xs x e =
    let h : length v.items ≡ length (xs ++ x ∷ []) = ap length e in
    let g = length-append xs (x ∷ []) in
    omega (arith, h, g, v.ok.0)

-- the last is the one that was appended
pub last_is : (v : Vec CoseRecipient Global) (xs : List CoseRecipient) (x y : CoseRecipient) → v.items ≡ xs ++ x ∷ [] → y ≡ get_or v.items (vec_len v - 1) y → y ≡ x
last_is v xs x y e h = h ∙ ap (λ z. get_or z (vec_len v - 1) y) e ∙ ap (λ i. get_or (xs ++ x ∷ []) i y) (last_at v xs x e) ∙ get_or-append_seam xs x [] y

pub copied_more : (all xs : List CoseRecipient) (fs : List RecipientFields) (v : Vec CoseRecipient Global) (x y r : CoseRecipient) (i : ℕ) → i < length all → r ≡ get_or all i r → v.items ≡ xs ++ x ∷ []
    → recipient_view y ≡ recipient_view r → map recipient_view xs ≡ fs ++ map recipient_view (take i all)
    → map recipient_view (with_item v (vec_len v - 1) y).items ≡ fs ++ map recipient_view (take (i + 1) all)
copied_more all xs fs v x y r i l h e s q =
    let a : (with_item v (vec_len v - 1) y).items ≡ xs ++ y ∷ [] = (λ j. set (e j) (last_at v xs x e j) y) ∙ set-append_seam xs x [] y in
    let b : take (i + 1) all ≡ take i all ++ r ∷ [] = take_more all i r l ∙ ap (λ z. take i all ++ z ∷ []) (sym h) in
    ap (map recipient_view) a ∙ map-append recipient_view xs (y ∷ []) ∙ (λ j. q j ++ s j ∷ []) ∙ append_assoc fs (map recipient_view (take i all)) (recipient_view r ∷ [])
    ∙ ap (λ z. fs ++ z) (sym (map-append recipient_view (take i all) (r ∷ []))) ∙ ap (λ z. fs ++ map recipient_view z) (sym b)

-- no vector is empty after something was appended to it
pub not_empty : (v : Vec CoseRecipient Global) (xs : List CoseRecipient) (x : CoseRecipient) → v.items ≡ xs ++ x ∷ [] → 0 < vec_len v
not_empty v xs x e =
    let h : length v.items ≡ length (xs ++ x ∷ []) = ap length e in
    let g = length-append xs (x ∷ []) in
    omega (arith, h, g, v.ok.0)
