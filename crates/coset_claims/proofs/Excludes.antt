-- A value with a fault has no claims.
use Rattle.std.proofs.Common.{◌≡◌, ℕ, ℤ, pos, List, Bool, true, false, cond, Option, Some, None, option_map, refl, sym, ap, ◌∙◌}
use Rattle.cose_iana.specs.Registry.{is_private_use}
use Rattle.ciborium_value.specs.Tree.{Tree, integer, bytes, text, array, map as map_tree, tag, simple, float, is_bytes}
use Rattle.coset_labels.specs.Entries.{Distinct}
use Rattle.coset_labels.specs.Facts.Entries.{name_only}
use Rattle.coset_labels.specs.Facts.Wrong.{Splits, splits, again_not, no_named}
use Rattle.coset_labels.specs.Facts.Wrong as wrong
use Rattle.coset_labels.specs.Fields.{Named, assigned}
use Rattle.coset_labels.specs.Faults.{CoseFault}
use Rattle.ciborium_value.specs.Kinds.{is_map, is_text}
use Rattle.coset_claims.specs.Fields.{TimeFields, whole_seconds, ClaimsFields}
use Rattle.coset_claims.specs.Claims.{is_at, name_of, text_of, time_of, bytes_of, entries, at, IsField, IsClaims, HasClaims}
use Rattle.coset_claims.specs.Wrong.{WrongTime, WrongField, wrong_issuer, wrong_subject, wrong_audience, wrong_expiration_time, wrong_not_before, wrong_issued_at, wrong_cwt_id, WrongEntry, bad_name, name_again, bad_field, WrongClaims, no_map, at_entry}

-- ---- values of single fields that have a fault
no_text : (v : Tree) → is_text v ≡ false → text_of v ≡ None
no_text (integer i) e = refl
no_text (bytes b) e = refl
no_text (text b) e = let h : true ≡ false = e in cc
no_text (array ts) e = refl
no_text (map_tree ps) e = refl
no_text (tag n t) e = refl
no_text (simple n) e = refl
no_text (float f) e = refl

no_bytes : (v : Tree) → is_bytes v ≡ false → bytes_of v ≡ None
no_bytes (integer i) e = refl
no_bytes (bytes b) e = let h : true ≡ false = e in cc
no_bytes (text b) e = refl
no_bytes (array ts) e = refl
no_bytes (map_tree ps) e = refl
no_bytes (tag n t) e = refl
no_bytes (simple n) e = refl
no_bytes (float f) e = refl

abbrev whole_if : Bool → ℤ → Option TimeFields
whole_if small i = cond small (Some (whole_seconds i)) None

no_time : (v : Tree) (e : CoseFault) → WrongTime v e → time_of v ≡ None
no_time (integer i) e w = ap (λ b. whole_if b i) w.0
no_time (float f) e w = absurd w
no_time (text b) e w = refl
no_time (bytes b) e w = refl
no_time (array ts) e w = refl
no_time (map_tree ps) e w = refl
no_time (tag n t) e w = refl
no_time (simple n) e w = refl

-- ---- the field at a number whose value has a fault
module _ (es all : List (Named × Tree)) (l v : Tree) (s : Splits name_of l v es all) (d : Distinct all) where
  field_not : {A : Type 0} (f : Tree → Option A) (n : ℕ) (m : Named) (x : Option A) → name_of l ≡ Some m → is_at n m ≡ true → IsField f (at n all) x → f v ≡ None → ⊥
  field_not f n m x q t w z = wrong.field_not name_of es all l v s d (λ t. option_map Some (f t)) None (is_at n) m x q t (name_only n m t) w (ap (option_map Some) z)

  value_not : (m : Named) (e : CoseFault) (c : ClaimsFields) → name_of l ≡ Some m → WrongField v m e → IsClaims all c → ⊥
  value_not m e c q (wrong_issuer w) a = field_not text_of 1 (assigned (pos 1)) c.issuer q refl a.issuer (no_text v w)
  value_not m e c q (wrong_subject w) a = field_not text_of 2 (assigned (pos 2)) c.subject q refl a.subject (no_text v w)
  value_not m e c q (wrong_audience w) a = field_not text_of 3 (assigned (pos 3)) c.audience q refl a.audience (no_text v w)
  value_not m e c q (wrong_expiration_time _ w) a = field_not time_of 4 (assigned (pos 4)) c.expiration_time q refl a.expiration_time (no_time v e w)
  value_not m e c q (wrong_not_before _ w) a = field_not time_of 5 (assigned (pos 5)) c.not_before q refl a.not_before (no_time v e w)
  value_not m e c q (wrong_issued_at _ w) a = field_not time_of 6 (assigned (pos 6)) c.issued_at q refl a.issued_at (no_time v e w)
  value_not m e c q (wrong_cwt_id w) a = field_not bytes_of 7 (assigned (pos 7)) c.cwt_id q refl a.cwt_id (no_bytes v w)

  entry_not : (e : CoseFault) (c : ClaimsFields) → WrongEntry es l v e → IsClaims all c → ⊥
  entry_not e c (bad_name _ w) a = let h : None ≡ Some s.key = sym (no_named _ is_private_use l e w) ∙ s.is in cc
  entry_not e c (name_again m q i) a = again_not name_of es all l v s d m q i
  entry_not e c (bad_field m _ q _ w) a = value_not m e c q w a

pub claims_not : (t : Tree) (e : CoseFault) (c : ClaimsFields) → WrongClaims t e → HasClaims t c → ⊥
claims_not t e c (no_map _ k) (ps, es, q, r, d, a) = let h : is_map t ≡ true = ap is_map q in let x : true ≡ false = sym h ∙ k in cc
claims_not t e c (at_entry qs _ w) (ps, es, q, x, d, a) =
    let maps : map_tree qs ≡ map_tree ps = q in
    let same : qs ≡ ps = cc in
    entry_not w.es es w.key w.value (splits name_of w.before w.after w.key w.value w.es es w.read_before (ap entries (sym w.are ∙ same) ∙ x)) d e c w.wrong a
