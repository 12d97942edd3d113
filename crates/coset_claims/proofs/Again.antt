-- The claims as fields with numbers: a value has one set of claims at most, one more entry gives one
-- field, and claims that were read, written and read again are the first.
use Rattle.std.proofs.Common.{◌≡◌, ℕ, ℤ, pos, List, [], ◌∷◌, ◌++◌, map, Bool, true, false, ◌||◌, cond, MatchBool, nat_eq, Option, Some, None, option_map, refl, sym, ap, subst, ◌∙◌}
use Rattle.cose_iana.specs.Claims.{cwt_claim_names}
use Rattle.cose_iana.specs.Registry.{is_private_use}
use Rattle.ciborium_value.specs.Tree.{Tree, integer, bytes, text, map as map_tree, float}
use Rattle.ciborium_value.specs.View.{pairs}
use Rattle.coset_labels.specs.Entries.{is_name, IsIn, IsField}
use Rattle.coset_labels.specs.Facts.Back.{named_back}
use Rattle.coset_labels.specs.Facts.Entries.{is_name_is, at_old, others_own, others_more, field_once, kept}
use Rattle.coset_labels.specs.Fields.{Named, assigned}
use Rattle.coset_labels.specs.Labels.{is_i64, named_tree}
use Rattle.coset_claims.specs.Fields.{TimeFields, whole_seconds, fractional_seconds, ClaimsFields, no_claims}
use Rattle.coset_claims.specs.Claims.{is_core, name_of, text_of, time_of, bytes_of, entries, at, others, IsClaims, HasClaims}
use Rattle.coset_claims.specs.Steps.{Fills, fills_field, fills_rest}
use Rattle.coset_labels.specs.Table.{entry_of, entries_of}
use Rattle.coset_claims.specs.Written.{time_tree, field_entry, written_entries, entry_tree, claims_tree}
use Rattle.coset_labels.proofs.Table.{counts, optional_back, entered, not_own, again}

-- ---- what is read of a value is written as that value
text_back : (t : Tree) (b : List ℕ) → text_of t ≡ Some b → text b ≡ t
text_back (text c) b e = let h : Some c ≡ Some b = e in let k : c ≡ b = cc in ap text (sym k)
text_back t b e = let h : None ≡ Some b = e in cc

bytes_back : (t : Tree) (b : List ℕ) → bytes_of t ≡ Some b → bytes b ≡ t
bytes_back (bytes c) b e = let h : Some c ≡ Some b = e in let k : c ≡ b = cc in ap bytes (sym k)
bytes_back t b e = let h : None ≡ Some b = e in cc

whole_back : (small : Bool) (i : ℤ) (s : TimeFields) → cond small (Some (whole_seconds i)) None ≡ Some s → time_tree s ≡ integer i
whole_back true i s e = let h : Some (whole_seconds i) ≡ Some s = e in let k : whole_seconds i ≡ s = cc in ap time_tree (sym k)
whole_back false i s e = let h : None ≡ Some s = e in cc

time_back : (t : Tree) (s : TimeFields) → time_of t ≡ Some s → time_tree s ≡ t
time_back (integer i) s e = whole_back (is_i64 i) i s e
time_back (float f) s e = let h : Some (fractional_seconds f) ≡ Some s = e in let k : fractional_seconds f ≡ s = cc in ap time_tree (sym k)
time_back t s e = let h : None ≡ Some s = e in cc

abbrev key : ℕ → Named
key n = assigned (pos n)

-- the fields with their numbers, each with what it is written as, if it is set
abbrev fields_of : ClaimsFields → List (ℕ × Option Tree)
fields_of c = (1, option_map text c.issuer) ∷ (2, option_map text c.subject) ∷ (3, option_map text c.audience) ∷ (4, option_map time_tree c.expiration_time) ∷ (5, option_map time_tree c.not_before) ∷ (6, option_map time_tree c.issued_at) ∷ (7, option_map bytes c.cwt_id) ∷ []

or_false : (b : Bool) → (b || false) ≡ b
or_false true = refl
or_false false = refl

core_counts : (c : ClaimsFields) (n : ℕ) → counts (fields_of c) n ≡ true → is_core (key n) ≡ true
core_counts c n h = sym (ap (λ z. nat_eq 1 n || (nat_eq 2 n || (nat_eq 3 n || (nat_eq 4 n || (nat_eq 5 n || (nat_eq 6 n || z)))))) (or_false (nat_eq 7 n))) ∙ h

-- ---- at most one
claims_same : (p q : ClaimsFields) → p.issuer ≡ q.issuer → p.subject ≡ q.subject → p.audience ≡ q.audience → p.expiration_time ≡ q.expiration_time → p.not_before ≡ q.not_before → p.issued_at ≡ q.issued_at
    → p.cwt_id ≡ q.cwt_id → p.rest ≡ q.rest → p ≡ q
claims_same p q a b c d e f g h = λ i. record { issuer = a i; subject = b i; audience = c i; expiration_time = d i; not_before = e i; issued_at = f i; cwt_id = g i; rest = h i }

fields_once : (es : List (Named × Tree)) (p q : ClaimsFields) → IsClaims es p → IsClaims es q → p ≡ q
fields_once es p q a b = claims_same p q
    (field_once _ _ _ _ _ a.issuer b.issuer)
    (field_once _ _ _ _ _ a.subject b.subject)
    (field_once _ _ _ _ _ a.audience b.audience)
    (field_once _ _ _ _ _ a.expiration_time b.expiration_time)
    (field_once _ _ _ _ _ a.not_before b.not_before)
    (field_once _ _ _ _ _ a.issued_at b.issued_at)
    (field_once _ _ _ _ _ a.cwt_id b.cwt_id)
    (a.rest ∙ sym b.rest)

pub claims_once : (t : Tree) (c d : ClaimsFields) → HasClaims t c → HasClaims t d → c ≡ d
claims_once t c d a b =
    let maps : map_tree a.0 ≡ map_tree b.0 = sym a.2 ∙ b.2 in
    let pairs : a.0 ≡ b.0 = cc in
    let some : Some a.1 ≡ Some b.1 = sym a.3 ∙ ap entries pairs ∙ b.3 in
    let same : b.1 ≡ a.1 = cc in
    fields_once a.1 c d a.5 (subst (λ z. IsClaims z d) same b.5)

-- ---- one more entry
pub filled : (es : List (Named × Tree)) (p q : ClaimsFields) (m : Named) (v : Tree) → IsClaims es p → (IsIn m es → ⊥) → Fills m v p q → IsClaims (es ++ (m, v) ∷ []) q
filled es p q m v w d (fills_field n e c s) =
    let fresh : IsIn (key n) es → ⊥ = subst (λ z. IsIn z es → ⊥) e d in
    subst (λ z. IsClaims (es ++ (z, v) ∷ []) q) (sym e) (record {
      issuer = one _ 1 n es v _ _ fresh w.issuer s.issuer;
      subject = one _ 2 n es v _ _ fresh w.subject s.subject;
      audience = one _ 3 n es v _ _ fresh w.audience s.audience;
      expiration_time = one _ 4 n es v _ _ fresh w.expiration_time s.expiration_time;
      not_before = one _ 5 n es v _ _ fresh w.not_before s.not_before;
      issued_at = one _ 6 n es v _ _ fresh w.issued_at s.issued_at;
      cwt_id = one _ 7 n es v _ _ fresh w.cwt_id s.cwt_id;
      rest = sym s.rest ∙ w.rest ∙ sym (others_own is_core es (key n) v c);
    })
  where
    one : {A : Type 0} (f : Tree → Option (Option A)) (k n : ℕ) (es : List (Named × Tree)) (v : Tree) (old new : Option A) → (IsIn (key n) es → ⊥) → IsField f None (at k es) old
        → MatchBool (nat_eq k n) (f v ≡ Some new) (old ≡ new) → IsField f None (at k (es ++ (key n, v) ∷ [])) new
    one f = entered is_name key (λ n m. refl) is_name_is (IsField f None)
filled es p q m v w d (fills_rest c g) =
    subst (IsClaims (es ++ (m, v) ∷ [])) (sym g) (record {
      issuer = kept _ _ _ _ _ (old 1 refl) w.issuer;
      subject = kept _ _ _ _ _ (old 2 refl) w.subject;
      audience = kept _ _ _ _ _ (old 3 refl) w.audience;
      expiration_time = kept _ _ _ _ _ (old 4 refl) w.expiration_time;
      not_before = kept _ _ _ _ _ (old 5 refl) w.not_before;
      issued_at = kept _ _ _ _ _ (old 6 refl) w.issued_at;
      cwt_id = kept _ _ _ _ _ (old 7 refl) w.cwt_id;
      rest = ap (λ z. z ++ (m, v) ∷ []) w.rest ∙ sym (others_more is_core es m v c);
    })
  where
    old : (n : ℕ) → is_core (key n) ≡ true → at n (es ++ (m, v) ∷ []) ≡ at n es
    old n a = at_old (is_name n) es m v (not_own is_name key (λ n m. refl) is_name_is is_core n m a c)

pub none_set : IsClaims [] no_claims
none_set = record { issuer = refl; subject = refl; audience = refl; expiration_time = refl; not_before = refl; issued_at = refl; cwt_id = refl; rest = refl }

-- ---- written and read again
added : {A : Type 0} (g : A → Tree) (n : ℕ) (x : Option A) (ws es : List (Named × Tree)) → ws ≡ es → entry_of key n (option_map g x) ++ ws ≡ field_entry g n x ++ es
added g n None ws es h = h
added g n (Some a) ws es h = ap (λ z. (key n, g a) ∷ z) h

written_is : (c : ClaimsFields) (es : List (Named × Tree)) → es ≡ c.rest → entries_of key (fields_of c) es ≡ written_entries c
written_is c es h =
    added text 1 c.issuer _ _ (added text 2 c.subject _ _ (added text 3 c.audience _ _ (added time_tree 4 c.expiration_time _ _
    (added time_tree 5 c.not_before _ _ (added time_tree 6 c.issued_at _ _ (added bytes 7 c.cwt_id _ _ h))))))

pub claims_again : (t : Tree) (c : ClaimsFields) → HasClaims t c → HasClaims (claims_tree c) c
claims_again t c (ps, es, q, r, d, w) =
    let ws = entries_of key (fields_of c) (others es) in
    let g = again is_name key (λ n m. refl) is_name_is is_core name_of named_tree (named_back cwt_claim_names.is_registered is_private_use) (fields_of c)
    (refl, (refl, (refl, (refl, (refl, (refl, (refl, tt))))))) (refl, (refl, (refl, (refl, (refl, (refl, (refl, tt))))))) (core_counts c) ps es r d in
    let whole : claims_tree c ≡ map_tree (pairs (map entry_tree ws)) = ap (λ z. map_tree (pairs (map entry_tree z))) (sym (written_is c (others es) (sym w.rest))) in (
      pairs (map entry_tree ws),
      ws,
      whole,
      g.entries_are,
      g.distinct,
      record {
        issuer = kept _ _ _ _ _ (g.has 1 refl) (optional_back text_of text text_back _ _ w.issuer);
        subject = kept _ _ _ _ _ (g.has 2 refl) (optional_back text_of text text_back _ _ w.subject);
        audience = kept _ _ _ _ _ (g.has 3 refl) (optional_back text_of text text_back _ _ w.audience);
        expiration_time = kept _ _ _ _ _ (g.has 4 refl) (optional_back time_of time_tree time_back _ _ w.expiration_time);
        not_before = kept _ _ _ _ _ (g.has 5 refl) (optional_back time_of time_tree time_back _ _ w.not_before);
        issued_at = kept _ _ _ _ _ (g.has 6 refl) (optional_back time_of time_tree time_back _ _ w.issued_at);
        cwt_id = kept _ _ _ _ _ (g.has 7 refl) (optional_back bytes_of bytes bytes_back _ _ w.cwt_id);
        rest = w.rest ∙ sym g.others_are;
      },
    )
