-- What is known of the payload of covered bytes.
use Rattle.std.proofs.Common.{◌≡◌, ◌≢◌, ◌⊎◌, inl, inr, ℕ, suc, ◌-◌, List, [], ◌∷◌, length, Option, None, Some, MatchOption, option_map, refl, sym, ap, subst, ◌∙◌, true, false, arith}
use Rattle.std.specs.Prelude.{slice_get, Result, Ok, Err}
use Rattle.std.proofs.lemmas.Bool.{true≢false}
use Rattle.ciborium.specs.Front.{Reads}
use Rattle.ciborium.specs.Items.{nesting}
use Rattle.ciborium_value.specs.Kinds.{is_array}
use Rattle.ciborium_value.specs.Tree.{Tree, integer, bytes, text, array, map as map_tree, tag, simple, float}
use Rattle.ciborium_value.specs.View.{view, views}
use Rattle.ciborium_value.specs.declared.value.Value.{Value}
use Rattle.coset_labels.specs.Faults.{fault_of}
use Rattle.coset_labels.specs.declared.error.CoseError.{CoseError}
use Rattle.coset_labels.specs.declared.error.CoseError.TheVariants.{Memory}
use Rattle.coset_labels.specs.Reading.{WrongItem, NeverWrong, unreadable, inside}
use Rattle.coset_headers.proofs.Excludes.{unreadable_not}
use Rattle.coset_headers.proofs.Unique.{readable_once}
use Rattle.cose_rules.specs.Claims.{ClaimEntries, TermsFields, claims_refusal}
use Rattle.cose_rules.specs.ClaimsSet.{claims_of}
use Rattle.cose_rules.specs.Keys.{bytes_of}
use Rattle.cose_rules.specs.declared.claims.ClaimRefusal.{ClaimRefusal}
use Rattle.cose_rules.specs.declared.claims_set.NoClaims.{NoClaims as NoSet}
use Rattle.cose_ruled.specs.Tokens.{last_bytes, payload_in, Covers, by_claims, IsTokenRuling}
use Rattle.cose_ruled.specs.declared.token.TokenRefusal.{TokenRefusal}
use Rattle.cose_ruled.specs.declared.token.TokenRefusal.TheVariants.{NoItem, NoClaims, Claim}

-- bytes that are no item
pub no_item : (b : List ℕ) (e : CoseError) → e ≢ Memory → (e ≡ Memory) ⊎ WrongItem NeverWrong b (fault_of e) → (t : Tree) → Reads b nesting t → ⊥
no_item b e not (inl m) t r = not m
no_item b e not (inr (unreadable w)) t r = unreadable_not 256 b (fault_of e) t w r
no_item b e not (inr (inside v x w)) t r = absurd w

-- nothing is the payload: of bytes that are no structure, of one without a payload, of one whose
-- payload is no item
pub no_structure : (covered : List ℕ) → ((t : Tree) → Reads covered nesting t → ⊥) → (item : Tree) → Covers covered item → ⊥
no_structure covered nothing item c = nothing c.structure c.reads

module _ (covered : List ℕ) (s : Tree) (reads : Reads covered nesting s) where
  its_payload : (item : Tree) (c : Covers covered item) → payload_in s ≡ Some c.payload
  its_payload item c = ap payload_in (readable_once 256 covered s c.structure reads c.reads) ∙ c.is_last

  pub no_payload : payload_in s ≡ None → (item : Tree) → Covers covered item → ⊥
  no_payload none item c = let differ : None ≡ Some c.payload = sym none ∙ its_payload item c in cc

  pub no_item_in : (payload : List ℕ) → payload_in s ≡ Some payload → ((t : Tree) → Reads payload nesting t → ⊥) → (item : Tree) → Covers covered item → ⊥
  no_item_in payload is nothing item c =
      let e : Some c.payload ≡ Some payload = sym (its_payload item c) ∙ is in
      let same : c.payload ≡ payload = cc in
      nothing item (subst (λ (z : List ℕ). Reads z nesting item) same c.is_item)

  -- what the payload is read to
  pub covers_by : (payload : List ℕ) → payload_in s ≡ Some payload → (item : Option Value)
      → MatchOption item ((t : Tree) → Reads payload nesting t → ⊥) (λ v. Reads payload nesting (view v))
      → MatchOption item ((t : Tree) → Covers covered t → ⊥) (λ v. Covers covered (view v))
  covers_by payload is None nothing = no_item_in payload is nothing
  covers_by payload is (Some v) r = record { structure = s; reads = reads; payload = payload; is_last = is; is_item = r }

-- the bytes of the last value
abbrev pub of_last : Option Value → Option (List ℕ)
of_last None = None
of_last (Some v) = bytes_of (view v)

pub bytes_of_last : (vs : List Value) → last_bytes (views vs) ≡ of_last (slice_get vs (length vs - 1))
bytes_of_last [] = refl
bytes_of_last (v ∷ []) = refl
bytes_of_last (v ∷ w ∷ ws) =
    let e : length (v ∷ w ∷ ws) - 1 ≡ suc (length (w ∷ ws) - 1) = omega arith in
    bytes_of_last (w ∷ ws) ∙ sym (ap (λ (i : ℕ). of_last (slice_get (v ∷ w ∷ ws) i)) e)

-- the payload of a list of elements, and of what is none
pub payload_by : (t : Tree) (vs ws : List Value) (found : Option (List ℕ)) → t ≡ array (views vs) → ws ≡ vs → found ≡ last_bytes (views ws) → found ≡ payload_in t
payload_by t vs ws found is same e = e ∙ ap (λ (z : List Value). last_bytes (views z)) same ∙ sym (ap payload_in is)

pub payload_not : (t : Tree) → is_array t ≡ false → None ≡ payload_in t
payload_not (integer i) e = refl
payload_not (bytes x) e = refl
payload_not (text x) e = refl
payload_not (array ts) e = absurd (true≢false e)
payload_not (map_tree ps) e = refl
payload_not (tag n t) e = refl
payload_not (simple n) e = refl
payload_not (float x) e = refl

-- what is said of a claims set
pub by_set : (terms : TermsFields) (set : Result ClaimEntries NoSet) (es es' : ClaimEntries) (found : Option ClaimRefusal) → set ≡ Ok es → es' ≡ es
    → found ≡ claims_refusal terms es' → option_map (λ r. Claim r) found ≡ by_claims terms set
by_set terms set es es' found is same e =
    ap (λ (o : Option ClaimRefusal). option_map (λ r. Claim r) o) (e ∙ ap (claims_refusal terms) same) ∙ sym (ap (by_claims terms) is)

some_claim : (found : Option ClaimRefusal) → Some NoItem ≡ option_map (λ r. Claim r) found → ⊥
some_claim None e = cc
some_claim (Some r) e = cc

no_such : (terms : TermsFields) (set : Result ClaimEntries NoSet) → Some NoItem ≡ by_claims terms set → ⊥
no_such terms (Ok es) e = some_claim (claims_refusal terms es) e
no_such terms (Err why) e = cc

-- the ruling on the item that the payload is
pub ruling_by : (terms : TermsFields) (covered : List ℕ) (item : Tree) → Covers covered item → (refusal : Option TokenRefusal)
    → refusal ≡ by_claims terms (claims_of item) → IsTokenRuling terms covered refusal
ruling_by terms covered item c None e = (item, c, e)
ruling_by terms covered item c (Some NoItem) e = absurd (no_such terms (claims_of item) e)
ruling_by terms covered item c (Some (NoClaims why)) e = (item, c, e)
ruling_by terms covered item c (Some (Claim why)) e = (item, c, e)
