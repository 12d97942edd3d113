-- What one step of the reader shows, over plain variables.
use Rattle.std.proofs.Common.{◌≡◌, List, [], ◌∷◌, ◌++◌, false, Some, sym, subst}
use Rattle.ciborium_value.specs.Tree.{Tree, map as map_tree, Pairs}
use Rattle.ciborium_value.specs.View.{view, view_pairs}
use Rattle.ciborium_value.specs.declared.value.Value.{Value}
use Rattle.coset_labels.specs.Entries.{IsIn}
use Rattle.coset_labels.specs.Facts.Entries.{distinct_snoc}
use Rattle.coset_labels.specs.Facts.Walks.{at_fault, passed_on, entry_read}
use Rattle.coset_labels.specs.Fields.{Named}
use Rattle.coset_labels.specs.Faults.{CoseFault, OrMemory, fault_of, unexpected}
use Rattle.ciborium_value.specs.Kinds.{is_map}
use Rattle.coset_labels.specs.declared.error.CoseError.{CoseError}
use Rattle.coset_labels.specs.declared.seen_labels.SeenLabels.{SeenLabels}
use Rattle.coset_claims.specs.Claims.{name_of, entries, IsClaims, HasClaims}
use Rattle.coset_claims.specs.Fields.{ClaimsFields, no_claims}
use Rattle.coset_claims.specs.Steps.{Fills, ClaimName, Sees, KnownIn, Added, HasEntries}
use Rattle.coset_claims.specs.View.{claims_view}
use Rattle.coset_claims.specs.Wrong.{WrongName, WrongField, WrongEntry, bad_name, bad_field, WrongEntries, WrongClaims, no_map, at_entry}
use Rattle.coset_claims.specs.declared.cwt.ClaimsSet.{ClaimsSet}
use Rattle.coset_claims.proofs.Again.{filled, none_set}

pub claims_kind : (t : Tree) (e : CoseError) → (fault_of e ≡ unexpected) × (is_map t ≡ false) → OrMemory (WrongClaims t) e
claims_kind t e p = at_fault (WrongClaims t) unexpected e p.0 (no_map t p.1)

-- ---- an entry
pub entry_name : (es : List (Named × Tree)) (l v : Tree) (e : CoseError) → OrMemory (WrongName l) e → OrMemory (WrongEntry es l v) e
entry_name es l v e w = passed_on (WrongName l) (WrongEntry es l v) e (λ x. bad_name (fault_of e) x) w

pub entry_field : (es : List (Named × Tree)) (l v : Tree) (m : Named) (e : CoseError) → name_of l ≡ Some m → (IsIn m es → ⊥) → OrMemory (WrongField v m) e → OrMemory (WrongEntry es l v) e
entry_field es l v m e q d w = passed_on (WrongField v m) (WrongEntry es l v) e (λ x. bad_field m (fault_of e) q d x) w

pub known_filled : (es : List (Named × Tree)) (l v : Tree) (s r : SeenLabels ClaimName) (old new : ClaimsSet) (m : Named)
    → KnownIn es s old → name_of l ≡ Some m → (IsIn m es → ⊥) → ((v : Tree) → Sees r (es ++ (m, v) ∷ [])) → Fills m v (claims_view old) (claims_view new) → Added es l v r new
known_filled es l v s r old new m w q d z f = record {
  key = m;
  is = q;
  known = record {
    sees = z v;
    known = record { distinct = distinct_snoc es m v w.known.distinct d; claims = filled es (claims_view old) (claims_view new) m v w.known.claims d f };
  };
}

-- ---- the value of one claim
pub field_fault : (W : CoseFault → Type 0) (l m : Named) (v : Tree) (e : CoseError) → ((f : CoseFault) → W f → WrongField v m f) → l ≡ m → OrMemory W e → OrMemory (WrongField v l) e
field_fault W l m v e f q w = passed_on W (WrongField v l) e (λ x. subst (λ z. WrongField v z (fault_of e)) (sym q) (f (fault_of e) x)) w

pub field_kind : (l m : Named) (v : Tree) (e : CoseError) → WrongField v m unexpected → l ≡ m → fault_of e ≡ unexpected → OrMemory (WrongField v l) e
field_kind l m v e w q r = at_fault (WrongField v l) unexpected e r (subst (λ z. WrongField v z unexpected) (sym q) w)

-- ---- all entries
pub claims_inside : (t : Tree) (ps : Pairs) (e : CoseError) → t ≡ map_tree ps → OrMemory (WrongEntries ps) e → OrMemory (WrongClaims t) e
claims_inside t ps e q w = passed_on (WrongEntries ps) (WrongClaims t) e (λ x. subst (λ z. WrongClaims z (fault_of e)) (sym q) (at_entry ps (fault_of e) x)) w

pub claims_have : (t : Tree) (ps : Pairs) (c : ClaimsFields) → t ≡ map_tree ps → HasEntries ps c → HasClaims t c
claims_have t ps c q w = (ps, w.es, q, w.entries_are, w.known.distinct, w.known.claims)

pub entries_pushed : (xs : List (Value × Value)) (x : Value × Value) (es : List (Named × Tree)) (s : SeenLabels ClaimName) (c : ClaimsSet)
    → entries (view_pairs xs) ≡ Some es → Added es (view x.0) (view x.1) s c → (fs : List (Named × Tree)) × (entries (view_pairs (xs ++ x ∷ [])) ≡ Some fs) × KnownIn fs s c
entries_pushed xs x es s c r a = (es ++ (a.key, view x.1) ∷ [], entry_read name_of xs x es a.key r a.is, a.known)

pub none_known : (s : SeenLabels ClaimName) (c : ClaimsSet) → Sees s [] → claims_view c ≡ no_claims → KnownIn [] s c
none_known s c w e = record { sees = w; known = record { distinct = tt; claims = subst (IsClaims []) (sym e) none_set } }
