-- Entries that are appended to a map.
use Rattle.std.proofs.Common.{◌≡◌, Vec, Global, List, [], ◌∷◌, ◌++◌, map, Some, ap, ◌∙◌}
use Rattle.cose_iana.specs.declared.claims.CwtClaimName.{CwtClaimName}
use Rattle.ciborium_value.specs.Tree.{Tree, bytes, text, map as map_tree}
use Rattle.ciborium_value.specs.View.{pairs, view, view_pair}
use Rattle.ciborium_value.specs.declared.value.Value.{Value}
use Rattle.ciborium_value.specs.declared.value.Value.TheVariants as code
use Rattle.ciborium_value.proofs.Views.{view_map}
use Rattle.coset_labels.specs.Facts.Pushed.{back_one}
use Rattle.coset_labels.specs.Facts.Pushed as pushed
use Rattle.coset_labels.specs.Labels.{named_tree}
use Rattle.coset_labels.specs.declared.registered.RegisteredLabelWithPrivate.{RegisteredLabelWithPrivate}
use Rattle.coset_claims.specs.Fields.{ClaimsFields}
use Rattle.coset_claims.specs.View.{name_view, entry_view}
use Rattle.coset_claims.specs.Written.{time_tree, field_entry, written_entries, entry_tree, claims_tree}

pub rest_pushed : (start old new : List (Value × Value)) (xs : List (RegisteredLabelWithPrivate CwtClaimName × Value)) (x : RegisteredLabelWithPrivate CwtClaimName × Value) (k : Value) → new ≡ old ++ (k, x.1) ∷ [] → Some (named_tree (name_view x.0)) ≡ Some (view k)
    → map view_pair old ≡ map view_pair start ++ map entry_tree (map entry_view xs) → map view_pair new ≡ map view_pair start ++ map entry_tree (map entry_view (xs ++ x ∷ []))
rest_pushed = pushed.rest_pushed named_tree name_view

-- ---- all entries in their order
pub map_done : (c : ClaimsFields) (v : Vec (Value × Value) Global) (l0 l1 l2 l3 l4 l5 l6 l7 : List (Tree × Tree)) → l0 ≡ []
    → l1 ≡ l0 ++ map entry_tree (field_entry text 1 c.issuer) → l2 ≡ l1 ++ map entry_tree (field_entry text 2 c.subject) → l3 ≡ l2 ++ map entry_tree (field_entry text 3 c.audience)
    → l4 ≡ l3 ++ map entry_tree (field_entry time_tree 4 c.expiration_time) → l5 ≡ l4 ++ map entry_tree (field_entry time_tree 5 c.not_before) → l6 ≡ l5 ++ map entry_tree (field_entry time_tree 6 c.issued_at)
    → l7 ≡ l6 ++ map entry_tree (field_entry bytes 7 c.cwt_id) → map view_pair v.items ≡ l7 ++ map entry_tree c.rest
    → view (code.Map v) ≡ claims_tree c
map_done c v l0 l1 l2 l3 l4 l5 l6 l7 e0 e1 e2 e3 e4 e5 e6 e7 e8 =
    let z = map view_pair v.items in
    let s7 = back_one entry_tree l6 l7 z (field_entry bytes 7 c.cwt_id) c.rest e8 e7 in
    let s6 = back_one entry_tree l5 l6 z (field_entry time_tree 6 c.issued_at) _ s7 e6 in
    let s5 = back_one entry_tree l4 l5 z (field_entry time_tree 5 c.not_before) _ s6 e5 in
    let s4 = back_one entry_tree l3 l4 z (field_entry time_tree 4 c.expiration_time) _ s5 e4 in
    let s3 = back_one entry_tree l2 l3 z (field_entry text 3 c.audience) _ s4 e3 in
    let s2 = back_one entry_tree l1 l2 z (field_entry text 2 c.subject) _ s3 e2 in
    let s1 = back_one entry_tree l0 l1 z (field_entry text 1 c.issuer) _ s2 e1 in
    let whole : map view_pair v.items ≡ map entry_tree (written_entries c) = s1 ∙ ap (λ y. y ++ map entry_tree (written_entries c)) e0 in
    view_map v ∙ ap (λ y. map_tree (pairs y)) whole
