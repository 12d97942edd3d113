-- What claims that were read are written as is read again: it nests no deeper, its bignums stay
-- folded, and its simple values are those that a value can have.
use Rattle.std.proofs.Common.{◌≡◌, ℕ, ◌-◌, List, ◌++◌, Option, Some, None, sym, subst}
use Rattle.ciborium_value.specs.Tree.{Tree, bytes, text}
use Rattle.ciborium_value.specs.Encoding.{enc, Fits}
use Rattle.coset_labels.specs.Facts.Sound.{Sound, AllSound, map_inside, map_sound, integer_sound, text_sound, bytes_sound, float_sound, named_sound, entries_sound, others_sound, sound_pairs, reads_sound, sound_reads}
use Rattle.coset_labels.specs.Fields.{Named}
use Rattle.coset_labels.specs.Labels.{named_tree}
use Rattle.coset_labels.specs.Reading.{HasItem}
use Rattle.coset_claims.specs.Fields.{TimeFields, whole_seconds, fractional_seconds, ClaimsFields}
use Rattle.coset_claims.specs.Claims.{name_of, is_core, others, HasClaims}
use Rattle.coset_claims.specs.Written.{time_tree, field_entry, written_entries, claims_tree}
use Rattle.coset_claims.proofs.Again.{claims_again}

time_sound : (d : ℕ) (t : TimeFields) → Sound d (time_tree t)
time_sound d (whole_seconds i) = integer_sound d i
time_sound d (fractional_seconds f) = float_sound d f

-- ---- entries
field_sound : {A : Type 0} (g : A → Tree) (d n : ℕ) (x : Option A) (es : List (Named × Tree)) → ((a : A) → Sound d (g a)) → AllSound d es → AllSound d (field_entry g n x ++ es)
field_sound g d n None es f s = s
field_sound g d n (Some a) es f s = (f a, s)

wrote_sound : (d : ℕ) (es : List (Named × Tree)) (c : ClaimsFields) → AllSound d es → c.rest ≡ others es → AllSound d (written_entries c)
wrote_sound d es c s r =
    let rest = subst (λ z. AllSound d z) (sym r) (others_sound is_core d es s) in
    field_sound text d 1 c.issuer _ (text_sound d) (field_sound text d 2 c.subject _ (text_sound d) (field_sound text d 3 c.audience _ (text_sound d) (field_sound time_tree d 4 c.expiration_time _ (time_sound d) (field_sound time_tree d 5 c.not_before _ (time_sound d) (field_sound time_tree d 6 c.issued_at _ (time_sound d) (field_sound bytes d 7 c.cwt_id _ (bytes_sound d) rest))))))

claims_sound : (t : Tree) (c : ClaimsFields) (d : ℕ) → HasClaims t c → Sound d t → Sound d (claims_tree c)
claims_sound t c d (ps, es, q, r, u, w) s =
    let m = map_inside d ps (subst (Sound d) q s) in
    map_sound d _ m.0 (sound_pairs named_tree (d - 1) (named_sound (d - 1)) (written_entries c) (wrote_sound (d - 1) es c (entries_sound name_of (d - 1) ps es r m.1) w.rest))

pub claims_read : (b : List ℕ) (c : ClaimsFields) → Fits (claims_tree c) → HasItem HasClaims b c → HasItem HasClaims (enc (claims_tree c)) c
claims_read b c f i = record {
  tree = claims_tree c;
  reads = sound_reads 256 (claims_tree c) f (claims_sound i.tree c 256 i.shape (reads_sound b 256 i.tree i.reads));
  shape = claims_again i.tree c i.shape;
}
