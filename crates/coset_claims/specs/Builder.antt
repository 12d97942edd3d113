-- What a builder has so far.
use Rattle.std.specs.Prelude.{[], ◌∷◌, ◌++◌}
use Rattle.ciborium_value.specs.Tree.{Tree}
use Rattle.coset_labels.specs.Fields.{Named}
use Rattle.coset_claims.specs.Fields.{ClaimsFields}
use Rattle.coset_claims.specs.View.{claims_view}
use Rattle.coset_claims.specs.declared.builder.ClaimsSetBuilder.{ClaimsSetBuilder}

abbrev pub so_far : ClaimsSetBuilder → ClaimsFields
so_far b = claims_view b.claims

-- the claims with one more entry
abbrev pub also : Named × Tree → ClaimsFields → ClaimsFields
also e c = record c { rest = c.rest ++ e ∷ [] }
