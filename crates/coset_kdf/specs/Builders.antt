-- What builders have so far.
use Rattle.std.specs.Prelude.{ℕ, List, [], ◌∷◌, ◌++◌}
use Rattle.coset_kdf.specs.Fields.{PartyFields, PublicFields, ContextFields}
use Rattle.coset_kdf.specs.View.{party_view, public_view, context_view}
use Rattle.coset_kdf.specs.declared.builder.PartyInfoBuilder.{PartyInfoBuilder}
use Rattle.coset_kdf.specs.declared.builder.SuppPubInfoBuilder.{SuppPubInfoBuilder}
use Rattle.coset_kdf.specs.declared.builder.CoseKdfContextBuilder.{CoseKdfContextBuilder}

abbrev pub party_so_far : PartyInfoBuilder → PartyFields
party_so_far b = party_view b.info

abbrev pub public_so_far : SuppPubInfoBuilder → PublicFields
public_so_far b = public_view b.info

abbrev pub context_so_far : CoseKdfContextBuilder → ContextFields
context_so_far b = context_view b.context

-- the context with one more private info
abbrev pub with_private : List ℕ → ContextFields → ContextFields
with_private b c = record c { privates = c.privates ++ b ∷ [] }
