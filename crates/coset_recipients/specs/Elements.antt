-- The elements of a message, of which the unprotected header was read first.
use Rattle.std.specs.Prelude.{◌≡◌, ℕ, [], ◌∷◌}
use Rattle.ciborium_value.specs.Tree.{Tree, Trees}
use Rattle.ciborium_value.specs.View.{view, trees}
use Rattle.coset_headers.specs.Walks.{IsHeader}
use Rattle.coset_headers.specs.declared.header.Header.{Header}
use Rattle.coset_recipients.specs.declared.parts.Elements.{Elements}

-- x has the values of these four elements, and what reading the second as the header h gave
pub record AreElements (n k : ℕ) (h : Header) (x : Elements) (ts : Trees) : Type 0 where
  pub second : Tree
  pub are : ts ≡ trees (view x.protected ∷ second ∷ view x.content ∷ view x.last ∷ [])
  pub header : IsHeader n k second h x.unprotected
