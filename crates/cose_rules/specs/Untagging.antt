-- What is in the tags around a token that only say what it is.
use Rattle.std.specs.Prelude.{◌≡◌, ◌⊎◌, List, ℕ, ◌++◌}
use Rattle.ciborium_ll.specs.Title.{Title}
use Rattle.ciborium_ll.specs.declared.hdr.Header.{Header}
use Rattle.ciborium_ll.specs.declared.hdr.Header.TheVariants.{Tag}

-- a CBOR Web Token (RFC 8392, section 6), or CBOR (RFC 8949, section 3.4.6)
abbrev pub IsWrapper : Header → Type 0
IsWrapper h = (h ≡ Tag 61) ⊎ (h ≡ Tag 55799)

-- `b` is the head of such a tag, of any width, and then `inner`
pub record Wraps (b inner : List ℕ) : Type 0 where
  pub head : Header
  pub is : IsWrapper head
  pub title : List ℕ
  pub is_title : Title title head
  pub whole : b ≡ title ++ inner

-- `b` is such tags, and then `inner`, which begins with none
pub data Unwraps : (b inner : List ℕ) → Type 0 where
  bare : (b : List ℕ) → ((inner : List ℕ) → Wraps b inner → ⊥) → Unwraps b b
  wrapped : (b x inner : List ℕ) → Wraps b x → Unwraps x inner → Unwraps b inner
