-- What is written of parts that were read has their fields again.
use Rattle.std.proofs.Common.{◌≡◌, ℕ, List, [], ◌∷◌, Option, Some, None, option_map, option_and_then, refl, subst}
use Rattle.ciborium_value.specs.Tree.{Tree, bytes}
use Rattle.coset_headers.specs.Fields.{HeaderFields, ProtectedFields}
use Rattle.coset_headers.specs.Headers.{HasProtected}
use Rattle.coset_headers.specs.Written.{header_tree, shown}
use Rattle.coset_headers.proofs.Again.{prot_again, hdr_again}
use Rattle.coset_recipients.specs.PartsFields.{parts}
use Rattle.coset_recipients.specs.PartShapes.{HasParts}
use Rattle.coset_recipients.specs.PartsWritten.{optional_tree, parts_trees}

pub map_made : {A B : Type 0} (f : A → B) (o : Option A) (y : B) → option_map f o ≡ Some y → (x : A) × (o ≡ Some x) × (f x ≡ y)
map_made f None y e = let h : None ≡ Some y = e in cc
map_made f (Some x) y e = let h : Some (f x) ≡ Some y = e in let q : f x ≡ y = cc in (x, refl, q)

pub and_made : {A B : Type 0} (f : A → Option B) (o : Option A) (y : B) → option_and_then f o ≡ Some y → (x : A) × (o ≡ Some x) × (f x ≡ Some y)
and_made f None y e = let h : None ≡ Some y = e in cc
and_made f (Some x) y e = (x, refl, e)

-- the bytes and the map that stand for the two headers
pub parts_split : (p : ProtectedFields) (u : HeaderFields) (c : Option (List ℕ)) (ts : List Tree) → parts_trees (parts p u c) ≡ Some ts
    → (b : List ℕ) × (t : Tree) × (shown p ≡ Some b) × (header_tree u ≡ Some t) × (bytes b ∷ t ∷ optional_tree c ∷ [] ≡ ts)
parts_split p u c ts e =
    let b = and_made (λ b. option_map (λ t. bytes b ∷ t ∷ optional_tree c ∷ []) (header_tree u)) (shown p) ts e in
    let t = map_made (λ t. bytes b.0 ∷ t ∷ optional_tree c ∷ []) (header_tree u) ts b.2 in
    (b.0, t.0, b.1, t.1, t.2)

-- the written parts are those of the fields again
pub record Made (n : ℕ) (p : ProtectedFields) (u : HeaderFields) (c : Option (List ℕ)) (ts : List Tree) (k : ℕ) : Type 0 where
  pub first : Tree
  pub second : Tree
  pub is : first ∷ second ∷ optional_tree c ∷ [] ≡ ts
  pub parts : HasParts n first second (optional_tree c) (parts p u c) k

pub parts_made : (n : ℕ) (x y z : Tree) (p : ProtectedFields) (u : HeaderFields) (c : Option (List ℕ)) (ts : List Tree) (k : ℕ) → HasParts n x y z (parts p u c) k → parts_trees (parts p u c) ≡ Some ts → Made n p u c ts k
parts_made n x y z p u c ts k h e =
    let w = parts_split p u c ts e in
    record {
      first = bytes w.0;
      second = w.1;
      is = w.4;
      parts = record {
        protected = subst (λ q. HasProtected n q p k) (prot_again n p x k w.0 h.protected w.2) h.protected;
        unprotected = hdr_again n u y w.1 k h.unprotected w.3;
        content = refl;
      };
    }
