-- What is written of keys and headers that were read.
use Rattle.std.proofs.Common.{◌≡◌, ◌↔◌, ℕ, List, Option, None, Some, IsTrue, refl, sym, ap, subst, ◌∙◌, inl, inr}
use Rattle.std.proofs.lemmas.Slice.Eq.{bytes_eq-Decides}
use Rattle.std.specs.Global.{Vec}
use Rattle.std.specs.Prelude.{option_map, Result, Ok, Err, IfOk, IfErr, MatchResult}
use Rattle.std.specs.Str.{bytes_eq}
use Rattle.coset.specs.CborOrdering.{CborOrdering}
use Rattle.coset.specs.CoseError.{CoseError}
use Rattle.coset.specs.Encoding.{enc}
use Rattle.coset.specs.Faults.{CoseFault, CantWrite, OrMemory}
use Rattle.coset.specs.Fields.{HeaderFields}
use Rattle.coset.specs.Headers.{HasHeader}
use Rattle.coset.specs.KeyFields.{KeyFields}
use Rattle.coset.specs.Keys.{HasKey}
use Rattle.coset.specs.KeysSorted.{Canonicalized, SameButOrder}
use Rattle.coset.specs.KeysWritten.{key_tree}
use Rattle.coset.specs.LimitsView.{nesting, layers}
use Rattle.coset.specs.Reading.{HasItem}
use Rattle.coset.specs.Tree.{Tree}
use Rattle.coset.specs.Written.{header_tree}
use Rattle.callers.specs.Keeping.{IsOrdered}

-- if something is made of o, o has it
pub mapped : {A B : Type 0} (f : A → B) (o : Option A) (y : B) → option_map f o ≡ Some y → (x : A) × (o ≡ Some x) × (f x ≡ y)
mapped f None y e = let h : None ≡ Some y = e in cc
mapped f (Some x) y e = let h : Some (f x) ≡ Some y = e in (x, refl, cc)

-- keys that are put into order stay the same but for it
pub same : (o : CborOrdering) (k l : KeyFields) → Canonicalized o k l → SameButOrder k l
same o k l c = record { others = c.others; pairs = c.params.pairs }

-- what was read is written, but for being out of memory
pub unwritten : (Wrong : CoseFault → Type 0) (b : List ℕ) (k : KeyFields) (e : CoseError) → IsOrdered b k
    → ((b : List ℕ) (l : KeyFields) → HasItem HasKey b l → SameButOrder l k → (t : Tree) × (key_tree k ≡ Some t) × HasItem HasKey (enc t) k)
    → CantWrite (key_tree k) e → OrMemory Wrong e
unwritten Wrong b k e o law (inl m) = inl m
unwritten Wrong b k e o law (inr d) =
    let t = law b o.key o.read (same _ o.key k o.sorted) in
    let h : None ≡ Some t.0 = sym d.1 ∙ t.1 in
    cc

pub err_of : {A E : Type 0} (r : Result A E) (P : A → Type 0) (Q R : E → Type 0) → ((e : E) → Q e → R e) → MatchResult r P Q → IfErr r R
err_of (Ok x) P Q R f m = tt
err_of (Err e) P Q R f m = f e m

abbrev pub IsOneHeader : List ℕ → HeaderFields → Type 0
IsOneHeader b h = HasItem (λ t f. HasHeader nesting t f layers) b h

-- what was read of bytes is read of what it is written as
pub rewritten : {E : Type 0} (r : Result (Vec ℕ) E) (Q : E → Type 0) (b : List ℕ) (h : HeaderFields) → IsOneHeader b h
    → ((b : List ℕ) (u : Tree) → IsOneHeader b h → header_tree h ≡ Some u → IsOneHeader (enc u) h)
    → MatchResult r (λ v. option_map enc (header_tree h) ≡ Some v.items) Q
    → IfOk r (λ out. (h : HeaderFields) × IsOneHeader b h × (option_map enc (header_tree h) ≡ Some out.items) × IsOneHeader out.items h)
rewritten (Ok v) Q b h has law e =
    let m = mapped enc (header_tree h) v.items e in
    (h, has, e, subst (λ (x : List ℕ). IsOneHeader x h) m.2 (law b m.0 has m.1))
rewritten (Err e) Q b h has law m = tt

-- two spellings are equal if S holds
pub alike : (t s : Option Tree) (x y : List ℕ) (S : Type 0) → option_map enc t ≡ Some x → option_map enc s ≡ Some y
    → ((option_map enc t ≡ option_map enc s) ↔ S) → IsTrue (bytes_eq x y) ↔ S
alike t s x y S e f law = (
  λ h. law.0 (e ∙ ap Some ((bytes_eq-Decides x y).0 h) ∙ sym f),
  λ h. let q : Some x ≡ Some y = sym e ∙ (law.1 h ∙ f) in let i : x ≡ y = cc in (bytes_eq-Decides x y).1 i,
)
