use Rattle.std.proofs.Common.{◌≡◌, ◌≤◌, ◌<◌, ◌^◌, ℕ, Bool, true, List, [], ◌++◌, length, Option, None, Some, Result, Ok, Err, IfOk, IfErr, inl, inr, refl, sym, ap, subst, ◌∙◌, arith, append-nil}
use Rattle.ciborium.specs.declared.de.Error.{Error}
use Rattle.ciborium.specs.declared.de.Error.TheVariants as code
use Rattle.ciborium.specs.Tree.{Tree, depth}
use Rattle.ciborium.specs.Encoding.{enc}
use Rattle.ciborium_value.specs.declared.kind.Kind.{Kind}
use Rattle.ciborium.specs.Damage.{Fault, end, deep, syntax, semantic, Damage}
use Rattle.ciborium.specs.Front.{Reads}
use Rattle.ciborium.specs.Items.{nesting}
use Rattle.ciborium.specs.Reading.{Fails, IsLong}
use Rattle.ciborium.specs.Typed.{ReadsAs, Gives, IsTypeFault, IsUnread}
use Rattle.cbor_tests.proofs.items.round_trips.again.Goals as goal

module _ {T : Type 0} (put : T → Tree) (refusal : Tree → Option Kind) (takes : Tree → T → Type 0) (x : T) (b : List ℕ) (is : b ≡ enc (put x)) where
  begins : (c ys : List ℕ) → b ≡ c ++ ys → enc (put x) ++ [] ≡ c ++ ys
  begins c ys p = append-nil (enc (put x)) ∙ sym is ∙ p

  abbrev Alike : Type 0
  Alike = (limit : ℕ) (c rest more : List ℕ) (y : T) → enc (put x) ++ rest ≡ c ++ more → ReadsAs refusal takes limit y c
      → (put y ≡ put x) × (c ≡ enc (put x)) × (more ≡ rest)

  same : {E : Type 0} (r : Result T (Error E)) (new : Option (List ℕ)) → Alike → IfOk r (λ y. Gives (Some b) new (ReadsAs refusal takes nesting y)) → IfOk r (λ y. put y ≡ put x)
  same (Ok y) (Some ys) h (c, p, q) = (h nesting c [] ys y (begins c ys p) q).0
  same (Ok y) None h (c, p, q) = absurd p
  same (Err e) new h p = tt

  abbrev Whole : Type 0
  Whole = (stop limit : ℕ) (rest : List ℕ) (f : Fault) → depth (put x) ≤ limit → Damage stop (enc (put x) ++ rest) limit f → ⊥

  abbrev OneItem : Type 0
  OneItem = (limit : ℕ) (c rest more : List ℕ) (t : Tree) → enc (put x) ++ rest ≡ c ++ more → Reads c limit t → (t ≡ put x) × (refusal t ≡ None)

  module _ (whole : Whole) (item : OneItem) (low : depth (put x) ≤ nesting) (short : IsLong 0 b → ⊥) where
    no_damage : (f : Fault) → Damage (length b) b nesting f → ⊥
    no_damage f d = whole (length b) nesting [] f low (subst (λ (z : List ℕ). Damage (length b) z nesting f) (is ∙ sym (append-nil (enc (put x)))) d)

    of_bytes : {E : Type 0} (e : Error E) → Fails (λ z. true) (Unit {0}) (λ f. Damage (length b) b nesting f) (IsLong 0 b) e → e ≡ code.Memory
    of_bytes (code.Io e) p = absurd (no_damage end (p refl).0)
    of_bytes (code.Syntax n) p = absurd (no_damage (syntax n) p)
    of_bytes (code.Semantic o k) p = absurd (no_damage (semantic k) p.1)
    of_bytes code.RecursionLimitExceeded p = absurd (no_damage deep p)
    of_bytes code.Memory p = refl
    of_bytes code.TooLong p = absurd (short p)

    of_type : {E : Type 0} (grows : Bool) (e : Error E) → IsTypeFault grows None e → e ≡ code.Memory
    of_type grows (code.Io e) p = absurd p
    of_type grows (code.Syntax n) p = absurd p
    of_type grows (code.Semantic o k) p = let q : None ≡ Some k = p.1 in cc
    of_type grows code.RecursionLimitExceeded p = absurd p
    of_type grows code.Memory p = refl
    of_type grows code.TooLong p = absurd p

    memory : {E : Type 0} (grows : Bool) (r : Result T (Error E)) (new : Option (List ℕ)) → IfErr r (IsUnread (λ z. true) grows refusal nesting (Some b) new) → IfErr r (λ e. e ≡ code.Memory)
    memory grows (Ok y) new p = tt
    memory grows (Err e) new (inl p) = of_bytes e p
    memory grows (Err e) (Some ys) (inr (c, p, q)) =
        let none : refusal q.item ≡ None = (item nesting c [] ys q.item (begins c ys p) q.reads).1 in
        of_type grows e (subst (λ (o : Option Kind). IsTypeFault grows o e) none q.why)
    memory grows (Err e) None (inr (c, p, q)) = absurd p

pub returns-clause-same : goal.returns-clause-same
returns-clause-same g c =
    let new : c.new-out.result.inner.items ≡ [] = (λ i. (c.new-out.ensures.inner i).items) ∙ c.new.ensures.items in
    same g.T.Serialize.put g.T.Deserialize.refusal g.T.Deserialize.takes c.args.value.now c.as_written-bytes.result.now
    (c.as_written-bytes.ensures ∙ c.in-Ok.ensures.ok ∙ ap (λ (z : List ℕ). z ++ enc (g.T.Serialize.put c.args.value.now)) new)
    c.from_reader.result (Some c.from_reader.new.reader.now) (c.written_is_read.ensures.alike c.requires.kept) c.from_reader.ensures.ok

pub returns-clause-memory : goal.returns-clause-memory
returns-clause-memory g c =
    let new : c.new-out.result.inner.items ≡ [] = (λ i. (c.new-out.ensures.inner i).items) ∙ c.new.ensures.items in
    let small = c.into_writer.new.writer.inner.small in
    let len = c.into_writer.new.writer.inner.ok in
    let short : length c.into_writer.new.writer.inner.items < 2 ^ 63 = omega arith in
    let same_len = ap (λ (z : List ℕ). length z) c.as_written-bytes.ensures in
    memory g.T.Serialize.put g.T.Deserialize.refusal g.T.Deserialize.takes c.args.value.now c.as_written-bytes.result.now
    (c.as_written-bytes.ensures ∙ c.in-Ok.ensures.ok ∙ ap (λ (z : List ℕ). z ++ enc (g.T.Serialize.put c.args.value.now)) new)
    (c.written_is_read.ensures.whole c.requires.kept) (c.written_is_read.ensures.item c.requires.kept) c.requires.shallow (λ l. omega arith)
    g.T.Deserialize.grows c.from_reader.result (Some c.from_reader.new.reader.now) c.from_reader.ensures.err
