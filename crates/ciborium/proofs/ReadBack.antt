-- What is written is read back, and what is read of one encoding is one value.
use Rattle.std.proofs.Common.{◌≡◌, ◌≤◌, ℕ, List, [], ◌++◌, Option, None, Some, refl, sym, ap, subst, ◌∙◌, arith}
use Rattle.std.proofs.lemmas.List.{append_cancel_left}
use Rattle.ciborium_value.specs.declared.kind.Kind.{Kind}
use Rattle.ciborium_value.specs.Tree.{Tree, depth}
use Rattle.ciborium_value.specs.Folding.{fold}
use Rattle.ciborium_value.specs.Encoding.{enc, Fits}
use Rattle.ciborium_traits.specs.Back.{TakenBackBy, TakesOne}
use Rattle.ciborium.specs.Meaning.{meaning, Assigned}
use Rattle.ciborium.specs.Damage.{Fault, Damage}
use Rattle.ciborium.specs.Front.{Front, Reads}
use Rattle.ciborium.specs.Typed.{ReadsAs}
use Rattle.ciborium.proofs.Once.{once}
use Rattle.ciborium.proofs.Folded.{means_folding}
use Rattle.ciborium.proofs.Encoded.{enc_spells}
use Rattle.ciborium.proofs.Agreeing.{folded_read}
use Rattle.ciborium.proofs.Excludes.{excludes}

-- items at the front of one list of bytes mean one thing
one_item : (n m : ℕ) (b c u v : List ℕ) (t s : Tree) → b ++ u ≡ c ++ v → Reads b n t → Reads c m s → (t ≡ s) × (b ≡ c)
one_item n m b c u v t s e p q =
    let o = once p.tree q.tree b c u v p.spells q.spells e in
    let x : meaning p.tree ≡ Some t = p.means in
    let y : meaning q.tree ≡ Some s = q.means in
    let w : p.tree ≡ q.tree = o.0 in
    (let z : meaning p.tree ≡ meaning q.tree = ap meaning w in cc, o.1)

encoding_reads : (limit : ℕ) (t u : Tree) → Fits t → Assigned t → depth t ≤ limit → fold t ≡ Some u → Reads (enc t) limit u
encoding_reads limit t u f a low e = record { tree = t; spells = enc_spells t f; shallow = low; means = means_folding t a ∙ e }

-- what is read of an encoding is the folding
pub folding_read : (limit : ℕ) (t u : Tree) → Fits t → Assigned t → Reads (enc t) limit u → fold t ≡ Some u
folding_read limit t u f a r =
    let same : r.tree ≡ t = (once r.tree t (enc t) (enc t) [] [] r.spells (enc_spells t f) refl).0 in
    sym (means_folding t a) ∙ sym (ap meaning same) ∙ r.means

module _ {T : Type 0} (put : T → Tree) (refusal : Tree → Option Kind) (takes : Tree → T → Type 0) where
  module _ (x : T) (f : Fits (put x)) (a : Assigned (put x)) (k : TakenBackBy put refusal takes x) where
    pub back_read : (limit : ℕ) → depth (put x) ≤ limit → ReadsAs refusal takes limit x (enc (put x))
    back_read limit low = record { item = put x; reads = encoding_reads limit (put x) (put x) f a low k.0; is_one = k.1; taken = k.2 }

    pub back_front : (limit : ℕ) (rest : List ℕ) → depth (put x) ≤ limit → Front (enc (put x) ++ rest) limit (put x) rest
    back_front limit rest low = folded_read limit rest (put x) (put x) f a low k.0

    pub back_whole : (stop limit : ℕ) (rest : List ℕ) (e : Fault) → depth (put x) ≤ limit → Damage stop (enc (put x) ++ rest) limit e → ⊥
    back_whole stop limit rest e low d = excludes stop (enc (put x) ++ rest) limit e d (put x) rest (back_front limit rest low)

    -- what is read at the front of the bytes
    back_item : (limit : ℕ) (b rest more : List ℕ) (t : Tree) → enc (put x) ++ rest ≡ b ++ more → Reads b limit t → (t ≡ put x) × (b ≡ enc (put x))
    back_item limit b rest more t e r =
        one_item limit (depth (put x)) b (enc (put x)) more rest t (put x) (sym e) r (encoding_reads (depth (put x)) (put x) (put x) f a (omega arith) k.0)

    pub back_taken : (limit : ℕ) (b rest more : List ℕ) (t : Tree) → enc (put x) ++ rest ≡ b ++ more → Reads b limit t → (t ≡ put x) × (refusal t ≡ None)
    back_taken limit b rest more t g r =
        let same : t ≡ put x = (back_item limit b rest more t g r).0 in
        (same, ap refusal same ∙ k.1)

    pub back_alike : TakesOne put takes → (limit : ℕ) (b rest more : List ℕ) (y : T) → enc (put x) ++ rest ≡ b ++ more → ReadsAs refusal takes limit y b
        → (put y ≡ put x) × (b ≡ enc (put x)) × (more ≡ rest)
    back_alike h limit b rest more y g r =
        let o = back_item limit b rest more r.item g r.reads in
        let t : takes (put x) y = subst (λ (z : Tree). takes z y) o.0 r.taken in
        let e : enc (put x) ++ more ≡ enc (put x) ++ rest = sym (ap (λ (z : List ℕ). z ++ more) o.1) ∙ sym g in
        (h (put x) y x t k.2, o.1, append_cancel_left (enc (put x)) more rest e)

  pub front_agrees : TakesOne put takes → (n m : ℕ) (b c u v : List ℕ) (x y : T) → b ++ u ≡ c ++ v → ReadsAs refusal takes n x b → ReadsAs refusal takes m y c
      → (put x ≡ put y) × (b ≡ c) × (u ≡ v)
  front_agrees h n m b c u v x y e p q =
      let o = one_item n m b c u v p.item q.item e p.reads q.reads in
      (h q.item x y (subst (λ (z : Tree). takes z x) o.0 p.taken) q.taken, o.1, append_cancel_left c u v (ap (λ (z : List ℕ). z ++ u) (sym o.1) ∙ e))

  pub read_agrees : TakesOne put takes → (n m : ℕ) (b : List ℕ) (x y : T) → ReadsAs refusal takes n x b → ReadsAs refusal takes m y b → put x ≡ put y
  read_agrees h n m b x y p q = (front_agrees h n m b b [] [] x y refl p q).0

  pub taken_agrees : TakesOne put takes → (limit : ℕ) (t u : Tree) (x y : T) → Fits t → Assigned t → fold t ≡ Some u → takes u x → ReadsAs refusal takes limit y (enc t)
      → put x ≡ put y
  taken_agrees h limit t u x y f a e p r =
      let g : fold t ≡ Some r.item = folding_read limit t r.item f a r.reads in
      let same : r.item ≡ u = cc in
      h u x y p (subst (λ (z : Tree). takes z y) same r.taken)

module _ {T : Type 0} (refusal : Tree → Option Kind) (takes : Tree → T → Type 0) (t : Tree) (f : Fits t) (a : Assigned t) where
  pub taken_read : (limit : ℕ) (u : Tree) (x : T) → depth t ≤ limit → fold t ≡ Some u → refusal u ≡ None → takes u x → ReadsAs refusal takes limit x (enc t)
  taken_read limit u x low e n p = record { item = u; reads = encoding_reads limit t u f a low e; is_one = n; taken = p }

  pub read_taken : (limit : ℕ) (x : T) → ReadsAs refusal takes limit x (enc t) → (u : Tree) × (fold t ≡ Some u) × (refusal u ≡ None) × takes u x
  read_taken limit x r = (r.item, folding_read limit t r.item f a r.reads, r.is_one, r.taken)
