-- Laws of masks.
use Rattle.std.proofs.Common.{◌≡◌, ℕ, ◌<◌, ◌≤◌, ◌⊎◌, inl, inr, ◌+◌, List, length, get_or, refl, sym, subst, ◌∙◌, arith}
use Rattle.std.proofs.lemmas.Bool.{cases_lt}
use Rattle.std.specs.Prelude.{slice_get, Option, Some}
use Rattle.std.proofs.lemmas.List.{ext_get_or, get_or_past}
use Rattle.cose_mask.specs.declared.mask.Blank.{Blank}
use Rattle.cose_mask.specs.Mask.{IsFilled, IsMaskedBy, none, more, IsMasked, CoveredBy, SameOutside}

same_some : {A : Type 0} (a b : A) (o : Option A) → o ≡ Some a → o ≡ Some b → a ≡ b
same_some a b o p q = let e : Some a ≡ Some b = sym p ∙ q in cc

abbrev In : Blank → ℕ → Type 0
In s k = (s.at ≤ k) × (k < s.end)

-- ---- two copies
-- a blank filled in two lists, which agree at a place that isn't in it
one : (s : Blank) (x y v w : List ℕ) (k : ℕ) → length y ≡ length x → IsFilled s x v → IsFilled s y w → ((In s k → ⊥) → get_or y k 0 ≡ get_or x k 0) → get_or w k 0 ≡ get_or v k 0
one s x y v w k l p q f =
    elim (cases_lt k s.at) [
      | inl m ↦ q.outside k (inl m) ∙ f (λ h. let z : ⊥ = omega (arith, m, h.0) in z) ∙ sym (p.outside k (inl m))
      | inr m ↦ elim (cases_lt k s.end) [
        | inr n ↦ q.outside k (inr n) ∙ f (λ h. let z : ⊥ = omega (arith, n, h.1) in z) ∙ sym (p.outside k (inr n))
        | inl n ↦ elim (cases_lt k (length x)) [
          | inl o ↦ q.inside k (omega (arith, o, l)) m n ∙ sym (p.inside k o m n)
          | inr o ↦ get_or_past w k 0 (omega (arith, o, l, q.same_length)) ∙ sym (get_or_past v k 0 (omega (arith, o, p.same_length)))
        ]
      ]
    ]

module _ (blanks : List Blank) where
  same_length : (n : ℕ) (x z : List ℕ) → IsMaskedBy blanks n x z → length z ≡ length x
  same_length n x z (none w) = refl
  same_length n x z (more m s v w u is p f) = f.same_length ∙ same_length m v w p

  -- the last step of a copy
  record Last (n : ℕ) (x z : List ℕ) : Type 0 where
    blank : Blank
    before : List ℕ
    is : slice_get blanks n ≡ Some blank
    by : IsMaskedBy blanks n x before
    filled : IsFilled blank before z

  first : (m : ℕ) (x z : List ℕ) → IsMaskedBy blanks m x z → m ≡ 0 → z ≡ x
  first m x z (none w) e = refl
  first m x z (more k s v w u is p f) e = absurd (let t : ⊥ = omega (arith, e) in t)

  last : (m : ℕ) (x z : List ℕ) → IsMaskedBy blanks m x z → (n : ℕ) → m ≡ n + 1 → Last n x z
  last m x z (none w) n e = absurd (let t : ⊥ = omega (arith, e) in t)
  last m x z (more k s v w u is p f) n e =
      let same : k ≡ n = omega (arith, e) in
      record {
        blank = s;
        before = w;
        is = subst (λ j. slice_get blanks j ≡ Some s) same is;
        by = subst (λ j. IsMaskedBy blanks j v w) same p;
        filled = f;
      }

  -- what isn't in the last blank is in none, if it isn't in one before
  not_in : (n : ℕ) (s : Blank) (k : ℕ) → slice_get blanks n ≡ Some s → (In s k → ⊥) → (CoveredBy n blanks k → ⊥) → CoveredBy (n + 1) blanks k → ⊥
  not_in n s k is out f c =
      elim (cases_lt c.index n) [
        | inl l ↦ f (record { index = c.index; blank = c.blank; among = l; is = c.is; begun = c.begun; goes_on = c.goes_on })
        | inr l ↦
            let e : c.index ≡ n = omega (arith, l, c.among) in
            let b : c.blank ≡ s = same_some c.blank s (slice_get blanks n) (subst (λ m. slice_get blanks m ≡ Some c.blank) e c.is) is in
            out (subst (λ t. In t k) b (c.begun, c.goes_on))
      ]

  -- two copies agree where what they are of does, or a blank is
  agree : (n : ℕ) (a x : List ℕ) → IsMaskedBy blanks n a x → (b y : List ℕ) → IsMaskedBy blanks n b y → length b ≡ length a → (k : ℕ) → ((CoveredBy n blanks k → ⊥) → get_or b k 0 ≡ get_or a k 0) → get_or y k 0 ≡ get_or x k 0
  agree n a x (none w) b y q l k f =
      subst (λ t. get_or t k 0 ≡ get_or w k 0) (sym (first 0 b y q refl)) (f (λ c. let t : ⊥ = omega (arith, c.among) in t))
  agree n a x (more m s v w u is p g) b y q l k f =
      let z : Last m b y = last (m + 1) b y q m refl in
      let e : z.blank ≡ s = same_some z.blank s (slice_get blanks m) z.is is in
      one s w z.before u y k
      (same_length m b z.before z.by ∙ l ∙ sym (same_length m v w p))
      g
      (subst (λ t. IsFilled t z.before y) e z.filled)
      (λ out. agree m v w p b z.before z.by l k (λ c. f (not_in m s k is out c)))

  pub nothing_said : (a b x y : List ℕ) → SameOutside blanks a b → IsMasked blanks a x → IsMasked blanks b y → x ≡ y
  nothing_said a b x y s p q =
      let n = length blanks in
      sym (ext_get_or 0 y x
      (same_length n b y q ∙ s.same_length ∙ sym (same_length n a x p))
      (λ k lt. agree n a x p b y q s.same_length k (s.outside k)))

-- ---- the end of the loop that fills
pub filled : (s : Blank) (x y : List ℕ) (i end : ℕ) → end ≤ length x → end ≤ s.end → (s.end ≤ end) ⊎ (length x ≤ end) → end ≤ i → (i ≤ end) ⊎ (i ≤ s.at) → length y ≡ length x → ((k : ℕ) → s.at ≤ k → k < i → get_or y k 0 ≡ s.with) → ((k : ℕ) → (k < s.at) ⊎ (i ≤ k) → get_or y k 0 ≡ get_or x k 0) → IsFilled s x y
filled s x y i end short le most done back l inside outside =
    record {
      same_length = l;
      inside = λ k short_of begun goes_on.
          elim (cases_lt k i) [
            | inl m ↦ inside k begun m
            | inr m ↦ elim most [
              | inl e ↦ absurd (let z : ⊥ = omega (arith, e, m, done, goes_on) in z)
              | inr e ↦ absurd (let z : ⊥ = omega (arith, e, m, done, short_of) in z)
            ]
          ];
      outside = λ k h.
          elim h [
            | inl m ↦ outside k (inl m)
            | inr m ↦ elim back [
              | inl e ↦ outside k (inr (omega (arith, e, le, m)))
              | inr e ↦ elim (cases_lt k s.at) [
                | inl n ↦ outside k (inl n)
                | inr n ↦ outside k (inr (omega (arith, e, n)))
              ]
            ]
          ];
    }
