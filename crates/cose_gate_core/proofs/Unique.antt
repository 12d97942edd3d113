-- What is found of a value is one, and so is what is asked and written for an input.
use Rattle.std.proofs.Common.{◌≡◌, ◌≢◌, ◌⊎◌, inl, inr, ℕ, List, [], ◌∷◌, ◌++◌, map, Bool, true, None, Some, refl, sym, ap, subst, ◌∙◌, ◌+◌}
use Rattle.ciborium_value.specs.Tree.{Tree, tag}
use Rattle.ciborium.specs.Items.{Item}
use Rattle.ciborium.proofs.Sequence.{items_once_within}
use Rattle.coset_labels.specs.Faults.{CoseFault}
use Rattle.coset_signed.proofs.Excludes.{sign1_not, sign_not}
use Rattle.coset_signed.proofs.Unique.{sign1_once, sign_once}
use Rattle.coset_maced.proofs.Unique.{mac0_once, mac0_not, mac_once, mac_not}
use Rattle.cose_gate_core.specs.Questions.{Question, MessageFields, sign1, mac0, sign, mac, number_of, kind_of, tag_of, payload_of, message_text}
use Rattle.cose_gate_core.specs.Findings.{Finding, judged, barred, not_tagged, encrypted, other_tag, shape, detached, no_signature, not_shortest, Finds, IsMessageTag, IsEncryptedTag, Bounds, HasMessage, IsMessage, IsCarried, IsUnsigned}
use Rattle.cose_gate_core.specs.Misshapen.{WrongMessage, IsMisshapen}
use Rattle.cose_gate_core.specs.declared.about.MessageKind.{MessageKind}
use Rattle.cose_gate_core.specs.Run.{Step, Steps, Run, asked_of, written_of, questions_of, output_of}
use Rattle.cose_gate_core.proofs.TagNumbers.{same_kind, not_both}

-- the findings by the tag of the value
data Group : Type 0 where
  bare secret message : Group
  other : ℕ → Group

abbrev group : Finding → Group
group (judged m) = message
group (barred not_tagged) = bare
group (barred encrypted) = secret
group (barred (other_tag n)) = other n
group (barred shape) = message
group (barred detached) = message
group (barred no_signature) = message
group (barred not_shortest) = message

abbrev InGroup : Tree → Group → Type 0
InGroup t bare = (n : ℕ) (u : Tree) → t ≢ tag n u
InGroup t secret = (n : ℕ) × (u : Tree) × (t ≡ tag n u) × IsEncryptedTag n
InGroup t message = (n : ℕ) × (u : Tree) × (t ≡ tag n u) × IsMessageTag n
InGroup t (other n) = (u : Tree) × (t ≡ tag n u) × (IsEncryptedTag n → ⊥) × (IsMessageTag n → ⊥)

in_group : (l : Bounds) (b : List ℕ) (t : Tree) (f : Finding) → Finds l b t f → InGroup t (group f)
in_group l b t (judged m) (((u, e, h), p, s), x) = (tag_of m, u, e, (kind_of m, refl))
in_group l b t (barred not_tagged) h = h
in_group l b t (barred encrypted) h = h
in_group l b t (barred (other_tag n)) h = h
in_group l b t (barred shape) h = h.0
in_group l b t (barred detached) (m, (u, e, h), p) = (tag_of m, u, e, (kind_of m, refl))
in_group l b t (barred no_signature) (m, (u, e, h), p, s) = (tag_of m, u, e, (kind_of m, refl))
in_group l b t (barred not_shortest) (m, ((u, e, h), p, s), x, n) = (tag_of m, u, e, (kind_of m, refl))

same_tag : (t : Tree) (n k : ℕ) (u v : Tree) → t ≡ tag n u → t ≡ tag k v → n ≡ k
same_tag t n k u v a b = cc

same_body : (t : Tree) (n k : ℕ) (u v : Tree) → t ≡ tag n u → t ≡ tag k v → u ≡ v
same_body t n k u v a b = cc

group_once : (t : Tree) (x y : Group) → InGroup t x → InGroup t y → x ≡ y
group_once t bare bare a b = refl
group_once t bare secret a (n, u, e, s) = absurd (a n u e)
group_once t bare message a (n, u, e, s) = absurd (a n u e)
group_once t bare (other n) a (u, e, p, q) = absurd (a n u e)
group_once t secret bare (n, u, e, s) b = absurd (b n u e)
group_once t secret secret a b = refl
group_once t secret message (n, u, e, s) (k, v, d, r) = absurd (not_both n s (subst IsMessageTag (same_tag t k n v u d e) r))
group_once t secret (other k) (n, u, e, s) (v, d, p, q) = absurd (p (subst IsEncryptedTag (same_tag t n k u v e d) s))
group_once t message bare (n, u, e, s) b = absurd (b n u e)
group_once t message secret (k, v, d, r) (n, u, e, s) = absurd (not_both n s (subst IsMessageTag (same_tag t k n v u d e) r))
group_once t message message a b = refl
group_once t message (other k) (n, u, e, s) (v, d, p, q) = absurd (q (subst IsMessageTag (same_tag t n k u v e d) s))
group_once t (other n) bare (u, e, p, q) b = absurd (b n u e)
group_once t (other k) secret (v, d, p, q) (n, u, e, s) = absurd (p (subst IsEncryptedTag (same_tag t n k u v e d) s))
group_once t (other k) message (v, d, p, q) (n, u, e, s) = absurd (q (subst IsMessageTag (same_tag t n k u v e d) s))
group_once t (other n) (other k) (u, e, s, r) (v, d, p, q) = ap other (same_tag t n k u v e d)

-- the finding of a group that has one
abbrev name : Group → Finding
name bare = barred not_tagged
name secret = barred encrypted
name message = barred shape
name (other n) = barred (other_tag n)

named : (f : Finding) → group f ≢ message → f ≡ name (group f)
named (judged m) n = absurd (n refl)
named (barred not_tagged) n = refl
named (barred encrypted) n = refl
named (barred (other_tag k)) n = refl
named (barred shape) n = absurd (n refl)
named (barred detached) n = absurd (n refl)
named (barred no_signature) n = absurd (n refl)
named (barred not_shortest) n = absurd (n refl)

is_message : (x : Group) → (x ≡ message) ⊎ (x ≢ message)
is_message bare = inr (λ e. (let h : bare ≡ message = e in cc))
is_message secret = inr (λ e. (let h : secret ≡ message = e in cc))
is_message message = inl refl
is_message (other n) = inr (λ e. (let h : other n ≡ message = e in cc))

-- a value has the fields of one message of each kind, and no fault as that message
same_message : (l : Bounds) (u : Tree) (a b : MessageFields) → kind_of a ≡ kind_of b → HasMessage l u a → HasMessage l u b → a ≡ b
same_message l u (sign1 a) (sign1 b) e h g = ap sign1 (sign1_once l.nesting l.layers u a b h g)
same_message l u (sign1 a) (mac0 b) e h g = cc
same_message l u (sign1 a) (sign b) e h g = cc
same_message l u (sign1 a) (mac b) e h g = cc
same_message l u (mac0 a) (sign1 b) e h g = cc
same_message l u (mac0 a) (mac0 b) e h g = ap mac0 (mac0_once l.nesting a b u l.layers h g)
same_message l u (mac0 a) (sign b) e h g = cc
same_message l u (mac0 a) (mac b) e h g = cc
same_message l u (sign a) (sign1 b) e h g = cc
same_message l u (sign a) (mac0 b) e h g = cc
same_message l u (sign a) (sign b) e h g = ap sign (sign_once l.nesting l.layers u a b h g)
same_message l u (sign a) (mac b) e h g = cc
same_message l u (mac a) (sign1 b) e h g = cc
same_message l u (mac a) (mac0 b) e h g = cc
same_message l u (mac a) (sign b) e h g = cc
same_message l u (mac a) (mac b) e h g = ap mac (mac_once l.nesting a b u l.layers h g)

no_fault : (l : Bounds) (u : Tree) (m : MessageFields) (f : CoseFault) → HasMessage l u m → WrongMessage l (kind_of m) u f → ⊥
no_fault l u (sign1 m) f h w = sign1_not l.nesting l.layers u f m w h
no_fault l u (mac0 m) f h w = mac0_not l.nesting u l.layers f w m h
no_fault l u (sign m) f h w = sign_not l.nesting l.layers u f m w h
no_fault l u (mac m) f h w = mac_not l.nesting u l.layers f w m h

-- what is found of a message: that it has no payload, no signature, that it isn't what would be
-- written, or that it is judged
data OfMessage (l : Bounds) (b : List ℕ) (m : MessageFields) : Finding → Type 0 where
  out : payload_of m ≡ None → OfMessage l b m (barred detached)
  bare : IsCarried m → IsUnsigned m → OfMessage l b m (barred no_signature)
  long : IsCarried m → (IsUnsigned m → ⊥) → l.strict ≡ true → b ≢ message_text m → OfMessage l b m (barred not_shortest)
  good : IsCarried m → (IsUnsigned m → ⊥) → (l.strict ≡ true → b ≡ message_text m) → OfMessage l b m (judged m)

not_both_carried : (m : MessageFields) → payload_of m ≡ None → IsCarried m → ⊥
not_both_carried m e (p, f) = let h : None ≡ Some p = sym e ∙ f in cc

of_message_once : (l : Bounds) (b : List ℕ) (m : MessageFields) (f g : Finding) → OfMessage l b m f → OfMessage l b m g → f ≡ g
of_message_once l b m _ _ (out e) (out d) = refl
of_message_once l b m _ _ (out e) (bare c u) = absurd (not_both_carried m e c)
of_message_once l b m _ _ (out e) (long c u s n) = absurd (not_both_carried m e c)
of_message_once l b m _ _ (out e) (good c u s) = absurd (not_both_carried m e c)
of_message_once l b m _ _ (bare c u) (out e) = absurd (not_both_carried m e c)
of_message_once l b m _ _ (bare c u) (bare d v) = refl
of_message_once l b m _ _ (bare c u) (long d v s n) = absurd (v u)
of_message_once l b m _ _ (bare c u) (good d v s) = absurd (v u)
of_message_once l b m _ _ (long c u s n) (out e) = absurd (not_both_carried m e c)
of_message_once l b m _ _ (long c u s n) (bare d v) = absurd (u v)
of_message_once l b m _ _ (long c u s n) (long d v t k) = refl
of_message_once l b m _ _ (long c u s n) (good d v t) = absurd (n (t s))
of_message_once l b m _ _ (good c u s) (out e) = absurd (not_both_carried m e c)
of_message_once l b m _ _ (good c u s) (bare d v) = absurd (u v)
of_message_once l b m _ _ (good c u s) (long d v t n) = absurd (n (s t))
of_message_once l b m _ _ (good c u s) (good d v t) = refl

-- what is found under the tag of a message
data Body (l : Bounds) (b : List ℕ) (t : Tree) (f : Finding) : Type 0 where
  fits : (m : MessageFields) → IsMessage l t m → OfMessage l b m f → Body l b t f
  wrong : ((m : MessageFields) → IsMessage l t m → ⊥) → f ≡ barred shape → Body l b t f

body : (l : Bounds) (b : List ℕ) (t : Tree) (f : Finding) → Finds l b t f → group f ≡ message → Body l b t f
body l b t (judged m) ((i, c, u), s) g = fits m i (good c u s)
body l b t (barred not_tagged) h g = cc
body l b t (barred encrypted) h g = cc
body l b t (barred (other_tag n)) h g = cc
body l b t (barred shape) h g = wrong h.1 refl
body l b t (barred detached) (m, i, e) g = fits m i (out e)
body l b t (barred no_signature) (m, i, c, u) g = fits m i (bare c u)
body l b t (barred not_shortest) (m, (i, c, u), s, n) g = fits m i (long c u s n)

module _ (l : Bounds) (t : Tree) where
  same_fields : (a b : MessageFields) → IsMessage l t a → IsMessage l t b → a ≡ b
  same_fields a b (u, p, h) (v, q, g) =
      let kinds : kind_of a ≡ kind_of b = same_kind (kind_of a) (kind_of b) (same_tag t (tag_of a) (tag_of b) u v p q) in
      same_message l u a b kinds h (subst (λ z. HasMessage l z b) (sym (same_body t (tag_of a) (tag_of b) u v p q)) g)

  pub no_message : (e : CoseFault) → IsMisshapen l t e → (m : MessageFields) → IsMessage l t m → ⊥
  no_message e (k, v, q, w) m (u, p, h) =
      let kinds : k ≡ kind_of m = same_kind k (kind_of m) (same_tag t (number_of k) (tag_of m) v u q p) in
      no_fault l v m e (subst (λ z. HasMessage l z m) (same_body t (tag_of m) (number_of k) u v p q) h) (subst (λ j. WrongMessage l j v e) kinds w)

body_once : (l : Bounds) (b : List ℕ) (t : Tree) (f g : Finding) → Body l b t f → Body l b t g → f ≡ g
body_once l b t f g (fits m i c) (fits n k d) = of_message_once l b m f g c (subst (λ (z : MessageFields). OfMessage l b z g) (sym (same_fields l t m n i k)) d)
body_once l b t f g (fits m i c) (wrong none d) = absurd (none m i)
body_once l b t f g (wrong none c) (fits m i d) = absurd (none m i)
body_once l b t f g (wrong none c) (wrong neither d) = c ∙ sym d

pub finding_once : (l : Bounds) (b : List ℕ) (t : Tree) (f g : Finding) → Finds l b t f → Finds l b t g → f ≡ g
finding_once l b t f g h k = by_group (is_message (group f))
  where
    one : group f ≡ group g
    one = group_once t (group f) (group g) (in_group l b t f h) (in_group l b t g k)

    by_group : (group f ≡ message) ⊎ (group f ≢ message) → f ≡ g
    by_group (inl p) = body_once l b t f g (body l b t f h p) (body l b t g k (sym one ∙ p))
    by_group (inr n) = named f n ∙ ap name one ∙ sym (named g (λ e. n (one ∙ e)))

-- runs
abbrev Same : (Question → Bool) → List ℕ → List Step → List Step → Type 0
Same allows aad ss rs = (questions_of allows aad ss ≡ questions_of allows aad rs) × (output_of allows aad ss ≡ output_of allows aad rs)

steps_once : (l : Bounds) (allows : Question → Bool) (aad : List ℕ) (n : ℕ) (ss rs : List Step) → map (λ s. s.item) ss ≡ map (λ s. s.item) rs
    → Steps l allows aad n ss → Steps l allows aad n rs → Same allows aad ss rs
steps_once l allows aad n [] [] e a b = (refl, refl)
steps_once l allows aad n [] (r ∷ rs) e a b = let h : [] ≡ r.item ∷ map (λ s. s.item) rs = e in cc
steps_once l allows aad n (s ∷ ss) [] e a b = let h : s.item ∷ map (λ s. s.item) ss ≡ [] = e in cc
steps_once l allows aad n (s ∷ ss) (r ∷ rs) e a b =
    let h : s.item ∷ map (λ s. s.item) ss ≡ r.item ∷ map (λ s. s.item) rs = e in
    let head : s.item ≡ r.item = cc in
    let tail : map (λ s. s.item) ss ≡ map (λ s. s.item) rs = cc in
    let more = steps_once l allows aad (n + 1) ss rs tail a.4 b.4 in
    let f = finding_once l s.item.bytes s.item.value s.finding r.finding a.0 (subst (λ (z : Item). Finds l z.bytes z.value r.finding) (sym head) b.0) in
    let q : asked_of allows aad s.finding ≡ asked_of allows aad r.finding = ap (asked_of allows aad) f in
    let w : written_of allows aad s.finding ≡ written_of allows aad r.finding = ap (written_of allows aad) f in
    let p = more.0 in let v = more.1 in (
      ap (λ x. x ++ questions_of allows aad ss) q ∙ ap (λ x. asked_of allows aad r.finding ++ x) p,
      ap (λ x. x ++ output_of allows aad ss) w ∙ ap (λ x. written_of allows aad r.finding ++ x) v,
    )

pub run_once : (l : Bounds) (allows : Question → Bool) (aad : List ℕ) (at : ℕ) (b : List ℕ) (ss rs : List Step) (rest more : List ℕ)
    → Run l allows aad at b ss rest → Run l allows aad at b rs more
    → (questions_of allows aad ss ≡ questions_of allows aad rs) × (output_of allows aad ss ≡ output_of allows aad rs) × (rest ≡ more)
run_once l allows aad at b ss rs rest more a c =
    let i = items_once_within l.nesting at b _ _ rest more a.items c.items in
    let s = steps_once l allows aad 1 ss rs i.0 a.steps c.steps in
    (s.0, s.1, i.1)
