-- Strings that are read part by part.
use Rattle.std.proofs.Common.{◌≡◌, ◌≢◌, ◌≤◌, ◌<◌, ◌+◌, ◌-◌, ◌⊎◌, inl, inr, ℕ, Bool, true, false, List, [], ◌∷◌, ◌++◌, length, take, Option, None, Some, refl, sym, ap, subst, ◌∙◌, arith, append_assoc, length-append, Result, Ok, Err, is_err, MatchResult, drop}
use Rattle.std.proofs.lemmas.Bool.{false≢true}
use Rattle.std.proofs.Math.Seq.{take-append_seam, drop-append_seam, take-length}
use Rattle.std.specs.Str.{IsUtf8}
use Rattle.ciborium_ll.specs.Reading.{Moves}
use Rattle.ciborium_ll.specs.declared.hdr.Header.{Header}
use Rattle.ciborium_ll.specs.declared.hdr.Header.TheVariants.{Break, Bytes, Text}
use Rattle.ciborium_ll.specs.declared.hdr.Header.TheVariants as all
use Rattle.ciborium_ll.specs.declared.hdr.Float.TheVariants as width
use Rattle.ciborium_ll.specs.Title.{Title}
use Rattle.ciborium.specs.declared.de.Error.{Error}
use Rattle.ciborium.specs.declared.de.Error.TheVariants as code
use Rattle.ciborium_ll.specs.Framing.{joined, Frame, whole, cut, Frames, no_frames, frame_more}
use Rattle.ciborium.specs.Damage.{Fault, Never, TitleDamage, ChunkDamage, cut_body, bad_body, PartDamage, part_title, part_body, no_part, StringDamage}
use Rattle.ciborium_ll.specs.Framing.{Opened, opened, deeper}
use Rattle.ciborium.specs.Reading.{Fails, FailsAt, FailsAfterTitle, EndPlace, IsLong, ShortBy, IfKnown, string_head, IsBody, StringAfterHead, OpenAfterHead, ChunkBody}
use Rattle.ciborium.specs.Held.{IsEarned, IsEarnedSince}
use Rattle.ciborium.proofs.Once.{append_nil}
use Rattle.ciborium.proofs.ReadLemmas.{behind_as}
use Rattle.ciborium.proofs.Taking.{fails_as, known_as, fails_behind, fails_titled, behind_title, takes_as, takes_then}

pub joined_append : (xs ys : List (List ℕ)) → joined (xs ++ ys) ≡ joined xs ++ joined ys
joined_append [] ys = refl
joined_append (x ∷ xs) ys = ap (λ z. x ++ z) (joined_append xs ys) ∙ sym (append_assoc x (joined xs) (joined ys))

module _ (k : Option ℕ → Header) (P : List ℕ → Type 0) where
  frames_at : (a b : List ℕ) (xs ys : List (List ℕ)) → a ≡ b → xs ≡ ys → Frames k P a xs → Frames k P b ys
  frames_at a b xs ys e f w = subst (λ (z : List (List ℕ)). Frames k P b z) f (subst (λ (z : List ℕ). Frames k P z xs) e w)

  opened_at : (n : ℕ) (a b : List ℕ) (xs ys : List (List ℕ)) → a ≡ b → xs ≡ ys → Opened k P n a xs → Opened k P n b ys
  opened_at n a b xs ys e f w = subst (λ (z : List (List ℕ)). Opened k P n b z) f (subst (λ (z : List ℕ). Opened k P n z xs) e w)

  nil_end : (xs : List (List ℕ)) → xs ++ [] ≡ xs
  nil_end [] = refl
  nil_end (x ∷ xs) = ap (λ z. x ∷ z) (nil_end xs)

  lists_assoc : (xs ys zs : List (List ℕ)) → (xs ++ ys) ++ zs ≡ xs ++ (ys ++ zs)
  lists_assoc [] ys zs = refl
  lists_assoc (x ∷ xs) ys zs = ap (λ z. x ∷ z) (lists_assoc xs ys zs)

  frames_then : (a b : List ℕ) (xs ys : List (List ℕ)) → Frames k P a xs → Frame k P b ys → Frames k P (a ++ b) (xs ++ ys)
  frames_then _ b _ ys no_frames f = frames_at (b ++ []) b (ys ++ []) ys (sym (append_nil b)) (nil_end ys) (frame_more b [] ys [] f no_frames)
  frames_then _ b _ ys (frame_more c d ps qs f fs) g =
      frames_at (c ++ (d ++ b)) ((c ++ d) ++ b) (ps ++ (qs ++ ys)) ((ps ++ qs) ++ ys) (sym (append_assoc c d b)) (sym (lists_assoc ps qs ys))
      (frame_more c (d ++ b) ps (qs ++ ys) f (frames_then d b qs ys fs g))

  pub opened_then : (n : ℕ) (a b : List ℕ) (xs ys : List (List ℕ)) → Opened k P n a xs → Frame k P b ys → Opened k P n (a ++ b) (xs ++ ys)
  opened_then _ _ b _ ys (opened title inner xs t fs) f =
      opened_at 1 (title ++ (inner ++ b)) ((title ++ inner) ++ b) (xs ++ ys) (xs ++ ys) (sym (append_assoc title inner b)) refl
      (opened title (inner ++ b) (xs ++ ys) t (frames_then inner b xs ys fs f))
  opened_then _ _ b _ ys (deeper n a title inner xs zs o t fs) f =
      opened_at (n + 1) (a ++ (title ++ (inner ++ b))) ((a ++ (title ++ inner)) ++ b) (xs ++ (zs ++ ys)) ((xs ++ zs) ++ ys)
      (ap (λ z. a ++ z) (sym (append_assoc title inner b)) ∙ sym (append_assoc a (title ++ inner) b)) (sym (lists_assoc xs zs ys))
      (deeper n a title (inner ++ b) xs (zs ++ ys) o t (frames_then inner b zs ys fs f))

  pub opened_more : (n : ℕ) (a t : List ℕ) (xs : List (List ℕ)) → Opened k P n a xs → Title t (k None) → Opened k P (n + 1) (a ++ t) xs
  opened_more n a t xs o w = opened_at (n + 1) (a ++ (t ++ [])) (a ++ t) (xs ++ []) xs (ap (λ z. a ++ z) (sym (append_nil t))) (nil_end xs) (deeper n a t [] xs [] o w no_frames)

  opened_some : (n : ℕ) (a : List ℕ) (xs : List (List ℕ)) → Opened k P n a xs → 1 ≤ n
  opened_some _ _ _ (opened title inner xs t fs) = omega arith
  opened_some _ _ _ (deeper n a title inner xs zs o t fs) = omega arith

  pub closed : (n : ℕ) (a : List ℕ) (xs : List (List ℕ)) → Opened k P n a xs
      → ((n ≡ 1) × Frame k P (a ++ 255 ∷ []) xs) ⊎ ((m : ℕ) × (n ≡ m + 1) × (1 ≤ m) × Opened k P m (a ++ 255 ∷ []) xs)
  closed _ _ _ (opened title inner xs t fs) = inl (refl, cut _ inner title xs t fs refl)
  closed _ _ _ (deeper n a title inner xs zs o t fs) =
      inr (
        n,
        refl,
        opened_some n a xs o,
        opened_at n (a ++ (title ++ inner ++ 255 ∷ [])) ((a ++ (title ++ inner)) ++ 255 ∷ []) (xs ++ zs) (xs ++ zs)
            (sym (append_assoc a (title ++ inner) (255 ∷ []))) refl
            (opened_then n a (title ++ inner ++ 255 ∷ []) xs zs o (cut _ inner title zs t fs refl)),
      )

pub open_start : (text : Bool) (items : List ℕ) → items ≡ [] → OpenAfterHead text 1 items []
open_start text items e = record { bodies = []; begun = λ title t. opened title [] [] t no_frames; is = e }

pub open_more : (text : Bool) (n : ℕ) (items x y : List ℕ) → OpenAfterHead text n items x → Title y (string_head text None) → OpenAfterHead text (n + 1) items (x ++ y)
open_more text n items x y p t = record {
  bodies = p.bodies;
  begun = λ title u. opened_at (string_head text) (IsBody text) (n + 1) ((title ++ x) ++ y) (title ++ (x ++ y)) p.bodies p.bodies (append_assoc title x y) refl
      (opened_more (string_head text) (IsBody text) n (title ++ x) y p.bodies (p.begun title u) t);
  is = p.is;
}

chunk_frame : (text : Bool) (n : ℕ) (title body : List ℕ) → Title title (string_head text (Some n)) → length body ≡ n → IsBody text body
    → Frame (string_head text) (IsBody text) (title ++ body) (body ∷ [])
chunk_frame text n title body t len has = whole _ body title (subst (λ (z : ℕ). Title title (string_head text (Some z))) (sym len) t) has refl

pub open_chunk : (text : Bool) (n m : ℕ) (items items' x y z : List ℕ) → OpenAfterHead text n items x → Title y (string_head text (Some m)) → ChunkBody text m items items' z
    → OpenAfterHead text n items' (x ++ (y ++ z))
open_chunk text n m items items' x y z p t c = record {
  bodies = p.bodies ++ (z ∷ []);
  begun = λ title u. opened_at (string_head text) (IsBody text) n ((title ++ x) ++ (y ++ z)) (title ++ (x ++ (y ++ z))) _ _ (append_assoc title x (y ++ z)) refl
      (opened_then (string_head text) (IsBody text) n (title ++ x) (y ++ z) p.bodies (z ∷ []) (p.begun title u) (chunk_frame text m y z t c.len c.has));
  is = c.is ∙ ap (λ w. w ++ z) p.is ∙ ap (λ w. joined p.bodies ++ w) (append_nil z) ∙ sym (joined_append p.bodies (z ∷ []));
}

pub open_less : (text : Bool) (n : ℕ) (items x y : List ℕ) → OpenAfterHead text n items x → Title y Break → n ≢ 1 → OpenAfterHead text (n - 1) items (x ++ y)
open_less text n items x y p t not = record {
  bodies = p.bodies;
  begun = λ title u. opened_at (string_head text) (IsBody text) (n - 1) ((title ++ x) ++ 255 ∷ []) (title ++ (x ++ y)) p.bodies p.bodies
      (append_assoc title x (255 ∷ []) ∙ ap (λ z. title ++ (x ++ z)) (sym t)) refl (go title (closed (string_head text) (IsBody text) n (title ++ x) p.bodies (p.begun title u)));
  is = p.is;
}
  where
    go : (title : List ℕ) → ((n ≡ 1) × Frame (string_head text) (IsBody text) ((title ++ x) ++ 255 ∷ []) p.bodies)
        ⊎ ((m : ℕ) × (n ≡ m + 1) × (1 ≤ m) × Opened (string_head text) (IsBody text) m ((title ++ x) ++ 255 ∷ []) p.bodies)
        → Opened (string_head text) (IsBody text) (n - 1) ((title ++ x) ++ 255 ∷ []) p.bodies
    go title (inl w) = absurd (not w.0)
    go title (inr (m, e, l, o)) = let f : m ≡ n - 1 = omega arith in subst (λ (z : ℕ). Opened (string_head text) (IsBody text) z ((title ++ x) ++ 255 ∷ []) p.bodies) f o

pub open_done : (text : Bool) (n : ℕ) (items x y : List ℕ) → OpenAfterHead text n items x → Title y Break → n ≡ 1 → StringAfterHead text None items (x ++ y)
open_done text n items x y p t one = record {
  bodies = p.bodies;
  frame = λ title u. subst (λ (z : List ℕ). Frame (string_head text) (IsBody text) z p.bodies) (append_assoc title x (255 ∷ []) ∙ ap (λ z. title ++ (x ++ z)) (sym t))
      (go title (closed (string_head text) (IsBody text) n (title ++ x) p.bodies (p.begun title u)));
  is = p.is;
}
  where
    go : (title : List ℕ) → ((n ≡ 1) × Frame (string_head text) (IsBody text) ((title ++ x) ++ 255 ∷ []) p.bodies)
        ⊎ ((m : ℕ) × (n ≡ m + 1) × (1 ≤ m) × Opened (string_head text) (IsBody text) m ((title ++ x) ++ 255 ∷ []) p.bodies)
        → Frame (string_head text) (IsBody text) ((title ++ x) ++ 255 ∷ []) p.bodies
    go title (inl w) = w.1
    go title (inr (m, e, l, o)) = absurd (omega arith)

pub chunk_done : (text : Bool) (n : ℕ) (old items body : List ℕ) → old ≡ [] → ChunkBody text n old items body → StringAfterHead text (Some n) items body
chunk_done text n old items body e c = record {
  bodies = body ∷ [];
  frame = λ title t. chunk_frame text n title body t c.len c.has;
  is = c.is ∙ ap (λ z. z ++ body) e ∙ append_nil body;
}

-- a fault at a part of an open string is one of the string
fails_part : {E : Type 0} (ends : E → Bool) (text : Bool) (n at : ℕ) (items : List ℕ) (l₀ l₁ : Option (List ℕ)) (o₀ o₁ o₂ : ℕ) (e : Error E)
    → Moves l₀ l₁ o₀ o₁ (λ (b : List ℕ). OpenAfterHead text n items b) → IfKnown l₁ (λ b. FailsAt ends b o₁ o₂ (PartDamage (string_head text) (IsBody text)) e)
    → FailsAfterTitle ends (string_head text None) at o₀ l₀ o₂ (StringDamage (string_head text) (IsBody text)) e
fails_part ends text n at items l₀ l₁ o₀ o₁ o₂ e t w =
    behind_title ends (string_head text None) at l₀ o₀ o₂ (StringDamage (string_head text) (IsBody text)) e (λ title u.
    fails_behind ends l₀ l₁ o₀ o₁ o₂ (λ b. OpenAfterHead text n items b) (PartDamage (string_head text) (IsBody text)) (λ stop b f. StringDamage (string_head text) (IsBody text) stop (title ++ b) f) e t
    (λ stop x rest f p d. inr (rest, record { opens = n; read = title ++ x; bodies = p.bodies; is = p.begun title u; whole = sym (append_assoc title x rest) }, d)) w)

pub open_title_fails : {E : Type 0} (ends : E → Bool) (text : Bool) (n at : ℕ) (items : List ℕ) (l₀ l₁ : Option (List ℕ)) (o₀ o₁ o₂ : ℕ) (e : Error E)
    → Moves l₀ l₁ o₀ o₁ (λ (b : List ℕ). OpenAfterHead text n items b) → IfKnown l₁ (λ b. FailsAt ends b o₁ o₂ TitleDamage e)
    → FailsAfterTitle ends (string_head text None) at o₀ l₀ o₂ (StringDamage (string_head text) (IsBody text)) e
open_title_fails ends text n at items l₀ l₁ o₀ o₁ o₂ e t w =
    fails_part ends text n at items l₀ l₁ o₀ o₁ o₂ e t (known_as ends l₁ o₁ o₂ TitleDamage (PartDamage (string_head text) (IsBody text)) e (λ stop b f d. part_title f d) w)

pub open_chunk_fails : {E : Type 0} (ends : E → Bool) (text : Bool) (n m at place : ℕ) (items : List ℕ) (l₀ l₁ l₂ : Option (List ℕ)) (o₀ o₁ o₂ o₃ : ℕ) (h : Header) (e : Error E)
    → Moves l₀ l₁ o₀ o₁ (λ (b : List ℕ). OpenAfterHead text n items b) → Moves l₁ l₂ o₁ o₂ (λ (b : List ℕ). Title b h) → h ≡ string_head text (Some m) → place ≡ o₁
    → FailsAfterTitle ends (string_head text (Some m)) place o₂ l₂ o₃ (ChunkDamage (string_head text) (IsBody text)) e
    → FailsAfterTitle ends (string_head text None) at o₀ l₀ o₃ (StringDamage (string_head text) (IsBody text)) e
open_chunk_fails ends text n m at place items l₀ l₁ l₂ o₀ o₁ o₂ o₃ h e t u is same w =
    fails_part ends text n at items l₀ l₁ o₀ o₁ o₃ e t (known_as ends l₁ o₁ o₃ (ChunkDamage (string_head text) (IsBody text)) (PartDamage (string_head text) (IsBody text)) e (λ stop b f d. part_body f d)
    (fails_titled ends l₁ l₂ o₁ o₂ o₃ (string_head text (Some m)) (ChunkDamage (string_head text) (IsBody text)) e
    (subst (λ (z : Header). Moves l₁ l₂ o₁ o₂ (λ (b : List ℕ). Title b z)) is u)
    (subst (λ (z : ℕ). FailsAfterTitle ends (string_head text (Some m)) z o₂ l₂ o₃ (ChunkDamage (string_head text) (IsBody text)) e) same w)))

pub open_other_fails : {E : Type 0} (ends : E → Bool) (text : Bool) (n at place : ℕ) (items : List ℕ) (l₀ l₁ l₂ : Option (List ℕ)) (o₀ o₁ o₂ : ℕ) (h : Header)
    → Moves l₀ l₁ o₀ o₁ (λ (b : List ℕ). OpenAfterHead text n items b) → Moves l₁ l₂ o₁ o₂ (λ (b : List ℕ). Title b h) → (h ≢ Break) × ((o : Option ℕ) → h ≢ string_head text o) → place ≡ o₁
    → FailsAfterTitle {E = E} ends (string_head text None) at o₀ l₀ o₂ (StringDamage (string_head text) (IsBody text)) (code.Syntax place)
open_other_fails ends text n at place items l₀ l₁ l₂ o₀ o₁ o₂ h t u other same =
    fails_part ends text n at items l₀ l₁ o₀ o₁ o₂ (code.Syntax place) t (go l₁ l₂ u)
  where
    go : (l₁ l₂ : Option (List ℕ)) → Moves l₁ l₂ o₁ o₂ (λ (b : List ℕ). Title b h) → IfKnown l₁ (λ b. FailsAt ends b o₁ o₂ (PartDamage (string_head text) (IsBody text)) (code.Syntax place))
    go None l₂ u = tt
    go (Some b) None u = absurd u.taken
    go (Some b) (Some rest) u = no_part h rest place (record { title = u.bytes; is_title = u.has; whole = u.taken }) other.0 other.1 (ap (λ z. z + length b) same)

-- a definite text that is no UTF-8
pub utf8_fails : {E : Type 0} (ends : E → Bool) (n at : ℕ) (l l' : Option (List ℕ)) (o o' : ℕ) (old new : List ℕ) (bad : List ℕ)
    → Moves l l' o o' (λ (b : List ℕ). (length b ≡ n) × (new ≡ old ++ b)) → ((b : List ℕ) → new ≡ old ++ b → b ≡ bad) → (IsUtf8 bad → ⊥)
    → FailsAfterTitle {E = E} ends (Text (Some n)) at o l o' (ChunkDamage Text IsUtf8) (code.Syntax at)
utf8_fails ends n at None l' o o' old new bad t same not title u g = tt
utf8_fails ends n at (Some b) None o o' old new bad t same not title u g = absurd t.taken
utf8_fails ends n at (Some b) (Some rest) o o' old new bad t same not title u g =
    bad_body n at b (record { title = title; is_title = u; whole = refl }) never refl
  where
    front : take n b ≡ t.bytes
    front = ap (λ z. take z b) (sym t.has.0) ∙ ap (λ z. take (length t.bytes) z) t.taken ∙ take-append_seam t.bytes rest

    none : (more : List ℕ) → length (t.bytes ++ more) ≡ n → more ≡ []
    none [] e = refl
    none (x ∷ xs) e = absurd (omega (arith, length-append t.bytes (x ∷ xs), t.has.0))

    never : Never IsUtf8 n b
    never more len has =
        let len' : length (t.bytes ++ more) ≡ n = subst (λ (z : List ℕ). length (z ++ more) ≡ n) front len in
        let m = none more len' in
        let has' : IsUtf8 (t.bytes ++ more) = subst (λ (z : List ℕ). IsUtf8 (z ++ more)) front has in
        let has2 : IsUtf8 (t.bytes ++ []) = subst (λ (z : List ℕ). IsUtf8 (t.bytes ++ z)) m has' in
        let has3 : IsUtf8 t.bytes = subst IsUtf8 (sym (append_nil t.bytes)) has2 in
        not (subst IsUtf8 (same t.bytes t.has.1) has3)

-- the steps of the loop over an open string
some_cons : (b : List ℕ) (x : ℕ) (xs : List ℕ) → b ≡ x ∷ xs → 0 < length b
some_cons b x xs e = let f : length b ≡ length (x ∷ xs) = ap length e in omega arith

pub title_some : (b : List ℕ) (h : Header) → Title b h → 0 < length b
title_some b (all.Positive n) t = some_cons _ _ _ t.1.1
title_some b (all.Negative n) t = some_cons _ _ _ t.1.1
title_some b (all.Bytes None) t = some_cons _ _ _ t
title_some b (all.Bytes (Some n)) t = some_cons _ _ _ t.1.1.1
title_some b (all.Text None) t = some_cons _ _ _ t
title_some b (all.Text (Some n)) t = some_cons _ _ _ t.1.1.1
title_some b (all.Array None) t = some_cons _ _ _ t
title_some b (all.Array (Some n)) t = some_cons _ _ _ t.1.1.1
title_some b (all.Map None) t = some_cons _ _ _ t
title_some b (all.Map (Some n)) t = some_cons _ _ _ t.1.1.1
title_some b (all.Tag n) t = some_cons _ _ _ t.1.1
title_some b (all.Simple n) t = some_cons _ _ _ t.2.1
title_some b (all.Float (width.Half n)) t = some_cons _ _ _ t.1
title_some b (all.Float (width.Single n)) t = some_cons _ _ _ t.1
title_some b (all.Float (width.Double n)) t = some_cons _ _ _ t.1
title_some b all.Break t = some_cons _ _ _ t

-- the title alone, of what was taken
pub titled : (l₁ l₂ : Option (List ℕ)) (o₁ o₂ : ℕ) (h : Header) (S : List ℕ → Type 0) → Moves l₁ l₂ o₁ o₂ (λ (b : List ℕ). Title b h × S b) → Moves l₁ l₂ o₁ o₂ (λ (b : List ℕ). Title b h)
titled l₁ l₂ o₁ o₂ h S t = takes_as l₁ l₂ o₁ o₂ _ _ t (λ x p. p.0)

pub title_grows : (l₁ l₂ : Option (List ℕ)) (o₁ o₂ : ℕ) (h : Header) → Moves l₁ l₂ o₁ o₂ (λ (b : List ℕ). Title b h) → o₁ < o₂
title_grows l₁ l₂ o₁ o₂ h t = let s = title_some t.bytes h t.has in let g = t.grown in omega arith

pub step_done : (text : Bool) (n : ℕ) (items : List ℕ) (h : Header) (l₀ l₁ l₂ : Option (List ℕ)) (o₀ o₁ o₂ : ℕ) → Moves l₀ l₁ o₀ o₁ (λ (b : List ℕ). OpenAfterHead text n items b)
    → Moves l₁ l₂ o₁ o₂ (λ (b : List ℕ). Title b h) → h ≡ Break → n ≡ 1 → Moves l₀ l₂ o₀ o₂ (λ (b : List ℕ). StringAfterHead text None items b)
step_done text n items h l₀ l₁ l₂ o₀ o₁ o₂ t u e one = takes_then l₀ l₁ l₂ o₀ o₁ o₂ _ _ _ t u (λ x y p q. open_done text n items x y p (subst (λ (z : Header). Title y z) e q) one)

pub step_less : (text : Bool) (n m : ℕ) (items : List ℕ) (h : Header) (l₀ l₁ l₂ : Option (List ℕ)) (o₀ o₁ o₂ : ℕ) → Moves l₀ l₁ o₀ o₁ (λ (b : List ℕ). OpenAfterHead text n items b)
    → Moves l₁ l₂ o₁ o₂ (λ (b : List ℕ). Title b h) → h ≡ Break → n ≢ 1 → n - 1 ≡ m → Moves l₀ l₂ o₀ o₂ (λ (b : List ℕ). OpenAfterHead text m items b)
step_less text n m items h l₀ l₁ l₂ o₀ o₁ o₂ t u e not is = takes_then l₀ l₁ l₂ o₀ o₁ o₂ _ _ _ t u (λ x y p q.
    subst (λ (k : ℕ). OpenAfterHead text k items (x ++ y)) is (open_less text n items x y p (subst (λ (z : Header). Title y z) e q) not))

pub step_more : (text : Bool) (n : ℕ) (items : List ℕ) (h : Header) (l₀ l₁ l₂ : Option (List ℕ)) (o₀ o₁ o₂ : ℕ) → Moves l₀ l₁ o₀ o₁ (λ (b : List ℕ). OpenAfterHead text n items b)
    → Moves l₁ l₂ o₁ o₂ (λ (b : List ℕ). Title b h) → h ≡ string_head text None → Moves l₀ l₂ o₀ o₂ (λ (b : List ℕ). OpenAfterHead text (n + 1) items b)
step_more text n items h l₀ l₁ l₂ o₀ o₁ o₂ t u e = takes_then l₀ l₁ l₂ o₀ o₁ o₂ _ _ _ t u (λ x y p q. open_more text n items x y p (subst (λ (z : Header). Title y z) e q))

pub step_chunk : (text : Bool) (n m : ℕ) (items items' : List ℕ) (h : Header) (l₀ l₁ l₂ l₃ : Option (List ℕ)) (o₀ o₁ o₂ o₃ : ℕ) → Moves l₀ l₁ o₀ o₁ (λ (b : List ℕ). OpenAfterHead text n items b)
    → Moves l₁ l₂ o₁ o₂ (λ (b : List ℕ). Title b h) → h ≡ string_head text (Some m) → Moves l₂ l₃ o₂ o₃ (λ (b : List ℕ). ChunkBody text m items items' b)
    → Moves l₀ l₃ o₀ o₃ (λ (b : List ℕ). OpenAfterHead text n items' b)
step_chunk text n m items items' h l₀ l₁ l₂ l₃ o₀ o₁ o₂ o₃ t u e w =
    takes_then l₀ l₁ l₃ o₀ o₁ o₃ _ (λ z. (x y : List ℕ) × Title x h × ChunkBody text m items items' y × (z ≡ x ++ y)) _ t
    (takes_then l₁ l₂ l₃ o₁ o₂ o₃ _ _ _ u w (λ x y p q. (x, y, p, q, refl)))
    (λ x z p q. subst (λ (r : List ℕ). OpenAfterHead text n items' (x ++ r)) (sym q.4) (open_chunk text n m items items' x q.0 q.1 p (subst (λ (r : Header). Title q.0 r) e q.2) q.3))

-- what is held after one more body
pub chunk_earned : (text : Bool) (n : ℕ) (items items' : List ℕ) (l l' : Option (List ℕ)) (o o' capacity : ℕ)
    → Moves l l' o o' (λ (b : List ℕ). ChunkBody text n items items' b) → IsEarnedSince (length items) o o' capacity → IsEarned (length items') capacity
chunk_earned text n items items' l l' o o' capacity t e = omega (arith, t.grown, ap length t.has.is, length-append items t.bytes)

pub utf8_no : {S T : Type 0} (r : Result S T) (P : S → Type 0) (Q : T → Type 0) (bad : List ℕ) (w : MatchResult r P (λ e. (IsUtf8 bad → ⊥) × Q e)) (v : Bool) → v ≡ is_err r → v ≡ true → IsUtf8 bad → ⊥
utf8_no (Ok x) P Q bad w v e f = let k : false ≡ true = sym e ∙ f in λ u. absurd (false≢true k)
utf8_no (Err x) P Q bad w v e f = w.0

pub utf8_fails_at : {E : Type 0} (ends : E → Bool) (text : Bool) (n at start : ℕ) (l l' : Option (List ℕ)) (o o' : ℕ) (old new d : List ℕ) → text ≡ true
    → Moves l l' o o' (λ (b : List ℕ). (length b ≡ n) × (new ≡ old ++ b)) → start ≡ length old → d ≡ new → (IsUtf8 (take (length d - start) (drop start d)) → ⊥)
    → FailsAfterTitle {E = E} ends (string_head text (Some n)) at o l o' (ChunkDamage (string_head text) (IsBody text)) (code.Syntax at)
utf8_fails_at ends true n at start l l' o o' old new d is t same e not =
    utf8_fails ends n at l l' o o' old new (take (length d - start) (drop start d)) t go not
  where
    go : (b : List ℕ) → new ≡ old ++ b → b ≡ take (length d - start) (drop start d)
    go b f =
        let g : d ≡ old ++ b = e ∙ f in
        let h : drop start d ≡ b = ap (λ z. drop z d) same ∙ ap (drop (length old)) g ∙ drop-append_seam old b in
        let len : length d - start ≡ length b = omega (arith, ap length g, length-append old b, same) in
        sym (ap (λ z. take z (drop start d)) len ∙ ap (take (length b)) h ∙ take-length b)
utf8_fails_at ends false n at start l l' o o' old new d is t same e not = absurd (false≢true is)

-- fewer bytes than a head says
past_title : (title b : List ℕ) (at o o' : ℕ) → 0 < length title → at + length title ≡ o → o ≤ o' → EndPlace (title ++ b) at o'
past_title [] b at o o' some e l = absurd (omega arith)
past_title (x ∷ xs) b at o o' some e l = omega arith

short_body : (k : Option ℕ → Header) (P : List ℕ → Type 0) (n stop : ℕ) (title b : List ℕ) (f : Fault) → Title title (k (Some n)) → ShortBy n b f → ChunkDamage k P stop (title ++ b) f
short_body k P n stop title b f t (is, l) = subst (λ (z : Fault). ChunkDamage k P stop (title ++ b) z) (sym is) (cut_body n b (record { title = title; is_title = t; whole = refl }) l)

pub short_fails : {E : Type 0} (ends : E → Bool) (k : Option ℕ → Header) (P : List ℕ → Type 0) (n at : ℕ) (l : Option (List ℕ)) (o o' : ℕ) (e : Error E)
    → IfKnown l (λ b. Fails ends (o ≤ o') (ShortBy n b) (IsLong o b) e) → FailsAfterTitle ends (k (Some n)) at o l o' (ChunkDamage k P) e
short_fails ends k P n at None o o' e w title t g = tt
short_fails ends k P n at (Some b) o o' e w title t g =
    fails_as ends _ _ _ _ _ _ e (past_title title b at o o' (title_some title (k (Some n)) t) g) (λ f d. short_body k P n (at + length (title ++ b)) title b f t d) (λ l. omega (arith, length-append title b)) w

-- a fault of a definite string is one of the string
pub chunk_is : {E : Type 0} (ends : E → Bool) (k : Option ℕ → Header) (P : List ℕ → Type 0) (n at : ℕ) (l : Option (List ℕ)) (o o' : ℕ) (e : Error E) → FailsAfterTitle ends (k (Some n)) at o l o' (ChunkDamage k P) e
    → FailsAfterTitle ends (k (Some n)) at o l o' (StringDamage k P) e
chunk_is ends k P n at l o o' e w = behind_as ends (k (Some n)) at l o o' (ChunkDamage k P) (StringDamage k P) e (λ stop b f d. inl d) w

-- a definite text
pub whole_text : (n : ℕ) (items old new body : List ℕ) → old ≡ [] → items ≡ new → (length body ≡ n) × (new ≡ old ++ body) → IsUtf8 items → StringAfterHead true (Some n) items body
whole_text n items old new body e f p u =
    let g : items ≡ body = f ∙ p.1 ∙ ap (λ z. z ++ body) e in
    chunk_done true n old items body e (record { has = subst IsUtf8 g u; len = p.0; is = f ∙ p.1 })

pub whole_text_fails : {E : Type 0} (ends : E → Bool) (n at : ℕ) (l l' : Option (List ℕ)) (o o' : ℕ) (old new : List ℕ) → old ≡ []
    → Moves l l' o o' (λ (b : List ℕ). (length b ≡ n) × (new ≡ old ++ b)) → (IsUtf8 new → ⊥) → FailsAfterTitle {E = E} ends (Text (Some n)) at o l o' (StringDamage Text IsUtf8) (code.Syntax at)
whole_text_fails ends n at l l' o o' old new e t not = chunk_is ends Text IsUtf8 n at l o o' (code.Syntax at) (utf8_fails ends n at l l' o o' old new new t (λ b f. sym (f ∙ ap (λ z. z ++ b) e)) not)
