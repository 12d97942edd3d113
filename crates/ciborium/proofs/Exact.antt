-- Damaged bytes begin with no item.
use Rattle.std.proofs.Common.{◌≡◌, ◌≢◌, ◌<◌, ◌⊎◌, inl, inr, ℕ, List, [], ◌∷◌, ◌++◌, length, take, Option, None, Some, refl, sym, ap, subst, ◌∙◌, arith, append_assoc, length-append}
use Rattle.std.proofs.lemmas.List.{append_cancel_left}
use Rattle.std.proofs.Math.Seq.{take-append_seam}
use Rattle.ciborium_ll.specs.declared.hdr.Header.{Header}
use Rattle.ciborium_ll.specs.declared.hdr.Header.TheVariants.{Break}
use Rattle.ciborium_ll.specs.Title.{Title, IsCut, StartsBad}
use Rattle.ciborium_ll.proofs.TitleLaws.{not_cut, not_bad}
use Rattle.ciborium_ll.specs.Framing.{Frame, whole, cut, Frames, no_frames, frame_more}
use Rattle.ciborium.specs.Damage.{Fault, Never, TitleDamage, cut_title, bad_title, ChunkDamage, cut_body, bad_body, PartDamage, part_title, part_body, no_part, StringDamage}
use Rattle.ciborium_ll.specs.Title.{Begins}
use Rattle.ciborium_ll.specs.Framing.{Opened, opened, deeper}
use Rattle.ciborium_ll.proofs.Closings.{break_title}
use Rattle.ciborium_ll.proofs.Framed.{frame_once}
use Rattle.ciborium.proofs.Once.{append_nil, title_once, split, regroup}

-- the frames that are left inside an open string
pub record Closing (k : Option ℕ → Header) (P : List ℕ → Type 0) (rest : List ℕ) : Type 0 where
  pub inner : List ℕ
  pub behind : List ℕ
  pub bodies : List (List ℕ)
  pub frames : Frames k P inner bodies
  pub is : rest ≡ inner ++ (255 ∷ behind)

pub begins_once : (b r s : List ℕ) (h j : Header) → Begins b h r → Begins b j s → h ≡ j
begins_once b r s h j p q = (title_once p.title q.title r s h j p.is_title q.is_title (sym p.whole ∙ q.whole)).0

pub title_not : (stop : ℕ) (b r : List ℕ) (h : Header) (e : Fault) → Begins b h r → TitleDamage stop b e → ⊥
title_not stop b r h _ s (cut_title c) = not_cut s.title r h s.is_title (subst IsCut s.whole c)
title_not stop b r h _ s (bad_title p c _) = not_bad s.title r h s.is_title (subst StartsBad s.whole c)

module _ (k : Option ℕ → Header) (inj : (o p : Option ℕ) → k o ≡ k p → o ≡ p) (unbroken : (o : Option ℕ) → k o ≢ Break) (P : List ℕ → Type 0) where
  frame_begins : (b w : List ℕ) (ys : List (List ℕ)) → Frame k P b ys → (o : Option ℕ) × (r : List ℕ) × Begins (b ++ w) (k o) r
  frame_begins b w ys (whole _ body s p has eb) = (Some (length body), body ++ w, record { title = s; is_title = p; whole = regroup b s body w eb })
  frame_begins b w ys (cut _ j s _ p gs eb) = (None, (j ++ 255 ∷ []) ++ w, record { title = s; is_title = p; whole = regroup b s (j ++ 255 ∷ []) w (eb ∙ append_assoc s j (255 ∷ [])) })

  no_break_frame : (b u v : List ℕ) (ys : List (List ℕ)) → Frame k P b ys → b ++ u ≡ 255 ∷ v → ⊥
  no_break_frame b u v ys f e =
      let m = frame_begins b u ys f in
      unbroken m.0 (begins_once (b ++ u) m.1 v (k m.0) Break m.2 (record { title = 255 ∷ []; is_title = break_title; whole = e }))

  -- frames that were read are the first of those that are there
  walk : (a b rest w : List ℕ) (xs ys : List (List ℕ)) → Frames k P a xs → Frames k P b ys → a ++ rest ≡ b ++ (255 ∷ w) → Closing k P rest
  walk _ b rest w _ ys no_frames g e = record { inner = b; behind = w; bodies = ys; frames = g; is = e }
  walk _ _ rest w _ _ (frame_more c d ps qs f fs) no_frames e = absurd (no_break_frame c (d ++ rest) w ps f (sym (append_assoc c d rest) ∙ e))
  walk _ _ rest w _ _ (frame_more c d ps qs f fs) (frame_more c' d' ps' qs' g gs) e =
      let e' : c ++ (d ++ rest) ≡ c' ++ (d' ++ (255 ∷ w)) = sym (append_assoc c d rest) ∙ e ∙ append_assoc c' d' (255 ∷ w) in
      let h = frame_once k inj unbroken P c c' (d ++ rest) (d' ++ (255 ∷ w)) ps ps' f g e' in
      walk d d' rest w qs qs' fs gs (append_cancel_left c (d ++ rest) (d' ++ (255 ∷ w)) (e' ∙ ap (λ z. z ++ (d' ++ (255 ∷ w))) (sym h.1)))

  -- an open title begins a frame that is cut
  into : (title inner rest b w : List ℕ) (xs ys : List (List ℕ)) → Title title (k None) → Frames k P inner xs → Frame k P b ys → title ++ (inner ++ rest) ≡ b ++ w → Closing k P rest
  into title inner rest b w xs ys t fs (whole _ body s p has eb) e =
      let v = split title b title s [] body (inner ++ rest) w (k None) (k (Some (length body))) t p (append_nil title) eb e in
      let c : None ≡ Some (length body) = inj None (Some (length body)) v.heads in
      cc
  into title inner rest b w xs ys t fs (cut _ j s _ p gs eb) e =
      let v = split title b title s [] (j ++ 255 ∷ []) (inner ++ rest) w (k None) (k None) t p (append_nil title) (eb ∙ append_assoc s j (255 ∷ [])) e in
      walk inner j rest w xs ys fs gs (v.rests ∙ append_assoc j (255 ∷ []) w)

  pub closing : (n : ℕ) (a rest b w : List ℕ) (xs ys : List (List ℕ)) → Opened k P n a xs → Frame k P b ys → a ++ rest ≡ b ++ w → Closing k P rest
  closing _ _ rest b w _ ys (opened title inner xs t fs) g e = into title inner rest b w xs ys t fs g (sym (append_assoc title inner rest) ∙ e)
  closing _ _ rest b w _ ys (deeper n a title inner xs zs o t fs) g e =
      let c = closing n a (title ++ (inner ++ rest)) b w xs ys o g (ap (λ z. a ++ z) (sym (append_assoc title inner rest)) ∙ sym (append_assoc a (title ++ inner) rest) ∙ e) in
      deepen title inner rest zs t fs c.inner c.behind c.bodies c.frames c.is
    where
      deepen : (title inner rest : List ℕ) (zs : List (List ℕ)) → Title title (k None) → Frames k P inner zs → (j u : List ℕ) (vs : List (List ℕ)) → Frames k P j vs → title ++ (inner ++ rest) ≡ j ++ (255 ∷ u) → Closing k P rest
      deepen title inner rest zs t fs _ u _ no_frames e =
          let v = split title (255 ∷ []) title (255 ∷ []) [] [] (inner ++ rest) u (k None) Break t break_title (append_nil title) refl e in
          absurd (unbroken None v.heads)
      deepen title inner rest zs t fs _ u _ (frame_more c d ps qs f gs) e = into title inner rest c (d ++ (255 ∷ u)) zs ps t fs f (e ∙ append_assoc c d (255 ∷ u))

  -- what is at a frame
  begins_no_short : (b w rest : List ℕ) (n : ℕ) (ys : List (List ℕ)) → Frame k P b ys → Begins (b ++ w) (k (Some n)) rest → length rest < n → ⊥
  begins_no_short b w rest n ys (whole _ body s p has eb) t l =
      let v = split b (t.title ++ rest) s t.title body rest w [] (k (Some (length body))) (k (Some n)) p t.is_title eb refl (t.whole ∙ append_nil (t.title ++ rest)) in
      let c : Some (length body) ≡ Some n = inj (Some (length body)) (Some n) v.heads in
      let m : length body ≡ n = cc in
      let r : body ++ w ≡ rest ++ [] = v.rests in
      omega (arith, ap length r, length-append body w, length-append rest [])
  begins_no_short b w rest n ys (cut _ j s _ p gs eb) t l =
      let v = split b (t.title ++ rest) s t.title (j ++ 255 ∷ []) rest w [] (k None) (k (Some n)) p t.is_title (eb ∙ append_assoc s j (255 ∷ [])) refl (t.whole ∙ append_nil (t.title ++ rest)) in
      let c : None ≡ Some n = inj None (Some n) v.heads in
      cc

  begins_no_never : (b w rest : List ℕ) (n : ℕ) (ys : List (List ℕ)) → Frame k P b ys → Begins (b ++ w) (k (Some n)) rest → Never P n rest → ⊥
  begins_no_never b w rest n ys (whole _ body s p has eb) t never =
      let v = split b (t.title ++ rest) s t.title body rest w [] (k (Some (length body))) (k (Some n)) p t.is_title eb refl (t.whole ∙ append_nil (t.title ++ rest)) in
      let c : Some (length body) ≡ Some n = inj (Some (length body)) (Some n) v.heads in
      let m : length body ≡ n = cc in
      let r : rest ≡ body ++ w = append_nil rest ∙ sym v.rests in
      let f : take n rest ++ [] ≡ body = sym (append_nil (take n rest)) ∙ ap (λ z. take z rest) (sym m) ∙ ap (take (length body)) r ∙ take-append_seam body w in
      never [] (ap length f ∙ m) (subst P (sym f) has)
  begins_no_never b w rest n ys (cut _ j s _ p gs eb) t never =
      let v = split b (t.title ++ rest) s t.title (j ++ 255 ∷ []) rest w [] (k None) (k (Some n)) p t.is_title (eb ∙ append_assoc s j (255 ∷ [])) refl (t.whole ∙ append_nil (t.title ++ rest)) in
      let c : None ≡ Some n = inj None (Some n) v.heads in
      cc

  closing_begins : (rest : List ℕ) → Closing k P rest → ((r : List ℕ) × Begins rest Break r) ⊎ ((a u : List ℕ) × (ys : List (List ℕ)) × Frame k P a ys × (rest ≡ a ++ u))
  closing_begins rest c = go c.inner c.bodies c.frames c.is
    where
      go : (j : List ℕ) (vs : List (List ℕ)) → Frames k P j vs → rest ≡ j ++ (255 ∷ c.behind) → ((r : List ℕ) × Begins rest Break r) ⊎ ((a u : List ℕ) × (ys : List (List ℕ)) × Frame k P a ys × (rest ≡ a ++ u))
      go _ _ no_frames e = inl (c.behind, record { title = 255 ∷ []; is_title = break_title; whole = e })
      go _ _ (frame_more a d ps qs f gs) e = inr (a, d ++ (255 ∷ c.behind), ps, f, e ∙ append_assoc a d (255 ∷ c.behind))

  chunk_not : (stop : ℕ) (b w : List ℕ) (e : Fault) (ys : List (List ℕ)) → Frame k P b ys → ChunkDamage k P stop (b ++ w) e → ⊥
  chunk_not stop b w _ ys f (cut_body n rest s l) = begins_no_short b w rest n ys f s l
  chunk_not stop b w _ ys f (bad_body n p rest s never _) = begins_no_never b w rest n ys f s never

  -- no part of a string is damaged at its break
  part_no_break : (stop : ℕ) (b r : List ℕ) (e : Fault) → Begins b Break r → PartDamage k P stop b e → ⊥
  part_no_break stop b r _ s (part_title e d) = title_not stop b r Break e s d
  part_no_break stop b r _ s (part_body _ (cut_body n rest t l)) = unbroken (Some n) (begins_once b rest r (k (Some n)) Break t s)
  part_no_break stop b r _ s (part_body _ (bad_body n p rest t never _)) = unbroken (Some n) (begins_once b rest r (k (Some n)) Break t s)
  part_no_break stop b r _ s (no_part h rest p t other _ _) = other (begins_once b rest r h Break t s)

  -- nor at a string
  part_not : (stop : ℕ) (b w : List ℕ) (e : Fault) (ys : List (List ℕ)) → Frame k P b ys → PartDamage k P stop (b ++ w) e → ⊥
  part_not stop b w _ ys f (part_title e d) = let m = frame_begins b w ys f in title_not stop (b ++ w) m.1 (k m.0) e m.2 d
  part_not stop b w _ ys f (part_body e d) = chunk_not stop b w e ys f d
  part_not stop b w _ ys f (no_part h rest p t _ other _) = let m = frame_begins b w ys f in other m.0 (begins_once (b ++ w) rest m.1 h (k m.0) t m.2)

  -- damage of a string excludes its frame
  pub string_not : (stop : ℕ) (b w : List ℕ) (e : Fault) (ys : List (List ℕ)) → Frame k P b ys → StringDamage k P stop (b ++ w) e → ⊥
  string_not stop b w e ys f (inl d) = chunk_not stop b w e ys f d
  string_not stop b w e ys f (inr (rest, i, d)) = go (closing_begins rest (closing i.opens i.read rest b w i.bodies ys i.is f (sym i.whole)))
    where
      go : ((r : List ℕ) × Begins rest Break r) ⊎ ((a u : List ℕ) × (ys : List (List ℕ)) × Frame k P a ys × (rest ≡ a ++ u)) → ⊥
      go (inl (r, s)) = part_no_break stop rest r e s d
      go (inr (a, u, zs, g, q)) = part_not stop a u e zs g (subst (λ (z : List ℕ). PartDamage k P stop z e) q d)
