-- Bytes that begin with the head of a string begin with the string, or have a fault of it.
use Rattle.std.proofs.Common.{◌≡◌, ◌≢◌, ◌≤◌, ◌<◌, ◌+◌, ◌-◌, ◌⊎◌, inl, inr, ℕ, zero, suc, true, false, List, [], ◌∷◌, ◌++◌, length, take, drop, Option, None, Some, refl, sym, ap, subst, ◌∙◌, arith, append_assoc, length-append}
use Rattle.std.specs.List.{All}
use Rattle.std.specs.Str.{IsUtf8, is_utf8}
use Rattle.std.proofs.lemmas.Str.{IsUtf8-from_is_utf8, is_utf8-from_IsUtf8}
use Rattle.std.proofs.lemmas.Bool.{cases_lt, cases_Bool, both_ways}
use Rattle.std.proofs.lemmas.List.{take-append-drop, length-take-le}
use Rattle.std.proofs.lemmas.List.Elements.{All-drop, All-same}
use Rattle.std.proofs.Math.Seq.{drop-append_seam}
use Rattle.ciborium_ll.specs.declared.hdr.Header.{Header}
use Rattle.ciborium_ll.specs.declared.hdr.Header.TheVariants.{Positive, Negative, Float, Simple, Tag, Break, Bytes, Text, Array, Map}
use Rattle.ciborium_ll.specs.Title.{Title, Begins}
use Rattle.ciborium_ll.proofs.Titled.{TitleCase, begins, is_cut, starts_bad, title_case}
use Rattle.ciborium_ll.specs.Framing.{Frame, whole, cut, no_frames, Any, Opened, opened, Inside}
use Rattle.ciborium.specs.Damage.{Fault, end, syntax, Never, cut_title, bad_title, ChunkDamage, cut_body, bad_body, part_title, part_body, no_part, StringDamage}
use Rattle.ciborium.proofs.Once.{append_nil, head_kind, kind_0, kind_1}
use Rattle.ciborium.proofs.StringLemmas.{opened_then, opened_more, closed, title_some}

-- what a header is inside an open string of the kind k
pub data PartCase (k : Option ℕ → Header) (h : Header) : Type 0 where
  closes : h ≡ Break → PartCase k h
  of_kind : (o : Option ℕ) → h ≡ k o → PartCase k h
  other : h ≢ Break → ((o : Option ℕ) → h ≢ k o) → PartCase k h

-- a string in front of the bytes
pub record StringFront (k : Option ℕ → Header) (P : List ℕ → Type 0) (b : List ℕ) : Type 0 where
  pub read : List ℕ
  pub rest : List ℕ
  pub bodies : List (List ℕ)
  pub frame : Frame k P read bodies
  pub whole : b ≡ read ++ rest

data ChunkCase (k : Option ℕ → Header) (P : List ℕ → Type 0) (stop : ℕ) (b : List ℕ) : Type 0 where
  chunk_front : StringFront k P b → ChunkCase k P stop b
  chunk_fault : (e : Fault) → ChunkDamage k P stop b e → ChunkCase k P stop b

pub data StringCase (k : Option ℕ → Header) (P : List ℕ → Type 0) (stop : ℕ) (b : List ℕ) : Type 0 where
  string_front : StringFront k P b → StringCase k P stop b
  string_fault : (e : Fault) → StringDamage k P stop b e → StringCase k P stop b

-- what is left of some bytes is bytes, and shorter
pub bytes_behind : (b a rest : List ℕ) → b ≡ a ++ rest → All (λ x. x < 256) b → All (λ x. x < 256) rest
bytes_behind b a rest e low =
    All-same (λ x. x < 256) rest (drop (length a) b) (sym (ap (drop (length a)) e ∙ drop-append_seam a rest)) (All-drop (λ x. x < 256) (length a) b low)

pub shorter : (b a rest : List ℕ) → b ≡ a ++ rest → 0 < length a → length rest < length b
shorter b a rest e some = omega (arith, ap length e, length-append a rest)

pub no_longer : (b a rest : List ℕ) → b ≡ a ++ rest → length rest ≤ length b
no_longer b a rest e = omega (arith, ap length e, length-append a rest)

module _ (k : Option ℕ → Header) (P : List ℕ → Type 0) where
  frame_some : (a : List ℕ) (xs : List (List ℕ)) → Frame k P a xs → 0 < length a
  frame_some _ _ (whole a body title t has e) = let s = title_some title _ t in omega (arith, ap length e, length-append title body, s)
  frame_some _ _ (cut a inner title xs t fs e) =
      let s = title_some title _ t in omega (arith, ap length e, length-append (title ++ inner) (255 ∷ []), length-append title inner, s)

  module _ (decides : (b : List ℕ) → P b ⊎ (P b → ⊥)) (parts : (h : Header) → PartCase k h) where
    chunk_case : (stop n : ℕ) (b rest : List ℕ) → Begins b (k (Some n)) rest → length b ≤ stop → ChunkCase k P stop b
    chunk_case stop n b rest s within = by_length (cases_lt (length rest) n)
      where
        yes : n ≤ length rest → P (take n rest) → ChunkCase k P stop b
        yes l has = chunk_front (record {
          read = s.title ++ take n rest;
          rest = drop n rest;
          bodies = take n rest ∷ [];
          frame = whole _ (take n rest) s.title (subst (λ (z : ℕ). Title s.title (k (Some z))) (sym (length-take-le n rest l)) s.is_title) has refl;
          whole = s.whole ∙ ap (λ z. s.title ++ z) (sym (take-append-drop n rest)) ∙ sym (append_assoc s.title (take n rest) (drop n rest));
        })

        none : (xs more : List ℕ) → length xs ≡ n → length (xs ++ more) ≡ n → more ≡ []
        none xs [] e f = refl
        none xs (y ∷ ys) e f = absurd (omega (arith, length-append xs (y ∷ ys), e, f))

        no : n ≤ length rest → (P (take n rest) → ⊥) → ChunkCase k P stop b
        no l not =
            let never : Never P n rest = λ more len has.
            not (subst P (sym (append_nil (take n rest))) (subst (λ (z : List ℕ). P (take n rest ++ z)) (none (take n rest) more (length-take-le n rest l) len) has)) in
            chunk_fault (syntax (stop - length b)) (bad_body n (stop - length b) rest s never (omega arith))

        by_body : n ≤ length rest → P (take n rest) ⊎ (P (take n rest) → ⊥) → ChunkCase k P stop b
        by_body l (inl has) = yes l has
        by_body l (inr not) = no l not

        by_length : (length rest < n) ⊎ (n ≤ length rest) → ChunkCase k P stop b
        by_length (inl l) = chunk_fault end (cut_body n rest s l)
        by_length (inr l) = by_body l (decides (take n rest))

    abbrev Again : ℕ → List ℕ → List ℕ → Type 0
    Again stop b rest = (read rest' : List ℕ) (n : ℕ) (bodies : List (List ℕ)) → length rest' < length rest → All (λ x. x < 256) rest' → Opened k P n read bodies → b ≡ read ++ rest' → StringCase k P stop b

    open_step : (stop n : ℕ) (b read rest : List ℕ) (bodies : List (List ℕ)) → length rest ≤ stop → All (λ x. x < 256) rest → Opened k P n read bodies → b ≡ read ++ rest → Again stop b rest → StringCase k P stop b
    open_step stop n b read rest bodies within low o w again = by_title (title_case rest low)
      where
        inside : Inside k P b rest
        inside = record { opens = n; read = read; bodies = bodies; is = o; whole = w }

        after_chunk : ChunkCase k P stop rest → StringCase k P stop b
        after_chunk (chunk_fault e d) = string_fault e (inr (rest, inside, part_body e d))
        after_chunk (chunk_front f) =
            again (read ++ f.read) f.rest n (bodies ++ f.bodies) (shorter rest f.read f.rest f.whole (frame_some f.read f.bodies f.frame)) (bytes_behind rest f.read f.rest f.whole low)
            (opened_then k P n read f.read bodies f.bodies o f.frame) (w ∙ ap (λ z. read ++ z) f.whole ∙ sym (append_assoc read f.read f.rest))

        after_close : (r : List ℕ) → rest ≡ 255 ∷ r → ((n ≡ 1) × Frame k P (read ++ 255 ∷ []) bodies) ⊎ ((m : ℕ) × (n ≡ m + 1) × (1 ≤ m) × Opened k P m (read ++ 255 ∷ []) bodies) → StringCase k P stop b
        after_close r e (inl f) = string_front (record { read = read ++ 255 ∷ []; rest = r; bodies = bodies; frame = f.1; whole = w ∙ ap (λ z. read ++ z) e ∙ sym (append_assoc read (255 ∷ []) r) })
        after_close r e (inr (m, _, _, p)) =
            again (read ++ 255 ∷ []) r m bodies (shorter rest (255 ∷ []) r e (omega arith)) (bytes_behind rest (255 ∷ []) r e low) p (w ∙ ap (λ z. read ++ z) e ∙ sym (append_assoc read (255 ∷ []) r))

        by_size : (h : Header) (r : List ℕ) → Begins rest h r → (l : Option ℕ) → h ≡ k l → StringCase k P stop b
        by_size h r s (Some m) e = after_chunk (chunk_case stop m rest r (subst (λ (z : Header). Begins rest z r) e s) within)
        by_size h r s None e =
            again (read ++ s.title) r (n + 1) bodies (shorter rest s.title r s.whole (title_some s.title h s.is_title)) (bytes_behind rest s.title r s.whole low)
            (opened_more k P n read s.title bodies o (subst (λ (z : Header). Title s.title z) e s.is_title)) (w ∙ ap (λ z. read ++ z) s.whole ∙ sym (append_assoc read s.title r))

        by_part : (h : Header) (r : List ℕ) → Begins rest h r → PartCase k h → StringCase k P stop b
        by_part h r s (closes e) = let t : Title s.title Break = subst (λ (z : Header). Title s.title z) e s.is_title in after_close r (s.whole ∙ ap (λ z. z ++ r) t) (closed k P n read bodies o)
        by_part h r s (of_kind l e) = by_size h r s l e
        by_part h r s (other p q) = string_fault (syntax (stop - length rest)) (inr (rest, inside, no_part h r (stop - length rest) s p q (omega arith)))

        by_title : TitleCase rest → StringCase k P stop b
        by_title (is_cut c) = string_fault end (inr (rest, inside, part_title end (cut_title c)))
        by_title (starts_bad c) = string_fault (syntax (stop - length rest)) (inr (rest, inside, part_title _ (bad_title (stop - length rest) c (omega arith))))
        by_title (begins h r s) = by_part h r s (parts h)

    open_case : (m stop n : ℕ) (b read rest : List ℕ) (bodies : List (List ℕ)) → length rest < m → length rest ≤ stop → All (λ x. x < 256) rest → Opened k P n read bodies → b ≡ read ++ rest → StringCase k P stop b
    open_case zero stop n b read rest bodies few within low o w = absurd (omega arith)
    open_case (suc m) stop n b read rest bodies few within low o w =
        open_step stop n b read rest bodies within low o w (λ read' rest' n' bodies' l low' o' w'. open_case m stop n' b read' rest' bodies' (omega arith) (omega arith) low' o' w')

    string_case : (stop : ℕ) (b rest : List ℕ) (l : Option ℕ) → Begins b (k l) rest → length b ≤ stop → All (λ x. x < 256) b → StringCase k P stop b
    string_case stop b rest (Some n) s within low = by_chunk (chunk_case stop n b rest s within)
      where
        by_chunk : ChunkCase k P stop b → StringCase k P stop b
        by_chunk (chunk_front f) = string_front f
        by_chunk (chunk_fault e d) = string_fault e (inl d)
    string_case stop b rest None s within low =
        let l : length rest ≤ length b = no_longer b s.title rest s.whole in
        open_case (suc (length rest)) stop 1 b (s.title ++ []) rest [] (omega arith) (omega arith) (bytes_behind b s.title rest s.whole low)
        (opened s.title [] [] s.is_title no_frames) (s.whole ∙ ap (λ z. z ++ rest) (append_nil s.title))

-- headers by their kind
other_kind : (k : Option ℕ → Header) (n m : ℕ) (h : Header) → ((o : Option ℕ) → head_kind (k o) ≡ n) → head_kind h ≡ m → m ≢ n → m < 8 → PartCase k h
unfolding head_kind
other_kind k n m h kinds e p l = other (λ f. let g : m ≡ 8 = sym e ∙ ap head_kind f in omega arith) (λ o f. p (sym e ∙ ap head_kind f ∙ kinds o))

pub bytes_part : (h : Header) → PartCase Bytes h
unfolding head_kind
bytes_part Break = closes refl
bytes_part (Bytes o) = of_kind o refl
bytes_part (Text o) = other_kind Bytes 1 2 (Text o) kind_0 refl (omega arith) (omega arith)
bytes_part (Array o) = other_kind Bytes 1 3 (Array o) kind_0 refl (omega arith) (omega arith)
bytes_part (Map o) = other_kind Bytes 1 4 (Map o) kind_0 refl (omega arith) (omega arith)
bytes_part (Tag n) = other_kind Bytes 1 5 (Tag n) kind_0 refl (omega arith) (omega arith)
bytes_part (Simple n) = other_kind Bytes 1 6 (Simple n) kind_0 refl (omega arith) (omega arith)
bytes_part (Float f) = other_kind Bytes 1 7 (Float f) kind_0 refl (omega arith) (omega arith)
bytes_part (Positive n) = other_kind Bytes 1 0 (Positive n) kind_0 refl (omega arith) (omega arith)
bytes_part (Negative n) = other_kind Bytes 1 0 (Negative n) kind_0 refl (omega arith) (omega arith)

text_part : (h : Header) → PartCase Text h
unfolding head_kind
text_part Break = closes refl
text_part (Text o) = of_kind o refl
text_part (Bytes o) = other_kind Text 2 1 (Bytes o) kind_1 refl (omega arith) (omega arith)
text_part (Array o) = other_kind Text 2 3 (Array o) kind_1 refl (omega arith) (omega arith)
text_part (Map o) = other_kind Text 2 4 (Map o) kind_1 refl (omega arith) (omega arith)
text_part (Tag n) = other_kind Text 2 5 (Tag n) kind_1 refl (omega arith) (omega arith)
text_part (Simple n) = other_kind Text 2 6 (Simple n) kind_1 refl (omega arith) (omega arith)
text_part (Float f) = other_kind Text 2 7 (Float f) kind_1 refl (omega arith) (omega arith)
text_part (Positive n) = other_kind Text 2 0 (Positive n) kind_1 refl (omega arith) (omega arith)
text_part (Negative n) = other_kind Text 2 0 (Negative n) kind_1 refl (omega arith) (omega arith)

-- a body is UTF-8 or it is not
utf8_case : (b : List ℕ) → IsUtf8 b ⊎ (IsUtf8 b → ⊥)
utf8_case b = by_test (cases_Bool (is_utf8 b))
  where
    by_test : (is_utf8 b ≡ true) ⊎ (is_utf8 b ≡ false) → IsUtf8 b ⊎ (IsUtf8 b → ⊥)
    by_test (inl e) = inl (IsUtf8-from_is_utf8 b e)
    by_test (inr e) = inr (λ u. both_ways (is_utf8 b) e (is_utf8-from_IsUtf8 b u))

pub bytes_case : (stop : ℕ) (b rest : List ℕ) (l : Option ℕ) → Begins b (Bytes l) rest → length b ≤ stop → All (λ x. x < 256) b → StringCase Bytes Any stop b
bytes_case stop b rest l s within low = string_case Bytes Any (λ x. inl tt) bytes_part stop b rest l s within low

pub text_case : (stop : ℕ) (b rest : List ℕ) (l : Option ℕ) → Begins b (Text l) rest → length b ≤ stop → All (λ x. x < 256) b → StringCase Text IsUtf8 stop b
text_case stop b rest l s within low = string_case Text IsUtf8 utf8_case text_part stop b rest l s within low
