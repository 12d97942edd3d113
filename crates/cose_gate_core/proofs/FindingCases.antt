-- What is found of an item is there, and so is a run over each input.
use Rattle.std.proofs.Common.{◌≡◌, ◌≢◌, ℕ, ◌+◌, ◌⊎◌, inl, inr, List, [], ◌∷◌, ◌++◌, length, map, Bool, true, false, Option, Some, None, refl, sym, ap, subst, ◌∙◌}
use Rattle.std.specs.Prelude.{All}
use Rattle.std.proofs.lemmas.Bool.{cases_eq}
use Rattle.std.proofs.lemmas.List.{map-append}
use denote.Bor.{Bor}
use Rattle.ciborium_value.specs.Tree.{Tree, integer, bytes, text, array, map as map_tree, tag, simple, float}
use Rattle.ciborium_value.specs.declared.kind.Kind.TheVariants as semantic_kind
use Rattle.ciborium.specs.Damage.{Fault, end, deep, syntax, semantic}
use Rattle.ciborium.specs.Items.{Item, ItemsWithin, SequenceWithin}
use Rattle.ciborium.specs.declared.de.Error.TheVariants as de
use Rattle.ciborium.proofs.Sequence.{items_there_within}
use Rattle.coset_labels.specs.Faults.{CoseFault, undecodable, too_long, duplicate_key, unencodable, extraneous, out_of_range, unexpected, unregistered, unregistered_private, no_memory, too_many_layers, misplaced, fault_of}
use Rattle.coset_labels.specs.declared.error.CoseError.{CoseError}
use Rattle.coset_labels.specs.declared.error.CoseError.TheVariants as code
use Rattle.coset_signed.specs.Shapes.{HasSign1, HasSign}
use Rattle.coset_maced.specs.Shapes.{HasMac0, HasMac}
use Rattle.cose_gate_core.specs.Questions.{Question, MessageFields, sign1, mac0, sign, mac, number_of, kind_of, payload_of, message_text, questions}
use Rattle.cose_gate_core.specs.Asked.{first_no}
use Rattle.cose_gate_core.specs.Findings.{Finding, judged, barred, not_tagged, encrypted, other_tag, shape, detached, no_signature, not_shortest, Bounds, HasMessage, IsMessage, IsMessageTag, IsEncryptedTag, IsCarried, IsUnsigned, Finds}
use Rattle.cose_gate_core.specs.Misshapen.{WrongMessage, IsMisshapen, NamesShape, NamesShapes}
use Rattle.cose_gate_core.specs.Run.{Step, Steps, Run, Course, IsVerdict, judged_by}
use Rattle.cose_gate_core.specs.declared.about.MessageKind.{MessageKind}
use Rattle.cose_gate_core.specs.declared.about.MessageKind.TheVariants as kind
use Rattle.cose_gate_core.specs.declared.report.Refusal.TheVariants as refusal
use Rattle.cose_gate_core.specs.declared.report.Verdict.{Verdict}
use Rattle.cose_gate_core.specs.declared.report.Verdict.TheVariants.{Refused}
use Rattle.cose_gate_core.proofs.Items.{answers_name}
use Rattle.cose_gate_core.proofs.TagNumbers.{no_message_tag}
use Rattle.cose_gate_core.proofs.Unique.{no_message}
use Rattle.cose_gate_core.proofs.Lows.{IsByte, Low, before, behind, reads_low}
use Rattle.cose_gate_core.proofs.MessageCases.{sign1_case, sign_case}
use Rattle.cose_gate_core.proofs.MacCases.{mac0_case, mac_case}

option_cases : {A : Type 0} (o : Option A) → (o ≡ None) ⊎ ((x : A) × (o ≡ Some x))
option_cases None = inl refl
option_cases (Some x) = inr (x, refl)

same_or_not : (xs ys : List ℕ) → (xs ≡ ys) ⊎ (xs ≢ ys)
same_or_not [] [] = inl refl
same_or_not [] (y ∷ ys) = inr (λ e. let h : [] ≡ y ∷ ys = e in cc)
same_or_not (x ∷ xs) [] = inr (λ e. let h : x ∷ xs ≡ [] = e in cc)
same_or_not (x ∷ xs) (y ∷ ys) = go (cases_eq x y) (same_or_not xs ys)
  where
    go : (x ≡ y) ⊎ (x ≢ y) → (xs ≡ ys) ⊎ (xs ≢ ys) → (x ∷ xs ≡ y ∷ ys) ⊎ (x ∷ xs ≢ y ∷ ys)
    go (inl e) (inl f) = inl (ap (λ z. z ∷ xs) e ∙ ap (λ zs. y ∷ zs) f)
    go (inr n) f = inr (λ e. n (let h : x ∷ xs ≡ y ∷ ys = e in cc))
    go (inl e) (inr n) = inr (λ e. n (let h : x ∷ xs ≡ y ∷ ys = e in cc))

-- a message may pass a gate that isn't strict, or is what would be written; or neither
text_cases : (strict : Bool) (xs ys : List ℕ) → (strict ≡ true → xs ≡ ys) ⊎ ((strict ≡ true) × (xs ≢ ys))
text_cases false xs ys = inl (λ s. (let h : false ≡ true = s in cc))
text_cases true xs ys = go (same_or_not xs ys)
  where
    go : (xs ≡ ys) ⊎ (xs ≢ ys) → (true ≡ true → xs ≡ ys) ⊎ ((true ≡ true) × (xs ≢ ys))
    go (inl e) = inl (λ s. e)
    go (inr n) = inr (refl, n)

list_cases : {A : Type 0} (xs : List A) → (xs ≡ []) ⊎ (xs ≢ [])
list_cases [] = inl refl
list_cases (x ∷ xs) = inr (λ e. let h : x ∷ xs ≡ [] = e in cc)

module _ (l : Bounds) where
  -- ---- by kind
  abbrev MessageCase : MessageKind → Tree → Type 0
  MessageCase k u = ((m : MessageFields) × (kind_of m ≡ k) × HasMessage l u m) ⊎ ((f : CoseFault) × WrongMessage l k u f)

  -- a case of messages of one kind, made of their fields
  of_kind : {A : Type 0} (k : MessageKind) (u : Tree) (make : A → MessageFields) (Has : A → Type 0) → ((x : A) → Has x → (kind_of (make x) ≡ k) × HasMessage l u (make x))
      → ((x : A) × Has x) ⊎ ((f : CoseFault) × WrongMessage l k u f) → MessageCase k u
  of_kind k u make Has has (inl (x, h)) = let is = has x h in inl (make x, is.0, is.1)
  of_kind k u make Has has (inr (f, w)) = inr (f, w)

  message_case : (k : MessageKind) (u : Tree) → Low u → MessageCase k u
  message_case kind.Sign1 u low = of_kind kind.Sign1 u sign1 (λ m. HasSign1 l.nesting u m l.layers) (λ m h. (refl, h)) (sign1_case l.nesting l.layers u low)
  message_case kind.Mac0 u low = of_kind kind.Mac0 u mac0 (λ m. HasMac0 l.nesting u m l.layers) (λ m h. (refl, h)) (mac0_case l.nesting l.layers u low)
  message_case kind.Sign u low = of_kind kind.Sign u sign (λ m. HasSign l.nesting u m l.layers) (λ m h. (refl, h)) (sign_case l.nesting l.layers u low)
  message_case kind.Mac u low = of_kind kind.Mac u mac (λ m. HasMac l.nesting u m l.layers) (λ m h. (refl, h)) (mac_case l.nesting l.layers u low)

  unsigned_cases : (m : MessageFields) → IsUnsigned m ⊎ (IsUnsigned m → ⊥)
  unsigned_cases (sign1 m) = inr (λ u. u)
  unsigned_cases (mac0 m) = inr (λ u. u)
  unsigned_cases (sign m) = list_cases m.signatures
  unsigned_cases (mac m) = inr (λ u. u)

  tag_cases : (n : ℕ) → IsMessageTag n ⊎ (IsMessageTag n → ⊥)
  tag_cases n = go (cases_eq n (number_of kind.Sign1)) (cases_eq n (number_of kind.Mac0)) (cases_eq n (number_of kind.Sign)) (cases_eq n (number_of kind.Mac))
    where
      go : (n ≡ number_of kind.Sign1) ⊎ (n ≢ number_of kind.Sign1) → (n ≡ number_of kind.Mac0) ⊎ (n ≢ number_of kind.Mac0) → (n ≡ number_of kind.Sign) ⊎ (n ≢ number_of kind.Sign)
          → (n ≡ number_of kind.Mac) ⊎ (n ≢ number_of kind.Mac) → IsMessageTag n ⊎ (IsMessageTag n → ⊥)
      go (inl e) b c d = inl (kind.Sign1, e)
      go (inr a) (inl e) c d = inl (kind.Mac0, e)
      go (inr a) (inr b) (inl e) d = inl (kind.Sign, e)
      go (inr a) (inr b) (inr c) (inl e) = inl (kind.Mac, e)
      go (inr a) (inr b) (inr c) (inr d) = inr (no_message_tag n a b c d)

  encrypted_cases : (n : ℕ) → IsEncryptedTag n ⊎ (IsEncryptedTag n → ⊥)
  encrypted_cases n = go (cases_eq n 16) (cases_eq n 96)
    where
      none : (n ≡ 16 → ⊥) → (n ≡ 96 → ⊥) → IsEncryptedTag n → ⊥
      none a b (inl e) = a e
      none a b (inr e) = b e

      go : (n ≡ 16) ⊎ (n ≡ 16 → ⊥) → (n ≡ 96) ⊎ (n ≡ 96 → ⊥) → IsEncryptedTag n ⊎ (IsEncryptedTag n → ⊥)
      go (inl e) b = inl (inl e)
      go (inr a) (inl e) = inl (inr e)
      go (inr a) (inr b) = inr (none a b)

  -- ---- what is found, and if it is a shape, a fault of the value
  abbrev HasFault : Tree → Finding → Type 0
  HasFault t (barred shape) = (f : CoseFault) × IsMisshapen l t f
  HasFault t f = Unit {0}

  abbrev Found : List ℕ → Tree → Type 0
  Found b t = (f : Finding) × Finds l b t f × HasFault t f

  judged_or_not : (b : List ℕ) (t : Tree) (m : MessageFields) → IsMessage l t m → (payload_of m ≡ None) ⊎ IsCarried m → IsUnsigned m ⊎ (IsUnsigned m → ⊥)
      → (l.strict ≡ true → b ≡ message_text m) ⊎ ((l.strict ≡ true) × (b ≢ message_text m)) → Found b t
  judged_or_not b t m i (inl e) u x = (barred detached, (m, i, e), tt)
  judged_or_not b t m i (inr c) (inl u) x = (barred no_signature, (m, i, c, u), tt)
  judged_or_not b t m i (inr c) (inr u) (inl x) = (judged m, ((i, c, u), x), tt)
  judged_or_not b t m i (inr c) (inr u) (inr x) = (barred not_shortest, (m, (i, c, u), x.0, x.1), tt)

  message_found : (b : List ℕ) (k : MessageKind) (u : Tree) → MessageCase k u → Found b (tag (number_of k) u)
  message_found b k u (inl (m, e, h)) =
      judged_or_not b (tag (number_of k) u) m (u, ap (λ j. tag (number_of j) u) (sym e), h) (option_cases (payload_of m)) (unsigned_cases m) (text_cases l.strict b (message_text m))
  message_found b k u (inr (f, w)) =
      let is : IsMisshapen l (tag (number_of k) u) f = (k, u, refl, w) in
      (barred shape, ((number_of k, u, refl, (k, refl)), no_message l (tag (number_of k) u) f is), (f, is))

  tag_found : (b : List ℕ) (n : ℕ) (u : Tree) → Low u → IsEncryptedTag n ⊎ (IsEncryptedTag n → ⊥) → IsMessageTag n ⊎ (IsMessageTag n → ⊥) → Found b (tag n u)
  tag_found b n u low (inl e) m = (barred encrypted, (n, u, refl, e), tt)
  tag_found b n u low (inr e) (inl (k, is)) = subst (λ (z : ℕ). Found b (tag z u)) (sym is) (message_found b k u (message_case k u low))
  tag_found b n u low (inr e) (inr m) = (barred (other_tag n), (u, refl, e, m), tt)

  pub finding_there : (b : List ℕ) (t : Tree) → Low t → Found b t
  finding_there b (tag n u) low = tag_found b n u low.1 (encrypted_cases n) (tag_cases n)
  finding_there b (integer i) low = (barred not_tagged, (λ n u e. let h : integer i ≡ tag n u = e in cc), tt)
  finding_there b (bytes c) low = (barred not_tagged, (λ n u e. let h : bytes c ≡ tag n u = e in cc), tt)
  finding_there b (text c) low = (barred not_tagged, (λ n u e. let h : text c ≡ tag n u = e in cc), tt)
  finding_there b (array ts) low = (barred not_tagged, (λ n u e. let h : array ts ≡ tag n u = e in cc), tt)
  finding_there b (map_tree ps) low = (barred not_tagged, (λ n u e. let h : map_tree ps ≡ tag n u = e in cc), tt)
  finding_there b (simple m) low = (barred not_tagged, (λ n u e. let h : simple m ≡ tag n u = e in cc), tt)
  finding_there b (float x) low = (barred not_tagged, (λ n u e. let h : float x ≡ tag n u = e in cc), tt)

-- ---- each fault is that of an error
no_words : Bor (List ℕ)
no_words = record { ref_ptr = (0, 0); now = [] }

undecodable_there : (f : Fault) → (e : CoseError) × (fault_of e ≡ undecodable f)
undecodable_there end = (code.DecodeFailed (de.Io (record {})), refl)
undecodable_there deep = (code.DecodeFailed de.RecursionLimitExceeded, refl)
undecodable_there (syntax p) = (code.DecodeFailed (de.Syntax p), refl)
undecodable_there (semantic k) = (code.DecodeFailed (de.Semantic None k), refl)

error_there : (f : CoseFault) → (e : CoseError) × (fault_of e ≡ f)
error_there (undecodable f) = undecodable_there f
error_there too_long = (code.DecodeFailed de.TooLong, refl)
error_there duplicate_key = (code.DuplicateMapKey, refl)
error_there unencodable = (code.EncodeFailed, refl)
error_there extraneous = (code.ExtraneousData, refl)
error_there out_of_range = (code.OutOfRangeIntegerValue, refl)
error_there unexpected = (code.UnexpectedItem no_words no_words, refl)
error_there unregistered = (code.UnregisteredIanaValue, refl)
error_there unregistered_private = (code.UnregisteredIanaNonPrivateValue, refl)
error_there no_memory = (code.Memory, refl)
error_there too_many_layers = (code.TooManyLayers, refl)
error_there misplaced = (code.DecodeFailed (de.Semantic (Some 0) semantic_kind.WrongType), refl)

module _ (l : Bounds) (allows : Question → Bool) (aad : List ℕ) where
  -- a verdict that stands for what is found, and names a fault of the value if it is a shape
  verdict_there : (t : Tree) (f : Finding) → HasFault l t f → (v : Verdict) × IsVerdict allows aad f v × NamesShape l t v
  verdict_there t (judged m) h = (judged_by (first_no allows (questions m aad)), refl, answers_name l t (first_no allows (questions m aad)))
  verdict_there t (barred not_tagged) h = (Refused refusal.NotTagged, refl, tt)
  verdict_there t (barred encrypted) h = (Refused refusal.Encrypted, refl, tt)
  verdict_there t (barred (other_tag n)) h = (Refused (refusal.OtherTag n), refl, tt)
  verdict_there t (barred shape) (f, is) =
      let x = error_there f in
      (Refused (refusal.Shape x.0), (x.0, refl), subst (IsMisshapen l t) (sym x.1) is)
  verdict_there t (barred detached) h = (Refused refusal.Detached, refl, tt)
  verdict_there t (barred no_signature) h = (Refused refusal.NoSignature, refl, tt)
  verdict_there t (barred not_shortest) h = (Refused refusal.NotShortest, refl, tt)

  -- ---- steps over items
  record StepsOver (n : ℕ) (is : List Item) : Type 0 where
    steps : List Step
    items : map (λ s. s.item) steps ≡ is
    are : Steps l allows aad n steps
    shapes : NamesShapes l steps

  one_more_step : (n : ℕ) (i : Item) (is : List Item) → (f : Finding) → Finds l i.bytes i.value f → (v : Verdict) → IsVerdict allows aad f v → NamesShape l i.value v → StepsOver (n + 1) is → StepsOver n (i ∷ is)
  one_more_step n i is f h v w named more = record {
    steps = record { item = i; finding = f; entry = record { number = n; offset = i.offset; verdict = v } } ∷ more.steps;
    items = ap (λ z. i ∷ z) more.items;
    are = (h, refl, refl, w, more.are);
    shapes = (named, more.shapes);
  }

  steps_over : (n at : ℕ) (b : List ℕ) (is : List Item) (rest : List ℕ) → SequenceWithin l.nesting at b is rest → All IsByte b → StepsOver n is
  steps_over n at b [] rest s low = record { steps = []; items = refl; are = tt; shapes = tt }
  steps_over n at b (i ∷ is) rest s low =
      let t = reads_low i.bytes l.nesting i.value s.1 (before b i.bytes s.2.0 s.2.1 low) in
      let f = finding_there l i.bytes i.value t in
      let v = verdict_there i.value f.0 f.2 in
      one_more_step n i is f.0 f.1 v.0 v.1 v.2 (steps_over (n + 1) (at + length i.bytes) s.2.0 is rest s.2.2 (behind b i.bytes s.2.0 s.2.1 low))

  pub run_there : (at : ℕ) (b : List ℕ) → All IsByte b → (ss : List Step) × (rest : List ℕ) × Run l allows aad at b ss rest × NamesShapes l ss
  run_there at b low =
      let i = items_there_within l.nesting at b low in
      let s = steps_over 1 at b i.0 i.1 i.2.sequence low in
      (s.steps, i.1, record { items = subst (λ z. ItemsWithin l.nesting at b z i.1) (sym s.items) i.2; steps = s.are }, s.shapes)

  -- ---- what was gone through goes on to a run
  abbrev ends : ℕ → List Item → ℕ
  ends at [] = at
  ends at (i ∷ is) = ends (at + length i.bytes) is

  abbrev after : ℕ → List Step → ℕ
  after n [] = n
  after n (s ∷ ss) = after (n + 1) ss

  items_joined : (at : ℕ) (b : List ℕ) (is js : List Item) (more rest : List ℕ) → SequenceWithin l.nesting at b is more → SequenceWithin l.nesting (ends at is) more js rest → SequenceWithin l.nesting at b (is ++ js) rest
  items_joined at b [] js more rest p q = subst (λ (z : List ℕ). SequenceWithin l.nesting at z js rest) (sym p) q
  items_joined at b (i ∷ is) js more rest p q = (p.0, p.1, (p.2.0, p.2.1, items_joined (at + length i.bytes) p.2.0 is js more rest p.2.2 q))

  steps_joined : (n : ℕ) (ss rs : List Step) → Steps l allows aad n ss → Steps l allows aad (after n ss) rs → Steps l allows aad n (ss ++ rs)
  steps_joined n [] rs p q = q
  steps_joined n (s ∷ ss) rs p q = (p.0, p.1, p.2, p.3, steps_joined (n + 1) ss rs p.4 q)

  left_low : (at : ℕ) (b : List ℕ) (is : List Item) (more : List ℕ) → SequenceWithin l.nesting at b is more → All IsByte b → All IsByte more
  left_low at b [] more s low = subst (All IsByte) s low
  left_low at b (i ∷ is) more s low = left_low (at + length i.bytes) s.2.0 is more s.2.2 (behind b i.bytes s.2.0 s.2.1 low)

  pub course_goes_on : (at : ℕ) (b : List ℕ) (ss : List Step) (more : List ℕ) → Course l allows aad at b ss more → All IsByte b
      → (rs : List Step) × (rest : List ℕ) × Run l allows aad at b (ss ++ rs) rest × NamesShapes l rs
  course_goes_on at b ss more c low =
      let is = map (λ s. s.item) ss in
      let low' = left_low at b is more c.sequence low in
      let i = items_there_within l.nesting (ends at is) more low' in
      let s = steps_over (after 1 ss) (ends at is) more i.0 i.1 i.2.sequence low' in
      let seq : SequenceWithin l.nesting at b (is ++ map (λ s. s.item) s.steps) i.1 =
      items_joined at b is (map (λ s. s.item) s.steps) more i.1 c.sequence (subst (λ z. SequenceWithin l.nesting (ends at is) more z i.1) (sym s.items) i.2.sequence) in (
        s.steps,
        i.1,
        record {
          items = record { sequence = subst (λ z. SequenceWithin l.nesting at b z i.1) (sym (map-append (λ s. s.item) ss s.steps)) seq; ends = i.2.ends };
          steps = steps_joined 1 ss s.steps c.steps s.are;
        },
        s.shapes,
      )
