-- What was gone through is a beginning of the run, and steps over the same trees say the same.
use Rattle.std.proofs.Common.{◌≡◌, ℕ, ◌+◌, inl, inr, List, [], ◌∷◌, ◌++◌, length, map, Bool, true, false, refl, sym, ap, subst, ◌∙◌, append_assoc, append-nil, cond}
use Rattle.std.proofs.lemmas.List.{append_cancel_left, map-append}
use Rattle.std.proofs.lemmas.Grind.{flat_map-append}
use Rattle.ciborium_value.specs.Tree.{Tree}
use Rattle.ciborium.specs.Items.{Item, SequenceWithin, IsUnreadableWithin}
use Rattle.ciborium.proofs.Sequence.{items_once_within}
use Rattle.coset_headers.proofs.Unique.{reads_once}
use Rattle.cose_gate_core.specs.declared.report.Verdict.{Verdict}
use Rattle.cose_gate_core.specs.Questions.{Question}
use Rattle.cose_gate_core.specs.Asked.{IsFront}
use Rattle.cose_gate_core.specs.Findings.{Bounds, Finding, judged, barred, not_tagged, encrypted, other_tag, shape, detached, no_signature, not_shortest, Finds}
use Rattle.cose_gate_core.specs.Run.{Step, Steps, Run, Course, IsVerdict, asked_of, written_of, text_of, passes, questions_of, output_of, entries_of}
use Rattle.cose_gate_core.proofs.Unique.{finding_once, run_once}
use Rattle.cose_gate_core.specs.Anew.{bytes_of, entry_behind, SameVerdict, SameEntries, SameVerdicts, EntriesBegin}
use Rattle.cose_gate_core.proofs.Placed.{placed, placed_append, placed_asks, placed_writes, bytes_append, Stand, stand_entries, stand_same, IsStep, AllSteps, Told, all_append, all_split, run_told, run_again}

-- one verdict stands for a finding, but for the fault of a shape
module _ (allows : Question → Bool) (aad : List ℕ) where
  verdict_once : (f : Finding) (v w : Verdict) → IsVerdict allows aad f v → IsVerdict allows aad f w → SameVerdict v w
  verdict_once (judged m) v w a b = inl (a ∙ sym b)
  verdict_once (barred not_tagged) v w a b = inl (a ∙ sym b)
  verdict_once (barred encrypted) v w a b = inl (a ∙ sym b)
  verdict_once (barred (other_tag n)) v w a b = inl (a ∙ sym b)
  verdict_once (barred shape) v w a b = inr (a.0, b.0, a.1, b.1)
  verdict_once (barred detached) v w a b = inl (a ∙ sym b)
  verdict_once (barred no_signature) v w a b = inl (a ∙ sym b)
  verdict_once (barred not_shortest) v w a b = inl (a ∙ sym b)

pub asks_append : (allows : Question → Bool) (aad : List ℕ) (ss rs : List Step) → questions_of allows aad (ss ++ rs) ≡ questions_of allows aad ss ++ questions_of allows aad rs
asks_append allows aad ss rs = flat_map-append (λ s. asked_of allows aad s.finding) ss rs

pub writes_append : (allows : Question → Bool) (aad : List ℕ) (ss rs : List Step) → output_of allows aad (ss ++ rs) ≡ output_of allows aad ss ++ output_of allows aad rs
writes_append allows aad ss rs = flat_map-append (λ s. written_of allows aad s.finding) ss rs

module _ (limits : Bounds) (allows : Question → Bool) (aad : List ℕ) where
  abbrev Sound : Step → Type 0
  Sound s = IsStep limits allows aad s

  -- steps over the same trees, in order
  pub record Alike (ss rs : List Step) : Type 0 where
    pub asks : questions_of allows aad ss ≡ questions_of allows aad rs
    pub writes : output_of allows aad ss ≡ output_of allows aad rs
    pub verdicts : SameVerdicts (entries_of ss) (entries_of rs)

  record Equal (s r : Step) : Type 0 where
    finding : s.finding ≡ r.finding
    verdict : SameVerdict s.entry.verdict r.entry.verdict

  same_step : (s r : Step) → Sound s → Sound r → Finds limits s.item.bytes s.item.value r.finding → Equal s r
  same_step s r a b g =
      let f = finding_once limits s.item.bytes s.item.value s.finding r.finding a.1 g in
      let v : IsVerdict allows aad s.finding r.entry.verdict = subst (λ z. IsVerdict allows aad z r.entry.verdict) (sym f) b.2 in
      record { finding = f; verdict = verdict_once allows aad s.finding s.entry.verdict r.entry.verdict a.2 v }

  one_step : (s r : Step) → s.item ≡ r.item → Sound s → Sound r → Equal s r
  one_step s r e a b = same_step s r a b (subst (λ (z : Item). Finds limits z.bytes z.value r.finding) (sym e) b.1)

  -- if the gate isn't strict, what is found doesn't hang on the bytes
  found_of : limits.strict ≡ false → (b c : List ℕ) (t : Tree) (f : Finding) → Finds limits b t f → Finds limits c t f
  found_of i b c t (judged m) h = (h.0, λ s. (let no : false ≡ true = sym i ∙ s in cc))
  found_of i b c t (barred not_tagged) h = h
  found_of i b c t (barred encrypted) h = h
  found_of i b c t (barred (other_tag n)) h = h
  found_of i b c t (barred shape) h = h
  found_of i b c t (barred detached) h = h
  found_of i b c t (barred no_signature) h = h
  found_of i b c t (barred not_shortest) (m, j, s, n) = let no : false ≡ true = sym i ∙ s in absurd (cc)

  one_value : limits.strict ≡ false → (s r : Step) → s.item.value ≡ r.item.value → Sound s → Sound r → Equal s r
  one_value i s r e a b =
      same_step s r a b (found_of i r.item.bytes s.item.bytes s.item.value r.finding (subst (λ z. Finds limits r.item.bytes z r.finding) (sym e) b.1))

  alike_more : (s r : Step) (ss rs : List Step) → Equal s r → Alike ss rs → Alike (s ∷ ss) (r ∷ rs)
  alike_more s r ss rs e a =
      let q : asked_of allows aad s.finding ≡ asked_of allows aad r.finding = ap (asked_of allows aad) e.finding in
      let w : written_of allows aad s.finding ≡ written_of allows aad r.finding = ap (written_of allows aad) e.finding in
      record {
        asks = ap (λ x. x ++ questions_of allows aad ss) q ∙ ap (λ x. asked_of allows aad r.finding ++ x) a.asks;
        writes = ap (λ x. x ++ output_of allows aad ss) w ∙ ap (λ x. written_of allows aad r.finding ++ x) a.writes;
        verdicts = (e.verdict, a.verdicts);
      }

  none_alike : Alike [] []
  none_alike = record { asks = refl; writes = refl; verdicts = tt }

  -- the same trees in the same order
  pub alike : limits.strict ≡ false → (ss rs : List Step) → map (λ s. s.item.value) ss ≡ map (λ s. s.item.value) rs → AllSteps limits allows aad ss → AllSteps limits allows aad rs → Alike ss rs
  alike i [] [] e a b = none_alike
  alike i [] (r ∷ rs) e a b = let h : [] ≡ r.item.value ∷ map (λ s. s.item.value) rs = e in cc
  alike i (s ∷ ss) [] e a b = let h : s.item.value ∷ map (λ s. s.item.value) ss ≡ [] = e in cc
  alike i (s ∷ ss) (r ∷ rs) e a b =
      let h : s.item.value ∷ map (λ s. s.item.value) ss ≡ r.item.value ∷ map (λ s. s.item.value) rs = e in
      let head : s.item.value ≡ r.item.value = cc in
      let tail : map (λ s. s.item.value) ss ≡ map (λ s. s.item.value) rs = cc in
      alike_more s r ss rs (one_value i s r head a.0 b.0) (alike i ss rs tail a.1 b.1)

  -- of two lists of items over one input, the first is a beginning if the second goes as far as it
  -- can
  pub record Parted (ss rs : List Step) : Type 0 where
    pub front : List Step
    pub behind : List Step
    pub whole : rs ≡ front ++ behind
    pub items : map (λ s. s.item) ss ≡ map (λ s. s.item) front
    pub same : Alike ss front
    pub entries : SameEntries (entries_of ss) (entries_of front)

  same_item : (i j : Item) → i.offset ≡ j.offset → i.bytes ≡ j.bytes → i.value ≡ j.value → i ≡ j
  same_item i j o b v = λ k. record { offset = o k; bytes = b k; value = v k }

  pub parted : (n at : ℕ) (b : List ℕ) (ss rs : List Step) (more rest : List ℕ) → IsUnreadableWithin limits.nesting rest → SequenceWithin limits.nesting at b (map (λ s. s.item) ss) more → SequenceWithin limits.nesting at b (map (λ s. s.item) rs) rest
      → Steps limits allows aad n ss → Steps limits allows aad n rs → Parted ss rs
  parted n at b [] rs more rest u p q x y = record { front = []; behind = rs; whole = refl; items = refl; same = none_alike; entries = tt }
  parted n at b (s ∷ ss) [] more rest u p q x y =
      absurd (u s.item.value p.2.0 (record { spelling = s.item.bytes; whole = sym q ∙ p.2.1; reads = p.1 }))
  parted n at b (s ∷ ss) (r ∷ rs) more rest u p q x y =
      let e : s.item.bytes ++ p.2.0 ≡ r.item.bytes ++ q.2.0 = sym p.2.1 ∙ q.2.1 in
      let o = reads_once s.item.bytes r.item.bytes p.2.0 q.2.0 limits.nesting s.item.value r.item.value p.1 q.1 e in
      let tails : p.2.0 ≡ q.2.0 = append_cancel_left s.item.bytes p.2.0 q.2.0 (e ∙ ap (λ z. z ++ q.2.0) (sym o.1)) in
      let there : SequenceWithin limits.nesting (at + length s.item.bytes) p.2.0 (map (λ s. s.item) rs) rest =
      subst (λ (z : List ℕ). SequenceWithin limits.nesting (at + length s.item.bytes) z (map (λ s. s.item) rs) rest) (sym tails)
      (subst (λ (z : List ℕ). SequenceWithin limits.nesting (at + length z) q.2.0 (map (λ s. s.item) rs) rest) (sym o.1) q.2.2) in
      let w = parted (n + 1) (at + length s.item.bytes) p.2.0 ss rs more rest u p.2.2 there x.4 y.4 in
      let item : s.item ≡ r.item = same_item s.item r.item (p.0 ∙ sym q.0) o.1 o.0 in
      let one = one_step s r item (p.1, x.0, x.3) (q.1, y.0, y.3) in
      record {
        front = r ∷ w.front;
        behind = w.behind;
        whole = ap (λ z. r ∷ z) w.whole;
        items = ap (λ z. z ∷ map (λ s. s.item) ss) item ∙ ap (λ z. r.item ∷ z) w.items;
        same = alike_more s r ss w.front one w.same;
        entries = ((x.1 ∙ sym y.1, x.2 ∙ p.0 ∙ sym (y.2 ∙ q.0), one.verdict), w.entries);
      }

  module _ (at : ℕ) (b : List ℕ) (ss rs : List Step) (more rest : List ℕ) (c : Course limits allows aad at b ss more) (r : Run limits allows aad at b rs rest) where
    begins : Parted ss rs
    begins = parted 1 at b ss rs more rest r.items.ends c.sequence r.items.sequence c.steps r.steps

    pub begins_items : IsFront (map (λ s. s.item) ss) (map (λ s. s.item) rs)
    begins_items = let w = begins in record {
      more = map (λ s. s.item) w.behind;
      whole = ap (map (λ s. s.item)) w.whole ∙ map-append (λ s. s.item) w.front w.behind ∙ ap (λ z. z ++ map (λ s. s.item) w.behind) (sym w.items);
    }

    pub begins_questions : IsFront (questions_of allows aad ss) (questions_of allows aad rs)
    begins_questions = let w = begins in record {
      more = questions_of allows aad w.behind;
      whole = ap (questions_of allows aad) w.whole ∙ asks_append allows aad w.front w.behind ∙ ap (λ z. z ++ questions_of allows aad w.behind) (sym w.same.asks);
    }

    pub begins_output : IsFront (output_of allows aad ss) (output_of allows aad rs)
    begins_output = let w = begins in record {
      more = output_of allows aad w.behind;
      whole = ap (output_of allows aad) w.whole ∙ writes_append allows aad w.front w.behind ∙ ap (λ z. z ++ output_of allows aad w.behind) (sym w.same.writes);
    }

    pub begins_entries : EntriesBegin (entries_of ss) (entries_of rs)
    begins_entries = let w = begins in record {
      front = entries_of w.front;
      more = entries_of w.behind;
      whole = ap entries_of w.whole ∙ map-append (λ s. s.entry) w.front w.behind;
      same = w.entries;
    }

  -- two runs over one input have entries that say the same
  same_items : (ss rs : List Step) → map (λ s. s.item) ss ≡ map (λ s. s.item) rs → (n at : ℕ) → AllSteps limits allows aad ss → AllSteps limits allows aad rs → Stand n at ss → Stand n at rs
      → SameEntries (entries_of ss) (entries_of rs)
  same_items [] [] e n at a b p q = tt
  same_items [] (r ∷ rs) e n at a b p q = let h : [] ≡ r.item ∷ map (λ s. s.item) rs = e in cc
  same_items (s ∷ ss) [] e n at a b p q = let h : s.item ∷ map (λ s. s.item) ss ≡ [] = e in cc
  same_items (s ∷ ss) (r ∷ rs) e n at a b p q =
      let h : s.item ∷ map (λ s. s.item) ss ≡ r.item ∷ map (λ s. s.item) rs = e in
      let head : s.item ≡ r.item = cc in
      let tail : map (λ s. s.item) ss ≡ map (λ s. s.item) rs = cc in
      let one = one_step s r head a.0 b.0 in
      let behind : Stand (n + 1) (at + length s.item.bytes) rs = subst (λ z. Stand (n + 1) (at + length z.bytes) rs) (sym head) q.2 in
      ((p.0 ∙ sym q.0, p.1 ∙ sym q.1, one.verdict), same_items ss rs tail (n + 1) (at + length s.item.bytes) a.1 b.1 p.2 behind)

  pub runs_alike : (at : ℕ) (b : List ℕ) (ss rs : List Step) (rest more : List ℕ) → Run limits allows aad at b ss rest → Run limits allows aad at b rs more → SameEntries (entries_of ss) (entries_of rs)
  runs_alike at b ss rs rest more p q =
      let x = run_told limits allows aad at b ss rest p in
      let y = run_told limits allows aad at b rs more q in
      let i = items_once_within limits.nesting at b _ _ rest more p.items q.items in
      same_items ss rs i.0 1 at x.all y.all x.stand y.stand

  -- if nothing is left after a, the items of b follow
  module _ (at : ℕ) (a b : List ℕ) (ss rs : List Step) (rest : List ℕ) (p : Run limits allows aad at a ss []) (q : Run limits allows aad at b rs rest) where
    here : Told limits allows aad 1 at a ss []
    here = run_told limits allows aad at a ss [] p

    there : Told limits allows aad 1 at b rs rest
    there = run_told limits allows aad at b rs rest q

    a_is : a ≡ bytes_of ss
    a_is = here.whole ∙ append-nil (bytes_of ss)

    whole_is : bytes_of (ss ++ rs) ++ rest ≡ a ++ b
    whole_is =
        ap (λ z. z ++ rest) (bytes_append ss rs) ∙ append_assoc (bytes_of ss) (bytes_of rs) rest ∙ ap (λ z. bytes_of ss ++ z) (sym there.whole)
        ∙ ap (λ z. z ++ b) (sym a_is)

    pub joined_run : Run limits allows aad at (a ++ b) (placed 1 at (ss ++ rs)) rest
    joined_run =
        subst (λ z. Run limits allows aad at z (placed 1 at (ss ++ rs)) rest) whole_is
        (run_again limits allows aad at (ss ++ rs) rest (all_append limits allows aad ss rs here.all there.all) q.items.ends)

    pub joined_entries : entries_of (placed 1 at (ss ++ rs)) ≡ entries_of ss ++ map (entry_behind (length ss) (length a)) (entries_of rs)
    joined_entries =
        ap entries_of (placed_append 1 at ss rs) ∙ map-append (λ s. s.entry) (placed 1 at ss) (placed (1 + length ss) (at + length (bytes_of ss)) rs)
        ∙ ap (λ z. z ++ entries_of (placed (1 + length ss) (at + length (bytes_of ss)) rs)) (stand_same 1 at ss here.stand)
        ∙ ap (λ z. entries_of ss ++ z) (stand_entries 1 at (1 + length ss) (at + length (bytes_of ss)) (length ss) (length a) rs there.stand refl (ap (λ z. at + length z) (sym a_is)))

    module _ (ts : List Step) (more : List ℕ) (r : Run limits allows aad at (a ++ b) ts more) where
      pub joined_questions : questions_of allows aad ts ≡ questions_of allows aad ss ++ questions_of allows aad rs
      joined_questions =
          (run_once limits allows aad at (a ++ b) ts (placed 1 at (ss ++ rs)) more rest r joined_run).0 ∙ placed_asks allows aad 1 at (ss ++ rs) ∙ asks_append allows aad ss rs

      pub joined_output : output_of allows aad ts ≡ output_of allows aad ss ++ output_of allows aad rs
      joined_output =
          (run_once limits allows aad at (a ++ b) ts (placed 1 at (ss ++ rs)) more rest r joined_run).1 ∙ placed_writes allows aad 1 at (ss ++ rs) ∙ writes_append allows aad ss rs

      pub joined_rest : more ≡ rest
      joined_rest = (run_once limits allows aad at (a ++ b) ts (placed 1 at (ss ++ rs)) more rest r joined_run).2

      pub joined_alike : SameEntries (entries_of ts) (entries_of ss ++ map (entry_behind (length ss) (length a)) (entries_of rs))
      joined_alike = subst (SameEntries (entries_of ts)) joined_entries (runs_alike at (a ++ b) ts (placed 1 at (ss ++ rs)) more rest r joined_run)

  -- an item taken out
  module _ (at : ℕ) (b : List ℕ) (xs : List Step) (s : Step) (ys : List Step) (rest : List ℕ) (p : Run limits allows aad at b (xs ++ s ∷ ys) rest) where
    parts : AllSteps limits allows aad xs × AllSteps limits allows aad (s ∷ ys)
    parts = all_split limits allows aad xs (s ∷ ys) (run_told limits allows aad at b (xs ++ s ∷ ys) rest p).all

    pub without_run : Run limits allows aad at (bytes_of (xs ++ ys) ++ rest) (placed 1 at (xs ++ ys)) rest
    without_run = run_again limits allows aad at (xs ++ ys) rest (all_append limits allows aad xs ys parts.0 parts.1.1) p.items.ends

    pub with_questions : questions_of allows aad (xs ++ s ∷ ys) ≡ questions_of allows aad xs ++ (asked_of allows aad s.finding ++ questions_of allows aad ys)
    with_questions = asks_append allows aad xs (s ∷ ys)

    module _ (ts : List Step) (more : List ℕ) (r : Run limits allows aad at (bytes_of (xs ++ ys) ++ rest) ts more) where
      pub without_questions : questions_of allows aad ts ≡ questions_of allows aad xs ++ questions_of allows aad ys
      without_questions =
          (run_once limits allows aad at (bytes_of (xs ++ ys) ++ rest) ts (placed 1 at (xs ++ ys)) more rest r without_run).0
          ∙ placed_asks allows aad 1 at (xs ++ ys) ∙ asks_append allows aad xs ys

      pub without_rest : more ≡ rest
      without_rest = (run_once limits allows aad at (bytes_of (xs ++ ys) ++ rest) ts (placed 1 at (xs ++ ys)) more rest r without_run).2

      pub without_output : passes allows aad s.finding ≡ false → output_of allows aad ts ≡ output_of allows aad (xs ++ s ∷ ys)
      without_output e =
          let nothing : written_of allows aad s.finding ≡ [] = ap (λ c. cond c (text_of s.finding) []) e in
          (run_once limits allows aad at (bytes_of (xs ++ ys) ++ rest) ts (placed 1 at (xs ++ ys)) more rest r without_run).1
          ∙ placed_writes allows aad 1 at (xs ++ ys) ∙ writes_append allows aad xs ys
          ∙ ap (λ z. output_of allows aad xs ++ (z ++ output_of allows aad ys)) (sym nothing) ∙ sym (writes_append allows aad xs (s ∷ ys))
