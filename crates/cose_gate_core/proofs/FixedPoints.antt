-- A run over what a run wrote, by limits that let it through, passes each message again.
use Rattle.std.proofs.Common.{◌≡◌, ℕ, ◌+◌, ◌^◌, ◌<◌, ◌≤◌, ◌⊎◌, inl, inr, List, [], ◌∷◌, ◌++◌, length, map, Bool, true, false, cond, Option, Some, None, refl, sym, ap, subst, ◌∙◌, arith, length-append, append-nil}
use Rattle.std.specs.Prelude.{All, is_none, not, count_by}
use Rattle.std.proofs.lemmas.List.Elements.{All-nil, All-cons}
use Rattle.std.proofs.lemmas.List.Sums.{sum_by-cons}
use Rattle.ciborium_value.specs.Tree.{Tree}
use Rattle.ciborium_value.specs.Encoding.{enc}
use Rattle.ciborium.specs.Front.{Reads}
use Rattle.ciborium.specs.Items.{Item, item_at}
use Rattle.ciborium.proofs.Sequence.{items_once_within}
use Rattle.coset_headers.proofs.Entered.{bool_cases}
use Rattle.coset_headers.proofs.Sound.{reads_sound, sound_reads}
use Rattle.cose_gate_core.specs.declared.report.Entry.{Entry}
use Rattle.cose_gate_core.specs.declared.report.Verdict.{Verdict}
use Rattle.cose_gate_core.specs.declared.report.Verdict.TheVariants.{Passed}
use Rattle.cose_gate_core.specs.Questions.{Question, MessageFields, questions, message_text}
use Rattle.cose_gate_core.specs.Asked.{first_no}
use Rattle.cose_gate_core.specs.Findings.{Finding, judged, barred, Bounds, Finds}
use Rattle.cose_gate_core.specs.Run.{Step, Steps, Run, IsVerdict, judged_by, asked_of, passes, text_of, written_of, questions_of, output_of, entries_of, passed_count, refused_count}
use Rattle.cose_gate_core.proofs.Unique.{finding_once, run_once}
use Rattle.cose_gate_core.specs.Anew.{bytes_of, AreEntries}
use Rattle.cose_gate_core.specs.Output.{passed_of, passed_messages}
use Rattle.cose_gate_core.specs.Fixed.{passed_questions, FixedPoint}
use Rattle.cose_gate_core.proofs.Placed.{put, placed, placed_asks, placed_writes, AllSteps, run_told, run_again}
use Rattle.cose_gate_core.proofs.Within.{nothing_unreadable}
use Rattle.cose_gate_core.proofs.Lows.{IsByte, before, behind, reads_fits}
use Rattle.cose_gate_core.proofs.Rewritten.{rewritten}
use Rattle.cose_gate_core.proofs.Wider.{judged_wider, reads_wider}

-- the entry of a message that passed
abbrev HasPassed : Entry → Type 0
HasPassed e = e.verdict ≡ Passed

passed_verdict : (o : Option ℕ) → is_none o ≡ true → Passed ≡ judged_by o
passed_verdict None e = refl
passed_verdict (Some n) e = let h : false ≡ true = e in cc

placed_messages : (allows : Question → Bool) (aad : List ℕ) (n at : ℕ) (ss : List Step) → passed_messages allows aad (placed n at ss) ≡ passed_messages allows aad ss
placed_messages allows aad n at [] = refl
placed_messages allows aad n at (s ∷ ss) = ap (λ z. passed_of allows aad s.finding ++ z) (placed_messages allows aad (n + 1) (at + length s.item.bytes) ss)

one_more_counted : (p : Finding → Bool) (s : Step) (ss : List Step) → count_by (λ x. p x.finding) (s ∷ ss) ≡ cond (p s.finding) 1 0 + count_by (λ x. p x.finding) ss
one_more_counted p s ss = sum_by-cons (λ x. cond (p x.finding) 1 0) s ss

placed_count : (p : Finding → Bool) (n at : ℕ) (ss : List Step) → count_by (λ x. p x.finding) (placed n at ss) ≡ count_by (λ x. p x.finding) ss
placed_count p n at [] = refl
placed_count p n at (s ∷ ss) =
    one_more_counted p (put n at s) (placed (n + 1) (at + length s.item.bytes) ss) ∙ ap (λ z. cond (p s.finding) 1 0 + z) (placed_count p (n + 1) (at + length s.item.bytes) ss)
    ∙ sym (one_more_counted p s ss)

module _ (l : Bounds) (allows : Question → Bool) (aad : List ℕ) where
  -- ---- steps that all pass
  abbrev Through : List Step → Type 0
  Through [] = Unit {0}
  Through (s ∷ ss) = (passes allows aad s.finding ≡ true) × Through ss

  placed_through : (n at : ℕ) (ss : List Step) → Through ss → Through (placed n at ss)
  placed_through n at [] t = tt
  placed_through n at (s ∷ ss) t = (t.0, placed_through (n + 1) (at + length s.item.bytes) ss t.1)

  none_refused : (ss : List Step) → Through ss → refused_count allows aad ss ≡ 0
  none_refused [] t = refl
  none_refused (s ∷ ss) t =
      let one : cond (not (passes allows aad s.finding)) 1 0 ≡ 0 = ap (λ c. cond (not c) 1 0) t.0 in
      let more = none_refused ss t.1 in
      let both = one_more_counted (λ f. not (passes allows aad f)) s ss in
      both ∙ ap (λ z. z + refused_count allows aad ss) one ∙ ap (λ z. 0 + z) more

  verdict_through : (f : Finding) (v : Verdict) → IsVerdict allows aad f v → passes allows aad f ≡ true → v ≡ Passed
  verdict_through (judged m) v h e = h ∙ sym (passed_verdict (first_no allows (questions m aad)) e)
  verdict_through (barred r) v h e = let q : false ≡ true = e in cc

  entries_through : (n : ℕ) (ss : List Step) → Steps l allows aad n ss → Through ss → All HasPassed (entries_of ss)
  entries_through n [] h t = All-nil HasPassed
  entries_through n (s ∷ ss) h t =
      All-cons HasPassed s.entry (entries_of ss) (verdict_through s.finding s.entry.verdict h.3 t.0) (entries_through (n + 1) ss h.4 t.1)

  noted_through : (ss : List Step) (es : List Entry) → Through ss → AreEntries allows aad ss es → All HasPassed es
  noted_through [] [] t h = All-nil HasPassed
  noted_through [] (e ∷ es) t h = absurd h
  noted_through (s ∷ ss) [] t h = absurd h
  noted_through (s ∷ ss) (e ∷ es) t h =
      All-cons HasPassed e es (verdict_through s.finding e.verdict h.2 t.0) (noted_through ss es t.1 h.3)

  -- ---- steps over the same items
  record Same (ss rs : List Step) : Type 0 where
    messages : passed_messages allows aad ss ≡ passed_messages allows aad rs
    count : passed_count allows aad ss ≡ passed_count allows aad rs
    through : Through rs → Through ss

  steps_same : (n : ℕ) (ss rs : List Step) → map (λ s. s.item) ss ≡ map (λ s. s.item) rs → Steps l allows aad n ss → Steps l allows aad n rs → Same ss rs
  steps_same n [] [] e a b = record { messages = refl; count = refl; through = λ t. t }
  steps_same n [] (r ∷ rs) e a b = let h : [] ≡ r.item ∷ map (λ s. s.item) rs = e in cc
  steps_same n (s ∷ ss) [] e a b = let h : s.item ∷ map (λ s. s.item) ss ≡ [] = e in cc
  steps_same n (s ∷ ss) (r ∷ rs) e a b =
      let h : s.item ∷ map (λ s. s.item) ss ≡ r.item ∷ map (λ s. s.item) rs = e in
      let head : s.item ≡ r.item = cc in
      let tail : map (λ s. s.item) ss ≡ map (λ s. s.item) rs = cc in
      let f = finding_once l s.item.bytes s.item.value s.finding r.finding a.0 (subst (λ (z : Item). Finds l z.bytes z.value r.finding) (sym head) b.0) in
      let p : passed_of allows aad s.finding ≡ passed_of allows aad r.finding = ap (passed_of allows aad) f in
      let q : passes allows aad s.finding ≡ passes allows aad r.finding = ap (passes allows aad) f in
      let more = steps_same (n + 1) ss rs tail a.4 b.4 in
      record {
        messages = ap (λ x. x ++ passed_messages allows aad ss) p ∙ ap (λ x. passed_of allows aad r.finding ++ x) more.messages;
        count =
            one_more_counted (passes allows aad) s ss ∙ ap (λ c. cond c 1 0 + passed_count allows aad ss) q
            ∙ ap (λ z. cond (passes allows aad r.finding) 1 0 + z) more.count ∙ sym (one_more_counted (passes allows aad) r rs);
        through = λ t. (q ∙ t.0, more.through t.1);
      }

  -- what is asked of a finding that passes
  abbrev asked_through : Finding → List Question
  asked_through f = cond (passes allows aad f) (asked_of allows aad f) []

module _ (l k : Bounds) (allows : Question → Bool) (aad : List ℕ) where
  -- what becomes of a step: nothing is written of it, or the encoding of a message that is found in
  -- that encoding again
  data Becomes (f : Finding) : Type 0 where
    nothing : passes allows aad f ≡ false → passed_of allows aad f ≡ [] → Becomes f
    message : (m : MessageFields) (t : Tree) → f ≡ judged m → passes allows aad (judged m) ≡ true → message_text m ≡ enc t → Reads (enc t) k.nesting t → Finds k (enc t) t (judged m) → Becomes f

  module _ (levels : l.nesting ≤ k.nesting) (layers : l.layers ≤ k.layers) where
    becomes_judged : (b : List ℕ) (t : Tree) (m : MessageFields) → Finds l b t (judged m) → Reads b l.nesting t → All IsByte b → length b < 2 ^ 64
        → (passes allows aad (judged m) ≡ true) ⊎ (passes allows aad (judged m) ≡ false) → Becomes (judged m)
    becomes_judged b t m h r low few (inr out) = nothing out (ap (λ c. cond c (m ∷ []) []) out)
    becomes_judged b t m h r low few (inl through) =
        let w = rewritten l t m h.0 in
        let f = reads_fits b l.nesting t r low few in
        message m w.tree refl through w.text (sound_reads k.nesting w.tree (w.rewrite.kept.fits f) (w.rewrite.sound k.nesting (reads_sound b k.nesting t (reads_wider l.nesting k.nesting levels b t r))))
        (judged_wider l k levels layers w.tree m w.has, λ s. sym w.text)

    becomes : (b : List ℕ) (t : Tree) (f : Finding) → Finds l b t f → Reads b l.nesting t → All IsByte b → length b < 2 ^ 64 → Becomes f
    becomes b t (judged m) h r low few = becomes_judged b t m h r low few (bool_cases (passes allows aad (judged m)))
    becomes b t (barred q) h r low few = nothing refl refl

    -- the step over the encoding of a message that passed
    abbrev again : MessageFields → Tree → Step
    again m t = record { item = item_at 0 (enc t) t; finding = judged m; entry = record { number = 0; offset = 0; verdict = Passed } }

    record Anew (ss : List Step) : Type 0 where
      steps : List Step
      all : AllSteps k allows aad steps
      bytes : bytes_of steps ≡ output_of allows aad ss
      writes : output_of allows aad steps ≡ output_of allows aad ss
      asks : questions_of allows aad steps ≡ passed_questions allows aad ss
      messages : passed_messages allows aad steps ≡ passed_messages allows aad ss
      count : passed_count allows aad steps ≡ passed_count allows aad ss
      through : Through k allows aad steps

    same_anew : (s : Step) (ss : List Step) → passes allows aad s.finding ≡ false → passed_of allows aad s.finding ≡ [] → Anew ss → Anew (s ∷ ss)
    same_anew s ss out p o =
        let w : written_of allows aad s.finding ≡ [] = ap (λ c. cond c (text_of s.finding) []) out in
        let q : asked_through k allows aad s.finding ≡ [] = ap (λ c. cond c (asked_of allows aad s.finding) []) out in
        let zero : passed_count allows aad ss ≡ 0 + passed_count allows aad ss = omega arith in
        let none : 0 + passed_count allows aad ss ≡ cond (passes allows aad s.finding) 1 0 + passed_count allows aad ss = ap (λ c. cond c 1 0 + passed_count allows aad ss) (sym out) in
        record {
          steps = o.steps;
          all = o.all;
          bytes = o.bytes ∙ ap (λ z. z ++ output_of allows aad ss) (sym w);
          writes = o.writes ∙ ap (λ z. z ++ output_of allows aad ss) (sym w);
          asks = o.asks ∙ ap (λ z. z ++ passed_questions allows aad ss) (sym q);
          messages = o.messages ∙ ap (λ z. z ++ passed_messages allows aad ss) (sym p);
          count = o.count ∙ zero ∙ none ∙ sym (one_more_counted (passes allows aad) s ss);
          through = o.through;
        }

    more_anew : (s : Step) (ss : List Step) (m : MessageFields) (t : Tree) → s.finding ≡ judged m → passes allows aad (judged m) ≡ true → message_text m ≡ enc t → Reads (enc t) k.nesting t
        → Finds k (enc t) t (judged m) → Anew ss → Anew (s ∷ ss)
    more_anew s ss m t e through text r finds o =
        let asked = asked_of allows aad (judged m) in
        let w : enc t ≡ written_of allows aad s.finding = sym text ∙ ap (λ c. cond c (message_text m) []) (sym through) ∙ ap (written_of allows aad) (sym e) in
        let v : written_of allows aad (judged m) ≡ written_of allows aad s.finding = ap (written_of allows aad) (sym e) in
        let q : asked ≡ asked_through k allows aad s.finding = ap (λ c. cond c asked []) (sym through) ∙ ap (asked_through k allows aad) (sym e) in
        let p : passed_of allows aad (judged m) ≡ passed_of allows aad s.finding = ap (passed_of allows aad) (sym e) in
        record {
          steps = again m t ∷ o.steps;
          all = ((r, finds, passed_verdict (first_no allows (questions m aad)) through), o.all);
          bytes = ap (λ z. z ++ bytes_of o.steps) w ∙ ap (λ z. written_of allows aad s.finding ++ z) o.bytes;
          writes = ap (λ z. z ++ output_of allows aad o.steps) v ∙ ap (λ z. written_of allows aad s.finding ++ z) o.writes;
          asks = ap (λ z. z ++ questions_of allows aad o.steps) q ∙ ap (λ z. asked_through k allows aad s.finding ++ z) o.asks;
          messages = ap (λ z. z ++ passed_messages allows aad o.steps) p ∙ ap (λ z. passed_of allows aad s.finding ++ z) o.messages;
          count =
              one_more_counted (passes allows aad) (again m t) o.steps ∙ ap (λ f. cond (passes allows aad f) 1 0 + passed_count allows aad o.steps) (sym e)
              ∙ ap (λ z. cond (passes allows aad s.finding) 1 0 + z) o.count ∙ sym (one_more_counted (passes allows aad) s ss);
          through = (through, o.through);
        }

    anew : (ss : List Step) → AllSteps l allows aad ss → All IsByte (bytes_of ss) → length (bytes_of ss) < 2 ^ 64 → Anew ss
    anew [] a low few = record { steps = []; all = tt; bytes = refl; writes = refl; asks = refl; messages = refl; count = refl; through = tt }
    anew (s ∷ ss) a low few =
        let size = length-append s.item.bytes (bytes_of ss) in
        let first = before (s.item.bytes ++ bytes_of ss) s.item.bytes (bytes_of ss) refl low in
        let rest = behind (s.item.bytes ++ bytes_of ss) s.item.bytes (bytes_of ss) refl low in
        by_step (becomes s.item.bytes s.item.value s.finding a.0.1 a.0.0 first (omega (arith, size, few))) (anew ss a.1 rest (omega (arith, size, few)))
      where
        by_step : Becomes s.finding → Anew ss → Anew (s ∷ ss)
        by_step (nothing out p) o = same_anew s ss out p o
        by_step (message m t e through text r finds) o = more_anew s ss m t e through text r finds o

    module _ (at : ℕ) (b : List ℕ) (ss : List Step) (rest : List ℕ) (first : Run l allows aad at b ss rest) (low : All IsByte b) (few : length b < 2 ^ 64) (to : ℕ) where
      written_anew : Anew ss
      written_anew =
          let t = run_told l allows aad at b ss rest first in
          let size = ap length t.whole in
          anew ss t.all (before b (bytes_of ss) rest t.whole low) (omega (arith, size, few, length-append (bytes_of ss) rest))

      run_anew : (o : Anew ss) → Run k allows aad to (output_of allows aad ss) (placed 1 to o.steps) []
      run_anew o =
          let whole : bytes_of o.steps ++ [] ≡ output_of allows aad ss = append-nil (bytes_of o.steps) ∙ o.bytes in
          subst (λ z. Run k allows aad to z (placed 1 to o.steps) []) whole (run_again k allows aad to o.steps [] o.all (nothing_unreadable k allows aad [] refl))

      pub fixed_run : (rs : List Step) × Run k allows aad to (output_of allows aad ss) rs []
      fixed_run = let o = written_anew in (placed 1 to o.steps, run_anew o)

      pub fixed_point : (rs : List Step) (more : List ℕ) → Run k allows aad to (output_of allows aad ss) rs more → FixedPoint k allows aad ss rs more
      fixed_point rs more q =
          let o = written_anew in
          let w = output_of allows aad ss in
          let vs = placed 1 to o.steps in
          let p : Run k allows aad to w vs [] = run_anew o in
          let once = run_once k allows aad to w rs vs more [] q p in
          let i = items_once_within k.nesting to w _ _ more [] q.items p.items in
          let same = steps_same k allows aad 1 rs vs i.0 q.steps p.steps in
          let through = same.through (placed_through k allows aad 1 to o.steps o.through) in
          record {
            rest = once.2;
            output = once.1 ∙ placed_writes allows aad 1 to o.steps ∙ o.writes;
            entries = entries_through k allows aad 1 rs q.steps through;
            noted = λ es are. noted_through k allows aad rs es through are;
            passed = same.count ∙ placed_count (passes allows aad) 1 to o.steps ∙ o.count;
            refused = none_refused k allows aad rs through;
            questions = once.0 ∙ placed_asks allows aad 1 to o.steps ∙ o.asks;
            messages = same.messages ∙ placed_messages allows aad 1 to o.steps ∙ o.messages;
          }
