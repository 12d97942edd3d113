-- What was gone through, seen from the steps of a run.
use Rattle.std.proofs.Common.{◌≡◌, ℕ, ◌+◌, List, [], ◌∷◌, ◌++◌, length, map, Bool, cond, refl, sym, ap, subst, ◌∙◌, arith, length-append}
use Rattle.std.specs.List.{count_by}
use Rattle.std.proofs.lemmas.List.{append_cancel_left}
use Rattle.std.proofs.lemmas.List.Sums.{sum_by-cons}
use Rattle.ciborium.specs.Items.{Item, SequenceWithin, IsUnreadableWithin}
use Rattle.coset_headers.proofs.Unique.{reads_once}
use Rattle.cose_gate_core.specs.Questions.{Question}
use Rattle.cose_gate_core.specs.Findings.{Bounds, Finding, Finds}
use Rattle.cose_gate_core.specs.Run.{Step, Steps, Run, Course, IsVerdict, asked_of, written_of, questions_of, output_of, entries_of}
use Rattle.cose_gate_core.proofs.Reach.{reads_some}
use Rattle.cose_gate_core.proofs.Unique.{finding_once}
use Rattle.cose_gate_core.specs.Anew.{AreEntries}

same_item : (i j : Item) → i.offset ≡ j.offset → i.bytes ≡ j.bytes → i.value ≡ j.value → i ≡ j
same_item i j o b v = λ k. record { offset = o k; bytes = b k; value = v k }

module _ (limits : Bounds) (allows : Question → Bool) (aad : List ℕ) where
  -- a step that was made, beside one of a run: the same item and finding, and an entry that stands
  -- for it
  pub record Twin (made one : Step) : Type 0 where
    pub item : made.item ≡ one.item
    pub finding : made.finding ≡ one.finding
    pub number : made.entry.number ≡ one.entry.number
    pub offset : made.entry.offset ≡ one.entry.offset
    pub verdict : IsVerdict allows aad one.finding made.entry.verdict

  abbrev pub Twins : List Step → List Step → Type 0
  Twins [] [] = Unit {0}
  Twins [] (s ∷ ss) = ⊥
  Twins (c ∷ cs) [] = ⊥
  Twins (c ∷ cs) (s ∷ ss) = Twin c s × Twins cs ss

  pub twins_questions : (cs ss : List Step) → Twins cs ss → questions_of allows aad cs ≡ questions_of allows aad ss
  twins_questions [] [] t = refl
  twins_questions [] (s ∷ ss) t = absurd t
  twins_questions (c ∷ cs) [] t = absurd t
  twins_questions (c ∷ cs) (s ∷ ss) t =
      ap (λ f. asked_of allows aad f ++ questions_of allows aad cs) t.0.finding ∙ ap (λ x. asked_of allows aad s.finding ++ x) (twins_questions cs ss t.1)

  pub twins_output : (cs ss : List Step) → Twins cs ss → output_of allows aad cs ≡ output_of allows aad ss
  twins_output [] [] t = refl
  twins_output [] (s ∷ ss) t = absurd t
  twins_output (c ∷ cs) [] t = absurd t
  twins_output (c ∷ cs) (s ∷ ss) t =
      ap (λ f. written_of allows aad f ++ output_of allows aad cs) t.0.finding ∙ ap (λ x. written_of allows aad s.finding ++ x) (twins_output cs ss t.1)

  pub twins_entries : (cs ss : List Step) → Twins cs ss → AreEntries allows aad ss (entries_of cs)
  twins_entries [] [] t = tt
  twins_entries [] (s ∷ ss) t = absurd t
  twins_entries (c ∷ cs) [] t = absurd t
  twins_entries (c ∷ cs) (s ∷ ss) t = (t.0.number, t.0.offset, t.0.verdict, twins_entries cs ss t.1)

  pub twins_count : (p : Finding → Bool) (cs ss : List Step) → Twins cs ss → count_by (λ s. p s.finding) cs ≡ count_by (λ s. p s.finding) ss
  twins_count p [] [] t = refl
  twins_count p [] (s ∷ ss) t = absurd t
  twins_count p (c ∷ cs) [] t = absurd t
  twins_count p (c ∷ cs) (s ∷ ss) t =
      sum_by-cons (λ x. cond (p x.finding) 1 0) c cs ∙ ap (λ f. cond (p f) 1 0 + count_by (λ s. p s.finding) cs) t.0.finding
      ∙ ap (λ n. cond (p s.finding) 1 0 + n) (twins_count p cs ss t.1) ∙ sym (sum_by-cons (λ x. cond (p x.finding) 1 0) s ss)

  -- the steps `ss` are twins of `cs`, and then twins of `ds`
  pub record Split (cs : List Step) (ds : List Step) (ss : List Step) : Type 0 where
    pub front : List Step
    pub behind : List Step
    pub whole : ss ≡ front ++ behind
    pub first : Twins cs front
    pub then : Twins ds behind

  pub twins_split : (cs ds ss : List Step) → Twins (cs ++ ds) ss → Split cs ds ss
  twins_split [] ds ss t = record { front = []; behind = ss; whole = refl; first = tt; then = t }
  twins_split (c ∷ cs) ds [] t = absurd t
  twins_split (c ∷ cs) ds (s ∷ ss) t =
      let w = twins_split cs ds ss t.1 in
      record { front = s ∷ w.front; behind = w.behind; whole = ap (λ x. s ∷ x) w.whole; first = (t.0, w.first); then = w.then }

  -- the steps that were made are twins of the first steps of the run, and what was left is what the
  -- others go through
  pub record Within (at : ℕ) (cs ss : List Step) (more rest : List ℕ) : Type 0 where
    pub front : List Step
    pub behind : List Step
    pub whole : ss ≡ front ++ behind
    pub twins : Twins cs front
    pub place : ℕ
    pub left : SequenceWithin limits.nesting place more (map (λ s. s.item) behind) rest

  twin : (n at : ℕ) (c s : Step) → c.item ≡ s.item → Finds limits c.item.bytes c.item.value c.finding → c.entry.number ≡ n → c.entry.offset ≡ c.item.offset
      → IsVerdict allows aad c.finding c.entry.verdict → Finds limits s.item.bytes s.item.value s.finding → s.entry.number ≡ n → s.entry.offset ≡ s.item.offset
      → Twin c s
  twin n at c s e f a o v g b p =
      let one : c.finding ≡ s.finding =
      finding_once limits s.item.bytes s.item.value c.finding s.finding (subst (λ (i : Item). Finds limits i.bytes i.value c.finding) e f) g in
      record {
        item = e;
        finding = one;
        number = a ∙ sym b;
        offset = o ∙ ap (λ (i : Item). i.offset) e ∙ sym p;
        verdict = subst (λ z. IsVerdict allows aad z c.entry.verdict) one v;
      }

  pub within : (n at : ℕ) (b : List ℕ) (cs ss : List Step) (more rest : List ℕ) → IsUnreadableWithin limits.nesting rest → SequenceWithin limits.nesting at b (map (λ s. s.item) cs) more → SequenceWithin limits.nesting at b (map (λ s. s.item) ss) rest
      → Steps limits allows aad n cs → Steps limits allows aad n ss → Within at cs ss more rest
  within n at b [] ss more rest u p q x y = record {
    front = [];
    behind = ss;
    whole = refl;
    twins = tt;
    place = at;
    left = subst (λ (z : List ℕ). SequenceWithin limits.nesting at z (map (λ s. s.item) ss) rest) p q;
  }
  within n at b (c ∷ cs) [] more rest u p q x y = absurd (u c.item.value p.2.0 (record { spelling = c.item.bytes; whole = sym q ∙ p.2.1; reads = p.1 }))
  within n at b (c ∷ cs) (s ∷ ss) more rest u p q x y =
      let e : c.item.bytes ++ p.2.0 ≡ s.item.bytes ++ q.2.0 = sym p.2.1 ∙ q.2.1 in
      let o = reads_once c.item.bytes s.item.bytes p.2.0 q.2.0 limits.nesting c.item.value s.item.value p.1 q.1 e in
      let tails : p.2.0 ≡ q.2.0 = append_cancel_left c.item.bytes p.2.0 q.2.0 (e ∙ ap (λ z. z ++ q.2.0) (sym o.1)) in
      let there : SequenceWithin limits.nesting (at + length c.item.bytes) p.2.0 (map (λ s. s.item) ss) rest =
      subst (λ (z : List ℕ). SequenceWithin limits.nesting (at + length c.item.bytes) z (map (λ s. s.item) ss) rest) (sym tails)
      (subst (λ (z : List ℕ). SequenceWithin limits.nesting (at + length z) q.2.0 (map (λ s. s.item) ss) rest) (sym o.1) q.2.2) in
      let w = within (n + 1) (at + length c.item.bytes) p.2.0 cs ss more rest u p.2.2 there x.4 y.4 in
      let item : c.item ≡ s.item = same_item c.item s.item (p.0 ∙ sym q.0) o.1 o.0 in
      record {
        front = s ∷ w.front;
        behind = w.behind;
        whole = ap (λ z. s ∷ z) w.whole;
        twins = (twin n at c s item x.0 x.1 x.2 x.3 y.0 y.1 y.2, w.twins);
        place = w.place;
        left = w.left;
      }

  pub course_within : (at : ℕ) (b : List ℕ) (cs ss : List Step) (more rest : List ℕ) → Course limits allows aad at b cs more → Run limits allows aad at b ss rest
      → Within at cs ss more rest
  course_within at b cs ss more rest c r = within 1 at b cs ss more rest r.items.ends c.sequence r.items.sequence c.steps r.steps

  -- the place after the last item
  pub place_behind : (at : ℕ) (b : List ℕ) (cs : List Step) (c : Step) (more : List ℕ) → SequenceWithin limits.nesting at b (map (λ s. s.item) (cs ++ c ∷ [])) more
      → c.item.offset + length c.item.bytes + length more ≡ at + length b
  place_behind at b [] c more q =
      let l : length b ≡ length c.item.bytes + length q.2.0 = ap length q.2.1 ∙ length-append c.item.bytes q.2.0 in
      let m : length q.2.0 ≡ length more = ap length q.2.2 in
      let o : c.item.offset ≡ at = q.0 in
      omega arith
  place_behind at b (s ∷ cs) c more q =
      let l : length b ≡ length s.item.bytes + length q.2.0 = ap length q.2.1 ∙ length-append s.item.bytes q.2.0 in
      let h = place_behind (at + length s.item.bytes) q.2.0 cs c more q.2.2 in
      omega arith

  -- if no readable item begins in what was left, the run has no more steps
  pub unreadable_ends : (place : ℕ) (more rest : List ℕ) (ss : List Step) → IsUnreadableWithin limits.nesting more → SequenceWithin limits.nesting place more (map (λ s. s.item) ss) rest → (ss ≡ []) × (rest ≡ more)
  unreadable_ends place more rest [] u q = (refl, sym q)
  unreadable_ends place more rest (s ∷ ss) u q = absurd (u s.item.value q.2.0 (record { spelling = s.item.bytes; whole = q.2.1; reads = q.1 }))

  -- nothing is left, and so no item begins there
  pub nothing_unreadable : (more : List ℕ) → more ≡ [] → IsUnreadableWithin limits.nesting more
  nothing_unreadable more e v rest f =
      let some = reads_some limits.nesting f.spelling v f.reads in
      let l : length more ≡ length f.spelling + length rest = ap length f.whole ∙ length-append f.spelling rest in
      let z : length more ≡ 0 = ap length e in
      omega arith
