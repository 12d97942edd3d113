-- The steps of a run, wherever they are.
use Rattle.std.proofs.Common.{◌≡◌, ℕ, ◌+◌, List, [], ◌∷◌, ◌++◌, length, map, Bool, refl, sym, ap, ◌∙◌, arith, append_assoc, length-append}
use Rattle.ciborium.specs.Front.{Reads}
use Rattle.ciborium.specs.Items.{SequenceWithin, IsUnreadableWithin, item_at}
use Rattle.cose_gate_core.specs.declared.report.Entry.{Entry}
use Rattle.cose_gate_core.specs.declared.report.Verdict.{Verdict}
use Rattle.cose_gate_core.specs.Questions.{Question}
use Rattle.cose_gate_core.specs.Findings.{Bounds, Finds}
use Rattle.cose_gate_core.specs.Run.{Step, Steps, Run, Course, IsVerdict, asked_of, written_of, questions_of, output_of, entries_of}
use Rattle.cose_gate_core.specs.Anew.{bytes_of, entry_behind}

-- the step as the item with this number, at this offset
abbrev pub put : ℕ → ℕ → Step → Step
put n at s = record {
  item = item_at at s.item.bytes s.item.value;
  finding = s.finding;
  entry = record { number = n; offset = at; verdict = s.entry.verdict };
}

-- the same steps one after another, numbered from n on, the first at this offset
abbrev pub placed : ℕ → ℕ → List Step → List Step
placed n at [] = []
placed n at (s ∷ ss) = put n at s ∷ placed (n + 1) (at + length s.item.bytes) ss

pub placed_append : (n at : ℕ) (ss rs : List Step) → placed n at (ss ++ rs) ≡ placed n at ss ++ placed (n + length ss) (at + length (bytes_of ss)) rs
placed_append n at [] rs =
    let a : n ≡ n + length {A = Step} [] = omega arith in
    let b : at ≡ at + length (bytes_of []) = omega arith in
    ap (λ z. placed z at rs) a ∙ ap (λ z. placed (n + length {A = Step} []) z rs) b
placed_append n at (s ∷ ss) rs =
    let h = placed_append (n + 1) (at + length s.item.bytes) ss rs in
    let l = length-append s.item.bytes (bytes_of ss) in
    let a : n + 1 + length ss ≡ n + length (s ∷ ss) = omega arith in
    let b : at + length s.item.bytes + length (bytes_of ss) ≡ at + length (bytes_of (s ∷ ss)) = omega (arith, l) in
    let head = put n at s in
    let front = placed (n + 1) (at + length s.item.bytes) ss in
    ap (λ z. head ∷ z) h ∙ ap (λ z. head ∷ (front ++ placed z (at + length s.item.bytes + length (bytes_of ss)) rs)) a
    ∙ ap (λ z. head ∷ (front ++ placed (n + length (s ∷ ss)) z rs)) b

pub bytes_append : (ss rs : List Step) → bytes_of (ss ++ rs) ≡ bytes_of ss ++ bytes_of rs
bytes_append [] rs = refl
bytes_append (s ∷ ss) rs = ap (λ z. s.item.bytes ++ z) (bytes_append ss rs) ∙ sym (append_assoc s.item.bytes (bytes_of ss) (bytes_of rs))

-- what is asked and written doesn't hang on the place
pub placed_asks : (allows : Question → Bool) (aad : List ℕ) (n at : ℕ) (ss : List Step) → questions_of allows aad (placed n at ss) ≡ questions_of allows aad ss
placed_asks allows aad n at [] = refl
placed_asks allows aad n at (s ∷ ss) = ap (λ z. asked_of allows aad s.finding ++ z) (placed_asks allows aad (n + 1) (at + length s.item.bytes) ss)

pub placed_writes : (allows : Question → Bool) (aad : List ℕ) (n at : ℕ) (ss : List Step) → output_of allows aad (placed n at ss) ≡ output_of allows aad ss
placed_writes allows aad n at [] = refl
placed_writes allows aad n at (s ∷ ss) = ap (λ z. written_of allows aad s.finding ++ z) (placed_writes allows aad (n + 1) (at + length s.item.bytes) ss)

same_entry : (e : Entry) (n at : ℕ) (v : Verdict) → n ≡ e.number → at ≡ e.offset → v ≡ e.verdict → record { number = n; offset = at; verdict = v } ≡ e
same_entry e n at v a b c = λ i. record { number = a i; offset = b i; verdict = c i }

-- steps that are in their places: numbered from n on, from this offset on
abbrev pub Stand : ℕ → ℕ → List Step → Type 0
Stand n at [] = Unit {0}
Stand n at (s ∷ ss) = (s.entry.number ≡ n) × (s.entry.offset ≡ at) × Stand (n + 1) (at + length s.item.bytes) ss

pub stand_entries : (n at k o items bytes : ℕ) (ss : List Step) → Stand n at ss → k ≡ n + items → o ≡ at + bytes → entries_of (placed k o ss) ≡ map (entry_behind items bytes) (entries_of ss)
stand_entries n at k o items bytes [] h a b = refl
stand_entries n at k o items bytes (s ∷ ss) h a b =
    let head = same_entry (entry_behind items bytes s.entry) k o s.entry.verdict (a ∙ ap (λ z. z + items) (sym h.0)) (b ∙ ap (λ z. z + bytes) (sym h.1)) refl in
    let c : k + 1 ≡ n + 1 + items = omega arith in
    let d : o + length s.item.bytes ≡ at + length s.item.bytes + bytes = omega arith in
    ap (λ z. z ∷ entries_of (placed (k + 1) (o + length s.item.bytes) ss)) head
    ∙ ap (λ z. entry_behind items bytes s.entry ∷ z) (stand_entries (n + 1) (at + length s.item.bytes) (k + 1) (o + length s.item.bytes) items bytes ss h.2 c d)

pub stand_same : (n at : ℕ) (ss : List Step) → Stand n at ss → entries_of (placed n at ss) ≡ entries_of ss
stand_same n at [] h = refl
stand_same n at (s ∷ ss) h =
    ap (λ z. z ∷ entries_of (placed (n + 1) (at + length s.item.bytes) ss)) (same_entry s.entry n at s.entry.verdict (sym h.0) (sym h.1) refl)
    ∙ ap (λ z. s.entry ∷ z) (stand_same (n + 1) (at + length s.item.bytes) ss h.2)

module _ (limits : Bounds) (allows : Question → Bool) (aad : List ℕ) where
  -- what is true of a step wherever it is
  abbrev pub IsStep : Step → Type 0
  IsStep s = Reads s.item.bytes limits.nesting s.item.value × Finds limits s.item.bytes s.item.value s.finding × IsVerdict allows aad s.finding s.entry.verdict

  abbrev pub AllSteps : List Step → Type 0
  AllSteps [] = Unit {0}
  AllSteps (s ∷ ss) = IsStep s × AllSteps ss

  -- what a course says, apart from the places
  pub record Told (n at : ℕ) (b : List ℕ) (ss : List Step) (more : List ℕ) : Type 0 where
    pub all : AllSteps ss
    pub whole : b ≡ bytes_of ss ++ more
    pub stand : Stand n at ss

  pub told : (n at : ℕ) (b : List ℕ) (ss : List Step) (more : List ℕ) → SequenceWithin limits.nesting at b (map (λ s. s.item) ss) more → Steps limits allows aad n ss → Told n at b ss more
  told n at b [] more p q = record { all = tt; whole = p; stand = tt }
  told n at b (s ∷ ss) more p q =
      let r = told (n + 1) (at + length s.item.bytes) p.2.0 ss more p.2.2 q.4 in
      record {
        all = ((p.1, q.0, q.3), r.all);
        whole = p.2.1 ∙ ap (λ z. s.item.bytes ++ z) r.whole ∙ sym (append_assoc s.item.bytes (bytes_of ss) more);
        stand = (q.1, q.2 ∙ p.0, r.stand);
      }

  pub retold : (n at : ℕ) (ss : List Step) (more : List ℕ) → AllSteps ss → SequenceWithin limits.nesting at (bytes_of ss ++ more) (map (λ s. s.item) (placed n at ss)) more
  retold n at [] more a = refl
  retold n at (s ∷ ss) more a =
      (refl, a.0.0, (bytes_of ss ++ more, append_assoc s.item.bytes (bytes_of ss) more, retold (n + 1) (at + length s.item.bytes) ss more a.1))

  pub placed_steps : (n at : ℕ) (ss : List Step) → AllSteps ss → Steps limits allows aad n (placed n at ss)
  placed_steps n at [] a = tt
  placed_steps n at (s ∷ ss) a = (a.0.1, refl, refl, a.0.2, placed_steps (n + 1) (at + length s.item.bytes) ss a.1)

  pub all_append : (ss rs : List Step) → AllSteps ss → AllSteps rs → AllSteps (ss ++ rs)
  all_append [] rs a b = b
  all_append (s ∷ ss) rs a b = (a.0, all_append ss rs a.1 b)

  pub all_split : (ss rs : List Step) → AllSteps (ss ++ rs) → AllSteps ss × AllSteps rs
  all_split [] rs a = (tt, a)
  all_split (s ∷ ss) rs a = let h = all_split ss rs a.1 in ((a.0, h.0), h.1)

  pub course_told : (at : ℕ) (b : List ℕ) (ss : List Step) (more : List ℕ) → Course limits allows aad at b ss more → Told 1 at b ss more
  course_told at b ss more c = told 1 at b ss more c.sequence c.steps

  pub run_told : (at : ℕ) (b : List ℕ) (ss : List Step) (rest : List ℕ) → Run limits allows aad at b ss rest → Told 1 at b ss rest
  run_told at b ss rest r = told 1 at b ss rest r.items.sequence r.steps

  -- steps anywhere are those of a run over their bytes
  pub run_again : (at : ℕ) (ss : List Step) (rest : List ℕ) → AllSteps ss → IsUnreadableWithin limits.nesting rest → Run limits allows aad at (bytes_of ss ++ rest) (placed 1 at ss) rest
  run_again at ss rest a u = record {
    items = record { sequence = retold 1 at ss rest a; ends = u };
    steps = placed_steps 1 at ss a;
  }
