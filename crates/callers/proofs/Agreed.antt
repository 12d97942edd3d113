-- The streaming check and the gate agree about the message in front.
use Rattle.std.proofs.Common.{arith, ◌≡◌, ℕ, ◌+◌, ◌<◌, List, [], ◌∷◌, ◌++◌, Option, Some, Bool, true, false, cond, not, refl, sym, ap, subst, ◌∙◌}
use Rattle.std.proofs.lemmas.List.Sums.{sum_by-cons}
use Rattle.std.specs.Prelude.{MatchBool}
use Rattle.ciborium.specs.HeadReading.{Moves}
use Rattle.ciborium.specs.Spelling.{Spells}
use Rattle.ciborium.specs.Tree.{Tree}
use Rattle.cose_gate.specs.Findings.{Bounds, usual, Finding, judged, Finds}
use Rattle.cose_gate.specs.Questions.{Question}
use Rattle.cose_gate.specs.Run.{Step, Run, passes, passed_count, refused_count}
use Rattle.cose_gate.specs.Streaming.{CheckedBy}
use Rattle.callers.proofs.Encoded.{front, read_once}
use Rattle.callers.specs.Roads.{FirstPasses}

module _ (allows : Question → Bool) (aad : List ℕ) where
  -- the message that was read, at the front of a run
  first : {T : Type 0} (decided : T → Question → T) (told told' : T) (room : ℕ) (lengths : List ℕ) (answer : Bool) (b more input : List ℕ)
      → ((t s : Tree) (a b u v : List ℕ) → Spells a t → Spells b s → a ++ u ≡ b ++ v → (t ≡ s) × (a ≡ b))
      → ((limits : Bounds) (b : List ℕ) (t : Tree) (f g : Finding) → Finds limits b t f → Finds limits b t g → f ≡ g)
      → input ≡ b ++ more → CheckedBy usual decided allows aad told told' room lengths answer b
      → (ss : List Step) (rest : List ℕ) → Run usual allows aad 0 input ss rest → FirstPasses allows aad ss answer
  first decided told told' room lengths answer b more input one law is c [] rest run =
      absurd (run.items.ends c.item more (record { spelling = b; whole = sym run.items.sequence ∙ is; reads = c.reads }))
  first decided told told' room lengths answer b more input one law is c (s ∷ ss) rest run =
      let q = run.items.sequence in
      let r = read_once one usual.nesting b s.item.bytes more q.2.0 c.item s.item.value (sym is ∙ q.2.1) c.reads q.1 in
      let here : Finds usual s.item.bytes s.item.value (judged c.message) =
      subst (λ (t : Tree). Finds usual s.item.bytes t (judged c.message)) r.1 (c.is, λ s. (let no : false ≡ true = s in cc)) in
      let f = law usual s.item.bytes s.item.value s.finding (judged c.message) run.steps.0 here in
      (s, ss, refl, ap (λ (g : Finding). passes allows aad g) f ∙ sym c.answer)

  pub first_passes : {T : Type 0} (decided : T → Question → T) (told told' : T) (room : ℕ) (lengths : List ℕ) (answer : Bool) (old new : Option (List ℕ)) (at at' : ℕ) (input : List ℕ)
      → ((t s : Tree) (a b u v : List ℕ) → Spells a t → Spells b s → a ++ u ≡ b ++ v → (t ≡ s) × (a ≡ b))
      → ((limits : Bounds) (b : List ℕ) (t : Tree) (f g : Finding) → Finds limits b t f → Finds limits b t g → f ≡ g)
      → Moves old new at at' (CheckedBy usual decided allows aad told told' room lengths answer) → old ≡ Some input
      → (ss : List Step) (rest : List ℕ) → Run usual allows aad 0 input ss rest → FirstPasses allows aad ss answer
  first_passes decided told told' room lengths answer old new at at' input one law m is ss rest run =
      let b = front old new at at' _ input m is in
      first decided told told' room lengths answer m.bytes b.0 input one law b.1 m.has ss rest run

  -- if the first passes one has passed, and else one was refused
  pub agreed : (ss : List Step) (answer : Bool) (passed refused : ℕ) → FirstPasses allows aad ss answer
      → passed ≡ passed_count allows aad ss → refused ≡ refused_count allows aad ss → MatchBool answer (0 < passed) (0 < refused)
  agreed ss true passed refused (s, more, whole, is) p r =
      let e : passed_count allows aad ss ≡ 1 + passed_count allows aad more
      = ap (passed_count allows aad) whole ∙ sum_by-cons (λ (s : Step). cond (passes allows aad s.finding) 1 0) s more
      ∙ ap (λ (y : Bool). cond {A = ℕ} y 1 0 + passed_count allows aad more) is in
      omega (arith, p, e)
  agreed ss false passed refused (s, more, whole, is) p r =
      let e : refused_count allows aad ss ≡ 1 + refused_count allows aad more
      = ap (refused_count allows aad) whole ∙ sum_by-cons (λ (s : Step). cond (not (passes allows aad s.finding)) 1 0) s more
      ∙ ap (λ (y : Bool). cond {A = ℕ} (not y) 1 0 + refused_count allows aad more) is in
      omega (arith, r, e)
