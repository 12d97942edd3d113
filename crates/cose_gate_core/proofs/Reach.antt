-- How far the gate has come.
use Rattle.std.proofs.Common.{◌≡◌, ℕ, ◌+◌, ◌<◌, List, [], ◌∷◌, ◌++◌, length, map, Option, None, Some, Bool, true, false, not, cond, refl, sym, ap, subst, ◌∙◌, arith, append_assoc, append-nil, length-append}
use Rattle.std.specs.Prelude.{is_none}
use Rattle.std.specs.List.{flat_map, count_by}
use Rattle.std.proofs.KnownBytes.{Consumes-nil, Consumes-trans, Appends-nil}
use Rattle.std.proofs.lemmas.Grind.{flat_map-append}
use Rattle.std.proofs.lemmas.List.Sums.{sum_by-append, sum_by-cons}
use Rattle.std.proofs.lemmas.List.{map-append}
use Rattle.ciborium_ll.specs.Reading.{Moves}
use Rattle.ciborium_value.specs.Tree.{Tree}
use Rattle.ciborium.specs.Front.{Reads}
use Rattle.ciborium.specs.Items.{Item, SequenceWithin}
use Rattle.ciborium.proofs.ChildCases.{front_some}
use Rattle.cose_gate_core.specs.declared.report.Entry.{Entry}
use Rattle.cose_gate_core.specs.declared.report.Verdict.{Verdict}
use Rattle.cose_gate_core.specs.Questions.{Question, questions}
use Rattle.cose_gate_core.specs.Asked.{first_no, folded_over}
use Rattle.cose_gate_core.specs.Findings.{Finding, judged, barred, not_tagged, encrypted, other_tag, shape, detached, no_signature, not_shortest, Bounds, Finds}
use Rattle.cose_gate_core.specs.Run.{Step, Steps, IsVerdict, judged_by, has_passed, passes, asked_of, written_of, questions_of, output_of, entries_of}
use Rattle.cose_gate_core.specs.Misshapen.{NamesShape, NamesShapes}
use Rattle.cose_gate_core.specs.Outcome.{Rules, GateState}
use Rattle.cose_gate_core.specs.Next.{Reached}

-- lists
pub folded_append : {S X : Type 0} (step : S → X → S) (s : S) (xs ys : List X) → folded_over step s (xs ++ ys) ≡ folded_over step (folded_over step s xs) ys
folded_append step s [] ys = refl
folded_append step s (x ∷ xs) ys = folded_append step (step s x) xs ys

pub count_then : {X : Type 0} (p : X → Bool) (xs : List X) (x : X) → count_by p (xs ++ x ∷ []) ≡ count_by p xs + cond (p x) 1 0
count_then p xs x = sum_by-append (λ x. cond (p x) 1 0) xs (x ∷ []) ∙ ap (λ n. count_by p xs + n) (sum_by-cons (λ x. cond (p x) 1 0) x [] ∙ nil (cond (p x) 1 0))
  where
    nil : (n : ℕ) → n + 0 ≡ n
    nil n = omega arith

both_counts : {X : Type 0} (p : X → Bool) (xs : List X) → count_by p xs + count_by (λ x. not (p x)) xs ≡ length xs
both_counts p [] = refl
both_counts p (x ∷ xs) =
    let h : count_by p xs + count_by (λ x. not (p x)) xs ≡ length xs = both_counts p xs in
    let a : count_by p (x ∷ xs) ≡ cond (p x) 1 0 + count_by p xs = sum_by-cons (λ x. cond (p x) 1 0) x xs in
    let b : count_by (λ x. not (p x)) (x ∷ xs) ≡ cond (not (p x)) 1 0 + count_by (λ x. not (p x)) xs = sum_by-cons (λ x. cond (not (p x)) 1 0) x xs in
    let one : cond (p x) 1 0 + cond (not (p x)) 1 0 ≡ 1 = each (p x) in
    omega arith
  where
    each : (b : Bool) → cond b 1 0 + cond (not b) 1 0 ≡ 1
    each true = refl
    each false = refl

pub flat_then : {X A : Type 0} (f : X → List A) (xs : List X) (x : X) → flat_map f (xs ++ x ∷ []) ≡ flat_map f xs ++ f x
flat_then f xs x = flat_map-append f xs (x ∷ []) ∙ ap (λ z. flat_map f xs ++ z) (append-nil (f x))

-- one item more after a sequence
unfoldable pub item_at : ℕ → List ℕ → Tree → Item
item_at o b v = record { offset = o; bytes = b; value = v }

sequence_then : (k at o : ℕ) (b x : List ℕ) (is : List Item) (v : Tree) → o ≡ at + length b → SequenceWithin k at b is [] → Reads x k v
    → SequenceWithin k at (b ++ x) (is ++ item_at o x v ∷ []) []
unfolding item_at
sequence_then k at o b x [] v e s r =
    let l : length b ≡ 0 = ap length s in
    (omega arith, r, ([], ap (λ z. z ++ x) s ∙ sym (append-nil x), refl))
sequence_then k at o b x (i ∷ is) v e s r =
    let l : length b ≡ length i.bytes + length s.2.0 = ap length s.2.1 ∙ length-append i.bytes s.2.0 in
    (s.0, s.1, (s.2.0 ++ x, ap (λ z. z ++ x) s.2.1 ∙ append_assoc i.bytes s.2.0 x, sequence_then k (at + length i.bytes) o s.2.0 x is v (omega arith) s.2.2 r))

-- what follows a sequence
pub sequence_more : (k at : ℕ) (b more : List ℕ) (is : List Item) → SequenceWithin k at b is [] → SequenceWithin k at (b ++ more) is more
sequence_more k at b more [] s = ap (λ z. z ++ more) s
sequence_more k at b more (i ∷ is) s = (s.0, s.1, (s.2.0 ++ more, ap (λ z. z ++ more) s.2.1 ∙ append_assoc i.bytes s.2.0 more, sequence_more k (at + length i.bytes) s.2.0 more is s.2.2))

-- an item takes bytes
pub reads_some : (k : ℕ) (x : List ℕ) (v : Tree) → Reads x k v → 0 < length x
reads_some k x v r = front_some x [] k v (record { spelling = x; whole = sym (append-nil x); reads = r })

pub item_grows : (k : ℕ) (l l' : Option (List ℕ)) (p p' : ℕ) (v : Tree) → Moves l l' p p' (λ (b : List ℕ). Reads b k v) → p < p'
item_grows k l l' p p' v t = let s = reads_some k t.bytes v t.has in let g = t.grown in omega arith

module _ (limits : Bounds) (allows : Question → Bool) (aad : List ℕ) where
  -- a verdict has passed exactly when what is found passes
  pub verdict_passes : (f : Finding) (v : Verdict) → IsVerdict allows aad f v → has_passed v ≡ passes allows aad f
  verdict_passes (judged m) v e = ap has_passed e ∙ each (first_no allows (questions m aad))
    where
      each : (o : Option ℕ) → has_passed (judged_by o) ≡ is_none o
      each None = refl
      each (Some n) = refl
  verdict_passes (barred not_tagged) v e = ap has_passed e
  verdict_passes (barred encrypted) v e = ap has_passed e
  verdict_passes (barred (other_tag n)) v e = ap has_passed e
  verdict_passes (barred shape) v e = ap has_passed e.1
  verdict_passes (barred detached) v e = ap has_passed e
  verdict_passes (barred no_signature) v e = ap has_passed e
  verdict_passes (barred not_shortest) v e = ap has_passed e

  steps_then : (n : ℕ) (ss : List Step) (s : Step) → Steps limits allows aad n ss → Finds limits s.item.bytes s.item.value s.finding → s.entry.number ≡ n + length ss → s.entry.offset ≡ s.item.offset
      → IsVerdict allows aad s.finding s.entry.verdict → Steps limits allows aad n (ss ++ s ∷ [])
  steps_then n [] s a f e o v = (f, omega arith, o, v, tt)
  steps_then n (x ∷ xs) s a f e o v = (a.0, a.1, a.2, a.3, steps_then (n + 1) xs s a.4 f (omega arith) o v)

-- the shapes of one step more
pub shapes_then : (limits : Bounds) (ss : List Step) (s : Step) → NamesShapes limits ss → NamesShape limits s.item.value s.entry.verdict → NamesShapes limits (ss ++ s ∷ [])
shapes_then limits [] s n m = (m, tt)
shapes_then limits (x ∷ xs) s n m = (n.0, shapes_then limits xs s n.1 m)

pub reached_start : {T S : Type 0} (rules : Rules T S) (seen : GateState T S) → Reached rules seen seen 0 0 []
reached_start rules seen = record {
  taken = record { bytes = []; has = refl; taken = Consumes-nil seen.left; grown = omega arith };
  steps = tt;
  shapes = tt;
  made = record { told = refl; state = refl; written = Appends-nil seen.written };
  passed_is = refl;
  refused_is = refl;
}

-- one step more
unfoldable pub step_at : ℕ → List ℕ → Tree → Finding → Entry → Step
step_at o x v f e = record { item = item_at o x v; finding = f; entry = e }

unfoldable pub entry_at : ℕ → ℕ → Verdict → Entry
entry_at n o v = record { number = n; offset = o; verdict = v }

module _ {T S : Type 0} (rules : Rules T S) where
  -- the questions, output, entries of one step more
  pub questions_then : (ss : List Step) (s : Step) → questions_of rules.allows rules.aad (ss ++ s ∷ []) ≡ questions_of rules.allows rules.aad ss ++ asked_of rules.allows rules.aad s.finding
  questions_then ss s = flat_then (λ s. asked_of rules.allows rules.aad s.finding) ss s

  pub output_then : (ss : List Step) (s : Step) → output_of rules.allows rules.aad (ss ++ s ∷ []) ≡ output_of rules.allows rules.aad ss ++ written_of rules.allows rules.aad s.finding
  output_then ss s = flat_then (λ s. written_of rules.allows rules.aad s.finding) ss s

  pub entries_then : (ss : List Step) (s : Step) → entries_of (ss ++ s ∷ []) ≡ entries_of ss ++ s.entry ∷ []
  entries_then ss s = map-append (λ s. s.entry) ss (s ∷ [])

  items_then : (ss : List Step) (s : Step) → map (λ s. s.item) (ss ++ s ∷ []) ≡ map (λ s. s.item) ss ++ s.item ∷ []
  items_then ss s = map-append (λ s. s.item) ss (s ∷ [])

  pub told_then : (old mid new : T) (ss : List Step) (s : Step) → mid ≡ folded_over rules.decided old (questions_of rules.allows rules.aad ss)
      → new ≡ folded_over rules.decided mid (asked_of rules.allows rules.aad s.finding) → new ≡ folded_over rules.decided old (questions_of rules.allows rules.aad (ss ++ s ∷ []))
  told_then old mid new ss s p q =
      q ∙ ap (λ z. folded_over rules.decided z (asked_of rules.allows rules.aad s.finding)) p
      ∙ sym (folded_append rules.decided old (questions_of rules.allows rules.aad ss) (asked_of rules.allows rules.aad s.finding))
      ∙ ap (folded_over rules.decided old) (sym (questions_then ss s))

  -- how far the steps so far and one more item have come
  pub record Further (old newer : GateState T S) (done : List Step) (s : Step) : Type 0 where
    pub taken : Moves old.left newer.left old.offset newer.offset (λ (b : List ℕ). SequenceWithin rules.limits.nesting old.offset b (map (λ s. s.item) (done ++ s ∷ [])) [])
    pub steps : Steps rules.limits rules.allows rules.aad 1 (done ++ s ∷ [])
    pub shapes : NamesShapes rules.limits (done ++ s ∷ [])

  pub further : (old new newer : GateState T S) (passed refused : ℕ) (done : List Step) (r : Reached rules old new passed refused done)
      (v : Tree) (t : Moves new.left newer.left new.offset newer.offset (λ (b : List ℕ). Reads b rules.limits.nesting v)) (f : Finding) (verdict : Verdict) → Finds rules.limits t.bytes v f → IsVerdict rules.allows rules.aad f verdict → NamesShape rules.limits v verdict
      → Further old newer done (step_at new.offset t.bytes v f (entry_at (passed + refused + 1) new.offset verdict))
  unfolding step_at entry_at item_at
  further old new newer passed refused done r v t f verdict finds says named =
      let s = step_at new.offset t.bytes v f (entry_at (passed + refused + 1) new.offset verdict) in
      let a = r.taken.grown in
      let b = t.grown in
      let count = both_counts (λ s. passes rules.allows rules.aad s.finding) done in
      let c = r.passed_is in
      let d = r.refused_is in
      record {
        taken = record {
          bytes = r.taken.bytes ++ t.bytes;
          has = subst (λ (z : List Item). SequenceWithin rules.limits.nesting old.offset (r.taken.bytes ++ t.bytes) z []) (sym (items_then done s)) (sequence_then rules.limits.nesting old.offset new.offset r.taken.bytes t.bytes (map (λ s. s.item) done) v a r.taken.has t.has);
          taken = Consumes-trans old.left new.left newer.left r.taken.bytes t.bytes r.taken.taken t.taken;
          grown = omega (arith, length-append r.taken.bytes t.bytes);
        };
        steps = steps_then rules.limits rules.allows rules.aad 1 done s r.steps finds (omega arith) refl says;
        shapes = shapes_then rules.limits done s r.shapes named;
      }
