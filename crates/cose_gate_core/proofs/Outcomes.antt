-- What is returned, from how far the gate has come.
use Rattle.std.proofs.Common.{◌≡◌, ◌≢◌, ◌⊎◌, inl, inr, ℕ, ◌+◌, ◌^◌, ◌<◌, ◌≤◌, List, [], ◌∷◌, ◌++◌, length, map, Option, None, Some, Bool, true, false, not, cond, refl, sym, ap, subst, ◌∙◌, arith, append-nil, length-append}
use Rattle.std.specs.Prelude.{Result, Ok, Err, IfOk}
use Rattle.std.specs.Io.KnownBytes.{Consumes, Appends, Keeps}
use Rattle.std.proofs.KnownBytes.{Appends-trans}
use Rattle.std.proofs.lemmas.Grind.{flat_map-append}
use Rattle.ciborium_ll.specs.Reading.{Moves, Starts}
use Rattle.ciborium_value.specs.Tree.{Tree}
use Rattle.ciborium_ll.proofs.Closings.{same_fronts}
use Rattle.ciborium.specs.Front.{Reads, HoldsOne}
use Rattle.ciborium.proofs.Excludes.{excludes}
use Rattle.ciborium.proofs.OneItem.{read_one}
use Rattle.ciborium.specs.Items.{SequenceWithin, IsUnreadableWithin}
use Rattle.ciborium.specs.Damage.{end, deep, syntax, semantic, Damage}
use Rattle.ciborium.specs.Reading.{IfKnown, IfEnd, FailsAt, IsNoMemory, IsFar, SomeTaken, fault_failures}
use Rattle.ciborium.specs.declared.de.Error.{Error}
use Rattle.ciborium.specs.declared.de.Error.TheVariants as de
use Rattle.cose_gate_core.specs.declared.report.Entry.{Entry}
use Rattle.cose_gate_core.specs.declared.report.Verdict.{Verdict}
use Rattle.cose_gate_core.specs.declared.gating.Counts.{Counts}
use Rattle.cose_gate_core.specs.declared.gating.GateFault.{GateFault}
use Rattle.cose_gate_core.specs.declared.gating.GateFault.TheVariants.{Decode, Write, Memory}
use Rattle.cose_gate_core.specs.declared.passing.ItemFault.{ItemFault}
use Rattle.cose_gate_core.specs.declared.passing.ItemFault.TheVariants as fault
use Rattle.cose_gate_core.specs.Questions.{Question, MessageFields, questions}
use Rattle.cose_gate_core.specs.Asked.{first_no, folded_over, IsFront}
use Rattle.cose_gate_core.specs.Findings.{judged}
use Rattle.cose_gate_core.specs.Run.{Step, Steps, judged_by, has_passed, passes, asked_of, text_of, written_of, questions_of, output_of, entries_of, passed_count, refused_count, Course}
use Rattle.cose_gate_core.specs.Outcome.{Rules, GateState, IsFaultOf, IsNoReaderFault, IfTooLong}
use Rattle.cose_gate_core.specs.Misshapen.{NamesShapes}
use Rattle.cose_gate_core.specs.Next.{Made, Reached, RanSteps, IsReadFault}
use Rattle.cose_gate_core.specs.GateRun.{asking, writing, noting, Ending, finished, unflushed, unreadable, no_memory, within, at_hand, taken_at, asked_at, written_at, result_of, IfOfBytes, EndsAt, FaultAt, Leaves, Ran}
use Rattle.cose_gate_core.specs.Passing.{ItemRules, ItemSight, WentThrough, Half, HalfWritten, ItemFails, at_end, stopped_by}
use Rattle.coset_labels.specs.Limits.{nesting_of}
use Rattle.cose_gate_core.specs.Terms.{IsTaken}
use Rattle.cose_gate_core.specs.declared.terms.Terms.{Terms}
use Rattle.cose_gate_core.proofs.Items.{answers_name}
use Rattle.cose_gate_core.proofs.Nothing.{empty_damage}
use Rattle.cose_gate_core.proofs.Reach.{reads_some, further, step_at, entry_at, told_then, questions_then, output_then, entries_then, verdict_passes, count_then, folded_append, sequence_more}

front_then : {A : Type 0} (xs ys all : List A) → all ≡ xs ++ ys → IsFront xs all
front_then xs ys all e = record { more = ys; whole = e }

-- it is not all, if more follows
not_whole : {A : Type 0} (xs ys : List A) (y : A) → xs ≡ xs ++ y ∷ ys → ⊥
not_whole xs ys y e = let l : length xs ≡ length xs + length (y ∷ ys) = ap length e ∙ length-append xs (y ∷ ys) in omega arith

-- the bytes that are to come, and none if they are not known
abbrev pub rest_of : Option (List ℕ) → List ℕ
rest_of None = []
rest_of (Some b) = b

pub rest_known : (l : Option (List ℕ)) → IfKnown l (λ b. b ≡ rest_of l)
rest_known None = tt
rest_known (Some b) = refl

-- nothing is left after what was consumed
nothing_behind : (l l' m : Option (List ℕ)) (b : List ℕ) → Consumes l l' b → IfKnown l' (λ a. (a ≡ []) × (m ≡ Some [])) → IfKnown l (λ a. m ≡ Some [])
nothing_behind None l' m b c k = tt
nothing_behind (Some a) None m b c k = absurd c
nothing_behind (Some a) (Some r) m b c k = k.1

-- of two facts about known bytes the first: there are none
none_first : (Q : Type 0) (l : Option (List ℕ)) → IfKnown l (λ b. (b ≡ []) × Q) → IfKnown l (λ b. b ≡ [])
none_first Q None k = tt
none_first Q (Some b) k = k.0

consumed : (l l' : Option (List ℕ)) (b more : List ℕ) → Consumes l l' b → IfKnown l' (λ r. r ≡ more) → IfKnown l (λ a. a ≡ b ++ more)
consumed None l' b more c m = tt
consumed (Some a) None b more c m = absurd c
consumed (Some a) (Some r) b more c m = c ∙ ap (λ z. b ++ z) m

-- of the bytes `more` that were to come some were taken, and if P the rest is left
record Partly (l l' : Option (List ℕ)) (p p' : ℕ) (P : Type 0) : Type 0 where
  pub more : List ℕ
  pub is : IfKnown l (λ b. b ≡ more)
  pub taken : List ℕ
  pub rest : List ℕ
  pub whole : more ≡ taken ++ rest
  pub grown : p' ≡ p + length taken
  pub behind : P → IfKnown l (λ b. l' ≡ Some rest)

-- what is left is told if it was told what was to come
pub rest_told : (l l' : Option (List ℕ)) (b : List ℕ) → Consumes l l' b → IfKnown l (λ a. l' ≡ Some (rest_of l'))
rest_told None l' b c = tt
rest_told (Some a) None b c = absurd c
rest_told (Some a) (Some r) b c = refl

known_before : (Q : Type 0) (l l' : Option (List ℕ)) (b : List ℕ) → Consumes l l' b → IfKnown l' (λ r. Q) → IfKnown l (λ a. Q)
known_before Q None l' b c k = tt
known_before Q (Some a) None b c k = absurd c
known_before Q (Some a) (Some r) b c k = k

moved : (l l' : Option (List ℕ)) (p p' : ℕ) (P : Type 0) (Q : List ℕ → Type 0) → Moves l l' p p' Q → Partly l l' p p' P
moved l l' p p' P Q t = record {
  more = t.bytes ++ rest_of l';
  is = consumed l l' t.bytes (rest_of l') t.taken (rest_known l');
  taken = t.bytes;
  rest = rest_of l';
  whole = refl;
  grown = t.grown;
  behind = λ is. rest_told l l' t.bytes t.taken;
}

-- what was taken of the bytes to come, and what follows it there
stopped : (l l' : Option (List ℕ)) (p p' : ℕ) (P : Type 0) → (P → ⊥) → (b : List ℕ) → Starts l b → p' ≡ p + length b → Partly l l' p p' P
stopped None l' p p' P not b s g = record { more = b; is = tt; taken = b; rest = []; whole = sym (append-nil b); grown = g; behind = λ is. absurd (not is) }
stopped (Some a) l' p p' P not b s g = record { more = a; is = refl; taken = b; rest = s.0; whole = s.1; grown = g; behind = λ is. absurd (not is) }

partly : {E : Type 0} (l l' : Option (List ℕ)) (p p' : ℕ) (e : Error E) → SomeTaken l l' p p' e → Partly l l' p p' (IsNoReaderFault e)
partly l l' p p' (de.Io x) s = stopped l l' p p' (IsNoReaderFault (de.Io x)) (λ no. no x refl) s.bytes s.there s.grown
partly l l' p p' (de.Syntax q) s = moved l l' p p' (IsNoReaderFault (de.Syntax q)) (λ _. Unit {0}) s
partly l l' p p' (de.Semantic o j) s = moved l l' p p' (IsNoReaderFault (de.Semantic o j)) (λ _. Unit {0}) s
partly l l' p p' de.RecursionLimitExceeded s = moved l l' p p' (IsNoReaderFault de.RecursionLimitExceeded) (λ _. Unit {0}) s
partly l l' p p' de.Memory s = moved l l' p p' (IsNoReaderFault de.Memory) (λ _. Unit {0}) s
partly l l' p p' de.TooLong s = moved l l' p p' (IsNoReaderFault de.TooLong) (λ _. IsFar p') s

-- a fault of the bytes to come, seen from where the bytes began
fault_from : {E : Type 0} (ends : E → Bool) (k : ℕ) (l l' : Option (List ℕ)) (b more : List ℕ) (p p' : ℕ) (e : Error E) → Consumes l l' b → IfKnown l' (λ r. r ≡ more)
    → p' ≡ p + length b → IfKnown l' (λ r. IsFaultOf ends k (p' + length r) r e) → IfKnown l (λ a. IsFaultOf ends k (p + length a) more e)
fault_from ends k None l' b more p p' e c m g f = tt
fault_from ends k (Some a) None b more p p' e c m g f = absurd c
fault_from ends k (Some a) (Some r) b more p p' e c m g f =
    let l : length a ≡ length b + length r = ap length c ∙ length-append b r in
    let s : p' + length r ≡ p + length a = omega arith in
    subst (λ (z : List ℕ). IsFaultOf ends k (p + length a) z e) m (subst (λ (n : ℕ). IsFaultOf ends k n r e) s f)

-- something is left after what was consumed
something_left : (l l' : Option (List ℕ)) (b more : List ℕ) → Consumes l l' b → IfKnown l' (λ r. r ≡ more) → (l' ≡ Some [] → ⊥) → IfKnown l (λ a. more ≢ [])
something_left None l' b more c m some = tt
something_left (Some a) None b more c m some = absurd c
something_left (Some a) (Some r) b more c m some = λ e. some (ap Some (m ∙ e))

-- at an end the place lies after all that was consumed, seen from where the bytes began
end_behind : {E : Type 0} (ends : E → Bool) (P Q : Type 0) (l l' : Option (List ℕ)) (b : List ℕ) (e : Error E) → Consumes l l' b → (P → Q)
    → IfKnown l' (λ r. IfEnd ends P e) → IfKnown l (λ a. IfEnd ends Q e)
end_behind ends P Q None l' b e c f k = tt
end_behind ends P Q (Some a) None b e c f k = absurd c
end_behind ends P Q (Some a) (Some r) b (de.Io x) c f k = λ t. f (k t)
end_behind ends P Q (Some a) (Some r) b (de.Syntax q) c f k = tt
end_behind ends P Q (Some a) (Some r) b (de.Semantic o j) c f k = tt
end_behind ends P Q (Some a) (Some r) b de.RecursionLimitExceeded c f k = tt
end_behind ends P Q (Some a) (Some r) b de.Memory c f k = tt
end_behind ends P Q (Some a) (Some r) b de.TooLong c f k = tt

-- nothing is taken of nothing
pub nothing_taken : (P : List ℕ → Type 0) → ((b : List ℕ) → P b → 0 < length b) → (l₁ l₂ : Option (List ℕ)) (p₁ p₂ : ℕ) → l₁ ≡ Some [] → Moves l₁ l₂ p₁ p₂ P → ⊥
nothing_taken P some l₁ l₂ p₁ p₂ e t = go l₂ (subst (λ (l : Option (List ℕ)). Consumes l l₂ t.bytes) e t.taken)
  where
    go : (l : Option (List ℕ)) → Consumes (Some []) l t.bytes → ⊥
    go None c = c
    go (Some xs) c =
        let s : 0 ≡ length t.bytes + length xs = ap length c ∙ length-append t.bytes xs in
        let more = some t.bytes t.has in
        omega arith

-- no item is read of nothing
pub nothing_read : (k : ℕ) (l₁ l₂ : Option (List ℕ)) (p₁ p₂ : ℕ) (v : Tree) → l₁ ≡ Some [] → Moves l₁ l₂ p₁ p₂ (λ (b : List ℕ). Reads b k v) → ⊥
nothing_read k l₁ l₂ p₁ p₂ v e t = nothing_taken (λ (b : List ℕ). Reads b k v) (λ b h. reads_some k b v h) l₁ l₂ p₁ p₂ e t

-- of bytes that are known
known : (P Q : List ℕ → Type 0) (l : Option (List ℕ)) → ((b : List ℕ) → P b → Q b) → IfKnown l P → IfKnown l Q
known P Q None then p = tt
known P Q (Some b) then p = then b p

-- no readable item begins where there is a fault of the bytes
of_bytes : {E : Type 0} (ends : E → Bool) (n stop : ℕ) (more : List ℕ) (e : Error E) → IsFaultOf ends n stop more e → IfOfBytes ends (IsUnreadableWithin n more) e
of_bytes ends n stop more (de.Io x) f = λ y v rest w. excludes stop more n end (f y).0 v rest w
of_bytes ends n stop more (de.Syntax p) f = λ v rest w. excludes stop more n (syntax p) f v rest w
of_bytes ends n stop more (de.Semantic o k) f = λ v rest w. excludes stop more n (semantic k) f.1 v rest w
of_bytes ends n stop more de.RecursionLimitExceeded f = λ v rest w. excludes stop more n deep f v rest w
of_bytes ends n stop more de.Memory f = tt
of_bytes ends n stop more de.TooLong f = tt

counted : (count : Counts) (p q : ℕ) → count.passed ≡ p → count.refused ≡ q → count ≡ record { passed = p; refused = q }
counted count p q a b =
    ap (λ (z : ℕ). let c : Counts = record { passed = z; refused = count.refused } in c) a
    ∙ ap (λ (z : ℕ). let c : Counts = record { passed = p; refused = z } in c) b

module _ {T S E : Type 0} (ends : E → Bool) (live : Bool) (by : Rules T S) (old new : GateState T S) where
  abbrev qs : List Step → List Question
  qs ss = questions_of by.allows by.aad ss

  abbrev ws : List Step → List ℕ
  ws ss = output_of by.allows by.aad ss

  -- no item was at hand
  abbrev pub between : (r : Result Counts (GateFault E)) (done : List Step) (g : Ending E) (more rest : List ℕ) → at_hand g ≡ [] → asked_at by.allows by.aad g ≡ [] → written_at by.allows by.aad g ≡ []
      → (input : List ℕ) → IfKnown old.left (λ b. b ≡ input) → Course by.limits by.allows by.aad old.offset input done more → more ≡ taken_at g ++ rest
      → EndsAt ends live by.limits by.allows by.aad old.left done rest g → Leaves g old.left new.left rest → Made by old new done
      → new.offset + length rest ≡ old.offset + length input
      → r ≡ result_of by.allows by.aad (record { done = done; ending = g; rest = rest }) → FaultAt ends by.limits old.offset old.left rest g → NamesShapes by.limits done → RanSteps ends live by old new done r
  between r done g more rest hand asked written input is course whole ends_at left made stands same fault shapes = (
    record {
      input = input;
      is = is;
      run = record { done = done; ending = g; rest = rest };
      course = subst (λ (ss : List Step). Course by.limits by.allows by.aad old.offset input ss (taken_at g ++ rest)) (sym (ap (λ z. done ++ z) hand ∙ append-nil done))
          (subst (λ (b : List ℕ). Course by.limits by.allows by.aad old.offset input done b) whole course);
      ends_at = ends_at;
      asked = made.told ∙ ap (folded_over by.decided old.told) (sym (ap (λ z. qs done ++ z) asked ∙ append-nil (qs done)));
      noted = made.state;
      written = subst (λ (b : List ℕ). Appends old.written new.written b) (sym (ap (λ z. ws done ++ z) written ∙ append-nil (ws done))) made.written;
      returned = same;
      stands = stands;
      left = left;
      fault = fault;
      shapes = subst (λ (ss : List Step). NamesShapes by.limits ss) (sym (ap (λ z. done ++ z) hand ∙ append-nil done)) shapes;
    },
    refl,
  )

-- a flush adds nothing
pub flushed : (a b c : Option (List ℕ)) (x : List ℕ) → Keeps b c → Appends a b x → Appends a c x
flushed None b c x q p = tt
flushed (Some a) None c x q p = absurd p
flushed (Some a) (Some b) None x q p = absurd q
flushed (Some a) (Some b) (Some c) x q p = q ∙ p

-- what an item goes by, and what is seen of it
abbrev pub item_rules_of : {T S : Type 0} → Rules T S → ItemRules T
item_rules_of rules = record { limits = rules.limits; decided = rules.decided; allows = rules.allows; aad = rules.aad }

abbrev pub item_sight_of : {T S : Type 0} → GateState T S → ItemSight T
item_sight_of sight = record { told = sight.told; written = sight.written }

module _ {T S : Type 0} (rules : Rules T S) where
  written_then : (old new newer : GateState T S) (ss : List Step) (s : Step) → Appends old.written new.written (output_of rules.allows rules.aad ss)
      → Appends new.written newer.written (written_of rules.allows rules.aad s.finding) → Appends old.written newer.written (output_of rules.allows rules.aad (ss ++ s ∷ []))
  written_then old new newer ss s a b = subst (λ (z : List ℕ). Appends old.written newer.written z) (sym (output_then rules ss s))
      (Appends-trans old.written new.written newer.written (output_of rules.allows rules.aad ss) (written_of rules.allows rules.aad s.finding) a b)

  -- what was made of the steps holds also later, if nothing was told, noted or written since
  still : (old new newer : GateState T S) (ss : List Step) → newer.told ≡ new.told → newer.state ≡ new.state → newer.written ≡ new.written → Made rules old new ss → Made rules old newer ss
  still old new newer ss told state writes m = record {
    told = told ∙ m.told;
    state = state ∙ m.state;
    written = subst (λ (z : Option (List ℕ)). Appends old.written z (output_of rules.allows rules.aad ss)) (sym writes) m.written;
  }

  -- the item went through, and its entry was noted
  pub reached_step : (old new newer : GateState T S) (passed refused passed' refused' : ℕ) (done : List Step) → Reached rules old new passed refused done
      → (v : Tree) (t : Moves new.left newer.left new.offset newer.offset (λ (b : List ℕ). Reads b rules.limits.nesting v)) → (verdict : Verdict)
      → WentThrough (item_rules_of rules) t.bytes v (item_sight_of new) (item_sight_of newer) verdict
      → (e : Entry) → e ≡ entry_at (passed + refused + 1) new.offset verdict → newer.state ≡ rules.folded new.state e
      → passed' ≡ passed + cond (has_passed verdict) 1 0 → refused' ≡ refused + cond (not (has_passed verdict)) 1 0
      → (s : Step) × Reached rules old newer passed' refused' (done ++ s ∷ [])
  unfolding step_at
  reached_step old new newer passed refused passed' refused' done r v t verdict k e same state more less =
      let s = step_at new.offset t.bytes v k.finding (entry_at (passed + refused + 1) new.offset verdict) in
      let w = further rules old new newer passed refused done r v t k.finding verdict k.finds k.verdict k.shape in
      let q = verdict_passes rules.limits rules.allows rules.aad k.finding verdict k.verdict in (
        s,
        record {
          taken = w.taken;
          steps = w.steps;
          shapes = w.shapes;
          made = record {
            told = told_then rules old.told new.told newer.told done s r.made.told k.tells;
            state = state ∙ ap (λ z. rules.folded z e) r.made.state ∙ ap (rules.folded (folded_over rules.folded old.state (entries_of done))) same
                ∙ sym (folded_append rules.folded old.state (entries_of done) (s.entry ∷ [])) ∙ ap (folded_over rules.folded old.state) (sym (entries_then rules done s));
            written = written_then old new newer done s r.made.written k.writes;
          };
          passed_is = more ∙ ap (λ n. n + cond (has_passed verdict) 1 0) r.passed_is ∙ ap (λ b. passed_count rules.allows rules.aad done + cond b 1 0) q
              ∙ sym (count_then (λ s. passes rules.allows rules.aad s.finding) done s);
          refused_is = less ∙ ap (λ n. n + cond (not (has_passed verdict)) 1 0) r.refused_is ∙ ap (λ b. refused_count rules.allows rules.aad done + cond (not b) 1 0) q
              ∙ sym (count_then (λ s. not (passes rules.allows rules.aad s.finding)) done s);
        },
      )

  -- the bytes that were there, and what is left of them
  pub record Left (old new : GateState T S) (steps : List Step) (more : List ℕ) : Type 0 where
    pub input : List ℕ
    pub is : IfKnown old.left (λ b. b ≡ input)
    pub behind : IfKnown new.left (λ b. b ≡ more)
    pub course : Course rules.limits rules.allows rules.aad old.offset input steps more
    pub stop : new.offset + length more ≡ old.offset + length input

  pub left_after : (old new : GateState T S) (steps : List Step) → Moves old.left new.left old.offset new.offset (λ (b : List ℕ). SequenceWithin rules.limits.nesting old.offset b (map (λ s. s.item) steps) [])
      → Steps rules.limits rules.allows rules.aad 1 steps → (more : List ℕ) → IfKnown new.left (λ r. r ≡ more) → Left old new steps more
  left_after old new steps t s more m =
      let g = t.grown in
      let l : length (t.bytes ++ more) ≡ length t.bytes + length more = length-append t.bytes more in
      record {
        input = t.bytes ++ more;
        is = consumed old.left new.left t.bytes more t.taken m;
        behind = m;
        course = record { sequence = sequence_more rules.limits.nesting old.offset t.bytes more (map (λ s. s.item) steps) t.has; steps = s };
        stop = omega arith;
      }

  -- a message that was asked about, with the entry that its answers have
  judged_step : ℕ → ℕ → List ℕ → Tree → MessageFields → Step
  judged_step n o x v m = step_at o x v (judged m) (entry_at n o (judged_by (first_no rules.allows (questions m rules.aad))))

  -- Ok: no byte is left
  pub answer_whole : {E : Type 0} (ends : E → Bool) (live : Bool) (old new newer : GateState T S) (counts : Counts) (done : List Step) → Reached rules old new counts.passed counts.refused done
      → newer.told ≡ new.told → newer.state ≡ new.state → newer.written ≡ new.written → IfKnown new.left (λ b. (b ≡ []) × (newer.left ≡ Some [])) × (newer.offset ≡ new.offset) → RanSteps ends live rules old newer done (Ok counts)
  answer_whole ends live old new newer counts done r told state writes (none, stays) =
      let w = left_after old new done r.taken r.steps [] (none_first (newer.left ≡ Some []) new.left none) in
      let s : new.offset + 0 ≡ old.offset + length w.input = w.stop in
      between ends live rules old newer (Ok counts) done finished [] [] refl refl refl w.input w.is w.course refl refl
      (nothing_behind old.left new.left newer.left r.taken.bytes r.taken.taken none) (still old new newer done told state writes r.made) (omega arith)
      (ap Ok (counted counts (passed_count rules.allows rules.aad done) (refused_count rules.allows rules.aad done) r.passed_is r.refused_is)) tt r.shapes

  -- what was to come after the steps, and how much of it was taken
  rest_stands : (old new newer : GateState T S) (P : Type 0) (input : List ℕ) (k : Partly new.left newer.left new.offset newer.offset P) → new.offset + length k.more ≡ old.offset + length input
      → newer.offset + length k.rest ≡ old.offset + length input
  rest_stands old new newer P input k s =
      let l : length k.more ≡ length k.taken + length k.rest = ap length k.whole ∙ length-append k.taken k.rest in
      let g = k.grown in
      omega arith

  -- Memory, if all steps so far are made
  memory_between : {E : Type 0} (ends : E → Bool) (live : Bool) (old new newer : GateState T S) (passed refused : ℕ) (done : List Step) → Reached rules old new passed refused done
      → newer.told ≡ new.told → newer.state ≡ new.state → newer.written ≡ new.written → (new.left ≡ Some [] → ⊥)
      → (Q : List ℕ → Type 0) → ((b : List ℕ) → Q b → HoldsOne b) → Moves new.left newer.left new.offset newer.offset Q → RanSteps ends live rules old newer done (Err Memory)
  unfolding moved
  memory_between ends live old new newer passed refused done r told state writes some Q one t =
      let k = moved new.left newer.left new.offset newer.offset (Unit {0}) Q t in
      let w = left_after old new done r.taken r.steps k.more k.is in
      between ends live rules old newer (Err Memory) done (no_memory k.taken) k.more k.rest refl refl refl w.input w.is w.course k.whole
      (known _ _ old.left (λ b left none. left (k.whole ∙ none)) (something_left old.left new.left r.taken.bytes k.more r.taken.taken k.is some), one t.bytes t.has)
      (known_before (newer.left ≡ Some k.rest) old.left new.left r.taken.bytes r.taken.taken (k.behind tt))
      (still old new newer done told state writes r.made) (rest_stands old new newer (Unit {0}) w.input k w.stop) refl tt r.shapes

  -- the fault of the bytes, or Memory of the reader
  pub answer_read : {E : Type 0} (ends : E → Bool) (live : Bool) (old new newer : GateState T S) (passed refused : ℕ) (done : List Step) → Reached rules old new passed refused done
      → newer.told ≡ new.told → newer.state ≡ new.state → newer.written ≡ new.written → (f : GateFault E) → IsReadFault ends rules.limits.nesting new.left newer.left new.offset newer.offset f
      → (new.left ≡ Some [] → f ≢ Memory) → RanSteps ends live rules old newer done (Err f)
  answer_read {E} ends live old new newer passed refused done r told state writes (Decode e) d some =
      let k = partly new.left newer.left new.offset newer.offset e d.3 in
      let w = left_after old new done r.taken r.steps k.more k.is in
      let fault : IfKnown old.left (λ b. IsFaultOf ends rules.limits.nesting (old.offset + length b) (k.taken ++ k.rest) e) =
      subst (λ (z : List ℕ). IfKnown old.left (λ b. IsFaultOf ends rules.limits.nesting (old.offset + length b) z e)) k.whole
      (fault_from ends rules.limits.nesting old.left new.left r.taken.bytes k.more old.offset new.offset e r.taken.taken k.is r.taken.grown d.1) in
      between ends live rules old newer (Err (Decode e)) done (unreadable e k.taken) k.more k.rest refl refl refl w.input w.is w.course k.whole (
        d.0,
        known _ _ old.left (λ b f. of_bytes ends rules.limits.nesting (old.offset + length b) (k.taken ++ k.rest) e f) fault,
        end_behind ends (new.offset < newer.offset) (k.taken ≢ []) old.left new.left r.taken.bytes e r.taken.taken (λ less none. (let l : length k.taken ≡ 0 = ap length none in let g = k.grown in omega arith)) d.2,
      )
      (λ is. known_before (newer.left ≡ Some k.rest) old.left new.left r.taken.bytes r.taken.taken (k.behind is))
      (still old new newer done told state writes r.made) (rest_stands old new newer (IsNoReaderFault e) w.input k w.stop) refl fault r.shapes
  answer_read ends live old new newer passed refused done r told state writes Write d some = absurd d
  answer_read ends live old new newer passed refused done r told state writes Memory d some = memory_between ends live old new newer passed refused done r told state writes (λ none. some none refl) HoldsOne (λ b one. one) d

  -- Memory, if the judge was told a beginning of the questions about one more message
  memory_asking : {E : Type 0} (ends : E → Bool) (live : Bool) (old new newer : GateState T S) (passed refused : ℕ) (done : List Step) → Reached rules old new passed refused done
      → (v : Tree) (t : Moves new.left newer.left new.offset newer.offset (λ (b : List ℕ). Reads b rules.limits.nesting v)) → Half (item_rules_of rules) t.bytes v (item_sight_of new) (item_sight_of newer)
      → newer.state ≡ new.state → newer.written ≡ new.written → RanSteps ends live rules old newer done (Err Memory)
  unfolding judged_step step_at
  memory_asking ends live old new newer passed refused done r v t h state writes =
      let s = judged_step (passed + refused + 1) new.offset t.bytes v h.message in
      let f = further rules old new newer passed refused done r v t (judged h.message) (judged_by (first_no rules.allows (questions h.message rules.aad))) h.is refl (answers_name rules.limits v (first_no rules.allows (questions h.message rules.aad))) in
      let w = left_after old newer (done ++ s ∷ []) f.taken f.steps (rest_of newer.left) (rest_known newer.left) in (
        record {
          input = w.input;
          is = w.is;
          run = record { done = done; ending = within s (asking h.part.front); rest = rest_of newer.left };
          course = w.course;
          ends_at = (front_then h.part.front (h.part.next ∷ h.part.more) (asked_of rules.allows rules.aad (judged h.message)) h.part.whole, λ whole. not_whole h.part.front h.part.more h.part.next (whole ∙ h.part.whole));
          asked = h.part.tells ∙ ap (λ z. folded_over rules.decided z h.part.front) r.made.told
              ∙ sym (folded_append rules.decided old.told (questions_of rules.allows rules.aad done) h.part.front);
          noted = state ∙ r.made.state;
          written = subst (λ (z : List ℕ). Appends old.written newer.written z) (sym (append-nil (output_of rules.allows rules.aad done)))
              (subst (λ (z : Option (List ℕ)). Appends old.written z (output_of rules.allows rules.aad done)) (sym writes) r.made.written);
          returned = refl;
          stands = w.stop;
          left = w.behind;
          fault = tt;
          shapes = f.shapes;
        },
        refl,
      )

  -- Write, in the encoding of one more message
  write_within : {E : Type 0} (ends : E → Bool) (live : Bool) (old new newer : GateState T S) (passed refused : ℕ) (done : List Step) → Reached rules old new passed refused done
      → (v : Tree) (t : Moves new.left newer.left new.offset newer.offset (λ (b : List ℕ). Reads b rules.limits.nesting v)) → HalfWritten (item_rules_of rules) t.bytes v (item_sight_of new) (item_sight_of newer)
      → newer.state ≡ new.state → RanSteps ends live rules old newer done (Err Write)
  unfolding judged_step step_at
  write_within ends live old new newer passed refused done r v t h state =
      let s = judged_step (passed + refused + 1) new.offset t.bytes v h.message in
      let f = further rules old new newer passed refused done r v t (judged h.message) (judged_by (first_no rules.allows (questions h.message rules.aad))) h.is refl (answers_name rules.limits v (first_no rules.allows (questions h.message rules.aad))) in
      let w = left_after old newer (done ++ s ∷ []) f.taken f.steps (rest_of newer.left) (rest_known newer.left) in (
        record {
          input = w.input;
          is = w.is;
          run = record { done = done; ending = within s (writing h.front); rest = rest_of newer.left };
          course = w.course;
          ends_at = (h.passed, subst (λ (z : List ℕ). IsFront h.front z) (ap (λ z. cond z (text_of (judged h.message)) []) h.passed) h.front_is);
          asked = h.tells ∙ ap (λ z. folded_over rules.decided z (asked_of rules.allows rules.aad (judged h.message))) r.made.told
              ∙ sym (folded_append rules.decided old.told (questions_of rules.allows rules.aad done) (asked_of rules.allows rules.aad (judged h.message)));
          noted = state ∙ r.made.state;
          written = Appends-trans old.written new.written newer.written (output_of rules.allows rules.aad done) h.front r.made.written h.writes;
          returned = refl;
          stands = w.stop;
          left = w.behind;
          fault = tt;
          shapes = f.shapes;
        },
        refl,
      )

  -- the item failed
  pub answer_item : {E : Type 0} (ends : E → Bool) (live : Bool) (old new newer : GateState T S) (passed refused : ℕ) (done : List Step) → Reached rules old new passed refused done
      → (v : Tree) (t : Moves new.left newer.left new.offset newer.offset (λ (b : List ℕ). Reads b rules.limits.nesting v)) → (f : ItemFault)
      → ItemFails (item_rules_of rules) t.bytes v (item_sight_of new) (item_sight_of newer) f → newer.state ≡ new.state → RanSteps ends live rules old newer done (Err (stopped_by f))
  answer_item ends live old new newer passed refused done r v t fault.Write h state = write_within ends live old new newer passed refused done r v t h state
  answer_item ends live old new newer passed refused done r v t fault.Memory (writes, inl told) state =
      memory_between ends live old new newer passed refused done r told state writes (λ none. nothing_read rules.limits.nesting new.left newer.left new.offset newer.offset v none t)
      (λ (b : List ℕ). Reads b rules.limits.nesting v) (λ b read. read_one b rules.limits.nesting v read) t
  answer_item ends live old new newer passed refused done r v t fault.Memory (writes, inr half) state = memory_asking ends live old new newer passed refused done r v t half state writes

  -- Memory, if the item went through and the report refused its entry
  pub answer_noting : {E : Type 0} (ends : E → Bool) (live : Bool) (old new newer : GateState T S) (passed refused : ℕ) (done : List Step) → Reached rules old new passed refused done
      → (v : Tree) (t : Moves new.left newer.left new.offset newer.offset (λ (b : List ℕ). Reads b rules.limits.nesting v)) → (verdict : Verdict)
      → WentThrough (item_rules_of rules) t.bytes v (item_sight_of new) (item_sight_of newer) verdict → newer.state ≡ new.state → RanSteps ends live rules old newer done (Err Memory)
  unfolding step_at
  answer_noting ends live old new newer passed refused done r v t verdict k state =
      let s = step_at new.offset t.bytes v k.finding (entry_at (passed + refused + 1) new.offset verdict) in
      let f = further rules old new newer passed refused done r v t k.finding verdict k.finds k.verdict k.shape in
      let w = left_after old newer (done ++ s ∷ []) f.taken f.steps (rest_of newer.left) (rest_known newer.left) in (
        record {
          input = w.input;
          is = w.is;
          run = record { done = done; ending = within s noting; rest = rest_of newer.left };
          course = w.course;
          ends_at = tt;
          asked = k.tells ∙ ap (λ z. folded_over rules.decided z (asked_of rules.allows rules.aad k.finding)) r.made.told
              ∙ sym (folded_append rules.decided old.told (questions_of rules.allows rules.aad done) (asked_of rules.allows rules.aad k.finding));
          noted = state ∙ r.made.state;
          written = Appends-trans old.written new.written newer.written (output_of rules.allows rules.aad done) (written_of rules.allows rules.aad k.finding) r.made.written k.writes;
          returned = refl;
          stands = w.stop;
          left = w.behind;
          fault = tt;
          shapes = f.shapes;
        },
        refl,
      )

  -- a step was made, if so many were counted
  pub some_done : (old new : GateState T S) (passed refused : ℕ) (done : List Step) → Reached rules old new passed refused done → 0 < passed + refused → done ≢ []
  some_done old new passed refused done r some none =
      let p : passed ≡ 0 = r.passed_is ∙ ap (passed_count rules.allows rules.aad) none in
      let q : refused ≡ 0 = r.refused_is ∙ ap (refused_count rules.allows rules.aad) none in
      omega arith

  -- a live gate: all steps so far were made, and what passed could not be handed on
  abbrev pub answer_unflushed : {E : Type 0} (ends : E → Bool) (live : Bool) (old new : GateState T S) (passed refused : ℕ) (done : List Step) → live ≡ true → 0 < passed + refused → Reached rules old new passed refused done
      → RanSteps ends live rules old new done (Err Write)
  answer_unflushed ends live old new passed refused done is some r =
      let w = left_after old new done r.taken r.steps (rest_of new.left) (rest_known new.left) in
      between ends live rules old new (Err Write) done unflushed (rest_of new.left) (rest_of new.left) refl refl refl w.input w.is w.course refl (is, some_done old new passed refused done r some)
      (rest_told old.left new.left r.taken.bytes r.taken.taken) r.made w.stop refl tt r.shapes

  -- steps that were made stay made if the output is flushed, and the report stays as it was
  pub reached_flushed : (old new newer : GateState T S) (passed refused : ℕ) (done : List Step) → Reached rules old new passed refused done → newer.told ≡ new.told → newer.state ≡ new.state
      → Keeps new.written newer.written → newer.offset ≡ new.offset → newer.left ≡ new.left → Reached rules old newer passed refused done
  reached_flushed old new newer passed refused done r told state kept offset left = record {
    taken = record {
      bytes = r.taken.bytes;
      has = r.taken.has;
      taken = subst (λ (l : Option (List ℕ)). Consumes old.left l r.taken.bytes) (sym left) r.taken.taken;
      grown = offset ∙ r.taken.grown;
    };
    steps = r.steps;
    shapes = r.shapes;
    made = record {
      told = told ∙ r.made.told;
      state = state ∙ r.made.state;
      written = flushed old.written new.written newer.written (output_of rules.allows rules.aad done) kept r.made.written;
    };
    passed_is = r.passed_is;
    refused_is = r.refused_is;
  }

-- if nothing is left, the fault is an end at once, a failure of the reader, or an offset that grows
-- too large
pub nothing_fails : {E : Type 0} (ends : E → Bool) (k p p' : ℕ) (f : Error E) → FailsAt ends [] p p' (λ stop b f. Damage stop b k f) f → IsNoMemory f
    → p + 4096 < 2 ^ 64 → ((at_end ends f ≡ true) × (p' ≡ p)) ⊎ ((x : E) × (f ≡ de.Io x) × (ends x ≡ false))
nothing_fails {E = E} ends k p p' (de.Io x) d m small = either (ends x) refl
  where
    either : (b : Bool) → ends x ≡ b → ((ends x ≡ true) × (p' ≡ p)) ⊎ ((y : E) × (de.Io x ≡ de.Io y) × (ends y ≡ false))
    either true t = inl (t, (d t).1)
    either false t = inr (x, refl, t)
nothing_fails ends k p p' (de.Syntax q) d m small = (let z : syntax q ≡ end = empty_damage (p + 0) k (syntax q) d in cc)
nothing_fails ends k p p' (de.Semantic o j) d m small = (let z : semantic j ≡ end = empty_damage (p + 0) k (semantic j) d.1 in cc)
nothing_fails ends k p p' de.RecursionLimitExceeded d m small = (let z : deep ≡ end = empty_damage (p + 0) k deep d in cc)
nothing_fails ends k p p' de.Memory d m small = absurd m
nothing_fails ends k p p' de.TooLong d m small = absurd (let l : 2 ^ 64 ≤ p + 0 + 4096 = d in omega arith)

-- an entry with this number and offset
pub same_entry : (n m o p : ℕ) (v : Verdict) → n ≡ m → o ≡ p → (let e : Entry = record { number = n; offset = o; verdict = v } in e) ≡ entry_at m p v
unfolding entry_at
same_entry n m o p v a b = rw (a, b) refl

-- neither an end at once nor a failure of the reader is left
pub nothing_answer : {E : Type 0} {X : Type 0} (ends : E → Bool) (p p' : ℕ) (f : Error E) (failed failed' : ℕ) → ((at_end ends f ≡ true) × (p' ≡ p)) ⊎ ((x : E) × (f ≡ de.Io x) × (ends x ≡ false))
    → (at_end ends f ≡ true → p' ≡ p → ⊥) → failed' ≡ fault_failures ends f failed → failed' ≡ failed → X
nothing_answer ends p p' f failed failed' (inl w) not told same = absurd (not w.0 w.1)
nothing_answer ends p p' f failed failed' (inr (x, is, e)) not told same =
    let more : fault_failures ends f failed ≡ cond (ends x) failed (failed + 1) = ap (λ g. fault_failures ends g failed) is in
    let one : cond (ends x) failed (failed + 1) ≡ failed + 1 = ap (λ b. cond b failed (failed + 1)) e in
    absurd (omega arith)

-- what is told of a result
pub if_ok : {A E : Type 0} {P Q : A → Type 0} (r : Result A E) → ((x : A) → P x → Q x) → IfOk r P → IfOk r Q
if_ok (Ok x) f p = f x p
if_ok (Err e) f p = p

-- offsets grow too long only near what they can be
pub read_far : {E : Type 0} (ends : E → Bool) (n : ℕ) (l l' : Option (List ℕ)) (at at' : ℕ) (f : GateFault E) → IsReadFault ends n l l' at at' f → IfTooLong (IsFar at') f
read_far ends n l l' at at' (Decode (de.Io e)) r = tt
read_far ends n l l' at at' (Decode (de.Syntax p)) r = tt
read_far ends n l l' at at' (Decode (de.Semantic o k)) r = tt
read_far ends n l l' at at' (Decode de.RecursionLimitExceeded) r = tt
read_far ends n l l' at at' (Decode de.Memory) r = tt
read_far ends n l l' at at' (Decode de.TooLong) r = r.3.has
read_far ends n l l' at at' Write r = tt
read_far ends n l l' at at' Memory r = tt

pub stopped_not_long : (E P : Type 0) (fault : ItemFault) → IfTooLong P (stopped_by {E = E} fault)
stopped_not_long E P fault.Write = tt
stopped_not_long E P fault.Memory = tt
