-- How the gate asks by the rules, item by item.
use Rattle.std.proofs.Common.{◌≡◌, ℕ, ◌+◌, ◌<◌, List, [], ◌∷◌, ◌++◌, length, take, map, Option, None, Bool, true, refl, sym, ap, subst, ◌∙◌, arith, append_assoc, append-nil, length-append}
use Rattle.std.specs.Prelude.{Result, Ok, Err, OnOk, OnErr, is_ok}
use Rattle.std.specs.Io.KnownBytes.{Appends, Keeps}
use Rattle.std.proofs.KnownBytes.{Appends-trans}
use Rattle.std.proofs.Math.Seq.{take-append-add, take-length}
use Rattle.std.proofs.lemmas.List.{map-append}
use Rattle.ciborium_ll.specs.Device.{AppendsFront, write_failures}
use Rattle.ciborium_ll.specs.declared.write.Write.{Ghosts as Writes}
use Rattle.ciborium.specs.Items.{Item, SequenceWithin}
use Rattle.coset_keys.specs.Fields.{KeyFields}
use Rattle.cose_rules.specs.Claims.{TermsFields}
use Rattle.cose_gate_core.specs.Asked.{folded_over}
use Rattle.cose_gate_core.specs.Findings.{Bounds}
use Rattle.cose_gate_core.specs.GateRun.{noting, Ending, finished, unflushed, unreadable, no_memory, within, Ran}
use Rattle.cose_gate_core.specs.Next.{Reached, RanSteps, GoesOn}
use Rattle.cose_gate_core.specs.Outcome.{Rules, GateState, reader_failures, writer_failures}
use Rattle.cose_gate_core.specs.Questions.{Question}
use Rattle.cose_gate_core.specs.Run.{Step, asked_of, questions_of, entries_of}
use Rattle.cose_gate_core.specs.declared.gating.Counts.{Counts}
use Rattle.cose_gate_core.specs.declared.gating.GateFault.{GateFault}
use Rattle.cose_gate_core.specs.declared.gating.GateFault.TheVariants.{Decode, Write, Memory}
use Rattle.cose_gate_core.specs.declared.report.Entry.{Entry}
use Rattle.cose_gate_core.proofs.Outcomes.{answer_unflushed, flushed, left_after, rest_of, rest_known}
use Rattle.cose_gate_core.proofs.Reach.{entries_then, folded_append, output_then, questions_then}
use Rattle.cose_gate_program.specs.Faults.{is_end}
use Rattle.cose_gate_program.specs.Program.{Devices}
use Rattle.cose_gate_program.specs.Telling.{items_of, last_of, status_at, tells}
use Rattle.cose_gate_program.specs.declared.devices.InputFault.{InputFault}
use Rattle.cose_gate_program.specs.declared.telling.Notice.{Notice}
use Rattle.cose_gate_program.specs.declared.telling.Notice.TheVariants as notice
use Rattle.cose_gate_program.specs.declared.telling.Teller.{Ghosts as Tells}
use Rattle.cose_gate_program.proofs.Runs.{same_devices, shown, then_flushed}
use Rattle.cose_gate_program.proofs.Tellings.{folded_then, ran_told, tells_then}
use Rattle.cose_ruled.specs.Blocks.{AskedSoFar, IsBlock, Part, asks, part_of}
use Rattle.cose_ruled.specs.Running.{IsBlockAt, AreBlocks, Handed, AskedItems, RanAsking, BlockHanded}

-- all of it is a beginning
pub front_of_all : (a b : Option (List ℕ)) (xs : List ℕ) → Appends a b xs → AppendsFront a b xs
front_of_all a b xs p = (length xs, subst (Appends a b) (sym (take-length xs)) p)

-- the first, and then a beginning of the second
front_of_second : (a b c : Option (List ℕ)) (xs ys : List ℕ) → Appends a b xs → AppendsFront b c ys → AppendsFront a c (xs ++ ys)
front_of_second a b c xs ys p (n, q) = (length xs + n, subst (Appends a c) (sym (take-append-add xs ys n)) (Appends-trans a b c xs (take n ys) p q))

-- blocks that were written whole, however the run ended
handed_all : {W F E : Type 0} (w : Writes W F) (old new : W) (blocks : List ℕ) (g : Ending E) → Appends (w.written old) (w.written new) blocks → Handed w old new blocks g
handed_all w old new blocks finished p = p
handed_all w old new blocks unflushed p = front_of_all _ _ blocks p
handed_all w old new blocks (unreadable e taken) p = p
handed_all w old new blocks (no_memory taken) p = p
handed_all w old new blocks (within next half) p = p

-- a flush adds nothing
handed_flushed : {W F E : Type 0} (w : Writes W F) (old mid new : W) (blocks : List ℕ) (g : Ending E) → Keeps (w.written mid) (w.written new) → Handed w old mid blocks g → Handed w old new blocks g
handed_flushed w old mid new blocks finished k p = flushed _ _ _ blocks k p
handed_flushed w old mid new blocks unflushed k (n, p) = (n, flushed _ _ _ (take n blocks) k p)
handed_flushed w old mid new blocks (unreadable e taken) k p = flushed _ _ _ blocks k p
handed_flushed w old mid new blocks (no_memory taken) k p = flushed _ _ _ blocks k p
handed_flushed w old mid new blocks (within next half) k p = flushed _ _ _ blocks k p

-- a block was handed on
pub block_sent : {W F T G : Type 0} (w : Writes W F) (t : Tells T) (out out' : W) (teller teller' teller'' : T) (entry : Entry) (block : List ℕ) (IsIt : List ℕ → Type 0) (sent : Result (Unit {0}) G) (u : Unit {0}) → sent ≡ Ok u
    → OnOk sent (Appends (w.written out) (w.written out') block) → w.failed out' ≡ write_failures sent (w.failed out) → IsIt block
    → t.state teller' ≡ t.folded (t.state teller) (notice.Item entry) → t.state teller'' ≡ t.state teller' → BlockHanded w t out out' teller teller'' entry IsIt (Ok tt)
block_sent w t out out' teller teller' teller'' entry block IsIt (Ok v) u same ok failed is told rests = (failed, (block, is, ok), rests ∙ told)
block_sent {G = G} w t out out' teller teller' teller'' entry block IsIt (Err x) u same ok failed is told rests = absurd (let no : (let r : Result (Unit {0}) G = Err x in r) ≡ Ok u = same in cc)

-- the writer failed in it
pub block_torn : {W F T G : Type 0} (w : Writes W F) (t : Tells T) (out out' : W) (teller teller' : T) (entry : Entry) (block : List ℕ) (IsIt : List ℕ → Type 0) (sent : Result (Unit {0}) G) (x : G) → sent ≡ Err x
    → OnErr sent (AppendsFront (w.written out) (w.written out') block) → w.failed out' ≡ write_failures sent (w.failed out) → IsIt block
    → t.state teller' ≡ t.folded (t.state teller) (notice.Item entry) → BlockHanded w t out out' teller teller' entry IsIt (Err Write)
block_torn w t out out' teller teller' entry block IsIt (Err y) x same err failed is told = (failed, (block, is, err), told)
block_torn {G = G} w t out out' teller teller' entry block IsIt (Ok v) x same err failed is told = absurd (let no : (let r : Result (Unit {0}) G = Ok v in r) ≡ Err x = same in cc)

-- the blocks of these steps, and that of one more
blocks_then : (token : Option TermsFields) (keys : List KeyFields) (aad : List ℕ) (ss : List Step) (s : Step) (a b : List ℕ)
    → AreBlocks token keys aad ss a → IsBlockAt token keys aad s b → AreBlocks token keys aad (ss ++ s ∷ []) (a ++ b)
blocks_then token keys aad [] s a b are is = (b, [], ap (λ (z : List ℕ). z ++ b) are ∙ sym (append-nil b), is, refl)
blocks_then token keys aad (x ∷ ss) s a b are is =
    (are.0, are.1 ++ b, ap (λ (z : List ℕ). z ++ b) are.2 ∙ append_assoc are.0 are.1 b, are.3, blocks_then token keys aad ss s are.1 b are.4 is)

-- where the last item of a sequence ends
sequence_end : (k at : ℕ) (b : List ℕ) (is : List Item) (i : Item) → SequenceWithin k at b (is ++ i ∷ []) [] → at + length b ≡ i.offset + length i.bytes
sequence_end k at b [] i s =
    let e : i.offset ≡ at = s.0 in
    let l : length b ≡ length i.bytes + length s.2.0 = ap length s.2.1 ∙ length-append i.bytes s.2.0 in
    let z : length s.2.0 ≡ 0 = ap length s.2.2 in
    omega arith
sequence_end k at b (j ∷ is) i s =
    let h = sequence_end k (at + length j.bytes) s.2.0 is i s.2.2 in
    let l : length b ≡ length j.bytes + length s.2.0 = ap length s.2.1 ∙ length-append j.bytes s.2.0 in
    omega arith

-- what the judge keeps after more questions
abbrev pub decided : AskedSoFar → Question → AskedSoFar
decided s q = record s { told = s.told ++ part_of s.keys q ∷ [] }

abbrev kept : List KeyFields → List Part → AskedSoFar
kept keys told = record { keys = keys; told = told }

decided_all : (s : AskedSoFar) (qs : List Question) → folded_over decided s qs ≡ kept s.keys (s.told ++ map (part_of s.keys) qs)
decided_all s [] = ap (kept s.keys) (sym (append-nil s.told))
decided_all s (q ∷ qs) = decided_all (decided s q) qs ∙ ap (kept s.keys) (append_assoc s.told (part_of s.keys q ∷ []) (map (part_of s.keys) qs))

-- what the gate goes by, if its report keeps the last entry
abbrev pub rules : Bounds → List KeyFields → List ℕ → Rules AskedSoFar Entry
rules limits keys aad = record { limits = limits; decided = decided; folded = λ _ e. e; allows = asks keys; aad = aad }

-- what is seen of it, if its output goes nowhere
abbrev pub sight : AskedSoFar → Entry → ℕ → Option (List ℕ) → GateState AskedSoFar Entry
sight asked last offset left = record { told = asked; state = last; written = None; offset = offset; left = left }

-- what is seen of a reader, and how often a writer has failed
abbrev devices : {W F : Type 0} → Writes W F → Option (List ℕ) → ℕ → W → Devices
devices w left n out = record { left = left; written = None; read_failures = n; write_failures = w.failed out }

module _ (limits : Bounds) (keys : List KeyFields) (aad : List ℕ) where
  abbrev by : Rules AskedSoFar Entry
  by = rules limits keys aad

  -- the same with the keys that the judge holds
  pub goes_on : (ks : List KeyFields) (counts : Counts) (old new : GateState AskedSoFar Entry) (r : Result (Option Counts) (GateFault InputFault)) → ks ≡ keys
      → GoesOn is_end (rules limits ks aad) counts old new r → GoesOn is_end by counts old new r
  goes_on ks counts old new r e g = subst (λ (z : List KeyFields). GoesOn is_end (rules limits z aad) counts old new r) e g

  -- how far it has come: these steps were made, and their blocks were written and their items told
  pub record Come {W F T : Type 0} (token : Option TermsFields) (w : Writes W F) (t : Tells T) (left : Option (List ℕ)) (now : GateState AskedSoFar Entry) (out out' : W) (teller teller' : T) (passed refused : ℕ) : Type 0 where
    pub first : GateState AskedSoFar Entry
    pub start : first.offset ≡ 0
    pub nothing : first.written ≡ None
    pub there : first.left ≡ left
    pub done : List Step
    pub reached : Reached by first now passed refused done
    pub failed : w.failed out' ≡ w.failed out
    pub blocks : List ℕ
    pub are : AreBlocks token keys aad done blocks
    pub written : Appends (w.written out) (w.written out') blocks
    pub told : tells t teller teller' (items_of done)

  module _ {W F T : Type 0} (token : Option TermsFields) (w : Writes W F) (t : Tells T) (left : Option (List ℕ)) where
    -- the judge forgets the questions about an item
    pub asked_same : (asked asked' : AskedSoFar) (last : Entry) (offset : ℕ) (rest : Option (List ℕ)) (out out' : W) (teller teller' : T) (passed refused : ℕ) → asked' ≡ asked
        → Come token w t left (sight asked last offset rest) out out' teller teller' passed refused → Come token w t left (sight asked' last offset rest) out out' teller teller' passed refused
    asked_same asked asked' last offset rest out out' teller teller' passed refused e come =
        subst (λ (z : AskedSoFar). Come token w t left (sight z last offset rest) out out' teller teller' passed refused) (sym e) come

    module _ (now : GateState AskedSoFar Entry) (out out' : W) (teller teller' : T) (passed refused : ℕ) (come : Come token w t left now out out' teller teller' passed refused) where
      -- it is at its end, or the gate stopped
      pub at_end : (new : GateState AskedSoFar Entry) (r : Result Counts (GateFault InputFault)) → RanSteps is_end true by come.first new come.done r
          → (n n' : ℕ) (rest : Option (List ℕ)) → rest ≡ new.left → new.written ≡ None → n' ≡ n + reader_failures is_end r → w.failed out' ≡ w.failed out' + writer_failures r
          → AskedItems w limits token keys aad (devices w left n out) (devices w rest n' out') out out' r (tells t teller teller')
      at_end new r ran n n' rest same none reads writes = (
        record {
          run = ran.0.run;
          shows = shown by come.first new n n' (w.failed out) (w.failed out') r _ _ come.start (same_devices _ _ _ _ _ _ _ _ (sym come.there) (sym come.nothing) refl refl)
              (same_devices _ _ _ _ _ _ _ _ same (sym none) refl refl) ran.0 reads (let e = come.failed in omega (arith, writes, e));
          asked = tt;
          told = subst (λ (ss : List Step). tells t teller teller' (items_of ss)) (sym ran.1) come.told;
          result_is = ran.0.returned;
        },
        come.blocks,
        subst (λ (ss : List Step). AreBlocks token keys aad ss come.blocks) (sym ran.1) come.are,
        handed_all w out out' come.blocks ran.0.run.ending come.written,
      )

      -- one step more, and what was told of its questions
      module _ (new : GateState AskedSoFar Entry) (passed' refused' : ℕ) (far : (s : Step) × Reached by come.first new passed' refused' (come.done ++ s ∷ [])) where
        abbrev asked : List Question
        asked = asked_of by.allows by.aad far.0.finding

        told_about : now.told.keys ≡ keys → new.told.told ≡ now.told.told ++ map (part_of keys) asked
        told_about same =
            let first = come.first in
            let all : new.told ≡ folded_over decided now.told asked =
            far.1.made.told ∙ ap (folded_over decided first.told) (questions_then by come.done far.0)
            ∙ (folded_append decided first.told (questions_of by.allows by.aad come.done) asked ∙ ap (λ (z : AskedSoFar). folded_over decided z asked) (sym come.reached.made.told)) in
            ap (λ (z : AskedSoFar). z.told) (all ∙ decided_all now.told asked) ∙ ap (λ (ks : List KeyFields). now.told.told ++ map (part_of ks) asked) same

        last_is : new.state ≡ far.0.entry
        last_is = far.1.made.state ∙ ap (folded_over by.folded come.first.state) (entries_then by come.done far.0) ∙ folded_then by.folded come.first.state (entries_of come.done) far.0.entry

        end_is : new.offset ≡ far.0.item.offset + length far.0.item.bytes
        end_is =
            let moved = far.1.taken in
            let g = moved.grown in
            let h = sequence_end limits.nesting come.first.offset moved.bytes (map (λ s. s.item) come.done) far.0.item
            (subst (λ (is : List Item). SequenceWithin limits.nesting come.first.offset moved.bytes is []) (map-append (λ (s : Step). s.item) come.done (far.0 ∷ [])) moved.has) in
            omega arith

        -- what became of the block is that of the step's block
        block_handed : (before : List Part) (end : ℕ) (out'' : W) (teller'' : T) (r : Result (Unit {0}) (GateFault InputFault)) → now.told.keys ≡ keys → before ≡ now.told.told → end ≡ new.offset
            → ((ps : List Part) → new.told.told ≡ before ++ ps → BlockHanded w t out' out'' teller' teller'' new.state (IsBlock token new.state end ps) r)
            → BlockHanded w t out' out'' teller' teller'' far.0.entry (IsBlockAt token keys aad far.0) r
        block_handed before end out'' teller'' r same here e f =
            let ps = map (part_of keys) asked in
            let told : new.told.told ≡ before ++ ps = told_about same ∙ ap (λ (z : List Part). z ++ ps) (sym here) in
            subst (λ (z : Entry). BlockHanded w t out' out'' teller' teller'' z (IsBlock token z (far.0.item.offset + length far.0.item.bytes) ps) r) last_is
            (subst (λ (n : ℕ). BlockHanded w t out' out'' teller' teller'' new.state (IsBlock token new.state n ps) r) (e ∙ end_is) (f ps told))

        -- the blocks with this one
        with_block : (block : List ℕ) → IsBlockAt token keys aad far.0 block → AreBlocks token keys aad (come.done ++ far.0 ∷ []) (come.blocks ++ block)
        with_block block is = blocks_then token keys aad come.done far.0 come.blocks block come.are is

        told_then : (teller'' : T) → tells t teller' teller'' (notice.Item far.0.entry ∷ []) → tells t teller teller'' (items_of (come.done ++ far.0 ∷ []))
        told_then teller'' told =
            let all : items_of (come.done ++ far.0 ∷ []) ≡ items_of come.done ++ notice.Item far.0.entry ∷ [] =
            ap (map (λ (e : Entry). notice.Item e)) (entries_then by come.done far.0) ∙ map-append (λ (e : Entry). notice.Item e) (entries_of come.done) (far.0.entry ∷ []) in
            subst (λ (ns : List Notice). tells t teller teller'' ns) (sym all)
            (tells_then t.folded (t.state teller) (t.state teller') (t.state teller'') (items_of come.done) (notice.Item far.0.entry) come.told told)

        -- it was handed on
        pub come_next : (before : List Part) (end : ℕ) (out'' : W) (teller'' : T) (u : Unit {0}) → now.told.keys ≡ keys → before ≡ now.told.told → end ≡ new.offset
            → ((ps : List Part) → new.told.told ≡ before ++ ps → BlockHanded w t out' out'' teller' teller'' new.state (IsBlock token new.state end ps) (Ok u))
            → Come token w t left new out out'' teller teller'' passed' refused'
        come_next before end out'' teller'' u same here e f =
            let h = block_handed before end out'' teller'' (Ok u) same here e f in
            record {
              first = come.first;
              start = come.start;
              nothing = come.nothing;
              there = come.there;
              done = come.done ++ far.0 ∷ [];
              reached = far.1;
              failed = h.0 ∙ come.failed;
              blocks = come.blocks ++ h.1.0;
              are = with_block h.1.0 h.1.1;
              written = Appends-trans _ _ _ come.blocks h.1.0 come.written h.1.2;
              told = told_then teller'' h.2;
            }

        -- the run if there is no memory for the block: the item is done but for its entry
        abbrev undone : Ran is_end true by come.first (record new { state = folded_over by.folded come.first.state (entries_of come.done) }) (Err Memory)
        undone =
            let rest = left_after by come.first new (come.done ++ far.0 ∷ []) far.1.taken far.1.steps (rest_of new.left) (rest_known new.left) in
            record {
              input = rest.input;
              is = rest.is;
              run = record { done = come.done; ending = within far.0 noting; rest = rest_of new.left };
              course = rest.course;
              ends_at = tt;
              asked = far.1.made.told ∙ ap (folded_over decided come.first.told) (questions_then by come.done far.0);
              noted = refl;
              written = subst (λ (z : List ℕ). Appends come.first.written new.written z) (output_then by come.done far.0) far.1.made.written;
              returned = refl;
              stands = rest.stop;
              left = rest.behind;
              fault = tt;
              shapes = far.1.shapes;
            }

        module _ (n n' : ℕ) (rest : Option (List ℕ)) (same : rest ≡ new.left) (none : new.written ≡ None) (reads : n' ≡ n) (some : 0 < passed' + refused') where
          -- the writer failed, or there is no memory for the block
          stopped : (out'' : W) (teller'' : T) (fault : GateFault InputFault) → BlockHanded w t out' out'' teller' teller'' far.0.entry (IsBlockAt token keys aad far.0) (Err fault)
              → AskedItems w limits token keys aad (devices w left n out) (devices w rest n' out'') out out'' (Err fault) (tells t teller teller'')
          stopped out'' teller'' (Decode e) h = absurd h
          stopped out'' teller'' Write h =
              let ran = answer_unflushed by is_end true come.first new passed' refused' (come.done ++ far.0 ∷ []) refl some far.1 in (
                record {
                  run = ran.0.run;
                  shows = shown by come.first new n n' (w.failed out) (w.failed out'') (Err Write) _ _ come.start (same_devices _ _ _ _ _ _ _ _ (sym come.there) (sym come.nothing) refl refl)
                      (same_devices _ _ _ _ _ _ _ _ same (sym none) refl refl) ran.0 (omega arith) (h.0 ∙ ap (λ (z : ℕ). z + 1) come.failed);
                  asked = tt;
                  told = told_then teller'' h.2;
                  result_is = refl;
                },
                come.blocks ++ h.1.0,
                with_block h.1.0 h.1.1,
                front_of_second _ _ _ come.blocks h.1.0 come.written h.1.2,
              )
          stopped out'' teller'' Memory h = (
            record {
              run = undone.run;
              shows = shown by come.first _ n n' (w.failed out) (w.failed out'') (Err Memory) _ _ come.start (same_devices _ _ _ _ _ _ _ _ (sym come.there) (sym come.nothing) refl refl)
                  (same_devices _ _ _ _ _ _ _ _ same (sym none) refl refl) undone (omega arith) (let e = ap w.failed h.0 in let f = come.failed in omega arith);
              asked = tt;
              told = subst (λ (z : T). tells t teller z (items_of come.done)) (sym h.1) come.told;
              result_is = refl;
            },
            come.blocks,
            come.are,
            subst (λ (z : W). Appends (w.written out) (w.written z) come.blocks) (sym h.0) come.written,
          )

          pub not_handed : (before : List Part) (end : ℕ) (out'' : W) (teller'' : T) (fault : GateFault InputFault) → now.told.keys ≡ keys → before ≡ now.told.told → end ≡ new.offset
              → ((ps : List Part) → new.told.told ≡ before ++ ps → BlockHanded w t out' out'' teller' teller'' new.state (IsBlock token new.state end ps) (Err fault))
              → AskedItems w limits token keys aad (devices w left n out) (devices w rest n' out'') out out'' (Err fault) (tells t teller teller'')
          not_handed before end out'' teller'' fault keys_same here e f = stopped out'' teller'' fault (block_handed before end out'' teller'' (Err fault) keys_same here e f)

-- the run after a flush, and the last notice
pub told_end : {W F T X G : Type 0} (w : Writes W F) (t : Tells T) (limits : Bounds) (token : Option TermsFields) (keys : List KeyFields) (aad : List ℕ) (old mid new : Devices) (out out' out'' : W) (teller teller' teller'' : T)
    (asked : Result Counts (GateFault InputFault)) (answer : Result X G) (handed : Bool) (last : Notice) (status : ℕ) → AskedItems w limits token keys aad old mid out out' asked (tells t teller teller')
    → new.left ≡ mid.left → Keeps mid.written new.written → new.read_failures ≡ mid.read_failures → new.write_failures ≡ write_failures answer mid.write_failures
    → Keeps (w.written out') (w.written out'') → handed ≡ is_ok answer → last ≡ last_of asked handed → t.state teller'' ≡ t.folded (t.state teller') last → status ≡ status_at last
    → RanAsking w limits token keys aad old new out out'' status (tells t teller teller'')
told_end w t limits token keys aad old mid new out out' out'' teller teller' teller'' asked answer handed last status items left kept reads failed keeps is_handed is told is_status =
    let gated = items.0 in
    let shows = then_flushed answer limits (asks keys) aad old mid new gated.run gated.shows left kept reads failed in (
      ran_told t.folded (t.state teller) (t.state teller') (t.state teller'') asked (is_ok answer) handed last gated.run shows tt gated.told gated.result_is is_handed is told is_status,
      items.1,
      items.2,
      handed_flushed w out out' out'' items.1 gated.run.ending keeps items.3,
    )
