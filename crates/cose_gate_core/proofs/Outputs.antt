-- The output of a run is a sequence of the messages that pass.
use Rattle.std.proofs.Common.{◌≡◌, ℕ, ◌+◌, ◌^◌, ◌<◌, ◌⊎◌, inl, inr, List, [], ◌∷◌, ◌++◌, length, map, Bool, true, false, cond, Some, refl, sym, ap, subst, ◌∙◌, arith, length-append}
use Rattle.std.specs.Prelude.{All}
use Rattle.ciborium_value.specs.Tree.{Tree}
use Rattle.ciborium_value.specs.Encoding.{enc}
use Rattle.ciborium.specs.Damage.{end, in_title, cut_title}
use Rattle.ciborium.specs.Front.{Reads}
use Rattle.ciborium.specs.Items.{Item, ItemsWithin, SequenceWithin, item_at}
use Rattle.ciborium.proofs.Excludes.{excludes}
use Rattle.coset_headers.proofs.Entered.{bool_cases}
use Rattle.coset_headers.proofs.Sound.{reads_sound, sound_reads}
use Rattle.cose_gate_core.specs.Questions.{Question, MessageFields, tagged_tree, message_text}
use Rattle.cose_gate_core.specs.Findings.{Finding, judged, barred, Bounds, IsJudged, Finds}
use Rattle.cose_gate_core.specs.Run.{Step, Run, passes, written_of, output_of}
use Rattle.cose_gate_core.proofs.Rewritten.{rewritten}
use Rattle.cose_gate_core.specs.Anew.{bytes_of}
use Rattle.cose_gate_core.specs.Output.{passed_of, passed_messages, AreMessages}
use Rattle.cose_gate_core.proofs.Placed.{AllSteps, run_told}
use Rattle.cose_gate_core.proofs.Lows.{IsByte, before, behind, reads_fits}

module _ (l : Bounds) (allows : Question → Bool) (aad : List ℕ) where
  -- what is written for one step
  data Wrote (f : Finding) : Type 0 where
    nothing : written_of allows aad f ≡ [] → passed_of allows aad f ≡ [] → Wrote f
    message : (m : MessageFields) (t : Tree) → written_of allows aad f ≡ enc t → passed_of allows aad f ≡ m ∷ [] → tagged_tree m ≡ Some t → IsJudged l t m → Reads (enc t) l.nesting t → Wrote f

  wrote_judged : (b : List ℕ) (t : Tree) (m : MessageFields) → IsJudged l t m → Reads b l.nesting t → All IsByte b → length b < 2 ^ 64 → (passes allows aad (judged m) ≡ true) ⊎ (passes allows aad (judged m) ≡ false) → Wrote (judged m)
  wrote_judged b t m j r low few (inr out) = nothing (ap (λ c. cond c (message_text m) []) out) (ap (λ c. cond c (m ∷ []) []) out)
  wrote_judged b t m j r low few (inl through) =
      let w = rewritten l t m j in
      let f = reads_fits b l.nesting t r low few in
      message m w.tree (ap (λ c. cond c (message_text m) []) through ∙ w.text) (ap (λ c. cond c (m ∷ []) []) through) w.is w.has
      (sound_reads l.nesting w.tree (w.rewrite.kept.fits f) (w.rewrite.sound l.nesting (reads_sound b l.nesting t r)))

  wrote : (b : List ℕ) (t : Tree) (f : Finding) → Finds l b t f → Reads b l.nesting t → All IsByte b → length b < 2 ^ 64 → Wrote f
  wrote b t (judged m) h r low few = wrote_judged b t m h.0 r low few (bool_cases (passes allows aad (judged m)))
  wrote b t (barred q) h r low few = nothing refl refl

  record OutputOf (at : ℕ) (ss : List Step) : Type 0 where
    items : List Item
    sequence : SequenceWithin l.nesting at (output_of allows aad ss) items []
    are : AreMessages l (map (λ i. i.value) items) (passed_messages allows aad ss)

  same_output : (at : ℕ) (s : Step) (ss : List Step) → written_of allows aad s.finding ≡ [] → passed_of allows aad s.finding ≡ [] → OutputOf at ss → OutputOf at (s ∷ ss)
  same_output at s ss e f o = record {
    items = o.items;
    sequence = subst (λ z. SequenceWithin l.nesting at (z ++ output_of allows aad ss) o.items []) (sym e) o.sequence;
    are = subst (λ z. AreMessages l (map (λ i. i.value) o.items) (z ++ passed_messages allows aad ss)) (sym f) o.are;
  }

  more_output : (at : ℕ) (s : Step) (ss : List Step) (m : MessageFields) (t : Tree) → written_of allows aad s.finding ≡ enc t → passed_of allows aad s.finding ≡ m ∷ [] → tagged_tree m ≡ Some t
      → IsJudged l t m → Reads (enc t) l.nesting t → OutputOf (at + length (enc t)) ss → OutputOf at (s ∷ ss)
  more_output at s ss m t e f i j r o =
      let is = item_at at (enc t) t ∷ o.items in
      let seq : SequenceWithin l.nesting at (enc t ++ output_of allows aad ss) is [] = (refl, r, (output_of allows aad ss, refl, o.sequence)) in
      let are : AreMessages l (map (λ i. i.value) is) (m ∷ passed_messages allows aad ss) = (i, j, o.are) in
      record {
        items = is;
        sequence = subst (λ z. SequenceWithin l.nesting at (z ++ output_of allows aad ss) is []) (sym e) seq;
        are = subst (λ z. AreMessages l (map (λ i. i.value) is) (z ++ passed_messages allows aad ss)) (sym f) are;
      }

  output : (at : ℕ) (ss : List Step) → AllSteps l allows aad ss → All IsByte (bytes_of ss) → length (bytes_of ss) < 2 ^ 64 → OutputOf at ss
  output at [] a low few = record { items = []; sequence = refl; are = tt }
  output at (s ∷ ss) a low few =
      let size = length-append s.item.bytes (bytes_of ss) in
      let first = before (s.item.bytes ++ bytes_of ss) s.item.bytes (bytes_of ss) refl low in
      let rest = behind (s.item.bytes ++ bytes_of ss) s.item.bytes (bytes_of ss) refl low in
      by_step (wrote s.item.bytes s.item.value s.finding a.0.1 a.0.0 first (omega (arith, size, few))) (λ to. output to ss a.1 rest (omega (arith, size, few)))
    where
      by_step : Wrote s.finding → ((to : ℕ) → OutputOf to ss) → OutputOf at (s ∷ ss)
      by_step (nothing e f) more = same_output at s ss e f (more at)
      by_step (message m t e f i j r) more = more_output at s ss m t e f i j r (more (at + length (enc t)))

  pub output_items : (at : ℕ) (b : List ℕ) (ss : List Step) (rest : List ℕ) → Run l allows aad at b ss rest → All IsByte b → length b < 2 ^ 64
      → (is : List Item) × ItemsWithin l.nesting 0 (output_of allows aad ss) is [] × AreMessages l (map (λ i. i.value) is) (passed_messages allows aad ss)
  output_items at b ss rest r low few =
      let t = run_told l allows aad at b ss rest r in
      let size = ap length t.whole in
      let o = output 0 ss t.all (before b (bytes_of ss) rest t.whole low) (omega (arith, size, few, length-append (bytes_of ss) rest)) in
      (o.items, record { sequence = o.sequence; ends = λ v more f. excludes 0 [] l.nesting end (in_title [] l.nesting end (cut_title tt)) v more f }, o.are)
