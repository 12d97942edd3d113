-- Where a judged message of a stated length begins, nothing but Ok is due.
use Rattle.std.proofs.Common.{◌≡◌, ◌+◌, inl, inr, ℕ, Bool, List, ◌++◌, length, Option, None, Some, Result, Ok, Err, IfErr, sym, ap, subst, ◌∙◌, false}
use Rattle.ciborium_ll.specs.declared.hdr.Header.{Header}
use Rattle.ciborium_ll.specs.declared.hdr.Header.TheVariants.{Tag, Bytes, Array, Simple}
use Rattle.ciborium_ll.specs.Seen.{Seen}
use Rattle.ciborium_ll.specs.Title.{Begins}
use Rattle.ciborium_ll.proofs.Closings.{split_heads}
use Rattle.ciborium_value.specs.Tree.{Tree, array, tag, tree_count}
use Rattle.ciborium.specs.declared.de.Error.TheVariants as de
use Rattle.ciborium.specs.Front.{Reads, Front}
use Rattle.ciborium.specs.Damage.{end, deep, syntax, semantic}
use Rattle.ciborium.specs.Reading.{IfKnown}
use Rattle.ciborium.proofs.Excludes.{excludes}
use Rattle.ciborium.proofs.ChildLemmas.{all_count}
use Rattle.coset_labels.specs.Faults.{CoseFault, unexpected}
use Rattle.cose_gate_core.specs.Questions.{MessageFields}
use Rattle.cose_gate_core.specs.Findings.{Bounds, IsJudged, within, usual}
use Rattle.cose_gate_core.specs.Misshapen.{IsMisshapen}
use Rattle.cose_gate_core.proofs.Unique.{no_message}
use Rattle.cose_gate.specs.declared.fault.StreamFault.{StreamFault}
use Rattle.cose_gate.specs.declared.fault.StreamFault.TheVariants as fault
use Rattle.cose_gate.specs.Stated.{IsSingle, IsSingleTag, Stated, closing}
use Rattle.cose_gate.specs.Opening.{IsShapeFault, MessageOpening}
use Rattle.cose_gate.specs.StreamFaults.{NamesWhy, TellsFault, IsLongFor}
use Rattle.cose_gate.specs.Streaming.{UnstreamedBy, Answered}
use Rattle.cose_gate.proofs.Faults.{Names}
use Rattle.cose_gate.proofs.Forms.{shaped, not_four_items, form_by}
use Rattle.cose_gate.proofs.Lengths.{stated_whole}
use Rattle.cose_gate.proofs.Elements.{behind_two}

stated_first : (b front rest r : List ℕ) (n : ℕ) (h : Header) (s : Stated front n) → b ≡ front ++ rest → Begins b h r → h ≡ Tag s.number
stated_first b front rest r n h s e t = (split_heads t.title s.tag_title r _ h (Tag s.number) t.is_title s.is_tag (sym t.whole ∙ stated_whole b front rest n s e)).heads

stated_third : (limits : Bounds) (b front rest : List ℕ) (n : ℕ) (h : Header) → Stated front n → b ≡ front ++ rest → MessageOpening limits b h → h ≡ Bytes (Some n)
stated_third limits b front rest n h s e o =
    let tail : List ℕ = (s.payload ++ (s.last ++ closing s.count)) ++ rest in
    let p = o.right.begins in
    let a = split_heads p.tag_first.title s.tag_title p.inside (s.array_title ++ (s.headers ++ (s.length_title ++ tail))) (Tag p.number) (Tag s.number) p.tag_first.is_title s.is_tag (sym p.tag_first.whole ∙ stated_whole b front rest n s e) in
    let c = split_heads p.array_next.title s.array_title p.items (s.headers ++ (s.length_title ++ tail)) (Array p.count) (Array s.count) p.array_next.is_title s.is_array (sym p.array_next.whole ∙ a.rests) in
    let f = o.right.fronts in
    let d : tree_count f.reads.trees ≡ 2 = all_count f.reads.trees o.headers f.reads.means ∙ o.are_two in
    let none : o.third ≡ s.length_title ++ tail = behind_two f.reads.trees s.two o.third (s.length_title ++ tail) f.spelling s.headers f.reads.spells s.spells d s.are_two (sym f.whole ∙ c.rests) in
    (split_heads o.title.title s.length_title o.behind tail h (Bytes (Some n)) o.title.is_title s.is_length (sym o.title.whole ∙ none)).heads

-- an item of such a tag with a fault has one as a message
misshapen : (limits : Bounds) (b : List ℕ) (t : Tree) (e : CoseFault) → IsShapeFault limits b t e → (f : CoseFault) × IsMisshapen limits t f
misshapen limits b t e (inl m) = (e, m)
misshapen limits b t e (inr (ts, other, _)) =
    let f = form_by other.begins.number other.begins.is_single in
    (unexpected, shaped limits f.0 t (array ts) unexpected (other.is ∙ ap (λ z. tag z (array ts)) f.1) (not_four_items limits f.0 ts other.other))

module _ (levels layers : ℕ) {E : Type 0} (ends : E → Bool) (b : List ℕ) (o room : ℕ) (t : Tree) (front rest : List ℕ) (m : MessageFields) (n : ℕ) (e : b ≡ front ++ rest) (reads : Reads front levels t) (j : IsJudged (within levels layers false) t m) (s : Stated front n) where
  there : Front b levels t rest
  there = record { spelling = front; whole = e; reads = reads }

  due : (f : StreamFault E) → TellsFault ends (UnstreamedBy (within levels layers false) (o + length b) b) (IsLongFor room o b) f → Answered ends (IsLongFor room o b) (Err f)
  due (fault.Decode (de.Io x)) k = λ y. excludes (o + length b) b levels end (k y) t rest there
  due (fault.Decode (de.Syntax p)) k = excludes (o + length b) b levels (syntax k.0) k.1 t rest there
  due (fault.Decode (de.Semantic x y)) k = excludes (o + length b) b levels (semantic y) k.1 t rest there
  due (fault.Decode de.RecursionLimitExceeded) k = excludes (o + length b) b levels deep k t rest there
  due (fault.Decode de.Memory) k = k
  due (fault.Decode de.TooLong) k = k
  due fault.NotTagged k = k.3 s.number (stated_first b front rest k.1 n k.0 s e k.2)
  due (fault.OtherTag i) k = k.2 (let h : Tag i ≡ Tag s.number = stated_first b front rest k.0 n (Tag i) s e k.1 in let w : s.number ≡ i = cc in subst IsSingleTag w s.is_single)
  due (fault.Shape x) k = let w = misshapen (within levels layers false) b t _ (k.1 t rest there) in absurd (no_message (within levels layers false) t w.0 w.1 m j.0)
  due fault.Detached (inl k) = let h : Simple 22 ≡ Bytes (Some n) = stated_third (within levels layers false) b front rest n (Simple 22) s e k in cc
  due fault.Detached (inr k) = let h : Simple 23 ≡ Bytes (Some n) = stated_third (within levels layers false) b front rest n (Simple 23) s e k in cc
  due fault.Unsized k = let h : Bytes None ≡ Bytes (Some n) = stated_third (within levels layers false) b front rest n (Bytes None) s e k in cc
  due fault.Memory k = tt

pub answered : (levels layers : ℕ) {E : Type 0} (ends : E → Bool) (l : Option (List ℕ)) (o room : ℕ) (r : Result Bool (StreamFault E)) → IfErr r (Names ends (UnstreamedBy (within levels layers false)) room l o)
    → IfKnown l (λ b. (t : Tree) (front rest : List ℕ) (m : MessageFields) (n : ℕ) → b ≡ front ++ rest → Reads front levels t → IsJudged (within levels layers false) t m → IsSingle m → Stated front n → Answered ends (IsLongFor room o b) r)
answered levels layers ends None o room r k = tt
answered levels layers ends (Some b) o room (Ok x) k = λ t front rest m n e reads j i s. tt
answered levels layers ends (Some b) o room (Err f) k = λ t front rest m n e reads j i s. due levels layers ends b o room t front rest m n e reads j s f k.1

-- within the default limits
pub usual_err : {E : Type 0} (ends : E → Bool) (levels layers room : ℕ) (s : Seen) (r : Result Bool (StreamFault E)) → levels ≡ 256 → layers ≡ 16
    → IfErr r (NamesWhy ends (UnstreamedBy (within levels layers false)) room s) → IfErr r (NamesWhy ends (UnstreamedBy usual) room s)
usual_err ends levels layers room s r e f k =
    subst (λ (z : ℕ). IfErr r (NamesWhy ends (UnstreamedBy (within z 16 false)) room s)) e (subst (λ (z : ℕ). IfErr r (NamesWhy ends (UnstreamedBy (within levels z false)) room s)) f k)
