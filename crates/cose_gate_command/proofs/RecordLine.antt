-- The line of a record.
use Rattle.std.proofs.Common.{◌≡◌, ℕ, ◌<◌, ◌^◌, List, [], ◌∷◌, ◌++◌, length, sym, ap, ◌∙◌, arith, refl}
use Rattle.std.proofs.lemmas.List.{append-nil}
use Rattle.cose_gate_core.specs.Questions.{Question}
use Rattle.cose_gate_core.specs.declared.about.MessageKind.{MessageKind}
use Rattle.cose_gate_records.specs.Framing.{framed}
use Rattle.cose_gate_records.specs.Records.{key_of, record_of}
use Rattle.cose_gate_command.specs.Lines.{full_line, line_by, texts_in}
use Rattle.cose_gate_command.specs.Read.{key_with}
use Rattle.cose_gate_command.proofs.Keys.{key_in, length-frame_after, one_frame, same_keys}

-- the record of a question, by its kind and its texts
record_in : (q : Question) → record_of q ≡ framed (key_with q.subject.kind (texts_in q))
record_in q = ap (λ (z : List ℕ). framed z) (key_in q)

-- bytes that are no record are that of no question
pub no_record : (bytes : List ℕ) → ((k : MessageKind) (texts : List (List ℕ)) → length texts ≡ 7 → bytes ≡ framed (key_with k texts) → ⊥)
    → (q : Question) → bytes ≡ record_of q → ⊥
no_record bytes none q e = none q.subject.kind (texts_in q) refl (e ∙ record_in q)

-- a record has one kind and one list of texts
pub one_line : (bytes fields : List ℕ) (k : MessageKind) (texts : List (List ℕ)) → length bytes < 2 ^ 64 → length texts ≡ 7 → bytes ≡ framed (key_with k texts)
    → (q : Question) → bytes ≡ record_of q → line_by k fields (texts ++ bytes ∷ []) ≡ full_line fields q
one_line bytes fields k texts h seven is q e =
    let w = one_frame bytes (key_with k texts) [] (key_of q) [] h (is ∙ sym (append-nil (framed (key_with k texts)))) (e ∙ sym (append-nil (record_of q))) in
    let l = length-frame_after bytes (key_with k texts) [] (is ∙ sym (append-nil (framed (key_with k texts)))) in
    let s = same_keys k q.subject.kind texts (texts_in q) seven refl (omega (arith, l, h)) (w.0 ∙ key_in q) in
    λ i. line_by (s.0 i) fields (s.1 i ++ e i ∷ [])
