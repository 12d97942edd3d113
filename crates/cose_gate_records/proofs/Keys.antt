-- A key is of one question.
use Rattle.std.proofs.Common.{◌≡◌, ℕ, ◌<◌, ◌≤◌, ◌+◌, ◌^◌, List, [], ◌∷◌, ◌++◌, length, flat_map, get_or, refl, sym, ap, ◌∙◌, arith, length-append}
use Rattle.cose_gate_core.specs.Questions.{Question, number_of}
use Rattle.cose_gate_core.specs.declared.about.MessageKind.{MessageKind}
use Rattle.cose_gate_core.specs.declared.about.MessageKind.TheVariants as kind
use Rattle.cose_gate_core.proofs.TagNumbers.{same_kind}
use Rattle.cose_gate_records.specs.Framing.{eight, framed, key_by}
use Rattle.cose_gate_records.specs.Records.{Texts, texts_of, front_by, key_of}
use Rattle.cose_gate_records.proofs.Frames.{length-eight, same_numbered, same_pieces, assoc_six}

small : (k : MessageKind) → number_of k < 2 ^ 64
small kind.Sign1 = omega arith
small kind.Mac0 = omega arith
small kind.Sign = omega arith
small kind.Mac = omega arith

-- what is framed after the number
abbrev pieces : Texts → List ℕ → List ℕ → List (List ℕ)
pieces t covered signature = t.protected ∷ t.unprotected ∷ t.signer_protected ∷ t.signer_unprotected ∷ t.recipients ∷ covered ∷ signature ∷ []

spelled : (t : Texts) (covered signature : List ℕ) → key_by (front_by t) covered signature ≡ eight t.number ++ flat_map framed (pieces t covered signature)
spelled t covered signature = assoc_six (eight t.number) (framed t.protected) (framed t.unprotected) (framed t.signer_protected)
    (framed t.signer_unprotected) (framed t.recipients) (framed covered) (framed signature)

-- the parts that a number and such pieces are
abbrev texts_by : ℕ → List (List ℕ) → Texts
texts_by n ps = record {
  number = n;
  protected = get_or ps 0 [];
  unprotected = get_or ps 1 [];
  signer_protected = get_or ps 2 [];
  signer_unprotected = get_or ps 3 [];
  recipients = get_or ps 4 [];
}

same_texts : (m n : ℕ) (ps qs : List (List ℕ)) → m ≡ n → ps ≡ qs → texts_by m ps ≡ texts_by n qs
same_texts m n ps qs e f = ap (λ (k : ℕ). texts_by k ps) e ∙ ap (λ (z : List (List ℕ)). texts_by n z) f

pub same_key : (q r : Question) → length (key_of q) < 2 ^ 64 → key_of q ≡ key_of r
    → (q.subject.kind ≡ r.subject.kind) × (texts_of q.subject ≡ texts_of r.subject) × (q.covered ≡ r.covered) × (q.signature ≡ r.signature)
same_key q r h e =
    let m = number_of q.subject.kind in
    let n = number_of r.subject.kind in
    let ps = pieces (texts_of q.subject) q.covered q.signature in
    let qs = pieces (texts_of r.subject) r.covered r.signature in
    let sq : key_of q ≡ eight m ++ flat_map framed ps = spelled (texts_of q.subject) q.covered q.signature in
    let sr : key_of r ≡ eight n ++ flat_map framed qs = spelled (texts_of r.subject) r.covered r.signature in
    let w = same_numbered m n (flat_map framed ps) (flat_map framed qs) (small q.subject.kind) (small r.subject.kind) (sym sq ∙ (e ∙ sr)) in
    let l : length (key_of q) ≡ 8 + length (flat_map framed ps)
    = ap (λ (z : List ℕ). length z) sq ∙ (length-append (eight m) (flat_map framed ps) ∙ ap (λ (k : ℕ). k + length (flat_map framed ps)) (length-eight m)) in
    let same : ps ≡ qs = same_pieces ps qs refl (omega (arith, l, h)) w.1 in (
      same_kind q.subject.kind r.subject.kind w.0,
      same_texts m n ps qs w.0 same,
      ap (λ (z : List (List ℕ)). get_or z 5 []) same,
      ap (λ (z : List (List ℕ)). get_or z 6 []) same,
    )
