-- Keys are read in one way.
use Rattle.std.proofs.Common.{◌≡◌, ℕ, suc, ◌<◌, ◌+◌, ◌^◌, List, [], ◌∷◌, ◌++◌, ◌==◌, Bool, true, false, Option, Some, None, MatchOption, length, flat_map, refl, sym, ap, ◌∙◌, lit<, arith, length-append}
use Rattle.std.proofs.lemmas.List.{append-nil, nil_from_length}
use Rattle.std.proofs.lemmas.Bool.Decides.{nat_tests}
use Rattle.cose_gate_records.specs.Framing.{eight, framed}
use Rattle.cose_gate_command.specs.Lines.{texts_in}
use Rattle.cose_gate_command.specs.Read.{key_with}
use Rattle.cose_gate_core.specs.Questions.{Question, number_of}
use Rattle.cose_gate_records.specs.Records.{key_of, texts_of}
use Rattle.cose_gate_core.specs.declared.about.MessageKind.{MessageKind}
use Rattle.cose_gate_core.specs.declared.about.MessageKind.TheVariants as kind
use Rattle.cose_gate_core.proofs.TagNumbers.{same_kind}
use Rattle.cose_gate_records.proofs.Frames.{same_frames, same_numbered, same_pieces, length-framed, assoc_six}

kind_below : (k : MessageKind) → number_of k < 2 ^ 64
kind_below kind.Sign1 = lit< tt
kind_below kind.Mac0 = lit< tt
kind_below kind.Sign = lit< tt
kind_below kind.Mac = lit< tt

-- how long bytes are that begin with a framed text
pub length-frame_after : (bytes p x : List ℕ) → bytes ≡ framed p ++ x → length bytes ≡ (8 + length p) + length x
length-frame_after bytes p x e =
    ap (λ (z : List ℕ). length z) e ∙ (length-append (framed p) x ∙ ap (λ (k : ℕ). k + length x) (length-framed p))

-- bytes begin with one framed text
pub one_frame : (bytes p x q y : List ℕ) → length bytes < 2 ^ 64 → bytes ≡ framed p ++ x → bytes ≡ framed q ++ y → (p ≡ q) × (x ≡ y)
one_frame bytes p x q y h e f =
    let a = length-frame_after bytes p x e in
    let b = length-frame_after bytes q y f in
    same_frames p q x y (omega (arith, a, h)) (omega (arith, b, h)) (sym e ∙ f)

-- these bytes are not so many framed texts
abbrev pub IsNoTexts : ℕ → List ℕ → Type 0
IsNoTexts n bytes = length bytes < 2 ^ 64 → (texts : List (List ℕ)) → length texts ≡ n → bytes ≡ flat_map framed texts → ⊥

-- since they begin with none, or are more than none, or are not after a text
pub none_here : (n : ℕ) (bytes : List ℕ) → ((p r : List ℕ) → bytes ≡ framed p ++ r → ⊥) → IsNoTexts (suc n) bytes
none_here n bytes none h [] e f = cc
none_here n bytes none h (t ∷ texts) e f = none t (flat_map framed texts) f

pub none_left : (bytes : List ℕ) (empty : Bool) → empty ≡ (length bytes == 0) → empty ≡ false → IsNoTexts 0 bytes
none_left [] empty is not h texts e f = cc
none_left (x ∷ xs) empty is not h [] e f = cc
none_left (x ∷ xs) empty is not h (t ∷ texts) e f = cc

pub none_after : (n : ℕ) (bytes piece more : List ℕ) → bytes ≡ framed piece ++ more → IsNoTexts n more → IsNoTexts (suc n) bytes
none_after n bytes piece more is none h [] e f = cc
none_after n bytes piece more is none h (t ∷ texts) e f =
    let l = length-frame_after bytes piece more is in
    none (omega (arith, l, h)) texts (omega (arith, e)) (one_frame bytes piece more t (flat_map framed texts) h is f).1

-- a key of a tag and no seven texts
pub no_key : (key rest : List ℕ) (n : ℕ) → length key < 2 ^ 64 → n < 2 ^ 64 → key ≡ eight n ++ rest → IsNoTexts 7 rest
    → (k : MessageKind) (texts : List (List ℕ)) → length texts ≡ 7 → key ≡ key_with k texts → ⊥
no_key key rest n h hn is none k texts seven e =
    let w = same_numbered n (number_of k) rest (flat_map framed texts) hn (kind_below k) (sym is ∙ e) in
    let l : length key ≡ length (eight n) + length rest = ap (λ (b : List ℕ). length b) is ∙ length-append (eight n) rest in
    none (omega (arith, l, h)) texts seven w.1

-- the tag is of no kind
pub no_kind : (key all : List ℕ) (n : ℕ) → n < 2 ^ 64 → key ≡ eight n ++ all → ((k : MessageKind) → number_of k ≡ n → ⊥)
    → (k : MessageKind) (texts : List (List ℕ)) → length texts ≡ 7 → key ≡ key_with k texts → ⊥
no_kind key all n hn is none k texts seven e =
    none k (sym (same_numbered n (number_of k) all (flat_map framed texts) hn (kind_below k) (sym is ∙ e)).0)

-- a key of a tag and its texts
pub no_texts : (bytes : List ℕ) (empty : Bool) → empty ≡ (length bytes == 0) → empty ≡ true → bytes ≡ flat_map framed []
no_texts bytes empty is so =
    let n : length bytes ≡ 0 = grind (arith, nat_tests, is, so) in
    nil_from_length bytes n

pub text_then : (bytes piece more : List ℕ) (texts : List (List ℕ)) → bytes ≡ framed piece ++ more → more ≡ flat_map framed texts → bytes ≡ flat_map framed (piece ∷ texts)
text_then bytes piece more texts e f = e ∙ ap (λ (z : List ℕ). framed piece ++ z) f

pub key_is : (key rest : List ℕ) (n : ℕ) (k : MessageKind) (texts : List (List ℕ)) → key ≡ eight n ++ rest → number_of k ≡ n → rest ≡ flat_map framed texts → key ≡ key_with k texts
key_is key rest n k texts is e f = is ∙ (ap (λ (m : ℕ). eight m ++ rest) (sym e) ∙ ap (λ (z : List ℕ). eight (number_of k) ++ z) f)

-- a key is of one kind and of one list of seven texts
pub same_keys : (j k : MessageKind) (texts others : List (List ℕ)) → length texts ≡ 7 → length others ≡ 7 → length (key_with j texts) < 2 ^ 64
    → key_with j texts ≡ key_with k others → (j ≡ k) × (texts ≡ others)
same_keys j k texts others a b h e =
    let w = same_numbered (number_of j) (number_of k) (flat_map framed texts) (flat_map framed others) (kind_below j) (kind_below k) e in
    let l = length-append (eight (number_of j)) (flat_map framed texts) in
    (same_kind j k w.0, same_pieces texts others (a ∙ sym b) (omega (arith, l, h)) w.1)

-- the key of a question, as its kind and its texts
pub key_in : (q : Question) → key_of q ≡ key_with q.subject.kind (texts_in q)
key_in q =
    let t = texts_of q.subject in
    assoc_six (eight t.number) (framed t.protected) (framed t.unprotected) (framed t.signer_protected) (framed t.signer_unprotected) (framed t.recipients)
    (framed q.covered) (framed q.signature)

-- records begin with a key that is of no question
pub no_question : (records key rest : List ℕ) → length records < 2 ^ 64 → records ≡ framed key ++ rest
    → ((k : MessageKind) (texts : List (List ℕ)) → length texts ≡ 7 → key ≡ key_with k texts → ⊥)
    → (k : MessageKind) (texts : List (List ℕ)) (more : List ℕ) → length texts ≡ 7 → records ≡ framed (key_with k texts) ++ more → ⊥
no_question records key rest h is none k texts more seven e = none k texts seven (one_frame records key rest (key_with k texts) more h is e).0

-- bytes after a frame
pub more_left : (bytes p x q : List ℕ) (empty : Bool) → length bytes < 2 ^ 64 → bytes ≡ framed p ++ x → empty ≡ (length x == 0) → empty ≡ false → bytes ≡ framed q → ⊥
more_left bytes p x q empty h e is so f =
    none_left x empty is so (omega (arith, h, length-frame_after bytes p x e)) [] refl (one_frame bytes p x q [] h e (f ∙ sym (append-nil (framed q)))).1

-- bytes that are one frame have the question of what is in it, or none
pub whole : {Q : Type 0} (bytes key rest : List ℕ) → length bytes < 2 ^ 64 → bytes ≡ framed key ++ rest → rest ≡ [] → (key_of : Q → List ℕ) (r : Option Q)
    → MatchOption r ((k : MessageKind) (texts : List (List ℕ)) → length texts ≡ 7 → key ≡ key_with k texts → ⊥) (λ q. key ≡ key_of q)
    → MatchOption r ((k : MessageKind) (texts : List (List ℕ)) → length texts ≡ 7 → bytes ≡ framed (key_with k texts) → ⊥) (λ q. bytes ≡ framed (key_of q))
whole bytes key rest h is none key_of None m =
    λ k texts seven e. no_question bytes key rest h is m k texts [] seven (e ∙ sym (append-nil (framed (key_with k texts))))
whole bytes key rest h is none key_of (Some q) m =
    is ∙ (ap (λ (z : List ℕ). framed key ++ z) none ∙ (append-nil (framed key) ∙ ap (λ (z : List ℕ). framed z) m))
