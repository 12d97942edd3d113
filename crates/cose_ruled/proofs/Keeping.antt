-- What is kept of questions, question by question.
use Rattle.std.proofs.Common.{◌≡◌, ℕ, List, [], ◌∷◌, ◌++◌, map, flat_map, Option, Some, sym, ap, subst, ◌∙◌, append_assoc}
use Rattle.std.specs.Global.{Vec}
use Rattle.std.specs.Option.{unwrap_or}
use Rattle.std.proofs.lemmas.List.{append-nil, map-append}
use Rattle.std.proofs.lemmas.Grind.{flat_map-append}
use Rattle.std.proofs.lemmas.List.Folds.{flat_map-map}
use Rattle.cose_gate_records.specs.Framing.{framed}
use Rattle.cose_ruled.specs.Blocks.{Part, covered_in, base_of, question_text, why_text}
use Rattle.cose_ruled.specs.Told.{AreKept, part_in}
use Rattle.cose_ruled.specs.declared.told.Told.{Told}

whys_more : (ps : List Part) (p : Part) (why : List ℕ) → why ≡ flat_map why_text ps → why ++ why_text p ≡ flat_map why_text (ps ++ p ∷ [])
whys_more ps p why is = ap (λ (z : List ℕ). z ++ why_text p) is
    ∙ sym (flat_map-append why_text ps (p ∷ []) ∙ ap (λ (z : List ℕ). flat_map why_text ps ++ z) (append-nil (why_text p)))

-- one question more
kept_after : (base : Option (List ℕ)) (why : List ℕ) (texts : List (List ℕ)) (ps : List Part) (p : Part) (b : List ℕ)
    → AreKept base why texts ps → b ≡ unwrap_or base (covered_in p)
    → AreKept (Some b) (why ++ why_text p) (texts ++ question_text b p ∷ []) (ps ++ p ∷ [])
kept_after base why texts [] p b held is =
    let e : b ≡ covered_in p = is ∙ ap (λ (o : Option (List ℕ)). unwrap_or o (covered_in p)) held.0 in (
      ap (λ (z : List ℕ). Some z) e,
      (
        whys_more [] p why held.1.0,
        ap (λ (z : List (List ℕ)). z ++ question_text b p ∷ []) held.1.1
            ∙ ap (λ (z : List ℕ). let only : List (List ℕ) = question_text z p ∷ [] in only) e,
      ),
    )
kept_after base why texts (q ∷ qs) p b held is =
    let first : List ℕ = covered_in q in
    let e : b ≡ first = is ∙ ap (λ (o : Option (List ℕ)). unwrap_or o (covered_in p)) held.0 in (
      ap (λ (z : List ℕ). Some z) e,
      (
        whys_more (q ∷ qs) p why held.1.0,
        ap (λ (z : List (List ℕ)). z ++ question_text b p ∷ []) held.1.1
            ∙ (ap (λ (z : List ℕ). map (question_text first) (q ∷ qs) ++ question_text z p ∷ []) e
            ∙ sym (map-append (question_text first) (q ∷ qs) (p ∷ []))),
      ),
    )

abbrev items_in : List (Vec ℕ) → List (List ℕ)
items_in vs = map (λ v. v.items) vs

-- the log with one more
pub told_more : (told told' : List Told) (t : Told) (p : Part) → told' ≡ told ++ t ∷ [] → part_in t ≡ p → map part_in told' ≡ map part_in told ++ p ∷ []
told_more told told' t p e is =
    ap (λ (z : List Told). map part_in z) e ∙ (map-append part_in told (t ∷ []) ∙ ap (λ (z : Part). map part_in told ++ z ∷ []) is)

texts_more : (texts texts' : List (Vec ℕ)) (v : Vec ℕ) (text : List ℕ) → texts' ≡ texts ++ v ∷ [] → v.items ≡ text
    → items_in texts' ≡ items_in texts ++ text ∷ []
texts_more texts texts' v text e is =
    ap (λ (z : List (Vec ℕ)). items_in z) e ∙ (map-append (λ (w : Vec ℕ). w.items) texts (v ∷ []) ∙ ap (λ (z : List ℕ). items_in texts ++ z ∷ []) is)

pub kept_more : (base : Option (List ℕ)) (why why' : List ℕ) (texts texts' : List (Vec ℕ)) (told told' : List Told) (p : Part) (t : Told) (b : List ℕ) (v : Vec ℕ)
    → AreKept base why (items_in texts) (map part_in told) → b ≡ unwrap_or base (covered_in p) → why' ≡ why ++ why_text p
    → v.items ≡ question_text b p → texts' ≡ texts ++ v ∷ [] → part_in t ≡ p → told' ≡ told ++ t ∷ []
    → AreKept (Some b) why' (items_in texts') (map part_in told')
kept_more base why why' texts texts' told told' p t b v held first whys text texts_are part told_is =
    let all = kept_after base why (items_in texts) (map part_in told) p b held first in
    subst (λ (ps : List Part). AreKept (Some b) why' (items_in texts') ps) (sym (told_more told told' t p told_is part))
    (subst (λ (ts : List (List ℕ)). AreKept (Some b) why' ts (map part_in told ++ p ∷ [])) (sym (texts_more texts texts' v (question_text b p) texts_are text))
    (subst (λ (w : List ℕ). AreKept (Some b) w (items_in texts ++ question_text b p ∷ []) (map part_in told ++ p ∷ [])) (sym whys) all))

-- the texts of all questions, one after another
texts_joined : (texts : List (Vec ℕ)) (text : Part → List ℕ) (ps : List Part) → items_in texts ≡ map text ps → flat_map (λ v. v.items) texts ≡ flat_map text ps
texts_joined texts text ps e =
    sym (flat_map-map (λ (z : List ℕ). z) (λ (v : Vec ℕ). v.items) texts)
    ∙ (ap (λ (z : List (List ℕ)). flat_map (λ (x : List ℕ). x) z) e ∙ flat_map-map (λ (z : List ℕ). z) text ps)

pub body_is : (old base mid : List ℕ) (texts lent : List (Vec ℕ)) (ps : List Part) → items_in texts ≡ map (question_text (base_of ps)) ps
    → base ≡ base_of ps → mid ≡ old ++ framed base → lent ≡ texts
    → mid ++ flat_map (λ v. v.items) lent ≡ old ++ (framed (base_of ps) ++ flat_map (question_text (base_of ps)) ps)
body_is old base mid texts lent ps kept b m same =
    let all : List ℕ = flat_map (λ v. v.items) texts in
    ap (λ (z : List (Vec ℕ)). mid ++ flat_map (λ v. v.items) z) same ∙ (ap (λ (z : List ℕ). z ++ all) m ∙ (append_assoc old (framed base) all
    ∙ (ap (λ (z : List ℕ). old ++ (framed z ++ all)) b
    ∙ ap (λ (z : List ℕ). old ++ (framed (base_of ps) ++ z)) (texts_joined texts (question_text (base_of ps)) ps kept))))
