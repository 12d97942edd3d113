-- What a run told.
use Rattle.std.proofs.Common.{◌≡◌, ℕ, List, [], ◌∷◌, ◌++◌, flat_map, map, Bool, ◌||◌, refl, sym, ap, ◌∙◌, append_assoc}
use Rattle.std.proofs.lemmas.List.{append-nil}
use Rattle.cose_gate_core.specs.Asked.{folded_over}
use Rattle.cose_gate_core.specs.Questions.{Question, Subject}
use Rattle.cose_gate_records.specs.Records.{record_of, front_of, is_among}
use Rattle.cose_gate_records.specs.Framing.{key_by}
use Rattle.std.specs.List.{list_any}
use Rattle.std.specs.Str.{bytes_eq}
use denote.Bor.{Bor}

-- records that are appended one after another
pub told_all : (told : List ℕ) (qs : List Question) → folded_over (λ t q. t ++ record_of q) told qs ≡ told ++ flat_map record_of qs
told_all told [] = sym (append-nil told)
told_all told (q ∷ qs) = told_all (told ++ record_of q) qs ∙ append_assoc told (record_of q) (flat_map record_of qs)

pub any_now : (k : List ℕ) (keys : List (Bor (List ℕ))) → list_any (λ key. bytes_eq key.now k) keys ≡ list_any (λ key. bytes_eq key k) (map (λ key. key.now) keys)
any_now k [] = refl
any_now k (x ∷ xs) = ap (λ (b : Bool). bytes_eq x.now k || b) (any_now k xs)

-- the answer by the keys, of the question that is held
pub answers_by : (keys : List (Bor (List ℕ))) (front covered signature : List ℕ) (s : Subject) (bytes : List ℕ) (r : Bool)
    → front ≡ front_of s → covered ≡ bytes
    → r ≡ list_any (λ key. bytes_eq key.now (key_by front covered signature)) keys
    → r ≡ is_among (map (λ key. key.now) keys) (record { subject = s; covered = bytes; signature = signature })
answers_by keys front covered signature s bytes r f c a =
    a ∙ (any_now (key_by front covered signature) keys
    ∙ (ap (λ (z : List ℕ). list_any (λ key. bytes_eq key (key_by z covered signature)) (map (λ key. key.now) keys)) f
    ∙ ap (λ (z : List ℕ). list_any (λ key. bytes_eq key (key_by (front_of s) z signature)) (map (λ key. key.now) keys)) c))
