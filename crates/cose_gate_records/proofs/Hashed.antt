-- Digests one after another, and the answers by them.
use Rattle.std.proofs.Common.{◌≡◌, ℕ, ◌*◌, ◌<◌, List, [], ◌∷◌, ◌++◌, length, map, Bool, Bor, sym, ap, subst, ◌∙◌, arith, append_assoc, length-append}
use Rattle.std.specs.List.{All, concat, list_any}
use Rattle.std.specs.Str.{bytes_eq}
use Rattle.std.proofs.lemmas.List.{append-nil, map-append}
use Rattle.std.proofs.lemmas.List.Elements.{All-head, All-push, All-tail}
use Rattle.std.proofs.lemmas.List.Folds.{concat-append}
use Rattle.sha2.specs.Sha256.{sha256}
use Rattle.cose_gate_core.specs.Questions.{Subject}
use Rattle.cose_gate_records.specs.Digests.{digest_by, is_digest_among}
use Rattle.cose_gate_records.specs.Framing.{eight, key_by}
use Rattle.cose_gate_records.specs.Records.{front_of}
use Rattle.cose_gate_records.proofs.Asked.{any_now}

-- a key whose parts are hashed one after another
pub one_key : (front hash signature a b : List ℕ) → a ≡ eight (length hash) → b ≡ eight (length signature)
    → (((front ++ a) ++ hash) ++ b) ++ signature ≡ key_by front hash signature
one_key front hash signature a b p q = rw (p, q) (simp append_assoc)

abbrev IsDigest : List ℕ → Type 0
IsDigest d = length d ≡ 32

abbrev now_in : List (Bor (List ℕ)) → List (List ℕ)
now_in places = map (λ d. d.now) places

-- the digests at these places, and what is behind them
pub record AreCut (bytes rest : List ℕ) (places : List (Bor (List ℕ))) : Type 0 where
  pub whole : bytes ≡ concat (now_in places) ++ rest
  pub each : All (λ d. length d ≡ 32) (now_in places)

whole_length : (ds : List (List ℕ)) → All IsDigest ds → length (concat ds) ≡ length ds * 32
whole_length [] all = omega arith
whole_length (d ∷ ds) all =
    let first : length d ≡ 32 = All-head IsDigest d ds all in
    let more : length (concat ds) ≡ length ds * 32 = whole_length ds (All-tail IsDigest d ds all) in
    omega (arith, length-append d (concat ds), first, more)

-- less than a digest is left
pub no_digests : (bytes rest : List ℕ) (places : List (Bor (List ℕ))) → AreCut bytes rest places → 0 < length rest → length rest < 32
    → (n : ℕ) → length bytes ≡ n * 32 → ⊥
no_digests bytes rest places cut some few n all =
    let whole : length bytes ≡ length (concat (now_in places) ++ rest) = ap (λ (z : List ℕ). length z) cut.whole in
    omega (arith, length-append (concat (now_in places)) rest, whole_length (now_in places) cut.each, whole, all)

pub cut_more : (bytes rest more : List ℕ) (places places' : List (Bor (List ℕ))) (d : Bor (List ℕ)) → AreCut bytes rest places
    → places' ≡ places ++ d ∷ [] → rest ≡ d.now ++ more → length d.now ≡ 32 → AreCut bytes more places'
cut_more bytes rest more places places' d cut is at size =
    let m : now_in places' ≡ now_in places ++ d.now ∷ []
    = ap (λ (z : List (Bor (List ℕ))). now_in z) is ∙ map-append (λ (b : Bor (List ℕ)). b.now) places (d ∷ []) in
    let c : concat (now_in places') ≡ concat (now_in places) ++ d.now
    = ap (λ (z : List (List ℕ)). concat z) m ∙ (concat-append (now_in places) (d.now ∷ []) ∙ ap (λ (z : List ℕ). concat (now_in places) ++ z) (append-nil d.now)) in
    record {
      whole = cut.whole ∙ (ap (λ (z : List ℕ). concat (now_in places) ++ z) at
          ∙ (sym (append_assoc (concat (now_in places)) d.now more) ∙ ap (λ (z : List ℕ). z ++ more) (sym c)));
      each = subst (λ (z : List (List ℕ)). All (λ d. length d ≡ 32) z) (sym m)
          (All-push (λ d. length d ≡ 32) (now_in places) d.now cut.each size);
    }

-- the answer by the digests, of the question that is held
pub answers_hashed : (digests : List (Bor (List ℕ))) (front covered signature hash digest : List ℕ) (s : Subject) (r : Bool)
    → front ≡ front_of s → hash ≡ sha256 covered → digest ≡ sha256 (key_by front hash signature)
    → r ≡ list_any (λ d. bytes_eq d.now digest) digests
    → r ≡ is_digest_among (now_in digests) (record { subject = s; covered = covered; signature = signature })
answers_hashed digests front covered signature hash digest s r f h d a =
    let same : digest ≡ digest_by (front_of s) covered signature
    = d ∙ (ap (λ (z : List ℕ). sha256 (key_by z hash signature)) f ∙ ap (λ (z : List ℕ). sha256 (key_by (front_of s) z signature)) h) in
    a ∙ (any_now digest digests ∙ ap (λ (z : List ℕ). list_any (λ key. bytes_eq key z) (now_in digests)) same)
