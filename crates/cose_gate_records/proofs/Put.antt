-- What is in a buffer after a text was put into it.
use Rattle.std.proofs.Common.{◌≡◌, inl, inr, ℕ, ◌<◌, ◌≤◌, ◌+◌, ◌-◌, ◌^◌, min, List, ◌++◌, length, take, drop, sym, ap, ◌∙◌, arith, length-append}
use Rattle.std.proofs.lemmas.Bool.{cases_lt}
use Rattle.std.proofs.lemmas.List.{places, same_lists, take_all, length-take, take-append-le, take-take}
use Rattle.std.proofs.Math.Seq.{take-append-add}
use Rattle.cose_gate_records.specs.Lines.{IsShown, counted, put}

pub length-put : (buffer : List ℕ) (place : ℕ) (text : List ℕ) → length (put buffer place text) ≡ length buffer
length-put buffer place text = grind (arith, places)

-- if the text before it fits
fits : (text piece buffer : List ℕ) → length text ≤ length buffer → take (length text) buffer ≡ text
    → take (length text + length piece) (put buffer (length text) piece) ≡ text ++ take (length buffer - length text) piece
fits text piece buffer few front =
    let n : ℕ = length text in
    let rest : List ℕ = take (length buffer - n) piece ++ drop (n + length piece) buffer in
    let whole : put buffer n piece ≡ text ++ rest = ap (λ (z : List ℕ). z ++ rest) front in
    let tail : take (length piece) rest ≡ take (length buffer - n) piece
    = same_lists _ _ (grind (arith, places)) (λ k d h. grind (arith, places)) in
    ap (λ (z : List ℕ). take (n + length piece) z) whole ∙ (take-append-add text rest (length piece) ∙ ap (λ (z : List ℕ). text ++ z) tail)

-- if it doesn't, nothing changes
past : (buffer piece : List ℕ) (place : ℕ) → length buffer ≤ place → put buffer place piece ≡ buffer
past buffer piece place full =
    same_lists _ _ (length-put buffer place piece) (λ k d h. grind (arith, places))

few_or_full : (n m : ℕ) → m < 2 ^ 64 → m < n → m ≤ min n (2 ^ 64 - 1)
few_or_full n m few over = omega (arith, few, over)

exact : (n m : ℕ) → m < 2 ^ 64 → n ≤ m → min n (2 ^ 64 - 1) ≡ n
exact n m few within = omega (arith, few, within)

-- a text after a text that is shown, at its end
pub put_shown : (text piece buffer : List ℕ) → length buffer < 2 ^ 64 → IsShown text buffer → IsShown (text ++ piece) (put buffer (counted text) piece)
put_shown text piece buffer few shown =
    elim (cases_lt (length buffer) (length text)) [
      | inl over ↦
          let same : put buffer (counted text) piece ≡ buffer = past buffer piece (counted text) (few_or_full (length text) (length buffer) few over) in
          let l : length (text ++ piece) ≡ length text + length piece = length-append text piece in
          rw same (take_all (length (text ++ piece)) buffer (omega (arith, l, over))
          ∙ sym (take-append-le (length buffer) text piece (omega (arith, over)) ∙ (sym shown ∙ take_all (length text) buffer (omega (arith, over)))))
      | inr within ↦
          let at : counted text ≡ length text = exact (length text) (length buffer) few within in
          let front : take (length text) buffer ≡ text = shown ∙ take_all (length buffer) text within in
          let whole : take (length text + length piece) (put buffer (length text) piece) ≡ text ++ take (length buffer - length text) piece
          = fits text piece buffer within front in
          let size : length (put buffer (length text) piece) ≡ length text + (length buffer - length text)
          = length-put buffer (length text) piece ∙ omega (arith, within) in
          rw at (ap (λ (n : ℕ). take n (put buffer (length text) piece)) (length-append text piece) ∙ (whole
          ∙ sym (ap (λ (n : ℕ). take n (text ++ piece)) size ∙ take-append-add text piece (length buffer - length text))))
    ]

-- a text that is shown, and a front of it
pub front_shown : (front text buffer : List ℕ) → take (length front) text ≡ front → IsShown text buffer → IsShown front buffer
front_shown front text buffer is shown =
    let m : ℕ = length buffer in
    let n : length front ≡ min (length front) (length text) = sym (ap length is) ∙ length-take (length front) text in
    let few : length front ≤ length text = omega (arith, n) in
    let a : take (length front) buffer ≡ take (length front) (take (length text) buffer) = sym (take-take (length front) (length text) buffer few) in
    let b : take (length front) (take m text) ≡ take m (take (length front) text) = same_lists _ _ (grind (arith, places)) (λ k d h. grind (arith, places)) in
    a ∙ (ap (λ (z : List ℕ). take (length front) z) shown ∙ (b ∙ ap (λ (z : List ℕ). take m z) is))

-- a text before another begins both
pub begins_both : (text more : List ℕ) → take (length text) (text ++ more) ≡ text
begins_both text more = take-append-le (length text) text more (omega arith) ∙ take_all (length text) text (omega arith)
