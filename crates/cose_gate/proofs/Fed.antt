-- The payload on its way to the judge.
use Rattle.std.proofs.Common.{◌≡◌, ◌+◌, ◌-◌, ◌<◌, ℕ, List, [], ◌∷◌, ◌++◌, length, Option, Some, refl, sym, ap, subst, ◌∙◌, arith, append_assoc, length-append}
use Rattle.std.specs.Prelude.{min, take}
use Rattle.std.proofs.lemmas.List.{take_at}
use Rattle.std.specs.Io.KnownBytes.{Consumes}
use Rattle.ciborium_ll.specs.Reading.{Moves}
use Rattle.ciborium_ll.specs.Title.{title_of}
use Rattle.ciborium_ll.specs.declared.hdr.Header.TheVariants.{Bytes}
use Rattle.ciborium.proofs.Once.{append_nil}
use Rattle.ciborium.proofs.Taking.{takes_then}
use Rattle.cose_gate_core.specs.Questions.{Subject}
use Rattle.cose_gate.specs.Stated.{Cut}
use Rattle.cose_gate.specs.ElementFaults.{Split}

-- the bytes b of a payload of `size` were fed, and are as P says, and `due` are to come
abbrev pub Fed : {J : Type 0} → (J → Subject → List ℕ → Type 0) → J → J → (List ℕ → Type 0) → ℕ → ℕ → List ℕ → Type 0
Fed holds old new P size due b = (length b + due ≡ size) × (((subject : Subject) (bytes : List ℕ) → holds old subject bytes → holds new subject (bytes ++ b)) × P b)

-- the lengths of those pieces, whatever follows
abbrev pub Begun : ℕ → ℕ → ℕ → List ℕ → List ℕ → Type 0
Begun room size due old new = (pieces : List ℕ) × (new ≡ old ++ pieces) × ((more : List ℕ) → Cut room due more → Cut room size (pieces ++ more))

module _ {J : Type 0} (holds : J → Subject → List ℕ → Type 0) where
  pub fed_more : (a b c : J) (P Q : List ℕ → Type 0) (size due due' count : ℕ) (l₀ l₁ l₂ : Option (List ℕ)) (o₀ o₁ o₂ : ℕ) (read piece : List ℕ) → Moves l₀ l₁ o₀ o₁ (Fed holds a b P size due)
      → Consumes l₁ l₂ read → o₂ ≡ o₁ + count → length read ≡ count → piece ≡ read → due' + count ≡ due
      → ((subject : Subject) (bytes : List ℕ) → holds b subject bytes → holds c subject (bytes ++ piece)) → ((x : List ℕ) → P x → Q (x ++ piece)) → Moves l₀ l₂ o₀ o₂ (Fed holds a c Q size due')
  fed_more a b c P Q size due due' count l₀ l₁ l₂ o₀ o₁ o₂ read piece t taken grown len same left feed more =
      takes_then l₀ l₁ l₂ o₀ o₁ o₂ (Fed holds a b P size due) (λ (y : List ℕ). y ≡ read) (Fed holds a c Q size due') t (record { bytes = read; has = refl; taken = taken; grown = omega arith })
      (λ x y p e. (
        (let k : length (x ++ y) ≡ length x + length y = length-append x y in let m : length y ≡ length read = ap length e in omega (arith, p.0)),
        (
          (λ subject bytes h. subst (λ (z : List ℕ). holds c subject z) (ap (λ z. (bytes ++ x) ++ z) (same ∙ sym e) ∙ append_assoc bytes x y) (feed subject (bytes ++ x) (p.1.0 subject bytes h))),
          subst (λ (z : List ℕ). Q (x ++ z)) (same ∙ sym e) (more x p.1.1),
        ),
      ))

pub begun_more : (room size due due' count : ℕ) (old mid new piece : List ℕ) → Begun room size due old mid → count ≡ min due room → 0 < due → due' + count ≡ due → length piece ≡ count → new ≡ mid ++ length piece ∷ []
    → Begun room size due' old new
begun_more room size due due' count old mid new piece b is some left len grown =
    let left' : due' ≡ due - count = omega arith in (
      b.0 ++ count ∷ [],
      grown ∙ ap (λ z. z ++ length piece ∷ []) b.1 ∙ append_assoc old b.0 (length piece ∷ []) ∙ ap (λ z. old ++ (b.0 ++ z ∷ [])) len,
      λ more c. subst (λ (z : List ℕ). Cut room size z) (sym (append_assoc b.0 (count ∷ []) more)) (b.2 (count ∷ more) (is, some, subst (λ (z : ℕ). Cut room z more) left' c)),
    )

pub begun_all : (room size due : ℕ) (old new : List ℕ) → Begun room size due old new → due ≡ 0 → Split size room old new
begun_all room size due old new b none = (b.0, b.1, subst (λ (z : List ℕ). Cut room size z) (sym (append_nil b.0)) (b.2 [] none))

pub take_front : (n : ℕ) (xs ys : List ℕ) → length xs ≡ n → take n (xs ++ ys) ≡ xs
take_front n xs ys e = take_at xs ys n e

-- what is in front of the payload
pub front_parts : (p a s b d c y : List ℕ) → p ++ ((a ++ s) ++ ((b ++ d) ++ (c ++ y))) ≡ (((((p ++ a) ++ s) ++ b) ++ d) ++ c) ++ y
front_parts p a s b d c y =
    ap (λ z. p ++ z) (append_assoc a s ((b ++ d) ++ (c ++ y)) ∙ ap (λ z. a ++ (s ++ z)) (append_assoc b d (c ++ y)))
    ∙ sym (append_assoc ((((p ++ a) ++ s) ++ b) ++ d) c y ∙ append_assoc (((p ++ a) ++ s) ++ b) d (c ++ y) ∙ append_assoc ((p ++ a) ++ s) b (d ++ (c ++ y)) ∙ append_assoc (p ++ a) s (b ++ (d ++ (c ++ y))) ∙ append_assoc p a (s ++ (b ++ (d ++ (c ++ y)))))

pub fronted : (p a s b d c y shown : List ℕ) (size : ℕ) → a ≡ title_of (Bytes (Some (length s))) → s ≡ shown → b ≡ title_of (Bytes (Some (length d))) → c ≡ title_of (Bytes (Some size)) → length y ≡ size
    → p ++ ((title_of (Bytes (Some (length shown))) ++ shown) ++ ((title_of (Bytes (Some (length d))) ++ d) ++ (title_of (Bytes (Some (length y))) ++ y))) ≡ (((((p ++ a) ++ s) ++ b) ++ d) ++ c) ++ y
fronted p a s b d c y shown size ea es eb ec ey =
    let title : ℕ → List ℕ = λ n. title_of (Bytes (Some n)) in
    let one : title (length shown) ++ shown ≡ a ++ s = ap (λ z. title (length z) ++ z) (sym es) ∙ ap (λ z. z ++ s) (sym ea) in
    let two : title (length d) ++ d ≡ b ++ d = ap (λ z. z ++ d) (sym eb) in
    let three : title (length y) ++ y ≡ c ++ y = ap (λ z. title z ++ y) ey ∙ ap (λ z. z ++ y) (sym ec) in
    ap (λ z. p ++ (z ++ ((title (length d) ++ d) ++ (title (length y) ++ y)))) one ∙ ap (λ z. p ++ ((a ++ s) ++ (z ++ (title (length y) ++ y)))) two ∙ ap (λ z. p ++ ((a ++ s) ++ ((b ++ d) ++ z))) three
    ∙ front_parts p a s b d c y
