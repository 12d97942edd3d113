-- Parts that are taken one after another, and faults after them.
use Rattle.std.proofs.Common.{◌≡◌, ◌≤◌, ◌+◌, ◌^◌, ℕ, Bool, List, [], ◌∷◌, ◌++◌, length, Option, None, Some, refl, sym, ap, subst, ◌∙◌, arith, length-append}
use Rattle.std.specs.Prelude.{min}
use Rattle.std.specs.Io.KnownBytes.{Consumes}
use Rattle.std.proofs.KnownBytes.{Consumes-trans}
use Rattle.ciborium_ll.specs.Reading.{Moves, Tells, Ends, IsBadByte}
use Rattle.ciborium_ll.specs.declared.hdr.Header.{Header}
use Rattle.ciborium_ll.specs.declared.hdr.Error.{Error as HeadError}
use Rattle.ciborium_ll.specs.declared.hdr.Error.TheVariants as below
use Rattle.ciborium_ll.specs.Title.{Title, StartsBad}
use Rattle.ciborium.specs.declared.de.Error.{Error}
use Rattle.ciborium.specs.declared.de.Error.TheVariants as code
use Rattle.ciborium.specs.Damage.{Fault, end, deep, syntax, semantic, TitleDamage, cut_title, bad_title}
use Rattle.ciborium.specs.Reading.{Fails, FailsAt, FailsAfterTitle, EndPlace, IfKnown, lifted}

pub takes_then : (l₀ l₁ l₂ : Option (List ℕ)) (o₀ o₁ o₂ : ℕ) (P Q S : List ℕ → Type 0) → Moves l₀ l₁ o₀ o₁ P → Moves l₁ l₂ o₁ o₂ Q
    → ((x y : List ℕ) → P x → Q y → S (x ++ y)) → Moves l₀ l₂ o₀ o₂ S
takes_then l₀ l₁ l₂ o₀ o₁ o₂ P Q S p q f = record {
  bytes = p.bytes ++ q.bytes;
  has = f p.bytes q.bytes p.has q.has;
  taken = Consumes-trans l₀ l₁ l₂ p.bytes q.bytes p.taken q.taken;
  grown = omega (arith, p.grown, q.grown, length-append p.bytes q.bytes);
}

pub takes_as : (l₀ l₁ : Option (List ℕ)) (o₀ o₁ : ℕ) (P S : List ℕ → Type 0) → Moves l₀ l₁ o₀ o₁ P → ((x : List ℕ) → P x → S x) → Moves l₀ l₁ o₀ o₁ S
takes_as l₀ l₁ o₀ o₁ P S p f = record { bytes = p.bytes; has = f p.bytes p.has; taken = p.taken; grown = p.grown }

pub takes_none : (l : Option (List ℕ)) (o : ℕ) (P : List ℕ → Type 0) → P [] → Moves l l o o P
takes_none l o P p = record { bytes = []; has = p; taken = go l; grown = omega arith }
  where
    go : (l : Option (List ℕ)) → Consumes l l []
    go None = tt
    go (Some xs) = refl

pub fails_as : {E : Type 0} (ends : E → Bool) (Q Q' : Type 0) (D D' : Fault → Type 0) (long long' : Type 0) (e : Error E)
    → (Q → Q') → ((f : Fault) → D f → D' f) → (long → long') → Fails ends Q D long e → Fails ends Q' D' long' e
fails_as ends Q Q' D D' long long' (code.Io e) q d l p = λ t. let w = p t in (d end w.0, q w.1)
fails_as ends Q Q' D D' long long' (code.Syntax p) q d l w = d (syntax p) w
fails_as ends Q Q' D D' long long' (code.Semantic o k) q d l w = (w.0, d (semantic k) w.1)
fails_as ends Q Q' D D' long long' code.RecursionLimitExceeded q d l w = d deep w
fails_as ends Q Q' D D' long long' code.Memory q d l w = tt
fails_as ends Q Q' D D' long long' code.TooLong q d l w = l w

-- the same bytes, by another name for their faults
pub known_as : {E : Type 0} (ends : E → Bool) (l : Option (List ℕ)) (o o' : ℕ) (D D' : ℕ → List ℕ → Fault → Type 0) (e : Error E)
    → ((stop : ℕ) (b : List ℕ) (f : Fault) → D stop b f → D' stop b f) → IfKnown l (λ b. FailsAt ends b o o' D e) → IfKnown l (λ b. FailsAt ends b o o' D' e)
known_as ends None o o' D D' e step w = tt
known_as ends (Some b) o o' D D' e step w = fails_as ends _ _ _ _ _ _ e (λ q. q) (step (o + length b) b) (λ l. l) w

place_grown : (rest : List ℕ) (o₁ o₂ : ℕ) → EndPlace rest o₁ o₂ → o₁ ≤ o₂
place_grown [] o₁ o₂ e = omega arith
place_grown (x ∷ xs) o₁ o₂ e = omega arith

place_behind : (x rest : List ℕ) (o₀ o₁ o₂ : ℕ) → o₁ ≡ o₀ + length x → EndPlace rest o₁ o₂ → EndPlace (x ++ rest) o₀ o₂
place_behind [] [] o₀ o₁ o₂ g e = omega arith
place_behind [] (y ∷ ys) o₀ o₁ o₂ g e = omega arith
place_behind (x ∷ xs) rest o₀ o₁ o₂ g e = let h : o₁ ≤ o₂ = place_grown rest o₁ o₂ e in let k : o₁ ≡ o₀ + length (x ∷ xs) = g in omega arith

stop_same : (x rest : List ℕ) (o₀ o₁ : ℕ) → o₁ ≡ o₀ + length x → o₁ + length rest ≡ o₀ + length (x ++ rest)
stop_same x rest o₀ o₁ g = omega (arith, length-append x rest)

pub fails_over : {E : Type 0} (ends : E → Bool) (x rest : List ℕ) (o₀ o₁ o₂ : ℕ) (D D' : ℕ → List ℕ → Fault → Type 0) (e : Error E) → o₁ ≡ o₀ + length x
    → ((stop : ℕ) (f : Fault) → D stop rest f → D' stop (x ++ rest) f) → FailsAt ends rest o₁ o₂ D e → FailsAt ends (x ++ rest) o₀ o₂ D' e
fails_over ends x rest o₀ o₁ o₂ D D' e g step w =
    let s = stop_same x rest o₀ o₁ g in
    fails_as ends _ _ _ _ _ _ e (place_behind x rest o₀ o₁ o₂ g) (λ f d. subst (λ (z : ℕ). D' z (x ++ rest) f) s (step (o₁ + length rest) f d)) (λ l. omega arith) w

-- a fault after what was taken is a fault of the whole
pub fails_behind : {E : Type 0} (ends : E → Bool) (l₀ l₁ : Option (List ℕ)) (o₀ o₁ o₂ : ℕ) (P : List ℕ → Type 0) (D D' : ℕ → List ℕ → Fault → Type 0) (e : Error E)
    → Moves l₀ l₁ o₀ o₁ P → ((stop : ℕ) (x rest : List ℕ) (f : Fault) → P x → D stop rest f → D' stop (x ++ rest) f)
    → IfKnown l₁ (λ b. FailsAt ends b o₁ o₂ D e) → IfKnown l₀ (λ b. FailsAt ends b o₀ o₂ D' e)
fails_behind ends None l₁ o₀ o₁ o₂ P D D' e t step w = tt
fails_behind ends (Some b) None o₀ o₁ o₂ P D D' e t step w = absurd t.taken
fails_behind ends (Some b) (Some rest) o₀ o₁ o₂ P D D' e t step w =
    subst (λ (z : List ℕ). FailsAt ends z o₀ o₂ D' e) (sym t.taken) (fails_over ends t.bytes rest o₀ o₁ o₂ D D' e t.grown (λ stop f d. step stop t.bytes rest f t.has d) w)

-- the same after a title that was taken
pub fails_titled : {E : Type 0} (ends : E → Bool) (l₀ l₁ : Option (List ℕ)) (o₀ o₁ o₂ : ℕ) (h : Header) (D : ℕ → List ℕ → Fault → Type 0) (e : Error E)
    → Moves l₀ l₁ o₀ o₁ (λ (b : List ℕ). Title b h) → FailsAfterTitle ends h o₀ o₁ l₁ o₂ D e → IfKnown l₀ (λ b. FailsAt ends b o₀ o₂ D e)
fails_titled ends None l₁ o₀ o₁ o₂ h D e t w = tt
fails_titled ends (Some b) None o₀ o₁ o₂ h D e t w = absurd t.taken
fails_titled ends (Some b) (Some rest) o₀ o₁ o₂ h D e t w =
    subst (λ (z : List ℕ). FailsAt ends z o₀ o₂ D e) (sym t.taken) (w t.bytes t.has (sym t.grown))

-- what a fault of `pull` tells
pub fails_pull : {E : Type 0} (ends : E → Bool) (l₀ l₁ : Option (List ℕ)) (o₀ o₁ : ℕ) (e : HeadError E) (f : Error E) → f ≡ lifted e
    → Tells ends (Ends l₀ l₁ o₀ o₁) (λ p. (p ≡ o₀) × Moves l₀ l₁ o₀ o₁ IsBadByte) (2 ^ 64 ≤ o₀ + 9) e → IfKnown l₀ (λ b. FailsAt ends b o₀ o₁ TitleDamage f)
fails_pull ends None l₁ o₀ o₁ e f i w = tt
fails_pull ends (Some b) l₁ o₀ o₁ e f i w = subst (λ (z : Error _). FailsAt ends b o₀ o₁ TitleDamage z) (sym i) (go b l₁ e w)
  where
    ended : (b : List ℕ) (l₁ : Option (List ℕ)) → Ends (Some b) l₁ o₀ o₁ → TitleDamage (o₀ + length b) b end × EndPlace b o₀ o₁
    ended [] l₁ w = (cut_title w.0, omega arith)
    ended (x ∷ xs) l₁ w = let k : o₁ ≡ o₀ + min 1 (length (x ∷ xs)) = w.1 in (cut_title w.0, omega arith)

    bad : (b : List ℕ) (l₁ : Option (List ℕ)) → Moves (Some b) l₁ o₀ o₁ IsBadByte → StartsBad b
    bad b None t = absurd t.taken
    bad b (Some r) t = let h = t.has in subst StartsBad (sym (t.taken ∙ ap (λ z. z ++ r) h.1)) h.2

    go : (b : List ℕ) (l₁ : Option (List ℕ)) (e : HeadError _) → Tells ends (Ends (Some b) l₁ o₀ o₁) (λ p. (p ≡ o₀) × Moves (Some b) l₁ o₀ o₁ IsBadByte) (2 ^ 64 ≤ o₀ + 9) e → FailsAt ends b o₀ o₁ TitleDamage (lifted e)
    go b l₁ (below.Io e) w = λ t. ended b l₁ (w t)
    go b l₁ (below.Syntax p) w = bad_title p (bad b l₁ w.1) (ap (λ z. z + length b) w.0)
    go b l₁ below.TooLong w = omega arith
    go b l₁ below.Waiting w = absurd w

-- the faults after a title, from those of the whole with any such title in front
pub behind_title : {E : Type 0} (ends : E → Bool) (h : Header) (at : ℕ) (l : Option (List ℕ)) (o o' : ℕ) (D : ℕ → List ℕ → Fault → Type 0) (e : Error E)
    → ((title : List ℕ) → Title title h → IfKnown l (λ b. FailsAt ends b o o' (λ stop b f. D stop (title ++ b) f) e)) → FailsAfterTitle ends h at o l o' D e
behind_title ends h at None o o' D e w title t g = tt
behind_title ends h at (Some b) o o' D e w title t g =
    fails_over ends title b at o o' (λ stop b f. D stop (title ++ b) f) D e (sym g) (λ stop f d. d) (w title t)
