-- What reading one item from bytes shows.
use Rattle.std.proofs.Common.{◌≡◌, ◌≢◌, ℕ, ◌+◌, ◌^◌, ◌<◌, inl, inr, List, ◌++◌, length, Bool, Option, Some, None, refl, sym, ap, subst, ◌∙◌, arith, zero-add, length-append, Bor, Result, Ok, Err}
use Rattle.std.specs.Prelude.{IsTrue, MatchResult, false}
use Rattle.std.specs.Io.KnownBytes.{Consumes}
use Rattle.ciborium_ll.specs.declared.dec.Decoder.{Decoder}
use Rattle.ciborium_ll.specs.Reading.{Moves, due}
use Rattle.ciborium_ll.specs.Views.{left_of, waiting_of, reader_of}
use Rattle.ciborium_value.specs.Tree.{Tree, tag}
use Rattle.ciborium.specs.declared.de.Error.{Error}
use Rattle.ciborium.specs.declared.de.Error.TheVariants as de
use Rattle.ciborium.specs.Front.{Reads}
use Rattle.ciborium.specs.Damage.{Fault, Damage, end, syntax, semantic, deep}
use Rattle.ciborium.specs.Reading.{FailsAt, IfKnown}
use Rattle.coset_labels.specs.Faults.{CoseFault, OrMemory, lifted, fault_of, unexpected}
use Rattle.ciborium_value.specs.Kinds.{is_tag}
use Rattle.coset_labels.specs.Limits.{nesting}
use Rattle.coset_labels.specs.Reading.{NotReadable, damaged, goes_on, HasItem, WrongItem, inside, Tagged, WrongTagged, no_tag, other_tag, under_tag}
use Rattle.coset_labels.specs.declared.error.CoseError.{CoseError}
use Rattle.coset_labels.specs.declared.error.CoseError.TheVariants as code

pub match_map : {A E : Type 0} (r : Result A E) (P Q : A → Type 0) (U W : E → Type 0) → ((x : A) → P x → Q x) → ((e : E) → U e → W e) → MatchResult r P U → MatchResult r Q W
match_map (Ok x) P Q U W f g m = f x m
match_map (Err e) P Q U W f g m = g e m

pub or_memory : (P Q : CoseFault → Type 0) (e : CoseError) → ((f : CoseFault) → P f → Q f) → OrMemory P e → OrMemory Q e
or_memory P Q e f (inl m) = inl m
or_memory P Q e f (inr p) = inr (f (fault_of e) p)

-- a decoder over a slice begins at its front
pub slice_left : (d : Decoder (Bor (List ℕ))) (s : Bor (List ℕ)) → reader_of d ≡ s → waiting_of d ≡ None → left_of (λ r. Some r.now) d ≡ Some s.now
slice_left d s p q = λ i. due (Some (p i).now) (q i)

from_front : (b : List ℕ) (limit : ℕ) (f : Fault) → Damage (0 + length b) b limit f → Damage (length b) b limit f
from_front b limit f d = subst (λ n. Damage n b limit f) (zero-add (length b)) d

not_read_at : {E : Type 0} (ends : E → Bool) (b : List ℕ) (limit o : ℕ) (e : Error E) → length b + 4096 < 2 ^ 64 → ((x : E) → IsTrue (ends x)) → FailsAt ends b 0 o (λ stop b f. Damage stop b limit f) e
    → OrMemory (NotReadable b limit) (lifted e)
not_read_at ends b limit o (de.Io x) s t w = inr (damaged end (from_front b limit end (w (t x)).0))
not_read_at ends b limit o (de.Syntax p) s t w = inr (damaged (syntax p) (from_front b limit (syntax p) w))
not_read_at ends b limit o (de.Semantic None k) s t w = inr (damaged (semantic k) (from_front b limit (semantic k) w.1))
not_read_at ends b limit o (de.Semantic (Some p) k) s t w = let e : Some p ≡ None = w.0 in cc
not_read_at ends b limit o de.RecursionLimitExceeded s t w = inr (damaged deep (from_front b limit deep w))
not_read_at ends b limit o de.Memory s t w = inl refl
not_read_at ends b limit o de.TooLong s t w = absurd (omega (arith, w, s))

pub not_read : {E : Type 0} (ends : E → Bool) (l : Option (List ℕ)) (b : List ℕ) (limit o o' : ℕ) (e : Error E) → length b + 4096 < 2 ^ 64 → l ≡ Some b → o ≡ 0 → ((x : E) → IsTrue (ends x))
    → IfKnown l (λ b. FailsAt ends b o o' (λ stop b f. Damage stop b limit f) e) → OrMemory (NotReadable b limit) (lifted e)
not_read ends l b limit o o' e s p q t w =
    not_read_at ends b limit o' e s t
    (subst (λ z. FailsAt ends b z o' (λ stop b f. Damage stop b limit f) e) q (subst (λ z. IfKnown z (λ b. FailsAt ends b o o' (λ stop b f. Damage stop b limit f) e)) p w))

behind_known : (m : Option (List ℕ)) (b x : List ℕ) (limit n : ℕ) (v : Tree) → Reads x limit v → Consumes (Some b) m x → n ≡ 0 + length x → n < length b → NotReadable b limit (fault_of code.ExtraneousData)
behind_known None b x limit n v r t g h = absurd t
behind_known (Some rest) b x limit n v r t g h = goes_on v rest (record { spelling = x; whole = t; reads = r }) (λ e.
    let m : length b ≡ length (x ++ rest) = ap length t in
    let k : length (x ++ rest) ≡ length x + length rest = length-append x rest in
    let z : length rest ≡ 0 = ap length e in
    absurd (omega arith))

pub behind : (l m : Option (List ℕ)) (b : List ℕ) (limit o o' n : ℕ) (v : Tree) → l ≡ Some b → o ≡ 0 → Moves l m o o' (λ b. Reads b limit v) → n ≡ o' → n < length b → OrMemory (NotReadable b limit) code.ExtraneousData
behind l m b limit o o' n v p q t r h =
    inr (behind_known m b t.bytes limit n v t.has (subst (λ z. Consumes z m t.bytes) p t.taken) (r ∙ t.grown ∙ ap (λ z. z + length t.bytes) q) h)

-- the tag over what has the fields
pub tagged_has : {F : Type 0} (Shape : Tree → F → Type 0) (b : List ℕ) (n m : ℕ) (v u w : Tree) (f : F) → Reads b nesting v → v ≡ tag m u → m ≡ n → w ≡ u → Shape w f → HasItem (Tagged n Shape) b f
tagged_has Shape b n m v u w f r e q h s = record { tree = v; reads = r; shape = (u, e ∙ ap (λ z. tag z u) q, subst (λ z. Shape z f) h s) }

pub tagged_wrong : (Wrong : Tree → CoseFault → Type 0) (b : List ℕ) (n m : ℕ) (v u w : Tree) (e : CoseError) → Reads b nesting v → v ≡ tag m u → m ≡ n → w ≡ u → OrMemory (Wrong w) e → OrMemory (WrongItem (WrongTagged n Wrong) b) e
tagged_wrong Wrong b n m v u w e r q h s x = or_memory (Wrong w) (WrongItem (WrongTagged n Wrong) b) e (λ f y. inside v r (under_tag u f (q ∙ ap (λ z. tag z u) h) (subst (λ z. Wrong z f) s y))) x

pub tag_missing : (Wrong : Tree → CoseFault → Type 0) (b : List ℕ) (n : ℕ) (v : Tree) (e : CoseError) → Reads b nesting v → (fault_of e ≡ unexpected) × (is_tag v ≡ false) → OrMemory (WrongItem (WrongTagged n Wrong) b) e
tag_missing Wrong b n v e r p = inr (inside v r (subst (WrongTagged n Wrong v) (sym p.0) (no_tag p.1)))

pub tag_other : (Wrong : Tree → CoseFault → Type 0) (b : List ℕ) (n m : ℕ) (v u : Tree) → Reads b nesting v → v ≡ tag m u → m ≢ n → WrongItem (WrongTagged n Wrong) b unexpected
tag_other Wrong b n m v u r e h = inside v r (other_tag m u e h)
