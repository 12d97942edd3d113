-- What was copied of a payload that may be cut.
use Rattle.std.proofs.Common.{◌≡◌, ◌+◌, ℕ, List, length, Option, None, Some, refl, sym, subst, arith}
use Rattle.std.specs.Prelude.{Result}
use Rattle.std.specs.Io.KnownBytes.{Consumes}
use Rattle.ciborium_ll.specs.declared.hdr.Header.TheVariants.{Bytes}
use Rattle.ciborium_ll.specs.declared.write.Write.{Ghosts as Writes}
use Rattle.ciborium_ll.specs.Reading.{Moves, Starts}
use Rattle.ciborium_ll.specs.Title.{Title}
use Rattle.ciborium_value.specs.Tree.{Tree, no_trees, one_more}
use Rattle.ciborium.specs.Reading.{IfKnown}
use Rattle.cose_gate_core.specs.Findings.{Bounds}
use Rattle.cose_gate_core.specs.Questions.{Subject}
use Rattle.cose_gate.specs.declared.form.Form.{Form}
use Rattle.cose_gate.specs.ElementFaults.{CopiedNext}
use Rattle.cose_gate.specs.Opening.{IsProtected, IsHeaderItem, RightUpTo, BeginsPayload}
use Rattle.cose_gate.specs.Streaming.{WritesAll, CopiedPart, part_copied}
use Rattle.cose_gate.proofs.Fed.{Fed}
use Rattle.cose_gate.proofs.Whole.{Within}
use Rattle.cose_gate.proofs.Wrong.{right_up_to}

starts : (l l' : Option (List ℕ)) (b : List ℕ) → Consumes l l' b → Starts l b
starts None l' b t = tt
starts (Some x) None b t = absurd t
starts (Some x) (Some y) b t = (y, t)

module _ {W F : Type 0} (w : Writes W F) where
  -- the pieces that were fed were written
  pub copied_next : {J : Type 0} (holds : J → Subject → List ℕ → Type 0) (a b : J) (old new : W) (answer : Result (Unit {0}) F) (size due : ℕ) (l₀ l₁ : Option (List ℕ)) (o₀ o₁ : ℕ)
      → Moves l₀ l₁ o₀ o₁ (Fed holds a b (WritesAll w old new answer) size due) → CopiedNext w old new l₀ size
  copied_next holds a b old new answer size due l₀ l₁ o₀ o₁ t =
      let n : length t.bytes + due ≡ size = t.has.0 in
      record { answer = answer; text = t.bytes; written = t.has.1.1; next = starts l₀ l₁ t.bytes t.taken; fits = omega (arith, n) }

  -- behind the headers and the title in the payload's place
  pub copied_part : (limits : Bounds) (f : Form) (o : Option ℕ) (a b : Tree) → IsProtected limits a → IsHeaderItem limits b → (size : ℕ) (l₀ l₁ l₂ : Option (List ℕ)) (o₀ o₁ o₂ : ℕ) (old new : W)
      → Moves l₀ l₁ o₀ o₁ (Within limits f o (one_more a (one_more b no_trees))) → Moves l₁ l₂ o₁ o₂ (λ (x : List ℕ). Title x (Bytes (Some size)))
      → CopiedNext w old new l₂ size → CopiedPart limits w old new l₀
  copied_part limits f o a b first second size l₀ l₁ l₂ o₀ o₁ o₂ old new t s c = part_copied c.answer c.text c.written (place l₀ l₁ l₂ t s c.next)
    where
      place : (l₀ l₁ l₂ : Option (List ℕ)) → Moves l₀ l₁ o₀ o₁ (Within limits f o (one_more a (one_more b no_trees))) → Moves l₁ l₂ o₁ o₂ (λ (x : List ℕ). Title x (Bytes (Some size)))
          → Starts l₂ c.text → IfKnown l₀ (λ b. BeginsPayload limits b c.text)
      place None l₁ l₂ t s h = tt
      place (Some x) None l₂ t s h = absurd t.taken
      place (Some x) (Some y) None t s h = absurd s.taken
      place (Some x) (Some y) (Some z) t s h = record {
        size = size;
        opening = record {
          headers = one_more a (one_more b no_trees);
          third = y;
          behind = z;
          right = subst (λ (q : List ℕ). RightUpTo limits q (one_more a (one_more b no_trees)) y) (sym t.taken) (right_up_to limits f o (one_more a (one_more b no_trees)) t.bytes y t.has (first, second, tt));
          are_two = refl;
          title = record { title = s.bytes; is_title = s.has; whole = s.taken };
        };
        rest = h.0;
        follows = h.1;
        fits = c.fits;
      }
