-- A line more.
use Rattle.std.proofs.Common.{◌≡◌, ◌+◌, ◌≤◌, ℕ, List, [], ◌∷◌, ◌++◌, length, true, append_assoc, length-append, refl, sym, ap, subst, ◌∙◌, arith}
use Rattle.cose_gate_command.specs.Accepted.{is_one_line, HasRecord, Lines, more, none}

-- n lines of the front of a text, before this number and with these records
pub record Before (text rest : List ℕ) (number : ℕ) (records : List ℕ) : Type 0 where
  pub front : List ℕ
  pub n : ℕ
  pub counted : n + 1 ≡ number
  pub within : n ≤ length front
  pub lines : Lines front n records
  pub whole : text ≡ front ++ rest

pub begun : (text records : List ℕ) → records ≡ [] → Before text text 1 records
begun text records e = record { front = []; n = 0; counted = refl; within = omega arith; lines = subst (Lines [] 0) (sym e) none; whole = refl }

pub on : (text rest line after records new bytes : List ℕ) (number : ℕ) → Before text rest number records → rest ≡ line ++ 10 ∷ after → is_one_line line ≡ true → HasRecord line bytes → new ≡ records ++ bytes
    → Before text after (number + 1) new
on text rest line after records new bytes number b r o h e =
    let l = length-append b.front (line ++ 10 ∷ []) in
    let k = length-append line (10 ∷ []) in
    let w = b.within in
    record {
      front = b.front ++ (line ++ 10 ∷ []);
      n = b.n + 1;
      counted = ap (λ (k : ℕ). k + 1) b.counted;
      within = omega (arith, l, k, w);
      lines = subst (Lines (b.front ++ (line ++ 10 ∷ [])) (b.n + 1)) (sym e) (more b.front line records bytes b.n b.lines o h);
      whole = b.whole ∙ ap (λ (z : List ℕ). b.front ++ z) (r ∙ sym (append_assoc line (10 ∷ []) after)) ∙ sym (append_assoc b.front (line ++ 10 ∷ []) after);
    }
