-- What lines on a writer wrote, as they were told.
use Rattle.std.proofs.Common.{◌≡◌, ℕ, List, [], ◌∷◌, ◌++◌, sym, ap, subst, ◌∙◌, append-nil, append_assoc}
use Rattle.ciborium_ll.specs.declared.write.Write.{Ghosts as Writes}
use Rattle.cose_gate_core.specs.Asked.{folded_over}
use Rattle.cose_gate_program.specs.Lines.{line_of, lines_of}
use Rattle.cose_gate_program.specs.Writing.{Wrote, WroteSince, LentLines}
use Rattle.cose_gate_program.specs.declared.telling.Notice.{Notice}

abbrev pub speaks : {W : Type 0} → LentLines W → Notice → LentLines W
speaks s notice = record s { told = s.told ++ notice ∷ [] }

pub spoken_over : {W : Type 0} (s : LentLines W) (ns : List Notice) → folded_over speaks s ns ≡ record s { told = s.told ++ ns }
spoken_over s [] = ap (λ (z : List Notice). record s { told = z }) (sym (append-nil s.told))
spoken_over s (n ∷ ns) = spoken_over (speaks s n) ns ∙ ap (λ (z : List Notice). record s { told = z }) (append_assoc s.told (n ∷ []) ns)

-- lines that were told these on a writer that was `first`
pub spoke : {W F : Type 0} (w : Writes W F) (s s' : LentLines W) (ns : List Notice) (first now : W)
    → s' ≡ folded_over speaks s ns → s.begun ≡ first ∷ [] → s.told ≡ [] → WroteSince w s'.begun now (lines_of s'.told)
    → Wrote w first now (lines_of ns)
spoke w s s' ns first now e begun none wrote =
    let is : s' ≡ record s { told = s.told ++ ns } = e ∙ spoken_over s ns in
    let told : s'.told ≡ ns = ap (λ (z : LentLines _). z.told) is ∙ ap (λ (z : List Notice). z ++ ns) none in
    let since : s'.begun ≡ first ∷ [] = ap (λ (z : LentLines _). z.begun) is ∙ begun in
    let all : WroteSince w s'.begun now (lines_of ns) = subst (λ (z : List Notice). WroteSince w s'.begun now (lines_of z)) told wrote in
    subst (λ (z : List _). WroteSince w z now (lines_of ns)) since all

-- they are on the same writer
pub same_writer : {W : Type 0} (s s' : LentLines W) (ns : List Notice) → s' ≡ folded_over speaks s ns → s'.name ≡ s.name
same_writer s s' ns e = ap (λ (z : LentLines _). z.name) (e ∙ spoken_over s ns)

-- one line
pub wrote_one : {W F : Type 0} (w : Writes W F) (old new : W) (n : Notice) → Wrote w old new (line_of n) → Wrote w old new (lines_of (n ∷ []))
wrote_one w old new n h = subst (λ (z : List ℕ). Wrote w old new z) (sym (append-nil (line_of n))) h
