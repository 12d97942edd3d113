-- What the lines in a buffer are, as they were told.
use Rattle.std.proofs.Common.{◌≡◌, ℕ, List, [], ◌∷◌, ◌++◌, refl, sym, ap, subst, ◌∙◌, append-nil, append_assoc}
use Rattle.std.proofs.lemmas.Grind.{flat_map-append}
use Rattle.cose_gate_core.specs.Asked.{folded_over}
use Rattle.cose_gate_program.specs.Lines.{line_of, lines_of}
use Rattle.cose_gate_program.specs.declared.telling.Notice.{Notice}
use Rattle.cose_gate_program.proofs.Tellings.{folded_then}
use Rattle.cose_gate_records.specs.Lines.{IsShown, counted, stopped, AreLinesWithLast, AreLinesThenMemory, LineLog}

abbrev says : LineLog → Notice → LineLog
says s notice = record { name = s.name; text = s.text ++ line_of notice; last = counted s.text }

name_over : (s : LineLog) (ns : List Notice) → (folded_over says s ns).name ≡ s.name
name_over s [] = refl
name_over s (n ∷ ns) = name_over (says s n) ns

text_over : (s : LineLog) (ns : List Notice) → (folded_over says s ns).text ≡ s.text ++ lines_of ns
text_over s [] = sym (append-nil s.text)
text_over s (n ∷ ns) = text_over (says s n) ns ∙ append_assoc s.text (line_of n) (lines_of ns)

last_line : (s : LineLog) (done : List Notice) (last : Notice) → (folded_over says s (done ++ last ∷ [])).last ≡ counted (s.text ++ lines_of done)
last_line s done last = ap (λ (z : LineLog). z.last) (folded_then says s done last) ∙ ap counted (text_over s done)

module _ (s s' : LineLog) (ns : List Notice) (e : s' ≡ folded_over says s ns) where
  -- they are in the same buffer
  pub same_buffer : s'.name ≡ s.name
  same_buffer = ap (λ (z : LineLog). z.name) e ∙ name_over s ns

  -- all of their text
  pub all_told : s.text ≡ [] → s'.text ≡ lines_of ns
  all_told none = ap (λ (z : LineLog). z.text) e ∙ (text_over s ns ∙ ap (λ (z : List ℕ). z ++ lines_of ns) none)

  -- where the last one begins
  pub last_told : s.text ≡ [] → (done : List Notice) (last : Notice) → ns ≡ done ++ last ∷ [] → s'.last ≡ counted (lines_of done)
  last_told none done last parts =
      ap (λ (z : LineLog). z.last) (e ∙ ap (folded_over says s) parts)
      ∙ (last_line s done last ∙ ap (λ (z : List ℕ). counted (z ++ lines_of done)) none)

-- the last line was replaced
pub cut_last : (old new : List ℕ) (last end count : ℕ) (ns : List Notice) (n : Notice) → AreLinesWithLast old last end (ns ++ n ∷ [])
    → ((before rest : List ℕ) → last ≡ counted before → IsShown (before ++ rest) old → IsShown (before ++ stopped) new)
    → ((before : List ℕ) → last ≡ counted before → count ≡ counted (before ++ stopped)) → AreLinesThenMemory new count (ns ++ n ∷ [])
cut_last old new last end count ns n held shown all =
    let at : last ≡ counted (lines_of ns) = held.1 ns n refl in
    let there : IsShown (lines_of ns ++ lines_of (n ∷ [])) old = subst (λ (z : List ℕ). IsShown z old) (flat_map-append line_of ns (n ∷ [])) held.0.0 in
    (ns, n, refl, (shown (lines_of ns) (lines_of (n ∷ [])) at there, all (lines_of ns) at))
