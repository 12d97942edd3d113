-- What a writer was written if no fault of it is heeded.
use Rattle.std.specs.Prelude.{◌≡◌, ◌≤◌, ℕ, List, [], ◌∷◌, ◌++◌, Option, Some, None, Bool, true, false}
use Rattle.std.specs.Coded.{×_prop, →_prop, Unit-prop, le_prop, Coded-set, coded_list, coded_ℕ}
use Rattle.std.specs.Io.KnownBytes.{Appends}
use Rattle.ciborium_ll.specs.declared.write.Write.{Ghosts as Writes}
use Rattle.ciborium_ll.specs.declared.log.Log.{Log}
use Rattle.cose_gate_program.specs.Lines.{lines_of}
use Rattle.cose_gate_program.specs.declared.telling.Notice.{Notice}
use Rattle.cose_gate_program.specs.declared.telling.Notice.TheVariants as notice

-- a writer was written this text: it holds the text after what it held, unless it failed
abbrev pub Wrote : {W F : Type 0} → Writes W F → W → W → List ℕ → Type 0
Wrote w old new text =
    (w.handle new ≡ w.handle old) × ((w.failed old ≤ w.failed new)
    × (w.failed new ≡ w.failed old → Appends (w.written old) (w.written new) text))

-- the same of the first of a log of a writer
abbrev pub WroteSince : {W F : Type 0} → Writes W F → List W → W → List ℕ → Type 0
WroteSince w [] new text = Unit {0}
WroteSince w (old ∷ more) new text = Wrote w old new text

Appends-prop : (old new : Option (List ℕ)) (text : List ℕ) → IsProp (Appends old new text)
Appends-prop None new text = Unit-prop
Appends-prop (Some xs) None text = λ p. absurd p
Appends-prop (Some xs) (Some ys) text = Coded-set (coded_list coded_ℕ) ys (xs ++ text)

Wrote-prop : {W F : Type 0} (w : Writes W F) (old new : W) (text : List ℕ)
    → IsProp (Wrote w old new text)
Wrote-prop w old new text =
    ×_prop (Coded-set (coded_list coded_ℕ) (w.handle new) (w.handle old))
    (×_prop le_prop (→_prop (Appends-prop (w.written old) (w.written new) text)))

pub WroteSince-prop : {W F : Type 0} (w : Writes W F) (begun : List W) (new : W) (text : List ℕ)
    → IsProp (WroteSince w begun new text)
WroteSince-prop w [] new text = Unit-prop
WroteSince-prop w (old ∷ more) new text = Wrote-prop w old new text

-- the lines of what was told were written since a writer was as in a log
abbrev pub WroteLines : {W F : Type 0} → Writes W F → Log W → W → Log Notice → Type 0
WroteLines w begun now told = WroteSince w begun.items now (lines_of told.items)

pub WroteLines-prop : {W F : Type 0} (w : Writes W F) (begun : Log W) (now : W) (told : Log Notice)
    → IsProp (WroteLines w begun now told)
WroteLines-prop w begun now told = WroteSince-prop w begun.items now (lines_of told.items)

-- a writer holds nothing back, unless it has failed
abbrev pub HandedOn : {W F : Type 0} → Writes W F → W → W → Type 0
HandedOn w old new = w.failed new ≡ w.failed old → w.held new ≡ []

-- a notice that is the last of a run
abbrev pub is_last : Notice → Bool
is_last (notice.Item e) = false
is_last e = true

abbrev pub is_over : List Notice → Bool
is_over [] = false
is_over (n ∷ []) = is_last n
is_over (n ∷ m ∷ more) = is_over (m ∷ more)

-- once the last notice of a run was told, a writer holds nothing back since it was the first of a
-- log, unless it has failed
abbrev pub HandedSince : {W F : Type 0} → Writes W F → List W → W → List Notice → Type 0
HandedSince w [] new told = Unit {0}
HandedSince w (old ∷ more) new told = is_over told ≡ true → HandedOn w old new

pub HandedSince-prop : {W F : Type 0} (w : Writes W F) (begun : List W) (new : W)
    (told : List Notice) → IsProp (HandedSince w begun new told)
HandedSince-prop w [] new told = Unit-prop
HandedSince-prop w (old ∷ more) new told =
    →_prop (→_prop (Coded-set (coded_list coded_ℕ) (w.held new) []))

-- lines on a writer that is lent: what the writer was at first, and what was told since
pub record LentLines (W : Type 0) : Type 0 where
  pub name : ℕ
  pub begun : List W
  pub told : List Notice
