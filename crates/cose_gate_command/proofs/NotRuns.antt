-- Why a program isn't run, and what it is run with.
use Rattle.std.proofs.Common.{◌≡◌, ℕ, List, Option, None, Some, false, refl, sym, subst, inl, inr}
use Rattle.cose_gate_command.specs.Accepted.{HasNoLines}
use Rattle.cose_gate_command.specs.Arguments.{AskArguments, PassArguments}
use Rattle.cose_gate_command.specs.Asking.{AsksNot, IsNoHexAad}
use Rattle.cose_gate_command.specs.Passing.{PassesNot, AcceptsNot}
use Rattle.cose_gate_command.specs.declared.not_run.NotRun.{NotRun}
use Rattle.cose_gate_command.specs.declared.not_run.NotRun.TheVariants as unrun

pub asks_usage : (a : Option AskArguments) → a ≡ None → AsksNot a unrun.Usage
asks_usage a e = subst (λ (z : Option AskArguments). AsksNot z unrun.Usage) (sym e) refl

pub asks_not : (a : Option AskArguments) (b : AskArguments) (why : NotRun) → a ≡ Some b → b.keys ≡ None → IsNoHexAad b.aad why → AsksNot a why
asks_not a b why e k h = subst (λ (z : Option AskArguments). AsksNot z why) (sym e) (k, h)

pub passes_usage : (a : Option PassArguments) (file : Option (List ℕ)) → a ≡ None → PassesNot a file unrun.Usage
passes_usage a file e = subst (λ (z : Option PassArguments). PassesNot z file unrun.Usage) (sym e) refl

pub passes_no_file : (a : Option PassArguments) (b : PassArguments) (file : Option (List ℕ)) → a ≡ Some b → file ≡ None → PassesNot a file unrun.NoFile
passes_no_file a b file e f =
    subst (λ (z : Option PassArguments). PassesNot z file unrun.NoFile) (sym e) (subst (λ (z : Option (List ℕ)). PassesNot (Some b) z unrun.NoFile) (sym f) refl)

both : (b : PassArguments) (bytes : List ℕ) (a : Option PassArguments) (file : Option (List ℕ)) (why : NotRun) → a ≡ Some b → file ≡ Some bytes
    → PassesNot (Some b) (Some bytes) why → PassesNot a file why
both b bytes a file why e f h =
    subst (λ (z : Option PassArguments). PassesNot z file why) (sym e) (subst (λ (z : Option (List ℕ)). PassesNot (Some b) z why) (sym f) h)

no_aad : (b : PassArguments) (bytes : List ℕ) (why : NotRun) → IsNoHexAad b.aad why → PassesNot (Some b) (Some bytes) why
no_aad b bytes unrun.NotHex h = h
no_aad b bytes unrun.Memory h = tt
no_aad b bytes unrun.Usage h = absurd h
no_aad b bytes unrun.NoFile h = absurd h
no_aad b bytes unrun.NoRecords h = absurd h
no_aad b bytes unrun.NoDigests h = absurd h
no_aad b bytes (unrun.LineNotHex n) h = absurd h
no_aad b bytes (unrun.LineNoRecord n) h = absurd h
no_aad b bytes unrun.Output h = absurd h

-- a line isn't AADHEX
abbrev IsOfAad : NotRun → Type 0
IsOfAad unrun.NotHex = Unit {0}
IsOfAad why = ⊥

no_aad_there : (bytes : List ℕ) → HasNoLines bytes unrun.NotHex → ⊥
no_aad_there bytes (inl e) = subst IsOfAad e tt
no_aad_there bytes (inr x) = x.8.2

no_records : (b : PassArguments) (bytes : List ℕ) (why : NotRun) → b.digests ≡ false → AcceptsNot bytes why → PassesNot (Some b) (Some bytes) why
no_records b bytes unrun.NotHex r h = absurd (no_aad_there bytes h.1)
no_records b bytes unrun.Memory r h = tt
no_records b bytes unrun.Usage r h = (r, h)
no_records b bytes unrun.NoFile r h = (r, h)
no_records b bytes unrun.NoRecords r h = (r, h)
no_records b bytes unrun.NoDigests r h = (r, h)
no_records b bytes (unrun.LineNotHex n) r h = (r, h)
no_records b bytes (unrun.LineNoRecord n) r h = (r, h)
no_records b bytes unrun.Output r h = (r, h)

pub passes_no_aad : (b : PassArguments) (bytes : List ℕ) (a : Option PassArguments) (file : Option (List ℕ)) (why : NotRun) → a ≡ Some b → file ≡ Some bytes → IsNoHexAad b.aad why → PassesNot a file why
passes_no_aad b bytes a file why e f h = both b bytes a file why e f (no_aad b bytes why h)

pub passes_no_records : (b : PassArguments) (bytes : List ℕ) (a : Option PassArguments) (file : Option (List ℕ)) (why : NotRun) → a ≡ Some b → file ≡ Some bytes → b.digests ≡ false → AcceptsNot bytes why
    → PassesNot a file why
passes_no_records b bytes a file why e f r h = both b bytes a file why e f (no_records b bytes why r h)
