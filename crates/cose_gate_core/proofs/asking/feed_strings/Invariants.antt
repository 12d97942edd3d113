use Rattle.std.proofs.Common.{◌≡◌, ℕ, List, ◌++◌, drop}
use Rattle.std.specs.List.{flat_map}
use Rattle.coset_base.specs.Structure.{byte_string}
use Rattle.cose_gate_core.specs.Questions.{Subject}
use Rattle.cose_gate_core.proofs.asking.feed_strings.Given as goal

abbrev pub invariant-loop-string : goal.invariant-loop-string
invariant-loop-string g l =
    let j = g.J.Judge in
    record {
      who : j.who l.judge ≡ j.who l.fn.judge;
      told : j.told l.judge ≡ j.told l.fn.judge;
      holds : (subject : Subject) (fed : List ℕ) → j.holds l.fn.judge subject fed
          → (so_far : List ℕ) × j.holds l.judge subject so_far
          × (so_far ++ flat_map byte_string (drop l.string-index l.strings) ≡ fed ++ flat_map byte_string l.strings);
    }
