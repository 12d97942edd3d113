use Rattle.std.proofs.Common.{◌≡◌, ◌++◌, flat_map, take}
use Rattle.cose_ruled.proofs.questions.append_all.Given as goal

abbrev pub invariant-loop-piece : goal.invariant-loop-piece
invariant-loop-piece l = l.text.items ≡ l.initial.text.items ++ flat_map (λ v. v.items) (take l.piece-index l.texts)
