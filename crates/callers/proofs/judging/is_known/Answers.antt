use Rattle.std.proofs.Common.{rules, List, ℕ}
use Rattle.std.specs.Str.{bytes_eq}
use Rattle.callers.proofs.Ids.{list_any-map}
use Rattle.callers.proofs.judging.is_known.Goals as goal

pub returns-then-not-is_empty : goal.returns-then-not-is_empty
returns-then-not-is_empty c = let e = list_any-map (λ (known : List ℕ). bytes_eq known c.args.id.now) (λ known. known.now) c.args.ids.now in rw e (search rules)
