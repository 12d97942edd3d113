use Rattle.std.proofs.Common.{refl}
use Rattle.cose_sift.proofs.Takes.{title_is, title_bad}
use Rattle.cose_sift.proofs.taking.header_of.Goals as goal

pub returns-in-Ok-clause-some : goal.returns-in-Ok-clause-some
returns-in-Ok-clause-some c = let f = c.from.ensures.0 in let w = c.from.ensures.2 in title_is c.args.title.now _ _ _ c.in-Ok.header c.requires (rw (w, f) at c.in-Ok.ensures.ok)

pub returns-in-Err-clause-none : goal.returns-in-Err-clause-none
returns-in-Err-clause-none c = let f = c.from.ensures.0 in let w = c.from.ensures.2 in title_bad _ c.args.title.now _ _ _ c.in-Err.field-0 (rw w at c.from.ensures.1) c.requires (rw (w, f) at c.in-Err.ensures.fault) (λ e. refl)
