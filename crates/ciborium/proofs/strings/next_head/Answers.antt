use Rattle.std.proofs.Common.{rules, subst}
use Rattle.std.proofs.lemmas.Result.{err_from_is_err_and}
use Rattle.ciborium_ll.specs.declared.dec.Decoder.{Decoder}
use Rattle.ciborium_ll.specs.Views.{seen}
use Rattle.ciborium.specs.Damage.{TitleDamage}
use Rattle.ciborium.specs.Reading.{NamesFault}
use Rattle.ciborium.proofs.Taking.{fails_pull}
use Rattle.ciborium.proofs.strings.next_head.Goals as goal

pub returns-in_err-pull_head-clause-err : goal.returns-in_err-pull_head-clause-err
returns-in_err-pull_head-clause-err g c =
    let p = err_from_is_err_and c.from_residual.result c.from_residual.ensures.1 in
    let same = c.take_head.ensures.none (search rules) in
    rw p.1 (subst (λ (d : Decoder _). NamesFault g.R.Read.ends TitleDamage (seen g.R.Read d) (seen g.R.Read c.pull_head.new.self) p.0) same
    (fails_pull g.R.Read.ends _ _ _ _ _ p.0 p.2 c.in_err-pull_head.ensures.fault))
