use Rattle.ciborium_ll.specs.Views.{seen, last_head}
use Rattle.ciborium_value.specs.View.{view}
use Rattle.ciborium.specs.Front.{Reads, HoldsOne}
use Rattle.ciborium.specs.Reading.{ReadsAfterTitle, OneAfterTitle}
use Rattle.ciborium.proofs.ReadLemmas.{item_title_fails}
use Rattle.ciborium.proofs.Taking.{takes_then}
use Rattle.ciborium.proofs.FrontLemmas.{ok_as, leaves_then}
use Rattle.ciborium.proofs.Passing.{passed_on}
use Rattle.ciborium.proofs.frames.read_next.Goals as goal

pub returns-in_err-next_head-clause-err : goal.returns-in_err-next_head-clause-err
returns-in_err-next_head-clause-err g c =
    passed_on _ _ c.from_residual.ensures.1 (item_title_fails g.R.Read.ends _ _ _ _ _ c.in_err-next_head.ensures.err)

pub returns-clause-ok : goal.returns-clause-ok
returns-clause-ok g c =
    ok_as c.read_headed.result _ _ (λ v t. takes_then _ _ _ _ _ _ _ (ReadsAfterTitle (last_head c.next_head.new.decoder) c.args.limit (view v)) (λ b. Reads b c.args.limit (view v)) c.in_ok-next_head.ensures.ok t (λ x y p r. r x p.0)) c.read_headed.ensures.ok

pub returns-clause-leaves : goal.returns-clause-leaves
returns-clause-leaves g c =
    leaves_then g.R.Read.ends _ (OneAfterTitle (last_head c.next_head.new.decoder)) HoldsOne c.read_headed.result _ (seen g.R.Read c.args.decoder.now) (seen g.R.Read c.next_head.new.decoder) (seen g.R.Read c.read_headed.new.decoder)
    c.in_ok-next_head.ensures.ok c.in_ok-next_head.ensures.steady (λ x y p one. one x p.0) c.read_headed.ensures.leaves
