use Rattle.std.proofs.Common.{subst}
use Rattle.ciborium_ll.specs.declared.hdr.Header.TheVariants.{Tag}
use Rattle.ciborium_ll.specs.Title.{Title}
use Rattle.ciborium_ll.specs.Views.{seen}
use Rattle.ciborium.specs.Front.{HoldsOne}
use Rattle.ciborium.specs.Fronts.{IsFront, IsTagged}
use Rattle.ciborium.proofs.ReadLemmas.{item_title_fails}
use Rattle.ciborium.proofs.Taking.{takes_as, takes_then}
use Rattle.ciborium.proofs.Halting.{some_then, memory_then}
use Rattle.ciborium.proofs.TagLemmas.{tag_fails}
use Rattle.ciborium.proofs.TurnLemmas.{item_fails}
use Rattle.ciborium.proofs.OneItem.{tag_one}
use Rattle.ciborium.proofs.FrontLemmas.{ok_as, err_as, front_read}
use Rattle.ciborium.proofs.Passing.{passed_on}
use Rattle.ciborium.proofs.frames.read_front.Goals as goal

pub returns-in_err-next_head-clause-err : goal.returns-in_err-next_head-clause-err
returns-in_err-next_head-clause-err g c =
    passed_on _ _ c.from_residual.ensures.1 (item_title_fails g.R.Read.ends _ _ _ _ _ c.in_err-next_head.ensures.err)

pub returns-in_err-value-in-None-clause-stops : goal.returns-in_err-value-in-None-clause-stops
returns-in_err-value-in-None-clause-stops g c =
    passed_on _ _ c.from_residual-in_err-value-in-None.ensures.1 (some_then _ _ _ c.in_ok-next_head.ensures.ok c.in_err-value-in-None.ensures.leaves.stops)

pub returns-in_err-value-in-None-clause-one : goal.returns-in_err-value-in-None-clause-one
returns-in_err-value-in-None-clause-one g c =
    passed_on _ _ c.from_residual-in_err-value-in-None.ensures.1 (memory_then _ _ _ _ _ _ _ _ _ _ c.in_ok-next_head.ensures.ok (λ x y p one. one x p.0) c.in_err-value-in-None.ensures.leaves.one)

pub returns-in-Some-clause-ok : goal.returns-in-Some-clause-ok
returns-in-Some-clause-ok g c =
    ok_as c.read_tagged.result _ _ (λ f t. takes_then _ _ _ _ _ _ _ (IsTagged c.in-Some.n c.args.limit f) (IsFront c.args.limit f) c.in_ok-next_head.ensures.ok t
    (λ x y p r. front_read c.in-Some.n c.args.limit f x y c.in-Some.ensures.1 (subst (Title x) c.in-Some.ensures.0 p.0) r)) c.read_tagged.ensures.ok

pub returns-in-Some-clause-err : goal.returns-in-Some-clause-err
returns-in-Some-clause-err g c =
    err_as c.read_tagged.result _ _ (λ e w. item_fails g.R.Read.ends (Tag c.in-Some.n) c.offset-at.result c.args.limit (seen g.R.Read c.args.decoder.now) (seen g.R.Read c.next_head.new.decoder) (seen g.R.Read c.read_tagged.new.decoder) e c.offset-at.ensures
    (takes_as _ _ _ _ _ _ c.in_ok-next_head.ensures.ok (λ x p. subst (Title x) c.in-Some.ensures.0 p.0)) (tag_fails g.R.Read.ends c.in-Some.n c.offset-at.result c.args.limit _ _ _ e w)) c.read_tagged.ensures.err

pub returns-in-Some-clause-stops : goal.returns-in-Some-clause-stops
returns-in-Some-clause-stops g c =
    err_as c.read_tagged.result _ _ (λ e w. some_then _ _ e c.in_ok-next_head.ensures.ok w) c.read_tagged.ensures.leaves.stops

pub returns-in-Some-clause-one : goal.returns-in-Some-clause-one
returns-in-Some-clause-one g c =
    err_as c.read_tagged.result _ _ (λ e w. memory_then _ _ _ _ _ _ _ HoldsOne HoldsOne e c.in_ok-next_head.ensures.ok (λ x y p one. tag_one c.in-Some.n x y (subst (Title x) c.in-Some.ensures.0 p.0) one) w) c.read_tagged.ensures.leaves.one

pub returns-in_ok-value-in-None-clause-ok : goal.returns-in_ok-value-in-None-clause-ok
returns-in_ok-value-in-None-clause-ok g c =
    takes_then _ _ _ _ _ _ _ _ _ c.in_ok-next_head.ensures.ok c.in_ok-value-in-None.ensures.ok (λ x y p r. r x p.0)
