use Rattle.std.proofs.Common.{◌-◌, ap}
use Rattle.ciborium_ll.specs.Views.{seen}
use Rattle.ciborium_value.specs.Tree.{array}
use Rattle.cose_gate_core.specs.Terms.{limits_of}
use Rattle.cose_gate_core.proofs.Exactly.{told_lax}
use Rattle.cose_gate_core.proofs.InOrder.{err_is}
use Rattle.cose_gate_core.proofs.Passed.{four_unread, four_passed, four_stopped}
use Rattle.cose_gate_core.proofs.gating.pass_four.Goals as goal

pub returns-in_err-read-clause-ran : goal.returns-in_err-read-clause-ran
returns-in_err-read-clause-ran g c =
    rw (err_is _ _ c.from_residual.ensures.1) (λ start which t. four_unread g.R.Read.ends _ _ start (seen g.R.Read c.args.decoder.now) (seen g.R.Read c.walk.new.decoder) _ _ (ap (λ z. z - 2) c.nesting-nesting.ensures.chosen) which t _ _ c.in_err-read.ensures.read)

pub pass_read-requires : goal.pass_read-requires
pass_read-requires g c = (array c.in_ok-read.ensures.read.ok.has.0, c.in_ok-read.ensures.read.ok.has.3)

pub returns-in_err-verdict-clause-ran : goal.returns-in_err-verdict-clause-ran
returns-in_err-verdict-clause-ran g c =
    rw (err_is _ _ c.from_residual-in_err-verdict.ensures.1) (λ start which t. four_stopped g.R.Read.ends _ _ start (seen g.R.Read c.args.decoder.now) (seen g.R.Read c.walk.new.decoder) _ _ _ (ap (λ z. z - 2) c.nesting-nesting.ensures.chosen) which t _ _ _ c.in_ok-read.ensures.read
    (λ b u ts e p. c.in_err-verdict.ensures.handled b u (rw e p) (told_lax (limits_of c.args.item.terms) b (g.M.Message.message c.walk.new.self) _ c.requires.lax)))

pub returns-clause-ran : goal.returns-clause-ran
returns-clause-ran g c = λ start which t. four_passed g.R.Read.ends _ _ start (seen g.R.Read c.args.decoder.now) (seen g.R.Read c.walk.new.decoder) _ _ _ (ap (λ z. z - 2) c.nesting-nesting.ensures.chosen) which t _ _ _ c.in_ok-read.ensures.read
    (λ b u ts e p. c.in_ok-verdict.ensures.handled b u (rw e p) (told_lax (limits_of c.args.item.terms) b (g.M.Message.message c.walk.new.self) _ c.requires.lax))
