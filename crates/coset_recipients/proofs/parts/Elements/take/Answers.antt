use Rattle.std.proofs.Common.{refl, arith}
use Rattle.ciborium_ll.specs.Views.{seen}
use Rattle.ciborium_value.specs.Tree.{no_trees, one_more}
use Rattle.ciborium_value.specs.View.{view}
use Rattle.ciborium.proofs.FrontLemmas.{none_read, more_read, four_stops, four_all}
use Rattle.coset_recipients.proofs.ElementSteps.{second_taken}
use Rattle.coset_recipients.proofs.parts.Elements.take.Goals as goal

pub returns-in_err-protected-clause-read : goal.returns-in_err-protected-clause-read
returns-in_err-protected-clause-read g c =
    four_stops g.R.Read.ends c.args.limit _ no_trees (seen g.R.Read c.args.decoder.now) (seen g.R.Read c.args.decoder.now) (seen g.R.Read c.read_next.new.decoder) _ _ c.from_residual.ensures.1 (omega arith) (none_read c.args.limit _ _) c.in_err-protected.ensures.err c.in_err-protected.ensures.leaves.stops c.in_err-protected.ensures.leaves.one

pub returns-in_err-read-clause-read : goal.returns-in_err-read-clause-read
returns-in_err-read-clause-read g c =
    four_stops g.R.Read.ends c.args.limit _ (one_more (view c.in_ok-protected.protected) no_trees) (seen g.R.Read c.args.decoder.now) (seen g.R.Read c.read_next.new.decoder) (seen g.R.Read c.walk.new.decoder) _ _ c.from_residual-in_err-read.ensures.1 (omega arith) (more_read c.args.limit no_trees (view c.in_ok-protected.protected) _ _ _ _ _ _ (none_read c.args.limit _ _) c.in_ok-protected.ensures.ok) c.in_err-read.ensures.read.err c.in_err-read.ensures.read.stops c.in_err-read.ensures.read.one

pub returns-in_err-content-clause-read : goal.returns-in_err-content-clause-read
returns-in_err-content-clause-read g c =
    four_stops g.R.Read.ends c.args.limit _ (one_more (view c.in_ok-protected.protected) (one_more c.in_ok-read.ensures.read.ok.has.0 no_trees)) (seen g.R.Read c.args.decoder.now) (seen g.R.Read c.walk.new.decoder) (seen g.R.Read c.read_next-2.new.decoder) _ _ c.from_residual-in_err-content.ensures.1 (omega arith) (more_read c.args.limit (one_more (view c.in_ok-protected.protected) no_trees) c.in_ok-read.ensures.read.ok.has.0 _ _ _ _ _ _ (more_read c.args.limit no_trees (view c.in_ok-protected.protected) _ _ _ _ _ _ (none_read c.args.limit _ _) c.in_ok-protected.ensures.ok) (second_taken _ _ c.args.limit _ _ _ _ _ _ c.in_ok-read.ensures.read.ok)) c.in_err-content.ensures.err c.in_err-content.ensures.leaves.stops c.in_err-content.ensures.leaves.one

pub returns-in_err-last-clause-read : goal.returns-in_err-last-clause-read
returns-in_err-last-clause-read g c =
    four_stops g.R.Read.ends c.args.limit _ (one_more (view c.in_ok-protected.protected) (one_more c.in_ok-read.ensures.read.ok.has.0 (one_more (view c.in_ok-content.content) no_trees))) (seen g.R.Read c.args.decoder.now) (seen g.R.Read c.read_next-2.new.decoder) (seen g.R.Read c.read_next-3.new.decoder) _ _ c.from_residual-in_err-last.ensures.1 (omega arith) (more_read c.args.limit (one_more (view c.in_ok-protected.protected) (one_more c.in_ok-read.ensures.read.ok.has.0 no_trees)) (view c.in_ok-content.content) _ _ _ _ _ _ (more_read c.args.limit (one_more (view c.in_ok-protected.protected) no_trees) c.in_ok-read.ensures.read.ok.has.0 _ _ _ _ _ _ (more_read c.args.limit no_trees (view c.in_ok-protected.protected) _ _ _ _ _ _ (none_read c.args.limit _ _) c.in_ok-protected.ensures.ok) (second_taken _ _ c.args.limit _ _ _ _ _ _ c.in_ok-read.ensures.read.ok)) c.in_ok-content.ensures.ok) c.in_err-last.ensures.err c.in_err-last.ensures.leaves.stops c.in_err-last.ensures.leaves.one

pub returns-clause-read : goal.returns-clause-read
returns-clause-read g c =
    four_all g.R.Read.ends c.args.limit _ (one_more (view c.in_ok-protected.protected) (one_more c.in_ok-read.ensures.read.ok.has.0 (one_more (view c.in_ok-content.content) (one_more (view c.in_ok-last.last) no_trees)))) (seen g.R.Read c.args.decoder.now) (seen g.R.Read c.read_next-3.new.decoder) _ (more_read c.args.limit (one_more (view c.in_ok-protected.protected) (one_more c.in_ok-read.ensures.read.ok.has.0 (one_more (view c.in_ok-content.content) no_trees))) (view c.in_ok-last.last) _ _ _ _ _ _ (more_read c.args.limit (one_more (view c.in_ok-protected.protected) (one_more c.in_ok-read.ensures.read.ok.has.0 no_trees)) (view c.in_ok-content.content) _ _ _ _ _ _ (more_read c.args.limit (one_more (view c.in_ok-protected.protected) no_trees) c.in_ok-read.ensures.read.ok.has.0 _ _ _ _ _ _ (more_read c.args.limit no_trees (view c.in_ok-protected.protected) _ _ _ _ _ _ (none_read c.args.limit _ _) c.in_ok-protected.ensures.ok) (second_taken _ _ c.args.limit _ _ _ _ _ _ c.in_ok-read.ensures.read.ok)) c.in_ok-content.ensures.ok) c.in_ok-last.ensures.ok) refl (record { second = c.in_ok-read.ensures.read.ok.has.0; are = refl; header = c.in_ok-read.ensures.read.ok.has.2 })
