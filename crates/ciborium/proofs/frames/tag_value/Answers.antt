use Rattle.ciborium_value.specs.View.{view}
use Rattle.ciborium.proofs.frames.tag_value.Goals as goal

pub returns-clause-kept : goal.returns-clause-kept
returns-clause-kept g c = c.fold.ensures (view c.args.content) c.length_of-length.ensures c.in_ok-whole.ensures.ok
