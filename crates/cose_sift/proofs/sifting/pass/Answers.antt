use Rattle.std.proofs.Common.{subst}
use Rattle.std.proofs.KnownBytes.{Keeps-refl}
use Rattle.cose_sift.specs.Reading.{IsReadable}
use Rattle.cose_sift.proofs.Untagged.{content_once}
use Rattle.cose_sift.proofs.sifting.pass.Goals as goal

pub returns-in-Ok-false-clause-ok : goal.returns-in-Ok-false-clause-ok
returns-in-Ok-false-clause-ok g c = (
  λ y d r. (rw c.in-Ok-false.field-0-test at c.in-Ok-false.ensures.ok) (subst IsReadable (content_once c.args.untag c.args.item.now y c.content_of-content.result.now d c.content_of-content.ensures.content) r),
  Keeps-refl _,
)
