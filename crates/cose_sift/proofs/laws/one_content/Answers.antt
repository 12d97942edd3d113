use Rattle.cose_sift.proofs.Untagged.{content_once}
use Rattle.cose_sift.proofs.laws.one_content.Goals as goal

pub returns : goal.returns
returns c = content_once
