use Rattle.std.proofs.Common.{rules}
use Rattle.coset_headers.proofs.Alike.{plain_copied}
use Rattle.coset_headers.proofs.Entered.{plain_same}
use Rattle.coset_headers.proofs.header.Header.clone_plain.Goals as goal

pub returns : goal.returns
returns c = plain_copied _ c.args.self.now (plain_same _ _ (search rules) (search rules) (search rules) (search rules) (search rules) (search rules) (search rules)) (search rules)
