use Rattle.cose_hmac.specs.Hmac.{hmac}
use Rattle.cose_hmac.proofs.mac.HmacSha256.finalize.Goals as goal

pub returns : goal.returns
unfolding hmac
returns c = λ key text fed. rw (c.finalize.ensures _ fed.inner) at (c.finalize-2.ensures _ (c.update.ensures _ fed.outer))
