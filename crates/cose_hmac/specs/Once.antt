-- A tag in the making holds a text in one way at most, so a struct may say that it does.
use Rattle.std.specs.Prelude.{ℕ, List}
use Rattle.std.proofs.Props.{props}
use Rattle.sha2.specs.Sha256 as S256
use Rattle.cose_hmac.specs.View.{Holds}
use Rattle.cose_hmac.specs.declared.mac.HmacSha256.{HmacSha256}

pub holds-prop : (mac : HmacSha256) (key text : List ℕ) → IsProp (Holds mac key text)
unfolding S256.Holds
holds-prop mac key text = hlevel props
