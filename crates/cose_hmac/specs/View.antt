-- What a tag in the making has been fed.
use Rattle.std.specs.Prelude.{ℕ, List, ◌++◌}
use Rattle.sha2.specs.Hashers.{Holds256}
use Rattle.cose_hmac.specs.Hmac.{block_of, masked}
use Rattle.cose_hmac.specs.declared.mac.HmacSha256.{HmacSha256}

-- the text fed so far under this key: the inner hash has it after its pad, and the outer one has
-- its pad alone
pub record Holds (mac : HmacSha256) (key text : List ℕ) : Type 0 where
  pub inner : Holds256 mac.inner (masked 0x36 (block_of key) ++ text)
  pub outer : Holds256 mac.outer (masked 0x5c (block_of key))
