-- HMAC with SHA-256, whose blocks are of 64 bytes (RFC 2104, section 2).
use Rattle.std.specs.Prelude.{ℕ, ◌-◌, List, ◌++◌, length, map, replicate, bit_xor, nat_lt, if◌then◌else◌}
use Rattle.sha2.specs.Sha256.{sha256}

-- a key with zeros after it, up to a block
abbrev pub padded : List ℕ → List ℕ
padded key = key ++ replicate (64 - length key) 0

-- the block of a key: one that is longer than a block is hashed first
unfoldable pub block_of : List ℕ → List ℕ
block_of key = if nat_lt 64 (length key) then padded (sha256 key) else padded key

-- each byte of a block with the byte of a pad
abbrev pub masked : ℕ → List ℕ → List ℕ
masked pad block = map (λ b. bit_xor b pad) block

-- H((K xor opad) | H((K xor ipad) | text))
unfoldable pub hmac : List ℕ → List ℕ → List ℕ
hmac key text = sha256 (masked 0x5c (block_of key) ++ sha256 (masked 0x36 (block_of key) ++ text))
