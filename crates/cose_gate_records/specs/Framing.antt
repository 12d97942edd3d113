-- Bytes after their length.
use Rattle.std.specs.Prelude.{ℕ, List, ◌++◌, length}
use Rattle.std.specs.Int.{w64, to_le_bytes}

-- a number in eight bytes, the lowest first
unfoldable pub eight : ℕ → List ℕ
eight n = to_le_bytes w64 n

-- bytes after their length
abbrev pub framed : List ℕ → List ℕ
framed piece = eight (length piece) ++ piece

-- the key of a question: what it is about, and then the bytes that are covered and the signature or
-- tag
abbrev pub key_by : List ℕ → List ℕ → List ℕ → List ℕ
key_by front covered signature = front ++ (framed covered ++ framed signature)
