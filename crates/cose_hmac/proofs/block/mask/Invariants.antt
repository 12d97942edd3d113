use Rattle.std.proofs.Common.{◌≡◌, ℕ, ◌<◌, ◌≤◌, get_or, bit_xor}
use Rattle.cose_hmac.proofs.block.mask.Given as goal

abbrev pub invariant-loop-byte : goal.invariant-loop-byte
invariant-loop-byte l = record {
  before : (k : ℕ) → k < l.byte-index → get_or l.bytes k 0 ≡ bit_xor (get_or l.initial.bytes k 0) l.pad;
  behind : (k : ℕ) → l.byte-index ≤ k → get_or l.bytes k 0 ≡ get_or l.initial.bytes k 0;
}
