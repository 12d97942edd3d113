use Rattle.std.proofs.Common.{◌≡◌, ◌<◌, ◌^◌, take}
use Rattle.ciborium_value.specs.Folding.{big_endian_from}
use Rattle.ciborium_value.proofs.bignum.number.Given as goal

abbrev pub invariant-loop-x : goal.invariant-loop-x
invariant-loop-x l = record { is : l.n ≡ big_endian_from 0 (take l.x-index l.bytes); small : l.n < 256 ^ l.x-index }
