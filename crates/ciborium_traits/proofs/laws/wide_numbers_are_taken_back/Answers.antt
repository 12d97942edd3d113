use Rattle.ciborium_traits.specs.Facts.Numbers.{unsigned_back, signed_back}
use Rattle.ciborium_traits.proofs.laws.wide_numbers_are_taken_back.Goals as goal

pub returns : goal.returns
returns c = record { u128 = unsigned_back; i128 = signed_back }
