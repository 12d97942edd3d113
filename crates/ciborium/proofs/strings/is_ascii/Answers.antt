use Rattle.std.proofs.Common.{IsAscii, arith, subst}
use Rattle.std.proofs.lemmas.List.{take_all}
use Rattle.std.proofs.lemmas.Str.{IsUtf8-from_ascii}
use Rattle.std.proofs.lemmas.Str.Ascii.{IsAscii-nil, IsAscii-more}
use Rattle.ciborium.proofs.strings.is_ascii.Goals as goal

pub bytes-init : goal.bytes-init
bytes-init c = IsAscii-nil

pub bytes-preserved : goal.bytes-preserved
bytes-preserved c = IsAscii-more c.args.bytes.now c.bytes.i (omega arith) c.bytes.invariant (omega arith)

pub returns : goal.returns
returns c = λ t. IsUtf8-from_ascii _ (subst IsAscii (take_all c.bytes.i c.args.bytes.now (omega arith)) c.bytes.invariant)
