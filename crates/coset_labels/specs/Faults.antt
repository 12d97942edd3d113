-- What a CoseError says, without its texts.
use Rattle.std.specs.Prelude.{◌≡◌, ◌⊎◌, Option, Some, None}
use Rattle.ciborium.specs.declared.de.Error.{Error}
use Rattle.ciborium.specs.declared.de.Error.TheVariants as de
use Rattle.ciborium.specs.declared.ser.Error.{Error as WriteError}
use Rattle.ciborium.specs.declared.ser.Error.TheVariants as ser
use Rattle.ciborium.specs.Damage.{Fault, end, deep, syntax, semantic}
use Rattle.coset_labels.specs.declared.error.CoseError.{CoseError}
use Rattle.coset_labels.specs.declared.error.CoseError.TheVariants as code

-- `undecodable` tells the damage of bytes that should have been one item. `misplaced` is such
-- damage with an offset that no reader names; no call returns it
pub data CoseFault : Type 0 where
  undecodable : Fault → CoseFault
  too_long duplicate_key unencodable extraneous out_of_range unexpected : CoseFault
  unregistered unregistered_private no_memory too_many_layers misplaced : CoseFault

abbrev pub decode_fault : {T : Type 0} → Error T → CoseFault
decode_fault (de.Io e) = undecodable end
decode_fault (de.Syntax p) = undecodable (syntax p)
decode_fault (de.Semantic None k) = undecodable (semantic k)
decode_fault (de.Semantic (Some p) k) = misplaced
decode_fault de.RecursionLimitExceeded = undecodable deep
decode_fault de.Memory = no_memory
decode_fault de.TooLong = too_long

abbrev pub fault_of : CoseError → CoseFault
fault_of (code.DecodeFailed e) = decode_fault e
fault_of code.DuplicateMapKey = duplicate_key
fault_of code.EncodeFailed = unencodable
fault_of code.ExtraneousData = extraneous
fault_of code.OutOfRangeIntegerValue = out_of_range
fault_of (code.UnexpectedItem got want) = unexpected
fault_of code.UnregisteredIanaValue = unregistered
fault_of code.UnregisteredIanaNonPrivateValue = unregistered_private
fault_of code.Memory = no_memory
fault_of code.TooManyLayers = too_many_layers

-- the error that a fault of reading one item becomes: every fault of a reader becomes an end of the
-- bytes
abbrev pub lifted : {T : Type 0} → Error T → CoseError
lifted (de.Io e) = code.DecodeFailed (de.Io (record {}))
lifted (de.Syntax p) = code.DecodeFailed (de.Syntax p)
lifted (de.Semantic o k) = code.DecodeFailed (de.Semantic o k)
lifted de.RecursionLimitExceeded = code.DecodeFailed de.RecursionLimitExceeded
lifted de.Memory = code.Memory
lifted de.TooLong = code.DecodeFailed de.TooLong

-- the error that a fault of writing one item becomes
abbrev pub unwritten : {T : Type 0} → WriteError T → CoseError
unwritten (ser.Io e) = code.EncodeFailed
unwritten (ser.Value k) = code.EncodeFailed
unwritten ser.Memory = code.Memory

-- the error is out of memory, or a fault of which `Wrong` holds
abbrev pub OrMemory : (CoseFault → Type 0) → CoseError → Type 0
OrMemory Wrong e = (e ≡ code.Memory) ⊎ Wrong (fault_of e)

-- out of memory, or a label would be written twice and so there is nothing to write
abbrev pub CantWrite : {A : Type 0} → Option A → CoseError → Type 0
CantWrite o e = (e ≡ code.Memory) ⊎ ((e ≡ code.DuplicateMapKey) × (o ≡ None))
