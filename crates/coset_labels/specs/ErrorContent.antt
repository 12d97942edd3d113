-- What an error says, its texts as their bytes: two errors that say the same are equal.
use Rattle.std.specs.Prelude.{ℕ, List}
use Rattle.ciborium.specs.declared.de.Error.{Error}
use Rattle.coset_labels.specs.Faults.{CoseFault, duplicate_key, unencodable, extraneous, out_of_range, unregistered, unregistered_private, no_memory, too_many_layers}
use Rattle.coset_labels.specs.declared.error.CoseError.{CoseError}
use Rattle.coset_labels.specs.declared.error.CoseError.TheVariants as code
use Rattle.coset_labels.specs.declared.error.EndOfFile.{EndOfFile}

-- `failed` has the damage as the reader names it, `got` what there was and what was expected
pub data ErrorContent : Type 0 where
  failed : Error EndOfFile → ErrorContent
  got : List ℕ → List ℕ → ErrorContent
  plainly : CoseFault → ErrorContent

abbrev pub content_of : CoseError → ErrorContent
content_of (code.DecodeFailed e) = failed e
content_of code.DuplicateMapKey = plainly duplicate_key
content_of code.EncodeFailed = plainly unencodable
content_of code.ExtraneousData = plainly extraneous
content_of code.OutOfRangeIntegerValue = plainly out_of_range
content_of (code.UnexpectedItem item want) = got item.now want.now
content_of code.UnregisteredIanaValue = plainly unregistered
content_of code.UnregisteredIanaNonPrivateValue = plainly unregistered_private
content_of code.Memory = plainly no_memory
content_of code.TooManyLayers = plainly too_many_layers
