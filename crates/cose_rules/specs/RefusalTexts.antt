-- What is printed of each reason why a question isn't asked.
use Rattle.std.specs.Prelude.{ℕ, List, ◌++◌, codes}
use Rattle.cose_rules.specs.declared.deciding.Refusal.{Refusal}
use Rattle.cose_rules.specs.declared.deciding.Refusal.TheVariants as refusal
use Rattle.cose_rules.specs.declared.headers.HeaderFault.{HeaderFault}
use Rattle.cose_rules.specs.declared.headers.HeaderFault.TheVariants as header
use Rattle.cose_rules.specs.declared.keys.KeyFault.{KeyFault}
use Rattle.cose_rules.specs.declared.keys.KeyFault.TheVariants as key

abbrev pub header_text : HeaderFault → List ℕ
header_text header.ManyLabels = codes "both headers have too many labels to compare"
header_text header.SameLabel = codes "a label is in both headers"
header_text header.UnprotectedCrit = codes "the unprotected header has critical labels"
header_text header.UnknownCritical = codes "a critical label is not understood"
header_text header.AbsentCritical = codes "a critical label is not in the protected header"

abbrev pub key_text : KeyFault → List ℕ
key_text key.OtherType = codes "the key is of another type"
key_text key.OtherCurve = codes "the key is on another curve"
key_text key.OtherAlgorithm = codes "the key is for another algorithm"
key_text key.OtherOperation = codes "the key is for other operations"
key_text key.NoAlgorithm = codes "the key names no algorithm, which tags of 64 bits need"
key_text key.MissingX = codes "the key has no x"
key_text key.MissingY = codes "the key has no y"
key_text key.MissingN = codes "the key has no n"
key_text key.MissingE = codes "the key has no e"
key_text key.MissingK = codes "the key has no k"
key_text key.ShortModulus = codes "the key has a modulus of fewer than 2,048 bits"

abbrev pub refusal_text : Refusal → List ℕ
refusal_text (refusal.Message f) = header_text f
refusal_text (refusal.Signer f) = codes "of a signer: " ++ header_text f
refusal_text refusal.NoAlgorithm = codes "the protected header names no algorithm"
refusal_text refusal.UnknownAlgorithm = codes "the algorithm is not known for such messages"
refusal_text refusal.NoKey = codes "no key has its key id"
refusal_text (refusal.UnfitKey f) = key_text f
refusal_text refusal.Recipients = codes "its key is that of its recipients"
