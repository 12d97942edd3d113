-- What a run of the program begins with, and why it doesn't.
use Rattle.std.specs.Prelude.{◌≡◌, ℕ, List, [], Option, None, Some, Result, Ok, Err}
use Rattle.std.specs.Result.{result_ok}
use Rattle.hex.specs.Hex.{decode_of}
use Rattle.hex.specs.declared.error.FromHexError.{FromHexError}
use Rattle.hex.specs.declared.error.FromHexError.TheVariants as hex
use Rattle.coset_labels.specs.Faults.{fault_of}
use Rattle.coset_labels.specs.Reading.{HasItem, WrongItem}
use Rattle.coset_labels.specs.declared.error.CoseError.{CoseError}
use Rattle.coset_labels.specs.declared.error.CoseError.TheVariants as cose
use Rattle.coset_keys.specs.Keys.{HasKeySet}
use Rattle.coset_keys.specs.View.{key_set_view}
use Rattle.coset_keys.specs.Wrong.{WrongKeySet}
use Rattle.cose_gate_program.specs.declared.beginning.Beginning.{Beginning}
use Rattle.cose_gate_program.specs.declared.beginning.NotBegun.{NotBegun}
use Rattle.cose_gate_program.specs.declared.beginning.NotBegun.TheVariants.{NoFile, NotHex, NoKeys, Memory}

-- the external data that AADHEX stands for, in hex of either case; none without it, and none at all
-- if it is no hex
abbrev pub aad_of : Option (List ℕ) → Option (List ℕ)
aad_of None = Some []
aad_of (Some text) = result_ok (decode_of text)

abbrev pub status_of : NotBegun → ℕ
status_of NoFile = 3
status_of NotHex = 2
status_of (NoKeys e) = 3
status_of Memory = 4

-- why the gate isn't run if AADHEX can't be read: it is no hex, but for being out of memory
abbrev pub aad_fault : FromHexError → NotBegun
aad_fault hex.OutOfMemory = Memory
aad_fault _ = NotHex

-- why it isn't run if the key set can't be read
abbrev pub key_set_fault : CoseError → NotBegun
key_set_fault cose.Memory = Memory
key_set_fault e = NoKeys e

-- AADHEX is no hex, or it is out of memory
abbrev pub IsNoAad : Option (List ℕ) → NotBegun → Type 0
IsNoAad aad NoFile = ⊥
IsNoAad aad NotHex = aad_of aad ≡ None
IsNoAad aad (NoKeys e) = ⊥
IsNoAad aad Memory = Unit {0}

-- the bytes are no key set, or it is out of memory
abbrev pub IsNoKeySet : List ℕ → NotBegun → Type 0
IsNoKeySet b NoFile = ⊥
IsNoKeySet b NotHex = ⊥
IsNoKeySet b (NoKeys e) = WrongItem WrongKeySet b (fault_of e)
IsNoKeySet b Memory = Unit {0}

-- why a run doesn't begin with what KEYS holds and the external data, if there are any: KEYS is
-- tested before AADHEX, and AADHEX before what KEYS holds
abbrev pub BeginsNot : Option (List ℕ) → Option (List ℕ) → NotBegun → Type 0
BeginsNot keys aad NoFile = keys ≡ None
BeginsNot keys aad NotHex = (b : List ℕ) × (keys ≡ Some b) × (aad ≡ None)
BeginsNot keys aad (NoKeys e) =
    (b : List ℕ) × (d : List ℕ) × (keys ≡ Some b) × (aad ≡ Some d)
    × WrongItem WrongKeySet b (fault_of e)
BeginsNot keys aad Memory = (b : List ℕ) × (keys ≡ Some b)

-- the key set that KEYS holds, and the external data
abbrev pub BeginsWith : Option (List ℕ) → Option (List ℕ) → Result Beginning NotBegun → Type 0
BeginsWith keys aad (Ok d) =
    (b : List ℕ) × (keys ≡ Some b) × (aad ≡ Some d.aad.items)
    × HasItem HasKeySet b (key_set_view d.keys)
BeginsWith keys aad (Err why) = BeginsNot keys aad why
