-- The parts of the keys of a set, in a buffer.
use Rattle.std.specs.Prelude.{◌≡◌, ℕ, ℤ, pos, ◌⊎◌, List, [], ◌++◌, flat_map, Bool, ◌||◌, Option, None, Some, option_map, option_and_then, if◌then◌else◌}
use Rattle.std.specs.Int.{w64, cast_unsigned}
use Rattle.cose_iana.specs.Registry.{neg}
use Rattle.coset_labels.specs.Fields.{LabelFields, Named, number, words}
use Rattle.coset_labels.specs.Labels.{label_of}
use Rattle.coset_labels.specs.Reading.{HasItem, WrongItem}
use Rattle.coset_keys.specs.Fields.{KeyFields}
use Rattle.coset_keys.specs.Keys.{HasKeySet}
use Rattle.coset_keys.specs.Wrong.{WrongKeySet}
use Rattle.cose_rules.specs.Algorithms.{okp, ec2, rsa, symmetric}
use Rattle.cose_rules.specs.Keys.{Params, bytes_at, is_entry}
use Rattle.cose_rules.specs.Labels.{label_of as named_label, value_under}
use Rattle.cose_gate.specs.Faults.{CoseFault}
use Rattle.cose_gate.specs.Questions.{or_nothing}
use Rattle.cose_gate_records.specs.Calls.{NoMemory, Places}
use Rattle.cose_gate_records.specs.Framing.{eight, framed}
use Rattle.cose_gate_records.specs.declared.answer.Answer.{Answer}

-- the number that a type, an algorithm or a curve is; 0, which their registries reserve (RFC 9053,
-- section 7; RFC 9052, section 11.4), for a text and for none
abbrev pub number_in : Option LabelFields → ℤ
number_in None = pos 0
number_in (Some (number i)) = i
number_in (Some (words b)) = pos 0

-- kty and alg (RFC 9052, section 7.1)
abbrev pub type_number : Named → ℤ
type_number n = number_in (Some (named_label n))

abbrev pub algorithm_number : Option Named → ℤ
algorithm_number n = number_in (option_map named_label n)

-- crv (RFC 9053, sections 7.1.1 and 7.2) of a key on a curve, if it is an integer of 64 bits
abbrev pub is_on_curve : Named → Bool
is_on_curve kty = is_entry okp kty || is_entry ec2 kty

abbrev pub curve : LabelFields
curve = number (neg 1)

abbrev pub curve_in : Params → ℤ
curve_in es = number_in (option_and_then label_of (value_under curve es))

abbrev pub curve_number : KeyFields → ℤ
curve_number k = if is_on_curve k.kty then curve_in k.params else pos 0

-- a number in two's complement
abbrev pub number_text : ℤ → List ℕ
number_text i = eight (cast_unsigned w64 i)

abbrev pub numbers_text : KeyFields → List ℕ
numbers_text k = number_text (type_number k.kty)
    ++ (number_text (algorithm_number k.alg) ++ number_text (curve_number k))

-- n of RSA (RFC 8230, section 4), or k of a symmetric key (RFC 9053, section 7.3); x of a key on a
-- curve (sections 7.1.1 and 7.2), or e of RSA; y of EC2 (section 7.1.1). Under these labels keys of
-- other types may have private parts, as RSA has under -3.
abbrev pub n_or_k : KeyFields → Option (List ℕ)
n_or_k k =
    if is_entry rsa k.kty || is_entry symmetric k.kty then bytes_at (neg 1) k.params else None

abbrev pub x_or_e : KeyFields → Option (List ℕ)
x_or_e k = if is_on_curve k.kty || is_entry rsa k.kty then bytes_at (neg 2) k.params else None

abbrev pub y_of : KeyFields → Option (List ℕ)
y_of k = if is_entry ec2 k.kty then bytes_at (neg 3) k.params else None

-- a byte string, or no bytes, after its length
abbrev pub part_text : Option (List ℕ) → List ℕ
part_text part = framed (or_nothing part)

abbrev pub strings_text : KeyFields → List ℕ
strings_text k = part_text (n_or_k k) ++ (part_text (x_or_e k) ++ part_text (y_of k))

-- the parts of a key, after their length
abbrev pub key_text : KeyFields → List ℕ
key_text k = framed (numbers_text k ++ strings_text k)

-- an output with its status is placed, without a line
pub record PlacesAlone (IsText : List ℕ → ℕ → Type 0) (old new : List ℕ) (answer : Answer) : Type 0
  where
    pub written : List ℕ
    pub status : ℕ
    pub is : IsText written status
    pub placed : Places written status old new answer
    pub no_lines : answer.lines ≡ 0

-- the parts of all these keys, in order, or it is out of memory
abbrev pub IsListed : List KeyFields → List ℕ → ℕ → Type 0
IsListed ks written status =
    ((written ≡ flat_map key_text ks) × (status ≡ 0)) ⊎ NoMemory written status

-- the same of the keys of the set that the bytes are; or they are none, or it is out of memory
abbrev pub ListsKeys : List ℕ → List ℕ → List ℕ → Answer → Type 0
ListsKeys keys old new answer =
    ((ks : List KeyFields) × HasItem HasKeySet keys ks × PlacesAlone (IsListed ks) old new answer)
    ⊎ ((e : CoseFault) × WrongItem WrongKeySet keys e
    × PlacesAlone (λ written status. (written ≡ []) × (status ≡ 3)) old new answer)
    ⊎ PlacesAlone NoMemory old new answer
