-- What the lines of `cose-ask --fields` say of a question's key (RFC 9052, section 3.1).
use Rattle.std.specs.Prelude.{ℕ, List, ◌++◌, codes, Option, Some, None, Bool, true, false}
use Rattle.std.specs.Fmt.{signed_decimal}
use Rattle.coset_labels.specs.Fields.{Named, private_use, assigned, named}
use Rattle.cose_gate_core.specs.Questions.{Subject}
use Rattle.cose_rules.specs.Rule.{algorithm_in}
use Rattle.cose_gate_records.specs.KeyHeaders.{key_layer, key_id_of, has_known_crit}
use Rattle.cose_gate_command.specs.Hex.{hex_field}

-- the number of an algorithm; - if there is none, and tstr if it is named by a text string
abbrev pub algorithm_field : Option Named → List ℕ
algorithm_field None = codes "-"
algorithm_field (Some (private_use i)) = signed_decimal i
algorithm_field (Some (assigned i)) = signed_decimal i
algorithm_field (Some (named b)) = codes "tstr"

-- - if all critical labels are understood: those of the algorithm, of the list of critical labels
-- and of the key id
abbrev pub crit_field : Bool → List ℕ
crit_field true = codes "-"
crit_field false = codes "unknown"

-- three fields, each with a space before it: the algorithm, the key id in hex, and whether all
-- critical labels are understood
abbrev pub fields_by : Option Named → List ℕ → Bool → List ℕ
fields_by alg id known =
    codes " ALG=" ++ (algorithm_field alg ++ (codes " KID=" ++ (hex_field id
    ++ (codes " CRIT=" ++ crit_field known))))

-- those of a question: its protected algorithm and its key id
abbrev pub key_fields : Subject → List ℕ
key_fields s = fields_by (algorithm_in (key_layer s)) (key_id_of s) (has_known_crit s)
