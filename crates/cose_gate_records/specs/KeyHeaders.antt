-- What the headers of a question say of its key (RFC 9052, sections 3.1 and 4.1).
use Rattle.std.specs.Prelude.{ℕ, ℤ, List, Option, None, Some, Bool, true, false, ◌&&◌}
use Rattle.std.specs.Ordering.{int_eq}
use Rattle.coset_labels.specs.Fields.{Named, private_use, assigned, named}
use Rattle.cose_rules.specs.Headers.{are_understood}
use Rattle.cose_rules.specs.Labels.{header_in}
use Rattle.cose_rules.specs.Rule.{LayerFields, own_layer, id_in, algorithm_in}
use Rattle.cose_gate_core.specs.Questions.{Subject}

-- the headers that name the key: those of the signer if there is one, else the message's
abbrev pub key_layer : Subject → LayerFields
key_layer s = own_layer (s.protected, s.unprotected) s.signer

abbrev pub key_id_of : Subject → List ℕ
key_id_of s = id_in (key_layer s)

-- the algorithm has this number, of the registry or of its private range
abbrev pub has_number : ℤ → Option Named → Bool
has_number number None = false
has_number number (Some (private_use i)) = int_eq i number
has_number number (Some (assigned i)) = int_eq i number
has_number number (Some (named b)) = false

abbrev pub has_algorithm : ℤ → Subject → Bool
has_algorithm number s = has_number number (algorithm_in (key_layer s))

-- all critical labels of two headers are understood
abbrev pub are_plain : LayerFields → Bool
are_plain l = are_understood (header_in l.0) && are_understood l.1

abbrev pub is_signer_plain : Option LayerFields → Bool
is_signer_plain None = true
is_signer_plain (Some l) = are_plain l

abbrev pub has_known_crit : Subject → Bool
has_known_crit s = is_signer_plain s.signer && are_plain (s.protected, s.unprotected)
