-- What the headers of a layer forbid (RFC 9052, sections 3 and 3.1).
use Rattle.std.specs.Prelude.{ℕ, ℤ, pos, ◌*◌, length, Bool, false, ◌||◌, Option, None, Some, nat_lt, if◌then◌else◌}
use Rattle.std.specs.List.{list_all}
use Rattle.std.specs.Ordering.{int_eq}
use Rattle.coset_labels.specs.Fields.{Named, private_use, assigned, named}
use Rattle.coset_headers.specs.Fields.{HeaderFields, ProtectedFields, plain_part}
use Rattle.cose_rules.specs.Labels.{label_of, has_label, share_label, has_crit, header_in}
use Rattle.cose_rules.specs.declared.headers.HeaderFault.{HeaderFault}
use Rattle.cose_rules.specs.declared.headers.HeaderFault.TheVariants as fault

-- the labels that are understood: those of the algorithm, of the critical labels, of the key id
abbrev pub is_known : ℤ → Bool
is_known i = int_eq i (pos 1) || (int_eq i (pos 2) || int_eq i (pos 4))

abbrev pub is_understood : Named → Bool
is_understood (private_use i) = false
is_understood (assigned i) = is_known i
is_understood (named b) = false

-- each critical label is understood, and each is in this header
abbrev pub are_understood : HeaderFields → Bool
are_understood h = list_all is_understood (plain_part h).crit

abbrev pub are_present : HeaderFields → Bool
are_present h = list_all (λ n. has_label h (label_of n)) (plain_part h).crit

-- The labels outside 1 to 7 of both headers are compared in pairs, of which there may be 4,096, such
-- as of 64 labels in each: no rule of COSE, but a bound on what a sender can make this cost.
abbrev pub pairs_of : HeaderFields → HeaderFields → ℕ
pairs_of p u = length (plain_part p).rest * length (plain_part u).rest

abbrev pub has_many_labels : HeaderFields → HeaderFields → Bool
has_many_labels p u = nat_lt 4096 (pairs_of p u)

-- why the headers of a layer forbid to go on: the first of these that holds
abbrev pub fault_in : HeaderFields → HeaderFields → Option HeaderFault
fault_in p u =
    if has_many_labels p u then Some fault.ManyLabels
    else if share_label p u then Some fault.SameLabel
    else if has_crit u then Some fault.UnprotectedCrit
    else if are_understood p
    then (if are_present p then None else Some fault.AbsentCritical)
    else Some fault.UnknownCritical

abbrev pub layer_fault : ProtectedFields → HeaderFields → Option HeaderFault
layer_fault p u = fault_in (header_in p) u
