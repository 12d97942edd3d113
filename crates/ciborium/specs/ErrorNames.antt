-- The name of each reason why no value was read, and what is printed of it.
use Rattle.std.specs.Prelude.{ℕ, List, ◌++◌, codes, Option, Some, option_map}
use Rattle.std.specs.Fmt.{decimal}
use Rattle.ciborium_value.specs.KindNames.{kind_name}
use Rattle.ciborium.specs.declared.de.Error.{Error}
use Rattle.ciborium.specs.declared.de.Error.TheVariants as error

abbrev pub error_name : {T : Type 0} → Error T → List ℕ
error_name (error.Io e) = codes "Io"
error_name (error.Syntax at) = codes "Syntax"
error_name (error.Semantic at k) = codes "Semantic"
error_name error.RecursionLimitExceeded = codes "RecursionLimitExceeded"
error_name error.Memory = codes "Memory"
error_name error.TooLong = codes "TooLong"

-- what is printed in parentheses after the name, if of a reader's fault it is this
abbrev pub decode_detail : {E : Type 0} → List ℕ → Error E → List ℕ
decode_detail io (error.Io e) = io
decode_detail io (error.Syntax at) = codes "(" ++ (decimal at ++ codes ")")
decode_detail io (error.Semantic at k) = codes "(" ++ (kind_name k ++ codes ")")
decode_detail io e = codes ""

abbrev pub decode_text : {E : Type 0} → List ℕ → Error E → List ℕ
decode_text io e = error_name e ++ decode_detail io e

-- what is printed of a fault, if it is known what is of a reader's
abbrev pub printed_error : {E : Type 0} → (E → Option (List ℕ)) → Error E → Option (List ℕ)
printed_error shown (error.Io e) =
    option_map (λ s. decode_text (codes "(" ++ (s ++ codes ")")) (error.Io e)) (shown e)
printed_error shown e = Some (decode_text (codes "") e)
