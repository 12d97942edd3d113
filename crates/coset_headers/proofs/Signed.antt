-- Counter signatures in a list.
use Rattle.std.proofs.Common.{◌≡◌, ◌<◌, List, [], ◌∷◌, length, Some, refl, ap, ◌∙◌, arith, vec_len, Vec, Global}
use Rattle.ciborium_value.specs.Tree.{array}
use Rattle.ciborium_value.specs.View.{view, views}
use Rattle.ciborium_value.specs.declared.value.Value.{Value}
use Rattle.ciborium_value.specs.declared.value.Value.TheVariants as code
use Rattle.ciborium_value.proofs.Views.{view_array}
use Rattle.coset_headers.specs.Written.{bare_or_list}

many : (xs : List Value) → 1 < length xs → Some (array (views xs)) ≡ bare_or_list (views xs)
many (x ∷ y ∷ ys) h = refl
many xs h = absurd (omega (arith, h))

pub list_of_many : (v : Vec Value Global) → 1 < vec_len v → Some (view (code.Array v)) ≡ bare_or_list (views v.items)
list_of_many v h = ap Some (view_array v) ∙ many v.items (omega (arith, h, v.ok.0))
