-- The events of a value by its parts.
use Rattle.std.proofs.Common.{◌≡◌, ℕ, [], ◌∷◌, length, Bool, true, false, refl, sym, ap, ◌∙◌, Vec, Box, Global}
use Rattle.ciborium_value.specs.Tree.{Tree}
use Rattle.ciborium_value.specs.declared.value.Value.TheOpen as open_value
use Rattle.ciborium_value.specs.declared.value.Value.TheVariants.{rolls-Bool}
use Rattle.ciborium_value.specs.declared.value.Value.TheFolds.{fold-roll-Value}
use Rattle.ciborium_value.specs.View.{bool_tree, view_step, view, views, view_pairs}
use Rattle.ciborium_value.specs.declared.value.Value.{Value}
use Rattle.ciborium_value.specs.declared.value.Value.TheVariants as code
use Rattle.ciborium_value.proofs.Fitting.{count_items, count_entries}
use Rattle.ciborium_value.proofs.Views.{view_array, view_map, view_tag}
use Rattle.ciborium_traits.specs.Events.{boolean_event, array, map, tag, events, events_all, events_pairs}

pub array_opened : (v : Vec Value Global) → events (view (code.Array v)) ≡ array (length v.items) ∷ events_all (views v.items)
array_opened v = ap events (view_array v) ∙ ap (λ z. array z ∷ events_all (views v.items)) (count_items v.items)

pub map_opened : (v : Vec (Value × Value) Global) → events (view (code.Map v)) ≡ map (length v.items) ∷ events_pairs (view_pairs v.items)
map_opened v = ap events (view_map v) ∙ ap (λ z. map z ∷ events_pairs (view_pairs v.items)) (count_entries v.items)

pub tag_opened : (n : ℕ) (b : Box Value Global) → events (view (code.Tag n b)) ≡ tag n ∷ events (view b.value)
tag_opened n b = ap events (view_tag n b)

pub boolean_opened : (b : Bool) → events (bool_tree b) ≡ boolean_event b ∷ []
boolean_opened true = refl
boolean_opened false = refl

pub bool_opened : (b : Bool) → events (view (code.Bool b)) ≡ boolean_event b ∷ []
bool_opened b = ap events (ap view (sym (rolls-Bool b)) ∙ fold-roll-Value Tree view_step (open_value.Bool b)) ∙ boolean_opened b
