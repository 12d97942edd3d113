-- Refusals of items with a tag around them.
use Rattle.std.proofs.Common.{◌≡◌, ℕ, Bool, true, false, cond, Option, Some, None, ap, refl, sym, ◌∙◌, Box, Global, nat_eq, arith}
use Rattle.std.proofs.lemmas.Bool.Decides.{nat_tests}
use Rattle.ciborium_value.specs.declared.kind.Kind.{Kind}
use Rattle.ciborium_value.specs.declared.kind.Kind.TheVariants as kind
use Rattle.ciborium_value.specs.declared.value.Value.{Value}
use Rattle.ciborium_value.specs.declared.value.Value.TheFolds.{fold-roll-Value, map-Value}
use Rattle.ciborium_value.specs.declared.value.Value.TheViews.{out-Value, roll-Value, roll-out-Value}
use Rattle.ciborium_value.specs.declared.value.Value.TheOpen as open_value
use Rattle.ciborium_value.specs.declared.value.Value.TheVariants as code
use Rattle.ciborium_value.specs.declared.value.Value.TheVariants.{rolls-Tag}
use Rattle.ciborium_value.specs.Tree as spec
use Rattle.ciborium_value.specs.Tree.{Tree}
use Rattle.ciborium_value.specs.View.{view, view_step, bool_tree}
use Rattle.ciborium_typed.specs.Tags.{outer_tag, required_refusal, accepted_refusal}

view_tag : (n : ℕ) (b : Box Value Global) → view (code.Tag n b) ≡ spec.tag n (view b.value)
view_tag n b = ap view (sym (rolls-Tag n b)) ∙ fold-roll-Value Tree view_step (open_value.Tag n b)

tag_same : (n m : ℕ) → n ≡ m → nat_eq n m ≡ true
tag_same n m e = grind (arith, nat_tests)

module _ (refusal : Tree → Option Kind) (a : Value) (n m : ℕ) (b : Box Value Global) (v : Value) (is : a ≡ code.Tag n b) (inner : v ≡ b.value) (same : n ≡ m) where
  seen : view a ≡ spec.tag n (view v)
  seen = ap view is ∙ view_tag n b ∙ ap (λ z. spec.tag n (view z)) (sym inner)

  pub required_at : required_refusal m refusal (view a) ≡ refusal (view v)
  required_at = ap (required_refusal m refusal) seen ∙ ap (λ z. cond z (refusal (view v)) (Some kind.Tag)) (tag_same n m same)

  pub accepted_at : accepted_refusal m refusal (view a) ≡ refusal (view v)
  accepted_at = ap (accepted_refusal m refusal) seen ∙ ap (λ z. cond z (refusal (view v)) (Some kind.Tag)) (tag_same n m same)

pub accepted_other : (refusal : Tree → Option Kind) (t : Tree) (m : ℕ) → outer_tag t ≡ None → accepted_refusal m refusal t ≡ refusal t
accepted_other refusal (spec.tag n t) m e = absurd cc
accepted_other refusal (spec.integer i) m e = refl
accepted_other refusal (spec.bytes b) m e = refl
accepted_other refusal (spec.text b) m e = refl
accepted_other refusal (spec.array ts) m e = refl
accepted_other refusal (spec.map ps) m e = refl
accepted_other refusal (spec.simple n) m e = refl
accepted_other refusal (spec.float f) m e = refl

-- a value that is no tag has none in its view
pub untagged_seen : (a : Value) → ((n : ℕ) (b : Box Value Global) → a ≡ code.Tag n b → ⊥) → outer_tag (view a) ≡ None
untagged_seen a not = at (out-Value a) refl
  where
    shown : (y : open_value.Value-F Value) → out-Value a ≡ y → view a ≡ view_step (map-Value Value Tree view y)
    shown y e = ap view (sym (roll-out-Value a) ∙ ap roll-Value e) ∙ fold-roll-Value Tree view_step y

    no_tag : (b : Bool) → outer_tag (bool_tree b) ≡ None
    no_tag true = refl
    no_tag false = refl

    at : (y : open_value.Value-F Value) → out-Value a ≡ y → outer_tag (view a) ≡ None
    at (open_value.Tag n b) e = absurd (not n b (sym (roll-out-Value a) ∙ ap roll-Value e ∙ rolls-Tag n b))
    at (open_value.Integer i) e = ap outer_tag (shown (open_value.Integer i) e)
    at (open_value.Bytes b) e = ap outer_tag (shown (open_value.Bytes b) e)
    at (open_value.Float f) e = ap outer_tag (shown (open_value.Float f) e)
    at (open_value.Text s) e = ap outer_tag (shown (open_value.Text s) e)
    at (open_value.Bool b) e = ap outer_tag (shown (open_value.Bool b) e) ∙ no_tag b
    at open_value.Null e = ap outer_tag (shown open_value.Null e)
    at (open_value.Array v) e = ap outer_tag (shown (open_value.Array v) e)
    at (open_value.Map v) e = ap outer_tag (shown (open_value.Map v) e)
