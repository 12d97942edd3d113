-- The view of a value made of its parts.
use Rattle.std.proofs.Common.{◌≡◌, ℕ, ap, sym, ◌∙◌, Box, Vec, Global, String, string_bytes}
use Rattle.ciborium_value.specs.Tree as spec
use Rattle.ciborium_value.specs.Tree.{Tree}
use Rattle.ciborium_value.specs.View.{view, views, view_step, view_pairs}
use Rattle.ciborium_value.specs.declared.value.Value.{Value}
use Rattle.ciborium_value.specs.declared.value.Value.TheVariants as code
use Rattle.ciborium_value.specs.declared.value.Value.TheOpen as open_value
use Rattle.ciborium_value.specs.declared.value.Value.TheVariants.{rolls-Array, rolls-Tag, rolls-Bytes, rolls-Integer, rolls-Map, rolls-Float, rolls-Text}
use Rattle.ciborium_ll.specs.declared.hdr.Float.{Float as FloatBits}
use Rattle.ciborium_value.specs.declared.integer.Integer.{Integer}
use Rattle.ciborium_value.specs.declared.value.Value.TheFolds.{fold-roll-Value}

pub view_bytes : (v : Vec ℕ Global) → view (code.Bytes v) ≡ spec.bytes v.items
view_bytes v = ap view (sym (rolls-Bytes v)) ∙ fold-roll-Value Tree view_step (open_value.Bytes v)

pub view_array : (v : Vec Value Global) → view (code.Array v) ≡ spec.array (views v.items)
view_array v = ap view (sym (rolls-Array v)) ∙ fold-roll-Value Tree view_step (open_value.Array v)

pub view_tag : (n : ℕ) (b : Box Value Global) → view (code.Tag n b) ≡ spec.tag n (view b.value)
view_tag n b = ap view (sym (rolls-Tag n b)) ∙ fold-roll-Value Tree view_step (open_value.Tag n b)

pub view_integer : (i : Integer) → view (code.Integer i) ≡ spec.integer i.number
view_integer i = ap view (sym (rolls-Integer i)) ∙ fold-roll-Value Tree view_step (open_value.Integer i)

pub view_map : (v : Vec (Value × Value) Global) → view (code.Map v) ≡ spec.map (view_pairs v.items)
view_map v = ap view (sym (rolls-Map v)) ∙ fold-roll-Value Tree view_step (open_value.Map v)

pub view_float : (f : FloatBits) → view (code.Float f) ≡ spec.float f
view_float f = ap view (sym (rolls-Float f)) ∙ fold-roll-Value Tree view_step (open_value.Float f)

pub view_text : (s : String Global) → view (code.Text s) ≡ spec.text (string_bytes s)
view_text s = ap view (sym (rolls-Text s)) ∙ fold-roll-Value Tree view_step (open_value.Text s)
