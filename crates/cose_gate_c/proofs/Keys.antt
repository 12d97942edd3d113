-- The curve of a key.
use Rattle.std.proofs.Common.{◌≡◌, ℤ, List, Option, map, option_map, ap, ◌∙◌}
use Rattle.std.specs.Prelude.{option_and_then}
use Rattle.std.specs.List.{find}
use Rattle.ciborium_value.specs.View.{view}
use Rattle.ciborium_value.specs.declared.value.Value.{Value}
use Rattle.coset_labels.specs.Labels.{label_of}
use Rattle.coset_labels.specs.View.{label_view}
use Rattle.coset_labels.specs.declared.label.Label.{Label}
use Rattle.coset_headers.specs.View.{entry_view}
use Rattle.cose_rules.specs.Labels.{same_label}
use Rattle.cose_rules.proofs.Entries.{value_by}
use Rattle.cose_gate_c.specs.KeyParts.{curve, curve_in, number_in}

pub curve_by : (es : List (Label × Value)) (r : Option (Label × Value)) (n : ℤ) → r ≡ find (λ e. same_label (label_view e.0) curve) es
    → n ≡ number_in (option_and_then label_of (option_map (λ e. view e.1) r)) → n ≡ curve_in (map entry_view es)
curve_by es r n e f = f ∙ ap (λ z. number_in (option_and_then label_of z)) (value_by es curve r e)
