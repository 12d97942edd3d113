use Rattle.std.proofs.lemmas.Result.{err_from_is_err_and}
use Rattle.coset_labels.specs.Limits.{nesting}
use Rattle.coset_labels.specs.Reading.{NotReadable, WrongItem, unreadable, inside}
use Rattle.coset_labels.proofs.Items.{match_map, or_memory}
use Rattle.coset_labels.proofs.traits.CborSerializable.from_slice.Goals as goal

pub returns-in_err-value : goal.returns-in_err-value
returns-in_err-value g c =
    let p = err_from_is_err_and c.from_residual.result c.from_residual.ensures.1 in
    rw (p.1, p.2) (or_memory (NotReadable c.args.slice.now nesting) (WrongItem g.Self.AsCborValue.wrong c.args.slice.now) _ (λ f x. unreadable x) c.in_err-value.ensures)

pub returns : goal.returns
returns g c =
    match_map c.from_cbor_value.result _ _ _ _ (λ x s. record { tree = _; reads = c.in_ok-value.ensures; shape = s })
    (λ e w. or_memory _ (WrongItem g.Self.AsCborValue.wrong c.args.slice.now) e (λ f x. inside _ c.in_ok-value.ensures x) w) c.from_cbor_value.ensures
