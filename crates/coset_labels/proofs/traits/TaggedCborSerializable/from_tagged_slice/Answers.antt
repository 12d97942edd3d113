use Rattle.std.proofs.Common.{inr, sym, ap, ◌∙◌}
use Rattle.std.proofs.lemmas.Result.{err_from_is_err_and}
use Rattle.ciborium_value.specs.View.{view}
use Rattle.coset_labels.specs.Limits.{nesting}
use Rattle.coset_labels.specs.Reading.{NotReadable, WrongItem, WrongTagged, unreadable}
use Rattle.coset_labels.proofs.Items.{match_map, or_memory, tagged_has, tagged_wrong, tag_missing, tag_other}
use Rattle.coset_labels.proofs.traits.TaggedCborSerializable.from_tagged_slice.Goals as goal

pub returns-in_err-value : goal.returns-in_err-value
returns-in_err-value g c =
    let p = err_from_is_err_and c.from_residual.result c.from_residual.ensures.1 in
    rw (p.1, p.2) (or_memory (NotReadable c.args.slice.now nesting) (WrongItem (WrongTagged g.Self.TaggedCborSerializable.TAG g.Self.AsCborValue.wrong) c.args.slice.now) _ (λ f x. unreadable x) c.in_err-value.ensures)

pub returns-in_err-tag : goal.returns-in_err-tag
returns-in_err-tag g c =
    let p = err_from_is_err_and c.from_residual-in_err-tag.result c.from_residual-in_err-tag.ensures.1 in
    rw (p.1, p.2) (tag_missing g.Self.AsCborValue.wrong c.args.slice.now g.Self.TaggedCborSerializable.TAG _ _ c.in_ok-value.ensures c.in_err-tag.ensures)

pub returns-then-tag-TAG : goal.returns-then-tag-TAG
returns-then-tag-TAG g c = inr (tag_other g.Self.AsCborValue.wrong c.args.slice.now g.Self.TaggedCborSerializable.TAG _ _ _ c.in_ok-value.ensures c.in_ok-tag.ensures (λ q. c.if-tag-TAG.true (q ∙ sym c.TAG.ensures)))

pub returns : goal.returns
returns g c =
    let same = c.if-tag-TAG.false ∙ c.TAG.ensures in
    let inner = ap view c.into_inner.ensures in
    match_map c.from_cbor_value.result _ _ _ _ (λ x s. tagged_has g.Self.AsCborValue.shape c.args.slice.now _ _ _ _ _ _ c.in_ok-value.ensures c.in_ok-tag.ensures same inner s)
    (λ e w. tagged_wrong g.Self.AsCborValue.wrong c.args.slice.now _ _ _ _ _ e c.in_ok-value.ensures c.in_ok-tag.ensures same inner w) c.from_cbor_value.ensures
