use Rattle.std.proofs.Common.{ap, sym, subst, ◌∙◌, map, refl}
use Rattle.coset_labels.proofs.Items.{match_map}
use Rattle.coset_labels.specs.View.{label_view}
use Rattle.coset_headers.specs.Parts.{SeesMany}
use Rattle.coset_headers.specs.View.{entry_view}
use Rattle.coset_headers.specs.declared.header.Header.{out-Header}
use Rattle.coset_headers.proofs.Fresh.{fresh_field, fresh_signs, fresh_other}
use Rattle.coset_headers.proofs.Unset.{name_set, crit_set, bytes_set, none_signed}
use Rattle.coset_headers.proofs.header.Header.is_new.Goals as goal

pub returns-in-Alg : goal.returns-in-Alg
returns-in-Alg c = λ n k es w g. fresh_field n k es _ _ _ _ _ w g 1 (rw c.in-Alg.is at c.requires) refl refl (name_set _ _ ∙ c.is_none.ensures)

pub returns-in-Crit : goal.returns-in-Crit
returns-in-Crit c = λ n k es w g. fresh_field n k es _ _ _ _ _ w g 2 (rw c.in-Crit.is at c.requires) refl refl (crit_set _ (out-Header c.args.self.now).crit _ c.is_empty.ensures)

pub returns-in-ContentType : goal.returns-in-ContentType
returns-in-ContentType c = λ n k es w g. fresh_field n k es _ _ _ _ _ w g 3 (rw c.in-ContentType.is at c.requires) refl refl (name_set _ _ ∙ c.is_none-in-ContentType.ensures)

pub returns-in-KeyId : goal.returns-in-KeyId
returns-in-KeyId c = λ n k es w g. fresh_field n k es _ _ _ _ _ w g 4 (rw c.in-KeyId.is at c.requires) refl refl (bytes_set (out-Header c.args.self.now).key_id _ c.is_empty-in-KeyId.ensures)

pub returns-in-Iv : goal.returns-in-Iv
returns-in-Iv c = λ n k es w g. fresh_field n k es _ _ _ _ _ w g 5 (rw c.in-Iv.is at c.requires) refl refl (bytes_set (out-Header c.args.self.now).iv _ c.is_empty-in-Iv.ensures)

pub returns-in-PartialIv : goal.returns-in-PartialIv
returns-in-PartialIv c = λ n k es w g. fresh_field n k es _ _ _ _ _ w g 6 (rw c.in-PartialIv.is at c.requires) refl refl (bytes_set (out-Header c.args.self.now).partial_iv _ c.is_empty-in-PartialIv.ensures)

pub returns-in-CounterSignatures : goal.returns-in-CounterSignatures
returns-in-CounterSignatures c = λ n k es w g.
    fresh_signs n k es _ _ _ _ _ w g (rw c.in-CounterSignatures.is at c.requires) (none_signed (out-Header c.args.self.now).counter_signatures _ c.is_empty-in-CounterSignatures.ensures)

pub returns-in-Rest : goal.returns-in-Rest
returns-in-Rest c = λ n k es w g.
    let r = ap (map entry_view) c.deref.ensures.value ∙ w.plain.rest in
    match_map c.is_new_among.result _ _ _ _ (λ b x. fresh_other es (map entry_view c.deref.result.now) (label_view c.args.label.now) _ b (rw c.in-Rest.is at c.requires) r x) (λ e x. x)
    (c.is_new_among.ensures (subst (SeesMany c.args.seen.now) (sym r) g))
