use Rattle.std.proofs.Common.{◌≡◌, false, map, sym, ap, ◌∙◌}
use Rattle.ciborium_value.specs.View.{view_pair}
use Rattle.coset_headers.specs.View.{entry_view}
use Rattle.coset_headers.specs.Written.{twice}
use Rattle.coset_keys.specs.View.{key_view}
use Rattle.coset_keys.proofs.Pushed.{key_done}
use Rattle.coset_keys.proofs.writer.write_key.Goals as goal

pub returns : goal.returns
returns c =
    let t : twice (map entry_view c.args.key.params.items) ≡ false = ap (λ z. twice (map entry_view z)) (sym c.deref.ensures.value) ∙ sym c.in_ok-repeats.ensures ∙ c.if-branch.false in
    key_done (key_view c.args.key) c.push_rest.new.entries _ _ _ _ _ _ t (ap (map view_pair) c.new-entries.ensures.items)
    c.in_ok-push_type.ensures c.in_ok-push_bytes.ensures c.in_ok-push_alg.ensures c.in_ok-push_operations.ensures c.in_ok-push_bytes-2.ensures c.in_ok-push_rest.ensures
