use Rattle.std.proofs.Common.{◌≡◌, false, map, sym, ap, subst, Some, ◌∙◌}
use Rattle.ciborium_value.specs.View.{view, views, view_pair}
use Rattle.ciborium_value.specs.declared.value.Value.TheVariants as code
use Rattle.coset_headers.specs.Fields.{plain_part}
use Rattle.coset_headers.specs.Parts.{plain_of}
use Rattle.coset_headers.specs.View.{entry_view}
use Rattle.coset_headers.specs.Written.{header_of, twice}
use Rattle.coset_headers.specs.declared.header.Header.{out-Header}
use Rattle.coset_headers.proofs.Alike.{header_is}
use Rattle.coset_headers.proofs.Pushed.{map_done}
use Rattle.coset_headers.proofs.header.Header.write.Goals as goal

pub returns : goal.returns
returns c =
    let t : twice (map entry_view (out-Header c.args.self).rest.items) ≡ false = ap (λ z. twice (map entry_view z)) (sym c.deref.ensures.value) ∙ sym c.in_ok-repeats.ensures ∙ c.if-branch.false in
    subst (λ p. header_of p (views c.args.signatures.items) ≡ Some (view (code.Map c.push_rest.new.entries))) (sym (ap plain_part (header_is c.args.self)))
    (map_done (plain_of c.args.self) (views c.args.signatures.items) c.push_rest.new.entries _ _ _ _ _ _ _ _ t (ap (map view_pair) c.new-entries.ensures.items)
    c.in_ok-push_alg.ensures c.in_ok-push_crit.ensures c.in_ok-push_content_type.ensures c.in_ok-push_bytes.ensures c.in_ok-push_bytes-2.ensures c.in_ok-push_bytes-3.ensures
    c.in_ok-push_signatures.ensures c.in_ok-push_rest.ensures)
