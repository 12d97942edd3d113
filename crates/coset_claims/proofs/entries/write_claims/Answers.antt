use Rattle.std.proofs.Common.{map, ap}
use Rattle.ciborium_value.specs.View.{view_pair}
use Rattle.coset_claims.specs.View.{claims_view}
use Rattle.coset_claims.proofs.Pushed.{map_done}
use Rattle.coset_claims.proofs.entries.write_claims.Goals as goal

pub returns : goal.returns
returns c =
    map_done (claims_view c.args.claims) c.push_rest.new.entries _ _ _ _ _ _ _ _ (ap (map view_pair) c.new-entries.ensures.items)
    c.in_ok-push_text.ensures c.in_ok-push_text-2.ensures c.in_ok-push_text-3.ensures c.in_ok-push_time.ensures c.in_ok-push_time-2.ensures c.in_ok-push_time-3.ensures
    c.in_ok-push_bytes.ensures c.in_ok-push_rest.ensures
