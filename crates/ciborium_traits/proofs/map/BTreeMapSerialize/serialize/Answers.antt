use Rattle.std.proofs.Common.{arith, List, map, ◌++◌, ap, append_assoc, sym, ◌∙◌}
use Rattle.std.proofs.lemmas.Map.Iter.{rest_more}
use Rattle.std.specs.Map.Iter.{deref_pair}
use Rattle.ciborium_value.specs.Tree as spec
use Rattle.ciborium_value.specs.View.{pairs}
use Rattle.ciborium_traits.specs.Events.{events, events_pairs}
use Rattle.ciborium_traits.proofs.Loops.{stopped_in}
use Rattle.ciborium_traits.proofs.Written.{pairs_counted}
use Rattle.ciborium_traits.proofs.map.BTreeMapSerialize.serialize.Goals as goal

pub returns-in_err-map-clause-err : goal.returns-in_err-map-clause-err
returns-in_err-map-clause-err g c =
    let n = pairs_counted (λ e. (g.K.Serialize.put e.0, g.V.Serialize.put e.1)) c.args.self.now.entries in
    grind (arith, n, c.len.ensures.len)

pub returns-in_err-serialize-clause-err : goal.returns-in_err-serialize-clause-err
returns-in_err-serialize-clause-err g c =
    let e = rest_more deref_pair _ _ _ (c.in-Some.key, c.in-Some.value) c.in-Some.is c.next.ensures.steps in
    stopped_in c.from_residual-in_err-serialize.result g.S.Sink.due g.S.Sink.torn _ _ _ (events (spec.map (pairs (map (λ e. (g.K.Serialize.put e.0, g.V.Serialize.put e.1)) c.args.self.now.entries)))) _ _ _ (ap (λ (z : List (g.row.K.Denot × g.row.V.Denot)). events_pairs (pairs (map (λ e. (g.K.Serialize.put e.0, g.V.Serialize.put e.1)) z))) e) c.entries.invariant c.in_err-serialize.ensures.err

pub returns-in_err-serialize-2-clause-err : goal.returns-in_err-serialize-2-clause-err
returns-in_err-serialize-2-clause-err g c =
    let e = rest_more deref_pair _ _ _ (c.in-Some.key, c.in-Some.value) c.in-Some.is c.next.ensures.steps in
    let key = events (g.K.Serialize.put c.in-Some.key.now) in
    let value = events (g.V.Serialize.put c.in-Some.value.now) in
    stopped_in c.from_residual-in_err-serialize-2.result g.S.Sink.due g.S.Sink.torn _ _ _ (events (spec.map (pairs (map (λ e. (g.K.Serialize.put e.0, g.V.Serialize.put e.1)) c.args.self.now.entries)))) _ (key ++ value) _
    (ap (λ (z : List (g.row.K.Denot × g.row.V.Denot)). events_pairs (pairs (map (λ e. (g.K.Serialize.put e.0, g.V.Serialize.put e.1)) z))) e ∙ sym (append_assoc key value _)) c.entries.invariant
    (λ p es h. c.in_err-serialize-2.ensures.err p es (c.in_ok-serialize.ensures.ok p (value ++ es) (rw append_assoc at h)))
