use Rattle.std.proofs.Common.{rules, sym, subst, ◌∙◌, ap, arith}
use Rattle.ciborium_ll.specs.declared.hdr.Header.TheVariants.{Map}
use Rattle.ciborium_ll.specs.Title.{Title}
use Rattle.ciborium_ll.specs.Views.{seen, last_head, last_length}
use Rattle.ciborium.specs.Damage.{level_map}
use Rattle.ciborium.specs.declared.de.Error.TheVariants.{RecursionLimitExceeded}
use Rattle.ciborium.proofs.ReadHeads.{map_head}
use Rattle.ciborium.proofs.ReadLemmas.{item_title_fails, deep_fails}
use Rattle.ciborium.proofs.Taking.{takes_as, takes_then}
use Rattle.ciborium.proofs.Halting.{some_then, memory_then}
use Rattle.ciborium.proofs.TurnLemmas.{item_fails}
use Rattle.ciborium.proofs.MapLemmas.{begun}
use Rattle.ciborium.proofs.Passing.{passed_on}
use Rattle.ciborium.proofs.maps.MapReader.begin.Goals as goal

pub returns-in_err-next_head-clause-err : goal.returns-in_err-next_head-clause-err
returns-in_err-next_head-clause-err g c =
    passed_on _ _ c.from_residual.ensures.1 (item_title_fails g.R.Read.ends _ _ _ _ _ c.in_err-next_head.ensures.err)

pub returns-in_err-value-clause-leaves : goal.returns-in_err-value-clause-leaves
returns-in_err-value-clause-leaves g c = record {
  stops = passed_on _ _ c.from_residual-in_err-value.ensures.1 (some_then _ _ _ c.in_ok-next_head.ensures.ok c.in_err-value.ensures.leaves.stops);
  one = passed_on _ _ c.from_residual-in_err-value.ensures.1 (memory_then _ _ _ _ _ _ _ _ _ _ c.in_ok-next_head.ensures.ok (λ x y p one. one x p.0) c.in_err-value.ensures.leaves.one);
  steady = search rules;
}

-- another item
pub returns-then-major-ne5-clause-ok : goal.returns-then-major-ne5-clause-ok
returns-then-major-ne5-clause-ok g c = takes_then _ _ _ _ _ _ _ _ _ c.in_ok-next_head.ensures.ok c.in_ok-value.ensures.ok (λ x y p r. r x p.0)

-- no level is left for the map
pub returns-then-limit-eq0-clause-err : goal.returns-then-limit-eq0-clause-err
returns-then-limit-eq0-clause-err g c =
    let head = map_head c.next_head.new.decoder (sym c.major.ensures ∙ c.if-major-ne5.false) in
    item_fails g.R.Read.ends (Map (last_length c.next_head.new.decoder)) c.offset-at.result c.args.limit (seen g.R.Read c.args.decoder.now) (seen g.R.Read c.next_head.new.decoder) (seen g.R.Read c.next_head.new.decoder) RecursionLimitExceeded c.offset-at.ensures
    (takes_as _ _ _ _ _ _ c.in_ok-next_head.ensures.ok (λ x p. subst (Title x) head p.0))
    (deep_fails g.R.Read.ends (Map (last_length c.next_head.new.decoder)) c.args.limit c.offset-at.result _ _ c.if-limit-eq0.true (λ rest. level_map (last_length c.next_head.new.decoder)))

pub returns-clause-ok : goal.returns-clause-ok
returns-clause-ok g c =
    let head = map_head c.next_head.new.decoder (sym c.major.ensures ∙ c.if-major-ne5.false) in
    takes_as _ _ _ _ _ _ c.in_ok-next_head.ensures.ok (λ x p. begun c.args.limit _ x (last_length c.next_head.new.decoder) (sym c.head_length.ensures) (omega arith) (subst (Title x) head p.0))
