use Rattle.std.proofs.Common.{rules, refl, ◌≡◌, ◌-◌, inl, Some, subst, arith}
use Rattle.ciborium_ll.specs.declared.hdr.Header.TheVariants.{Tag, Array}
use Rattle.ciborium_ll.specs.Title.{Title}
use Rattle.ciborium_ll.specs.Views.{last_head}
use Rattle.ciborium_value.specs.View.{view}
use Rattle.ciborium.proofs.Taking.{takes_as, takes_then}
use Rattle.ciborium.proofs.Halting.{some_then, some_taken, fold_not_long, memory_then, memory_of}
use Rattle.ciborium.proofs.TagLemmas.{plain_title, level_item}
use Rattle.ciborium.proofs.FrontLemmas.{plain, content_reads, content_one}
use Rattle.ciborium.proofs.Passing.{passed_on}
use Rattle.ciborium.proofs.frames.read_tagged.Goals as goal

pub returns-in_err-next_head-clause-err : goal.returns-in_err-next_head-clause-err
returns-in_err-next_head-clause-err g c =
    passed_on _ _ c.from_residual.ensures.1 (plain_title g.R.Read.ends c.args.n c.args.limit _ _ _ _ (plain c.args.n c.requires.message) (omega (arith, c.requires.two)) c.in_err-next_head.ensures.err)

pub returns-then-is_four-clause-ok : goal.returns-then-is_four-clause-ok
returns-then-is_four-clause-ok g c =
    let head : last_head c.next_head.new.decoder ≡ Array (Some 4) = c.is_four.ensures (search rules) in
    takes_as _ _ _ _ _ _ c.in_ok-next_head.ensures.ok (λ x p. (refl, subst (Title x) head p.0))

pub returns-in_err-content-clause-err : goal.returns-in_err-content-clause-err
returns-in_err-content-clause-err g c =
    passed_on _ _ c.from_residual-in_err-content.ensures.1 (level_item g.R.Read.ends c.args.n c.args.limit c.offset-at.result (last_head c.next_head.new.decoder) _ _ _ _ _ _ (inl (plain c.args.n c.requires.message)) (omega (arith, c.requires.two))
    (takes_as _ _ _ _ _ _ c.in_ok-next_head.ensures.ok (λ x p. p.0)) c.offset-at.ensures c.in_err-content.ensures.err)

pub returns-in_err-content-clause-leaves : goal.returns-in_err-content-clause-leaves
returns-in_err-content-clause-leaves g c =
    record { stops = passed_on _ _ c.from_residual-in_err-content.ensures.1 (some_then _ _ _ c.in_ok-next_head.ensures.ok c.in_err-content.ensures.leaves.stops); one = passed_on _ _ c.from_residual-in_err-content.ensures.1 (memory_then _ _ _ _ _ _ _ _ _ _ c.in_ok-next_head.ensures.ok (λ x y p one. one x p.0) c.in_err-content.ensures.leaves.one); steady = search rules }

pub returns-in_err-whole-clause-leaves : goal.returns-in_err-whole-clause-leaves
returns-in_err-whole-clause-leaves g c =
    record {
      stops = passed_on _ _ c.from_residual-in_err-whole.ensures.1 (some_then _ _ _ c.in_ok-next_head.ensures.ok (some_taken _ (fold_not_long _ _ _ c.in_err-whole.ensures.err) c.in_ok-content.ensures.ok));
      one = passed_on _ _ c.from_residual-in_err-whole.ensures.1 (memory_of _ _ (takes_then _ _ _ _ _ _ _ _ _ c.in_ok-next_head.ensures.ok c.in_ok-content.ensures.ok (λ x y p r. content_one (c.args.limit - 1) (last_head c.next_head.new.decoder) (view c.in_ok-content.content) x y p.0 r)));
      steady = search rules;
    }

pub returns-clause-ok : goal.returns-clause-ok
returns-clause-ok g c =
    takes_then _ _ _ _ _ _ _ _ _ c.in_ok-next_head.ensures.ok c.in_ok-content.ensures.ok
    (λ x y p r. content_reads c.args.n c.args.limit (last_head c.next_head.new.decoder) (view c.in_ok-content.content) (view c.in_ok-whole.whole) x y c.requires.two c.in_ok-whole.ensures.ok p.0 r)
