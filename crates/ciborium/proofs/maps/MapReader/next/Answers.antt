use Rattle.std.proofs.Common.{rules, refl}
use Rattle.ciborium_ll.specs.Views.{seen, last_head}
use Rattle.ciborium_value.specs.View.{view}
use Rattle.ciborium.proofs.MapLemmas.{ends_by, at_title, at_key, at_value, at_end, at_entry, entry_grows}
use Rattle.ciborium.proofs.maps.MapReader.next.Goals as goal

pub returns-in_err-more-clause-read : goal.returns-in_err-more-clause-read
returns-in_err-more-clause-read g c = λ limit start ps t.
    ends_by g.R.Read.ends limit c.args.self.now _ ps start (seen g.R.Read c.args.decoder.now) t (seen g.R.Read c.next_part.new.decoder) _ _ c.from_residual.ensures.1
    (at_title g.R.Read.ends limit c.args.self.now c.args.self.now ps start (seen g.R.Read c.args.decoder.now) t (seen g.R.Read c.next_part.new.decoder) _ c.in_err-more.ensures.due c.in_err-more.ensures.err c.in_err-more.ensures.stops c.in_err-more.ensures.memory)

pub returns-then-not-more-clause-read : goal.returns-then-not-more-clause-read
returns-then-not-more-clause-read g c = λ limit start ps t. at_end g.R.Read.ends limit c.args.self.now _ ps start (seen g.R.Read c.args.decoder.now) t (seen g.R.Read c.next_part.new.decoder) (c.in_ok-more.ensures.none (search rules))

pub returns-in_err-key-clause-read : goal.returns-in_err-key-clause-read
returns-in_err-key-clause-read g c = λ limit start ps t.
    let n = c.in_ok-more.ensures.next (search rules) in
    ends_by g.R.Read.ends limit c.args.self.now _ ps start (seen g.R.Read c.args.decoder.now) t (seen g.R.Read c.read_headed.new.decoder) _ _ c.from_residual-in_err-key.ensures.1
    (at_key g.R.Read.ends limit c.args.self.now c.args.self.now ps start (seen g.R.Read c.args.decoder.now) t (seen g.R.Read c.next_part.new.decoder) (seen g.R.Read c.read_headed.new.decoder) (last_head c.next_part.new.decoder) c.offset-at.result _ _ n.due n c.offset-at.ensures (c.in_ok-more.ensures.some (search rules))
    c.in_err-key.ensures.err c.in_err-key.ensures.leaves.stops c.in_err-key.ensures.leaves.one)

pub returns-in_err-value-clause-read : goal.returns-in_err-value-clause-read
returns-in_err-value-clause-read g c = λ limit start ps t.
    let n = c.in_ok-more.ensures.next (search rules) in
    ends_by g.R.Read.ends limit c.args.self.now _ ps start (seen g.R.Read c.args.decoder.now) t (seen g.R.Read c.read_next.new.decoder) _ _ c.from_residual-in_err-value.ensures.1
    (at_value g.R.Read.ends limit c.args.self.now c.args.self.now ps start (seen g.R.Read c.args.decoder.now) t (seen g.R.Read c.next_part.new.decoder) (seen g.R.Read c.read_headed.new.decoder) (seen g.R.Read c.read_next.new.decoder) (last_head c.next_part.new.decoder) _ (view c.in_ok-key.key) _ n.due (c.in_ok-more.ensures.some (search rules)) c.in_ok-key.ensures.ok
    c.in_err-value.ensures.err c.in_err-value.ensures.leaves.stops c.in_err-value.ensures.leaves.one)

pub one_less-self-requires : goal.one_less-self-requires
one_less-self-requires g c = (c.in_ok-more.ensures.next (search rules)).due

pub returns-clause-read : goal.returns-clause-read
returns-clause-read g c = λ limit start ps t.
    let n = c.in_ok-more.ensures.next (search rules) in
    at_entry g.R.Read.ends limit c.args.self.now _ ps start (seen g.R.Read c.args.decoder.now) t (seen g.R.Read c.next_part.new.decoder) (seen g.R.Read c.read_headed.new.decoder) (seen g.R.Read c.read_next.new.decoder) (last_head c.next_part.new.decoder) _ c.in_ok-key.key c.in_ok-value.value n.due c.one_less-self.ensures refl (c.in_ok-more.ensures.some (search rules)) c.in_ok-key.ensures.ok c.in_ok-value.ensures.ok

pub returns-clause-grows : goal.returns-clause-grows
returns-clause-grows g c = entry_grows (seen g.R.Read c.args.decoder.now) (seen g.R.Read c.next_part.new.decoder) (seen g.R.Read c.read_headed.new.decoder) (seen g.R.Read c.read_next.new.decoder) (last_head c.next_part.new.decoder) _ _ _ (c.in_ok-more.ensures.some (search rules)) c.in_ok-key.ensures.ok c.in_ok-value.ensures.ok
