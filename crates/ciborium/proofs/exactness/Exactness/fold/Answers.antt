use Rattle.std.proofs.Common.{◌&&◌, refl, sym, ap}
use Rattle.ciborium_value.specs.View.{view}
use Rattle.ciborium.proofs.ToldLemmas.{fold_kept}
use Rattle.ciborium.proofs.exactness.Exactness.fold.Goals as goal

pub returns-then-self : goal.returns-then-self
returns-then-self c = λ t of e.
    fold_kept c.args.tag c.args.length c.args.self.now.holds c.is_over-self.result c.is_over-self.result t (view c.args.whole.now) e of c.is_over-self.ensures (ap (λ z. z && c.is_over-self.result) (sym c.if-self.true))

pub returns-else-self : goal.returns-else-self
returns-else-self c = λ t of e. rw c.if-self.false refl
