use Rattle.coset_keys.specs.View.{key_view}
use Rattle.coset_keys.proofs.Spelling.{one_spelling}
use Rattle.coset_keys.proofs.laws.one_spelling.Goals as goal

pub returns : goal.returns
returns c =
    λ o t s k l p q d e.
    one_spelling o t s k l (key_view c.args.a.now) (key_view c.args.b.now) c.key_fits.ensures.tree c.key_fits-2.ensures.tree c.key_fits.ensures.params c.key_fits-2.ensures.params p q d e
