use Rattle.coset_labels.proofs.Marks.{added_is}
use Rattle.coset_labels.proofs.seen_labels.SeenLabels.add.Goals as goal

pub returns : goal.returns
returns g c = λ es w. added_is _ _ g.met.K.EntryKey.same _ _ c.in_ok-copy.copy _ es c.in_ok-copy.ensures w _ c.in_ok-fresh.ensures
