use Rattle.coset.specs.Reading.{WrongItem}
use Rattle.coset.specs.WrongKeys.{WrongKey}
use Rattle.callers.proofs.Spelled.{err_of, unwritten}
use Rattle.callers.proofs.keeping.spelling.Goals as goal

pub returns-clause-err : goal.returns-clause-err
returns-clause-err c =
    err_of c.to_vec.result _ _ _
    (λ e w. unwritten (WrongItem WrongKey c.args.bytes.now) _ _ e c.in_ok-key.ensures.ok c.key_reads_again.ensures.sorted w) c.to_vec.ensures
