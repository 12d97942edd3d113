use Rattle.std.proofs.Common.{refl}
use Rattle.coset_headers.proofs.Alike.{plain_rolled, signs_rolled}
use Rattle.coset_headers.proofs.Empty.{none_left}
use Rattle.coset_headers.proofs.Levels.{next_more, next_done, signed_done}
use Rattle.coset_headers.proofs.reader.HeaderReader.finish.Goals as goal

pub returns-in-Some-clause-read : goal.returns-in-Some-clause-read
returns-in-Some-clause-read c = λ n k t v s r x h.
    c.begin.ensures.read n k t v r (next_more n _ v s c.args.list _ _ c.args.signature x c.in-Some.ensures.items h c.in_ok-push.ensures.items)

pub returns-in-None-clause-read : goal.returns-in-None-clause-read
returns-in-None-clause-read c = λ n k t v s r x h.
    let none = none_left c.args.list.left c.in-None.ensures.cases.0 in
    record {
      nesting = r.nesting;
      inner = r.inner;
      within = r.within;
      going = signed_done n r.inner c.args.self.now.top _ c.args.into.now _ v _ r.signed (next_done n _ v s c.args.list _ c.args.signature x none h c.in_ok-push.ensures.items) refl refl refl
          (plain_rolled _) (signs_rolled _);
    }
