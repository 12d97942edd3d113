use Rattle.std.proofs.Common.{refl}
use Rattle.ciborium_value.specs.View.{view}
use Rattle.cose_sift.proofs.ReadItem.{read_whole, unread, unread_says, told}
use Rattle.cose_sift.proofs.reading.is_readable.Goals as goal

pub returns-in-Ok-clause-ok : goal.returns-in-Ok-clause-ok
returns-in-Ok-clause-ok c =
    let reader = c.from-decoder.ensures.0 in
    let waiting = c.from-decoder.ensures.2 in
    read_whole c.args.item.now _ _ _ (view c.in-Ok.value) c.requires (rw (waiting, reader) at c.in-Ok.ensures.ok)

pub returns-in-Err-clause-ok : goal.returns-in-Err-clause-ok
returns-in-Err-clause-ok c =
    let reader = c.from-decoder.ensures.0 in
    let waiting = c.from-decoder.ensures.2 in
    unread_says c.args.item.now c.unread.result c.unread.ensures.ok (λ memory long. unread _ c.args.item.now _ _ c.in-Err.error memory long (rw (waiting, reader) at c.in-Err.ensures.err) (λ e. refl))

pub returns-in-Err-clause-err : goal.returns-in-Err-clause-err
returns-in-Err-clause-err c =
    let reader = c.from-decoder.ensures.0 in
    let waiting = c.from-decoder.ensures.2 in
    told c.args.item.now _ _ _ c.in-Err.error c.unread.result (rw waiting at c.from-decoder.ensures.1) (rw (waiting, reader) at c.in-Err.ensures.stops) c.unread.ensures.err
