use Rattle.std.proofs.Common.{map, ap}
use Rattle.coset_keys.specs.View.{key_view}
use Rattle.cose_ruled.specs.Asking.{about_item, log_of}
use Rattle.cose_ruled.specs.Told.{parts_in}
use Rattle.cose_ruled.proofs.Asks.{told_stays, item_begins}
use Rattle.cose_ruled.proofs.asker.RuledAsker.next_item.Goals as goal

pub returns-clause-told : goal.returns-clause-told
returns-clause-told c =
    let self = c.args.self.now in
    told_stays (map key_view self.keys.now) self.before.items c.and-self.result.items c.told.result.now (about_item self) (parts_in (log_of c.new.result))
    c.and-self.ensures (ap parts_in c.told.ensures) c.new.ensures

pub returns-clause-item : goal.returns-clause-item
returns-clause-item c =
    let self = c.args.self.now in
    item_begins (map key_view self.keys.now) self.before.items c.and-self.result.items c.told.result.now (about_item self) c.and-self.ensures (ap parts_in c.told.ensures)
