use Rattle.ciborium_ll.specs.Views.{writer_of}
use Rattle.ciborium.proofs.Written.{item_written}
use Rattle.ciborium.proofs.ser.write_item.Goals as goal

pub returns : goal.returns
returns g c =
    let w = item_written g.W.Write.written g.W.Write.handle g.W.Write.failed c.serialize.result (g.T.Serialize.put c.args.value.now) (writer_of c.args.sink.now.encoder) (writer_of c.serialize.new.sink.encoder) c.serialize.ensures.ok c.serialize.ensures.err in
    record { ok = w.0; err = w.1; kept = w.2; failed = w.3 }
