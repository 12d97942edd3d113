use Rattle.cose_stream.specs.Putting.{filled}
use Rattle.cose_stream.proofs.putting.fill.Goals as goal

pub returns-clause-ran : goal.returns-clause-ran
returns-clause-ran g c =
    let k = rw (c.is_ok.ensures.value, c.as_str.ensures.value) at c.keep-is_put.ensures in
    filled _ _ c.keep-is_put.result c.stream-end.ensures.ran k c.put.ensures
