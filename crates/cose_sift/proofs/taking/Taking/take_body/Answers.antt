use Rattle.std.proofs.Common.{arith, ◌≡◌, ◌≤◌, ◌+◌, length, sym, ap, ◌∙◌}
use Rattle.std.proofs.lemmas.List.{length-take-le}
use Rattle.std.proofs.lemmas.Result.{on_ok_weaker}
use Rattle.ciborium_ll.specs.Views.{offset_of}
use Rattle.cbor_walk.specs.Walking.{wanted_by}
use Rattle.cbor_walk.proofs.Steps.{body_goes}
use Rattle.cose_sift.proofs.taking.Taking.take_body.Goals as goal

pub returns-clause-ok : goal.returns-clause-ok
returns-clause-ok g c =
    let bound : c.min-len.result ≤ 64 = omega arith in
    let within : c.min-len.result ≤ c.args.self.now.body = omega arith in
    let full : length c.read_exact.new.data ≡ c.min-len.result = c.read_exact.auto.data ∙ length-take-le c.min-len.result _ bound in
    let parts : c.args.self.now.body ≡ length c.read_exact.new.data + c.keep.new.self.body = omega (arith, full, c.keep.ensures.body) in
    on_ok_weaker c.keep.result (λ held. record {
      bytes = c.read_exact.new.data;
      has = (rw c.keep.ensures.walk (body_goes (wanted_by c.args.self.now.walk) c.args.self.now.body c.keep.new.self.body c.read_exact.new.data parts), held);
      taken = c.in-Ok.ensures.ok;
      grown = c.in-Ok.ensures.grown ∙ ap (λ z. offset_of c.args.decoder.now + z) (sym c.read_exact.auto.data);
    }) c.keep.ensures.ok
