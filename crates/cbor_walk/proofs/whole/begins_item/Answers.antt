use Rattle.std.proofs.Common.{List, ℕ, Some, Bor, refl}
use Rattle.ciborium_ll.specs.Views.{left_of}
use Rattle.cbor_walk.specs.Grammar.{body_of}
use Rattle.cbor_walk.proofs.Begins.{begun_here, begun_head, begun_done}
use Rattle.cbor_walk.proofs.whole.begins_item.Goals as goal

pub heads-init : goal.heads-init
heads-init c = begun_here _ _ _ (rw (c.from-decoder.ensures.0, c.from-decoder.ensures.2) refl) c.new-walk.ensures.starts

pub heads-preserved : goal.heads-preserved
heads-preserved c =
    let t = c.in-Ok.ensures.ok in
    let middle = left_of (λ (s : Bor (List ℕ)). Some s.now) c.pull.new.self in
    begun_head _ t.bytes c.body_of.result (body_of c.in-Ok.header) _ middle _ _ _ c.heads.invariant c.body_of.ensures (c.in-Ok-take.ensures.ok t.bytes t.has) t.taken
    (c.if-not-take.ensures.taken refl) (c.if-not-take.ensures.within refl)

pub returns-then-is_done : goal.returns-then-is_done
returns-then-is_done c = λ e. begun_done _ _ _ c.heads.invariant (c.is_done.ensures.done c.if-is_done.true)
