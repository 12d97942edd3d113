use Rattle.std.proofs.Common.{List, ℕ, ap, ◌∙◌}
use Rattle.sha2.specs.Sha256.{sha256}
use Rattle.cose_gate_records.proofs.Hashed.{one_key}
use Rattle.cose_gate_records.proofs.digest.digest_over.Goals as goal

pub returns : goal.returns
returns c = c.finalize.ensures _ (c.update-4.ensures _ (c.update-3.ensures _ (c.update-2.ensures _ (c.update.ensures _ c.new_with_prefix-hasher.ensures))))
    ∙ ap (λ (z : List ℕ). sha256 z) (one_key c.args.front.now c.args.hash.now c.args.signature.now c.eight.result c.eight-2.result c.eight.ensures c.eight-2.ensures)
