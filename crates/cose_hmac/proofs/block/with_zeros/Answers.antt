use Rattle.std.proofs.Common.{List, ℕ, ◌++◌, length, drop, replicate, ap, ◌∙◌}
use Rattle.std.proofs.lemmas.List.{drop-replicate}
use Rattle.cose_hmac.proofs.block.with_zeros.Goals as goal

pub returns : goal.returns
returns c =
    ap (λ (x : List ℕ). x ++ drop (length c.args.key.now) (replicate 64 0)) c.copy_from_slice.ensures.after
    ∙ ap (λ r. c.args.key.now ++ r) (drop-replicate (length c.args.key.now) 64 0)
