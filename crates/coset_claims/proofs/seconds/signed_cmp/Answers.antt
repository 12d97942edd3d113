use Rattle.std.proofs.Common.{◌≡◌, ℤ, false, sym, subst, w64}
use Rattle.std.specs.Int.{is_negative}
use Rattle.std.proofs.lemmas.Int.{to_z-of_z}
use Rattle.coset_claims.proofs.Scaled.{below}
use Rattle.coset_claims.proofs.seconds.signed_cmp.Goals as goal

pub returns-in-true-false-2-2 : goal.returns-in-true-false-2-2
returns-in-true-false-2-2 c = rw (c.in-true-false.is-0)
    (below c.args.a c.args.j c.args.k c.args.b c.if-a-eq0.false
    (subst (λ (z : ℤ). is_negative z ≡ false) (to_z-of_z w64 c.args.b c.ranges.b) (sym (c.in-true-false.ensures))))
