use Rattle.std.proofs.Common.{◌≡◌, Bool, true, not, refl, ap}
use Rattle.std.specs.Prelude.{◌&&◌, ◌↔◌}
use Rattle.std.proofs.lemmas.Bool.{and_parts, and_from, not-true}
use Rattle.coset_base.proofs.laws.sink.header_is_received.Goals as goal

both : (x y : Bool) → ((x && y) ≡ true) ↔ ((x ≡ true) × (y ≡ true))
both x y = (and_parts x y, λ w. and_from x y w.0 w.1)

pub returns : goal.returns
returns c = record {
  of_header = λ p ss. (λ r. let w = and_parts _ _ r in (not-true _ w.0, w.1), λ w. and_from _ _ (ap not w.0) w.1);
  of_received = λ b h. refl;
  of_built = λ h. refl;
  of_signature = λ p h c. both _ _;
  of_none = refl;
  of_more = λ s ss. both _ _;
}
