use Rattle.std.proofs.Common.{◌+◌, ◌<◌, ◌^◌, length, map, rules, subst, sym}
use Rattle.std.proofs.lemmas.List.{length-map}
use Rattle.coset_claims.specs.View.{claims_view, entry_view}
use Rattle.coset_claims.proofs.Fitting.{all_fit}
use Rattle.coset_claims.proofs.laws.claims_fit.Goals as goal

pub returns : goal.returns
returns c =
    all_fit (claims_view c.args.claims.now) c.maybe_text_fits.ensures c.maybe_text_fits-2.ensures c.maybe_text_fits-3.ensures c.maybe_time_fits.ensures c.maybe_time_fits-2.ensures c.maybe_time_fits-3.ensures
    c.maybe_bytes_fit.ensures (search rules)
    (subst (λ z. length (map entry_view z) + 7 < 2 ^ 64) c.deref.ensures.value (subst (λ n. n + 7 < 2 ^ 64) (sym (length-map _ entry_view)) c.rest_fits.ensures.short))
