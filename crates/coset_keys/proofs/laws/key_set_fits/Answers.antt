use Rattle.std.proofs.Common.{◌<◌, ◌^◌, length, map, subst, sym}
use Rattle.std.proofs.lemmas.List.{length-map}
use Rattle.coset_keys.specs.Fitting.{KeysFit}
use Rattle.coset_keys.specs.View.{key_view, key_set_view}
use Rattle.coset_keys.proofs.Fitting.{set_fits}
use Rattle.coset_keys.proofs.laws.key_set_fits.Goals as goal

pub returns : goal.returns
returns c = λ t e.
    set_fits (key_set_view c.args.set.now) t
    (subst (λ z. KeysFit (map key_view z)) c.deref.ensures.value c.keys_fit.ensures.all)
    (subst (λ n. n < 2 ^ 64) (sym (length-map c.args.set.now.0.items key_view)) (subst (λ z. length z < 2 ^ 64) c.deref.ensures.value c.keys_fit.ensures.short)) e
