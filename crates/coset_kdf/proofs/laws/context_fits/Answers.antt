use Rattle.std.proofs.Common.{◌+◌, ◌<◌, ◌^◌, length, map, subst, sym}
use Rattle.std.proofs.lemmas.List.{length-map}
use Rattle.ciborium_value.specs.Tree.{bytes}
use Rattle.ciborium_value.specs.Encoding.{FitAll}
use Rattle.ciborium_value.specs.View.{trees}
use Rattle.coset_kdf.specs.View.{context_view}
use Rattle.coset_kdf.proofs.Fitting.{context_whole}
use Rattle.coset_kdf.proofs.laws.context_fits.Goals as goal

pub returns-clause-shown : goal.returns-clause-shown
returns-clause-shown c = λ b t e f q.
    context_whole (context_view c.args.context.now) t c.name_fits.ensures c.party_fits.ensures c.party_fits-2.ensures (λ s p. c.public_fits.ensures.shown b s e f p)
    (subst (λ z. FitAll (trees (map bytes (map (λ v. v.items) z)))) c.deref.ensures.value c.private_fit.ensures.all)
    (subst (λ z. length (map (λ v. v.items) z) + 4 < 2 ^ 64) c.deref.ensures.value (subst (λ n. n + 4 < 2 ^ 64) (sym (length-map _ (λ v. v.items))) c.private_fit.ensures.short)) q

pub returns-clause-read : goal.returns-clause-read
returns-clause-read c = λ n k t u a q.
    context_whole (context_view c.args.context.now) u c.name_fits.ensures c.party_fits.ensures c.party_fits-2.ensures (λ s p. c.public_fits.ensures.read n k a.3 s a.8 p)
    (subst (λ z. FitAll (trees (map bytes (map (λ v. v.items) z)))) c.deref.ensures.value c.private_fit.ensures.all)
    (subst (λ z. length (map (λ v. v.items) z) + 4 < 2 ^ 64) c.deref.ensures.value (subst (λ n. n + 4 < 2 ^ 64) (sym (length-map _ (λ v. v.items))) c.private_fit.ensures.short)) q
