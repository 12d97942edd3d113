use Rattle.std.proofs.Common.{◌+◌, ◌<◌, ◌^◌, length, map, subst, sym}
use Rattle.std.proofs.lemmas.List.{length-map}
use Rattle.cose_iana.specs.Keys.{key_operations}
use Rattle.ciborium_value.specs.Tree.{bytes}
use Rattle.ciborium_value.specs.Encoding.{Fits, FitPairs}
use Rattle.ciborium_value.specs.View.{pairs}
use Rattle.coset_labels.specs.View.{registered_view}
use Rattle.coset_headers.specs.View.{entry_view}
use Rattle.coset_headers.specs.Written.{entry_tree}
use Rattle.coset_keys.specs.View.{key_view}
use Rattle.coset_keys.proofs.Fitting.{all_fit}
use Rattle.coset_keys.proofs.laws.key_fits.Goals as goal

pub returns : goal.returns
returns c =
    let listed = subst (λ z. FitPairs (pairs (map entry_tree (map entry_view z)))) c.deref-3.ensures.value c.params_fit.ensures.entries in
    record {
      tree = λ t e. all_fit (key_view c.args.key.now) t c.registered_fits.ensures (subst (λ z. Fits (bytes z)) c.deref.ensures.value c.bytes_fit.ensures) c.alg_fits.ensures c.operations_fit.ensures.names
          (subst (λ n. n < 2 ^ 64) (sym (length-map c.args.key.now.key_ops.keys (registered_view key_operations.number))) c.operations_fit.ensures.short)
          (subst (λ z. Fits (bytes z)) c.deref-2.ensures.value c.bytes_fit-2.ensures) listed
          (subst (λ n. n + 5 < 2 ^ 64) (sym (length-map c.args.key.now.params.items entry_view)) (subst (λ z. length z + 5 < 2 ^ 64) c.deref-3.ensures.value c.params_fit.ensures.short)) e;
      params = listed;
    }
