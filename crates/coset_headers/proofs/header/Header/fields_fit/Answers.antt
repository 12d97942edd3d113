use Rattle.coset_headers.proofs.Fit.{name_fits, crit_fits, string_fits, rest_fits, rest_long}
use Rattle.coset_headers.proofs.header.Header.fields_fit.Goals as goal

pub returns-clause-values : goal.returns-clause-values
returns-clause-values c = (
  name_fits _ c.alg_fits.ensures,
  (
    crit_fits _ _ _ c.deref.ensures.value c.crit_fits.ensures.fits c.crit_fits.ensures.count,
    (
      name_fits _ c.content_type_fits.ensures,
      (
        string_fits _ _ c.deref-2.ensures.value c.bytes_fit.ensures,
        (
          string_fits _ _ c.deref-3.ensures.value c.bytes_fit-2.ensures,
          (string_fits _ _ c.deref-4.ensures.value c.bytes_fit-3.ensures, tt),
        ),
      ),
    ),
  ),
)

pub returns-clause-rest : goal.returns-clause-rest
returns-clause-rest c = rest_fits _ c.args.self.now c.deref-5.ensures.value c.rest_fits.ensures.fits

pub returns-clause-count : goal.returns-clause-count
returns-clause-count c = rest_long _ c.args.self.now c.deref-5.ensures.value c.rest_fits.ensures.count
