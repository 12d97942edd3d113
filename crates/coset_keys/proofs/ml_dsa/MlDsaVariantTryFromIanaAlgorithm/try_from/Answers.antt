use Rattle.std.proofs.Common.{rules}
use Rattle.coset_keys.proofs.ml_dsa.MlDsaVariantTryFromIanaAlgorithm.try_from.Goals as goal

pub returns-in-ML_DSA_65 : goal.returns-in-ML_DSA_65
returns-in-ML_DSA_65 c = search rules
