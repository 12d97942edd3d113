-- The algorithm of each variant of ML-DSA (FIPS 204; registry "COSE Algorithms").
use Rattle.cose_iana.specs.declared.algorithm.Algorithm.{Algorithm}
use Rattle.cose_iana.specs.declared.algorithm.Algorithm.TheVariants as algorithm
use Rattle.coset_keys.specs.declared.ml_dsa.MlDsaVariant.{MlDsaVariant}
use Rattle.coset_keys.specs.declared.ml_dsa.MlDsaVariant.TheVariants as variant

abbrev pub algorithm_of : MlDsaVariant → Algorithm
algorithm_of variant.MlDsa44 = algorithm.ML_DSA_44
algorithm_of variant.MlDsa65 = algorithm.ML_DSA_65
algorithm_of variant.MlDsa87 = algorithm.ML_DSA_87
