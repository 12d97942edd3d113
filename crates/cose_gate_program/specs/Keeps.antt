-- The keys of the judge.
use Rattle.std.specs.Prelude.{List}
use Rattle.coset_keys.specs.Fields.{KeyFields}
use Rattle.coset_keys.specs.View.{key_set_view}
use Rattle.cose_gate_program.specs.declared.index.Keys.{Keys}
use Rattle.cose_gate_program.specs.declared.index.Keys.TheVariants as code
use Rattle.cose_gate_program.specs.declared.judge.HmacJudge.{HmacJudge}

abbrev pub keys_in : Keys → List KeyFields
keys_in (code.Set keys) = key_set_view keys.now
keys_in (code.Index index) = key_set_view index.set.now

abbrev pub keys_of : HmacJudge → List KeyFields
keys_of j = keys_in j.keys
