use Rattle.std.proofs.Common.{subst, sym, ◌∙◌}
use Rattle.sha2.specs.Hashers.{Holds256}
use Rattle.sha2.specs.declared.Sha256.{Sha256}
use Rattle.cose_gate_records.proofs.Hashed.{answers_hashed}
use Rattle.cose_gate_records.proofs.digested.DigestedJudge.decide.Goals as goal

pub returns-clause-answer : goal.returns-clause-answer
returns-clause-answer c = λ subject bytes held.
    let fed : Holds256 c.replace.result bytes = subst (λ (h : Sha256). Holds256 h bytes) (sym c.replace.ensures.value) held.1 in
    answers_hashed _ c.deref.result.now bytes c.args.signature.now _ _ subject _ (c.deref.ensures.value ∙ held.0) (c.finalize-hash.ensures bytes fed)
    c.digest_over.ensures c.has.ensures
