use Rattle.std.proofs.Common.{◌≡◌, ◌∙◌, ℕ, List, [], Bool, Some, map, refl, ap, subst}
use Rattle.coset_labels.specs.View.{label_view}
use Rattle.cose_gate_records.specs.Calls.{Buffers}
use Rattle.cose_gate_records.specs.declared.answer.Answer.{Answer}
use Rattle.cose_rules.specs.Claims.{TermsFields}
use Rattle.cose_rules.specs.TokenView.{terms_view}
use Rattle.cose_gate_c.specs.RuledAsking.{AsksRuled}
use Rattle.cose_gate_c.specs.Tokens.{AreTexts, AsksTokens, no_memory, ran, terms_by}
use Rattle.cose_gate_c.specs.declared.tokens.TokenChoice.{TokenChoice}
use Rattle.cose_gate_c.proofs.tokens.ask_tokens.Goals as goal

-- it ran with the terms that C says
asks : (nesting layers : ℕ) (strict : Bool) (token : TokenChoice) (keys aad input : List ℕ) (old new : Buffers) (answer : Answer) (terms : TermsFields) → AreTexts token → terms ≡ terms_by token
    → AsksRuled nesting layers strict (Some terms) keys aad input old new answer → AsksTokens nesting layers strict token keys aad input old new answer
asks nesting layers strict token keys aad input old new answer terms texts same asked = ran texts (subst (λ (t : TermsFields). AsksRuled nesting layers strict (Some t) keys aad input old new answer) same asked)

pub returns-in_default : goal.returns-in_default
returns-in_default c = no_memory (record {
  status_is = c.place_none.ensures.status;
  length_is = c.place_none.ensures.length;
  out_is = c.place_none.ensures.same;
  lines_are = (
    c.stop_for_memory.ensures.shown [] c.args.lines.now refl refl,
    c.place_none.ensures.lines ∙ c.stop_for_memory.ensures.counted [] refl,
  );
})

pub returns-in-Some-token_terms : goal.returns-in-Some-token_terms
returns-in-Some-token_terms c =
    let needed = rw c.in-Some.is at c.in-Ok.ensures in
    let terms = c.in-Some-token_terms.ensures in
    asks _ _ _ c.args.token _ _ _ _ _ _ (terms_view c.in-Some-token_terms.terms) (record { issuer = terms.0; audience = terms.1; named = needed.0 })
    (terms.2 (ap (λ z. map label_view z) c.deref.ensures.value ∙ needed.1)) c.ask_items.ensures
