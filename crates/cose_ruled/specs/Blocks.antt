-- What is written of an item, so that its signatures can be checked: which of them, over which
-- bytes, by which algorithm and under which keys, or why none. All numbers are eight bytes, the
-- lowest first.
use Rattle.std.specs.Prelude.{◌≡◌, ℕ, ◌-◌, List, [], ◌∷◌, ◌++◌, length, take, drop, reverse, map, filter, flat_map, nat_eq, codes, Bool, true, false, Option, None, Some, Result, Ok, Err}
use Rattle.std.specs.Int.{w64, cast_unsigned}
use Rattle.std.specs.List.{common_prefix_len, enumerate_from}
use Rattle.coset_keys.specs.Fields.{KeyFields}
use Rattle.cose_rules.specs.Claims.{TermsFields}
use Rattle.cose_rules.specs.Keys.{fits}
use Rattle.cose_rules.specs.RefusalTexts.{refusal_text}
use Rattle.cose_rules.specs.Rule.{RulingFields, ask, refuse}
use Rattle.cose_rules.specs.declared.algorithms.Scheme.{Scheme}
use Rattle.cose_rules.specs.declared.deciding.Refusal.{Refusal as Unasked}
use Rattle.cose_gate_core.specs.Questions.{Subject, Question, number_of, or_nothing}
use Rattle.cose_gate_core.specs.ReasonNames.{refusal_name}
use Rattle.cose_gate_core.specs.declared.about.MessageKind.{MessageKind}
use Rattle.cose_gate_core.specs.declared.report.Entry.{Entry}
use Rattle.cose_gate_core.specs.declared.report.Refusal.TheVariants as gate
use Rattle.cose_gate_program.specs.Lines.{cose_text}
use Rattle.cose_gate_records.specs.Digests.{digest_of}
use Rattle.cose_gate_records.specs.Framing.{eight, framed}
use Rattle.cose_ruled.specs.Judging.{ruled}
use Rattle.cose_ruled.specs.Tokens.{IsOutcome, token_text}
use Rattle.cose_ruled.specs.declared.token.Outcome.{Outcome}
use Rattle.cose_ruled.specs.declared.token.Outcome.TheVariants.{Passed, Refused, NoToken}

-- whether the rules allow a question under these keys
abbrev pub is_ask : RulingFields → Bool
is_ask (ask s id) = true
is_ask (refuse r) = false

abbrev pub asks : List KeyFields → Question → Bool
asks keys q = is_ask (ruled keys q.subject)

-- the places of the candidates among the keys, counted from 0, in order
abbrev pub places : Scheme → List ℕ → List KeyFields → List ℕ
places s id keys = map (λ p. p.0) (filter (λ p. fits s id p.1) (enumerate_from 0 keys))

-- what a question is about: the tag of the message, the number of the algorithm in two's complement,
-- and the places of the candidates; or why the rules refuse it
abbrev pub about_by : MessageKind → Scheme → List ℕ → List ℕ
about_by kind s at = eight (number_of kind) ++ (eight (cast_unsigned w64 s.number) ++ framed at)

abbrev pub by_ruling : List KeyFields → MessageKind → RulingFields → Result (List ℕ) Unasked
by_ruling keys kind (ask s id) = Ok (about_by kind s (flat_map eight (places s id keys)))
by_ruling keys kind (refuse r) = Err r

abbrev pub about_of : List KeyFields → Subject → Result (List ℕ) Unasked
about_of keys s = by_ruling keys s.kind (ruled keys s)

-- what a block shows of a question: what it is about, the covered bytes, and the signature or tag
-- with the question's digest; or why the rules refuse it
pub data Part : Type 0 where
  shown : List ℕ → List ℕ → List ℕ → Part
  refused : Unasked → Part

abbrev pub part_by : Result (List ℕ) Unasked → List ℕ → List ℕ → Part
part_by (Ok about) covered signed = shown about covered signed
part_by (Err why) covered signed = refused why

abbrev pub part_of : List KeyFields → Question → Part
part_of keys q = part_by (about_of keys q.subject) q.covered (framed q.signature ++ digest_of q)

-- the covered bytes of the first question
abbrev pub covered_in : Part → List ℕ
covered_in (shown about covered signed) = covered
covered_in (refused why) = []

abbrev pub first_covered : List Part → Option (List ℕ)
first_covered [] = None
first_covered (p ∷ ps) = Some (covered_in p)

abbrev pub base_of : List Part → List ℕ
base_of ps = or_nothing (first_covered ps)

-- how many bytes two lists begin with in common, and how many they end with
abbrev pub common_front : List ℕ → List ℕ → ℕ
common_front = common_prefix_len nat_eq

abbrev pub common_back : List ℕ → List ℕ → ℕ
common_back xs ys = common_front (reverse xs) (reverse ys)

-- covered bytes beside those of the first question: how many bytes of the beginning of both are the
-- same; where in the first that begins with which both end; and what is between
abbrev pub beside_by : List ℕ → List ℕ → ℕ → ℕ → List ℕ
beside_by base rest front back =
    eight front ++ (eight (length base - back) ++ framed (take (length rest - back) rest))

abbrev pub beside : List ℕ → List ℕ → List ℕ
beside base covered =
    let front = common_front base covered in
    let rest = drop front covered in
    beside_by base rest front (common_back (drop front base) rest)

-- what is written of a question
abbrev pub question_text : List ℕ → Part → List ℕ
question_text base (shown about covered signed) =
    framed (about ++ (beside base covered ++ signed))
question_text base (refused why) = []

-- why the rules refuse a question, and why an item is refused: what is wrong with its shape, or why
-- the rules refuse one of its questions, or why it isn't a token that passes
abbrev pub why_text : Part → List ℕ
why_text (shown about covered signed) = []
why_text (refused why) = refusal_text why

abbrev pub why_by : Outcome → List Part → List ℕ
why_by (Refused (gate.Shape e)) ps = cose_text e
why_by (NoToken why) ps = token_text why
why_by outcome ps = flat_map why_text ps

-- the verdict, as on the item's line if it isn't that on a token
abbrev pub verdict_text : Outcome → List ℕ
verdict_text Passed = codes "passed"
verdict_text (Refused r) = codes "refused: " ++ refusal_name r
verdict_text (NoToken why) = codes "refused: Claims"

-- the covered bytes of the first question, and the questions, each after its length, if the item
-- passed; else no bytes and no questions
abbrev pub body_by : Outcome → List Part → List ℕ
body_by Passed ps = framed (base_of ps) ++ flat_map (question_text (base_of ps)) ps
body_by outcome ps = framed []

-- the block of an item with this entry, which ends at this offset, of which this is said, and about
-- which these questions were asked, after its length: its number, where it begins and ends, how many
-- questions were asked, the verdict, why it is refused, and the questions
abbrev pub text_by : Entry → ℕ → Outcome → List Part → List ℕ
text_by e end outcome ps =
    eight e.number ++ (eight e.offset ++ (eight end ++ (eight (length ps)
    ++ (framed (verdict_text outcome) ++ (framed (why_by outcome ps) ++ body_by outcome ps)))))

abbrev pub block_by : Entry → ℕ → Outcome → List Part → List ℕ
block_by e end outcome ps = framed (text_by e end outcome ps)

-- the block of an item, which by its first question is a token that passes, if it has to be one
abbrev pub IsBlock : Option TermsFields → Entry → ℕ → List Part → List ℕ → Type 0
IsBlock token e end ps block =
    (outcome : Outcome) × IsOutcome token e.verdict (base_of ps) outcome
    × (block ≡ block_by e end outcome ps)

-- what a judge keeps: the keys, and what was told of all questions so far
pub record AskedSoFar : Type 0 where
  pub keys : List KeyFields
  pub told : List Part

-- on what its answers depend: the keys; and what was told before the item at hand
pub record ItemTerms : Type 0 where
  pub keys : List KeyFields
  pub before : List Part
