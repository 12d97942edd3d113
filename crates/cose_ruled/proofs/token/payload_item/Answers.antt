use Rattle.std.proofs.Common.{ap, sym, ◌∙◌, MatchOption, option_copied}
use Rattle.std.proofs.lemmas.Result.{IfOk-weaker}
use Rattle.ciborium.specs.Front.{Reads}
use Rattle.ciborium.specs.Items.{nesting}
use Rattle.ciborium_value.specs.Tree.{Tree}
use Rattle.ciborium_value.specs.View.{view}
use Rattle.cose_ruled.specs.Tokens.{Covers}
use Rattle.cose_ruled.proofs.Tokens.{no_structure, no_payload, covers_by}
use Rattle.cose_ruled.proofs.token.payload_item.Goals as goal

pub returns-in-Some-payload_in : goal.returns-in-Some-payload_in
returns-in-Some-payload_in c =
    let payload = c.in-Some-payload_in.payload.now in
    let covered = c.args.covered.now in
    IfOk-weaker c.item_of-in-Some-payload_in.result
    (λ item. MatchOption item ((t : Tree) → Reads payload nesting t → ⊥) (λ v. Reads payload nesting (view v)))
    (λ item. MatchOption item ((t : Tree) → Covers covered t → ⊥) (λ v. Covers covered (view v)))
    (covers_by covered (view c.in-Some.structure) (rw c.in-Some.is at c.in_ok-structure.ensures) payload
    (sym c.payload_in.ensures ∙ ap option_copied c.in-Some-payload_in.is))
    c.item_of-in-Some-payload_in.ensures

pub returns-in-Some : goal.returns-in-Some
returns-in-Some c =
    no_payload c.args.covered.now (view c.in-Some.structure) (rw c.in-Some.is at c.in_ok-structure.ensures)
    (sym c.payload_in.ensures ∙ ap option_copied c.in-None-payload_in.is)

pub returns : goal.returns
returns c = no_structure c.args.covered.now (rw c.in-None.is at c.in_ok-structure.ensures)
