use Rattle.std.proofs.Common.{◌≡◌, ◌++◌, ℕ, List}
use Rattle.std.specs.Global.{Vec}
use Rattle.std.specs.Prelude.{option_map}
use Rattle.std.proofs.lemmas.Result.{IfOk-weaker}
use Rattle.cose_rules.specs.TokenView.{terms_view}
use Rattle.cose_ruled.specs.Asking.{about_item, before}
use Rattle.cose_ruled.specs.Blocks.{Part, IsBlock}
use Rattle.cose_ruled.proofs.Asks.{block_since}
use Rattle.cose_ruled.proofs.asker.RuledAsker.block.Goals as goal

pub returns : goal.returns
returns c =
    let self = c.args.self.now in
    let all = before self in
    let now = about_item self in
    let token = option_map terms_view c.args.token in
    let entry = c.args.entry.now in
    IfOk-weaker c.block.result (λ (text : Vec ℕ). IsBlock token entry c.args.end now text.items)
    (λ (text : Vec ℕ). (ps : List Part) → all ++ now ≡ all ++ ps → IsBlock token entry c.args.end ps text.items)
    (λ text is ps e. block_since token entry c.args.end all now ps text.items is e) c.block.ensures
