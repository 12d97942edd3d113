use Rattle.std.proofs.Common.{◌∙◌, sym, ap}
use Rattle.ciborium_value.specs.Tree.{text}
use Rattle.ciborium_value.specs.View.{view}
use Rattle.ciborium_value.proofs.Views.{view_text}
use Rattle.ciborium_traits.proofs.Characters.{character_read, character_refused}
use Rattle.ciborium_traits.proofs.texts.CharDeserialize.take.Goals as goal

pub returns-in-Ok-clause-ok : goal.returns-in-Ok-clause-ok
returns-in-Ok-clause-ok c =
    let t = sym c.bare.ensures ∙ ap view c.in-Text.is ∙ view_text c.in-Text.text ∙ ap text (sym c.as_str.ensures.value) in
    character_read _ c.as_str.result.now c.in-Ok.character t c.as_str.utf8 c.in-Ok.ensures.value

pub returns-in_default-parse-clause-err : goal.returns-in_default-parse-clause-err
returns-in_default-parse-clause-err c =
    let t = sym c.bare.ensures ∙ ap view c.in-Text.is ∙ view_text c.in-Text.text ∙ ap text (sym c.as_str.ensures.value) in
    character_refused _ c.as_str.result.now t c.as_str.utf8 c.in_default-parse.ensures.value
