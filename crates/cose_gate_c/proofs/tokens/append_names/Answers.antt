use Rattle.std.proofs.Common.{◌≡◌, ◌++◌, map, subst, arith}
use Rattle.std.proofs.lemmas.Grind.{common_steps}
use Rattle.std.proofs.lemmas.List.Elements.{All-more}
use Rattle.std.proofs.lemmas.List.{take_all}
use Rattle.std.specs.List.{All}
use Rattle.std.specs.Prelude.{IsUtf8}
use Rattle.coset_labels.specs.View.{label_view}
use Rattle.cose_gate_c.specs.Tokens.{name_of}
use Rattle.cose_gate_c.proofs.tokens.append_names.Goals as goal

pub loop-name-preserved : goal.loop-name-preserved
loop-name-preserved c =
    let e = rw c.in-Some.is at c.in_ok-label.ensures in
    record {
      texts = All-more (λ n. IsUtf8 n.bytes.now) c.args.names.now c.loop-name.name-index _ c.loop-name-test.true c.loop-name.invariant.texts e.0;
      appended = grind (arith, common_steps, e.1);
    }

pub returns : goal.returns
returns c =
    let whole = take_all c.loop-name.name-index c.args.names.now c.loop-name-test.false in (
      subst (λ z. All (λ n. IsUtf8 n.bytes.now) z) whole c.loop-name.invariant.texts,
      subst (λ z. map label_view c.loop-name.labels.items ≡ map label_view c.args.labels.now.items ++ map name_of z) whole c.loop-name.invariant.appended,
    )
