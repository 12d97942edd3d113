use Rattle.std.proofs.Common.{rules, ◌≡◌, [], sym, subst}
use Rattle.ciborium_value.specs.Tree as spec
use Rattle.coset_labels.specs.Faults.{unexpected}
use Rattle.coset_headers.specs.Wrong.{WrongContentType, empty_text, white_space, no_one_slash}
use Rattle.coset_headers.proofs.Empty.{empty_by}
use Rattle.coset_headers.proofs.values.check_content_type.Goals as goal

pub returns-then-is_empty : goal.returns-then-is_empty
returns-then-is_empty c = let e : c.args.text.now ≡ [] = empty_by c.args.text.now _ c.is_empty.ensures c.if-is_empty.true in subst (λ z. WrongContentType (spec.text z) unexpected) (sym e) empty_text

pub returns-then-ne : goal.returns-then-ne
returns-then-ne c = white_space c.args.text.now (search rules)

pub returns-then-slashes-ne1 : goal.returns-then-slashes-ne1
returns-then-slashes-ne1 c = no_one_slash c.args.text.now (search rules)
