use Rattle.std.proofs.Common.{◌≡◌, ℤ, ap, sym, ◌∙◌, w64, to_z, of_z}
use Rattle.std.proofs.lemmas.Int.{to_z-of_z}
use Rattle.std.specs.Cmp.{unsigned_Decides}
use Rattle.std.specs.Bool.{one_answer}
use Rattle.coset_labels.specs.Fields.{number}
use Rattle.coset_labels.specs.Facts.Orders.{labels_same}
use Rattle.coset_labels.proofs.label.is_same.Goals as goal

same_number : (a b : ℤ) → number a ≡ number b → a ≡ b
same_number a b e = let h : number a ≡ number b = e in cc

pub returns : goal.returns
returns c =
    let a = c.args.a in
    let b = c.args.b in
    let same = labels_same (number a) (number b) in
    let bits = unsigned_Decides (of_z w64 a) (of_z w64 b) in
    one_answer _ _
    ((λ e. sym (to_z-of_z w64 a c.ranges.a) ∙ ap (to_z w64) (bits.0 e) ∙ to_z-of_z w64 b c.ranges.b), (λ e. bits.1 (ap (of_z w64) e)))
    ((λ e. same_number a b (same.0 e)), (λ e. same.1 (ap number e)))
