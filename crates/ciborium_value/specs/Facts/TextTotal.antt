-- The orders of all trees by encodings are total, and tie equal trees alone.
use Rattle.std.proofs.Common.{◌≡◌, Bool, ap, ◌∙◌, sym}
use Rattle.std.proofs.lemmas.Cmp.{tied_itself}
use Rattle.std.specs.Prelude.{◌↔◌, IsTrue}
use Rattle.std.specs.Cmp.{IsTotalOrder, nat_cmp_total, on_total, then_total}
use Rattle.std.specs.Cmp.Lexicographic.{nat_list_cmp_total}
use Rattle.std.specs.declared.cmp.Ordering.TheVariants.{Equal}
use Rattle.std.specs.Ordering.{is_eq}
use Rattle.ciborium_value.specs.Tree.{Tree}
use Rattle.ciborium_value.specs.Encoding.{enc}
use Rattle.ciborium_value.specs.Order.{tree_cmp}
use Rattle.ciborium_value.specs.Canonical.{bytewise, counted, canonical, text_cmp, canonical_cmp}
use Rattle.ciborium_value.specs.Facts.Orders.{equal_of, then_tied}
use Rattle.ciborium_value.specs.Facts.Ties.{tied}
use Rattle.ciborium_value.specs.Facts.TreeTotal.{tree_total}

pub bytewise_total : IsTotalOrder bytewise
bytewise_total = on_total enc nat_list_cmp_total

pub text_total : IsTotalOrder text_cmp
text_total = then_total bytewise_total tree_total

pub canonical_total : IsTotalOrder canonical_cmp
canonical_total = then_total (then_total (on_total (λ t. counted (enc t)) nat_cmp_total) bytewise_total) tree_total

pub text_tied : (t s : Tree) → text_cmp t s ≡ Equal → t ≡ s
text_tied t s e = tied t s (then_tied (bytewise t s) (tree_cmp t s) e).1

pub canonical_same : (t s : Tree) (r : Bool) → r ≡ is_eq (canonical_cmp t s) → IsTrue r ↔ (t ≡ s)
canonical_same t s r e = (
  λ h. tied t s (then_tied (canonical t s) (tree_cmp t s) (equal_of (canonical_cmp t s) (sym e ∙ h))).1,
  λ h. e ∙ ap (λ z. is_eq (canonical_cmp z s)) h ∙ ap is_eq (tied_itself canonical_total s),
)
