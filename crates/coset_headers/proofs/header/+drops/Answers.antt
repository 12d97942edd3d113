use Rattle.std.proofs.Common.{rules, ◌≡◌, length, arith, ap, refl}
use Rattle.std.proofs.lemmas.List.{with_items_is}
use Rattle.coset_headers.specs.declared.header.CoseSignature.TheViews.{size-CoseSignature}
use Rattle.coset_headers.proofs.Nested.{no_deeper, flat_more, emptied}
use denote.Param.Weighed.{most}
use Rattle.coset_headers.proofs.header.+drops.Goals as goal

pub let_go-each-preserved : goal.let_go-each-preserved
let_go-each-preserved t c = (
  search rules,
  flat_more c.each.signature-items c.each.signature-index _ (omega arith) c.each.invariant.1 (emptied _ _ _ _ _ refl refl refl c.let_go.ensures refl c.let_go-in-each.ensures),
)

pub let_go-drain-requires : goal.let_go-drain-requires
let_go-drain-requires t c =
    let h = c.decreases in
    let all : length c.each.signature-items ≡ length c.args.signatures.now.items = omega arith in
    let k = no_deeper c.each.signature-items c.args.signatures.now.items all (λ k d p. c.each.invariant.1 k d (omega arith)) in
    let e = with_items_is c.args.signatures.now c.each.signature-items (omega (arith, c.args.signatures.now.ok.0)) in
    let f = ap (most size-CoseSignature) e in
    (omega (arith, h, k, f), tt)
