use Rattle.std.proofs.Common.{◌≡◌, refl}
use Rattle.coset_headers.proofs.SameParts.{upto, plain_by, and_then, and_else}
use Rattle.coset_headers.proofs.header.Header.same_plain.Goals as goal
use Rattle.coset_headers.proofs.header.Header.same_plain.Goals.{then-eq, else-eq, then-eq-2, else-eq-2, then-eq-3, else-eq-3, then-eq-4, else-eq-4, then-eq-5, else-eq-5}

pub returns-then-eq-6 : goal.returns-then-eq-6
returns-then-eq-6 c =
    let a = c.args.self.now in
    let b = c.args.other.now in
    let e2 : c.if-eq.value ≡ upto 2 a b = elim c.if-eq.branch [
      | then-eq w ↦ and_then c.eq.ensures w.if-eq.true w.eq-then-eq.ensures w.value-is
      | else-eq w ↦ and_else _ c.eq.ensures w.if-eq.false w.value-is
    ] in
    let e3 : c.if-eq-2.value ≡ upto 3 a b = elim c.if-eq-2.branch [
      | then-eq-2 w ↦ and_then e2 w.if-eq-2.true w.eq-then-eq-2.ensures w.value-is
      | else-eq-2 w ↦ and_else _ e2 w.if-eq-2.false w.value-is
    ] in
    let e4 : c.if-eq-3.value ≡ upto 4 a b = elim c.if-eq-3.branch [
      | then-eq-3 w ↦ and_then e3 w.if-eq-3.true w.eq-then-eq-3.ensures w.value-is
      | else-eq-3 w ↦ and_else _ e3 w.if-eq-3.false w.value-is
    ] in
    let e5 : c.if-eq-4.value ≡ upto 5 a b = elim c.if-eq-4.branch [
      | then-eq-4 w ↦ and_then e4 w.if-eq-4.true w.eq-then-eq-4.ensures w.value-is
      | else-eq-4 w ↦ and_else _ e4 w.if-eq-4.false w.value-is
    ] in
    let e6 : c.if-eq-5.value ≡ upto 6 a b = elim c.if-eq-5.branch [
      | then-eq-5 w ↦ and_then e5 w.if-eq-5.true w.eq-then-eq-5.ensures w.value-is
      | else-eq-5 w ↦ and_else _ e5 w.if-eq-5.false w.value-is
    ] in
    plain_by a b _ (and_then e6 c.if-eq-6.true c.eq-then-eq-6.ensures refl)

pub returns-else-eq-6 : goal.returns-else-eq-6
returns-else-eq-6 c =
    let a = c.args.self.now in
    let b = c.args.other.now in
    let e2 : c.if-eq.value ≡ upto 2 a b = elim c.if-eq.branch [
      | then-eq w ↦ and_then c.eq.ensures w.if-eq.true w.eq-then-eq.ensures w.value-is
      | else-eq w ↦ and_else _ c.eq.ensures w.if-eq.false w.value-is
    ] in
    let e3 : c.if-eq-2.value ≡ upto 3 a b = elim c.if-eq-2.branch [
      | then-eq-2 w ↦ and_then e2 w.if-eq-2.true w.eq-then-eq-2.ensures w.value-is
      | else-eq-2 w ↦ and_else _ e2 w.if-eq-2.false w.value-is
    ] in
    let e4 : c.if-eq-3.value ≡ upto 4 a b = elim c.if-eq-3.branch [
      | then-eq-3 w ↦ and_then e3 w.if-eq-3.true w.eq-then-eq-3.ensures w.value-is
      | else-eq-3 w ↦ and_else _ e3 w.if-eq-3.false w.value-is
    ] in
    let e5 : c.if-eq-4.value ≡ upto 5 a b = elim c.if-eq-4.branch [
      | then-eq-4 w ↦ and_then e4 w.if-eq-4.true w.eq-then-eq-4.ensures w.value-is
      | else-eq-4 w ↦ and_else _ e4 w.if-eq-4.false w.value-is
    ] in
    let e6 : c.if-eq-5.value ≡ upto 6 a b = elim c.if-eq-5.branch [
      | then-eq-5 w ↦ and_then e5 w.if-eq-5.true w.eq-then-eq-5.ensures w.value-is
      | else-eq-5 w ↦ and_else _ e5 w.if-eq-5.false w.value-is
    ] in
    plain_by a b _ (and_else _ e6 c.if-eq-6.false refl)
