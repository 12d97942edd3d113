use Rattle.std.proofs.Common.{arith, ◌∙◌, ◌-◌}
use Rattle.cose_gate_c.proofs.Written.{bare_length, bare_front}
use Rattle.cose_gate_c.proofs.keeping.front_of.Goals as goal

pub overflow_sub-len : goal.overflow_sub-len
overflow_sub-len c =
    let l = bare_length _ _ _ c.in_ok-record.ensures c.in_ok-begin.ensures.holds.1 in
    omega (arith, l, c.len.ensures, c.deref.ensures.len)

pub slice_bounds-extend_from_slice-count : goal.slice_bounds-extend_from_slice-count
slice_bounds-extend_from_slice-count c =
    let l = bare_length _ _ _ c.in_ok-record.ensures c.in_ok-begin.ensures.holds.1 in
    omega (arith, l, c.len.ensures, c.deref.ensures.len)

pub slice_bounds-extend_from_slice-start : goal.slice_bounds-extend_from_slice-start
slice_bounds-extend_from_slice-start c =
    let l = bare_length _ _ _ c.in_ok-record.ensures c.in_ok-begin.ensures.holds.1 in
    grind (arith, l, c.len.ensures, c.deref.ensures.len)

pub returns : goal.returns
returns c =
    let l = bare_length _ _ _ c.in_ok-record.ensures c.in_ok-begin.ensures.holds.1 in
    let n = bare_front _ _ _ (c.len.result - 16 - 8) c.in_ok-record.ensures c.in_ok-begin.ensures.holds.1 (omega (arith, l, c.len.ensures, c.deref.ensures.len)) in
    c.in_ok-extend_from_slice.ensures.items ∙ rw (c.new-front.ensures.items, c.deref.ensures.value) (n ∙ c.in_ok-begin.ensures.holds.0)
