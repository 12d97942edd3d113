use Rattle.coset_headers.proofs.CanonicalSteps.{short, map_canonical, several_canonical, single_canonical}
use Rattle.coset_headers.proofs.as_written.+canonical.Goals as goal

pub are_canonical_elements-returns-in_default : goal.are_canonical_elements-returns-in_default
are_canonical_elements-returns-in_default t c = short c.args.items.now c.in_default.len_below

pub is_canonical_header-returns-in-Map : goal.is_canonical_header-returns-in-Map
is_canonical_header-returns-in-Map t c = map_canonical c.args.value.now c.in-Map.entries c.deref.result.now c.are_canonical_entries.result c.in-Map.is c.deref.ensures.value c.are_canonical_entries.ensures

pub are_canonical_counter_signatures-returns-then-len-gt1 : goal.are_canonical_counter_signatures-returns-then-len-gt1
are_canonical_counter_signatures-returns-then-len-gt1 t c =
    several_canonical c.args.value.now c.in-Array.items c.deref.result.now c.deref-then-len-gt1.result.now c.len.result c.is_one_signature.result c.are_canonical_signatures.result c.in-Array.is c.deref.ensures.value c.is_one_signature.ensures c.if-is_one_signature.false
    c.len.ensures c.if-len-gt1.true c.deref-then-len-gt1.ensures.value c.are_canonical_signatures.ensures

pub are_canonical_counter_signatures-returns-else-len-gt1 : goal.are_canonical_counter_signatures-returns-else-len-gt1
are_canonical_counter_signatures-returns-else-len-gt1 t c =
    single_canonical c.args.value.now c.in-Array.items c.deref.result.now c.len.result c.is_one_signature.result c.in-Array.is c.deref.ensures.value c.is_one_signature.ensures c.if-is_one_signature.false c.len.ensures c.if-len-gt1.false
