use Rattle.std.proofs.Common.{◌≡◌, ◌≤◌, ◌+◌, min, drop, take, length}
use Rattle.ciborium_value.specs.Encoding.{enc_all, enc_pairs}
use Rattle.ciborium_value.specs.Canonical.{counted}
use Rattle.ciborium_value.specs.Facts.Heads.{SizedAll, SizedPairs}
use Rattle.ciborium_value.specs.View.{views, view_pairs}
use Rattle.ciborium_value.proofs.length.+lengths.Given as goal

abbrev pub invariant-items_len-loop-item : goal.invariant-items_len-loop-item
invariant-items_len-loop-item l = record {
  small : l.total ≤ 0xffff_ffff_ffff_ffff;
  rest : min (l.total + length (enc_all (views (drop l.item-index l.items)))) 0xffff_ffff_ffff_ffff ≡ counted (enc_all (views l.items));
  sized : SizedAll (views (take l.item-index l.items));
}

abbrev pub invariant-entries_len-loop-entry : goal.invariant-entries_len-loop-entry
invariant-entries_len-loop-entry l = record {
  small : l.total ≤ 0xffff_ffff_ffff_ffff;
  rest : min (l.total + length (enc_pairs (view_pairs (drop l.entry-index l.entries)))) 0xffff_ffff_ffff_ffff ≡ counted (enc_pairs (view_pairs l.entries));
  sized : SizedPairs (view_pairs (take l.entry-index l.entries));
}
