use Rattle.std.proofs.Common.{◌≡◌, ◌-◌, ◌^◌, None}
use Rattle.ciborium_ll.specs.Seen.{Takes}
use Rattle.ciborium_ll.specs.Views.{offset_of, waiting_of, reader_of, seen}
use Rattle.ciborium.specs.declared.frames.Frame.TheVariants as code
use Rattle.ciborium.specs.Frames.{FillsFrame}
use Rattle.ciborium.proofs.frames.fill_items.Given as goal

abbrev pub invariant-parts : goal.invariant-parts
invariant-parts g l = record {
  taken : Takes (seen g.R.Read l.fn.decoder) (seen g.R.Read l.decoder) (FillsFrame (code.Items l.fn.list) (code.Items l.list) (offset_of l.fn.decoder) l.fn.exact.holds l.exact.holds);
  failed : g.R.Read.failed (reader_of l.decoder) ≡ g.R.Read.failed (reader_of l.fn.decoder);
  kept : g.R.Read.handle (reader_of l.decoder) ≡ g.R.Read.handle (reader_of l.fn.decoder);
  fresh : waiting_of l.decoder ≡ None;
}

abbrev pub decreases-parts : goal.decreases-parts
decreases-parts g l = 2 ^ 64 - offset_of l.decoder
