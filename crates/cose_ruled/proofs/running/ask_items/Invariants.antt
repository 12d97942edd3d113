use Rattle.std.proofs.Common.{◌≡◌, ◌+◌, ◌-◌, ◌≤◌, ◌^◌, None, map}
use Rattle.std.specs.Prelude.{option_map}
use Rattle.ciborium_ll.specs.Views.{left_of, offset_of, reader_of, waiting_of}
use Rattle.coset_keys.specs.View.{key_view}
use Rattle.cose_gate_core.specs.Terms.{limits_of}
use Rattle.cose_rules.specs.TokenView.{terms_view}
use Rattle.cose_ruled.specs.Asking.{asked_by, item_of}
use Rattle.cose_ruled.proofs.Runs.{Come, sight}
use Rattle.cose_ruled.proofs.running.ask_items.Given as goal

abbrev pub invariant-items : goal.invariant-items
invariant-items g l =
    let r = g.R.Read in
    let w = g.W.Write in
    record {
      who : (item_of l.asker).keys ≡ map key_view l.rules.keys.now;
      reader : r.failed (reader_of l.decoder).reader.now ≡ r.failed l.fn.input;
      name : (reader_of l.decoder).reader.ghost_name ≡ (reader_of l.initial.decoder).reader.ghost_name;
      kept : r.handle (reader_of l.decoder).reader.now ≡ r.handle l.fn.input;
      lent : w.handle l.out ≡ w.handle l.fn.out;
      fresh : waiting_of l.decoder ≡ None;
      room : l.counts.passed + l.counts.refused ≤ offset_of l.decoder;
      come : Come (limits_of l.terms) (map key_view l.rules.keys.now) l.aad (option_map terms_view l.rules.token) w g.T.Teller (r.left l.fn.input)
          (sight (asked_by l.asker) l.last.entry (offset_of l.decoder) (left_of (λ i. r.left i.reader.now) l.decoder))
          l.fn.out l.out l.fn.teller l.teller l.counts.passed l.counts.refused;
    }

abbrev pub decreases-items : goal.decreases-items
decreases-items g l = 2 ^ 64 - offset_of l.decoder
