use Rattle.std.proofs.Common.{◌≡◌, true, Some, option_map, ap, sym, ◌∙◌}
use Rattle.ciborium_value.specs.Tree.{bytes}
use Rattle.coset_headers.specs.Fields.{ProtectedFields}
use Rattle.coset_headers.specs.Written.{shown}
use Rattle.coset_headers.specs.Received.{is_received_protected}
use Rattle.coset_base.specs.Put.{protected_put}
use Rattle.coset_base.proofs.Received.{prot_shown, hdr_written, sig_written, sigs_written}
use Rattle.coset_base.proofs.laws.sink.put_is_written.Goals as goal

prot_written : (p : ProtectedFields) → is_received_protected p ≡ true → option_map bytes (shown p) ≡ Some (protected_put p)
prot_written p r =
    let w = prot_shown p r in
    ap (option_map bytes) w.1 ∙ ap Some (sym w.2)

pub returns : goal.returns
returns c = record { header = hdr_written; protected = prot_written; signature = sig_written; signatures = sigs_written }
