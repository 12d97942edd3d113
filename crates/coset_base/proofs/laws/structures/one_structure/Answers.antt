use Rattle.coset_base.proofs.OneStructure.{one_structure, parts_fit, sig_parts, mac_parts, enc_parts}
use Rattle.coset_base.proofs.laws.structures.one_structure.Goals as goal

pub returns : goal.returns
returns c = record { same = one_structure; fit = parts_fit; sig = sig_parts; mac = mac_parts; enc = enc_parts }
