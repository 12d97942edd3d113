use Rattle.std.proofs.Common.{subst}
use Rattle.ciborium_ll.specs.declared.hdr.Header.{Header}
use Rattle.ciborium_ll.specs.Title.{Begins}
use Rattle.cose_gate.proofs.Faults.{title_tells}
use Rattle.cose_gate.proofs.titles.message_tag.Goals as goal

pub returns-in_default-clause-err : goal.returns-in_default-clause-err
returns-in_default-clause-err g c = (tt, title_tells _ _ _ _ _ _ c.in_ok-header.ensures.ok (λ b rest s. (_, rest, s, c.in_default.ensures)))

pub returns-in-None-clause-err : goal.returns-in-None-clause-err
returns-in-None-clause-err g c = (tt, title_tells _ _ _ _ _ _ c.in_ok-header.ensures.ok (λ b rest s. (rest, subst (λ (z : Header). Begins b z rest) c.in-Some.ensures s, c.in-None.ensures)))
