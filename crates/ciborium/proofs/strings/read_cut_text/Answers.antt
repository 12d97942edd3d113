use Rattle.std.proofs.Common.{rules}
use Rattle.ciborium.proofs.Texts.{string_utf8}
use Rattle.ciborium.proofs.Halting.{was_taken}
use Rattle.ciborium.proofs.strings.read_cut_text.Goals as goal

pub returns-in-None-clause-err : goal.returns-in-None-clause-err
returns-in-None-clause-err g c = λ title t e. absurd (c.in-None.ensures.none (string_utf8 _ _ _ title c.in_ok-read_open.ensures.ok.has t))

pub returns-in-None-clause-leaves : goal.returns-in-None-clause-leaves
returns-in-None-clause-leaves g c =
    record { stops = was_taken c.in_ok-read_open.ensures.ok; one = search rules; steady = search rules }
