-- What a call of the gate goes by, and what is seen of what it works on.
use Rattle.std.specs.Prelude.{ℕ, List}
use Rattle.ciborium_ll.specs.Views.{left_of, offset_of}
use Rattle.ciborium_ll.specs.declared.dec.Decoder.{Decoder}
use Rattle.ciborium_ll.specs.declared.read.Read.{Ghosts as Reads}
use Rattle.ciborium_ll.specs.declared.write.Write.{Ghosts as Writes}
use Rattle.cose_gate_core.specs.Findings.{Bounds}
use Rattle.cose_gate_core.specs.Outcome.{Rules, GateState}
use Rattle.cose_gate_core.specs.Passing.{ItemRules, ItemSight}
use Rattle.cose_gate_core.specs.Terms.{limits_of}
use Rattle.cose_gate_core.specs.declared.gating.ItemTerms.{ItemTerms}
use Rattle.cose_gate_core.specs.declared.report.Report.{Ghosts as Reports}
use Rattle.cose_gate_core.specs.declared.judge.Judge.{Ghosts as Judges}

-- what a call of the gate goes by; `P.Report` and `J.Judge` hold the meaning of its report and its
-- judge, which the bounds of `P` and `J` bring
abbrev pub rules_by : {P J : Type 0} → Bounds → (p : Reports P) (j : Judges J) → J → List ℕ
    → Rules j.Told p.State
rules_by limits p j judge aad = record {
  limits = limits;
  decided = j.decided;
  folded = p.folded;
  allows = j.yes (j.who judge);
  aad = aad;
}

-- what is seen of the decoder, the writer, the report and the judge
abbrev pub sight_of : {R E W F P J : Type 0}
    (r : Reads R E) (w : Writes W F) (p : Reports P) (j : Judges J)
    → Decoder R → W → P → J → GateState j.Told p.State
sight_of r w p j decoder out report judge = record {
  told = j.told judge;
  state = p.state report;
  written = w.written out;
  offset = offset_of decoder;
  left = left_of r.left decoder;
}

-- what one item goes by, and what is seen of the writer and the judge
abbrev pub item_rules : {J : Type 0} → (j : Judges J) → J → ItemTerms → ItemRules j.Told
item_rules j judge item = record {
  limits = limits_of item.terms;
  decided = j.decided;
  allows = j.yes (j.who judge);
  aad = item.aad.now;
}

abbrev pub item_sight : {W F J : Type 0} → (w : Writes W F) (j : Judges J) → W → J
    → ItemSight j.Told
item_sight w j out judge = record { told = j.told judge; written = w.written out }
