use Rattle.std.proofs.Common.{length, take, ◌-◌, ◌≡◌, ◌≤◌}
use Rattle.std.specs.Io.KnownBytes.{Consumes}
use Rattle.cose_gate_program.specs.InBlocks.{left_of_blocks}
use Rattle.cose_gate_program.proofs.blocks.Blocks.read_on.Given as goal

-- the bytes read so far are those that were first
abbrev pub invariant-loop-at : goal.invariant-loop-at
invariant-loop-at g l =
    let left = left_of_blocks g.R.Read.remaining in
    record {
      within : l.at ≤ length l.«data»;
      took : Consumes (left l.fn.self) (left l.self) (take l.at l.«data»);
      failed : l.self.failed ≡ l.fn.self.failed;
    }

abbrev pub decreases-loop-at : goal.decreases-loop-at
decreases-loop-at g l = length l.initial.«data» - l.at
