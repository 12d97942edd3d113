-- What a clause sees of a reader in blocks.
use Rattle.std.specs.Prelude.{ℕ, List, Option}
use Rattle.std.specs.Io.Buffered.{reader_remaining}
use Rattle.std.specs.declared.io.buffered.BufReader.{BufReader}
use Rattle.std.specs.Global.{Global}
use Rattle.ciborium_ll.specs.Count.{total}
use Rattle.cose_gate_program.specs.declared.blocks.Blocks.{Blocks}

-- the reader of std, with the block that it holds
abbrev pub blocks_reader : {R : Type 0} → Blocks R → BufReader R Global
blocks_reader b = b.reader

-- how often it has failed
abbrev pub blocks_failures : {R : Type 0} → Blocks R → ℕ
blocks_failures b = total b.failed

-- the bytes to come: those of the block, and then those of the reader after it, if these are known
abbrev pub left_of_blocks : {R : Type 0} → (R → Option (List ℕ)) → Blocks R → Option (List ℕ)
left_of_blocks remaining b = reader_remaining remaining b.reader
