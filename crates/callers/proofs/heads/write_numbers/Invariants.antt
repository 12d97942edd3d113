use Rattle.std.proofs.Common.{◌≡◌, ◌++◌, length, take, Some}
use Rattle.std.specs.Prelude.{flat_map}
use Rattle.ciborium_ll.specs.Title.{title_of}
use Rattle.ciborium_ll.specs.Views.{memory_of, writer_of}
use Rattle.ciborium_ll.specs.declared.hdr.Header.TheVariants.{Array, Positive}
use Rattle.callers.proofs.heads.write_numbers.Given as goal

abbrev pub invariant-loop-n : goal.invariant-loop-n
invariant-loop-n l = record {
  wrote : (memory_of (writer_of l.encoder).now).items ≡ (memory_of l.fn.out).items
      ++ (title_of (Array (Some (length l.numbers))) ++ flat_map (λ n. title_of (Positive n)) (take l.n-index l.numbers));
  kept : (writer_of l.encoder).ghost_name ≡ (writer_of l.initial.encoder).ghost_name;
}
