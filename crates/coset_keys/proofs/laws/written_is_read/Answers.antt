use Rattle.coset_headers.specs.Written.{tree_of}
use Rattle.coset_keys.specs.Written.{key_entries}
use Rattle.coset_keys.proofs.Again.{sorted_key, writes, reads_back}
use Rattle.coset_keys.proofs.Good.{is_key}
use Rattle.coset_keys.proofs.Sets.{set_again}
use Rattle.coset_keys.proofs.laws.written_is_read.Goals as goal

pub returns : goal.returns
returns c = record {
  key = λ t k a. (tree_of (key_entries k), writes k (is_key t k a), reads_back k (is_key t k a));
  sorted = λ t k l a s. (tree_of (key_entries l), writes l (sorted_key k l (is_key t k a) s), reads_back l (sorted_key k l (is_key t k a) s));
  set = set_again;
}
