-- Bytes that are taken from the front of what a block holds.
use Rattle.std.proofs.Common.{◌≡◌, ℕ, List, ◌++◌, Bool, true, false, Option, None, Some, take, drop, if◌then◌else◌, ap, subst, ◌∙◌, refl, take_at, ◌≤◌}
use Rattle.std.specs.Prelude.{◌==◌, IfSome}
use Rattle.std.specs.Io.{StartsWith}
use Rattle.std.specs.Io.BufRead.{DropsConsumable}
use Rattle.ciborium_ll.specs.Device.{Drops}
use Rattle.std.proofs.lemmas.List.{take-append-drop, append_assoc}
use Rattle.std.specs.Global.{Global}
use Rattle.std.specs.Io.Buffered.{reader_buffer, reader_inner, reader_capacity, reader_remaining}
use Rattle.std.specs.Io.KnownBytes.{Consumes, prepend_known}
use Rattle.std.specs.declared.io.buffered.BufReader.{BufReader}

split : (c : Bool) (d b : List ℕ) (k : Option (List ℕ)) → Consumes (if c then None else prepend_known (d ++ b) k) (if c then None else prepend_known b k) d
split true d b k = tt
split false d b None = tt
split false d b (Some xs) = append_assoc d b xs

abbrev known : {T : Type 0} → (T → Option (List ℕ)) → List ℕ → ℕ → T → Option (List ℕ)
known remaining b c x = if c == 0 then None else prepend_known b (remaining x)

pub held_front : {T : Type 0} (remaining : T → Option (List ℕ)) (old new : BufReader T Global) (n : ℕ) (d : List ℕ) → d ≡ take n (reader_buffer old)
    → reader_buffer new ≡ drop n (reader_buffer old) → reader_inner new ≡ reader_inner old → reader_capacity new ≡ reader_capacity old
    → Consumes (reader_remaining remaining old) (reader_remaining remaining new) d
held_front remaining old new n d front rest inner capacity =
    let whole : d ++ reader_buffer new ≡ reader_buffer old =
    ap (λ l. l ++ reader_buffer new) front ∙ (ap (λ l. take n (reader_buffer old) ++ l) rest ∙ take-append-drop n (reader_buffer old)) in
    subst (λ b. Consumes (known remaining b (reader_capacity old) (reader_inner old)) (reader_remaining remaining new) d) whole
    (subst (λ c. Consumes (known remaining (d ++ reader_buffer new) c (reader_inner old)) (reader_remaining remaining new) d) capacity
    (subst (λ x. Consumes (known remaining (d ++ reader_buffer new) (reader_capacity new) x) (reader_remaining remaining new) d) inner
    (split (reader_capacity new == 0) d (reader_buffer new) (remaining (reader_inner new)))))

-- what the block holds is a front of the bytes to come
pub held_begins : {T : Type 0} (remaining : T → Option (List ℕ)) (r : BufReader T Global) → IfSome (reader_remaining remaining r) (λ xs. StartsWith xs (reader_buffer r))
held_begins remaining r = go (reader_capacity r == 0) (remaining (reader_inner r))
  where
    go : (c : Bool) (k : Option (List ℕ)) → IfSome (if c then None else prepend_known (reader_buffer r) k) (λ xs. StartsWith xs (reader_buffer r))
    go true k = tt
    go false None = tt
    go false (Some xs) = take_at (reader_buffer r) xs _ refl

-- so many of them were taken
pub held_dropped : (old new : Option (List ℕ)) (limit n : ℕ) → n ≤ limit → DropsConsumable old new (Some limit) n → Drops old new n
held_dropped None new limit n within d = tt
held_dropped (Some xs) new limit n within d = d within
