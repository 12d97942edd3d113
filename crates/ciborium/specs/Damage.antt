-- An item at the front of some bytes, and why there is none.
use Rattle.std.specs.Prelude.{◌≡◌, ◌≢◌, ℕ, ◌+◌, ◌-◌, ◌*◌, ◌%◌, ◌<◌, ◌⊎◌, List, ◌∷◌, ◌++◌, length, take, Option, Some, None}
use Rattle.std.specs.Str.{IsUtf8}
use Rattle.ciborium_ll.specs.declared.hdr.Header.{Header}
use Rattle.ciborium_ll.specs.declared.hdr.Header.TheVariants.{Simple, Tag, Break, Bytes, Text, Array, Map}
use Rattle.ciborium_ll.specs.Title.{Begins, IsCut, StartsBad}
use Rattle.ciborium_value.specs.declared.kind.Kind.{Kind}
use Rattle.ciborium_value.specs.declared.kind.Kind.TheVariants as kind
use Rattle.ciborium_value.specs.Tree.{Trees, no_trees, tree_count}
use Rattle.ciborium_ll.specs.Framing.{Frame, joined, Any, Inside}
use Rattle.ciborium.specs.Front.{Fronts}
use Rattle.ciborium.specs.Meaning.{simple_meaning}
use Rattle.ciborium_value.specs.Folding.{fold_bytes}

-- which fault it is
pub data Fault : Type 0 where
  end deep : Fault
  syntax : ℕ → Fault
  semantic : Kind → Fault

-- Below, `stop` is the place after the last byte, so that `p + length b ≡ stop` says that b begins
-- at the place p.
pub data TitleDamage (stop : ℕ) (b : List ℕ) : Fault → Type 0 where
  cut_title : IsCut b → TitleDamage stop b end
  bad_title : (p : ℕ) → StartsBad b → p + length b ≡ stop → TitleDamage stop b (syntax p)

-- the bytes that are there begin no body of length n that has P
abbrev pub Never : (List ℕ → Type 0) → ℕ → List ℕ → Type 0
Never P n rest = (more : List ℕ) → length (take n rest ++ more) ≡ n → P (take n rest ++ more) → ⊥

-- a definite string of the kind k, whose body should have P
pub data ChunkDamage (k : Option ℕ → Header) (P : List ℕ → Type 0) (stop : ℕ) (b : List ℕ) : Fault → Type 0 where
  cut_body : (n : ℕ) (rest : List ℕ) → Begins b (k (Some n)) rest → length rest < n → ChunkDamage k P stop b end
  bad_body : (n p : ℕ) (rest : List ℕ) → Begins b (k (Some n)) rest → Never P n rest → p + length b ≡ stop → ChunkDamage k P stop b (syntax p)

-- a part of an open string of the kind k: its title, its body, or a title that no such string holds
pub data PartDamage (k : Option ℕ → Header) (P : List ℕ → Type 0) (stop : ℕ) (b : List ℕ) : Fault → Type 0 where
  part_title : (e : Fault) → TitleDamage stop b e → PartDamage k P stop b e
  part_body : (e : Fault) → ChunkDamage k P stop b e → PartDamage k P stop b e
  no_part : (h : Header) (rest : List ℕ) (p : ℕ) → Begins b h rest → h ≢ Break → ((o : Option ℕ) → h ≢ k o) → p + length b ≡ stop → PartDamage k P stop b (syntax p)

abbrev pub StringDamage : (Option ℕ → Header) → (List ℕ → Type 0) → ℕ → List ℕ → Fault → Type 0
StringDamage k P stop b e = ChunkDamage k P stop b e ⊎ ((rest : List ℕ) × Inside k P b rest × PartDamage k P stop rest e)

-- a tag that opens a level over the bytes b: any but 2 and 3, and those before any item but a byte
-- string
abbrev pub IsLevel : ℕ → List ℕ → Type 0
IsLevel n b = ((n ≢ 2) × (n ≢ 3)) ⊎ ((h : Header) × (rest : List ℕ) × Begins b h rest × ((o : Option ℕ) → h ≢ Bytes o))

-- a header that opens a level
pub data Opens (rest : List ℕ) : Header → Type 0 where
  level_array : (o : Option ℕ) → Opens rest (Array o)
  level_map : (o : Option ℕ) → Opens rest (Map o)
  level_tag : (n : ℕ) → IsLevel n rest → Opens rest (Tag n)

-- in a level of this header, after the items `done`, one more is due, and `rest` is to come
pub data Due (done : Trees) (rest : List ℕ) : Header → Type 0 where
  in_array : (n : ℕ) → tree_count done < n → Due done rest (Array (Some n))
  in_map : (n : ℕ) → tree_count done < 2 * n → Due done rest (Map (Some n))
  in_open_array : ((r : List ℕ) → rest ≢ 255 ∷ r) → Due done rest (Array None)
  in_open_map : ((r : List ℕ) → rest ≢ 255 ∷ r) → Due done rest (Map None)
  in_entry : tree_count done % 2 ≡ 1 → Due done rest (Map None)
  under_tag : (n : ℕ) → done ≡ no_trees → IsLevel n rest → Due done rest (Tag n)

pub data Damage (stop : ℕ) : List ℕ → ℕ → Fault → Type 0 where
  in_title : (b : List ℕ) (limit : ℕ) (e : Fault) → TitleDamage stop b e → Damage stop b limit e
  in_bytes : (b : List ℕ) (limit : ℕ) (e : Fault) → StringDamage Bytes Any stop b e → Damage stop b limit e
  in_text : (b : List ℕ) (limit : ℕ) (e : Fault) → StringDamage Text IsUtf8 stop b e → Damage stop b limit e
  unassigned : (b rest : List ℕ) (limit n : ℕ) → Begins b (Simple n) rest → simple_meaning n ≡ None → Damage stop b limit (semantic kind.Simple)
  stray_break : (b rest : List ℕ) (limit : ℕ) → Begins b Break rest → Damage stop b limit (semantic kind.Break)
  too_negative : (b inside inner rest : List ℕ) (limit : ℕ) (bodies : List (List ℕ)) → Begins b (Tag 3) inside → Frame Bytes Any inner bodies → inside ≡ inner ++ rest
      → fold_bytes 3 (joined bodies) ≡ None → Damage stop b limit (semantic kind.BigNegative)
  too_deep : (b rest : List ℕ) (h : Header) → Begins b h rest → Opens rest h → Damage stop b 0 deep
  in_child : (b inside rest : List ℕ) (limit : ℕ) (h : Header) (done : Trees) (e : Fault) → Begins b h inside → 0 < limit
      → Fronts inside (limit - 1) done rest → Due done rest h → Damage stop rest (limit - 1) e → Damage stop b limit e
  in_free : (b inside : List ℕ) (limit n : ℕ) (e : Fault) → Begins b (Tag n) inside → (IsLevel n inside → ⊥) → Damage stop inside limit e → Damage stop b limit e
