-- Well-formed items by their heads alone (RFC 8949, section 3 and appendix C): a text may hold any
-- bytes, and an open string may be inside an open string of its kind.
use Rattle.std.specs.Prelude.{◌≡◌, ℕ, zero, suc, ◌*◌, List, [], ◌∷◌, ◌++◌, length, Some, None, Bool, true, false}
use Rattle.ciborium_ll.specs.Title.{Title}
use Rattle.ciborium_ll.specs.declared.hdr.Header.{Header}
use Rattle.ciborium_ll.specs.declared.hdr.Header.TheVariants.{Tag, Break, Bytes, Text, Array, Map}
use Rattle.cbor_walk.specs.declared.walk.Holds.{Holds}
use Rattle.cbor_walk.specs.declared.walk.Holds.TheVariants as holds
use Rattle.cbor_walk.specs.declared.walk.Next.{Next}
use Rattle.cbor_walk.specs.declared.walk.Next.TheVariants as next

-- what follows a head in its item: so many bytes and so many items; what an open item holds, and a
-- break; a break begins no item
pub data After : Type 0 where
  stated : ℕ → ℕ → After
  upto : Holds → After
  nowhere : After

abbrev pub after : Header → After
after (Tag n) = stated 0 1
after (Bytes (Some n)) = stated n 0
after (Text (Some n)) = stated n 0
after (Array (Some n)) = stated 0 n
after (Map (Some n)) = stated 0 (2 * n)
after (Bytes None) = upto holds.Bytes
after (Text None) = upto holds.Text
after (Array None) = upto holds.Items
after (Map None) = upto holds.Pairs
after Break = nowhere
after h = stated 0 0

-- how many bytes of a string that is
abbrev pub bytes_in : After → ℕ
bytes_in (stated len n) = len
bytes_in (upto k) = 0
bytes_in nowhere = 0

abbrev pub body_of : Header → ℕ
body_of h = bytes_in (after h)

-- what is due by this head of an item
abbrev pub IsNext : Header → Next → Type 0
IsNext h (next.Items n) = after h ≡ stated (body_of h) n
IsNext h (next.Open k) = after h ≡ upto k
IsNext h next.Nothing = h ≡ Break

-- how many items come at a time in an open item, and which heads they may begin with
abbrev pub size : Holds → ℕ
size holds.Pairs = 2
size h = 1

abbrev pub takes : Holds → Header → Bool
takes holds.Items h = true
takes holds.Pairs h = true
takes holds.Bytes (Bytes len) = true
takes holds.Bytes h = false
takes holds.Text (Text len) = true
takes holds.Text h = false

abbrev pub StartsFor : Holds → List ℕ → Type 0
StartsFor k b = (title : List ℕ) × (rest : List ℕ) × (h : Header) × Title title h × (takes k h ≡ true) × (b ≡ title ++ rest)

mutual
  -- `b` is one item
  pub data Item : List ℕ → Type 0 where
    item : (b title rest : List ℕ) (h : Header) → Title title h → Rest (after h) rest → b ≡ title ++ rest → Item b

  -- `b` is what follows the head of an item
  pub data Rest : After → List ℕ → Type 0 where
    of_stated : (len n : ℕ) (b body inner : List ℕ) → length body ≡ len → Items n inner → b ≡ body ++ inner → Rest (stated len n) b
    of_open : (k : Holds) (b inner : List ℕ) → Groups k inner → b ≡ inner ++ 255 ∷ [] → Rest (upto k) b

  -- `b` is n items one after another
  pub data Items : ℕ → List ℕ → Type 0 where
    no_items : Items zero []
    item_more : (n : ℕ) (a b : List ℕ) → Item a → Items n b → Items (suc n) (a ++ b)

  -- `b` is what an open item holds
  pub data Groups : Holds → List ℕ → Type 0 where
    no_groups : (k : Holds) → Groups k []
    group_more : (k : Holds) (a b : List ℕ) → StartsFor k a → Items (size k) a → Groups k b → Groups k (a ++ b)
