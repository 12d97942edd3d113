-- The place of a payload, by the steps up to it.
use Rattle.std.proofs.Common.{◌≡◌, ℕ, ◌+◌, List, [], ◌++◌, length, Option, None, Some, refl, sym, ap, subst, ◌∙◌, append_assoc, append-nil, length-append, arith}
use Rattle.std.proofs.lemmas.List.{append_cancel_right}
use Rattle.ciborium_ll.specs.declared.hdr.Header.{Header}
use Rattle.ciborium_ll.specs.declared.hdr.Header.TheVariants.{Tag, Bytes, Array}
use Rattle.ciborium_ll.specs.Reading.{Moves}
use Rattle.ciborium_ll.specs.Title.{Title}
use Rattle.ciborium_ll.proofs.Closings.{split_heads}
use Rattle.ciborium_value.specs.Tree.{Tree, Trees, no_trees, one_more}
use Rattle.ciborium.specs.Front.{Reads}
use Rattle.ciborium.specs.Reading.{IfKnown}
use Rattle.ciborium.specs.Spelling.{SpellsAll}
use Rattle.cose_gate.specs.Stated.{Stated, closing, before_payload}
use Rattle.cose_gate.proofs.Elements.{behind_two}
use Rattle.cose_gate.proofs.Lengths.{stated_whole}

-- a step over known bytes
record Step (x : List ℕ) (left' : Option (List ℕ)) (at at' : ℕ) (P : List ℕ → Type 0) : Type 0 where
  bytes : List ℕ
  rest : List ℕ
  has : P bytes
  left : left' ≡ Some rest
  whole : x ≡ bytes ++ rest
  grown : at' ≡ at + length bytes

step : (l left' : Option (List ℕ)) (x : List ℕ) (at at' : ℕ) (P : List ℕ → Type 0) → l ≡ Some x → Moves l left' at at' P → Step x left' at at' P
step l left' x at at' P e m = go left' (subst (λ (o : Option (List ℕ)). Moves o left' at at' P) e m)
  where
    go : (o : Option (List ℕ)) → Moves (Some x) o at at' P → Step x o at at' P
    go None m = absurd m.taken
    go (Some rest) m = record { bytes = m.bytes; rest = rest; has = m.has; left = refl; whole = m.taken; grown = m.grown }

-- the parts up to the payload, one after another
parts : (t a c d l : List ℕ) (p0 p1 p2 p3 p4 p5 : ℕ) → p1 ≡ p0 + length t → p2 ≡ p1 + length a → p3 ≡ p2 + length c → p4 ≡ p3 + length d → p5 ≡ p4 + length l
    → p5 ≡ p0 + length (t ++ (a ++ ((c ++ d) ++ l)))
parts t a c d l p0 p1 p2 p3 p4 p5 e1 e2 e3 e4 e5 = simp length-append (omega arith)

-- the heads and items that are read there are those of the message
module _ (input front rest : List ℕ) (size limit : ℕ) (s : Stated front size) (e : input ≡ front ++ rest) (g h k : Header) (v w : Tree) where
  module _ (xa xb xc xd xe : List ℕ) (l1 l2 l3 l4 l5 : Option (List ℕ)) (p0 p1 p2 p3 p4 p5 : ℕ) where
    found : (a : Step xa l1 p0 p1 (λ b. Title b g)) (b : Step xb l2 p1 p2 (λ b. Title b h)) (c : Step xc l3 p2 p3 (λ b. Reads b limit v))
        (d : Step xd l4 p3 p4 (λ b. Reads b limit w)) (f : Step xe l5 p4 p5 (λ b. Title b k))
        → xa ≡ input → xb ≡ a.rest → xc ≡ b.rest → xd ≡ c.rest → xe ≡ d.rest → (k ≡ Bytes (Some size)) × (p5 ≡ p0 + length (before_payload s))
    found a b c d f ea eb ec ed ee =
        let tail : List ℕ = (s.payload ++ (s.last ++ closing s.count)) ++ rest in
        let one = split_heads a.bytes s.tag_title a.rest (s.array_title ++ (s.headers ++ (s.length_title ++ tail))) g (Tag s.number) a.has s.is_tag
        (sym a.whole ∙ ea ∙ stated_whole input front rest size s e) in
        let two = split_heads b.bytes s.array_title b.rest (s.headers ++ (s.length_title ++ tail)) h (Array s.count) b.has s.is_array (sym b.whole ∙ eb ∙ one.rests) in
        let items : Trees = one_more c.has.tree (one_more d.has.tree no_trees) in
        let spells : SpellsAll (c.bytes ++ d.bytes) items = (c.bytes, d.bytes, c.has.spells, (d.bytes, [], d.has.spells, refl, sym (append-nil d.bytes)), refl) in
        let whole : (c.bytes ++ d.bytes) ++ d.rest ≡ s.headers ++ (s.length_title ++ tail) =
        append_assoc c.bytes d.bytes d.rest ∙ ap (λ z. c.bytes ++ z) (sym d.whole ∙ ed) ∙ sym c.whole ∙ ec ∙ two.rests in
        let three = behind_two items s.two d.rest (s.length_title ++ tail) (c.bytes ++ d.bytes) s.headers spells s.spells refl s.are_two whole in
        let headers : c.bytes ++ d.bytes ≡ s.headers = append_cancel_right (c.bytes ++ d.bytes) s.headers d.rest (whole ∙ ap (λ z. s.headers ++ z) (sym three)) in
        let four = split_heads f.bytes s.length_title f.rest tail k (Bytes (Some size)) f.has s.is_length (sym f.whole ∙ ee ∙ three) in
        let place = parts a.bytes b.bytes c.bytes d.bytes f.bytes p0 p1 p2 p3 p4 p5 a.grown b.grown c.grown d.grown f.grown in
        (four.heads, place ∙ ap (λ z. p0 + length z) (let z : a.bytes ++ (b.bytes ++ ((c.bytes ++ d.bytes) ++ f.bytes)) ≡ before_payload s = rw (one.titles, two.titles, headers, four.titles) refl in z))

  stepped : (l1 l2 l3 l4 l5 : Option (List ℕ)) (p0 p1 p2 p3 p4 p5 : ℕ) → Moves (Some input) l1 p0 p1 (λ b. Title b g) → Moves l1 l2 p1 p2 (λ b. Title b h)
      → Moves l2 l3 p2 p3 (λ b. Reads b limit v) → Moves l3 l4 p3 p4 (λ b. Reads b limit w) → Moves l4 l5 p4 p5 (λ b. Title b k)
      → (k ≡ Bytes (Some size)) × (p5 ≡ p0 + length (before_payload s))
  stepped l1 l2 l3 l4 l5 p0 p1 p2 p3 p4 p5 m1 m2 m3 m4 m5 =
      let a : Step input l1 p0 p1 (λ b. Title b g) = step (Some input) l1 input p0 p1 (λ b. Title b g) refl m1 in
      let b : Step a.rest l2 p1 p2 (λ b. Title b h) = step l1 l2 a.rest p1 p2 (λ b. Title b h) a.left m2 in
      let c : Step b.rest l3 p2 p3 (λ b. Reads b limit v) = step l2 l3 b.rest p2 p3 (λ b. Reads b limit v) b.left m3 in
      let d : Step c.rest l4 p3 p4 (λ b. Reads b limit w) = step l3 l4 c.rest p3 p4 (λ b. Reads b limit w) c.left m4 in
      let f : Step d.rest l5 p4 p5 (λ b. Title b k) = step l4 l5 d.rest p4 p5 (λ b. Title b k) d.left m5 in
      found input a.rest b.rest c.rest d.rest l1 l2 l3 l4 l5 p0 p1 p2 p3 p4 p5 a b c d f refl refl refl refl refl

sized : (n size : ℕ) → Bytes (Some n) ≡ Bytes (Some size) → n ≡ size
sized n size e = cc

-- the payload is after the title of its length, and is so long
pub placed : (limit : ℕ) (g h : Header) (n : ℕ) (v w : Tree) (l0 l1 l2 l3 l4 l5 : Option (List ℕ)) (p0 p1 p2 p3 p4 p5 at count : ℕ) → Moves l0 l1 p0 p1 (λ b. Title b g)
    → Moves l1 l2 p1 p2 (λ b. Title b h) → Moves l2 l3 p2 p3 (λ b. Reads b limit v) → Moves l3 l4 p3 p4 (λ b. Reads b limit w) → Moves l4 l5 p4 p5 (λ b. Title b (Bytes (Some n)))
    → at ≡ p5 → count ≡ n
    → IfKnown l0 (λ b. (front rest : List ℕ) (size : ℕ) (s : Stated front size) → b ≡ front ++ rest → (at ≡ p0 + length (before_payload s)) × (count ≡ size))
placed limit g h n v w None l1 l2 l3 l4 l5 p0 p1 p2 p3 p4 p5 at count m1 m2 m3 m4 m5 begun counted = tt
placed limit g h n v w (Some input) l1 l2 l3 l4 l5 p0 p1 p2 p3 p4 p5 at count m1 m2 m3 m4 m5 begun counted = λ front rest size s e.
    let p = stepped input front rest size limit s e g h (Bytes (Some n)) v w l1 l2 l3 l4 l5 p0 p1 p2 p3 p4 p5 m1 m2 m3 m4 m5 in
    (begun ∙ p.1, counted ∙ sized n size p.0)
