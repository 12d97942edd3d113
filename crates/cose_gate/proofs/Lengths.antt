-- The parts of a message of a stated length, which is one.
use Rattle.std.proofs.Common.{◌≡◌, ℕ, List, [], ◌∷◌, ◌++◌, length, Some, refl, sym, ap, ◌∙◌, arith, append_assoc}
use Rattle.std.proofs.lemmas.List.{append_cancel_left, append_cancel_right}
use Rattle.ciborium_ll.specs.declared.hdr.Header.TheVariants.{Tag, Bytes, Array}
use Rattle.ciborium_ll.proofs.Closings.{split_heads}
use Rattle.ciborium.proofs.Once.{once, array_same}
use Rattle.cose_gate.specs.Stated.{Stated, closing}
use Rattle.cose_gate.proofs.Elements.{behind_two}

-- the parts of a stated length, with what follows
pub stated_whole : (b front rest : List ℕ) (n : ℕ) (s : Stated front n) → b ≡ front ++ rest
    → b ≡ s.tag_title ++ (s.array_title ++ (s.headers ++ (s.length_title ++ ((s.payload ++ (s.last ++ closing s.count)) ++ rest))))
stated_whole b front rest n s e =
    let tail : List ℕ = s.payload ++ (s.last ++ closing s.count) in
    e ∙ ap (λ z. z ++ rest) s.whole ∙ append_assoc s.tag_title (s.array_title ++ (s.headers ++ (s.length_title ++ tail))) rest
    ∙ ap (λ z. s.tag_title ++ z) (append_assoc s.array_title (s.headers ++ (s.length_title ++ tail)) rest
    ∙ ap (λ z. s.array_title ++ z) (append_assoc s.headers (s.length_title ++ tail) rest ∙ ap (λ z. s.headers ++ z) (append_assoc s.length_title tail rest)))

-- lists of one length at the front of one list are one
same_front : (a b u v : List ℕ) → length a ≡ length b → a ++ u ≡ b ++ v → (a ≡ b) × (u ≡ v)
same_front [] [] u v n e = (refl, e)
same_front [] (y ∷ b) u v n e = absurd (omega arith)
same_front (x ∷ a) [] u v n e = absurd (omega arith)
same_front (x ∷ a) (y ∷ b) u v n e =
    let h : x ∷ (a ++ u) ≡ y ∷ (b ++ v) = e in
    let head : x ≡ y = cc in
    let tail : a ++ u ≡ b ++ v = cc in
    let k : length a ≡ length b = omega arith in
    let r = same_front a b u v k tail in
    (ap (λ z. z ∷ a) head ∙ ap (λ z. y ∷ z) r.0, r.1)

pub stated_once : (a b u v : List ℕ) (n m : ℕ) → Stated a n → Stated b m → a ++ u ≡ b ++ v → (a ≡ b) × (n ≡ m)
stated_once a b u v n m s t e =
    let tail : List ℕ = (s.payload ++ (s.last ++ closing s.count)) ++ u in
    let other : List ℕ = (t.payload ++ (t.last ++ closing t.count)) ++ v in
    let whole = sym (stated_whole (a ++ u) a u n s refl) ∙ e ∙ stated_whole (b ++ v) b v m t refl in
    let one = split_heads s.tag_title t.tag_title (s.array_title ++ (s.headers ++ (s.length_title ++ tail))) (t.array_title ++ (t.headers ++ (t.length_title ++ other))) (Tag s.number) (Tag t.number) s.is_tag t.is_tag whole in
    let two = split_heads s.array_title t.array_title (s.headers ++ (s.length_title ++ tail)) (t.headers ++ (t.length_title ++ other)) (Array s.count) (Array t.count) s.is_array t.is_array one.rests in
    let three = behind_two s.two t.two (s.length_title ++ tail) (t.length_title ++ other) s.headers t.headers s.spells t.spells s.are_two t.are_two two.rests in
    let four = split_heads s.length_title t.length_title tail other (Bytes (Some n)) (Bytes (Some m)) s.is_length t.is_length three in
    let size : n ≡ m = (let h : Bytes (Some n) ≡ Bytes (Some m) = four.heads in cc) in
    let five = same_front s.payload t.payload ((s.last ++ closing s.count) ++ u) ((t.last ++ closing t.count) ++ v) (s.is_payload ∙ size ∙ sym t.is_payload)
    (sym (append_assoc s.payload (s.last ++ closing s.count) u) ∙ four.rests ∙ append_assoc t.payload (t.last ++ closing t.count) v) in
    let six : s.last ++ (closing s.count ++ u) ≡ t.last ++ (closing t.count ++ v) = sym (append_assoc s.last (closing s.count) u) ∙ five.1 ∙ append_assoc t.last (closing t.count) v in
    let last = once s.signature t.signature s.last t.last (closing s.count ++ u) (closing t.count ++ v) s.spells_last t.spells_last six in
    let seven : closing s.count ++ u ≡ closing t.count ++ v = append_cancel_left s.last (closing s.count ++ u) (closing t.count ++ v) (six ∙ ap (λ z. z ++ (closing t.count ++ v)) (sym last.1)) in
    let counts : s.count ≡ t.count = array_same s.count t.count two.heads in
    let rest : u ≡ v = append_cancel_left (closing s.count) u v (seven ∙ ap (λ z. closing z ++ v) (sym counts)) in
    (append_cancel_right a b u (e ∙ ap (λ z. b ++ z) (sym rest)), size)
