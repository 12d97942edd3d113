-- Framed bytes are split in one way.
use Rattle.std.proofs.Common.{◌≡◌, ℕ, ◌<◌, ◌+◌, ◌^◌, List, [], ◌∷◌, ◌++◌, length, take, drop, get_or, flat_map, refl, sym, ap, ◌∙◌, arith, append_assoc, length-append}
use Rattle.std.specs.Int.{w64, to_le_bytes, from_le_bytes}
use Rattle.std.proofs.lemmas.Nat.{le_bytes_8, from_le_bytes-to_le_bytes_8}
use Rattle.std.proofs.lemmas.List.{append_cancel_left, append-nil, take-append-drop}
use Rattle.std.proofs.Math.Seq.{take-append_seam}
use Rattle.cose_gate_records.specs.Framing.{eight, framed, key_by}

-- the bytes of a number
pub length-eight : (n : ℕ) → length (eight n) ≡ 8
unfolding eight
length-eight n = refl

pub eight-back : (n : ℕ) → n < 2 ^ 64 → from_le_bytes w64 (eight n) ≡ n
unfolding eight
eight-back n h = from_le_bytes-to_le_bytes_8 n h

pub eight_of : (bs : List ℕ) (n : ℕ) → length bs ≡ 8 → ((i : ℕ) → get_or bs i 0 < 256) → n ≡ from_le_bytes w64 bs → eight n ≡ bs
unfolding eight
eight_of bs n l b e = le_bytes_8 bs n l b e

-- two fronts of one length
fronts : (p q x y : List ℕ) → length p ≡ length q → p ++ x ≡ q ++ y → p ≡ q
fronts p q x y l e =
    sym (take-append_seam p x) ∙ (ap (λ (z : List ℕ). take (length p) z) e ∙ (ap (λ (n : ℕ). take n (q ++ y)) l ∙ take-append_seam q y))

behinds : (p q x y : List ℕ) → p ≡ q → p ++ x ≡ q ++ y → x ≡ y
behinds p q x y l e = append_cancel_left q x y (ap (λ (z : List ℕ). z ++ x) (sym l) ∙ e)

pub same_eights : (m n : ℕ) → m < 2 ^ 64 → n < 2 ^ 64 → eight m ≡ eight n → m ≡ n
same_eights m n hm hn e = sym (eight-back m hm) ∙ (ap (λ (z : List ℕ). from_le_bytes w64 z) e ∙ eight-back n hn)

pub same_frames : (p q x y : List ℕ) → length p < 2 ^ 64 → length q < 2 ^ 64 → framed p ++ x ≡ framed q ++ y → (p ≡ q) × (x ≡ y)
same_frames p q x y hp hq e =
    let a : eight (length p) ++ (p ++ x) ≡ eight (length q) ++ (q ++ y)
    = sym (append_assoc (eight (length p)) p x) ∙ (e ∙ append_assoc (eight (length q)) q y) in
    let heads : eight (length p) ≡ eight (length q)
    = fronts (eight (length p)) (eight (length q)) (p ++ x) (q ++ y) (length-eight (length p) ∙ sym (length-eight (length q))) a in
    let tails : p ++ x ≡ q ++ y = behinds (eight (length p)) (eight (length q)) (p ++ x) (q ++ y) heads a in
    let same : p ≡ q = fronts p q x y (same_eights (length p) (length q) hp hq heads) tails in
    (same, behinds p q x y same tails)

pub length-framed : (p : List ℕ) → length (framed p) ≡ 8 + length p
length-framed p = length-append (eight (length p)) p ∙ ap (λ (n : ℕ). n + length p) (length-eight (length p))

-- if something is left that begins with no frame, the whole is no list of frames
pub no_frames : (done : List (List ℕ)) (bytes rest : List ℕ) → length bytes < 2 ^ 64 → 0 < length rest
    → ((p r : List ℕ) → rest ≡ framed p ++ r → ⊥) → bytes ≡ flat_map framed done ++ rest
    → (all : List (List ℕ)) → bytes ≡ flat_map framed all → ⊥
no_frames [] bytes rest h some none e [] e' =
    let z : length rest ≡ 0 = ap (λ (b : List ℕ). length b) (sym e ∙ e') in
    omega (arith, z, some)
no_frames [] bytes rest h some none e (a ∷ all) e' = none a (flat_map framed all) (sym e ∙ e')
no_frames (d ∷ done) bytes rest h some none e [] e' =
    let z : length bytes ≡ 0 = ap (λ (b : List ℕ). length b) e' in
    let y : length bytes ≡ length (framed d ++ flat_map framed done) + length rest
    = ap (λ (b : List ℕ). length b) e ∙ length-append (framed d ++ flat_map framed done) rest in
    omega (arith, z, y, some)
no_frames (d ∷ done) bytes rest h some none e (a ∷ all) e' =
    let one : bytes ≡ framed d ++ (flat_map framed done ++ rest) = e ∙ append_assoc (framed d) (flat_map framed done) rest in
    let l : length bytes ≡ (8 + length d) + length (flat_map framed done ++ rest)
    = ap (λ (b : List ℕ). length b) one ∙ (length-append (framed d) (flat_map framed done ++ rest)
    ∙ ap (λ (n : ℕ). n + length (flat_map framed done ++ rest)) (length-framed d)) in
    let k : length bytes ≡ (8 + length a) + length (flat_map framed all)
    = ap (λ (b : List ℕ). length b) e' ∙ (length-append (framed a) (flat_map framed all)
    ∙ ap (λ (n : ℕ). n + length (flat_map framed all)) (length-framed a)) in
    let w = same_frames d a (flat_map framed done ++ rest) (flat_map framed all)
    (omega (arith, l, h)) (omega (arith, k, h)) (sym one ∙ e') in
    no_frames done (flat_map framed done ++ rest) rest (omega (arith, l, h)) some none refl all w.1

-- a number and bytes
pub same_numbered : (m n : ℕ) (x y : List ℕ) → m < 2 ^ 64 → n < 2 ^ 64 → eight m ++ x ≡ eight n ++ y → (m ≡ n) × (x ≡ y)
same_numbered m n x y hm hn e =
    let heads : eight m ≡ eight n = fronts (eight m) (eight n) x y (length-eight m ∙ sym (length-eight n)) e in
    (same_eights m n hm hn heads, behinds (eight m) (eight n) x y heads e)

-- fewer than eight bytes begin with no number
pub no_number : (bytes r : List ℕ) (n : ℕ) → length bytes < 8 → bytes ≡ eight n ++ r → ⊥
no_number bytes r n h e =
    let l : length bytes ≡ 8 + length r
    = ap (λ (b : List ℕ). length b) e ∙ (length-append (eight n) r ∙ ap (λ (k : ℕ). k + length r) (length-eight n)) in
    omega (arith, l, h)

-- the number that the first eight bytes are
pub number_is : (bytes head rest : List ℕ) (n : ℕ) → head ≡ take 8 bytes → rest ≡ drop 8 bytes → eight n ≡ head → bytes ≡ eight n ++ rest
number_is bytes head rest n hd rs is =
    sym (take-append-drop 8 bytes) ∙ (ap (λ (z : List ℕ). z ++ drop 8 bytes) (sym (is ∙ hd)) ∙ ap (λ (z : List ℕ). eight n ++ z) (sym rs))

-- bytes begin with no frame if fewer come after a number than it says
pub cut_short : (bytes rest p r : List ℕ) (n : ℕ) → length bytes < 2 ^ 64 → n < 2 ^ 64 → bytes ≡ eight n ++ rest → length rest < n → bytes ≡ framed p ++ r → ⊥
cut_short bytes rest p r n h hn is few e =
    let l : length bytes ≡ (8 + length p) + length r
    = ap (λ (b : List ℕ). length b) e ∙ (length-append (framed p) r ∙ ap (λ (k : ℕ). k + length r) (length-framed p)) in
    let w = same_numbered n (length p) rest (p ++ r) hn (omega (arith, l, h)) (sym is ∙ e ∙ append_assoc (eight (length p)) p r) in
    let k : length rest ≡ length p + length r = ap (λ (b : List ℕ). length b) w.1 ∙ length-append p r in
    omega (arith, w.0, k, few)

-- a frame that is there
pub frame_is : (bytes rest piece more : List ℕ) (n : ℕ) → bytes ≡ eight n ++ rest → length piece ≡ n → piece ≡ take n rest → more ≡ drop n rest → bytes ≡ framed piece ++ more
frame_is bytes rest piece more n is lp tk dr =
    let whole : rest ≡ piece ++ more
    = sym (take-append-drop n rest) ∙ (ap (λ (z : List ℕ). z ++ drop n rest) (sym tk) ∙ ap (λ (z : List ℕ). piece ++ z) (sym dr)) in
    is ∙ (ap (λ (k : ℕ). eight k ++ rest) (sym lp) ∙ (ap (λ (z : List ℕ). eight (length piece) ++ z) whole ∙ sym (append_assoc (eight (length piece)) piece more)))

-- the length of a key
pub length-key : (front covered signature : List ℕ) → length (key_by front covered signature) ≡ 16 + (length front + length covered + length signature)
length-key front covered signature =
    let a = length-append front (framed covered ++ framed signature) in
    let b = length-append (framed covered) (framed signature) in
    let c = length-framed covered in
    let d = length-framed signature in
    omega (arith, a, b, c, d)

-- what is after a frame is shorter
pub shorter : (rest piece more : List ℕ) → rest ≡ framed piece ++ more → length more < length rest
shorter rest piece more e =
    let l : length rest ≡ (8 + length piece) + length more
    = ap (λ (b : List ℕ). length b) e ∙ (length-append (framed piece) more ∙ ap (λ (k : ℕ). k + length more) (length-framed piece)) in
    omega (arith, l)

-- framed pieces, one after another, are of one list of so many pieces
pub same_pieces : (ps qs : List (List ℕ)) → length ps ≡ length qs → length (flat_map framed ps) < 2 ^ 64
    → flat_map framed ps ≡ flat_map framed qs → ps ≡ qs
same_pieces [] [] l h e = refl
same_pieces [] (q ∷ qs) l h e = grind (arith, l)
same_pieces (p ∷ ps) [] l h e = grind (arith, l)
same_pieces (p ∷ ps) (q ∷ qs) l h e =
    let a : length (framed p ++ flat_map framed ps) ≡ (8 + length p) + length (flat_map framed ps)
    = length-append (framed p) (flat_map framed ps) ∙ ap (λ (n : ℕ). n + length (flat_map framed ps)) (length-framed p) in
    let b : length (framed p ++ flat_map framed ps) ≡ (8 + length q) + length (flat_map framed qs)
    = ap (λ (z : List ℕ). length z) e ∙ (length-append (framed q) (flat_map framed qs)
    ∙ ap (λ (n : ℕ). n + length (flat_map framed qs)) (length-framed q)) in
    let w = same_frames p q (flat_map framed ps) (flat_map framed qs) (omega (arith, a, h)) (omega (arith, b, h)) e in
    ap (λ (z : List ℕ). z ∷ ps) w.0 ∙ ap (λ (z : List (List ℕ)). q ∷ z) (same_pieces ps qs (omega (arith, l)) (omega (arith, a, h)) w.1)

-- a key as a number and framed pieces
pub assoc_six : (a b c d e f g h : List ℕ) → (a ++ (b ++ (c ++ (d ++ (e ++ f))))) ++ (g ++ h) ≡ a ++ (b ++ (c ++ (d ++ (e ++ (f ++ (g ++ (h ++ [])))))))
assoc_six a b c d e f g h = simp (append_assoc, append-nil) refl
