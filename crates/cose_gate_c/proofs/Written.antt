-- A record that is written without the payload.
use Rattle.std.proofs.Common.{◌≡◌, ℕ, ◌+◌, ◌-◌, ◌<◌, ◌≤◌, List, [], ◌++◌, length, take, drop, Some, refl, sym, ap, subst, ◌∙◌, append_assoc, length-append, arith}
use Rattle.std.specs.Prelude.{min}
use Rattle.std.proofs.lemmas.List.{take_min, take-take}
use Rattle.std.proofs.Math.Seq.{take-append_seam, drop-append_seam}
use Rattle.cose_gate_records.specs.Framing.{eight, framed, key_by}
use Rattle.cose_gate.specs.Questions.{Question}
use Rattle.cose_gate_records.specs.Records.{front_of, record_of}
use Rattle.cose_gate_c.specs.Keeping.{Gist, gist_of, AreSizes, WritesRecord}
use Rattle.cose_gate_records.proofs.Frames.{length-eight, length-framed, length-key}
use Rattle.cose_gate_c.specs.declared.question_writing.Sizes.{Sizes}
use Rattle.cose_gate.specs.declared.checking.Place.{Place}
use Rattle.cose_gate_c.specs.declared.stream_asking.StreamQuestion.{StreamQuestion}

-- a record that covers nothing and has no signature: its length, and the front of its key
pub bare_length : (r f c : List ℕ) → r ≡ framed (key_by f c []) → c ≡ [] → length r ≡ 24 + length f
bare_length r f c e none =
    let a = length-framed (key_by f c []) in
    let b = length-key f c [] in
    let d : length c ≡ 0 = ap (λ (z : List ℕ). length z) none in
    let g : length r ≡ length (framed (key_by f c [])) = ap (λ (z : List ℕ). length z) e in
    omega (arith, a, b, d, g)

pub bare_front : (r f c : List ℕ) (n : ℕ) → r ≡ framed (key_by f c []) → c ≡ [] → n ≡ length f → take n (drop 8 r) ≡ f
bare_front r f c n e none is =
    let behind : List ℕ = framed c ++ framed [] in
    let whole : r ≡ eight (length (key_by f c [])) ++ (f ++ behind) = e in
    let first : drop 8 r ≡ f ++ behind =
    ap (λ (z : List ℕ). drop 8 z) whole
    ∙ (ap (λ (k : ℕ). drop k (eight (length (key_by f c [])) ++ (f ++ behind))) (sym (length-eight (length (key_by f c []))))
    ∙ drop-append_seam (eight (length (key_by f c []))) (f ++ behind)) in
    ap (λ (z : List ℕ). take n z) first ∙ (ap (λ (k : ℕ). take k (f ++ behind)) is ∙ take-append_seam f behind)

-- of what is kept of the covered bytes, what is in front of the payload
ahead_of : (n : ℕ) (h p : List ℕ) → length h ≤ n → take (min (length h) (length (take n (h ++ p)))) (take n (h ++ p)) ≡ h
ahead_of n h p le = take_min (length h) (take n (h ++ p)) ∙ (take-take (length h) n (h ++ p) le ∙ take-append_seam h p)

-- what of a record is in front of the payload
abbrev head_of : ℕ → List ℕ → ℕ → List ℕ → List ℕ
head_of key front count ahead = eight key ++ (front ++ (eight count ++ ahead))

length-head : (key : ℕ) (front : List ℕ) (count : ℕ) (ahead : List ℕ) → length (head_of key front count ahead) ≡ 16 + length front + length ahead
length-head key front count ahead =
    let a = length-append (eight key) (front ++ (eight count ++ ahead)) in
    let b = length-append front (eight count ++ ahead) in
    let d = length-append (eight count) ahead in
    let x = length-eight key in
    let y = length-eight count in
    omega (arith, a, b, d, x, y)

parts : (f h p s : List ℕ) → framed (key_by f (h ++ p) s) ≡ head_of (length (key_by f (h ++ p) s)) f (length (h ++ p)) h ++ (p ++ framed s)
parts f h p s = simp append_assoc

module _ (q : Question) (h p old new : List ℕ) (place : Place) (sizes : Sizes) (size : ℕ) (a : StreamQuestion) (front kept signature : List ℕ) (count : ℕ)
    (known : record { front = front; covered = kept; count = count; signature = signature } ≡ gist_of (length old) q)
    (covered : q.covered ≡ h ++ p) (all : place.length ≡ length p) (s : AreSizes (length front) count place.length (length signature) sizes) where
  is_front : front ≡ front_of q.subject
  is_front = ap (λ (g : Gist). g.front) known

  is_signature : signature ≡ q.signature
  is_signature = ap (λ (g : Gist). g.signature) known

  is_count : count ≡ length h + length p
  is_count = ap (λ (g : Gist). g.count) known ∙ (ap (λ (z : List ℕ). length z) covered ∙ length-append h p)

  are_ahead : count - place.length ≡ length h
  are_ahead = let e = is_count in omega (arith, e, all)

  head : List ℕ
  head = head_of (length (key_by (front_of q.subject) q.covered q.signature)) (front_of q.subject) (length q.covered) h

  whole : record_of q ≡ head ++ (p ++ framed q.signature)
  unfolding head
  whole = subst (λ (c : List ℕ). framed (key_by (front_of q.subject) c q.signature) ≡ head_of (length (key_by (front_of q.subject) c q.signature)) (front_of q.subject) (length c) h ++ (p ++ framed q.signature))
      (sym covered) (parts (front_of q.subject) h p q.signature)

  head_is : sizes.head ≡ length head
  unfolding head
  head_is =
      let l = length-head (length (key_by (front_of q.subject) q.covered q.signature)) (front_of q.subject) (length q.covered) h in
      let f : length front ≡ length (front_of q.subject) = ap (λ (z : List ℕ). length z) is_front in
      let e = are_ahead in
      let x = s.head_is in
      omega (arith, l, f, e, x)

  whole_is : sizes.whole ≡ length (head ++ framed q.signature)
  whole_is =
      let l = length-append head (framed q.signature) in
      let m = length-framed q.signature in
      let f : length signature ≡ length q.signature = ap (λ (z : List ℕ). length z) is_signature in
      let e = head_is in
      let x = s.whole_is in
      omega (arith, l, m, f, e, x)

  module _ (fault_is : a.fault ≡ 0) (length_is : a.length ≡ size) (payload_is : a.payload ≡ place.at) (payload_length_is : a.payload_length ≡ place.length)
      (heads : a.head ≡ sizes.head) (wholes : a.question_length ≡ sizes.whole) where
    shown : (a.question_length ≤ length old → (a.status ≡ 0) × (new ≡ (head ++ framed q.signature) ++ drop a.question_length old))
        → (length old < a.question_length → (a.status ≡ 5) × (new ≡ old)) → WritesRecord q p place size old new a
    shown fits no_room = record {
      written = record {
        head = head;
        whole = whole;
        head_is = heads ∙ head_is;
        question_length_is = wholes ∙ whole_is;
        fault_is = fault_is;
        fits = fits;
        no_room = no_room;
      };
      length_is = length_is;
      payload_is = payload_is;
      payload_length_is = payload_length_is;
    }

    -- it is too long
    pub left_out : length old < sizes.whole → a.status ≡ 5 → new ≡ old → WritesRecord q p place size old new a
    left_out lt status same = shown (λ le. absurd (let w = wholes in let h : ⊥ = omega (arith, lt, le, w) in h)) (λ _. (status, same))

    -- it fits
    pub put_in : sizes.whole ≤ length old → a.status ≡ 0 → (text ahead : List ℕ) → ahead ≡ take (min (count - place.length) (length kept)) kept
        → text ≡ head_of sizes.key front count ahead ++ framed signature → new ≡ text ++ drop (length text) old → WritesRecord q p place size old new a
    unfolding head
    put_in le status text ahead is_ahead is_text is_new =
        let short : length h ≤ length old = let e = are_ahead in let x = s.head_is in let y = s.whole_is in omega (arith, e, x, y, le) in
        let kept_is : kept ≡ take (length old) (h ++ p) = ap (λ (g : Gist). g.covered) known ∙ ap (λ (z : List ℕ). take (length old) z) covered in
        let first : ahead ≡ h = is_ahead ∙ (ap (λ (n : ℕ). take (min n (length kept)) kept) are_ahead
        ∙ (ap (λ (z : List ℕ). take (min (length h) (length z)) z) kept_is ∙ ahead_of (length old) h p short)) in
        let counted : count ≡ length q.covered = ap (λ (g : Gist). g.count) known in
        let key : sizes.key ≡ length (key_by (front_of q.subject) q.covered q.signature) =
        s.key_is ∙ (rw (is_front, counted, is_signature) (sym (length-key (front_of q.subject) q.covered q.signature))) in
        let same : text ≡ head ++ framed q.signature = is_text ∙ rw (key, is_front, counted, first, is_signature) refl in
        let long : length text ≡ sizes.whole = ap (λ (z : List ℕ). length z) same ∙ sym whole_is in
        shown (λ _. (status, is_new ∙ (ap (λ (z : List ℕ). z ++ drop (length text) old) same ∙ ap (λ (n : ℕ). (head ++ framed q.signature) ++ drop n old) (long ∙ sym wholes))))
        (λ lt. absurd (let w = wholes in let h : ⊥ = omega (arith, lt, le, w) in h))

pub of_some : (x y : Gist) → Some x ≡ Some y → x ≡ y
of_some x y e = cc
