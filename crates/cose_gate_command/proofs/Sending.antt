-- What was written, part by part.
use Rattle.std.proofs.Common.{◌≡◌, ℕ, ◌+◌, ◌<◌, ◌≤◌, List, [], ◌++◌, length, take, drop, get_or, flat_map, refl, sym, ap, subst, ◌∙◌}
use Rattle.std.specs.Io.KnownBytes.{Appends}
use Rattle.std.specs.Prelude.{Result, Ok, Err, OnOk, OnErr, IsErr}
use Rattle.std.proofs.KnownBytes.{Appends-nil, Appends-trans}
use Rattle.std.proofs.lemmas.Bool.{true≢false}
use Rattle.std.proofs.lemmas.List.{take-append-drop, drop_more, take_all, take_more, flat_map_more}
use Rattle.std.proofs.lemmas.List.Concat.{flat_map-append}
use Rattle.ciborium_ll.specs.Device.{AppendsFront, write_failures}
use Rattle.ciborium_ll.specs.declared.write.Write.{Ghosts as Writes}
use Rattle.ciborium_ll.proofs.Appending.{front_then, then_front}
use Rattle.cose_gate_command.specs.Asking.{SentText}

-- all of a text was written, or a beginning of it, and then the writer failed
abbrev pub Wrote : {W F : Type 0} → Writes W F → W → W → List ℕ → Type 0
Wrote w out out' text = (w.failed out' ≡ w.failed out) × Appends (w.written out) (w.written out') text

abbrev pub Torn : {W F : Type 0} → Writes W F → W → W → List ℕ → Type 0
Torn w out out' text = (w.failed out' ≡ w.failed out + 1) × AppendsFront (w.written out) (w.written out') text

-- a text as parts of a list, and the one at an index
at : {X : Type 0} (f : X → List ℕ) (xs : List X) (i : ℕ) (d : X) → i < length xs → flat_map f xs ≡ flat_map f (take i xs) ++ (f (get_or xs i d) ++ flat_map f (drop (i + 1) xs))
at {X} f xs i d h =
    ap (λ (z : List X). flat_map f z) (sym (take-append-drop i xs)) ∙ (flat_map-append f (take i xs) (drop i xs)
    ∙ ap (λ (z : List X). flat_map f (take i xs) ++ flat_map f z) (drop_more xs i d h))

up_to : {X : Type 0} (f : X → List ℕ) (xs : List X) (i : ℕ) (d : X) → i < length xs → flat_map f (take i xs) ++ f (get_or xs i d) ≡ flat_map f (take (i + 1) xs)
up_to {X} f xs i d h = flat_map_more f [] (take i xs) (get_or xs i d) ∙ ap (λ (z : List X). flat_map f z) (sym (take_more xs i d h))

module _ {W F : Type 0} (w : Writes W F) where
  -- what one call wrote
  pub sent_by : {T E : Type 0} (out out' : W) (r : Result T E) (text : List ℕ) → OnOk r (Appends (w.written out) (w.written out') text)
      → OnErr r (AppendsFront (w.written out) (w.written out') text) → w.failed out' ≡ write_failures r (w.failed out) → SentText w out out' r text
  sent_by out out' (Ok x) text ok err f = (f, ok)
  sent_by out out' (Err e) text ok err f = (f, err)

  pub sent_torn : {T E : Type 0} (out out' : W) (r : Result T E) (text : List ℕ) → IsErr r → Torn w out out' text → SentText w out out' r text
  sent_torn out out' (Ok x) text e p = absurd (true≢false (sym e))
  sent_torn out out' (Err x) text e p = p

  -- one text after another
  pub wrote_after : (out mid out' : W) (first then : List ℕ) → Wrote w out mid first → Wrote w mid out' then → Wrote w out out' (first ++ then)
  wrote_after out mid out' first then p q =
      (q.0 ∙ p.0, Appends-trans (w.written out) (w.written mid) (w.written out') first then p.1 q.1)

  pub torn_after : (out mid out' : W) (first then : List ℕ) → Wrote w out mid first → Torn w mid out' then → Torn w out out' (first ++ then)
  torn_after out mid out' first then p q =
      (q.0 ∙ ap (λ (n : ℕ). n + 1) p.0, then_front (w.written out) (w.written mid) (w.written out') first then p.1 q.1)

  pub sent_after : {T E : Type 0} (out mid out' : W) (r : Result T E) (first then : List ℕ) → Wrote w out mid first → SentText w mid out' r then → SentText w out out' r (first ++ then)
  sent_after out mid out' (Ok x) first then p q = wrote_after out mid out' first then p q
  sent_after out mid out' (Err e) first then p q = torn_after out mid out' first then p q

  -- a text of which the end wasn't written
  pub torn_more : (out out' : W) (first then : List ℕ) → Torn w out out' first → Torn w out out' (first ++ then)
  torn_more out out' first then p = (p.0, front_then (w.written out) (w.written out') first then p.1)

  -- a loop over a list, each item of which has a text
  pub wrote_none : (out : W) → Wrote w out out []
  wrote_none out = (refl, Appends-nil (w.written out))

  pub wrote_next : {X : Type 0} (f : X → List ℕ) (xs : List X) (i : ℕ) (d : X) (out mid out' : W) → i < length xs → Wrote w out mid (flat_map f (take i xs))
      → Wrote w mid out' (f (get_or xs i d)) → Wrote w out out' (flat_map f (take (i + 1) xs))
  wrote_next f xs i d out mid out' h p q =
      subst (λ (z : List ℕ). Wrote w out out' z) (up_to f xs i d h) (wrote_after out mid out' (flat_map f (take i xs)) (f (get_or xs i d)) p q)

  pub torn_next : {X : Type 0} (f : X → List ℕ) (xs : List X) (i : ℕ) (d : X) (out mid out' : W) → i < length xs → Wrote w out mid (flat_map f (take i xs))
      → Torn w mid out' (f (get_or xs i d)) → Torn w out out' (flat_map f xs)
  torn_next f xs i d out mid out' h p q =
      subst (λ (z : List ℕ). Torn w out out' z) (sym (at f xs i d h))
      (torn_after out mid out' (flat_map f (take i xs)) (f (get_or xs i d) ++ flat_map f (drop (i + 1) xs)) p
      (torn_more mid out' (f (get_or xs i d)) (flat_map f (drop (i + 1) xs)) q))

  pub wrote_all : {X : Type 0} (f : X → List ℕ) (xs : List X) (i : ℕ) (out out' : W) → length xs ≤ i → Wrote w out out' (flat_map f (take i xs)) → Wrote w out out' (flat_map f xs)
  wrote_all {X} f xs i out out' h p = subst (λ (z : List X). Wrote w out out' (flat_map f z)) (take_all i xs h) p
