-- Items that lie too deep.
use Rattle.std.proofs.Common.{◌≡◌, ◌≤◌, ◌+◌, ◌-◌, ◌^◌, ℕ, zero, suc, List, [], ◌∷◌, ◌++◌, length, Option, Some, None, ◌⊎◌, inl, inr, append_assoc, reverse, Result, Ok, Err, IfErr, refl, sym, ap, subst, ◌∙◌, append-nil, arith, length-append, ◌<◌}
use Rattle.std.specs.Prelude.{nat_eq, cond, OnErr}
use Rattle.std.proofs.lemmas.List.{append_cancel_left, length-reverse}
use Rattle.std.proofs.lemmas.List.Sums.{sum_by-append}
use Rattle.ciborium_ll.specs.Title.{Title}
use Rattle.ciborium_ll.specs.declared.hdr.Header.{Header}
use Rattle.ciborium_ll.proofs.TitleLaws.{not_cut}
use Rattle.cbor_walk.specs.declared.walk.Fault.{Fault}
use Rattle.cbor_walk.specs.declared.walk.Fault.TheVariants as fault
use Rattle.cbor_walk.specs.declared.walk.Holds.{Holds}
use Rattle.cbor_walk.specs.declared.walk.Level.{Level}
use Rattle.cbor_walk.specs.declared.walk.Walk.{Walk}
use Rattle.cbor_walk.specs.Grammar.{stated, upto, after, body_of, bytes_in, Item, item, Items, no_items, item_more}
use Rattle.cbor_walk.specs.Walking.{Then, Long, Behind, Wants, IsAround, IsSound, Goes, Agrees, IsDeep, IfDeep, Counts, breaks, due_around, wanted_by}
use Rattle.cbor_walk.proofs.Steps.{takes_stated, takes_open, wants_there, items_there, behind_there, string_there}

-- what is due after `x`
pub goes_rest : (P Q : List ℕ → Type 0) (x rest : List ℕ) → Goes P Q x → P (x ++ rest) → Q rest
goes_rest P Q x rest g p =
    let u = g.on (x ++ rest) [] rest p (append-nil (x ++ rest)) in
    subst Q (sym (append_cancel_left x rest u.rest u.whole)) u.has

deep_from : (P Q : List ℕ → Type 0) (most : ℕ) (x : List ℕ) → Goes P Q x → (b : List ℕ) × Q b
    → ((b : List ℕ) → Q b → (most < breaks b) ⊎ (2 ^ 64 ≤ length b)) → IsDeep P most x
deep_from P Q most x g there long = record {
  begins = (there.0, g.back there.0 there.1);
  deep = λ rest p. long rest (goes_rest P Q x rest g p);
}

breaks_both : (x y : List ℕ) → breaks (x ++ y) ≡ breaks x + breaks y
breaks_both x y = sum_by-append (λ b. cond (nat_eq 255 b) 1 0) x y

-- each item has a byte
item_long : (b : List ℕ) → Item b → 1 ≤ length b
item_long b (item _ [] rest h t r e) = absurd (not_cut [] [] h t tt)
item_long b (item _ (x ∷ xs) rest h t r e) = let n = ap (λ (z : List ℕ). length z) e in omega (arith, n, length-append (x ∷ xs) rest)

items_long : (n : ℕ) (b : List ℕ) → Items n b → n ≤ length b
items_long zero b no_items = omega arith
items_long (suc n) b (item_more _ a c i is) = omega (arith, length-append a c, item_long a i, items_long n c is)

-- each open item has a break
behind_breaks : (o : Option Holds) (ls : List Level) (b : List ℕ) → IsAround o ls → Behind o ls b → length ls ≤ breaks b
behind_breaks None ls b s h = let n = ap (λ (z : List Level). length z) s in omega (arith, n)
behind_breaks (Some k) [] b s h = absurd s
behind_breaks (Some k) (l ∷ ls) b s (x, y, gs, (t, z, br, (i, r, is, h, f), g), e) =
    let more = behind_breaks l.holds ls r s h in
    let one : breaks t ≡ 1 = ap breaks br in
    let all : breaks b ≡ breaks x + (breaks t + (breaks i + breaks r)) =
    ap breaks e ∙ (breaks_both x y ∙ ap (λ (n : ℕ). breaks x + n) (ap breaks g ∙ (breaks_both t z ∙ ap (λ (n : ℕ). breaks t + n) (ap breaks f ∙ breaks_both i r)))) in
    omega (arith, more, one, all)

module _ (body due : ℕ) (o : Option Holds) (ls : List Level) where
  due_there : IsAround o ls → (b : List ℕ) × Then (Long body) (Wants o due ls) b
  due_there s =
      let x = string_there body in
      let w = wants_there o due ls s in
      (x.0 ++ w.0, (x.0, w.0, x.1, w.1, refl))

  due_breaks : (b : List ℕ) → IsAround o ls → Then (Long body) (Wants o due ls) b → length ls ≤ breaks b
  due_breaks b s (x, y, l, (i, r, is, h, f), e) =
      let more = behind_breaks o ls r s h in
      let all : breaks b ≡ breaks x + (breaks i + breaks r) = ap breaks e ∙ (breaks_both x y ∙ ap (λ (n : ℕ). breaks x + n) (ap breaks f ∙ breaks_both i r)) in
      omega (arith, more, all)

  due_long : (b : List ℕ) → Then (Long body) (Wants o due ls) b → due ≤ length b
  due_long b (x, y, l, (i, r, is, h, f), e) =
      let m = ap (λ (z : List ℕ). length z) e in
      let n = ap (λ (z : List ℕ). length z) f in
      omega (arith, m, n, length-append x y, length-append i r, items_long due i is)

-- too many items are due after this head
pub deep_due : (o : Option Holds) (due n most : ℕ) (ls : List Level) (h : Header) (title : List ℕ) → IsAround o ls → 0 < due → after h ≡ stated (body_of h) n → 2 ^ 64 ≤ n + (due - 1)
    → Title title h → IsDeep (Wants o due ls) most title
deep_due o due n most ls h title s is a many t =
    deep_from _ _ most title (takes_stated o due n (n + (due - 1)) ls h title is refl a t) (due_there (body_of h) (n + (due - 1)) o ls s)
    (λ b q. inr (let long = due_long (body_of h) (n + (due - 1)) o ls b q in omega (arith, long, many)))

-- the same of a head that alone claims too many
pub deep_claim : (o : Option Holds) (due n most : ℕ) (ls : List Level) (h : Header) (title : List ℕ) → IsAround o ls → 0 < due → after h ≡ stated 0 n → 2 ^ 64 ≤ n
    → Title title h → IsDeep (Wants o due ls) most title
deep_claim o due n most ls h title s is a many t =
    deep_due o due n most ls h title s is (subst (λ (z : ℕ). after h ≡ stated z n) (sym (ap bytes_in a)) a) (omega (arith, many)) t

-- too many are open
pub deep_open : (o : Option Holds) (k : Holds) (due most : ℕ) (ls : List Level) (h : Header) (title : List ℕ) → IsAround o ls → 0 < due → after h ≡ upto k → most ≤ length ls
    → Title title h → IsDeep (Wants o due ls) most title
deep_open o k due most ls h title s is a many t =
    let outer : List Level = record { holds = o; due = due - 1 } ∷ ls in
    deep_from _ _ most title (takes_open o (Some k) k due 0 ls outer h title is refl refl refl a t) (due_there (body_of h) 0 (Some k) outer s)
    (λ b q. inl (let more = due_breaks (body_of h) 0 (Some k) outer b s q in omega (arith, more, many)))

pub agrees_deep : (P Q : List ℕ → Type 0) (most : ℕ) (x : List ℕ) → Agrees P Q x → IsDeep Q most x → IsDeep P most x
agrees_deep P Q most x a d = record {
  begins = (d.begins.0, a.back d.begins.0 d.begins.1);
  deep = λ rest p. d.deep rest (a.on (x ++ rest) [] rest p (append-nil (x ++ rest)));
}

pub deep_weaker : {T P Q : Type 0} (r : Result T Fault) → (P → Q) → IfErr r (IfDeep P) → IfErr r (IfDeep Q)
deep_weaker (Ok x) f h = tt
deep_weaker (Err fault.Syntax) f h = tt
deep_weaker (Err fault.Deep) f h = f h
deep_weaker (Err fault.Memory) f h = tt

pub over_due : {T A P : Type 0} (r : Result T Fault) → (A → P) → OnErr r A → IfErr r (IfDeep P)
over_due (Ok x) f h = tt
over_due (Err fault.Syntax) f h = tt
over_due (Err fault.Deep) f h = f h
over_due (Err fault.Memory) f h = tt

-- what is due said otherwise
pub deep_as : (P Q : List ℕ → Type 0) (most : ℕ) (x : List ℕ) → ((b : List ℕ) → P b → Q b) → ((b : List ℕ) → Q b → P b) → IsDeep Q most x → IsDeep P most x
deep_as P Q most x to back d = record {
  begins = (d.begins.0, back (x ++ d.begins.0) d.begins.1);
  deep = λ rest p. d.deep rest (to (x ++ rest) p);
}

-- after the first bytes of an item
pub deep_behind : (P : List ℕ → Type 0) (most : ℕ) (x y : List ℕ) → Goes Item P x → IsDeep P most y → IsDeep Item most (x ++ y)
deep_behind P most x y g d = record {
  begins = (d.begins.0, subst Item (sym (append_assoc x y d.begins.0)) (g.back (y ++ d.begins.0) d.begins.1));
  deep = λ rest i. d.deep rest (goes_rest Item P x (y ++ rest) g (subst Item (append_assoc x y rest) i));
}

-- the fewest bytes that are due
zeros : (n : ℕ) → (breaks (items_there n).0 ≡ 0) × (length (items_there n).0 ≡ n)
zeros zero = (refl, refl)
zeros (suc n) = let r = zeros n in (r.0, ap suc r.1)

fewest : (o : Option Holds) (ls : List Level) (s : IsAround o ls) → (breaks (behind_there o ls s).0 ≡ length ls) × (length (behind_there o ls s).0 ≡ due_around ls)
fewest None [] s = (refl, refl)
fewest None (l ∷ ls) s = let e : ◌≡◌ {A = List Level} (l ∷ ls) [] = s in cc
fewest (Some k) [] s = absurd s
fewest (Some k) (l ∷ ls) s =
    let r = fewest l.holds ls s in
    let i = zeros l.due in
    let rest = behind_there l.holds ls s in
    let n : breaks (255 ∷ ((items_there l.due).0 ++ rest.0)) ≡ 1 + (breaks (items_there l.due).0 + breaks rest.0) =
    breaks_both (255 ∷ []) ((items_there l.due).0 ++ rest.0) ∙ ap (λ (z : ℕ). 1 + z) (breaks_both (items_there l.due).0 rest.0) in
    (omega (arith, n, r.0, i.0), omega (arith, length-append (items_there l.due).0 rest.0, r.1, i.1))

pub deep_counts : (most : ℕ) (w : Walk) (x : List ℕ) → IsSound w → Goes Item (wanted_by w) x → IsDeep Item most x → Counts most w
deep_counts most w x s g d =
    let ls : List Level = reverse w.levels.items in
    let few = fewest w.holds ls s in
    let i = zeros w.due in
    let b = wants_there w.holds w.due ls s in
    let n : breaks b.0 ≡ breaks (items_there w.due).0 + breaks (behind_there w.holds ls s).0 = breaks_both (items_there w.due).0 (behind_there w.holds ls s).0 in
    let m : length b.0 ≡ length (items_there w.due).0 + length (behind_there w.holds ls s).0 = length-append (items_there w.due).0 (behind_there w.holds ls s).0 in
    elim (d.deep b.0 (g.back b.0 b.1)) [
      | inl many ↦ inl (omega (arith, many, n, few.0, i.0, length-reverse w.levels.items))
      | inr long ↦ inr (omega (arith, long, m, few.1, i.1))
    ]
