-- The steps of the walk.
use Rattle.std.proofs.Common.{◌≡◌, ◌≢◌, ◌<◌, ◌≤◌, ℕ, zero, suc, ◌+◌, ◌-◌, List, [], ◌∷◌, ◌++◌, true, false, Option, Some, None, Result, Ok, Err, IfErr, refl, sym, ap, subst, ◌∙◌, append_assoc, append-nil, arith, length, reverse, take, drop, length-append, length-drop}
use Rattle.std.proofs.lemmas.List.{reverse-append, take-append-drop, length-take-le}
use Rattle.ciborium_ll.specs.Title.{Title, Begins}
use Rattle.ciborium_ll.specs.declared.hdr.Header.{Header}
use Rattle.ciborium_ll.specs.Title.NumberAt.{direct}
use Rattle.ciborium_ll.specs.declared.hdr.Header.TheVariants.{Break, Positive}
use Rattle.ciborium_ll.proofs.Closings.{split_heads, same_fronts, break_title}
use Rattle.cbor_walk.specs.declared.walk.Fault.{Fault}
use Rattle.cbor_walk.specs.declared.walk.Fault.TheVariants as fault
use Rattle.cbor_walk.specs.declared.walk.Holds.{Holds}
use Rattle.cbor_walk.specs.declared.walk.Holds.TheVariants as holds
use Rattle.cbor_walk.specs.declared.walk.Level.{Level}
use Rattle.cbor_walk.specs.declared.walk.Walk.{Walk}
use Rattle.cbor_walk.specs.Grammar.{After, stated, upto, nowhere, after, body_of, bytes_in, size, takes, Item, item, Rest, of_stated, of_open, Items, no_items, item_more, no_groups, group_more}
use Rattle.cbor_walk.specs.Walking.{Then, Long, Behind, Wants, IsAround, Follows, Goes, Refuses, Agrees, IfSyntax, IsNothing, IsOne, IsDue, IsSound, wanted_by}
use Rattle.cbor_walk.proofs.Going.{regroup, goes_from, goes_to, goes_before}

-- the head of an item
head_goes : (h : Header) (title : List ℕ) → Title title h → Goes Item (Rest (after h)) title
head_goes h title t = record { back = λ rest r. item (title ++ rest) title rest h t r refl; on = on }
  where
    on : (i behind left : List ℕ) → Item i → i ++ behind ≡ title ++ left → Follows (Rest (after h)) title i
    on i behind left (item _ s rest k u r e) f =
        let w = split_heads s title (rest ++ behind) left k h u t (sym (regroup i s rest behind e) ∙ f) in
        record { rest = rest; has = subst (λ (z : Header). Rest (after z) rest) w.heads r; whole = e ∙ ap (λ z. z ++ rest) w.titles }

module _ (R : List ℕ → Type 0) where
  first_item : (n : ℕ) (b : List ℕ) → Then (Items (suc n)) R b → Then Item (Then (Items n) R) b
  first_item n b (_, y, item_more _ a c i is, r, e) = (a, c ++ y, i, (c, y, is, r, refl), e ∙ append_assoc a c y)

  with_first : (n : ℕ) (b : List ℕ) → Then Item (Then (Items n) R) b → Then (Items (suc n)) R b
  with_first n b (a, d, i, (c, y, is, r, f), e) = (a ++ c, y, item_more n a c i is, r, e ∙ ap (λ z. a ++ z) f ∙ sym (append_assoc a c y))

  -- an item begins
  pub begins : (h : Header) (n : ℕ) (title : List ℕ) → Title title h → Goes (Then (Items (suc n)) R) (Then (Rest (after h)) (Then (Items n) R)) title
  begins h n title t = goes_from _ _ _ title (first_item n) (with_first n) (goes_before _ _ _ title (head_goes h title t))

  more_items : (m n : ℕ) (b : List ℕ) → Then (Items m) (Then (Items n) R) b → Then (Items (m + n)) R b
  more_items zero n b (_, d, no_items, h, e) = subst (λ z. Then (Items z) R b) (omega arith) (subst (Then (Items n) R) (sym e) h)
  more_items (suc m) n b (_, d, item_more _ a c i is, h, e) =
      subst (λ z. Then (Items z) R b) (omega arith) (with_first (m + n) b (a, c ++ d, i, more_items m n (c ++ d) (c, d, is, h, refl), e ∙ append_assoc a c d))

  fewer_items : (m n : ℕ) (b : List ℕ) → Then (Items (m + n)) R b → Then (Items m) (Then (Items n) R) b
  fewer_items zero n b h = ([], b, no_items, subst (λ z. Then (Items z) R b) (omega arith) h, refl)
  fewer_items (suc m) n b h =
      let u = first_item (m + n) b (subst (λ z. Then (Items z) R b) (omega arith) h) in
      let v = fewer_items m n u.1 u.3 in
      (u.0 ++ v.0, v.1, item_more m u.0 v.0 u.2 v.2, v.3, u.4 ∙ ap (λ z. u.0 ++ z) v.4 ∙ sym (append_assoc u.0 v.0 v.1))

  stated_to : (len m n : ℕ) (b : List ℕ) → Then (Rest (stated len m)) (Then (Items n) R) b → Then (Long len) (Then (Items (m + n)) R) b
  stated_to len m n b (x, y, of_stated _ _ _ body inner l is f, r, e) = (body, inner ++ y, l, more_items m n (inner ++ y) (inner, y, is, r, refl), e ∙ regroup x body inner y f)

  stated_from : (len m n : ℕ) (b : List ℕ) → Then (Long len) (Then (Items (m + n)) R) b → Then (Rest (stated len m)) (Then (Items n) R) b
  stated_from len m n b (body, y, l, h, e) =
      let u = fewer_items m n y h in
      (body ++ u.0, u.1, of_stated len m (body ++ u.0) body u.0 l u.2 refl, u.3, e ∙ ap (λ z. body ++ z) u.4 ∙ sym (append_assoc body u.0 u.1))

  -- an item of stated length: its bytes are due, and then its items and the others
  pub stated_goes : (h : Header) (len m n : ℕ) (title : List ℕ) → Title title h → after h ≡ stated len m
      → Goes (Then (Items (suc n)) R) (Then (Long len) (Then (Items (m + n)) R)) title
  stated_goes h len m n title t is = goes_to _ _ _ title (begins h n title t)
      (λ b q. stated_to len m n b (subst (λ (z : After). Then (Rest z) (Then (Items n) R) b) is q))
      (λ b q. subst (λ (z : After). Then (Rest z) (Then (Items n) R) b) (sym is) (stated_from len m n b q))

-- no item begins with a break
pub break_refuses : (R : List ℕ → Type 0) (n : ℕ) (title : List ℕ) → Title title Break → Refuses (Then (Items (suc n)) R) title
break_refuses R n title t i behind left h e = none ((begins R Break n title t).on i behind left h e).has
  where
    none : {b : List ℕ} → Then (Rest nowhere) (Then (Items n) R) b → ⊥
    none (x, y, r, h, e) = elim r [ ]

one_more : (k : Holds) → size k ≡ suc (size k - 1)
one_more holds.Items = refl
one_more holds.Pairs = refl
one_more holds.Bytes = refl
one_more holds.Text = refl

-- no group of an open item begins with one
group_breaks : (k : Holds) (a u left title : List ℕ) → Items (size k) a → Title title Break → a ++ u ≡ title ++ left → ⊥
group_breaks k a u left title is t e = break_refuses (λ b. b ≡ []) (size k - 1) title t a u left (a, [], subst (λ (z : ℕ). Items z a) (one_more k) is, refl, sym (append-nil a)) e

-- the bytes of a string that is none
pub no_body : (P : List ℕ → Type 0) (b : List ℕ) → P b → Then (Long 0) P b
no_body P b p = ([], b, refl, p, refl)

pub only_rest : (P : List ℕ → Type 0) (b : List ℕ) → Then (Long 0) P b → P b
only_rest P b ([], y, l, p, e) = subst P (sym e) p
only_rest P b (x ∷ xs, y, l, p, e) = absurd (omega arith)

-- bytes of a string
pub body_goes : (W : List ℕ → Type 0) (n m : ℕ) (x : List ℕ) → n ≡ length x + m → Goes (Then (Long n) W) (Then (Long m) W) x
body_goes W n m x len = record { back = back; on = on }
  where
    back : (rest : List ℕ) → Then (Long m) W rest → Then (Long n) W (x ++ rest)
    back rest (a, b, l, w, e) = (x ++ a, b, length-append x a ∙ ap (λ z. length x + z) l ∙ sym len, w, ap (λ z. x ++ z) e ∙ sym (append_assoc x a b))

    on : (i behind left : List ℕ) → Then (Long n) W i → i ++ behind ≡ x ++ left → Follows (Then (Long m) W) x i
    on i behind left (a, b, l, w, e) f =
        let parts : a ≡ take (length x) a ++ drop (length x) a = sym (take-append-drop (length x) a) in
        let within : length x ≤ length a = omega arith in
        let g = same_fronts (take (length x) a) x (drop (length x) a ++ (b ++ behind)) left (length-take-le (length x) a within) (sym (regroup a (take (length x) a) (drop (length x) a) (b ++ behind) parts) ∙ sym (regroup i a b behind e) ∙ f) in
        let whole : a ≡ x ++ drop (length x) a = parts ∙ ap (λ z. z ++ drop (length x) a) g.0 in
        record { rest = drop (length x) a ++ b; has = (drop (length x) a, b, omega (arith, length-drop (length x) a), w, refl); whole = e ∙ regroup a x (drop (length x) a) b whole }

module _ (o : Option Holds) (ls : List Level) where
  open_to : (k : Holds) (n : ℕ) (b : List ℕ) → Then (Rest (upto k)) (Wants o n ls) b → Wants (Some k) 0 (record { holds = o; due = n } ∷ ls) b
  open_to k n b (x, y, of_open _ _ inner gs f, r, e) = ([], b, no_items, (inner, 255 ∷ y, gs, (255 ∷ [], y, refl, r, refl), e ∙ regroup x inner (255 ∷ []) y f), refl)

  open_from : (k : Holds) (n : ℕ) (b : List ℕ) → Wants (Some k) 0 (record { holds = o; due = n } ∷ ls) b → Then (Rest (upto k)) (Wants o n ls) b
  open_from k n b (_, d, no_items, (inner, z, gs, (s, y, br, r, f), g), e) =
      (inner ++ 255 ∷ [], y, of_open k (inner ++ 255 ∷ []) inner gs refl, r, e ∙ g ∙ ap (λ z. inner ++ z) (f ∙ ap (λ z. z ++ y) br) ∙ sym (append_assoc inner (255 ∷ []) y))

  -- an open item begins
  pub open_goes : (h : Header) (k : Holds) (n : ℕ) (title : List ℕ) → Title title h → after h ≡ upto k
      → Goes (Wants o (suc n) ls) (Then (Long 0) (Wants (Some k) 0 (record { holds = o; due = n } ∷ ls))) title
  open_goes h k n title t is = goes_to _ _ _ title (goes_to _ _ _ title (begins (Behind o ls) h n title t)
      (λ b q. open_to k n b (subst (λ (z : After). Then (Rest z) (Wants o n ls) b) is q))
      (λ b q. subst (λ (z : After). Then (Rest z) (Wants o n ls) b) (sym is) (open_from k n b q)))
      (no_body _) (only_rest _)

  -- its break, if no item is due in it
  pub closes : (k : Holds) (n : ℕ) (title : List ℕ) → Title title Break → Goes (Wants (Some k) 0 (record { holds = o; due = n } ∷ ls)) (Then (Long 0) (Wants o n ls)) title
  closes k n title t = goes_to _ _ _ title (record { back = back; on = on k }) (no_body _) (only_rest _)
    where
      back : (rest : List ℕ) → Wants o n ls rest → Wants (Some k) 0 (record { holds = o; due = n } ∷ ls) (title ++ rest)
      back rest w = ([], title ++ rest, no_items, ([], title ++ rest, no_groups k, (title, rest, t, w, refl), refl), refl)

      on : (k : Holds) (i behind left : List ℕ) → Wants (Some k) 0 (record { holds = o; due = n } ∷ ls) i → i ++ behind ≡ title ++ left → Follows (Wants o n ls) title i
      on k i behind left (_, d, no_items, (_, z, no_groups _, (s, y, br, w, f), g), e) h =
          record { rest = y; has = w; whole = e ∙ g ∙ f ∙ ap (λ z. z ++ y) (br ∙ sym t) }
      on k i behind left (_, d, no_items, (_, z, group_more _ a c s is gs, w, g), e) h = absurd (group_breaks k a (c ++ (z ++ behind)) left title is t (sym (regroup i (a ++ c) z behind (e ∙ g) ∙ append_assoc a c (z ++ behind)) ∙ h))

-- whatever may begin with a head in an open item in which no item is due
record Begun (k : Holds) (h : Header) (ls : List Level) (i : List ℕ) : Type 0 where
  pub takes : takes k h ≡ true
  pub wants : Wants (Some k) (size k) ls i

module _ (h : Header) (title left : List ℕ) (t : Title title h) (on : h ≢ Break) where
  begun : (k : Holds) (ls : List Level) (i behind : List ℕ) → Wants (Some k) 0 ls i → i ++ behind ≡ title ++ left → Begun k h ls i
  begun k [] i behind (x, d, is, none, e) f = absurd none
  begun k (l ∷ ls) i behind (_, d, no_items, (_, z, no_groups _, (s, y, br, w, f), g), e) j =
      absurd (on (sym (split_heads (255 ∷ []) title (y ++ behind) left Break h break_title t (sym (regroup i (255 ∷ []) y behind (e ∙ g ∙ f ∙ ap (λ z. z ++ y) br)) ∙ j)).heads))
  begun k (l ∷ ls) i behind (_, d, no_items, (_, z, group_more _ a c (s, r, u, v, ok, m) is gs, w, g), e) j =
      let f : i ≡ a ++ (c ++ z) = e ∙ g ∙ append_assoc a c z in
      let q = split_heads s title (r ++ ((c ++ z) ++ behind)) left u h v t (sym (regroup i a (c ++ z) behind f ∙ regroup a s r ((c ++ z) ++ behind) m) ∙ j) in
      record { takes = ap (takes k) (sym q.heads) ∙ ok; wants = (a, c ++ z, is, (c, z, gs, w, refl), f) }

-- a group of an open item may begin with this head
pub group_agrees : (h : Header) (k : Holds) (ls : List Level) (title : List ℕ) → Title title h → h ≢ Break → takes k h ≡ true → Agrees (Wants (Some k) 0 ls) (Wants (Some k) (size k) ls) title
group_agrees h k ls title t on ok = record { back = back ls; on = λ i behind left w e. (begun h title left t on k ls i behind w e).wants }
  where
    back : (ls : List Level) (rest : List ℕ) → Wants (Some k) (size k) ls (title ++ rest) → Wants (Some k) 0 ls (title ++ rest)
    back [] rest (a, d, is, none, e) = absurd none
    back (l ∷ ls) rest (a, d, is, (c, z, gs, w, f), e) =
        let u = (begins (λ b. b ≡ []) h (size k - 1) title t).on a d rest (a, [], subst (λ (z : ℕ). Items z a) (one_more k) is, refl, sym (append-nil a)) (sym e) in
        ([], title ++ rest, no_items, (a ++ c, z, group_more k a c (title, u.rest, h, t, ok, u.whole) is gs, w, e ∙ ap (λ z. a ++ z) f ∙ sym (append_assoc a c z)), refl)

-- or not
pub group_refuses : (h : Header) (k : Holds) (ls : List Level) (title : List ℕ) → Title title h → h ≢ Break → takes k h ≡ false → Refuses (Wants (Some k) 0 ls) title
group_refuses h k ls title t on untaken i behind left w e = let b = (begun h title left t on k ls i behind w e).takes in let f : true ≡ false = sym b ∙ untaken in cc

pub agrees_goes : (P Q R : List ℕ → Type 0) (x : List ℕ) → Agrees P Q x → Goes Q R x → Goes P R x
agrees_goes P Q R x a g = record { back = λ rest r. a.back rest (g.back rest r); on = λ i behind left p e. g.on i behind left (a.on i behind left p e) e }

pub agrees_refuses : (P Q : List ℕ → Type 0) (x : List ℕ) → Agrees P Q x → Refuses Q x → Refuses P x
agrees_refuses P Q x a r i behind left p e = r i behind left (a.on i behind left p e) e

reversed : (xs ys : List Level) (l : Level) → xs ≡ ys ++ l ∷ [] → reverse xs ≡ l ∷ reverse ys
reversed xs ys l e = ap reverse e ∙ reverse-append ys (l ∷ [])

-- The steps by what the code has.
pub last_closes : (o : Option Holds) (due : ℕ) (xs ys : List Level) (l : Level) (title : List ℕ) → o ≢ None → due ≡ 0 → xs ≡ ys ++ l ∷ [] → Title title Break
    → Goes (Wants o due (reverse xs)) (Then (Long 0) (Wants l.holds l.due (reverse ys))) title
last_closes None due xs ys l title on none e t = absurd (on refl)
last_closes (Some k) due xs ys l title on none e t =
    subst (λ (z : List Level). Goes (Wants (Some k) due z) (Then (Long 0) (Wants l.holds l.due (reverse ys))) title) (sym (reversed xs ys l e))
    (subst (λ (z : ℕ). Goes (Wants (Some k) z (l ∷ reverse ys)) (Then (Long 0) (Wants l.holds l.due (reverse ys))) title) (sym none) (closes l.holds (reverse ys) k l.due title t))

pub nothing_around : (o : Option Holds) (due : ℕ) (xs : List Level) (i : List ℕ) → o ≢ None → length xs ≡ 0 → Wants o due (reverse xs) i → ⊥
nothing_around None due xs i on e w = on refl
nothing_around (Some k) due [] i on e (x, y, is, none, f) = none
nothing_around (Some k) due (l ∷ ls) i on e w = absurd (omega arith)

pub takes_stated : (o : Option Holds) (due n more : ℕ) (ls : List Level) (h : Header) (title : List ℕ) → 0 < due → more ≡ n + (due - 1) → after h ≡ stated (body_of h) n → Title title h
    → Goes (Wants o due ls) (Then (Long (body_of h)) (Wants o more ls)) title
takes_stated o zero n more ls h title is e a t = absurd (omega arith)
takes_stated o (suc due) n more ls h title is e a t =
    subst (λ (z : ℕ). Goes (Wants o (suc due) ls) (Then (Long (body_of h)) (Wants o z ls)) title) (omega arith) (stated_goes (Behind o ls) h (body_of h) n due title t a)

pub takes_open : (o k' : Option Holds) (k : Holds) (due due' : ℕ) (ls ls' : List Level) (h : Header) (title : List ℕ) → 0 < due → k' ≡ Some k → due' ≡ 0
    → ls' ≡ record { holds = o; due = due - 1 } ∷ ls → after h ≡ upto k → Title title h
    → Goes (Wants o due ls) (Then (Long (body_of h)) (Wants k' due' ls')) title
takes_open o k' k zero due' ls ls' h title is ek ed el a t = absurd (omega arith)
takes_open o k' k (suc due) due' ls ls' h title is ek ed el a t =
    rw (ek, ed, el) (subst (λ (z : ℕ). Goes (Wants o (suc due) ls) (Then (Long z) (Wants (Some k) 0 (record { holds = o; due = suc due - 1 } ∷ ls))) title) (sym (ap bytes_in a))
    (subst (λ (z : ℕ). Goes (Wants o (suc due) ls) (Then (Long 0) (Wants (Some k) 0 (record { holds = o; due = z } ∷ ls))) title) (omega arith) (open_goes o ls h k due title t a)))

pub break_untaken : (o : Option Holds) (due : ℕ) (ls : List Level) (h : Header) (title : List ℕ) → 0 < due → h ≡ Break → Title title h → Refuses (Wants o due ls) title
break_untaken o zero ls h title is e t = absurd (omega arith)
break_untaken o (suc due) ls h title is e t = break_refuses (Behind o ls) due title (subst (λ (z : Header). Title title z) e t)

pub syntax_weaker : {T P Q : Type 0} (r : Result T Fault) → (P → Q) → IfErr r (IfSyntax P) → IfErr r (IfSyntax Q)
syntax_weaker (Ok x) f h = tt
syntax_weaker (Err fault.Syntax) f h = f h
syntax_weaker (Err fault.Deep) f h = tt
syntax_weaker (Err fault.Memory) f h = tt

-- An item that begins, and one that is whole.
pub item_due : (o : Option Holds) (due : ℕ) (ls : List Level) → o ≡ None → due ≡ 1 → Goes Item (Wants o due ls) []
item_due o due ls e f = rw (e, f) (goes_to _ _ _ [] (record { back = λ rest i. i; on = λ i behind left p e. record { rest = i; has = p; whole = refl } }) to from)
  where
    to : (b : List ℕ) → Item b → Wants None 1 ls b
    to b i = (b ++ [], [], item_more 0 b [] i no_items, refl, sym (append-nil (b ++ []) ∙ append-nil b))

    from : (b : List ℕ) → Wants None 1 ls b → Item b
    from b (_, y, item_more _ a _ i no_items, none, e) = subst Item (sym (e ∙ ap (λ z. (a ++ []) ++ z) none ∙ append-nil (a ++ []) ∙ append-nil a)) i

pub nothing_due : (o : Option Holds) (due : ℕ) (ls : List Level) → o ≡ None → due ≡ 0 → Goes (Wants o due ls) IsNothing []
nothing_due o due ls e f = rw (e, f) (record { back = λ rest none. ([], [], no_items, refl, none); on = on })
  where
    on : (i behind left : List ℕ) → Wants None 0 ls i → i ++ behind ≡ [] ++ left → Follows IsNothing [] i
    on i behind left (_, y, no_items, none, e) f = record { rest = i; has = e ∙ none; whole = refl }

pub whole_item : (x : List ℕ) → Goes Item IsNothing x → IsOne x
whole_item x g = record {
  is = subst Item (append-nil x) (g.back [] refl);
  once = λ i behind left h e. let u = g.on i behind left h e in u.whole ∙ ap (λ z. x ++ z) u.has ∙ append-nil x;
}

-- What is due begins with a head.
pub wants_begin : (o : Option Holds) (due : ℕ) (ls : List Level) (i : List ℕ) → (due ≡ 0 → o ≢ None) → Wants o due ls i → (h : Header) × (rest : List ℕ) × Begins i h rest
wants_begin None zero ls i on w = absurd (on refl refl)
wants_begin (Some k) zero [] i on (x, y, is, none, e) = absurd none
wants_begin (Some k) zero (l ∷ ls) i on (_, d, no_items, (_, z, no_groups _, (s, y, br, w, f), g), e) =
    (Break, y, record { title = 255 ∷ []; is_title = break_title; whole = e ∙ g ∙ f ∙ ap (λ z. z ++ y) br })
wants_begin (Some k) zero (l ∷ ls) i on (_, d, no_items, (_, z, group_more _ a c (s, r, u, v, ok, m) is gs, w, g), e) =
    (u, r ++ (c ++ z), record { title = s; is_title = v; whole = e ∙ g ∙ append_assoc a c z ∙ regroup a s r (c ++ z) m })
wants_begin o (suc n) ls i on (_, y, item_more _ a c (item _ s r k t q f) is, w, e) =
    (k, r ++ (c ++ y), record { title = s; is_title = t; whole = e ∙ append_assoc a c y ∙ regroup a s r (c ++ y) f })

-- What is due is there, if each open item has what is around it.
pub closes_sound : (o : Option Holds) (xs ys : List Level) (l : Level) → o ≢ None → xs ≡ ys ++ l ∷ [] → IsAround o (reverse xs) → IsAround l.holds (reverse ys)
closes_sound None xs ys l on e s = absurd (on refl)
closes_sound (Some k) xs ys l on e s = subst (IsAround (Some k)) (reversed xs ys l e) s

abbrev pub zero_item : Item (0 ∷ [])
zero_item = item (0 ∷ []) (0 ∷ []) [] (Positive 0) (0, ([], refl, direct (omega arith) refl refl)) (of_stated 0 0 [] [] [] refl no_items refl) refl

abbrev pub items_there : (n : ℕ) → (b : List ℕ) × Items n b
items_there zero = ([], no_items)
items_there (suc n) = let r = items_there n in (0 ∷ r.0, item_more n (0 ∷ []) r.0 zero_item r.1)

abbrev pub behind_there : (o : Option Holds) (ls : List Level) → IsAround o ls → (b : List ℕ) × Behind o ls b
behind_there None ls s = ([], refl)
behind_there (Some k) [] s = absurd s
behind_there (Some k) (l ∷ ls) s =
    let r = behind_there l.holds ls s in
    let i = items_there l.due in
    (255 ∷ (i.0 ++ r.0), ([], 255 ∷ (i.0 ++ r.0), no_groups k, (255 ∷ [], i.0 ++ r.0, refl, (i.0, r.0, i.1, r.1, refl), refl), refl))

abbrev pub wants_there : (o : Option Holds) (due : ℕ) (ls : List Level) → IsAround o ls → (b : List ℕ) × Wants o due ls b
wants_there o due ls s =
    let r = behind_there o ls s in
    let i = items_there due in
    (i.0 ++ r.0, (i.0, r.0, i.1, r.1, refl))

pub string_there : (n : ℕ) → (b : List ℕ) × Long n b
string_there zero = ([], refl)
string_there (suc n) = let r = string_there n in (0 ∷ r.0, ap suc r.1)

-- the same of a walk
pub walk_begins : (w : Walk) (i : List ℕ) → IsDue w → wanted_by w i → (h : Header) × (rest : List ℕ) × Begins i h rest
walk_begins w i = wants_begin w.holds w.due (reverse w.levels.items) i

pub walk_there : (w : Walk) → IsSound w → (b : List ℕ) × wanted_by w b
walk_there w = wants_there w.holds w.due (reverse w.levels.items)
