-- What the steps of the reader do to its frames.
use Rattle.std.proofs.Common.{◌≡◌, ◌≢◌, ◌≤◌, ◌<◌, ◌+◌, ◌-◌, ◌*◌, ◌&&◌, ℕ, Bool, true, false, List, [], ◌∷◌, ◌++◌, length, Option, None, Some, zero, suc, get_or, set, refl, sym, ap, subst, ◌∙◌, arith, reverse}
use Rattle.std.proofs.lemmas.List.{reverse-append}
use Rattle.std.proofs.lemmas.Bool.Decides.{nat_tests}
use Rattle.ciborium_ll.specs.declared.hdr.Header.{Header}
use Rattle.ciborium_ll.specs.declared.hdr.Header.TheVariants.{Array, Map}
use Rattle.ciborium_ll.specs.Seen.{Seen, Takes}
use Rattle.ciborium_ll.specs.Title.{Title, IsShortest}
use Rattle.ciborium_value.specs.declared.value.Value.TheVariants as value
use Rattle.ciborium_value.proofs.Views.{view_array, view_map}
use Rattle.ciborium.specs.Front.{ReadsAll}
use Rattle.ciborium.proofs.ReaderLemmas.{closed}
use Rattle.ciborium.proofs.Taking.{takes_as}
use Rattle.ciborium.proofs.Once.{append_nil}
use Rattle.ciborium.proofs.ChildLemmas.{array_read, map_read, array_due, title_no_break, begun_no_break, not_all}
use Rattle.ciborium_value.specs.declared.kind.Kind.TheVariants as kind
use Rattle.ciborium_value.specs.declared.value.Value.{Value}
use Rattle.ciborium_value.specs.Folding.{tagged}
use Rattle.ciborium_value.specs.Tree.{Tree, Trees, no_trees, one_more, flat, tree_count}
use Rattle.ciborium_value.specs.View.{view, views, view_pair, view_pairs}
use Rattle.ciborium.specs.declared.de.Error.{Error}
use Rattle.ciborium.specs.declared.de.Error.TheVariants as error
use Rattle.ciborium.specs.declared.frames.Frame.{Frame}
use Rattle.ciborium.specs.declared.frames.Frame.TheVariants as code
use Rattle.ciborium.specs.declared.frames.Items.{Items}
use Rattle.ciborium.specs.declared.frames.Entries.{Entries}
use Rattle.ciborium.specs.Damage.{semantic, Damage, in_title, TitleDamage, Due, in_map, in_open_map, in_entry}
use Rattle.ciborium.specs.Exact.{encoded, LevelsExact, ItemExact}
use Rattle.ciborium.specs.Levels.{Level, Within, Fits, of_array, of_map, of_open_array, of_open_map, Handing}
use Rattle.ciborium.proofs.ToldLemmas.{told_handed, told_tag, told_array, told_map, told_titled}
use Rattle.ciborium.specs.Reading.{IsFoldFault, Closes, IsNext, NamesFault, is_full}
use Rattle.ciborium.proofs.Words.{FitsIn}
use Rattle.ciborium.proofs.StringLemmas.{title_some}
use Rattle.ciborium.specs.Frames.{snoc, front, halves, halves_of, HasHalf, opened, Stage, IsStaged, IsClosed, ClosedStage, GoesUp, IsHandedOver, HandFails, Faults, AskEnds, AskGives, AskFails, IfAsked, InHand, IsFlagged, IsKept, CloseGives}
use Rattle.ciborium.proofs.ReadLemmas.{snoc_count, pushed, pushed_pair, count_views, count_flat}
use Rattle.ciborium.proofs.LevelLemmas.{begins, level_more, level_whole, due_fails, tag_whole, negative_damage, array_more, map_more}

-- the frame that was pushed last is the innermost
pub last_pushed : {A : Type 0} (xs ys : List A) (x : A) → ys ≡ xs ++ x ∷ [] → reverse ys ≡ x ∷ reverse xs
last_pushed xs ys x e = ap reverse e ∙ reverse-append xs (x ∷ [])

-- an array and a map with one item more
items_step : (fs : List Frame) (l m : Items) (v : Value) (w : Bool) → m.count ≡ l.count → m.items.items ≡ l.items.items ++ v ∷ [] → (k : Bool) (limit from now : ℕ) (b : List ℕ) → Stage k w limit (code.Items l ∷ fs) (Some v) from now b
    → Stage k w limit (code.Items m ∷ fs) None from now b
items_step fs l m v w same e k limit from now b (r, (p, q)) =
    let more : views m.items.items ≡ snoc (views l.items.items) (view v) = sym (pushed view l.items.items m.items.items v e) in
    let count : tree_count (views m.items.items) ≡ tree_count (views l.items.items) + 1 = ap tree_count more ∙ snoc_count (views l.items.items) (view v) in
    let x = level_more limit _ _ (opened fs) (view v) b (ap Array same) more
    (subst (λ (z : Option ℕ). Fits (views m.items.items) (Array z)) (sym same)
    (array_more l.count (views l.items.items) (views m.items.items) (p.title ++ []) count (p.child (p.title ++ []) [] (begins p.title [] p.head p.is_title)))) p in
    let y = told_handed k w (record { head = Array l.count; done = views l.items.items }) (record { head = Array m.count; done = views m.items.items }) (opened fs) (view v) b (ap Array same) more q in
    (r, (x, y))

pub items_more : (fs : List Frame) (l m : Items) (v : Value) (w : Bool) → m.count ≡ l.count → m.items.items ≡ l.items.items ++ v ∷ [] → IsHandedOver (code.Items l ∷ fs) (code.Items m ∷ fs) v None w w
items_more fs l m v w same e = record { step = items_step fs l m v w same e }

entries_step : (fs : List Frame) (l m : Entries) (v : Value) (w : Bool) → m.count ≡ l.count → HasHalf m → halves_of m ≡ snoc (halves_of l) (view v) → (k : Bool) (limit from now : ℕ) (b : List ℕ) → Stage k w limit (code.Entries l ∷ fs) (Some v) from now b
    → Stage k w limit (code.Entries m ∷ fs) None from now b
entries_step fs l m v w same half more k limit from now b (r, (p, q)) =
    let count : tree_count (halves_of m) ≡ tree_count (halves_of l) + 1 = ap tree_count more ∙ snoc_count (halves_of l) (view v) in
    let x = level_more limit _ _ (opened fs) (view v) b (ap Map same) more
    (subst (λ (z : Option ℕ). Fits (halves_of m) (Map z)) (sym same)
    (map_more l.count (halves_of l) (halves_of m) (p.title ++ []) count (p.child (p.title ++ []) [] (begins p.title [] p.head p.is_title)))) p in
    let y = told_handed k w (record { head = Map l.count; done = halves_of l }) (record { head = Map m.count; done = halves_of m }) (opened fs) (view v) b (ap Map same) more q in
    ((half, r.1), (x, y))

pub entries_more : (fs : List Frame) (l m : Entries) (v : Value) (w : Bool) → m.count ≡ l.count → HasHalf m → halves_of m ≡ snoc (halves_of l) (view v) → IsHandedOver (code.Entries l ∷ fs) (code.Entries m ∷ fs) v None w w
entries_more fs l m v w same half more = record { step = entries_step fs l m v w same half more }

pub items_taken : (f : Frame) (fs : List Frame) (l m : Items) (v : Value) (w : Bool) → f ≡ code.Items l → m.count ≡ l.count → m.items.items ≡ l.items.items ++ v ∷ [] → IsHandedOver (f ∷ fs) (code.Items m ∷ fs) v None w w
items_taken f fs l m v w e same more = subst (λ (z : Frame). IsHandedOver (z ∷ fs) (code.Items m ∷ fs) v None w w) (sym e) (items_more fs l m v w same more)

pub entries_taken : (f : Frame) (fs : List Frame) (l m : Entries) (v : Value) (w : Bool) → f ≡ code.Entries l → m.count ≡ l.count → HasHalf m → halves_of m ≡ snoc (halves_of l) (view v) → IsHandedOver (f ∷ fs) (code.Entries m ∷ fs) v None w w
entries_taken f fs l m v w e same half more = subst (λ (z : Frame). IsHandedOver (z ∷ fs) (code.Entries m ∷ fs) v None w w) (sym e) (entries_more fs l m v w same half more)

-- a tag is whole
tag_step : (fs : List Frame) (n at room : ℕ) (h : Header) (v u : Value) (w w' : Bool) → tagged n (view v) ≡ Some (view u) → IsKept n (view v) (view u) w w' → (k : Bool) (limit from now : ℕ) (b : List ℕ) → Stage k w limit (code.Tag n at h room ∷ fs) (Some v) from now b
    → Stage k w' limit fs (Some u) from now b
tag_step fs n at room h v u w w' f kept k limit from now b (r, (p, q)) =
    (r, (tag_whole limit n _ (opened fs) (view v) (view u) b refl refl p f, told_tag k w w' limit n (opened fs) (view v) (view u) b p f kept q))

pub tag_up : (fs : List Frame) (n at room : ℕ) (h : Header) (v u : Value) (w w' : Bool) → tagged n (view v) ≡ Some (view u) → IsKept n (view v) (view u) w w' → GoesUp (code.Tag n at h room ∷ fs) fs v u w w'
tag_up fs n at room h v u w w' f kept = record { step = tag_step fs n at room h v u w w' f kept }

pub tag_pops : (f x : Frame) (xs ys : List Frame) (n at room : ℕ) (h : Header) (v u : Value) (w w' : Bool) → f ≡ code.Tag n at h room → xs ≡ ys ++ x ∷ [] → tagged n (view v) ≡ Some (view u) → IsKept n (view v) (view u) w w' → GoesUp (f ∷ reverse xs) (x ∷ reverse ys) v u w w'
tag_pops f x xs ys n at room h v u w w' e pop t kept =
    subst (λ (z : Frame). GoesUp (z ∷ reverse xs) (x ∷ reverse ys) v u w w') (sym e)
    (subst (λ (z : List Frame). GoesUp (code.Tag n at h room ∷ reverse xs) z v u w w') (last_pushed ys xs x pop) (tag_up (reverse xs) n at room h v u w w' t kept))

-- what goes up goes on
pub goes_on : (old mid new : List Frame) (v u t : Value) (w₀ w₁ w₂ : Bool) → GoesUp old mid v u w₀ w₁ → GoesUp mid new u t w₁ w₂ → GoesUp old new v t w₀ w₂
goes_on old mid new v u t w₀ w₁ w₂ p q = record { step = λ k limit from now b s. q.step k limit from now b (p.step k limit from now b s) }

pub handed_on : (old mid new : List Frame) (v u : Value) (read : Option Value) (w₀ w₁ w₂ : Bool) → GoesUp old mid v u w₀ w₁ → IsHandedOver mid new u read w₁ w₂ → IsHandedOver old new v read w₀ w₂
handed_on old mid new v u read w₀ w₁ w₂ p q = record { step = λ k limit from now b s. q.step k limit from now b (p.step k limit from now b s) }

-- a number that does not fold
faults_semantic : {E : Type 0} (ends : E → Bool) (limit from : ℕ) (b : List ℕ) (left : Option (List ℕ)) (place : ℕ) → ((stop : ℕ) (rest : List ℕ) → Damage stop (b ++ rest) limit (semantic kind.BigNegative))
    → Faults {E = E} ends limit from b left place (error.Semantic None kind.BigNegative)
faults_semantic ends limit from b None place d = tt
faults_semantic ends limit from b (Some rest) place d = (refl, d (from + length (b ++ rest)) rest)

faults_memory : {E : Type 0} (ends : E → Bool) (limit from : ℕ) (b : List ℕ) (left : Option (List ℕ)) (place : ℕ) → Faults {E = E} ends limit from b left place error.Memory
faults_memory ends limit from b None place = tt
faults_memory ends limit from b (Some rest) place = tt

pub tag_folds : {E : Type 0} (fs : List Frame) (n at room : ℕ) (h : Header) (v : Value) (e : Error E) → IsFoldFault n (view v) e → HandFails (code.Tag n at h room ∷ fs) v e
tag_folds fs n at room h v (error.Io e) w ends limit from b left now same s = absurd w
tag_folds fs n at room h v (error.Syntax p) w ends limit from b left now same s = absurd w
tag_folds fs n at room h v (error.Semantic o k) w ends limit from b left now same s =
    subst (λ z. Faults ends limit from b left now (error.Semantic z k)) (sym w.0)
    (subst (λ z. Faults ends limit from b left now (error.Semantic None z)) (sym w.1)
    (faults_semantic ends limit from b left now (λ stop rest. negative_damage limit n _ (opened fs) (view v) b rest stop refl refl s.1.0 w.2)))
tag_folds fs n at room h v error.RecursionLimitExceeded w ends limit from b left now same s = absurd w
tag_folds fs n at room h v error.Memory w ends limit from b left now same s = faults_memory ends limit from b left now
tag_folds fs n at room h v error.TooLong w ends limit from b left now same s = absurd w

-- a key, and then its value
front_snoc : (ts : Trees) (t : Tree) → front (snoc ts t) ≡ ts
front_snoc no_trees t = refl
front_snoc (one_more u no_trees) t = refl
front_snoc (one_more u (one_more w ws)) t = ap (one_more u) (front_snoc (one_more w ws) t)

pub key_more : (es fs : List (Value × Value)) (before : Bool) (k v : Value) → before ≡ false → fs ≡ es ++ (k, v) ∷ [] → front (flat (view_pairs fs)) ≡ snoc (halves before (flat (view_pairs es))) (view k)
key_more es fs before k v none e =
    ap front (sym (pushed_pair view_pair es fs (k, v) e)) ∙ front_snoc (snoc (flat (view_pairs es)) (view k)) (view v) ∙ ap (λ z. snoc (halves z (flat (view_pairs es))) (view k)) (sym none)

value_set : (es : List (Value × Value)) (n : ℕ) (p : Value × Value) (v : Value) → n + 1 ≡ length es → p ≡ get_or es n p → flat (view_pairs (set es n (p.0, v))) ≡ snoc (front (flat (view_pairs es))) (view v)
value_set [] n p v e is = absurd (omega arith)
value_set (d ∷ []) zero p v e is = ap (λ z. one_more (view z.0) (one_more (view v) no_trees)) is
value_set (d ∷ []) (suc n) p v e is = absurd (omega arith)
value_set (d ∷ f ∷ es) zero p v e is = absurd (omega arith)
value_set (d ∷ f ∷ es) (suc n) p v e is = ap (λ z. one_more (view d.0) (one_more (view d.1) z)) (value_set (f ∷ es) n p v (omega arith) is)

pub value_more : (es : List (Value × Value)) (before : Bool) (n : ℕ) (p : Value × Value) (v : Value) → before ≡ true → n + 1 ≡ length es → p ≡ get_or es n p
    → flat (view_pairs (set es n (p.0, v))) ≡ snoc (halves before (flat (view_pairs es))) (view v)
value_more es before n p v some e is = value_set es n p v e is ∙ ap (λ z. snoc (halves z (flat (view_pairs es))) (view v)) (sym some)

-- half an entry is one item less
front_count : (ts : Trees) → 0 < tree_count ts → tree_count (front ts) + 1 ≡ tree_count ts
front_count no_trees some = absurd (omega arith)
front_count (one_more t no_trees) some = refl
front_count (one_more t (one_more u us)) some = let h = front_count (one_more u us) (omega arith) in omega arith

half_count : (es : List (Value × Value)) → 0 < length es → tree_count (front (flat (view_pairs es))) + 1 ≡ 2 * length es
half_count es some = let c = count_flat view_pair es in front_count (flat (view_pairs es)) (omega arith) ∙ c

-- an array and a map are closed
pub array_closed : (l : Items) → CloseGives (code.Items l) (value.Array l.items)
array_closed l k w limit from now fs b (p, y, r, within, ends, whole, told) =
    let low : 0 < limit - length (opened fs) = omega (arith, within.4) in (
      r,
      (
        subst (λ (z : List ℕ). Handing limit (opened fs) (view (value.Array l.items)) z) (sym whole)
            (level_whole limit _ (opened fs) (view (value.Array l.items)) p y within
            (λ inner q. array_read l.count (length l.items.items) (limit - length (opened fs)) (view (value.Array l.items)) (views l.items.items) (inner ++ y) (view_array l.items) (count_views view l.items.items) low
            (closed l.count (length l.items.items) (limit - length (opened fs) - 1) (views l.items.items) inner y q ends))),
        subst (λ (z : Tree). IfAsked k w (length b) (ItemExact (opened fs) z b)) (sym (view_array l.items))
            (told_array k w l.count limit (opened fs) (views l.items.items) (length l.items.items) p y b (count_views view l.items.items) within ends whole told),
      ),
    )

pub map_closed : (l : Entries) → CloseGives (code.Entries l) (value.Map l.entries)
map_closed l k w limit from now fs b (p, y, r, within, ends, whole, told) =
    let low : 0 < limit - length (opened fs) = omega (arith, within.4) in
    let within' = subst (λ (z : Bool). Within limit (record { head = Map l.count; done = halves z (flat (view_pairs l.entries.items)) } ∷ opened fs) p) ends.0 within in
    let told' = subst (λ (z : Bool). IfAsked k w (length p) (LevelsExact (record { head = Map l.count; done = halves z (flat (view_pairs l.entries.items)) } ∷ opened fs) p)) ends.0 told in (
      r.1,
      (
        subst (λ (z : List ℕ). Handing limit (opened fs) (view (value.Map l.entries)) z) (sym whole)
            (level_whole limit _ (opened fs) (view (value.Map l.entries)) p y within
            (λ inner q. map_read l.count (length l.entries.items) (limit - length (opened fs)) (view (value.Map l.entries)) (view_pairs l.entries.items) (inner ++ y) (view_map l.entries) (count_flat view_pair l.entries.items) low
            (closed l.count (length l.entries.items) (limit - length (opened fs) - 1) (flat (view_pairs l.entries.items)) inner y
            (subst (λ (z : Bool). ReadsAll inner (limit - length (opened fs) - 1) (halves z (flat (view_pairs l.entries.items)))) ends.0 q) ends.1))),
        subst (λ (z : Tree). IfAsked k w (length b) (ItemExact (opened fs) z b)) (sym (view_map l.entries))
            (told_map k w l.count limit (opened fs) (view_pairs l.entries.items) (length l.entries.items) p y b (count_flat view_pair l.entries.items) within' ends.1 whole told'),
      ),
    )

-- what an array is asked
pub items_end : (l : Items) (n : ℕ) (y : List ℕ) → n ≡ length l.items.items → Closes l.count n y → AskEnds (code.Items l) y
items_end l n y same c k w limit from now fs b (r, (within, told)) = (b, y, r, within, subst (λ (z : ℕ). Closes l.count z y) same c, refl, told)

full_closes : (o : Option ℕ) (n : ℕ) → is_full o n ≡ true → Closes o n []
full_closes (Some m) n full = let e : m ≡ n = grind (arith, nat_tests) in (e, refl)
full_closes None n full = absurd (cc)

-- an array is whole with one item more
array_ends : (fs : List Frame) (l m : Items) (v : Value) (k w : Bool) (n limit from now : ℕ) (b : List ℕ) → m.count ≡ l.count → m.items.items ≡ l.items.items ++ v ∷ [] → n ≡ length m.items.items → is_full m.count n ≡ true
    → Stage k w limit (code.Items l ∷ fs) (Some v) from now b → ClosedStage k w limit (code.Items m ∷ fs) b
array_ends fs l m v k w n limit from now b same e count full s =
    subst (λ (z : List ℕ). ClosedStage k w limit (code.Items m ∷ fs) z) (sym (append_nil b)) (items_end m n [] count (full_closes m.count n full) k w limit from now fs b (items_step fs l m v w same e k limit from now b s))

pub array_is_closed : (f : Frame) (fs : List Frame) (l m : Items) (v : Value) (n : ℕ) → f ≡ code.Items l → m.count ≡ l.count → m.items.items ≡ l.items.items ++ v ∷ [] → n ≡ length m.items.items → is_full m.count n ≡ true
    → IsStaged (f ∷ fs) (Some v) → (gs : List Frame) × IsClosed (code.Items m ∷ gs)
array_is_closed f fs l m v n is same e count full (limit, from, now, b, s) =
    (fs, (limit, b, array_ends fs l m v false false n limit from now b same e count full (subst (λ (z : Frame). Stage false false limit (z ∷ fs) (Some v) from now b) is s)))

pub array_pops : (f x : Frame) (xs ys : List Frame) (l m : Items) (v u : Value) (w : Bool) (n : ℕ) → f ≡ code.Items l → xs ≡ ys ++ x ∷ [] → m.count ≡ l.count → m.items.items ≡ l.items.items ++ v ∷ [] → n ≡ length m.items.items → is_full m.count n ≡ true
    → CloseGives (code.Items m) u → GoesUp (f ∷ reverse xs) (x ∷ reverse ys) v u w w
array_pops f x xs ys l m v u w n is pop same e count full close = record {
  step = λ k limit from now b s. subst (λ (z : List Frame). Stage k w limit z (Some u) from now b) (last_pushed ys xs x pop)
      (close k w limit from now (reverse xs) b (array_ends (reverse xs) l m v k w n limit from now b same e count full (subst (λ (z : Frame). Stage k w limit (z ∷ reverse xs) (Some v) from now b) is s)));
}

fits_in : (o : Option ℕ) (done : Trees) (d : ℕ) → tree_count done ≡ d → Fits done (Array o) → FitsIn o d
fits_in _ done d c (of_array n l) = omega arith
fits_in _ done d c of_open_array = tt

items_due : (l : Items) (n : ℕ) (rest : List ℕ) → n ≡ length l.items.items → Fits (views l.items.items) (Array l.count) → is_full l.count n ≡ false → (l.count ≡ None → (r : List ℕ) → rest ≢ 255 ∷ r)
    → Due (views l.items.items) rest (Array l.count)
items_due l n rest same fits full stays =
    let count = count_views view l.items.items ∙ sym same in
    array_due l.count (views l.items.items) n rest count (fits_in l.count (views l.items.items) n count fits) full stays

pub items_give : (l : Items) (n at now : ℕ) (h : Header) (y : List ℕ) (w w' : Bool) → n ≡ length l.items.items → at ≡ now → IsNext l.count n h → Title y h → IsFlagged w w' h y → AskGives (code.Items l) h at now w w' y
items_give l n at now h y w w' same e next t flag k limit from fs b (r, (within, told)) = (
  r,
  (
    record {
      before = b;
      title = y;
      within = within;
      child = λ z r s. items_due l n z same within.5.fits next.due (λ none. begun_no_break h z r s (next.stays none));
      is_title = t;
      place = λ q. ap (λ z. z + length y) e;
      whole = refl;
    },
    told_titled k w w' (opened (code.Items l ∷ fs)) h b y flag told,
  ),
)

pub items_fail : {E : Type 0} (ends : E → Bool) (l : Items) (n : ℕ) (old new : Seen) (e : Error E) → n ≡ length l.items.items → is_full l.count n ≡ false → NamesFault ends TitleDamage old new e → AskFails ends (code.Items l) old new e
items_fail ends l n old new e same full names limit from fs b off (r, (w, told)) =
    due_fails ends limit (opened (code.Items l ∷ fs)) from old.offset new.offset old.left b TitleDamage e off w
    (λ stop rest f d. (items_due l n rest same w.5.fits full (λ none. title_no_break stop rest f d), in_title rest _ f d)) names

-- what a map is asked
pub entries_end : (l : Entries) (y : List ℕ) → l.half ≡ false → Closes l.count (length l.entries.items) y → AskEnds (code.Entries l) y
entries_end l y nil c k w limit from now fs b (r, (within, told)) = (b, y, r, within, (nil, c), refl, told)

map_is_due : (o : Option ℕ) (es : List (Value × Value)) (half : Bool) (rest : List ℕ) → Fits (halves half (flat (view_pairs es))) (Map o) → (half ≡ true → 0 < length es) → (half ≡ false → is_full o (length es) ≡ false)
    → (half ≡ false → o ≡ None → (r : List ℕ) → rest ≢ 255 ∷ r) → Due (halves half (flat (view_pairs es))) rest (Map o)
map_is_due _ es false rest (of_map n few) some full stays = let c = count_flat view_pair es in let i = full refl in let l = not_all n (length es) i (omega arith) in in_map n (omega arith)
map_is_due _ es true rest (of_map n few) some full stays = let c = half_count es (some refl) in in_map n (omega arith)
map_is_due _ es false rest of_open_map some full stays = in_open_map (stays refl refl)
map_is_due _ es true rest of_open_map some full stays = let c = half_count es (some refl) in in_entry (omega arith)

pub entries_give : (l : Entries) (at now : ℕ) (h : Header) (y : List ℕ) (w w' : Bool) → at ≡ now → (l.half ≡ false → IsNext l.count (length l.entries.items) h) → Title y h → IsFlagged w w' h y
    → AskGives (code.Entries l) h at now w w' y
entries_give l at now h y w w' e next t flag k limit from fs b (r, (within, told)) = (
  r,
  (
    record {
      before = b;
      title = y;
      within = within;
      child = λ z q s. map_is_due l.count l.entries.items l.half z within.5.fits r.0 (λ e. (next e).due) (λ e none. begun_no_break h z q s ((next e).stays none));
      is_title = t;
      place = λ q. ap (λ z. z + length y) e;
      whole = refl;
    },
    told_titled k w w' (opened (code.Entries l ∷ fs)) h b y flag told,
  ),
)

pub entries_fail : {E : Type 0} (ends : E → Bool) (l : Entries) (old new : Seen) (e : Error E) → (l.half ≡ false → is_full l.count (length l.entries.items) ≡ false) → NamesFault ends TitleDamage old new e → AskFails ends (code.Entries l) old new e
entries_fail ends l old new e full names limit from fs b off (r, (w, told)) =
    due_fails ends limit (opened (code.Entries l ∷ fs)) from old.offset new.offset old.left b TitleDamage e off w
    (λ stop rest f d. (map_is_due l.count l.entries.items l.half rest w.5.fits r.0 full (λ e none. title_no_break stop rest f d), in_title rest _ f d)) names

pub items_asked : (l : Items) (n : ℕ) (h : Header) (old new : Seen) (w w' u : Bool) → n ≡ length l.items.items → Takes old new (λ b. Title b h × IsShortest u b h) → IsNext l.count n h
    → w' ≡ (w && (u && encoded h)) → Takes old new (AskGives (code.Items l) h old.offset old.offset w w')
items_asked l n h old new w w' u same t next flag =
    takes_as _ _ _ _ (λ b. Title b h × IsShortest u b h) (AskGives (code.Items l) h old.offset old.offset w w') t (λ y q. items_give l n old.offset old.offset h y w w' same refl next q.0 (u, q.1, flag))

pub entries_asked : (l : Entries) (h : Header) (old new : Seen) (w w' u : Bool) → Takes old new (λ b. Title b h × IsShortest u b h) → (l.half ≡ false → IsNext l.count (length l.entries.items) h)
    → w' ≡ (w && (u && encoded h)) → Takes old new (AskGives (code.Entries l) h old.offset old.offset w w')
entries_asked l h old new w w' u t next flag =
    takes_as _ _ _ _ (λ b. Title b h × IsShortest u b h) (AskGives (code.Entries l) h old.offset old.offset w w') t (λ y q. entries_give l old.offset old.offset h y w w' refl next q.0 (u, q.1, flag))

pub items_ended : (l : Items) (n : ℕ) (old new : Seen) → n ≡ length l.items.items → Takes old new (Closes l.count n) → Takes old new (AskEnds (code.Items l))
items_ended l n old new same t = takes_as _ _ _ _ (Closes l.count n) (AskEnds (code.Items l)) t (λ y c. items_end l n y same c)

pub entries_ended : (l : Entries) (old new : Seen) → (l.half ≡ false) × Takes old new (Closes l.count (length l.entries.items)) → Takes old new (AskEnds (code.Entries l))
entries_ended l old new (whole, t) = takes_as _ _ _ _ (Closes l.count (length l.entries.items)) (AskEnds (code.Entries l)) t (λ y c. entries_end l y whole c)

-- a head that was taken moves the place
pub head_moves : (old new : Seen) (h : Header) (u : Bool) → Takes old new (λ b. Title b h × IsShortest u b h) → old.offset + 1 ≤ new.offset
head_moves old new h u t = omega (arith, t.grown, title_some t.bytes h t.has.0)

-- a title in hand that is not begun
in_hand_still : (k w : Bool) (limit : ℕ) (fs : List Level) (h : Header) (at from now : ℕ) (b : List ℕ) → InHand k w limit fs h at from now b → InHand k w limit fs h at from (now + length {A = ℕ} []) (b ++ [])
in_hand_still k w limit fs h at from now b i =
    let z : now ≡ now + length {A = ℕ} [] = omega arith in
    subst (λ (x : List ℕ). InHand k w limit fs h at from (now + length {A = ℕ} []) x) (append_nil b) (subst (λ (x : ℕ). InHand k w limit fs h at from x b) z i)

pub tag_gives : (n room : ℕ) (h : Header) (at now : ℕ) (w : Bool) → AskGives (code.Tag n at h room) h at now w w []
tag_gives n room h at now w k limit from fs b (r, i) = (r, in_hand_still k w limit (opened (code.Tag n at h room ∷ fs)) h at from now b i)
