-- What a sink that builds items holds after the events of a whole item: this item more.
use Rattle.std.proofs.Common.{◌≡◌, ℕ, suc, ◌+◌, List, [], ◌∷◌, ◌++◌, length, map, refl, sym, ap, ◌∙◌, append_assoc, append-nil, arith}
use Rattle.std.proofs.lemmas.List.Elements.{Contains-append_right}
use Rattle.ciborium_value.specs.Tree as tree
use Rattle.ciborium_value.specs.Tree.{Tree, Trees, no_trees, one_more, Pairs, no_pairs, pair_more, tree_count, pair_count}
use Rattle.ciborium_value.specs.View.{trees, pairs, view}
use Rattle.ciborium_value.specs.declared.value.Value.{Value}
use Rattle.ciborium_traits.specs.Events as event
use Rattle.ciborium_traits.specs.Events.{Event, events, events_all, events_pairs, Puts}
use Rattle.ciborium_typed.specs.Stacks as stack
use Rattle.ciborium_typed.specs.Stacks.{Stack, filled, added, begun, emptied, after, state_of, Leads}
use Rattle.ciborium_typed.specs.declared.value_sink.ValueSink.{ValueSink}

abbrev after_all : Stack → List Event → Stack
after_all s [] = s
after_all s (e ∷ es) = after_all (after s e) es

after_append : (s : Stack) (xs ys : List Event) → after_all s (xs ++ ys) ≡ after_all (after_all s xs) ys
after_append s [] ys = refl
after_append s (x ∷ xs) ys = after_append (after s x) xs ys

abbrev items_of : Trees → List Tree
items_of no_trees = []
items_of (one_more t ts) = t ∷ items_of ts

abbrev entries_of : Pairs → List (Tree × Tree)
entries_of no_pairs = []
entries_of (pair_more k v ps) = (k, v) ∷ entries_of ps

trees_back : (ts : Trees) → trees (items_of ts) ≡ ts
trees_back no_trees = refl
trees_back (one_more t ts) = ap (one_more t) (trees_back ts)

pairs_back : (ps : Pairs) → pairs (entries_of ps) ≡ ps
pairs_back no_pairs = refl
pairs_back (pair_more k v ps) = ap (pair_more k v) (pairs_back ps)

-- an array with the items us, and the items ts to come; a map likewise
abbrev items_due : List Tree → Trees → Stack → Stack
items_due us no_trees s = added (tree.array (trees us)) s
items_due us (one_more t ts) s = begun (stack.array us (tree_count ts)) s

abbrev entries_due : List (Tree × Tree) → Pairs → Stack → Stack
entries_due qs no_pairs s = added (tree.map (pairs qs)) s
entries_due qs (pair_more k v ps) s = begun (stack.map qs (pair_count ps)) s

next : (n : ℕ) → 1 + n ≡ suc n
next n = omega arith

item_came : (t : Tree) (ts : Trees) (us : List Tree) (s : Stack) → added t (items_due us (one_more t ts) s) ≡ items_due (us ++ (t ∷ [])) ts s
item_came t no_trees us s = refl
item_came t (one_more u ts) us s = ap (λ z. added t (begun (stack.array us z) s)) (next (tree_count ts))

entry_came : (k v : Tree) (ps : Pairs) (qs : List (Tree × Tree)) (s : Stack) → added v (added k (entries_due qs (pair_more k v ps) s)) ≡ entries_due (qs ++ ((k, v) ∷ [])) ps s
entry_came k v no_pairs qs s = refl
entry_came k v (pair_more l w ps) qs s = ap (λ z. added v (added k (begun (stack.map qs z) s))) (next (pair_count ps))

array_due : (ts : Trees) (s : Stack) → after s (event.array (tree_count ts)) ≡ items_due [] ts s
array_due no_trees s = refl
array_due (one_more t ts) s = ap (λ z. after s (event.array z)) (next (tree_count ts))

map_due : (ps : Pairs) (s : Stack) → after s (event.map (pair_count ps)) ≡ entries_due [] ps s
map_due no_pairs s = refl
map_due (pair_more k v ps) s = ap (λ z. after s (event.map z)) (next (pair_count ps))

mutual
  built : (t : Tree) (s : Stack) → after_all s (events t) ≡ added t s
  built (tree.integer i) s = refl
  built (tree.bytes b) s = refl
  built (tree.text b) s = refl
  built (tree.float f) s = refl
  built (tree.simple n) s = refl
  built (tree.tag n t) s = built t (begun (stack.tag n) s)
  built (tree.array ts) s = ap (λ z. after_all z (events_all ts)) (array_due ts s) ∙ items_built ts [] s ∙ ap (λ z. added (tree.array z) s) (trees_back ts)
  built (tree.map ps) s = ap (λ z. after_all z (events_pairs ps)) (map_due ps s) ∙ entries_built ps [] s ∙ ap (λ z. added (tree.map z) s) (pairs_back ps)

  items_built : (ts : Trees) (us : List Tree) (s : Stack) → after_all (items_due us ts s) (events_all ts) ≡ added (tree.array (trees (us ++ items_of ts))) s
  items_built no_trees us s = ap (λ z. added (tree.array (trees z)) s) (sym (append-nil us))
  items_built (one_more t ts) us s =
      let before = items_due us (one_more t ts) s in
      after_append before (events t) (events_all ts)
      ∙ ap (λ z. after_all z (events_all ts)) (built t before ∙ item_came t ts us s)
      ∙ items_built ts (us ++ (t ∷ [])) s
      ∙ ap (λ z. added (tree.array (trees z)) s) (append_assoc us (t ∷ []) (items_of ts))

  entries_built : (ps : Pairs) (qs : List (Tree × Tree)) (s : Stack) → after_all (entries_due qs ps s) (events_pairs ps) ≡ added (tree.map (pairs (qs ++ entries_of ps))) s
  entries_built no_pairs qs s = ap (λ z. added (tree.map (pairs z)) s) (sym (append-nil qs))
  entries_built (pair_more k v ps) qs s =
      let before = entries_due qs (pair_more k v ps) s in
      after_append before (events k) (events v ++ events_pairs ps)
      ∙ ap (λ z. after_all z (events v ++ events_pairs ps)) (built k before)
      ∙ after_append (added k before) (events v) (events_pairs ps)
      ∙ ap (λ z. after_all z (events_pairs ps)) (built v (added k before) ∙ entry_came k v ps qs s)
      ∙ entries_built ps (qs ++ ((k, v) ∷ [])) s
      ∙ ap (λ z. added (tree.map (pairs z)) s) (append_assoc qs ((k, v) ∷ []) (entries_of ps))

-- how a sink may be left on the way
abbrev stops_of : Stack → List Event → List Stack
stops_of s [] = []
stops_of s (e ∷ es) = emptied s ∷ stops_of (after s e) es

more_stops : (x : Stack) (stops : List Stack) (last : Stack) (es : List Event) (s : Stack) → Leads stops last es s → Leads (x ∷ stops) last es s
more_stops x stops last [] s p = p
more_stops x stops last (e ∷ es) s p = (Contains-append_right (x ∷ []) stops (emptied s) p.0, more_stops x stops last es (after s e) p.1)

leads : (es : List Event) (s : Stack) → Leads (stops_of s es) (after_all s es) es s
leads [] s = refl
leads (e ∷ es) s = ((0, omega arith, refl), more_stops (emptied s) (stops_of (after s e) es) (after_all (after s e) es) es (after s e) (leads es (after s e)))

abbrev due : List Stack × Stack → List Event → ValueSink → Type 0
due p es s = Leads p.0 p.1 es (state_of s)

pub item_built : (t : Tree) (s s2 : ValueSink) → Puts due s (events t) s2 → state_of s2 ≡ added t (state_of s)
item_built t s s2 p =
    let es = events t in
    let n = state_of s in
    p (stops_of n es, after_all n es) [] (rw append-nil (leads es n)) ∙ built t n

-- a sink that was given nothing and then a whole item holds this item alone
pub only_item : (t : Tree) (s s2 : ValueSink) (vs : List Value) → state_of s ≡ ([], []) → Puts due s (events t) s2 → map view vs ≡ (state_of s2).1 → map view vs ≡ t ∷ []
only_item t s s2 vs n p e =
    let f : state_of s2 ≡ ([], t ∷ []) = item_built t s s2 p ∙ ap (added t) n in
    e ∙ ap (λ (z : Stack). z.1) f

pub one_item : (t : Tree) (vs : List Value) → map view vs ≡ t ∷ [] → length vs ≡ 1
one_item t [] e = cc
one_item t (v ∷ []) e = refl
one_item t (v ∷ w ∷ vs) e = cc

pub that_item : (t : Tree) (vs us : List Value) (v : Value) → vs ≡ us ++ (v ∷ []) → map view vs ≡ t ∷ [] → view v ≡ t
that_item t vs [] v e m = let h : view v ∷ [] ≡ t ∷ [] = ap (map view) (sym e) ∙ m in cc
that_item t vs (u ∷ []) v e m = let h : view u ∷ view v ∷ [] ≡ t ∷ [] = ap (map view) (sym e) ∙ m in cc
that_item t vs (u ∷ w ∷ us) v e m = let h : view u ∷ view w ∷ map view (us ++ (v ∷ [])) ≡ t ∷ [] = ap (map view) (sym e) ∙ m in cc
