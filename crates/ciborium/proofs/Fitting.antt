-- If each event of an item fits, the item does, and each simple value in it is false, true or null.
use Rattle.std.proofs.Common.{◌≤◌, List, [], ◌∷◌, ◌++◌, append-nil, arith}
use Rattle.ciborium_value.specs.Tree as tree
use Rattle.ciborium_value.specs.Tree.{Tree, Trees, no_trees, one_more, Pairs, no_pairs, pair_more}
use Rattle.ciborium_value.specs.Encoding.{Fits, FitAll, FitPairs}
use Rattle.ciborium_typed.specs.Events.{Event, events, events_all, events_pairs}
use Rattle.ciborium.specs.Meaning.{Assigned, AllAssigned, PairsAssigned}
use Rattle.ciborium.specs.Fitting.{EachFits}

parted : (es fs : List Event) → EachFits (es ++ fs) → EachFits es × EachFits fs
parted [] fs p = (tt, p)
parted (e ∷ es) fs p = let q = parted es fs p.1 in ((p.0, q.0), q.1)

mutual
  fitting : (t : Tree) → EachFits (events t) → Fits t × Assigned t
  fitting (tree.integer i) p = (p.0, tt)
  fitting (tree.bytes b) p = (p.0, tt)
  fitting (tree.text b) p = (p.0, tt)
  fitting (tree.float f) p = (p.0, tt)
  fitting (tree.simple n) p = let q : n ≤ 22 = p.0.1 in (omega arith, p.0)
  fitting (tree.tag n t) p = let q = fitting t p.1 in ((p.0, q.0), q.1)
  fitting (tree.array ts) p = let q = fitting_all ts p.1 in ((p.0, q.0), q.1)
  fitting (tree.map ps) p = let q = fitting_pairs ps p.1 in ((p.0, q.0), q.1)

  fitting_all : (ts : Trees) → EachFits (events_all ts) → FitAll ts × AllAssigned ts
  fitting_all no_trees p = (tt, tt)
  fitting_all (one_more t ts) p =
      let q = parted (events t) (events_all ts) p in
      let a = fitting t q.0 in
      let b = fitting_all ts q.1 in
      ((a.0, b.0), (a.1, b.1))

  fitting_pairs : (ps : Pairs) → EachFits (events_pairs ps) → FitPairs ps × PairsAssigned ps
  fitting_pairs no_pairs p = (tt, tt)
  fitting_pairs (pair_more k v ps) p =
      let q = parted (events k) (events v ++ events_pairs ps) p in
      let r = parted (events v) (events_pairs ps) q.1 in
      let a = fitting k q.0 in
      let b = fitting v r.0 in
      let c = fitting_pairs ps r.1 in
      ((a.0, b.0, c.0), (a.1, b.1, c.1))

pub item_fits : (t : Tree) → ((p es : List Event) → (EachFits (events t ++ es) → EachFits p) → EachFits es → EachFits p) → Fits t × Assigned t
item_fits t p = fitting t (p (events t) [] (λ h. rw append-nil at h) tt)
