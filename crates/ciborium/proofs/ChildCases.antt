-- The children of an array or a map are there, or one of them is damaged.
use Rattle.std.proofs.Common.{◌≡◌, ◌≢◌, ◌≤◌, ◌<◌, ◌+◌, ◌*◌, ◌⊎◌, inl, inr, ℕ, zero, suc, true, false, List, [], ◌∷◌, ◌++◌, length, Option, None, Some, refl, sym, ap, subst, ◌∙◌, arith, append_assoc, length-append}
use Rattle.std.specs.List.{All}
use Rattle.std.proofs.lemmas.Bool.{cases_Bool, cases_eq}
use Rattle.ciborium_ll.specs.declared.hdr.Header.TheVariants.{Break, Array, Map}
use Rattle.ciborium_value.specs.Tree.{Tree, Trees, no_trees, one_more, Pairs, no_pairs, pair_more, flat, tree_count}
use Rattle.ciborium.specs.Damage.{Fault, Damage}
use Rattle.ciborium.specs.Front.{ReadsAll, Front}
use Rattle.ciborium.specs.Reading.{ChildrenAfterHead, is_full}
use Rattle.ciborium.proofs.Words.{ChildDamage, FitsIn}
use Rattle.ciborium_ll.proofs.Closings.{break_title}
use Rattle.ciborium.proofs.Once.{first}
use Rattle.ciborium.proofs.StringLemmas.{title_some}
use Rattle.ciborium.specs.Frames.{snoc}
use Rattle.ciborium.proofs.ReadLemmas.{snoc_count, all_none, all_more}
use Rattle.ciborium.proofs.ChildLemmas.{array_due, map_due, value_due, fits_more, fits_none, children_full, children_closed}
use Rattle.ciborium.proofs.StringCases.{bytes_behind, shorter}

-- a readable item in front of the bytes, or a fault of theirs
pub data ItemCase (stop limit : ℕ) (b : List ℕ) : Type 0 where
  readable : (v : Tree) (rest : List ℕ) → Front b limit v rest → ItemCase stop limit b
  damaged : (e : Fault) → Damage stop b limit e → ItemCase stop limit b

-- which of them, for each list of fewer than n bytes
abbrev pub Decided : ℕ → ℕ → Type 0
Decided stop n = (limit : ℕ) (b : List ℕ) → length b < n → length b ≤ stop → All (λ x. x < 256) b → ItemCase stop limit b

-- the items of an array
pub record ArrayFront (o : Option ℕ) (limit : ℕ) (b : List ℕ) : Type 0 where
  pub values : Trees
  pub read : List ℕ
  pub rest : List ℕ
  pub behind : ChildrenAfterHead o (tree_count values) limit values read
  pub whole : b ≡ read ++ rest

pub data ArrayCase (stop : ℕ) (o : Option ℕ) (limit : ℕ) (b : List ℕ) : Type 0 where
  array_front : ArrayFront o limit b → ArrayCase stop o limit b
  array_fault : (e : Fault) → ChildDamage (Array o) limit stop b e → ArrayCase stop o limit b

-- the entries of a map
pub record MapFront (o : Option ℕ) (limit : ℕ) (b : List ℕ) : Type 0 where
  pub values : Pairs
  pub count : ℕ
  pub counts : tree_count (flat values) ≡ 2 * count
  pub read : List ℕ
  pub rest : List ℕ
  pub behind : ChildrenAfterHead o count limit (flat values) read
  pub whole : b ≡ read ++ rest

pub data MapCase (stop : ℕ) (o : Option ℕ) (limit : ℕ) (b : List ℕ) : Type 0 where
  map_front : MapFront o limit b → MapCase stop o limit b
  map_fault : (e : Fault) → ChildDamage (Map o) limit stop b e → MapCase stop o limit b

-- a front is some bytes
pub front_some : (b rest : List ℕ) (limit : ℕ) (v : Tree) (f : Front b limit v rest) → 0 < length f.spelling
front_some b rest limit v f =
    let p = first f.reads.tree f.spelling f.reads.spells in
    let s = title_some p.title p.head p.is_title in
    omega (arith, ap length p.whole_is, length-append p.title p.rest, s)

front_less : (b rest : List ℕ) (limit : ℕ) (v : Tree) → Front b limit v rest → length rest < length b
front_less b rest limit v f = shorter b f.spelling rest f.whole (front_some b rest limit v f)

front_bytes : (b rest : List ℕ) (limit : ℕ) (v : Tree) → Front b limit v rest → All (λ x. x < 256) b → All (λ x. x < 256) rest
front_bytes b rest limit v f low = bytes_behind b f.spelling rest f.whole low

break_case : (b : List ℕ) → ((r : List ℕ) × (b ≡ 255 ∷ r)) ⊎ ((r : List ℕ) → b ≢ 255 ∷ r)
break_case [] = inr (λ r e. let f : [] ≡ 255 ∷ r = e in cc)
break_case (x ∷ xs) = by_first (cases_eq x 255)
  where
    by_first : (x ≡ 255) ⊎ (x ≡ 255 → ⊥) → ((r : List ℕ) × (x ∷ xs ≡ 255 ∷ r)) ⊎ ((r : List ℕ) → x ∷ xs ≢ 255 ∷ r)
    by_first (inl e) = inl (xs, ap (λ z. z ∷ xs) e)
    by_first (inr p) = inr (λ r e. p (let f : x ∷ xs ≡ 255 ∷ r = e in let g : x ≡ 255 = cc in g))

-- the break that closes an open array or map, if it comes
close_case : (o : Option ℕ) (b : List ℕ) → ((o ≡ None) × ((r : List ℕ) × (b ≡ 255 ∷ r))) ⊎ (o ≡ None → (r : List ℕ) → b ≢ 255 ∷ r)
close_case (Some n) b = inr (λ e. let f : Some n ≡ None = e in cc)
close_case None b = by_break (break_case b)
  where
    by_break : ((r : List ℕ) × (b ≡ 255 ∷ r)) ⊎ ((r : List ℕ) → b ≢ 255 ∷ r) → ((◌≡◌ {A = Option ℕ} None None) × ((r : List ℕ) × (b ≡ 255 ∷ r))) ⊎ (◌≡◌ {A = Option ℕ} None None → (r : List ℕ) → b ≢ 255 ∷ r)
    by_break (inl p) = inl (refl, p)
    by_break (inr p) = inr (λ _. p)

past : (b x rest y r : List ℕ) → b ≡ x ++ rest → rest ≡ y ++ r → b ≡ (x ++ y) ++ r
past b x rest y r e f = e ∙ ap (λ z. x ++ z) f ∙ sym (append_assoc x y r)

module _ (stop n : ℕ) (decided : Decided stop n) (o : Option ℕ) (limit : ℕ) (b : List ℕ) where
  -- the next of an array's items
  array_step : (vs : Trees) (x rest : List ℕ) → length rest < n → length rest ≤ stop → All (λ x. x < 256) rest → ReadsAll x limit vs → FitsIn o (tree_count vs) → b ≡ x ++ rest
      → ((ws : Trees) (y r : List ℕ) → length r < length rest → All (λ x. x < 256) r → ReadsAll y limit ws → FitsIn o (tree_count ws) → b ≡ y ++ r → ArrayCase stop o limit b) → ArrayCase stop o limit b
  array_step vs x rest less within low p few w again = by_full (cases_Bool (is_full o (tree_count vs)))
    where
      by_item : is_full o (tree_count vs) ≡ false → (o ≡ None → (r : List ℕ) → rest ≢ 255 ∷ r) → ItemCase stop limit rest → ArrayCase stop o limit b
      by_item full not (readable v r f) =
          again (snoc vs v) (x ++ f.spelling) r (front_less rest r limit v f) (front_bytes rest r limit v f low) (all_more x f.spelling limit vs v p f.reads)
          (subst (λ (z : ℕ). FitsIn o z) (sym (snoc_count vs v)) (fits_more o (tree_count vs) few full)) (past b x rest f.spelling r w f.whole)
      by_item full not (damaged e d) = array_fault e (record {
        done = vs;
        rest = rest;
        fronts = record { spelling = x; whole = w; reads = p };
        due = array_due o vs (tree_count vs) rest refl few full not;
        damage = d;
      })

      by_close : is_full o (tree_count vs) ≡ false → ((o ≡ None) × ((r : List ℕ) × (rest ≡ 255 ∷ r))) ⊎ (o ≡ None → (r : List ℕ) → rest ≢ 255 ∷ r) → ArrayCase stop o limit b
      by_close full (inl c) = array_front (record {
        values = vs;
        read = x ++ 255 ∷ [];
        rest = c.1.0;
        behind = children_closed o (tree_count vs) limit vs x (255 ∷ []) Break (c.0, refl) p break_title;
        whole = past b x rest (255 ∷ []) c.1.0 w c.1.1;
      })
      by_close full (inr not) = by_item full not (decided limit rest less within low)

      by_full : (is_full o (tree_count vs) ≡ true) ⊎ (is_full o (tree_count vs) ≡ false) → ArrayCase stop o limit b
      by_full (inl full) = array_front (record { values = vs; read = x; rest = rest; behind = children_full o (tree_count vs) limit vs x full p; whole = w })
      by_full (inr full) = by_close full (close_case o rest)

  array_loop : (m : ℕ) (vs : Trees) (x rest : List ℕ) → length rest < m → length rest < n → length rest ≤ stop → All (λ x. x < 256) rest → ReadsAll x limit vs → FitsIn o (tree_count vs) → b ≡ x ++ rest → ArrayCase stop o limit b
  array_loop zero vs x rest l less within low p few w = absurd (omega arith)
  array_loop (suc m) vs x rest l less within low p few w =
      array_step vs x rest less within low p few w (λ ws y r l' low' p' few' w'. array_loop m ws y r (omega arith) (omega arith) (omega arith) low' p' few' w')

  pub array_case : length b < n → length b ≤ stop → All (λ x. x < 256) b → ArrayCase stop o limit b
  array_case less within low = array_loop (suc (length b)) no_trees [] b (omega arith) less within low (all_none limit) (fits_none o) refl

  pair_snoc : Pairs → Tree → Tree → Pairs
  pair_snoc no_pairs k v = pair_more k v no_pairs
  pair_snoc (pair_more a c ps) k v = pair_more a c (pair_snoc ps k v)

  flat_snoc : (ps : Pairs) (k v : Tree) → snoc (snoc (flat ps) k) v ≡ flat (pair_snoc ps k v)
  unfolding pair_snoc
  flat_snoc no_pairs k v = refl
  flat_snoc (pair_more a c ps) k v = ap (λ z. one_more a (one_more c z)) (flat_snoc ps k v)

  -- the next of a map's entries
  map_step : (ps : Pairs) (d : ℕ) (x rest : List ℕ) → tree_count (flat ps) ≡ 2 * d → length rest < n → length rest ≤ stop → All (λ x. x < 256) rest → ReadsAll x limit (flat ps) → FitsIn o d → b ≡ x ++ rest
      → ((qs : Pairs) (y r : List ℕ) → tree_count (flat qs) ≡ 2 * (d + 1) → length r < length rest → All (λ x. x < 256) r → ReadsAll y limit (flat qs) → FitsIn o (d + 1) → b ≡ y ++ r → MapCase stop o limit b) → MapCase stop o limit b
  map_step ps d x rest c less within low p few w again = by_full (cases_Bool (is_full o d))
    where
      by_value : is_full o d ≡ false → (k : Tree) (r : List ℕ) (f : Front rest limit k r) → ItemCase stop limit r → MapCase stop o limit b
      by_value full k r f (readable v t g) =
          let one : tree_count (snoc (flat ps) k) ≡ tree_count (flat ps) + 1 = snoc_count (flat ps) k in
          let two : tree_count (snoc (snoc (flat ps) k) v) ≡ tree_count (snoc (flat ps) k) + 1 = snoc_count (snoc (flat ps) k) v in
          let key = front_less rest r limit k f in
          let value = front_less r t limit v g in
          again (pair_snoc ps k v) ((x ++ f.spelling) ++ g.spelling) t
          (subst (λ (z : Trees). tree_count z ≡ 2 * (d + 1)) (flat_snoc ps k v) (omega arith)) (omega arith) (front_bytes r t limit v g (front_bytes rest r limit k f low))
          (subst (λ (z : Trees). ReadsAll ((x ++ f.spelling) ++ g.spelling) limit z) (flat_snoc ps k v)
          (all_more (x ++ f.spelling) g.spelling limit (snoc (flat ps) k) v (all_more x f.spelling limit (flat ps) k p f.reads) g.reads))
          (fits_more o d few full) (past b (x ++ f.spelling) r g.spelling t (past b x rest f.spelling r w f.whole) g.whole)
      by_value full k r f (damaged e h) = map_fault e (record {
        done = snoc (flat ps) k;
        rest = r;
        fronts = record { spelling = x ++ f.spelling; whole = past b x rest f.spelling r w f.whole; reads = all_more x f.spelling limit (flat ps) k p f.reads };
        due = value_due o (snoc (flat ps) k) d r (snoc_count (flat ps) k ∙ ap (λ z. z + 1) c) few full;
        damage = h;
      })

      by_key : is_full o d ≡ false → (o ≡ None → (r : List ℕ) → rest ≢ 255 ∷ r) → ItemCase stop limit rest → MapCase stop o limit b
      by_key full not (readable k r f) =
          let l = front_less rest r limit k f in
          by_value full k r f (decided limit r (omega arith) (omega arith) (front_bytes rest r limit k f low))
      by_key full not (damaged e h) = map_fault e (record {
        done = flat ps;
        rest = rest;
        fronts = record { spelling = x; whole = w; reads = p };
        due = map_due o (flat ps) d rest c few full not;
        damage = h;
      })

      by_close : is_full o d ≡ false → ((o ≡ None) × ((r : List ℕ) × (rest ≡ 255 ∷ r))) ⊎ (o ≡ None → (r : List ℕ) → rest ≢ 255 ∷ r) → MapCase stop o limit b
      by_close full (inl q) = map_front (record {
        values = ps;
        count = d;
        counts = c;
        read = x ++ 255 ∷ [];
        rest = q.1.0;
        behind = children_closed o d limit (flat ps) x (255 ∷ []) Break (q.0, refl) p break_title;
        whole = past b x rest (255 ∷ []) q.1.0 w q.1.1;
      })
      by_close full (inr not) = by_key full not (decided limit rest less within low)

      by_full : (is_full o d ≡ true) ⊎ (is_full o d ≡ false) → MapCase stop o limit b
      by_full (inl full) = map_front (record { values = ps; count = d; counts = c; read = x; rest = rest; behind = children_full o d limit (flat ps) x full p; whole = w })
      by_full (inr full) = by_close full (close_case o rest)

  map_loop : (m : ℕ) (ps : Pairs) (d : ℕ) (x rest : List ℕ) → tree_count (flat ps) ≡ 2 * d → length rest < m → length rest < n → length rest ≤ stop → All (λ x. x < 256) rest → ReadsAll x limit (flat ps) → FitsIn o d
      → b ≡ x ++ rest → MapCase stop o limit b
  map_loop zero ps d x rest c l less within low p few w = absurd (omega arith)
  map_loop (suc m) ps d x rest c l less within low p few w =
      map_step ps d x rest c less within low p few w (λ qs y r c' l' low' p' few' w'. map_loop m qs (d + 1) y r c' (omega arith) (omega arith) (omega arith) low' p' few' w')

  pub map_case : length b < n → length b ≤ stop → All (λ x. x < 256) b → MapCase stop o limit b
  map_case less within low = map_loop (suc (length b)) no_pairs 0 [] b refl (omega arith) less within low (all_none limit) (fits_none o) refl
