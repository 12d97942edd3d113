-- What is written in fewer than 2^64 bytes holds no protected header that is encoded in more.
use Rattle.std.proofs.Common.{◌≡◌, ℕ, suc, pos, ◌^◌, ◌<◌, ◌≤◌, List, [], ◌∷◌, ◌++◌, length, map, Bool, true, false, cond, ◌&&◌, Option, Some, None, option_map, refl, sym, subst, ◌∙◌, arith, length-append}
use Rattle.ciborium_ll.specs.declared.hdr.Header.TheVariants.{Bytes, Array, Map}
use Rattle.ciborium_ll.specs.Title.{title_of}
use Rattle.ciborium_value.specs.Tree.{Tree, bytes, array, Trees, no_trees, one_more, tree_count, pair_count}
use Rattle.ciborium_value.specs.View.{pairs}
use Rattle.ciborium_value.specs.Encoding.{enc, enc_all, enc_pairs}
use Rattle.coset_labels.specs.Fields.{LabelFields, number}
use Rattle.coset_labels.specs.Labels.{label_tree}
use Rattle.coset_headers.specs.Fields.{Plain, HeaderFields, header, protected, ProtectedFields, SignatureFields, signature, Signatures, no_signatures, signature_more}
use Rattle.coset_headers.specs.Headers.{list_of_three}
use Rattle.coset_headers.specs.Short.{IsShort, ShowsShort, SignatureShort, AllShort}
use Rattle.coset_headers.specs.Written.{entry_of, written_entries, entry_tree, tree_of, bare_or_list, header_tree, shown, signature_tree, signature_trees, is_nil, is_empty}
use Rattle.coset_headers.specs.Values.{values_of, entries_from, all_absent}
use Rattle.coset_headers.proofs.Again.{header_parts, signature_parts, trees_parts}

-- ---- lengths
abbrev entries_enc : List (LabelFields × Tree) → List ℕ
entries_enc es = enc_pairs (pairs (map entry_tree es))

follows : (xs ys : List ℕ) → length ys ≤ length (xs ++ ys)
follows xs ys = let h = length-append xs ys in omega (arith, h)

leads : (xs ys : List ℕ) → length xs ≤ length (xs ++ ys)
leads xs ys = let h = length-append xs ys in omega (arith, h)

later : (n : ℕ) (os : List (Option Tree)) (es : List (LabelFields × Tree)) → length (entries_enc es) ≤ length (entries_enc (entries_from n os es))
later n [] es = omega arith
later n (None ∷ os) es = later (suc n) os es
later n (Some t ∷ os) es =
    let zs = entries_from (suc n) os es in
    let h = later (suc n) os es in
    let a = follows (enc t) (entries_enc zs) in
    let b = follows (enc (label_tree (number (pos n)))) (enc t ++ entries_enc zs) in
    omega (arith, h, a, b)

entry_first : (l : LabelFields) (t : Tree) (es : List (LabelFields × Tree)) → length (enc t) ≤ length (entries_enc ((l, t) ∷ es))
entry_first l t es =
    let a = leads (enc t) (entries_enc es) in
    let b = follows (enc (label_tree l)) (enc t ++ entries_enc es) in
    omega (arith, a, b)

signs_within : (ts : Trees) (es : List (LabelFields × Tree)) → length (enc_all ts) ≤ length (entries_enc (entry_of 7 (bare_or_list ts) ++ es))
signs_within no_trees es = omega arith
signs_within (one_more t no_trees) es =
    let a = length-append (enc t) [] in
    let b = entry_first (number (pos 7)) t es in
    omega (arith, a, b)
signs_within (one_more t (one_more v vs)) es =
    let ts = one_more t (one_more v vs) in
    let a = follows (title_of (Array (Some (tree_count ts)))) (enc_all ts) in
    let b = entry_first (number (pos 7)) (array ts) es in
    omega (arith, a, b)

within_header : (p : Plain) (ts : Trees) → length (enc_all ts) ≤ length (enc (tree_of (written_entries p (bare_or_list ts))))
within_header p ts =
    let o = bare_or_list ts in
    let es = written_entries p o in
    let signs = signs_within ts p.rest in
    let others = later 1 (values_of p) (entry_of 7 o ++ p.rest) in
    let head = follows (title_of (Map (Some (pair_count (pairs (map entry_tree es)))))) (entries_enc es) in
    omega (arith, signs, others, head)

-- ---- a header without fields
second : (a b c : Bool) → (a && (b && c)) ≡ true → b ≡ true
second a true c q = refl
second true false c q = q
second false false c q = q

empty_short : (p : Plain) (ss : Signatures) → is_empty (header p ss) ≡ true → AllShort ss
empty_short p no_signatures e = tt
empty_short p (signature_more s ss) e =
    let k : false ≡ true = second (all_absent (values_of p)) false (is_nil p.rest) e in
    absurd (let m : ⊥ = cc in m)

held_small : (h : HeaderFields) (b : List ℕ) → ((u : Tree) → header_tree h ≡ Some u → length (enc u) < 2 ^ 64 → IsShort h) → shown (protected None h) ≡ Some b → length b < 2 ^ 64 → IsShort h
held_small (header p ss) b f e l = go (is_empty (header p ss)) (header_tree (header p ss)) refl refl e
  where
    go : (c : Bool) (o : Option Tree) → is_empty (header p ss) ≡ c → header_tree (header p ss) ≡ o → cond c (Some []) (option_map enc o) ≡ Some b → AllShort ss
    go true o q g e = empty_short p ss q
    go false None q g e = let k : None ≡ Some b = e in absurd (let m : ⊥ = cc in m)
    go false (Some u) q g e = let k : enc u ≡ b = (let m : Some (enc u) ≡ Some b = e in cc) in f u g (subst (λ z. length z < 2 ^ 64) (sym k) l)

-- ---- so the parts are short
mutual
  pub hdr_small : (h : HeaderFields) (u : Tree) → header_tree h ≡ Some u → length (enc u) < 2 ^ 64 → IsShort h
  hdr_small (header p ss) u e l =
      let w = header_parts p (signature_trees ss) u e in
      let m = within_header p w.0 in
      sigs_small ss w.0 w.1 (let k = subst (λ z. length (enc z) < 2 ^ 64) (sym w.2) l in omega (arith, m, k))

  pub pro_small : (p : ProtectedFields) (b : List ℕ) → shown p ≡ Some b → length b < 2 ^ 64 → ShowsShort p
  pro_small (protected (Some c) h) b e l = tt
  pro_small (protected None h) b e l =
      (held_small h b (λ u. hdr_small h u) e l, λ c f. let k : c ≡ b = (let m : Some c ≡ Some b = sym f ∙ e in cc) in subst (λ z. length z < 2 ^ 64) (sym k) l)

  pub sig_small : (s : SignatureFields) (u : Tree) → signature_tree s ≡ Some u → length (enc u) < 2 ^ 64 → SignatureShort s
  sig_small (signature p h c) u e l =
      let w = signature_parts (shown p) (header_tree h) c u e in
      let b = w.0 in
      let v = w.1 in
      let k = subst (λ z. length (enc z) < 2 ^ 64) (sym w.4) l in
      let i = follows (title_of (Array (Some (tree_count (list_of_three (bytes b) v (bytes c)))))) (enc_all (list_of_three (bytes b) v (bytes c))) in
      let j = length-append (enc (bytes b)) (enc v ++ (enc (bytes c) ++ [])) in
      let m = length-append (title_of (Bytes (Some (length b)))) b in
      let n = leads (enc v) (enc (bytes c) ++ []) in
      (pro_small p b w.2 (omega (arith, k, i, j, m, n)), hdr_small h v w.3 (omega (arith, k, i, j, n)))

  pub sigs_small : (ss : Signatures) (ts : Trees) → signature_trees ss ≡ Some ts → length (enc_all ts) < 2 ^ 64 → AllShort ss
  sigs_small no_signatures ts e l = tt
  sigs_small (signature_more s ss) ts e l =
      let w = trees_parts (signature_tree s) (signature_trees ss) ts e in
      let k = subst (λ z. length (enc_all z) < 2 ^ 64) (sym w.4) l in
      let h = length-append (enc w.0) (enc_all w.1) in
      (sig_small s w.0 w.2 (omega (arith, k, h)), sigs_small ss w.1 w.3 (omega (arith, k, h)))
