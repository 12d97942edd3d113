-- Headers that are read entry by entry.
use Rattle.std.proofs.Common.{◌≡◌, ◌≢◌, ◌<◌, ◌≤◌, ◌+◌, ◌-◌, ℕ, pos, inl, inr, List, [], ◌∷◌, ◌++◌, length, Bool, true, false, Option, Some, None, Result, Ok, Err, refl, sym, ap, subst, ◌∙◌, arith, append_assoc, append-nil, length-append}
use Rattle.std.specs.Prelude.{MatchResult, IsErrAnd, is_ok}
use Rattle.std.specs.Io.KnownBytes.{Consumes}
use Rattle.ciborium_ll.specs.Reading.{Moves}
use Rattle.ciborium_ll.specs.Seen.{Seen, Takes}
use Rattle.ciborium_value.specs.Tree.{Tree, bytes, integer, map as map_tree, Pairs, no_pairs, pair_more}
use Rattle.ciborium_value.specs.View.{view, pairs, view_pairs}
use Rattle.ciborium_value.specs.declared.value.Value.{Value}
use Rattle.ciborium_value.specs.Kinds.{is_map}
use Rattle.ciborium.specs.Damage.{Damage}
use Rattle.ciborium.specs.Front.{Reads, HoldsOne}
use Rattle.ciborium.specs.Fronts.{TakesItem}
use Rattle.ciborium.specs.Maps.{InMap, NextEntry}
use Rattle.ciborium.specs.Reading.{NamesFault, TakesSome, IfMemory}
use Rattle.ciborium.specs.declared.de.Error.{Error}
use Rattle.ciborium.specs.declared.maps.MapReader.{MapReader}
use Rattle.ciborium.proofs.Taking.{takes_as}
use Rattle.coset_labels.specs.Fields.{LabelFields, number}
use Rattle.coset_labels.specs.Faults.{CoseFault, OrMemory, fault_of}
use Rattle.coset_labels.specs.Labels.{label_of, WrongLabel}
use Rattle.coset_labels.specs.Walks.{WrongEntries}
use Rattle.coset_labels.specs.declared.error.CoseError.{CoseError}
use Rattle.coset_labels.specs.declared.label.Label.{Label}
use Rattle.coset_labels.specs.declared.seen_labels.SeenLabels.{SeenLabels}
use Rattle.coset_headers.specs.Fields.{HeaderFields, no_header, protected, Signatures}
use Rattle.coset_headers.specs.Headers.{entries, at, IsIn, HasHeader, HasProtected, HasSigned}
use Rattle.coset_headers.specs.Parts.{plain_of, signs_of, SeesLabels, Known, KnownIn, Added, SignsNext}
use Rattle.coset_headers.specs.View.{header_view}
use Rattle.coset_headers.specs.Walks.{Inside, WrongInside, IsHeader, AreRead}
use Rattle.coset_headers.specs.Wrong.{WrongField, wrong_alg, wrong_crit, wrong_content_type, wrong_key_id, wrong_iv, wrong_partial_iv, WrongHeader, no_map, at_entry, WrongEntry, bad_label, label_again, bad_field, two_ivs, bad_signatures, WrongSigned}
use Rattle.coset_headers.specs.declared.header.Header.{Header}
use Rattle.coset_headers.proofs.Alike.{header_is}
use Rattle.coset_headers.proofs.Empty.{length_zero}
use Rattle.coset_headers.proofs.Entered.{entries_snoc}
use Rattle.coset_headers.proofs.Fresh.{sees_none, known_none}
use Rattle.coset_headers.proofs.Steps.{passed_on, known_signed, inside_wrong}

-- ---- counter signatures by themselves
-- the header that has no other field
abbrev pub signing : Tree → Tree
signing v = map_tree (pair_more (integer (pos 7)) v no_pairs)

alone : Tree → List (LabelFields × Tree)
alone v = (number (pos 7), v) ∷ []

pub has_signed : (n k : ℕ) (v : Tree) (h : Header) → HasHeader n (signing v) (header_view h) k → HasSigned n (Some v) (signs_of h) k
has_signed n k v h w =
    let u = subst (λ z. HasHeader n (signing v) z k) (header_is h) w in
    let e : pair_more (integer (pos 7)) v no_pairs ≡ u.0 = let f = u.2 in cc in
    let f : Some ((number (pos 7), v) ∷ []) ≡ Some u.1 = ap entries e ∙ u.3 in
    let g : (number (pos 7), v) ∷ [] ≡ u.1 = cc in
    subst (λ z. HasSigned n z (signs_of h) k) (ap (at 7) (sym g)) u.6

pub signing_is : (es : List (Value × Value)) (k v : Value) → es ≡ (k, v) ∷ [] → view k ≡ integer (pos 7) → map_tree (view_pairs es) ≡ signing (view v)
signing_is es k v e q = ap (λ z. map_tree (view_pairs z)) e ∙ ap (λ z. map_tree (pair_more z (view v) no_pairs)) q

no_field : (v : Tree) (m : LabelFields) (e : CoseFault) → m ≡ number (pos 7) → WrongField v m e → ⊥
no_field v _ _ q (wrong_alg e x) = cc
no_field v _ _ q (wrong_crit e x) = cc
no_field v _ _ q (wrong_content_type e x) = cc
no_field v _ _ q (wrong_key_id e x) = cc
no_field v _ _ q (wrong_iv e x) = cc
no_field v _ _ q (wrong_partial_iv e x) = cc

seven : (l : Tree) (m : LabelFields) → l ≡ integer (pos 7) → label_of l ≡ Some m → m ≡ number (pos 7)
seven l m q e = let f : Some (number (pos 7)) ≡ Some m = sym (ap label_of q) ∙ e in cc

wrong_entry : (n : ℕ) (es : List (LabelFields × Tree)) (l w v : Tree) (k : ℕ) (e : CoseFault) → es ≡ [] → l ≡ integer (pos 7) → w ≡ v → WrongEntry n es l w k e → WrongSigned n v k e
wrong_entry n _ _ _ v _ _ a q r (bad_label es l w k e x) = let y = subst (λ z. WrongLabel z e) q x in let f : true ≡ false = y.0 in cc
wrong_entry n _ _ _ v _ _ a q r (label_again es l w k m x y) = absurd (subst (λ z. IsIn m z) a y)
wrong_entry n _ _ _ v _ _ a q r (bad_field es l w k m e x y z) = absurd (no_field w m e (seven l m q x) z)
wrong_entry n _ _ _ v _ _ a q r (two_ivs es l w b c k m x y z u) =
    let f : None ≡ Some b = sym (ap (λ j. at 5 (j ++ (m, w) ∷ [])) a ∙ ap (λ j. at 5 ((j, w) ∷ [])) (seven l m q x)) ∙ z in cc
wrong_entry n _ _ _ v _ _ a q r (bad_signatures es l w k m e x y z u) = subst (λ j. WrongSigned n j k e) r u

split_one : (before after : List (Tree × Tree)) (l w a v : Tree) → pairs (before ++ (l, w) ∷ after) ≡ pair_more a v no_pairs → (before ≡ []) × (l ≡ a) × (w ≡ v)
split_one [] after l w a v e = (refl, cc, cc)
split_one (b ∷ []) after l w a v e = let f : pair_more l w (pairs after) ≡ no_pairs = cc in cc
split_one (b ∷ c ∷ bs) after l w a v e = let f : pair_more c.0 c.1 (pairs (bs ++ (l, w) ∷ after)) ≡ no_pairs = cc in cc

wrong_alone : (n k : ℕ) (v t : Tree) (e : CoseFault) → t ≡ signing v → WrongHeader n t k e → WrongSigned n v k e
wrong_alone n _ v _ _ q (no_map t k x) = let f : true ≡ false = sym (ap is_map q) ∙ x in cc
wrong_alone n _ v _ _ q (at_entry before after l w es k e x y) =
    let f : pairs (before ++ (l, w) ∷ after) ≡ pair_more (integer (pos 7)) v no_pairs = cc in
    let s = split_one before after l w (integer (pos 7)) v f in
    let g : Some [] ≡ Some es = sym (ap (λ j. entries (pairs j)) s.0) ∙ x in
    let h : es ≡ [] = cc in
    wrong_entry n es l w v k e h s.1 s.2 y

pub wrong_signed : (n k : ℕ) (v : Tree) (e : CoseError) → OrMemory (WrongHeader n (signing v) k) e → OrMemory (WrongSigned n v k) e
wrong_signed n k v e w = passed_on (WrongHeader n (signing v) k) (WrongSigned n v k) e (wrong_alone n k v (signing v) (fault_of e) refl) w

-- ---- entry by entry
-- the next entry is looked at
pub more_read : (n k : ℕ) (ps : List (Tree × Tree)) (key v : Tree) (s s' : SeenLabels Label) (h h' : Header) (r r' : Result (Unit {0}) CoseError) → is_ok r ≡ true → AreRead n k ps s h r
    → ((es : List (LabelFields × Tree)) → KnownIn n es s h k → MatchResult r' (λ _. Added n es key v s' h' k) (λ e. OrMemory (WrongEntry n es key v k) e)) → AreRead n k (ps ++ (key, v) ∷ []) s' h' r'
more_read n k ps key v s s' h h' (Err e) r' o w step = cc
more_read n k ps key v s s' h h' (Ok x) (Ok y) o w step =
    let a = step w.0 w.2 in
    (w.0 ++ (a.key, v) ∷ [], entries_snoc ps w.0 key v a.key w.1 a.is, a.known)
more_read n k ps key v s s' h h' (Ok x) (Err e) o w step =
    passed_on (WrongEntry n w.0 key v k) (WrongEntries label_of (λ es l v f. WrongEntry n es l v k f) (pairs (ps ++ (key, v) ∷ []))) e
    (λ y. record { before = ps; after = []; key = key; value = v; es = w.0; are = refl; read_before = w.1; wrong = y }) (step w.0 w.2)

-- after a fault it is not
pub more_passed : (n k : ℕ) (ps : List (Tree × Tree)) (p : Tree × Tree) (s : SeenLabels Label) (h : Header) (r : Result (Unit {0}) CoseError) → is_ok r ≡ false → AreRead n k ps s h r → AreRead n k (ps ++ p ∷ []) s h r
more_passed n k ps p s h (Ok x) o w = cc
more_passed n k ps p s h (Err e) o w = passed_on (WrongEntries label_of Wrong (pairs ps)) (WrongEntries label_of Wrong (pairs (ps ++ p ∷ []))) e
    (λ y. record { before = y.before; after = y.after ++ p ∷ []; key = y.key; value = y.value; es = y.es; are = longer y; read_before = y.read_before; wrong = y.wrong }) w
  where
    Wrong : List (LabelFields × Tree) → Tree → Tree → CoseFault → Type 0
    Wrong es l v f = WrongEntry n es l v k f

    same_pairs : (xs ys : List (Tree × Tree)) → pairs xs ≡ pairs ys → xs ≡ ys
    same_pairs [] [] e = refl
    same_pairs [] (b ∷ ys) e = cc
    same_pairs (a ∷ xs) [] e = cc
    same_pairs (a ∷ xs) (b ∷ ys) e =
        let f : pairs xs ≡ pairs ys = cc in
        let x : a.0 ≡ b.0 = cc in
        let y : a.1 ≡ b.1 = cc in
        λ i. (x i, y i) ∷ same_pairs xs ys f i

    longer : {f : CoseFault} (y : WrongEntries label_of Wrong (pairs ps) f) → pairs (ps ++ p ∷ []) ≡ pairs (y.before ++ (y.key, y.value) ∷ (y.after ++ p ∷ []))
    longer y = ap pairs (ap (λ z. z ++ p ∷ []) (same_pairs ps (y.before ++ (y.key, y.value) ∷ y.after) y.are) ∙ append_assoc y.before ((y.key, y.value) ∷ y.after) (p ∷ []))

-- all were
pub all_read : (n k : ℕ) (ps : List (Tree × Tree)) (s : SeenLabels Label) (h : Header) (r : Result (Unit {0}) CoseError) → AreRead n k ps s h r
    → MatchResult r (λ _. HasHeader n (map_tree (pairs ps)) (header_view h) k) (λ e. OrMemory (WrongHeader n (map_tree (pairs ps)) k) e)
all_read n k ps s h (Ok x) w =
    subst (λ z. HasHeader n (map_tree (pairs ps)) z k) (sym (header_is h)) (pairs ps, w.0, refl, w.1, w.2.known.distinct, w.2.known.plain, w.2.known.signed)
all_read n k ps s h (Err e) w = passed_on (WrongEntries label_of (λ es l v f. WrongEntry n es l v k f) (pairs ps)) (WrongHeader n (map_tree (pairs ps)) k) e
    (λ y. subst (λ z. WrongHeader n (map_tree z) k (fault_of e)) (sym y.are) (at_entry y.before y.after y.key y.value y.es k (fault_of e) y.read_before y.wrong)) w

-- ---- one entry
pub signs_fault : (n k : ℕ) (es : List (LabelFields × Tree)) (l v : Tree) (s : SeenLabels Label) (e : CoseError) → SignsNext es l s → OrMemory (WrongSigned n v k) e → OrMemory (WrongEntry n es l v k) e
signs_fault n k es l v s e x w = passed_on (WrongSigned n v k) (WrongEntry n es l v k) e (λ y. bad_signatures es l v k x.label (fault_of e) x.is x.fresh x.signs y) w

pub signs_read : (n k : ℕ) (es : List (LabelFields × Tree)) (l v : Tree) (s : SeenLabels Label) (old new : Header) (ss : Signatures) → Known n es (plain_of old) (signs_of old) k → SignsNext es l s → HasSigned n (Some v) ss k
    → plain_of new ≡ plain_of old → signs_of new ≡ ss → Added n es l v s new k
signs_read n k es l v s old new ss w x g a b = known_signed n es l v s old new k x.label ss w x.is x.fresh x.sees x.signs g a b

-- ---- the loop over the entries
-- how far a header is that began at the sight `start`
pub record Walking (n k limit : ℕ) (start now : Seen) (m : MapReader) (s : SeenLabels Label) (h : Header) (r : Result (Unit {0}) CoseError) : Type 0 where
  pub ps : List (Tree × Tree)
  pub taken : Takes start now (InMap limit m ps)
  pub read : AreRead n k ps s h r

pub begun : (n k limit : ℕ) (start now : Seen) (m : MapReader) (s : SeenLabels Label) (h : Header) (x : Unit {0}) → SeesLabels s [] → header_view h ≡ no_header → Takes start now (InMap limit m [])
    → Walking n k limit start now m s h (Ok x)
begun n k limit start now m s h x a q t = record { ps = []; taken = t; read = ([], refl, record { sees = sees_none s a; known = known_none n h k q }) }

-- with one entry more
pub walked_on : {E : Type 0} (ends : E → Bool) (n k limit : ℕ) (start old now : Seen) (m m' : MapReader) (p : Value × Value) (s s' : SeenLabels Label) (h h' : Header) (r r' : Result (Unit {0}) CoseError) (w : Walking n k limit start old m s h r)
    → NextEntry {E = E} ends limit start now m' w.ps (Ok (Some p)) → ((ps : List (Tree × Tree)) → AreRead n k ps s h r → AreRead n k (ps ++ (view p.0, view p.1) ∷ []) s' h' r') → Walking n k limit start now m' s' h' r'
walked_on ends n k limit start old now m m' p s s' h h' r r' w x step = record { ps = w.ps ++ (view p.0, view p.1) ∷ []; taken = x.more; read = step w.ps w.read }

-- the map is whole
pub walked : {E : Type 0} (ends : E → Bool) (n k limit : ℕ) (start old now : Seen) (m m' : MapReader) (s : SeenLabels Label) (h : Header) (r : Result (Unit {0}) CoseError) (w : Walking n k limit start old m s h r)
    → NextEntry {E = E} ends limit start now m' w.ps (Ok None) → TakesItem {E = E} ends limit (λ x t. IsHeader n k t h x) (Ok r) start now
walked ends n k limit start old now m m' s h r w x = record {
  ok = takes_as start.left now.left start.offset now.offset (λ b. Reads b limit (map_tree (pairs w.ps))) (λ b. (t : Tree) × Reads b limit t × IsHeader n k t h r) x.whole
      (λ b y. (map_tree (pairs w.ps), y, all_read n k w.ps s h r w.read));
  err = tt;
  stops = tt;
  one = tt;
}

-- its bytes have a fault
pub faulty : {E : Type 0} (ends : E → Bool) (limit : ℕ) (start now : Seen) (m : MapReader) (ps : List (Tree × Tree)) (P : Result (Unit {0}) CoseError → Tree → Type 0) (e : Error E) (r : Result (Result (Unit {0}) CoseError) (Error E))
    → IsErrAnd r (λ x. x ≡ e) → NextEntry ends limit start now m ps (Err e) → TakesItem ends limit P r start now
faulty ends limit start now m ps P e (Ok x) a w = absurd a
faulty ends limit start now m ps P e (Err x) a w = record {
  ok = tt;
  err = subst (NamesFault ends (λ stop b f. Damage stop b limit f) start now) (sym a) w.err;
  stops = subst (TakesSome start now) (sym a) w.stops;
  one = subst (IfMemory (Takes start now HoldsOne)) (sym a) w.one;
}

-- ---- the header of an item that is no map
pub other : {E : Type 0} (ends : E → Bool) (n k limit : ℕ) (old now : Seen) (v : Tree) (h : Header) (r : Result (Unit {0}) CoseError) → Takes old now (λ b. Reads b limit v) → IsHeader n k v h r
    → TakesItem {E = E} ends limit (λ x t. IsHeader n k t h x) (Ok r) old now
other ends n k limit old now v h r t w = record {
  ok = takes_as old.left now.left old.offset now.offset (λ b. Reads b limit v) (λ b. (t : Tree) × Reads b limit t × IsHeader n k t h r) t (λ b y. (v, y, w));
  err = tt;
  stops = tt;
  one = tt;
}

-- ---- a header in bytes
all_of : (m : Option (List ℕ)) (b x : List ℕ) (n : ℕ) → Consumes (Some b) m x → n ≡ 0 + length x → length b ≤ n → x ≡ b
all_of None b x n t g h = absurd t
all_of (Some rest) b x n t g h =
    let l : length b ≡ length x + length rest = ap length t ∙ length-append x rest in
    let none : rest ≡ [] = length_zero rest (omega arith) in
    sym (append-nil x) ∙ ap (λ z. x ++ z) (sym none) ∙ sym t

-- bytes that were all taken
pub all_taken : (l m : Option (List ℕ)) (b : List ℕ) (o o' n : ℕ) (P : List ℕ → Type 0) → l ≡ Some b → o ≡ 0 → Moves l m o o' P → n ≡ o' → length b ≤ n → P b
all_taken l m b o o' n P p q t r h = subst P (all_of m b t.bytes n (subst (λ z. Consumes z m t.bytes) p t.taken) (r ∙ t.grown ∙ ap (λ z. z + length t.bytes) q) h) t.has

-- the item that was taken, whatever it is as a header
pub item_of : (n k limit : ℕ) (l m : Option (List ℕ)) (o o' : ℕ) (h : Header) (r : Result (Unit {0}) CoseError) (t : Moves l m o o' (λ b. (t : Tree) × Reads b limit t × IsHeader n k t h r)) → Moves l m o o' (λ b. Reads b limit t.has.0)
item_of n k limit l m o o' h r t = record { bytes = t.bytes; has = t.has.1; taken = t.taken; grown = t.grown }

pub inside_read : (n k : ℕ) (b : List ℕ) (h : Header) (r : Result (Unit {0}) CoseError) → b ≢ [] → (t : Tree) × Reads b n t × IsHeader n k t h r
    → MatchResult r (λ _. Inside n (header_view h) b k) (λ e. OrMemory (WrongInside n b k) e)
inside_read n k b h (Ok x) m w = inr (m, (w.0, w.1, w.2))
inside_read n k b h (Err e) m w = inside_wrong n b w.0 k e m w.1 w.2

-- a protected header that is put together
pub protected_has : (n k : ℕ) (t : Tree) (b : List ℕ) (h : HeaderFields) → t ≡ bytes b → 0 < k → Inside n h b (k - 1) → HasProtected n t (protected (Some b) h) k
protected_has n k t b h q p w = (b, q, refl, p, w)
