-- What the steps of the reader of headers show.
use Rattle.std.proofs.Common.{◌≡◌, ◌≢◌, ℕ, ◌+◌, ◌-◌, ◌<◌, inl, inr, List, [], ◌∷◌, ◌++◌, map, Some, refl, sym, ap, subst, ◌∙◌, append_assoc, append-nil, true, Vec, Global, arith}
use Rattle.std.proofs.lemmas.List.{map-append}
use Rattle.std.specs.declared.vec.IntoIter.{IntoIter}
use Rattle.std.specs.Vec.Iter.{into_iter_items}
use Rattle.ciborium_value.specs.Tree.{Tree, bytes, array, map as map_tree, Trees, no_trees}
use Rattle.ciborium_value.specs.View.{trees, pairs, view, views, view_pair, view_pairs}
use Rattle.ciborium_value.specs.declared.value.Value.{Value}
use Rattle.ciborium.specs.Front.{Reads}
use Rattle.coset_labels.specs.Faults.{CoseFault, OrMemory, fault_of}
use Rattle.coset_labels.specs.Fields.{LabelFields}
use Rattle.coset_labels.specs.Labels.{label_of}
use Rattle.coset_labels.specs.declared.error.CoseError.{CoseError}
use Rattle.coset_labels.specs.declared.label.Label.{Label}
use Rattle.coset_labels.specs.declared.seen_labels.SeenLabels.{SeenLabels}
use Rattle.coset_headers.specs.Fields.{HeaderFields, no_header, protected, signature, Signatures, signatures}
use Rattle.coset_headers.specs.Headers.{is_at, IsIn, IsBare, IsList, list_of_three, HasHeader, HasSignature, HasSigned, HasSignatures}
use Rattle.coset_headers.specs.Levels.{Going, Signed, IsNext, alone, listed, IsHalf, Around, Within, ReadingSigned, ReadingInside, open_left, signing_left, levels_left}
use Rattle.coset_headers.specs.Parts.{plain_of, signs_of, SeesLabels, Sees, Known, Added}
use Rattle.coset_headers.specs.View.{header_view, signature_view, signatures_view}
use Rattle.coset_headers.specs.Wrong.{WrongHeader, at_entry, WrongEntry, bad_signatures, WrongSigned, in_bare, in_list, WrongSignature, in_protected, in_unprotected, WrongProtected, inside}
use Rattle.coset_headers.specs.declared.header.CoseSignature.{CoseSignature, roll-CoseSignature}
use Rattle.coset_headers.specs.declared.header.ProtectedHeader.{roll-ProtectedHeader}
use Rattle.coset_headers.proofs.Alike.{header_is, protected_of, signature_of}
use Rattle.coset_headers.proofs.Fresh.{sees_none, known_none}
use Rattle.coset_headers.specs.declared.header.Header.{Header}
use Rattle.coset_headers.specs.declared.reader.Half.{Half}
use Rattle.coset_headers.specs.declared.reader.Half.TheVariants as half
use Rattle.coset_headers.specs.declared.reader.HeaderReader.{HeaderReader}
use Rattle.coset_headers.specs.declared.reader.Level.{Level}
use Rattle.coset_headers.specs.declared.reader.Open.{Open}
use Rattle.coset_headers.specs.declared.reader.SignatureList.{SignatureList}
use Rattle.coset_headers.specs.declared.reader.Signing.{Signing}
use Rattle.coset_headers.proofs.Entered.{entries_snoc}
use Rattle.coset_headers.proofs.Steps.{passed_on, known_signed, signed_one, signed_all, sigs_snoc}

-- ---- one open header
pub starts : (n : ℕ) (es : List (Value × Value)) (it : IntoIter (Value × Value) Global) (s : SeenLabels Label) (h : Header) (k : ℕ) → into_iter_items it ≡ es
    → SeesLabels s [] → header_view h ≡ no_header → Going n (map_tree (view_pairs es)) (record { entries = it; seen = s; layers = k }) h
starts n es it s h k e a q = record { before = []; es = []; is = ap (λ z. map_tree (view_pairs z)) (sym e); read_before = refl; known = record { sees = sees_none s a; known = known_none n h k q } }

-- a fault of the next entry
pub entry_wrong : (n : ℕ) (t : Tree) (o : Open) (h : Header) (x : Value × Value) (xs : List (Value × Value)) (e : CoseError) (g : Going n t o h) → into_iter_items o.entries ≡ x ∷ xs
    → OrMemory (WrongEntry n g.es (view x.0) (view x.1) o.layers) e → OrMemory (WrongHeader n t o.layers) e
entry_wrong n t o h x xs e g q w = passed_on (WrongEntry n g.es (view x.0) (view x.1) o.layers) (WrongHeader n t o.layers) e (λ y.
    subst (λ z. WrongHeader n z o.layers (fault_of e)) (sym (g.is ∙ ap (λ z. map_tree (pairs (g.before ++ map view_pair z))) q))
    (at_entry g.before (map view_pair xs) (view x.0) (view x.1) g.es o.layers (fault_of e) g.read_before y)) w

-- the next entry is read
pub filled : (n : ℕ) (t : Tree) (o p : Open) (h u : Header) (x : Value × Value) (xs : List (Value × Value)) (g : Going n t o h) → into_iter_items o.entries ≡ x ∷ xs → into_iter_items p.entries ≡ xs
    → Added n g.es (view x.0) (view x.1) p.seen u p.layers → Going n t p u
filled n t o p h u x xs g q r a = record {
  before = g.before ++ view_pair x ∷ [];
  es = g.es ++ (a.key, view x.1) ∷ [];
  is = g.is ∙ ap (λ z. map_tree (pairs (g.before ++ map view_pair z))) (q ∙ ap (λ z. x ∷ z) (sym r))
      ∙ ap (λ z. map_tree (pairs z)) (sym (append_assoc g.before (view_pair x ∷ []) (map view_pair (into_iter_items p.entries))));
  read_before = entries_snoc g.before g.es (view x.0) (view x.1) a.key g.read_before a.is;
  known = a.known;
}

-- the label of the next entry is that of counter signatures
pub signs_next : (n : ℕ) (t : Tree) (o p : Open) (h : Header) (x : Value × Value) (xs : List (Value × Value)) (m : LabelFields) (g : Going n t o h) → into_iter_items o.entries ≡ x ∷ xs
    → into_iter_items p.entries ≡ xs → p.layers ≡ o.layers → label_of (view x.0) ≡ Some m → is_at 7 m ≡ true → (IsIn m g.es → ⊥)
    → ((w : Tree) → Sees p.seen (g.es ++ (m, w) ∷ [])) → Signed n t p h (view x.1)
signs_next n t o p h x xs m g q r b l s f w = record {
  before = g.before;
  es = g.es;
  key = view x.0;
  label = m;
  is = g.is ∙ ap (λ z. map_tree (pairs (g.before ++ map view_pair z))) (q ∙ ap (λ z. x ∷ z) (sym r));
  read_before = g.read_before;
  label_is = l;
  signs = s;
  fresh = f;
  sees = w;
  known = subst (λ z. Known n g.es (plain_of h) (signs_of h) z) (sym b) g.known.known;
}

-- its counter signatures are read
pub signed_done : (n : ℕ) (t : Tree) (o p : Open) (h u : Header) (v : Tree) (ss : Signatures) → Signed n t o h v → HasSigned n (Some v) ss o.layers
    → p.entries ≡ o.entries → p.seen ≡ o.seen → p.layers ≡ o.layers → plain_of u ≡ plain_of h → signs_of u ≡ ss → Going n t p u
signed_done n t o p h u v ss g x a b d e f =
    let k : HasSigned n (Some v) ss p.layers = subst (λ z. HasSigned n (Some v) ss z) (sym d) x in
    let w : Known n g.es (plain_of h) (signs_of h) p.layers = subst (λ z. Known n g.es (plain_of h) (signs_of h) z) (sym d) g.known in
    let sees : (w : Tree) → Sees p.seen (g.es ++ (g.label, w) ∷ []) = subst (λ z. (w : Tree) → Sees z (g.es ++ (g.label, w) ∷ [])) (sym b) g.sees in
    let m = known_signed n g.es g.key v p.seen h u p.layers g.label ss w g.label_is g.fresh sees g.signs k e f in
    record {
      before = g.before ++ (g.key, v) ∷ [];
      es = g.es ++ (m.key, v) ∷ [];
      is = g.is ∙ ap (λ z. map_tree (pairs (g.before ++ (g.key, v) ∷ map view_pair (into_iter_items z)))) (sym a)
          ∙ ap (λ z. map_tree (pairs z)) (sym (append_assoc g.before ((g.key, v) ∷ []) (map view_pair (into_iter_items p.entries))));
      read_before = entries_snoc g.before g.es g.key v m.key g.read_before m.is;
      known = m.known;
    }

-- no entry is left
pub whole : (n : ℕ) (t : Tree) (o : Open) (h : Header) → Going n t o h → into_iter_items o.entries ≡ [] → HasHeader n t (header_view h) o.layers
whole n t o h g e =
    let all : g.before ++ map view_pair (into_iter_items o.entries) ≡ g.before = ap (λ z. g.before ++ map view_pair z) e ∙ append-nil g.before in
    subst (λ z. HasHeader n t z o.layers) (sym (header_is h))
    (pairs g.before, g.es, g.is ∙ ap (λ z. map_tree (pairs z)) all, g.read_before, g.known.known.distinct, g.known.known.plain, g.known.known.signed)

-- ---- faults inside
signed_wrong : (n : ℕ) (t : Tree) (o : Open) (h : Header) (v : Tree) (e : CoseFault) → Signed n t o h v → WrongSigned n v o.layers e → WrongHeader n t o.layers e
signed_wrong n t o h v e g w = subst (λ z. WrongHeader n z o.layers e) (sym g.is)
    (at_entry g.before (map view_pair (into_iter_items o.entries)) g.key v g.es o.layers e g.read_before (bad_signatures g.es g.key v o.layers g.label e g.label_is g.fresh g.signs w))

next_wrong : (n k : ℕ) (v s : Tree) (g : SignatureList) (e : CoseFault) → IsNext n k v s g → WrongSignature n s k e → WrongSigned n v k e
next_wrong n k v s g e (alone ts q b r d l) w = subst (λ z. WrongSigned n z k e) (sym q) (in_bare ts k e b (subst (λ z. WrongSignature n z k e) r w))
next_wrong n k v s g e (listed before q l d) w = subst (λ z. WrongSigned n z k e) (sym q) (in_list before (map view (into_iter_items g.left)) s k e l w)

half_wrong : (n k : ℕ) (s : Tree) (c : List ℕ) (f : Half) (w : Tree) (i : ℕ) (e : CoseFault) → IsHalf n k s c f w i → WrongHeader n w i e → WrongSignature n s k e
half_wrong n k s c (half.Unprotected first) w i e h x = subst (λ z. WrongSignature n z k e) (sym h.0) (in_unprotected (view first) w (bytes c) k e (subst (λ z. WrongHeader n w z e) h.1 x))
half_wrong n k s c (half.Protected u b) w i e h x =
    subst (λ z. WrongSignature n z k e) (sym h.1)
    (in_protected (bytes b.items) h.0 (bytes c) k e (inside b.items w k e h.3 h.4 h.5 (subst (λ z. WrongHeader n w z e) h.6 x)))

pub around_wrong : (n : ℕ) (t : Tree) (o : Open) (h : Header) (g : Signing) (w : Tree) (i : ℕ) (e : CoseFault) → Around n t o h g w i → WrongHeader n w i e → WrongHeader n t o.layers e
around_wrong n t o h g w i e r x =
    signed_wrong n t o h r.value e r.signed
    (next_wrong n o.layers r.value r.signature g.list e r.next (half_wrong n o.layers r.signature g.signature.items g.half w i e r.half x))

within_wrong_by : (n : ℕ) (t : Tree) (k : ℕ) (ls : List Level) (u : Tree) (j : ℕ) (e : CoseFault) → Within n t k ls u j → WrongHeader n u j e → WrongHeader n t k e
within_wrong_by n t k [] u j e p x = subst (λ z. WrongHeader n z k e) p.0 (subst (λ z. WrongHeader n u z e) p.1 x)
within_wrong_by n t k (l ∷ ls) u j e p x =
    subst (λ z. WrongHeader n t z e) p.2 (around_wrong n t l.left l.header l.signing p.0 p.1 e p.3 (within_wrong_by n p.0 p.1 ls u j e p.4 x))

-- a fault of the innermost header is one of the outermost
pub within_wrong : (n : ℕ) (t : Tree) (k : ℕ) (ls : List Level) (u : Tree) (j : ℕ) (e : CoseError) → Within n t k ls u j → OrMemory (WrongHeader n u j) e → OrMemory (WrongHeader n t k) e
within_wrong n t k ls u j e p w = passed_on (WrongHeader n u j) (WrongHeader n t k) e (within_wrong_by n t k ls u j (fault_of e) p) w

-- ---- levels that are opened and closed
pub within_pushed : (n : ℕ) (t : Tree) (k : ℕ) (ls : List Level) (l : Level) (u w : Tree) (i : ℕ) → Within n t k ls u l.left.layers → Around n u l.left l.header l.signing w i → Within n t k (ls ++ l ∷ []) w i
within_pushed n t k [] l u w i p r = (w, i, p.1, subst (λ z. Around n z l.left l.header l.signing w i) p.0 r, (refl, refl))
within_pushed n t k (m ∷ ms) l u w i p r = (p.0, p.1, p.2, p.3, within_pushed n p.0 p.1 ms l u w i p.4 r)

pub within_popped : (n : ℕ) (t : Tree) (k : ℕ) (ls : List Level) (l : Level) (w : Tree) (i : ℕ) → Within n t k (ls ++ l ∷ []) w i
    → (u : Tree) × Within n t k ls u l.left.layers × Around n u l.left l.header l.signing w i
within_popped n t k [] l w i p = (t, (refl, p.2), subst (λ z. Around n t l.left l.header l.signing w z) (sym p.4.1) (subst (λ z. Around n t l.left l.header l.signing z p.1) (sym p.4.0) p.3))
within_popped n t k (m ∷ ms) l w i p = let h = within_popped n p.0 p.1 ms l w i p.4 in (h.0, (p.0, p.1, p.2, p.3, h.1), h.2)

-- what is left below
pub levels_pushed : (ls : List Level) (l : Level) → levels_left (ls ++ l ∷ []) ≡ levels_left ls + (open_left l.left + signing_left l.signing)
levels_pushed [] l = omega arith
levels_pushed (m ∷ ms) l = let h = levels_pushed ms l in omega (arith, h)

-- ---- counter signatures one after another
pub first_alone : (n k : ℕ) (v : Tree) (ts : Trees) (g : SignatureList) → v ≡ array ts → IsBare ts → g.done.items ≡ [] → into_iter_items g.left ≡ [] → IsNext n k v (array ts) g
first_alone n k v ts g q b d l = alone ts q b refl d l

pub first_listed : (n k : ℕ) (v : Tree) (items : List Value) (x : Value) (g : SignatureList) → v ≡ array (views items) → IsList (views items) → items ≡ x ∷ into_iter_items g.left → g.done.items ≡ []
    → IsNext n k v (view x) g
first_listed n k v items x g q l e d =
    listed [] (q ∙ ap (λ z. array (views z)) e) (subst (λ z. IsList (views z)) e l) (subst (λ z. HasSignatures n no_trees (signatures_view z) k) (sym d) refl)

pub next_more : (n k : ℕ) (v s : Tree) (g f : SignatureList) (x : Value) (c : CoseSignature) → IsNext n k v s g → into_iter_items g.left ≡ x ∷ into_iter_items f.left
    → HasSignature n s (signature_view c) k → f.done.items ≡ g.done.items ++ c ∷ [] → IsNext n k v (view x) f
next_more n k v s g f x c (alone ts q b r d l) e h m = let y : [] ≡ x ∷ into_iter_items f.left = sym l ∙ e in cc
next_more n k v s g f x c (listed before q l d) e h m =
    let rest = into_iter_items f.left in
    let same : before ++ s ∷ map view (into_iter_items g.left) ≡ (before ++ s ∷ []) ++ view x ∷ map view rest =
    ap (λ z. before ++ s ∷ map view z) e ∙ sym (append_assoc before (s ∷ []) (view x ∷ map view rest)) in
    listed (before ++ s ∷ []) (q ∙ ap (λ z. array (trees z)) same) (subst (λ z. IsList (trees z)) same l)
    (subst (λ z. HasSignatures n (trees (before ++ s ∷ [])) z k) (ap signatures (sym (map-append signature_view g.done.items (c ∷ []))) ∙ ap signatures_view (sym m))
    (sigs_snoc n before s (map signature_view g.done.items) (signature_view c) k d h))

pub next_done : (n k : ℕ) (v s : Tree) (g : SignatureList) (news : List CoseSignature) (c : CoseSignature) → IsNext n k v s g → into_iter_items g.left ≡ []
    → HasSignature n s (signature_view c) k → news ≡ g.done.items ++ c ∷ [] → HasSigned n (Some v) (signatures_view news) k
next_done n k v s g news c (alone ts q b r d l) e h f =
    signed_one n v ts ts (signatures_view news) (signature_view c) k q b (ap signatures_view (f ∙ ap (λ z. z ++ c ∷ []) d)) (subst (λ z. HasSignature n z (signature_view c) k) r h)
next_done n k v s g news c (listed before q l d) e h f =
    let same : before ++ s ∷ map view (into_iter_items g.left) ≡ before ++ s ∷ [] = ap (λ z. before ++ s ∷ map view z) e in
    signed_all n v (trees (before ++ s ∷ [])) (signatures_view news) k (q ∙ ap (λ z. array (trees z)) same) (subst (λ z. IsList (trees z)) same l)
    (subst (λ z. HasSignatures n (trees (before ++ s ∷ [])) z k) (ap signatures (sym (map-append signature_view g.done.items (c ∷ []))) ∙ ap signatures_view (sym f))
    (sigs_snoc n before s (map signature_view g.done.items) (signature_view c) k d h))

-- ---- the headers of one signature
pub half_more : (n k : ℕ) (s : Tree) (c : List ℕ) (first : Value) (w : Tree) (i : ℕ) (h : Header) (b : Vec ℕ Global) (x : Tree) → IsHalf n k s c (half.Unprotected first) w i
    → HasHeader n w (header_view h) i → view first ≡ bytes b.items → 0 < k → b.items ≢ [] → Reads b.items n x → IsHalf n k s c (half.Protected h b) x (k - 1)
half_more n k s c first w i h b x f g q p m r =
    (w, f.0 ∙ ap (λ z. array (list_of_three z w (bytes c))) q, subst (λ z. HasHeader n w (header_view h) z) f.1 g, p, m, r, refl)

pub half_done : (n k : ℕ) (s : Tree) (c : List ℕ) (u : Header) (b : Vec ℕ Global) (w : Tree) (i : ℕ) (h : HeaderFields) → IsHalf n k s c (half.Protected u b) w i
    → HasHeader n w h i → HasSignature n s (signature (protected (Some b.items) h) (header_view u) c) k
half_done n k s c u b w i h f g = (bytes b.items, f.0, f.1, (b.items, refl, refl, f.3, inr (f.4, (w, f.5, subst (λ z. HasHeader n w h z) f.6 g))), f.2)

pub half_empty : (n k : ℕ) (s : Tree) (c : List ℕ) (first : Value) (b : List ℕ) (w : Tree) (i : ℕ) (h : HeaderFields) → IsHalf n k s c (half.Unprotected first) w i
    → HasHeader n w h i → view first ≡ bytes b → 0 < k → b ≡ [] → HasSignature n s (signature (protected (Some b) no_header) h c) k
half_empty n k s c first b w i h f g q p m =
    (bytes b, w, f.0 ∙ ap (λ z. array (list_of_three z w (bytes c))) q, (b, refl, refl, p, inl (m, refl)), subst (λ z. HasHeader n w h z) f.1 g)

-- ---- faults and steps of the whole
-- a fault of the signature that is next
pub signature_wrong : (n k : ℕ) (t v s : Tree) (a : HeaderReader) (h : Header) (g : SignatureList) (e : CoseError) → ReadingSigned n k t a h v
    → IsNext n a.top.layers v s g → OrMemory (WrongSignature n s a.top.layers) e → OrMemory (WrongHeader n t k) e
signature_wrong n k t v s a h g e r x w = within_wrong n t k a.below.items r.inner a.top.layers e r.within
    (passed_on (WrongSignature n s a.top.layers) (WrongHeader n r.inner a.top.layers) e
    (λ y. signed_wrong n r.inner a.top h v (fault_of e) r.signed (next_wrong n a.top.layers v s g (fault_of e) x y)) w)

-- a fault of the counter signatures
pub signatures_wrong : (n k : ℕ) (t v : Tree) (a : HeaderReader) (h : Header) (e : CoseError) → ReadingSigned n k t a h v → OrMemory (WrongSigned n v a.top.layers) e → OrMemory (WrongHeader n t k) e
signatures_wrong n k t v a h e r w = within_wrong n t k a.below.items r.inner a.top.layers e r.within
    (passed_on (WrongSigned n v a.top.layers) (WrongHeader n r.inner a.top.layers) e (λ y. signed_wrong n r.inner a.top h v (fault_of e) r.signed y) w)

-- the unprotected header of the next signature is inside
pub begins : (n k : ℕ) (t v s w : Tree) (a : HeaderReader) (h : Header) (g : Signing) → ReadingSigned n k t a h v → IsNext n a.top.layers v s g.list
    → IsHalf n a.top.layers s g.signature.items g.half w a.top.layers → ReadingInside n k t a h g w a.top.layers
begins n k t v s w a h g r x q = record {
  nesting = r.nesting;
  inner = r.inner;
  within = r.within;
  around = record { value = v; signature = s; signed = r.signed; next = x; half = q };
}

-- the counter signature in which the header is that is read
pub signs_of_inside : (n k : ℕ) (t w : Tree) (i : ℕ) (a : HeaderReader) (h : Header) (g : Signing) (r : ReadingInside n k t a h g w i) → ReadingSigned n k t a h r.around.value
signs_of_inside n k t w i a h g r = record { nesting = r.nesting; inner = r.inner; within = r.within; signed = r.around.signed }

-- a fault of its protected header, after the unprotected one
pub protected_wrong : (n k : ℕ) (t w : Tree) (i : ℕ) (a : HeaderReader) (u : Header) (g : Signing) (first : Value) (e : CoseError) → ReadingInside n k t a u g w i → g.half ≡ half.Unprotected first
    → OrMemory (WrongProtected n (view first) a.top.layers) e → OrMemory (WrongHeader n t k) e
protected_wrong n k t w i a u g first e r q x =
    let h = subst (λ z. IsHalf n a.top.layers r.around.signature g.signature.items z w i) q r.around.half in
    signature_wrong n k t r.around.value r.around.signature a u g.list e (signs_of_inside n k t w i a u g r) r.around.next
    (passed_on (WrongProtected n (view first) a.top.layers) (WrongSignature n r.around.signature a.top.layers) e
    (λ y. subst (λ z. WrongSignature n z a.top.layers (fault_of e)) (sym h.0) (in_protected (view first) w (bytes g.signature.items) a.top.layers (fault_of e) y)) x)

-- its protected header is read after the unprotected one
pub turns : (n k : ℕ) (t w x : Tree) (i : ℕ) (a : HeaderReader) (u : Header) (g f : Signing) (first : Value) (h : Header) (b : Vec ℕ Global) → ReadingInside n k t a u g w i → g.half ≡ half.Unprotected first
    → HasHeader n w (header_view h) i → view first ≡ bytes b.items → 0 < a.top.layers → b.items ≢ [] → Reads b.items n x
    → f.list ≡ g.list → f.signature ≡ g.signature → f.half ≡ half.Protected h b → ReadingInside n k t a u f x (a.top.layers - 1)
turns n k t w x i a u g f first h b r q y v p m d fl fs fh =
    let old = subst (λ z. IsHalf n a.top.layers r.around.signature g.signature.items z w i) q r.around.half in
    record {
      nesting = r.nesting;
      inner = r.inner;
      within = r.within;
      around = record {
        value = r.around.value;
        signature = r.around.signature;
        signed = r.around.signed;
        next = subst (λ z. IsNext n a.top.layers r.around.value r.around.signature z) (sym fl) r.around.next;
        half = subst (λ z. IsHalf n a.top.layers r.around.signature z.items f.half x (a.top.layers - 1)) (sym fs)
            (subst (λ z. IsHalf n a.top.layers r.around.signature g.signature.items z x (a.top.layers - 1)) (sym fh)
            (half_more n a.top.layers r.around.signature g.signature.items first w i h b x old y v p m d));
      };
    }

-- a signature that is put together
pub built : (b : Vec ℕ Global) (h u : Header) (c : Vec ℕ Global)
    → signature_view (roll-CoseSignature (record { protected = roll-ProtectedHeader (record { original_data = Some b; header = h }); unprotected = u; signature = c }))
    ≡ signature (protected (Some b.items) (header_view h)) (header_view u) c.items
built b h u c = signature_of (record { protected = roll-ProtectedHeader (record { original_data = Some b; header = h }); unprotected = u; signature = c })
    ∙ ap (λ z. signature z (header_view u) c.items) (protected_of (record { original_data = Some b; header = h }))

-- ---- the loop
-- no level is open: the header is whole
pub outermost : (n k : ℕ) (t u : Tree) (below : List Level) (j : ℕ) (h : HeaderFields) → Within n t k below u j → below ≡ [] → HasHeader n u h j → HasHeader n t h k
outermost n k t u below j h p e x =
    let q : Within n t k [] u j = subst (λ z. Within n t k z u j) e p in
    subst (λ z. HasHeader n z h k) q.0 (subst (λ z. HasHeader n u h z) q.1 x)

-- a level is closed: the header in it is inside the one around
pub closes : (n k : ℕ) (t u : Tree) (old : List Level) (l : Level) (a : HeaderReader) (h : Header) (j : ℕ) → a.nesting ≡ n → Within n t k old u j → old ≡ a.below.items ++ l ∷ [] → a.top ≡ l.left → h ≡ l.header
    → ReadingInside n k t a h l.signing u j
closes n k t u old l a h j m p e q f =
    let r = within_popped n t k a.below.items l u j (subst (λ z. Within n t k z u j) e p) in
    record {
      nesting = m;
      inner = r.0;
      within = subst (λ z. Within n t k a.below.items r.0 z.layers) (sym q) r.1;
      around = subst (λ z. Around n r.0 a.top z l.signing u j) (sym f) (subst (λ z. Around n r.0 z l.header l.signing u j) (sym q) r.2);
    }
