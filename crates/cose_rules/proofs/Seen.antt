-- What is seen of headers.
use Rattle.std.proofs.Common.{◌≡◌, ℕ, ℤ, List, [], ◌∷◌, map, length, Bool, true, false, Option, Some, None, refl, sym, ap, ◌∙◌, arith, eqb-true}
use Rattle.std.specs.Prelude.{◌||◌, ◌&&◌, ◌==◌, min, nat_lt}
use Rattle.std.proofs.lemmas.Bool.Decides.{nat_tests}
use Rattle.std.proofs.lemmas.List.{length-map}
use Rattle.std.specs.List.{list_any, list_all}
use Rattle.std.proofs.lemmas.Bool.{true≢false}
use Rattle.std.proofs.lemmas.List.Folds.{list_all-map}
use Rattle.cose_iana.specs.Algorithms.{algorithm_number}
use Rattle.cose_iana.specs.declared.algorithm.Algorithm.{Algorithm}
use Rattle.coset_labels.specs.declared.registered.RegisteredLabelWithPrivate.TheVariants as open_name
use Rattle.cose_rules.specs.Algorithms.{scheme_for, scheme_of, scheme_with, schemes}
use Rattle.cose_rules.specs.declared.deciding.Refusal.TheVariants as refusal
use Rattle.cose_iana.specs.Headers.{header_parameters}
use Rattle.cose_iana.specs.declared.headers.HeaderParameter.{HeaderParameter}
use Rattle.ciborium_value.specs.Tree.{Tree}
use Rattle.ciborium_value.specs.declared.value.Value.{Value}
use Rattle.coset_labels.specs.Fields.{LabelFields, Named}
use Rattle.coset_labels.specs.View.{label_view, named_view}
use Rattle.coset_labels.specs.declared.label.Label.{Label}
use Rattle.coset_labels.specs.declared.registered.RegisteredLabelWithPrivate.{RegisteredLabelWithPrivate}
use Rattle.coset_headers.specs.Fields.{plain_part}
use Rattle.coset_headers.specs.View.{header_view, protected_view, entry_view, signatures_view}
use Rattle.coset_headers.specs.declared.header.CoseSignature.{CoseSignature}
use Rattle.coset_headers.specs.declared.header.Header.{Header, out-Header}
use Rattle.coset_headers.specs.declared.header.ProtectedHeader.{ProtectedHeader, out-ProtectedHeader}
use Rattle.coset_headers.proofs.Alike.{header_is, protected_is}
use Rattle.cose_rules.specs.Labels.{is_there, are_signed, is_countersigned, same_label, has_other, has_label, share_other, header_in}
use Rattle.coset_keys.specs.Fields.{KeyFields}
use Rattle.coset_keys.specs.View.{key_view}
use Rattle.coset_keys.specs.declared.key.CoseKey.{CoseKey}
use Rattle.cose_rules.specs.Keys.{fits}
use Rattle.cose_rules.specs.Rule.{is_good, refuse, by_scheme, by_keys, header_refusal, own_layer, refused_or, ruling, id_or, id_in, algorithm_in, any_fits, by_algorithm, by_layer, LayerFields, RulingFields}
use Rattle.cose_rules.specs.declared.algorithms.Scheme.{Scheme}
use Rattle.cose_rules.specs.Ruled.{algorithm_view, ruling_view}
use Rattle.cose_rules.specs.declared.deciding.Ruling.{Ruling}
use Rattle.cose_rules.specs.declared.deciding.Ruling.TheVariants as code
use denote.Bor.{Bor}

pub any_map : {A B : Type 0} (p : B → Bool) (f : A → B) (xs : List A) → list_any (λ x. p (f x)) xs ≡ list_any p (map f xs)
any_map p f [] = refl
any_map p f (x ∷ xs) = ap (λ z. p (f x) || z) (any_map p f xs)

pub other_by : (h : Header) (b : Bool) (l : LabelFields) (es : List (Label × Value)) → b ≡ list_any (λ e. same_label (label_view e.0) l) es
    → es ≡ (out-Header h).rest.items → b ≡ has_other (header_view h) l
other_by h b l es e same = e ∙ ap (λ z. list_any (λ (x : Label × Value). same_label (label_view x.0) l) z) same
    ∙ any_map (λ (x : LabelFields × Tree). same_label x.0 l) entry_view (out-Header h).rest.items
    ∙ sym (ap (λ z. has_other z l) (header_is h))

pub shared_by : (p u : Header) (b : Bool) (es : List (Label × Value)) → b ≡ list_any (λ e. has_label (header_view u) (label_view e.0)) es
    → es ≡ (out-Header p).rest.items → b ≡ share_other (header_view p) (header_view u)
shared_by p u b es e same = e ∙ ap (λ z. list_any (λ (x : Label × Value). has_label (header_view u) (label_view x.0)) z) same
    ∙ any_map (λ (x : LabelFields × Tree). has_label (header_view u) x.0) entry_view (out-Header p).rest.items
    ∙ sym (ap (λ z. share_other z (header_view u)) (header_is p))

pub crit_by : (q : Named → Bool) (h : Header) (b : Bool) (ls : List (RegisteredLabelWithPrivate HeaderParameter))
    → b ≡ list_all (λ l. q (named_view header_parameters.number l)) ls → ls ≡ (out-Header h).crit.items → b ≡ list_all q (plain_part (header_view h)).crit
crit_by q h b ls e same = e ∙ ap (λ z. list_all (λ l. q (named_view header_parameters.number l)) z) same
    ∙ sym (list_all-map q (named_view header_parameters.number) (out-Header h).crit.items)
    ∙ ap (λ z. list_all q (plain_part z).crit) (sym (header_is h))

pub inside : (p : ProtectedHeader) → header_in (protected_view p) ≡ header_view (out-ProtectedHeader p).header
inside p = ap header_in (protected_is p)

pub algorithm_is : (p : ProtectedHeader) → algorithm_view (out-Header (out-ProtectedHeader p).header).alg ≡ (plain_part (header_in (protected_view p))).alg
algorithm_is p = sym (ap (λ z. (plain_part z).alg) (inside p) ∙ ap (λ z. (plain_part z).alg) (header_is (out-ProtectedHeader p).header))

id_of : (h : Header) → (out-Header h).key_id.items ≡ (plain_part (header_view h)).key_id
id_of h = sym (ap (λ z. (plain_part z).key_id) (header_is h))

protected_id : (p : ProtectedHeader) → (out-Header (out-ProtectedHeader p).header).key_id.items ≡ (plain_part (header_in (protected_view p))).key_id
protected_id p = id_of (out-ProtectedHeader p).header ∙ sym (ap (λ z. (plain_part z).key_id) (inside p))

pub id_by : (p : ProtectedHeader) (u : Header) (r a b : List ℕ) → r ≡ id_or a b → a ≡ (out-Header (out-ProtectedHeader p).header).key_id.items → b ≡ (out-Header u).key_id.items
    → r ≡ id_or (plain_part (header_in (protected_view p))).key_id (plain_part (header_view u)).key_id
id_by p u r a b e f g = e ∙ ap (λ z. id_or z b) (f ∙ protected_id p) ∙ ap (λ z. id_or (plain_part (header_in (protected_view p))).key_id z) (g ∙ id_of u)

pub second_id : (a b : List ℕ) → (length a == 0) ≡ true → b ≡ id_or a b
second_id [] b e = refl
second_id (x ∷ xs) b e = let h : length (x ∷ xs) ≡ 0 = eqb-true (length (x ∷ xs)) 0 e in absurd (omega (arith, h))

pub own_id : (a b : List ℕ) → (length a == 0) ≡ false → a ≡ id_or a b
own_id [] b e = absurd (true≢false e)
own_id (x ∷ xs) b e = refl

pub fits_by : (s : Scheme) (id : List ℕ) (ks : List CoseKey) (b : Bool) → b ≡ list_any (λ k. fits s id (key_view k)) ks → b ≡ any_fits s id (map key_view ks)
fits_by s id ks b e = e ∙ any_map (fits s id) key_view ks

pub layered : (operation : ℤ) (ks : List KeyFields) (l : LayerFields) (id : List ℕ) (a : Option Named) (r : RulingFields)
    → r ≡ by_algorithm operation ks id a → id ≡ id_in l → a ≡ algorithm_in l → r ≡ by_layer operation ks l
layered operation ks l id a r e f g = e ∙ ap (λ z. by_algorithm operation ks z a) f ∙ ap (λ z. by_algorithm operation ks (id_in l) z) g

signed_is : (ss : List CoseSignature) → is_there ss ≡ are_signed (signatures_view ss)
signed_is [] = refl
signed_is (s ∷ ss) = refl

pub signed_by : (h : Header) (b : Bool) (ss : List CoseSignature) → b ≡ is_there ss → ss ≡ (out-Header h).counter_signatures.items → b ≡ is_countersigned (header_view h)
signed_by h b ss e same = e ∙ ap (λ z. is_there z) same ∙ signed_is (out-Header h).counter_signatures.items ∙ sym (ap is_countersigned (header_is h))

pub good_by : (v : ℤ → KeyFields → Bool) (ks : List CoseKey) (r : Ruling) (s : Scheme) (id : Bor (List ℕ)) (b : Bool)
    → b ≡ list_any (λ k. fits s id.now (key_view k) && v s.number (key_view k)) ks → r ≡ code.Ask s id → b ≡ is_good v (map key_view ks) (ruling_view r)
good_by v ks r s id b e f = e ∙ any_map (λ (k : KeyFields). fits s id.now k && v s.number k) key_view ks
    ∙ sym (ap (λ z. is_good v (map key_view ks) (ruling_view z)) f)

pub by_some : (operation : ℤ) (ks : List KeyFields) (id : List ℕ) (a : Option Named) (n : Named) (s : Scheme) (r : RulingFields)
    → a ≡ Some n → Some s ≡ scheme_for operation n → r ≡ by_keys ks id s → r ≡ by_algorithm operation ks id a
by_some operation ks id a n s r e f g = g ∙ ap (λ z. by_scheme ks id z) f ∙ sym (ap (λ z. by_algorithm operation ks id z) e)

pub by_none : (operation : ℤ) (ks : List KeyFields) (id : List ℕ) (a : Option Named) (n : Named)
    → a ≡ Some n → None ≡ scheme_for operation n → refuse refusal.UnknownAlgorithm ≡ by_algorithm operation ks id a
by_none operation ks id a n e f = ap (λ z. by_scheme ks id z) f ∙ sym (ap (λ z. by_algorithm operation ks id z) e)

pub ruled : (operation : ℤ) (ks : List KeyFields) (m : LayerFields) (s : Option LayerFields) (l : LayerFields) (r : RulingFields)
    → None ≡ header_refusal m s → l ≡ own_layer m s → r ≡ by_layer operation ks l → r ≡ ruling operation ks m s
ruled operation ks m s l r e f g = g ∙ ap (λ z. by_layer operation ks z) f ∙ ap (λ z. refused_or z (by_layer operation ks (own_layer m s))) e

pub of_assigned : (a : RegisteredLabelWithPrivate Algorithm) (x : Algorithm) (i : ℤ) (r : Option Scheme) → a ≡ open_name.Assigned x → i ≡ algorithm_number x
    → r ≡ scheme_with schemes i → r ≡ scheme_of (named_view algorithm_number a)
of_assigned a x i r e n f = f ∙ ap (λ z. scheme_with schemes z) n ∙ sym (ap (λ z. scheme_of (named_view algorithm_number z)) e)

pub counted_by : (h : Header) (n : ℕ) (es : List (Label × Value)) → n ≡ length es → es ≡ (out-Header h).rest.items → n ≡ length (plain_part (header_view h)).rest
counted_by h n es e same = e ∙ ap (λ z. length z) same ∙ sym (length-map (out-Header h).rest.items entry_view)
    ∙ sym (ap (λ z. length (plain_part z).rest) (header_is h))

pub many_by : (n m : ℕ) (b : Bool) → m ≡ min n 18446744073709551615 → b ≡ nat_lt 4096 m → b ≡ nat_lt 4096 n
many_by n m b e f = grind (arith, nat_tests)
