-- What one step of the reader shows, over plain variables.
use Rattle.std.proofs.Common.{◌≡◌, ◌≢◌, ℕ, ◌<◌, inl, inr, List, [], ◌∷◌, ◌++◌, length, get_or, take, drop, map, false, Option, Some, None, option_map, refl, sym, ap, subst, ◌∙◌, arith}
use Rattle.std.specs.Prelude.{MatchOption}
use Rattle.std.proofs.lemmas.List.{map-append, map-id, append-nil, length-map, take-append-drop}
use Rattle.ciborium_value.specs.Tree.{Tree, array, Trees, no_trees, one_more, tree_count}
use Rattle.ciborium_value.specs.View.{trees, view, views}
use Rattle.ciborium_value.specs.declared.value.Value.{Value}
use Rattle.coset_labels.proofs.Loops.{turned}
use Rattle.coset_labels.specs.Facts.Walks.{passed_on}
use Rattle.coset_labels.specs.Faults.{CoseFault, OrMemory, fault_of, unexpected}
use Rattle.ciborium_value.specs.Kinds.{is_array}
use Rattle.coset_labels.specs.Walks.{WrongItems}
use Rattle.coset_labels.specs.declared.error.CoseError.{CoseError}
use Rattle.coset_headers.specs.Weight.{weight}
use Rattle.coset_headers.proofs.Weights.{weight_among}
use Rattle.coset_recipients.specs.Fields.{RecipientFields, recipient, recipients, RecipientsFields}
use Rattle.coset_recipients.specs.Shapes.{optional_list, HasRecipient, HasRecipients, HasInner, HasList}
use Rattle.coset_recipients.specs.View.{recipient_view, recipients_view}
use Rattle.coset_recipients.specs.Walks.{Pushes, HasThree, WrongThree}
use Rattle.coset_recipients.specs.Wrong.{WrongRecipient, no_array, not_three_or_four, in_parts, in_fourth, WrongList, no_list, in_list}
use Rattle.coset_recipients.specs.declared.recipient.CoseRecipient.{CoseRecipient}

-- ---- a recipient
pub recipient_kind : (n : ℕ) (t : Tree) (k : ℕ) (e : CoseError) → (fault_of e ≡ unexpected) × (is_array t ≡ false) → OrMemory (WrongRecipient n t k) e
recipient_kind n t k e p = inr (subst (WrongRecipient n t k) (sym p.0) (no_array t k p.1))

-- three elements, and maybe a fourth after them; or a list of another length
abbrev Split : List Tree → Option Tree → Type 0
Split xs None = length xs ≢ 4
Split xs (Some t) = length xs ≡ 3

no_length : (n : ℕ) (ts : Trees) (k : ℕ) (e : CoseFault) → e ≡ unexpected → tree_count ts ≢ 3 → tree_count ts ≢ 4 → WrongRecipient n (array ts) k e
no_length n ts k e q a b = subst (WrongRecipient n (array ts) k) (sym q) (not_three_or_four ts k a b)

split_wrong : (n : ℕ) (xs : List Tree) (o : Option Tree) (k : ℕ) (e : CoseFault) → Split xs o → WrongThree n xs k e → WrongRecipient n (array (trees (xs ++ optional_list o))) k e
split_wrong n [] None k e h w = no_length n _ k e w (λ q. omega (arith, q)) (λ q. omega (arith, q))
split_wrong n (x ∷ []) None k e h w = no_length n _ k e w (λ q. omega (arith, q)) (λ q. omega (arith, q))
split_wrong n (x ∷ y ∷ []) None k e h w = no_length n _ k e w (λ q. omega (arith, q)) (λ q. omega (arith, q))
split_wrong n (x ∷ y ∷ z ∷ []) o k e h w = in_parts x y z o k e w
split_wrong n (x ∷ y ∷ z ∷ u ∷ []) None k e h w = absurd (h refl)
split_wrong n (x ∷ y ∷ z ∷ u ∷ v ∷ vs) None k e h w = no_length n _ k e w (λ q. omega (arith, q)) (λ q. omega (arith, q))
split_wrong n xs (Some t) k e h w = absurd (omega (arith, h))

split_has : (n : ℕ) (xs : List Tree) (o : Option Tree) (inner : RecipientsFields) (r : RecipientFields) (k : ℕ) → HasThree n xs inner r k → HasInner n o inner k → HasRecipient n (array (trees (xs ++ optional_list o))) r k
split_has n (x ∷ y ∷ z ∷ []) o inner (recipient p u c rs) k h i = (x, y, z, o, refl, h.0, subst (λ s. HasInner n o s k) (sym h.1) i)
split_has n xs o inner r k h i = absurd h

-- the items of an array, what is left of them after the fourth was taken, and the fourth
abbrev LeftOf : List Value → List Value → Option Value → Type 0
LeftOf old new o = MatchOption o ((new ≡ old) × (length old ≢ 4)) (λ v. (old ≡ new ++ v ∷ []) × (length new ≡ 3))

left_is : (old new : List Value) (o : Option Value) → LeftOf old new o → (map view new ++ optional_list (option_map view o) ≡ map view old) × Split (map view new) (option_map view o)
left_is old new None h = (append-nil (map view new) ∙ ap (map view) h.0, λ e. h.1 (sym (ap length h.0) ∙ sym (length-map new view) ∙ e))
left_is old new (Some v) h = (sym (map-append view new (v ∷ [])) ∙ ap (map view) (sym h.0), length-map new view ∙ h.1)

pub recipient_wrong : (n : ℕ) (t : Tree) (old new : List Value) (o : Option Value) (k : ℕ) (e : CoseError) → t ≡ array (views old) → LeftOf old new o → OrMemory (WrongThree n (map view new) k) e → OrMemory (WrongRecipient n t k) e
recipient_wrong n t old new o k e q h w =
    let l = left_is old new o h in
    passed_on (WrongThree n (map view new) k) (WrongRecipient n t k) e
    (λ v. subst (λ s. WrongRecipient n s k (fault_of e)) (ap (λ z. array (trees z)) l.0 ∙ sym q) (split_wrong n (map view new) (option_map view o) k (fault_of e) l.1 v)) w

pub recipient_pushed : (n : ℕ) (t : Tree) (old new : List Value) (o : Option Value) (inner : RecipientsFields) (xs ys : List CoseRecipient) (k : ℕ) → t ≡ array (views old) → LeftOf old new o
    → HasInner n (option_map view o) inner k → Pushes (λ r. HasThree n (map view new) inner r k) xs ys → Pushes (λ r. HasRecipient n t r k) xs ys
recipient_pushed n t old new o inner xs ys k q h i (r, e, w) =
    let l = left_is old new o h in
    (r, e, subst (λ s. HasRecipient n s (recipient_view r) k) (ap (λ z. array (trees z)) l.0 ∙ sym q) (split_has n (map view new) (option_map view o) inner (recipient_view r) k w i))

-- ---- its fourth element
pub inner_has : (n : ℕ) (t : Tree) (rs : RecipientsFields) (k : ℕ) → HasList n t rs k → HasInner n (Some t) rs k
inner_has n t rs k h = inr (h.0, ap Some h.1, h.2)

pub inner_none : (n : ℕ) (rs : List CoseRecipient) (k : ℕ) → rs ≡ [] → HasInner n None (recipients_view rs) k
inner_none n rs k e = inl (refl, ap recipients_view e)

three_first : (n : ℕ) (xs : List Tree) (t : Tree) (k : ℕ) (e : CoseFault) → length xs ≡ 3 → WrongList n t k e → WrongRecipient n (array (trees (xs ++ t ∷ []))) k e
three_first n (x ∷ y ∷ z ∷ []) t k e h w = in_fourth x y z t k e w
three_first n xs t k e h w = absurd (omega (arith, h))

pub recipient_inner : (n : ℕ) (t : Tree) (old new : List Value) (v : Value) (k : ℕ) (e : CoseError) → t ≡ array (views old) → (old ≡ new ++ v ∷ []) × (length new ≡ 3) → OrMemory (WrongList n (view v) k) e → OrMemory (WrongRecipient n t k) e
recipient_inner n t old new v k e q h w =
    let l = left_is old new (Some v) h in
    passed_on (WrongList n (view v) k) (WrongRecipient n t k) e
    (λ x. subst (λ s. WrongRecipient n s k (fault_of e)) (ap (λ z. array (trees z)) l.0 ∙ sym q) (three_first n (map view new) (view v) k (fault_of e) l.1 x)) w

-- ---- its other elements
not_three : (n : ℕ) (xs : List Tree) (k : ℕ) → length xs ≢ 3 → WrongThree n xs k unexpected
not_three n [] k h = refl
not_three n (x ∷ []) k h = refl
not_three n (x ∷ y ∷ []) k h = refl
not_three n (x ∷ y ∷ z ∷ []) k h = absurd (h refl)
not_three n (x ∷ y ∷ z ∷ u ∷ us) k h = refl

pub three_count : (n : ℕ) (xs : List Value) (k : ℕ) → length xs ≢ 3 → WrongThree n (map view xs) k unexpected
three_count n xs k h = not_three n (map view xs) k (λ e. h (sym (length-map xs view) ∙ e))

-- ---- a list
-- the item of a turn comes after those of the turns before it
pub turned_at : (all xs : List Value) (x : Value) → map (λ y. y) xs ≡ take (length xs) all → (length xs < length all) × (x ≡ get_or all (length xs) x) → (ys : List Value) × (all ≡ xs ++ x ∷ ys)
turned_at all xs x e h = turned all xs x (drop (length xs) all, sym (take-append-drop (length xs) all) ∙ ap (λ z. z ++ drop (length xs) all) (sym e ∙ map-id xs)) h

pub list_kind : (n : ℕ) (t : Tree) (k : ℕ) (e : CoseError) → (fault_of e ≡ unexpected) × (is_array t ≡ false) → OrMemory (WrongList n t k) e
list_kind n t k e p = inr (subst (WrongList n t k) (sym p.0) (no_list t k p.1))

pub list_inside : (n : ℕ) (t : Tree) (ts : Trees) (k : ℕ) (e : CoseError) → t ≡ array ts → OrMemory (WrongItems (λ u. WrongRecipient n u k) ts) e → OrMemory (WrongList n t k) e
list_inside n t ts k e q w = passed_on (WrongItems (λ u. WrongRecipient n u k) ts) (WrongList n t k) e
    (λ x. subst (λ z. WrongList n z k (fault_of e)) (ap array (sym x.are) ∙ sym q) (in_list x.before x.after x.tree k (fault_of e) x.wrong)) w

snoc : (n : ℕ) (ts : List Tree) (t : Tree) (rs : List RecipientFields) (r : RecipientFields) (k : ℕ) → HasRecipients n (trees ts) (recipients rs) k → HasRecipient n t r k → HasRecipients n (trees (ts ++ t ∷ [])) (recipients (rs ++ r ∷ [])) k
snoc n [] t [] r k a b = (t, no_trees, refl, b, refl)
snoc n [] t (u ∷ us) r k a b = let e : no_trees ≡ one_more a.0 a.1 = a.2 in cc
snoc n (x ∷ xs) t [] r k a b = let e : one_more x (trees xs) ≡ no_trees = a in cc
snoc n (x ∷ xs) t (u ∷ us) r k a b =
    let e : one_more x (trees xs) ≡ one_more a.0 a.1 = a.2 in
    let e0 : a.0 ≡ x = cc in
    let e1 : a.1 ≡ trees xs = cc in
    (x, trees (xs ++ t ∷ []), refl, subst (λ z. HasRecipient n z u k) e0 a.3, snoc n xs t us r k (subst (λ z. HasRecipients n z (recipients us) k) e1 a.4) b)

pub recipients_pushed : (n : ℕ) (xs : List Value) (x : Value) (rs us : List CoseRecipient) (r : CoseRecipient) (k : ℕ) → us ≡ rs ++ r ∷ [] → HasRecipients n (views xs) (recipients_view rs) k → HasRecipient n (view x) (recipient_view r) k
    → HasRecipients n (views (xs ++ x ∷ [])) (recipients_view us) k
recipients_pushed n xs x rs us r k e a b =
    subst (λ z. HasRecipients n z (recipients_view us) k) (ap trees (sym (map-append view xs (x ∷ []))))
    (subst (λ z. HasRecipients n (trees (map view xs ++ view x ∷ [])) z k) (ap recipients (sym (map-append recipient_view rs (r ∷ []))) ∙ ap recipients_view (sym e))
    (snoc n (map view xs) (view x) (map recipient_view rs) (recipient_view r) k a b))

-- ---- measures
pub fourth_lighter : (t : Tree) (old new : List Value) (v : Value) → t ≡ array (views old) → old ≡ new ++ v ∷ [] → weight (view v) < weight t
fourth_lighter t old new v q e = let h = ap weight (q ∙ ap (λ z. array (views z)) e) in let g = weight_among new [] v in omega (arith, h, g)

pub item_lighter : (t : Tree) (all xs ys : List Value) (x : Value) → t ≡ array (views all) → all ≡ xs ++ x ∷ ys → weight (view x) < weight t
item_lighter t all xs ys x q e = let h = ap weight (q ∙ ap (λ z. array (views z)) e) in let g = weight_among xs ys x in omega (arith, h, g)
