-- What is in the tags around an item is one too.
use Rattle.std.proofs.Common.{◌≡◌, ℕ, ◌<◌, List, [], ◌∷◌, ◌++◌, length, Bool, true, false, inl, inr, refl, sym, ap, subst, ◌∙◌, append_assoc, append-nil, arith}
use Rattle.std.proofs.lemmas.List.{append_cancel_left}
use Rattle.ciborium_ll.specs.Title.{Title, IsCut}
use Rattle.ciborium_ll.specs.declared.hdr.Header.{Header}
use Rattle.ciborium_ll.proofs.Closings.{split_heads}
use Rattle.ciborium_ll.proofs.TitleLaws.{not_cut}
use Rattle.cbor_walk.specs.Grammar.{stated, after, Item, item, Rest, of_stated, Items, no_items, item_more}
use Rattle.cose_rules.specs.Untagging.{IsWrapper, Wraps, Unwraps, bare, wrapped}
use Rattle.cose_sift.specs.Untagging.{Content}
use Rattle.cbor_walk.specs.Walking.{IsOne}
use Rattle.cbor_walk.proofs.Going.{regroup}

wrapper_after : (h : Header) → IsWrapper h → after h ≡ stated 0 1
wrapper_after h (inl e) = ap after e
wrapper_after h (inr e) = ap after e

one_rest : (inner : List ℕ) → Rest (stated 0 1) inner → Item inner
one_rest inner (of_stated _ _ _ [] (_) l (item_more _ a _ i no_items) e) = subst Item (sym (e ∙ append-nil a)) i
one_rest inner (of_stated _ _ _ (x ∷ xs) rest l is e) = absurd (omega arith)

around : (title inner : List ℕ) (h : Header) → Title title h → IsWrapper h → Item inner → Item (title ++ inner)
around title inner h t w i =
    item (title ++ inner) title inner h t (subst (λ z. Rest z inner) (sym (wrapper_after h w)) (of_stated 0 1 inner [] inner refl (subst (Items 1) (append-nil inner) (item_more 0 inner [] i no_items)) refl)) refl

inside : (b inner : List ℕ) → (w : Wraps b inner) → Item b → Item inner
inside b inner w (item _ title rest h t r e) =
    let s = split_heads title w.title rest inner h w.head t w.is_title (sym e ∙ w.whole) in
    one_rest inner (subst (λ z. Rest (stated 0 1) z) s.rests (subst (λ z. Rest z rest) (wrapper_after w.head w.is) (subst (λ (z : Header). Rest (after z) rest) s.heads r)))

one_inside : (b inner : List ℕ) → Wraps b inner → IsOne b → IsOne inner
one_inside b inner w one = record {
  is = inside b inner w one.is;
  once = λ i behind left h e.
      let f : w.title ++ i ≡ w.title ++ inner = one.once (w.title ++ i) behind left (around w.title i w.head w.is_title w.is h) (append_assoc w.title i behind ∙ ap (λ z. w.title ++ z) e ∙ sym (regroup b w.title inner left w.whole)) ∙ w.whole in
      append_cancel_left w.title i inner f;
}

pub one_within : (b inner : List ℕ) → Unwraps b inner → IsOne b → IsOne inner
one_within b inner (bare _ none) one = one
one_within b inner (wrapped _ x _ w u) one = one_within x inner u (one_inside b x w one)

pub not_empty : (b : List ℕ) → Item b → 0 < length b
not_empty [] (item _ title rest h t r e) = absurd (not_cut title rest h t (subst IsCut e tt))
not_empty (x ∷ xs) i = omega arith

-- all tags are taken off in one way
pub inner_once : (b x y : List ℕ) → Unwraps b x → Unwraps b y → x ≡ y
inner_once b x y (bare _ none) (bare _ other) = refl
inner_once b x y (bare _ none) (wrapped _ z _ w u) = absurd (none z w)
inner_once b x y (wrapped _ z _ w u) (bare _ none) = absurd (none z w)
inner_once b x y (wrapped _ z _ w u) (wrapped _ z' _ w' u') =
    let s = split_heads w.title w'.title z z' w.head w'.head w.is_title w'.is_title (sym w.whole ∙ w'.whole) in
    inner_once z x y u (subst (λ (q : List ℕ). Unwraps q y) (sym s.rests) u')

pub content_once : (untag : Bool) (b x y : List ℕ) → Content untag b x → Content untag b y → x ≡ y
content_once false b x y c d = c ∙ sym d
content_once true b x y c d = inner_once b x y c d
