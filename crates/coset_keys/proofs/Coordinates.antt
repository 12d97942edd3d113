-- Points of keys, by their coordinates.
use Rattle.std.proofs.Common.{◌≡◌, ◌≢◌, ℕ, ◌+◌, ◌<◌, List, [], ◌∷◌, ◌++◌, length, map, take, get_or, Bool, true, false, cond, Option, Some, None, refl, sym, ap, ◌∙◌, Vec, Global, vec_len}
use Rattle.std.specs.Ordering.{is_eq}
use Rattle.std.proofs.lemmas.List.{map-append, take_more}
use Rattle.ciborium_value.specs.Tree.{Tree}
use Rattle.ciborium_value.specs.View.{view, bool_tree, view_step}
use Rattle.ciborium_value.specs.declared.value.Value.{Value}
use Rattle.ciborium_value.specs.declared.value.Value.TheVariants as code
use Rattle.ciborium_value.specs.declared.value.Value.TheVariants.{rolls-Bool}
use Rattle.ciborium_value.specs.declared.value.Value.TheOpen as open_value
use Rattle.ciborium_value.specs.declared.value.Value.TheFolds.{fold-roll-Value}
use Rattle.coset_labels.specs.Fields.{LabelFields}
use Rattle.coset_labels.specs.Orders.{label_cmp}
use Rattle.coset_labels.specs.View.{label_view}
use Rattle.coset_labels.specs.declared.label.Label.{Label}
use Rattle.coset_headers.specs.View.{entry_view}
use Rattle.coset_labels.specs.Facts.Entries.{cond_none}
use Rattle.coset_headers.proofs.Written.{split_at}
use Rattle.coset_keys.specs.Points.{first_at}

pub view_bool : (b : Bool) → view (code.Bool b) ≡ bool_tree b
view_bool b = ap view (sym (rolls-Bool b)) ∙ fold-roll-Value Tree view_step (open_value.Bool b)

pub lengths_differ : (v w : Vec ℕ Global) (a b : ℕ) → a ≡ vec_len v → b ≡ vec_len w → a ≢ b → length v.items ≢ length w.items
lengths_differ v w a b p q n e = n (p ∙ v.ok.0 ∙ e ∙ sym (q ∙ w.ok.0))

pub lengths_agree : (v w : Vec ℕ Global) (a b : ℕ) → a ≡ vec_len v → b ≡ vec_len w → a ≡ b → length v.items ≡ length w.items
lengths_agree v w a b p q e = sym (p ∙ v.ok.0) ∙ e ∙ q ∙ w.ok.0

-- ---- the first entry with a label
first_behind : (n : LabelFields) (es fs : List (LabelFields × Tree)) → first_at n es ≡ None → first_at n (es ++ fs) ≡ first_at n fs
first_behind n [] fs h = refl
first_behind n (x ∷ es) fs h = let c = cond_none (is_eq (label_cmp x.0 n)) x.1 (first_at n es) (first_at n (es ++ fs)) h in c.1 ∙ first_behind n es fs c.0

pub first_found : (n : LabelFields) (xs : List (Label × Value)) (i : ℕ) (d : Label × Value) → i < length xs → first_at n (map entry_view (take i xs)) ≡ None → is_eq (label_cmp (label_view (get_or xs i d).0) n) ≡ true
    → Some (view (get_or xs i d).1) ≡ first_at n (map entry_view xs)
first_found n xs i d h e t =
    let w = split_at xs i d h in
    sym (ap (λ z. first_at n (map entry_view z)) w.1 ∙ ap (first_at n) (map-append entry_view (take i xs) (get_or xs i d ∷ w.0))
    ∙ first_behind n (map entry_view (take i xs)) (entry_view (get_or xs i d) ∷ map entry_view w.0) e
    ∙ ap (λ b. cond b (Some (view (get_or xs i d).1)) (first_at n (map entry_view w.0))) t)

pub first_later : (n : LabelFields) (xs : List (Label × Value)) (i : ℕ) (d : Label × Value) → i < length xs → first_at n (map entry_view (take i xs)) ≡ None → is_eq (label_cmp (label_view (get_or xs i d).0) n) ≡ false
    → first_at n (map entry_view (take (i + 1) xs)) ≡ None
first_later n xs i d h e t =
    ap (λ z. first_at n (map entry_view z)) (take_more xs i d h) ∙ ap (first_at n) (map-append entry_view (take i xs) (get_or xs i d ∷ []))
    ∙ first_behind n (map entry_view (take i xs)) (entry_view (get_or xs i d) ∷ []) e
    ∙ ap (λ b. cond {A = Option Tree} b (Some (view (get_or xs i d).1)) None) t

-- the entry there is x
pub found_at : (n : LabelFields) (xs : List (Label × Value)) (i : ℕ) (d x : Label × Value) → i < length xs → first_at n (map entry_view (take i xs)) ≡ None → x ≡ get_or xs i d → is_eq (label_cmp (label_view x.0) n) ≡ true
    → Some (view x.1) ≡ first_at n (map entry_view xs)
found_at n xs i d x h e q t = ap (λ z. Some (view z.1)) q ∙ first_found n xs i d h e (sym (ap (λ z. is_eq (label_cmp (label_view z.0) n)) q) ∙ t)

pub later_at : (n : LabelFields) (xs : List (Label × Value)) (i : ℕ) (d x : Label × Value) → i < length xs → first_at n (map entry_view (take i xs)) ≡ None → x ≡ get_or xs i d → is_eq (label_cmp (label_view x.0) n) ≡ false
    → first_at n (map entry_view (take (i + 1) xs)) ≡ None
later_at n xs i d x h e q t = first_later n xs i d h e (sym (ap (λ z. is_eq (label_cmp (label_view z.0) n)) q) ∙ t)
