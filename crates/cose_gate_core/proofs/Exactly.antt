-- A message's item is what is written for it exactly when it is spelled as its value is, and its
-- value is the one that is written.
use Rattle.std.proofs.Common.{◌≡◌, ◌≢◌, ◌^◌, ◌<◌, ℕ, List, Bool, true, false, Option, Some, None, Ok, Err, option_map, refl, sym, ap, subst, ◌∙◌, arith}
use Rattle.std.specs.Prelude.{MatchBool, MatchOption, OnOk, Result}
use Rattle.ciborium_value.specs.Tree.{Tree, tag}
use Rattle.ciborium_value.specs.Encoding.{enc, Fits}
use Rattle.ciborium.specs.Front.{Reads}
use Rattle.coset_headers.proofs.Sound.{reads_sound, sound_reads}
use Rattle.coset_headers.proofs.Unique.{readable_once}
use Rattle.coset_labels.specs.Limits.{nesting_of}
use Rattle.coset_labels.specs.declared.error.CoseError.{CoseError}
use Rattle.cose_gate_core.specs.Questions.{MessageFields, sign1, mac0, sign, mac, number_of, kind_of, tag_of, message_tree, message_text, or_nothing}
use Rattle.cose_gate_core.specs.Findings.{Bounds, HasMessage, Finds, judged}
use Rattle.cose_gate_core.specs.Misshapen.{IsReadAs}
use Rattle.cose_gate_core.specs.Passing.{IsRefused, IsTold}
use Rattle.cose_gate_core.specs.Terms.{limits_of, IsTaken}
use Rattle.cose_gate_core.specs.declared.about.MessageKind.{MessageKind}
use Rattle.cose_gate_core.specs.declared.report.Refusal.{Refusal}
use Rattle.cose_gate_core.specs.declared.terms.Terms.{Terms}
use Rattle.cose_gate_core.proofs.MessageKept.{tag_rewrite}
use Rattle.cose_gate_core.proofs.Rewritten.{message_again}
use Rattle.cose_gate_core.proofs.Written.{has_tree}

-- the encoding of a message that is written as this tree
text_is : (m : MessageFields) (v : Tree) → message_tree m ≡ Some v → message_text m ≡ enc (tag (tag_of m) v)
text_is m v e = ap (λ o. or_nothing (option_map enc (option_map (λ t. tag (tag_of m) t) o))) e

tag_small : (m : MessageFields) → tag_of m < 2 ^ 64
tag_small (sign1 m) = omega arith
tag_small (mac0 m) = omega arith
tag_small (sign m) = omega arith
tag_small (mac m) = omega arith

tree_there : (o : Option Tree) → (o ≡ None → ⊥) → (v : Tree) × (o ≡ Some v)
tree_there None n = absurd (n refl)
tree_there (Some v) n = (v, refl)

same_body : (n : ℕ) (u v : Tree) → tag n u ≡ tag n v → u ≡ v
same_body n u v e = cc

-- an item that is the encoding of its message is spelled as its value is, and has the value that is
-- written
module _ (l : Bounds) (n : ℕ) (b : List ℕ) (u : Tree) (m : MessageFields) (has : HasMessage l u m) (reads : Reads b n (tag (tag_of m) u)) (fits : Fits u) where
  exact_text : b ≡ message_text m → (b ≡ enc (tag (tag_of m) u)) × (message_tree m ≡ Some u)
  exact_text e =
      let v = tree_there (message_tree m) (has_tree l u m has) in
      let t = tag (tag_of m) u in
      let w = tag (tag_of m) v.0 in
      let a = message_again l m u v.0 has v.1 in
      let r = tag_rewrite (λ q. HasMessage l q m) (tag_of m) u v.0 a in
      let there : Reads (enc w) n w = sound_reads n w (r.kept.fits (tag_small m, fits)) (r.sound n (reads_sound b n t reads)) in
      let is : b ≡ enc w = e ∙ text_is m v.0 v.1 in
      let again : Reads b n w = subst (λ (z : List ℕ). Reads z n w) (sym is) there in
      let one : t ≡ w = readable_once n b t w reads again in
      let body : u ≡ v.0 = same_body (tag_of m) u v.0 one in
      (is ∙ ap enc (sym one), v.1 ∙ ap Some (sym body))

-- what a gate tells of a message
module _ (l : Bounds) (n : ℕ) (b : List ℕ) (u : Tree) (m : MessageFields) where
  abbrev pub Told : Bool → Bool → Bool → Type 0
  Told strict exact through = MatchBool through (strict ≡ true → (exact ≡ true) × (message_tree m ≡ Some u))
      ((strict ≡ true) × Fits u × (exact ≡ true → message_tree m ≡ Some u → ⊥))

  abbrev Exact : Bool → Type 0
  Exact exact = MatchBool exact (b ≡ enc (tag (tag_of m) u)) (b ≡ enc (tag (tag_of m) u) → ⊥)

  not_text : (exact : Bool) → HasMessage l u m → Reads b n (tag (tag_of m) u) → Fits u → Exact exact → (exact ≡ true → message_tree m ≡ Some u → ⊥) → b ≡ message_text m → ⊥
  not_text true has reads fits x differs e = differs refl (exact_text l n b u m has reads fits e).1
  not_text false has reads fits x differs e = x (exact_text l n b u m has reads fits e).0

  pub told_of : (strict exact through : Bool) → HasMessage l u m → Reads b n (tag (tag_of m) u) → (strict ≡ true → Exact exact) → Told strict exact through
      → MatchBool through (strict ≡ true → b ≡ message_text m) ((strict ≡ true) × (b ≢ message_text m))
  told_of false exact true has reads x t = λ s. (let h : false ≡ true = s in cc)
  told_of false exact false has reads x (q, f, differs) = let h : false ≡ true = q in cc
  told_of true true true has reads x t = λ s. x refl ∙ sym (text_is m u (t refl).1)
  told_of true false true has reads x t = let h : false ≡ true = (t refl).0 in cc
  told_of true exact false has reads x (q, f, differs) = (q, not_text exact has reads f (x refl) differs)

-- so of one that was read under the tag of a kind, if it could be read
pub told_if : (terms : Terms) (m : MessageFields) (k : MessageKind) (u : Tree) (b : List ℕ) (exact through : Bool) (r : Result (Unit {0}) CoseError) → IsReadAs (limits_of terms) k m u r → IsTaken terms b (tag (number_of k) u) exact
    → (HasMessage (limits_of terms) u m → Told (limits_of terms) (nesting_of terms.limits) b u m terms.strict exact through) → OnOk r (IsTold (limits_of terms) b m through)
told_if terms m k u b exact through (Ok x) (e, has) taken told =
    let h : IsTaken terms b (tag (tag_of m) u) exact = subst (λ (j : MessageKind). IsTaken terms b (tag (number_of j) u) exact) (sym e) taken in
    told_of (limits_of terms) (nesting_of terms.limits) b u m terms.strict exact through has h.0 h.1 (told has)
told_if terms m k u b exact through (Err f) wrong taken told = tt

-- a gate that isn't strict may pass each
pub told_lax : (l : Bounds) (b : List ℕ) (m : MessageFields) (r : Result (Unit {0}) CoseError) → l.strict ≡ false → OnOk r (IsTold l b m true)
told_lax l b m (Ok x) plain = λ s. (let no : false ≡ true = sym plain ∙ s in cc)
told_lax l b m (Err f) plain = tt

-- why a message of a kind is refused that was read under the kind's tag, or that it is judged
pub found_as : (l : Bounds) (m : MessageFields) (k : MessageKind) (u : Tree) (b : List ℕ) (r : Option Refusal) → kind_of m ≡ k
    → MatchOption r (Finds l b (tag (tag_of m) u) (judged m)) (IsRefused l b (tag (tag_of m) u))
    → MatchOption r (Finds l b (tag (number_of k) u) (judged m)) (IsRefused l b (tag (number_of k) u))
found_as l m k u b r e bar = subst (λ (j : MessageKind). MatchOption r (Finds l b (tag (number_of j) u) (judged m)) (IsRefused l b (tag (number_of j) u))) e bar
