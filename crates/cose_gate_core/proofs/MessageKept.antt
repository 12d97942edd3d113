-- What is written of a message that was read has its fields again, nests no deeper, fits heads, and
-- is no longer than the value.
use Rattle.std.proofs.Common.{◌≡◌, ℕ, ◌-◌, ◌≤◌, suc, inl, inr, List, [], ◌∷◌, ◌++◌, Bool, true, false, cond, Option, Some, None, option_map, option_and_then, refl, sym, ap, subst, ◌∙◌, arith, length-append}
use Rattle.std.specs.Prelude.{nat_eq, ◌||◌, ◌&&◌}
use Rattle.ciborium_ll.specs.Title.{shortest}
use Rattle.ciborium_value.specs.Tree.{Tree, bytes, array, tag, Trees, no_trees, one_more, depth}
use Rattle.ciborium_value.specs.View.{trees}
use Rattle.ciborium_value.specs.Folding.{tagged}
use Rattle.ciborium_value.specs.Encoding.{enc, enc_all}
use Rattle.coset_labels.specs.Arrays.{all_written, array_of}
use Rattle.coset_headers.specs.Fields.{HeaderFields, ProtectedFields, SignatureFields, signatures}
use Rattle.coset_headers.specs.Headers.{HasProtected, HasSignatures}
use Rattle.coset_headers.specs.Written.{header_tree, shown, signature_tree}
use Rattle.coset_headers.proofs.Again.{prot_again, hdr_again, sig_again}
use Rattle.coset_headers.proofs.Sound.{Sound, SoundAll, array_inside, array_sound, all_none, all_more, all_parts, hdr_sound, sig_sound, folds_all}
use Rattle.coset_maced.specs.PartShapes.{parts, HasParts, HoldOf, HasWhole}
use Rattle.coset_maced.specs.PartsWritten.{optional_tree, parts_trees, whole_tree}
use Rattle.coset_maced.specs.RecipientFields.{RecipientFields, recipient, RecipientsFields, no_recipients, recipient_more}
use Rattle.coset_maced.specs.RecipientShapes.{three_or_four, HasRecipient, HasRecipients, HasInner, HasList}
use Rattle.coset_maced.specs.RecipientWritten.{whole, recipient_tree, recipients_trees, list_tree}
use Rattle.coset_signed.specs.Fields.{Sign1Fields, SignFields}
use Rattle.coset_signed.specs.Shapes.{IsSignatureList, HasSign1, HasSign}
use Rattle.coset_signed.specs.Written.{sign1_tree, sign_tree}
use Rattle.coset_maced.specs.Fields.{Mac0Fields, MacFields}
use Rattle.coset_maced.specs.Shapes.{HasMac0, HasMac}
use Rattle.coset_maced.specs.Written.{mac0_tree, mac_tree}
use Rattle.cose_gate_core.proofs.Widths.{width, width_is, wider}
use Rattle.cose_gate_core.proofs.HeaderKept.{Kept, KeptAll, same_kept, none_kept, more_kept, array_kept, hdr_kept, sig_kept}

-- v, which is written for t: kept, and as it would be read, no deeper than t
pub record Rewrite (t v : Tree) : Type 0 where
  pub kept : Kept t v
  pub sound : (d : ℕ) → Sound d t → Sound d v

pub record RewriteAll (ts vs : Trees) : Type 0 where
  pub kept : KeptAll ts vs
  pub sound : (d : ℕ) → SoundAll d ts → SoundAll d vs

same_rewrite : (t : Tree) → Rewrite t t
same_rewrite t = record { kept = same_kept t; sound = λ d s. s }

none_rewrite : RewriteAll no_trees no_trees
none_rewrite = record { kept = none_kept; sound = λ d s. s }

more_rewrite : (t v : Tree) (ts vs : Trees) → Rewrite t v → RewriteAll ts vs → RewriteAll (one_more t ts) (one_more v vs)
more_rewrite t v ts vs a b = record {
  kept = more_kept t v ts vs a.kept b.kept;
  sound = λ d s. let p = all_parts d t ts s in all_more d v vs (a.sound d p.0) (b.sound d p.1);
}

array_rewrite : (ts vs : Trees) → RewriteAll ts vs → Rewrite (array ts) (array vs)
array_rewrite ts vs a = record {
  kept = array_kept ts vs a.kept;
  sound = λ d s. let p = array_inside d ts s in array_sound d vs p.0 (a.sound (d - 1) p.1);
}

-- ---- options
map_made : {A B : Type 0} (f : A → B) (o : Option A) (y : B) → option_map f o ≡ Some y → (x : A) × (o ≡ Some x) × (f x ≡ y)
map_made f None y e = let h : None ≡ Some y = e in cc
map_made f (Some x) y e = let h : Some (f x) ≡ Some y = e in let q : f x ≡ y = cc in (x, refl, q)

and_made : {A B : Type 0} (f : A → Option B) (o : Option A) (y : B) → option_and_then f o ≡ Some y → (x : A) × (o ≡ Some x) × (f x ≡ Some y)
and_made f None y e = let h : None ≡ Some y = e in cc
and_made f (Some x) y e = (x, refl, e)

-- ---- the parts
record PartsAgain (n : ℕ) (x y z : Tree) (p : ProtectedFields) (u : HeaderFields) (c : Option (List ℕ)) (ts : List Tree) (k : ℕ) : Type 0 where
  first : Tree
  second : Tree
  is : first ∷ second ∷ optional_tree c ∷ [] ≡ ts
  parts : HasParts n first second (optional_tree c) (parts p u c) k
  one : Rewrite x first
  two : Rewrite y second
  three : Rewrite z (optional_tree c)

parts_again : (n : ℕ) (x y z : Tree) (p : ProtectedFields) (u : HeaderFields) (c : Option (List ℕ)) (ts : List Tree) (k : ℕ) → HasParts n x y z (parts p u c) k → parts_trees (parts p u c) ≡ Some ts → PartsAgain n x y z p u c ts k
parts_again n x y z p u c ts k h e =
    let b = and_made (λ b. option_map (λ t. bytes b ∷ t ∷ optional_tree c ∷ []) (header_tree u)) (shown p) ts e in
    let t = map_made (λ t. bytes b.0 ∷ t ∷ optional_tree c ∷ []) (header_tree u) ts b.2 in
    let same : x ≡ bytes b.0 = prot_again n p x k b.0 h.protected b.1 in
    record {
      first = bytes b.0;
      second = t.0;
      is = t.2;
      parts = record {
        protected = subst (λ w. HasProtected n w p k) same h.protected;
        unprotected = hdr_again n u y t.0 k h.unprotected t.1;
        content = refl;
      };
      one = subst (λ z. Rewrite x z) same (same_rewrite x);
      two = record { kept = hdr_kept n u y t.0 k h.unprotected t.1; sound = λ d s. hdr_sound n u y t.0 k d h.unprotected t.1 s };
      three = subst (λ w. Rewrite z w) h.content (same_rewrite z);
    }

three_rewrite : (x y z a b c : Tree) (ts vs : Trees) → Rewrite x a → Rewrite y b → Rewrite z c → RewriteAll ts vs → RewriteAll (one_more x (one_more y (one_more z ts))) (one_more a (one_more b (one_more c vs)))
three_rewrite x y z a b c ts vs p q r s = more_rewrite x a _ _ p (more_rewrite y b _ _ q (more_rewrite z c ts vs r s))

-- ---- recipients
record RecipientAgain (n : ℕ) (t v : Tree) (r : RecipientFields) (k : ℕ) : Type 0 where
  has : HasRecipient n v r k
  rewrite : Rewrite t v

record RecipientsAgain (n : ℕ) (ts vs : Trees) (rs : RecipientsFields) (k : ℕ) : Type 0 where
  has : HasRecipients n vs rs k
  rewrite : RewriteAll ts vs

-- a list that has no item any more is left away
left_away : (x y z a b c : Tree) (ts : Trees) → Rewrite x a → Rewrite y b → Rewrite z c → Rewrite (array (one_more x (one_more y (one_more z (one_more (array ts) no_trees))))) (array (one_more a (one_more b (one_more c no_trees))))
left_away x y z a b c ts p q r =
    let all = three_rewrite x y z a b c no_trees no_trees p q r none_rewrite in
    let long = one_more x (one_more y (one_more z (one_more (array ts) no_trees))) in
    let new = one_more a (one_more b (one_more c no_trees)) in
    let w : width 3 ≤ width 4 = wider 3 4 (omega arith) in
    let w3 = width_is 4 3 in let w4 = width_is 4 4 in
    let k = all.kept.size in
    let lx = length-append (enc x) (enc_all (one_more y (one_more z (one_more (array ts) no_trees)))) in
    let ly = length-append (enc y) (enc_all (one_more z (one_more (array ts) no_trees))) in
    let lz = length-append (enc z) (enc_all (one_more (array ts) no_trees)) in
    let mx = length-append (enc x) (enc_all (one_more y (one_more z no_trees))) in
    let my = length-append (enc y) (enc_all (one_more z no_trees)) in
    let mz = length-append (enc z) [] in
    record {
      kept = record {
        fits = λ f. (omega arith, all.kept.fits (f.1.0, (f.1.1.0, (f.1.1.1.0, tt))));
        size = omega (arith, w, w3, w4, k, lx, ly, lz, mx, my, mz, length-append (shortest 4 4) (enc_all long), length-append (shortest 4 3) (enc_all new));
      };
      sound = λ d s.
          let i = array_inside d long s in
          let i1 = all_parts (d - 1) x (one_more y (one_more z (one_more (array ts) no_trees))) i.1 in
          let i2 = all_parts (d - 1) y (one_more z (one_more (array ts) no_trees)) i1.1 in
          let i3 = all_parts (d - 1) z (one_more (array ts) no_trees) i2.1 in
          array_sound d new i.0 (all.sound (d - 1) (all_more (d - 1) x (one_more y (one_more z no_trees)) i1.0 (all_more (d - 1) y (one_more z no_trees) i2.0 (all_more (d - 1) z no_trees i3.0 (all_none (d - 1))))));
    }

no_more : (n : ℕ) (rs : RecipientsFields) (k : ℕ) → HasRecipients n no_trees rs k → rs ≡ no_recipients
no_more n no_recipients k h = refl
no_more n (recipient_more r rs) k h = let e : no_trees ≡ one_more h.0 h.1 = h.2 in cc

module _ (n : ℕ) (x y z : Tree) (p : ProtectedFields) (u : HeaderFields) (c : Option (List ℕ)) (rs : RecipientsFields) (ps : List Tree) (k : ℕ) (a : PartsAgain n x y z p u c ps k) where
  -- without inner recipients
  three_again : (t v : Tree) → t ≡ array (three_or_four x y z None) → rs ≡ no_recipients → whole ps no_trees ≡ v → RecipientAgain n t v (recipient p u c rs) k
  three_again t v e r w =
      let is : v ≡ array (three_or_four a.first a.second (optional_tree c) None) = sym w ∙ ap (λ q. whole q no_trees) (sym a.is) in
      record {
        has = (a.first, a.second, optional_tree c, None, is, a.parts, inl (refl, r));
        rewrite = subst (λ q. Rewrite q v) (sym e) (subst (λ q. Rewrite (array (three_or_four x y z None)) q) (sym is)
            (array_rewrite (three_or_four x y z None) (three_or_four a.first a.second (optional_tree c) None) (three_rewrite x y z a.first a.second (optional_tree c) no_trees no_trees a.one a.two a.three none_rewrite)));
      }

  -- with a list of them
  four_again : (t v : Tree) (ts vs : Trees) → t ≡ array (three_or_four x y z (Some (array ts))) → RecipientsAgain n ts vs rs k → whole ps vs ≡ v → RecipientAgain n t v (recipient p u c rs) k
  four_again t v ts no_trees e r w =
      let is : v ≡ array (three_or_four a.first a.second (optional_tree c) None) = sym w ∙ ap (λ q. whole q no_trees) (sym a.is) in
      record {
        has = (a.first, a.second, optional_tree c, None, is, a.parts, inl (refl, no_more n rs k r.has));
        rewrite = subst (λ q. Rewrite q v) (sym e) (subst (λ q. Rewrite (array (three_or_four x y z (Some (array ts)))) q) (sym is)
            (left_away x y z a.first a.second (optional_tree c) ts a.one a.two a.three));
      }
  four_again t v ts (one_more s ss) e r w =
      let vs = one_more s ss in
      let is : v ≡ array (three_or_four a.first a.second (optional_tree c) (Some (array vs))) = sym w ∙ ap (λ q. whole q vs) (sym a.is) in
      record {
        has = (a.first, a.second, optional_tree c, Some (array vs), is, a.parts, inr (vs, refl, r.has));
        rewrite = subst (λ q. Rewrite q v) (sym e) (subst (λ q. Rewrite (array (three_or_four x y z (Some (array ts)))) q) (sym is)
            (array_rewrite (three_or_four x y z (Some (array ts))) (three_or_four a.first a.second (optional_tree c) (Some (array vs)))
            (three_rewrite x y z a.first a.second (optional_tree c) (one_more (array ts) no_trees) (one_more (array vs) no_trees) a.one a.two a.three
            (more_rewrite (array ts) (array vs) no_trees no_trees (array_rewrite ts vs r.rewrite) none_rewrite))));
      }

  inner_again : (t v : Tree) (o : Option Tree) (vs : Trees) → t ≡ array (three_or_four x y z o) → HasInner n o rs k → recipients_trees rs ≡ Some vs → whole ps vs ≡ v
      → ((ts : Trees) → HasRecipients n ts rs k → RecipientsAgain n ts vs rs k) → RecipientAgain n t v (recipient p u c rs) k
  inner_again t v o vs e (inl (q, r)) f w again =
      let g : Some no_trees ≡ Some vs = sym (ap recipients_trees r) ∙ f in
      let none : no_trees ≡ vs = cc in
      three_again t v (e ∙ ap (λ m. array (three_or_four x y z m)) q) r (ap (whole ps) none ∙ w)
  inner_again t v o vs e (inr (ts, q, h)) f w again = four_again t v ts vs (e ∙ ap (λ m. array (three_or_four x y z m)) q) (again ts h) w

mutual
  recipient_again : (n : ℕ) (r : RecipientFields) (t v : Tree) (k : ℕ) → HasRecipient n t r k → recipient_tree r ≡ Some v → RecipientAgain n t v r k
  recipient_again n (recipient p u c rs) t v k h e =
      let ps = and_made (λ parts. option_map (λ ts. whole parts ts) (recipients_trees rs)) (parts_trees (parts p u c)) v e in
      let vs = map_made (λ ts. whole ps.0 ts) (recipients_trees rs) v ps.2 in
      inner_again n h.0 h.1 h.2 p u c rs ps.0 k (parts_again n h.0 h.1 h.2 p u c ps.0 k h.5 ps.1) t v h.3 vs.0 h.4 h.6 vs.1 vs.2 (λ ts x. recipients_again n rs ts vs.0 k x vs.1)

  recipients_again : (n : ℕ) (rs : RecipientsFields) (ts vs : Trees) (k : ℕ) → HasRecipients n ts rs k → recipients_trees rs ≡ Some vs → RecipientsAgain n ts vs rs k
  recipients_again n no_recipients ts vs k h e =
      let g : Some no_trees ≡ Some vs = e in
      let none : no_trees ≡ vs = cc in
      record { has = sym none; rewrite = subst (λ q. RewriteAll q vs) (sym h) (subst (λ q. RewriteAll no_trees q) none none_rewrite) }
  recipients_again n (recipient_more r rs) ts vs k h e =
      let a = and_made (λ t. option_map (λ ts. one_more t ts) (recipients_trees rs)) (recipient_tree r) vs e in
      let b = map_made (λ ts. one_more a.0 ts) (recipients_trees rs) vs a.2 in
      let one = recipient_again n r h.0 a.0 k h.3 a.1 in
      let more = recipients_again n rs h.1 b.0 k h.4 b.1 in
      record {
        has = (a.0, b.0, sym b.2, one.has, more.has);
        rewrite = subst (λ q. RewriteAll q vs) (sym h.2) (subst (λ q. RewriteAll (one_more h.0 h.1) q) b.2 (more_rewrite h.0 a.0 h.1 b.0 one.rewrite more.rewrite));
      }

-- ---- messages
-- v, which is written for the message t, has its fields again; both are arrays
pub record Again (Has : Tree → Type 0) (t v : Tree) : Type 0 where
  pub has : Has v
  pub rewrite : Rewrite t v
  pub old : Trees
  pub new : Trees
  pub was : t ≡ array old
  pub is : v ≡ array new

made : (Has : Tree → Type 0) (t v : Tree) (ts vs : Trees) → t ≡ array ts → v ≡ array vs → Has v → RewriteAll ts vs → Again Has t v
made Has t v ts vs e f h a = record {
  has = h;
  rewrite = subst (λ q. Rewrite q v) (sym e) (subst (λ q. Rewrite (array ts) q) (sym f) (array_rewrite ts vs a));
  old = ts;
  new = vs;
  was = e;
  is = f;
}

-- what is written as o of an item of which P holds follows it
abbrev AllFollow : List (Tree → Type 0) → List (Option Tree) → Type 0
AllFollow [] [] = Unit {0}
AllFollow [] (o ∷ os) = ⊥
AllFollow (P ∷ Ps) [] = ⊥
AllFollow (P ∷ Ps) (o ∷ os) = ((x y : Tree) → P x → o ≡ Some y → P y × Rewrite x y) × AllFollow Ps os

follow : (Ps : List (Tree → Type 0)) (os : List (Option Tree)) (xs ys : List Tree) → AllFollow Ps os → HoldOf Ps xs → all_written (λ o. o) os ≡ Some ys → HoldOf Ps ys × RewriteAll (trees xs) (trees ys)
follow [] [] [] ys f h e =
    let q : Some [] ≡ Some ys = e in
    let s : [] ≡ ys = cc in
    (subst (HoldOf []) s tt, subst (λ z. RewriteAll no_trees (trees z)) s none_rewrite)
follow [] [] (x ∷ xs) ys f h e = absurd h
follow [] (o ∷ os) xs ys f h e = absurd f
follow (P ∷ Ps) [] xs ys f h e = absurd f
follow (P ∷ Ps) (o ∷ os) [] ys f h e = absurd h
follow (P ∷ Ps) (o ∷ os) (x ∷ xs) ys f h e =
    let t = and_made (λ t. option_map (λ ts. t ∷ ts) (all_written (λ q. q) os)) o ys e in
    let r = map_made (λ ts. t.0 ∷ ts) (all_written (λ q. q) os) ys t.2 in
    let one = f.0 x t.0 h.0 t.1 in
    let more = follow Ps os xs r.0 f.1 h.1 r.1 in
    (subst (HoldOf (P ∷ Ps)) r.2 (one.0, more.0), subst (λ z. RewriteAll (one_more x (trees xs)) (trees z)) r.2 (more_rewrite x t.0 (trees xs) (trees r.0) one.1 more.1))

bytes_follow : (b : List ℕ) (x y : Tree) → x ≡ bytes b → Some (bytes b) ≡ Some y → (y ≡ bytes b) × Rewrite x y
bytes_follow b x y h e =
    let q : y ≡ bytes b = cc in
    (q, subst (Rewrite x) (h ∙ sym q) (same_rewrite x))

whole_again : (n k : ℕ) (t v : Tree) (p : ProtectedFields) (u : HeaderFields) (c : Option (List ℕ)) (Ps : List (Tree → Type 0)) (os : List (Option Tree)) → HasWhole n t (parts p u c) Ps k → whole_tree (parts p u c) os ≡ Some v → AllFollow Ps os
    → Again (λ q. HasWhole n q (parts p u c) Ps k) t v
whole_again n k t v p u c Ps os h e f =
    let w = and_made (λ parts. option_map (λ ls. array (trees (parts ++ ls))) (all_written (λ o. o) os)) (parts_trees (parts p u c)) v e in
    let l = map_made (λ ls. array (trees (w.0 ++ ls))) (all_written (λ o. o) os) v w.2 in
    let a = parts_again n h.first h.second h.third p u c w.0 k h.parts w.1 in
    let r = follow Ps os h.lasts l.0 f h.hold l.1 in
    let third = optional_tree c in
    let is : v ≡ array (trees (a.first ∷ a.second ∷ third ∷ l.0)) = sym l.2 ∙ ap (λ z. array (trees (z ++ l.0))) (sym a.is) in
    made (λ q. HasWhole n q (parts p u c) Ps k) t v (trees (h.first ∷ h.second ∷ h.third ∷ h.lasts)) (trees (a.first ∷ a.second ∷ third ∷ l.0)) h.is is
    (record { first = a.first; second = a.second; third = third; lasts = l.0; is = is; parts = a.parts; hold = r.0 })
    (three_rewrite h.first h.second h.third a.first a.second third (trees h.lasts) (trees l.0) a.one a.two a.three r.1)

pub sign1_again : (n k : ℕ) (t v : Tree) (m : Sign1Fields) → HasSign1 n t m k → sign1_tree m ≡ Some v → Again (λ q. HasSign1 n q m k) t v
sign1_again n k t v m h e = whole_again n k t v m.protected m.unprotected m.payload _ (Some (bytes m.signature) ∷ []) h e (bytes_follow m.signature, tt)

record ListAgain (n : ℕ) (ts : Trees) (us : List Tree) (ss : List SignatureFields) (k : ℕ) : Type 0 where
  has : HasSignatures n (trees us) (signatures ss) k
  rewrite : RewriteAll ts (trees us)

list_again : (n : ℕ) (ts : Trees) (ss : List SignatureFields) (us : List Tree) (k : ℕ) → HasSignatures n ts (signatures ss) k → all_written signature_tree ss ≡ Some us → ListAgain n ts us ss k
list_again n ts [] us k h e =
    let q : Some [] ≡ Some us = e in
    let s : [] ≡ us = cc in
    record { has = ap trees (sym s); rewrite = subst (λ z. RewriteAll z (trees us)) (sym h) (subst (λ z. RewriteAll no_trees (trees z)) s none_rewrite) }
list_again n ts (s ∷ ss) us k h e =
    let t = and_made (λ t. option_map (λ ts. t ∷ ts) (all_written signature_tree ss)) (signature_tree s) us e in
    let r = map_made (λ ts. t.0 ∷ ts) (all_written signature_tree ss) us t.2 in
    let more = list_again n h.1 ss r.0 k h.4 r.1 in
    let one : Rewrite h.0 t.0 = record { kept = sig_kept n s h.0 t.0 k h.3 t.1; sound = λ d x. sig_sound n s h.0 t.0 k d h.3 t.1 x } in
    record {
      has = (t.0, trees r.0, ap trees (sym r.2), sig_again n s h.0 t.0 k h.3 t.1, more.has);
      rewrite = subst (λ z. RewriteAll z (trees us)) (sym h.2) (subst (λ z. RewriteAll (one_more h.0 h.1) (trees z)) r.2 (more_rewrite h.0 t.0 h.1 (trees r.0) one more.rewrite));
    }

signatures_follow : (n k : ℕ) (ss : List SignatureFields) (x y : Tree) → IsSignatureList n x ss k → array_of signature_tree ss ≡ Some y → IsSignatureList n y ss k × Rewrite x y
signatures_follow n k ss x y h e =
    let us = map_made (λ ts. array (trees ts)) (all_written signature_tree ss) y e in
    let again = list_again n h.0 ss us.0 k h.2 us.1 in
    ((trees us.0, sym us.2, again.has), subst (λ q. Rewrite q y) (sym h.1) (subst (λ q. Rewrite (array h.0) q) us.2 (array_rewrite h.0 (trees us.0) again.rewrite)))

pub sign_again : (n k : ℕ) (t v : Tree) (m : SignFields) → HasSign n t m k → sign_tree m ≡ Some v → Again (λ q. HasSign n q m k) t v
sign_again n k t v m h e = whole_again n k t v m.protected m.unprotected m.payload _ (array_of signature_tree m.signatures ∷ []) h e (signatures_follow n k m.signatures, tt)

pub mac0_again : (n k : ℕ) (t v : Tree) (m : Mac0Fields) → HasMac0 n t m k → mac0_tree m ≡ Some v → Again (λ q. HasMac0 n q m k) t v
mac0_again n k t v m h e = whole_again n k t v m.protected m.unprotected m.payload _ (Some (bytes m.tag) ∷ []) h e (bytes_follow m.tag, tt)

recipients_follow : (n k : ℕ) (rs : RecipientsFields) (x y : Tree) → HasList n x rs k → list_tree rs ≡ Some y → HasList n y rs k × Rewrite x y
recipients_follow n k rs x y h e =
    let us = map_made array (recipients_trees rs) y e in
    let again = recipients_again n rs h.0 us.0 k h.2 us.1 in
    ((us.0, sym us.2, again.has), subst (λ q. Rewrite q y) (sym h.1) (subst (λ q. Rewrite (array h.0) q) us.2 (array_rewrite h.0 us.0 again.rewrite)))

pub mac_again : (n k : ℕ) (t v : Tree) (m : MacFields) → HasMac n t m k → mac_tree m ≡ Some v → Again (λ q. HasMac n q m k) t v
mac_again n k t v m h e =
    whole_again n k t v m.protected m.unprotected m.payload _ (Some (bytes m.tag) ∷ list_tree m.recipients ∷ []) h e (bytes_follow m.tag, (recipients_follow n k m.recipients, tt))

-- ---- under a tag
and_false : (b : Bool) → (b && false) ≡ false
and_false true = refl
and_false false = refl

level : (n : ℕ) (ts : Trees) → depth (tag n (array ts)) ≡ suc (depth (array ts))
level n ts = ap (λ c. cond c 0 (suc (depth (array ts)))) (and_false (nat_eq n 2 || nat_eq n 3))

array_folded : (n : ℕ) (o : Option Trees) (ts : Trees) → option_and_then (tagged n) (option_map array o) ≡ Some (tag n (array ts)) → option_map array o ≡ Some (array ts)
array_folded n None ts e = let h : None ≡ Some (tag n (array ts)) = e in cc
array_folded n (Some us) ts e = let h : Some (tag n (array us)) ≡ Some (tag n (array ts)) = e in let q : us ≡ ts = cc in ap (λ z. Some (array z)) q

tag_inside : (d n : ℕ) (ts : Trees) → Sound d (tag n (array ts)) → (1 ≤ d) × Sound (d - 1) (array ts)
tag_inside d n ts s =
    let h = s.shallow in let l = level n ts in
    (omega (arith, h, l), record { shallow = omega (arith, h, l); folded = array_folded n (folds_all ts) ts s.folded; assigned = s.assigned })

tag_sound : (d n : ℕ) (ts : Trees) → 1 ≤ d → Sound (d - 1) (array ts) → Sound d (tag n (array ts))
tag_sound d n ts o s =
    let h = s.shallow in let l = level n ts in
    record { shallow = omega (arith, h, l, o); folded = ap (option_and_then (tagged n)) s.folded; assigned = s.assigned }

pub tag_rewrite : (Has : Tree → Type 0) (n : ℕ) (t v : Tree) → Again Has t v → Rewrite (tag n t) (tag n v)
tag_rewrite Has n t v a =
    let k = a.rewrite.kept in
    let size = k.size in
    record {
      kept = record { fits = λ f. (f.0, k.fits f.1); size = omega (arith, size, length-append (shortest 6 n) (enc t), length-append (shortest 6 n) (enc v)) };
      sound = λ d s.
          let i = tag_inside d n a.old (subst (λ z. Sound d (tag n z)) a.was s) in
          let j : Sound (d - 1) v = a.rewrite.sound (d - 1) (subst (Sound (d - 1)) (sym a.was) i.1) in
          subst (λ z. Sound d (tag n z)) (sym a.is) (tag_sound d n a.new i.0 (subst (Sound (d - 1)) a.is j));
    }
