-- What is written for a message that was read, beside what was read.
use Rattle.std.proofs.Common.{◌≡◌, Option, Some, None, option_map, refl, sym, subst}
use Rattle.ciborium_value.specs.Tree.{Tree, tag}
use Rattle.ciborium_value.specs.Encoding.{enc}
use Rattle.cose_gate_core.specs.Questions.{MessageFields, sign1, mac0, sign, mac, tag_of, message_tree, tagged_tree, message_text}
use Rattle.cose_gate_core.specs.Findings.{Bounds, HasMessage, IsJudged}
use Rattle.cose_gate_core.proofs.MessageKept.{Again, Rewrite, tag_rewrite, sign1_again, sign_again, mac0_again, mac_again}
use Rattle.cose_gate_core.proofs.Written.{judged_text}

pub map_made : {A B : Type 0} (f : A → B) (o : Option A) (y : B) → option_map f o ≡ Some y → (x : A) × (o ≡ Some x) × (f x ≡ y)
map_made f None y e = let h : None ≡ Some y = e in cc
map_made f (Some x) y e = let h : Some (f x) ≡ Some y = e in let q : f x ≡ y = cc in (x, refl, q)

-- by kind
pub message_again : (l : Bounds) (m : MessageFields) (u v : Tree) → HasMessage l u m → message_tree m ≡ Some v → Again (λ q. HasMessage l q m) u v
message_again l (sign1 m) u v h e = sign1_again l.nesting l.layers u v m h e
message_again l (mac0 m) u v h e = mac0_again l.nesting l.layers u v m h e
message_again l (sign m) u v h e = sign_again l.nesting l.layers u v m h e
message_again l (mac m) u v h e = mac_again l.nesting l.layers u v m h e

-- what is written for a message that was read
pub record Rewritten (l : Bounds) (t : Tree) (m : MessageFields) : Type 0 where
  pub tree : Tree
  pub is : tagged_tree m ≡ Some tree
  pub text : message_text m ≡ enc tree
  pub has : IsJudged l tree m
  pub rewrite : Rewrite t tree

pub rewritten : (l : Bounds) (t : Tree) (m : MessageFields) → IsJudged l t m → Rewritten l t m
rewritten l t m ((u, e, h), p, s) =
    let j : IsJudged l t m = ((u, e, h), p, s) in
    let w = map_made enc (tagged_tree m) (message_text m) (judged_text l t m j) in
    let v = map_made (λ t. tag (tag_of m) t) (message_tree m) w.0 w.1 in
    let a = message_again l m u v.0 h v.1 in
    record {
      tree = w.0;
      is = w.1;
      text = sym w.2;
      has = ((v.0, sym v.2, a.has), p, s);
      rewrite = subst (λ z. Rewrite z w.0) (sym e) (subst (λ z. Rewrite (tag (tag_of m) u) z) v.2 (tag_rewrite (λ q. HasMessage l q m) (tag_of m) u v.0 a));
    }
