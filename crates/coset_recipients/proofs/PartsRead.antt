-- What reading one of the parts shows.
use Rattle.std.proofs.Common.{◌≡◌, ◌≢◌, ℕ, inr, false, sym, subst}
use Rattle.ciborium_value.specs.Tree.{Tree, simple, is_bytes}
use Rattle.coset_labels.specs.Faults.{OrMemory, fault_of, unexpected}
use Rattle.coset_labels.specs.declared.error.CoseError.{CoseError}
use Rattle.coset_headers.specs.Wrong.{WrongHeader, WrongProtected}
use Rattle.coset_labels.specs.Facts.Walks.{passed_on}
use Rattle.coset_recipients.specs.WrongParts.{WrongParts, in_protected, in_unprotected, in_content}

pub parts_content : (n : ℕ) (a b c : Tree) (k : ℕ) (e : CoseError) → (fault_of e ≡ unexpected) × (is_bytes c ≡ false) × (c ≢ simple 22) → OrMemory (WrongParts n a b c k) e
parts_content n a b c k e p = inr (subst (WrongParts n a b c k) (sym p.0) (in_content p.1 p.2))

pub parts_unprotected : (n : ℕ) (a b c : Tree) (k : ℕ) (e : CoseError) → OrMemory (WrongHeader n b k) e → OrMemory (WrongParts n a b c k) e
parts_unprotected n a b c k e w = passed_on (WrongHeader n b k) (WrongParts n a b c k) e (λ x. in_unprotected (fault_of e) x) w

pub parts_protected : (n : ℕ) (a b c : Tree) (k : ℕ) (e : CoseError) → OrMemory (WrongProtected n a k) e → OrMemory (WrongParts n a b c k) e
parts_protected n a b c k e w = passed_on (WrongProtected n a k) (WrongParts n a b c k) e (λ x. in_protected (fault_of e) x) w
