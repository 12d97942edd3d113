-- What calls return that add a part which a closure gives: the closure is asked once about y, or
-- about the bytes of o, if it has any, and P holds of what it gave and of what is built.
use Rattle.std.specs.Prelude.{Option, IsSomeAnd, Result, Ok, Err}
use denote.Ref.{Bor}
use Rattle.std.specs.Fn.{Once, FnOnceReturnsAt}
use Rattle.coset_labels.specs.Faults.{CantWrite}
use Rattle.coset_labels.specs.declared.error.CoseError.{CoseError}
use Rattle.coset_labels.specs.declared.error.Fault.{Fault}
use Rattle.coset_labels.specs.declared.error.Fault.TheVariants as fault

abbrev pub AddsAt : {F T A B : Type 0} → Once F (Bor T × Unit {0}) A → F → T → (A → B → Type 0) → B → Type 0
AddsAt {A = A} g f y P b = (a : A) × FnOnceReturnsAt g f y a × P a b

abbrev pub TriesToAddAt : {F T A B E : Type 0} → Once F (Bor T × Unit {0}) (Result A E) → F → T → (A → B → Type 0) → Result B E → Type 0
TriesToAddAt {A = A} g f y P (Ok b) = (a : A) × FnOnceReturnsAt g f y (Ok a) × P a b
TriesToAddAt g f y P (Err e) = FnOnceReturnsAt g f y (Err e)

abbrev pub AddsWhere : {F T A B : Type 0} → Once F (Bor T × Unit {0}) A → F → Option T → (A → B → Type 0) → Result B CoseError → Type 0
AddsWhere {A = A} g f o P (Ok b) = (a : A) × IsSomeAnd o (λ y. FnOnceReturnsAt g f y a) × P a b
AddsWhere g f o P (Err c) = CantWrite o c

-- as `AddsWhere`, if the closure may give an error of its own
abbrev pub TriesToAddWhere : {F T A B E : Type 0} → Once F (Bor T × Unit {0}) (Result A E) → F → Option T → (A → B → Type 0) → Result B (Fault E) → Type 0
TriesToAddWhere {A = A} g f o P (Ok b) = (a : A) × IsSomeAnd o (λ y. FnOnceReturnsAt g f y (Ok a)) × P a b
TriesToAddWhere g f o P (Err (fault.Caller e)) = IsSomeAnd o (λ y. FnOnceReturnsAt g f y (Err e))
TriesToAddWhere g f o P (Err (fault.Cose c)) = CantWrite o c
