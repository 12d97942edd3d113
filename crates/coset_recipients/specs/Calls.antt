-- What calls that ask a caller's code return. The code is asked at most once, and only about the
-- bytes that a structure has: if there is none, since a header can't be written, it can't be asked.
use Rattle.std.specs.Prelude.{◌≡◌, Option, Result, Ok, Err, IfSome, IsSomeAnd}
use denote.Ref.{Bor}
use Rattle.std.specs.Fn.{Once, FnOnceReturnsAt, FnOnceReturnsAtPair, FnOnceTakesAt}
use Rattle.coset_labels.specs.Faults.{CantWrite}
use Rattle.coset_labels.specs.declared.error.CoseError.{CoseError}
use Rattle.coset_labels.specs.declared.error.Fault.{Fault}
use Rattle.coset_labels.specs.declared.error.Fault.TheVariants as fault

-- f may be asked about references to x and y
abbrev pub TakesPair : {F T R : Type 0} → Once F (Bor T × (Bor T × Unit {0})) R → F → T → T → Type 0
TakesPair {F} {T} g f x y = (p q : Bor T) → p.now ≡ x → q.now ≡ y → g.pre f (p, (q, tt))

-- f may be asked about x and the bytes of o, if it has any
abbrev pub TakesPairWhere : {F T R : Type 0} → Once F (Bor T × (Bor T × Unit {0})) R → F → T → Option T → Type 0
TakesPairWhere g f x o = IfSome o (λ y. TakesPair g f x y)

-- f may be asked about the bytes of o, if it has any
abbrev pub TakesWhere : {F T R : Type 0} → Once F (Bor T × Unit {0}) R → F → Option T → Type 0
TakesWhere g f o = IfSome o (λ y. FnOnceTakesAt g f y)

-- the result is that of f, asked once about x and the bytes of o; or the error of what can't be
-- written, and then there is no result of f
abbrev pub AnswersWhere : {F T A E : Type 0} → Once F (Bor T × (Bor T × Unit {0})) (Result A E) → F → T → Option T → Result A (Fault E) → Type 0
AnswersWhere g f x o (Ok a) = IsSomeAnd o (λ y. FnOnceReturnsAtPair g f x y (Ok a))
AnswersWhere g f x o (Err (fault.Caller e)) = IsSomeAnd o (λ y. FnOnceReturnsAtPair g f x y (Err e))
AnswersWhere g f x o (Err (fault.Cose c)) = CantWrite o c

-- the result is the error that f gives for a part that is missing
abbrev pub AnswersMissing : {F A E : Type 0} → Once F (Unit {0}) E → F → Result A (Fault E) → Type 0
AnswersMissing g f (Ok a) = ⊥
AnswersMissing g f (Err (fault.Caller e)) = g.post f tt e
AnswersMissing g f (Err (fault.Cose c)) = ⊥

-- what is built holds what f gave, asked once about the bytes of o, and P holds of it
abbrev pub BuiltWhere : {F T A B : Type 0} → Once F (Bor T × Unit {0}) A → F → Option T → (B → A) → (B → Type 0) → Result B CoseError → Type 0
BuiltWhere g f o given P (Ok b) = IsSomeAnd o (λ y. FnOnceReturnsAt g f y (given b)) × P b
BuiltWhere g f o given P (Err c) = CantWrite o c

-- as `BuiltWhere`, if f may give an error of its own
abbrev pub MadeWhere : {F T A B E : Type 0} → Once F (Bor T × Unit {0}) (Result A E) → F → Option T → (B → A) → (B → Type 0) → Result B (Fault E) → Type 0
MadeWhere g f o given P (Ok b) = IsSomeAnd o (λ y. FnOnceReturnsAt g f y (Ok (given b))) × P b
MadeWhere g f o given P (Err (fault.Caller e)) = IsSomeAnd o (λ y. FnOnceReturnsAt g f y (Err e))
MadeWhere g f o given P (Err (fault.Cose c)) = CantWrite o c

-- alike, of an f that is asked about x and the bytes of o, and of what is built if `given` has it
abbrev pub BuiltPairWhere : {F T A B : Type 0} → Once F (Bor T × (Bor T × Unit {0})) A → F → T → Option T → (B → Option A) → (B → Type 0) → Result B CoseError → Type 0
BuiltPairWhere g f x o given P (Ok b) = IsSomeAnd o (λ y. IsSomeAnd (given b) (λ a. FnOnceReturnsAtPair g f x y a)) × P b
BuiltPairWhere g f x o given P (Err c) = CantWrite o c

abbrev pub MadePairWhere : {F T A B E : Type 0} → Once F (Bor T × (Bor T × Unit {0})) (Result A E) → F → T → Option T → (B → Option A) → (B → Type 0) → Result B (Fault E) → Type 0
MadePairWhere g f x o given P (Ok b) = IsSomeAnd o (λ y. IsSomeAnd (given b) (λ a. FnOnceReturnsAtPair g f x y (Ok a))) × P b
MadePairWhere g f x o given P (Err (fault.Caller e)) = IsSomeAnd o (λ y. FnOnceReturnsAtPair g f x y (Err e))
MadePairWhere g f x o given P (Err (fault.Cose c)) = CantWrite o c
