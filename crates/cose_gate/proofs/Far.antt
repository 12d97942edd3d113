-- Offsets grow too long only near to what they can be.
use Rattle.std.proofs.Common.{◌≡◌, ◌≤◌, ◌+◌, ◌^◌, ℕ, Bool, List, Option, arith}
use Rattle.ciborium_ll.specs.Reading.{Moves, Tells as HeadTells, Ends, IsBadByte}
use Rattle.ciborium_ll.specs.declared.hdr.Error.{Error as HeadError}
use Rattle.ciborium_ll.specs.declared.hdr.Error.TheVariants as below
use Rattle.ciborium.specs.declared.de.Error.{Error}
use Rattle.ciborium.specs.declared.de.Error.TheVariants as de
use Rattle.ciborium.specs.Reading.{SomeTaken, lifted}
use Rattle.coset_labels.specs.declared.error.CoseError.{CoseError}
use Rattle.coset_labels.specs.declared.error.CoseError.TheVariants as cose
use Rattle.cose_gate.specs.declared.fault.StreamFault.{StreamFault}
use Rattle.cose_gate.specs.declared.fault.StreamFault.TheVariants as fault
use Rattle.cose_gate.specs.StreamFaults.{IsFarFor, fault_by, shape_by}
use Rattle.cose_gate.specs.ElementFaults.{IsUnexpected}

-- with more bytes at a time
pub far_more : {E : Type 0} (room room' at : ℕ) (f : StreamFault E) → room ≤ room' → IsFarFor room at f → IsFarFor room' at f
far_more room room' at f le far = λ same. let n = far same in omega arith

-- a title
pub far_title : {E : Type 0} (ends : E → Bool) (l₀ l₁ : Option (List ℕ)) (o₀ o₁ : ℕ) (e : HeadError E) → HeadTells ends (Ends l₀ l₁ o₀ o₁) (λ p. (p ≡ o₀) × Moves l₀ l₁ o₀ o₁ IsBadByte) (2 ^ 64 ≤ o₀ + 9) e → o₀ ≤ o₁
    → IsFarFor 0 o₁ (fault_by (lifted e))
far_title ends l₀ l₁ o₀ o₁ (below.Io x) w le = λ same. cc
far_title ends l₀ l₁ o₀ o₁ (below.Syntax p) w le = λ same. cc
far_title ends l₀ l₁ o₀ o₁ below.TooLong w le = λ same. omega arith
far_title ends l₀ l₁ o₀ o₁ below.Waiting w le = absurd w

-- an item
pub far_item : {E : Type 0} (l l' : Option (List ℕ)) (at at' : ℕ) (e : Error E) → SomeTaken l l' at at' e → IsFarFor 0 at' (fault_by e)
far_item l l' at at' (de.Io e) t = λ same. cc
far_item l l' at at' (de.Syntax p) t = λ same. cc
far_item l l' at at' (de.Semantic o k) t = λ same. cc
far_item l l' at at' de.RecursionLimitExceeded t = λ same. cc
far_item l l' at at' de.Memory t = λ same. cc
far_item l l' at at' de.TooLong t = λ same. let n : 2 ^ 64 ≤ at' + 4096 = t.has in omega arith

-- a fault of shape
pub far_shape : {E : Type 0} (room at : ℕ) (e : CoseError) → IsFarFor {E = E} room at (shape_by e)
far_shape room at cose.Memory = λ same. cc
far_shape room at (cose.DecodeFailed x) = λ same. cc
far_shape room at cose.DuplicateMapKey = λ same. cc
far_shape room at cose.EncodeFailed = λ same. cc
far_shape room at cose.ExtraneousData = λ same. cc
far_shape room at cose.OutOfRangeIntegerValue = λ same. cc
far_shape room at (cose.UnexpectedItem x y) = λ same. cc
far_shape room at cose.UnregisteredIanaValue = λ same. cc
far_shape room at cose.UnregisteredIanaNonPrivateValue = λ same. cc
far_shape room at cose.TooManyLayers = λ same. cc

pub far_unexpected : {E : Type 0} (room at : ℕ) (f : StreamFault E) → IsUnexpected f → IsFarFor room at f
far_unexpected room at (fault.Shape e) u = λ same. cc
far_unexpected room at (fault.Decode e) u = absurd u
far_unexpected room at fault.NotTagged u = absurd u
far_unexpected room at (fault.OtherTag n) u = absurd u
far_unexpected room at fault.Detached u = absurd u
far_unexpected room at fault.Unsized u = absurd u
far_unexpected room at fault.Memory u = absurd u
