-- Why the gate isn't run, from what was read.
use Rattle.std.proofs.Common.{◌≡◌, ℕ, List, Option, Some, Bool, true, false, inl, inr, refl, sym, ap, subst, ◌∙◌}
use Rattle.std.proofs.lemmas.Bool.{true≢false}
use Rattle.coset_labels.specs.Faults.{OrMemory, fault_of}
use Rattle.coset_labels.specs.Reading.{WrongItem}
use Rattle.coset_labels.specs.declared.error.CoseError.{CoseError}
use Rattle.coset_labels.specs.declared.error.CoseError.TheVariants as cose
use Rattle.coset_keys.specs.Wrong.{WrongKeySet}
use Rattle.cose_gate_program.specs.Beginning.{aad_of, key_set_fault, IsNoAad, IsNoKeySet, BeginsNot}
use Rattle.cose_gate_program.specs.declared.beginning.NotBegun.{NotBegun}
use Rattle.cose_gate_program.specs.declared.beginning.NotBegun.TheVariants.{NoFile, NotHex, NoKeys, Memory}

-- AADHEX is no hex
pub by_aad : (keys aad : Option (List ℕ)) (b : List ℕ) (why : NotBegun) → keys ≡ Some b → IsNoAad aad why → BeginsNot keys (aad_of aad) why
by_aad keys aad b NoFile k n = absurd n
by_aad keys aad b NotHex k n = (b, k, n)
by_aad keys aad b (NoKeys e) k n = absurd n
by_aad keys aad b Memory k n = (b, k)

-- KEYS holds no key set
pub by_keys : (keys aad : Option (List ℕ)) (b d : List ℕ) (why : NotBegun) → keys ≡ Some b → aad ≡ Some d → IsNoKeySet b why → BeginsNot keys aad why
by_keys keys aad b d NoFile k a n = absurd n
by_keys keys aad b d NotHex k a n = absurd n
by_keys keys aad b d (NoKeys e) k a n = (b, d, k, a, n)
by_keys keys aad b d Memory k a n = (b, k)

abbrev is_memory : CoseError → Bool
is_memory cose.Memory = true
is_memory _ = false

-- an error that isn't being out of memory is a fault of the bytes
wrong_then : (b : List ℕ) (e : CoseError) → is_memory e ≡ false → OrMemory (WrongItem WrongKeySet b) e → WrongItem WrongKeySet b (fault_of e)
wrong_then b e not w = elim w [
  | inl m ↦ absurd (true≢false (sym (ap is_memory m) ∙ not))
  | inr x ↦ x
]

-- what reading a key set was refused by
pub no_key_set : (b : List ℕ) (e : CoseError) (why : NotBegun) → why ≡ key_set_fault e → OrMemory (WrongItem WrongKeySet b) e → IsNoKeySet b why
no_key_set b e why is w = subst (λ (n : NotBegun). IsNoKeySet b n) (sym is) (each e w)
  where
    each : (e : CoseError) → OrMemory (WrongItem WrongKeySet b) e → IsNoKeySet b (key_set_fault e)
    each cose.Memory w = tt
    each (cose.DecodeFailed x) w = wrong_then b (cose.DecodeFailed x) refl w
    each cose.DuplicateMapKey w = wrong_then b cose.DuplicateMapKey refl w
    each cose.EncodeFailed w = wrong_then b cose.EncodeFailed refl w
    each cose.ExtraneousData w = wrong_then b cose.ExtraneousData refl w
    each cose.OutOfRangeIntegerValue w = wrong_then b cose.OutOfRangeIntegerValue refl w
    each (cose.UnexpectedItem got want) w = wrong_then b (cose.UnexpectedItem got want) refl w
    each cose.UnregisteredIanaValue w = wrong_then b cose.UnregisteredIanaValue refl w
    each cose.UnregisteredIanaNonPrivateValue w = wrong_then b cose.UnregisteredIanaNonPrivateValue refl w
    each cose.TooManyLayers w = wrong_then b cose.TooManyLayers refl w
