-- What faults of the streaming check tell, step by step.
use Rattle.std.proofs.Common.{◌≡◌, ◌≢◌, ◌≤◌, ◌+◌, ◌-◌, ◌^◌, ◌⊎◌, inl, inr, ℕ, Bool, List, ◌∷◌, ◌++◌, length, Option, None, Some, refl, sym, ap, subst, ◌∙◌, arith, length-append}
use Rattle.std.specs.Io.KnownBytes.{prepend_known}
use Rattle.ciborium_ll.specs.declared.hdr.Header.{Header}
use Rattle.ciborium_ll.specs.declared.hdr.Header.TheVariants.{Break, Simple}
use Rattle.ciborium_ll.specs.declared.hdr.Error.{Error as HeadError}
use Rattle.ciborium_ll.specs.declared.hdr.Error.TheVariants as below
use Rattle.ciborium_ll.specs.Title.{Title, Begins, title_of, FitsHeader}
use Rattle.ciborium_ll.specs.Reading.{Moves, Tells as HeadTells, Ends, IsBadByte, due}
use Rattle.ciborium_ll.proofs.Shortest.{title_of_is}
use Rattle.ciborium.specs.declared.de.Error.{Error}
use Rattle.ciborium.specs.declared.de.Error.TheVariants as de
use Rattle.ciborium.specs.Damage.{Fault, end, deep, syntax, semantic, Damage, in_title, TitleDamage}
use Rattle.ciborium.specs.Damaged.{Damaged}
use Rattle.ciborium.specs.Reading.{Fails, FailsAt, EndPlace, IsLong, IfKnown, ReadsAfterTitle, lifted}
use Rattle.ciborium.specs.Front.{Reads, Front}
use Rattle.ciborium.proofs.ReadLemmas.{item_read}
use Rattle.ciborium.proofs.ChildLemmas.{title_no_break, begun_no_break}
use Rattle.ciborium.proofs.OtherDamage.{damaged_by, damage_too}
use Rattle.ciborium.proofs.Taking.{fails_pull}
use Rattle.ciborium_value.specs.Tree.{Tree}
use Rattle.coset_labels.specs.Faults.{CoseFault, fault_of, unexpected, no_memory, OrMemory}
use Rattle.coset_labels.specs.declared.error.CoseError.{CoseError}
use Rattle.coset_labels.specs.declared.error.CoseError.TheVariants as cose
use Rattle.cose_gate.specs.declared.fault.StreamFault.{StreamFault}
use Rattle.cose_gate.specs.declared.fault.StreamFault.TheVariants as fault
use Rattle.cose_gate.specs.StreamFaults.{Why, damaged, untagged, tagged, shape, without_payload, without_length, refused, HoldsNoMemory, TellsFault, IsLongFor, fault_by, shape_by}
use Rattle.cose_gate.specs.ElementFaults.{TitleFault, PartFault, NoBreak, IsUnexpected, WrongPart}

-- what a fault says if l was left and o was the offset
abbrev pub Names : {E : Type 0} → (E → Bool) → (ℕ → List ℕ → Why → Type 0) → ℕ → Option (List ℕ) → ℕ → StreamFault E → Type 0
Names ends D room l o f = HoldsNoMemory f × IfKnown l (λ b. TellsFault ends (D (o + length b) b) (IsLongFor room o b) f)

-- no fault that is made of another holds being out of memory
pub fault_holds : {E : Type 0} (e : Error E) → HoldsNoMemory (fault_by e)
fault_holds (de.Io e) = tt
fault_holds (de.Syntax p) = tt
fault_holds (de.Semantic o k) = tt
fault_holds de.RecursionLimitExceeded = tt
fault_holds de.Memory = tt
fault_holds de.TooLong = tt

pub shape_holds : (E : Type 0) (e : CoseError) → (e ≢ cose.Memory → fault_of e ≢ no_memory) → HoldsNoMemory {E = E} (shape_by e)
shape_holds E cose.Memory named = tt
shape_holds E (cose.DecodeFailed x) named = named (λ same. cc)
shape_holds E cose.DuplicateMapKey named = named (λ same. cc)
shape_holds E cose.EncodeFailed named = named (λ same. cc)
shape_holds E cose.ExtraneousData named = named (λ same. cc)
shape_holds E cose.OutOfRangeIntegerValue named = named (λ same. cc)
shape_holds E (cose.UnexpectedItem x y) named = named (λ same. cc)
shape_holds E cose.UnregisteredIanaValue named = named (λ same. cc)
shape_holds E cose.UnregisteredIanaNonPrivateValue named = named (λ same. cc)
shape_holds E cose.TooManyLayers named = named (λ same. cc)

pub unexpected_holds : {E : Type 0} (f : StreamFault E) → IsUnexpected f → HoldsNoMemory f
unexpected_holds (fault.Shape e) u = λ same. let other : unexpected ≡ no_memory = sym u ∙ same in cc
unexpected_holds (fault.Decode e) u = absurd u
unexpected_holds fault.NotTagged u = absurd u
unexpected_holds (fault.OtherTag n) u = absurd u
unexpected_holds fault.Detached u = absurd u
unexpected_holds fault.Unsized u = absurd u
unexpected_holds fault.Memory u = absurd u

pub tells_as : {E : Type 0} (ends : E → Bool) (D D' : Why → Type 0) (long long' : Type 0) (f : StreamFault E) → ((w : Why) → D w → D' w) → (long → long') → TellsFault ends D long f → TellsFault ends D' long' f
tells_as ends D D' long long' (fault.Decode (de.Io e)) d l t = λ x. d (damaged end) (t x)
tells_as ends D D' long long' (fault.Decode (de.Syntax p)) d l t = d (damaged (syntax p)) t
tells_as ends D D' long long' (fault.Decode (de.Semantic o k)) d l t = (t.0, d (damaged (semantic k)) t.1)
tells_as ends D D' long long' (fault.Decode de.RecursionLimitExceeded) d l t = d (damaged deep) t
tells_as ends D D' long long' (fault.Decode de.Memory) d l t = t
tells_as ends D D' long long' (fault.Decode de.TooLong) d l t = l t
tells_as ends D D' long long' fault.NotTagged d l t = d untagged t
tells_as ends D D' long long' (fault.OtherTag n) d l t = d (tagged n) t
tells_as ends D D' long long' (fault.Shape e) d l t = d (shape (fault_of e)) t
tells_as ends D D' long long' fault.Detached d l t = d without_payload t
tells_as ends D D' long long' fault.Unsized d l t = d without_length t
tells_as ends D D' long long' fault.Memory d l t = d refused t

-- a fault of reading one item
fails_tells : {E : Type 0} (ends : E → Bool) (Q : Type 0) (D : Fault → Type 0) (D' : Why → Type 0) (long long' : Type 0) (e : Error E)
    → ((f : Fault) → D f → D' (damaged f)) → D' refused → (long → long') → Fails ends Q D long e → TellsFault ends D' long' (fault_by e)
fails_tells ends Q D D' long long' (de.Io e) d m l w = λ x. d end (w x).0
fails_tells ends Q D D' long long' (de.Syntax p) d m l w = d (syntax p) w
fails_tells ends Q D D' long long' (de.Semantic o k) d m l w = (w.0, d (semantic k) w.1)
fails_tells ends Q D D' long long' de.RecursionLimitExceeded d m l w = d deep w
fails_tells ends Q D D' long long' de.Memory d m l w = m
fails_tells ends Q D D' long long' de.TooLong d m l w = l w

-- a fault of the next title
pub pull_names : {E : Type 0} (ends : E → Bool) (l₀ l₁ : Option (List ℕ)) (o₀ o₁ : ℕ) (e : HeadError E)
    → HeadTells ends (Ends l₀ l₁ o₀ o₁) (λ p. (p ≡ o₀) × Moves l₀ l₁ o₀ o₁ IsBadByte) (2 ^ 64 ≤ o₀ + 9) e → Names ends TitleFault 0 l₀ o₀ (fault_by (lifted e))
pull_names ends l₀ l₁ o₀ o₁ e w = (fault_holds (lifted e), go l₀ e w (fails_pull ends l₀ l₁ o₀ o₁ e (lifted e) refl w))
  where
    go : (l₀ : Option (List ℕ)) (e : HeadError _) → HeadTells ends (Ends l₀ l₁ o₀ o₁) (λ p. (p ≡ o₀) × Moves l₀ l₁ o₀ o₁ IsBadByte) (2 ^ 64 ≤ o₀ + 9) e
        → IfKnown l₀ (λ b. FailsAt ends b o₀ o₁ TitleDamage (lifted e)) → IfKnown l₀ (λ b. TellsFault ends (TitleFault (o₀ + length b) b) (IsLongFor 0 o₀ b) (fault_by (lifted e)))
    go None e w k = tt
    go (Some b) (below.Io x) w k = λ t. (k t).0
    go (Some b) (below.Syntax p) w k = k
    go (Some b) below.TooLong w k = omega arith
    go (Some b) below.Waiting w k = absurd w

-- a fault after what was taken is a fault of the whole
pub tells_behind : {E : Type 0} (ends : E → Bool) (l₀ l₁ : Option (List ℕ)) (o₀ o₁ room room' : ℕ) (P : List ℕ → Type 0) (D D' : ℕ → List ℕ → Why → Type 0) (f : StreamFault E)
    → Moves l₀ l₁ o₀ o₁ P → room ≤ room' → ((stop : ℕ) (x rest : List ℕ) (w : Why) → length (x ++ rest) ≤ stop → P x → D stop rest w → D' stop (x ++ rest) w)
    → Names ends D room l₁ o₁ f → Names ends D' room' l₀ o₀ f
tells_behind ends l₀ l₁ o₀ o₁ room room' P D D' f t le step n = (n.0, go l₀ l₁ t n.1)
  where
    go : (l₀ l₁ : Option (List ℕ)) → Moves l₀ l₁ o₀ o₁ P → IfKnown l₁ (λ b. TellsFault ends (D (o₁ + length b) b) (IsLongFor room o₁ b) f)
        → IfKnown l₀ (λ b. TellsFault ends (D' (o₀ + length b) b) (IsLongFor room' o₀ b) f)
    go None l₁ t k = tt
    go (Some b) None t k = absurd t.taken
    go (Some b) (Some rest) t k =
        let total : length b ≡ length t.bytes + length rest = ap length t.taken ∙ length-append t.bytes rest in
        let place : o₁ ≡ o₀ + length t.bytes = t.grown in
        let stop : o₁ + length rest ≡ o₀ + length b = omega arith in
        let long : length (t.bytes ++ rest) ≤ o₀ + length b = omega (arith, ap length t.taken) in
        tells_as ends _ _ _ _ f
        (λ w d. subst (λ (z : List ℕ). D' (o₀ + length b) z w) (sym t.taken) (step (o₀ + length b) t.bytes rest w long t.has (subst (λ (z : ℕ). D z rest w) stop d)))
        (λ l. omega arith) k

-- a fault that the next title shows
pub title_tells : (l₀ l₁ : Option (List ℕ)) (o₀ o₁ : ℕ) (h : Header) (Q : List ℕ → Type 0) → Moves l₀ l₁ o₀ o₁ (λ (b : List ℕ). Title b h) → ((b rest : List ℕ) → Begins b h rest → Q b) → IfKnown l₀ Q
title_tells None l₁ o₀ o₁ h Q t q = tt
title_tells (Some b) None o₀ o₁ h Q t q = absurd t.taken
title_tells (Some b) (Some rest) o₀ o₁ h Q t q = q b rest (record { title = t.bytes; is_title = t.has; whole = t.taken })

-- the same fault of the same bytes, by another relation that also holds of it
pub known_tells : {E : Type 0} (ends : E → Bool) (l : Option (List ℕ)) (o room room' : ℕ) (D D' : ℕ → List ℕ → Why → Type 0) (f : StreamFault E) → room ≤ room'
    → ((stop : ℕ) (b : List ℕ) (w : Why) → length b ≤ stop → D stop b w → D' stop b w) → Names ends D room l o f → Names ends D' room' l o f
known_tells ends l o room room' D D' f le step n = (n.0, go l n.1)
  where
    go : (l : Option (List ℕ)) → IfKnown l (λ b. TellsFault ends (D (o + length b) b) (IsLongFor room o b) f) → IfKnown l (λ b. TellsFault ends (D' (o + length b) b) (IsLongFor room' o b) f)
    go None k = tt
    go (Some b) k = tells_as ends _ _ _ _ f (λ w d. step (o + length b) b w (omega arith) d) (λ l. omega arith) k

-- an element whose title is damaged
part_title : (k : ℕ) (W : CoseFault → Tree → Type 0) (stop : ℕ) (b : List ℕ) (w : Why) → TitleFault stop b w → PartFault k W stop b w
part_title k W stop b (damaged f) d = (title_no_break stop b f d, damaged_by stop b k f (in_title b k f d))
part_title k W stop b untagged d = absurd d
part_title k W stop b (tagged n) d = absurd d
part_title k W stop b (shape e) d = absurd d
part_title k W stop b without_payload d = absurd d
part_title k W stop b without_length d = absurd d
part_title k W stop b refused d = absurd d

pub part_title_tells : {E : Type 0} (ends : E → Bool) (n : ℕ) (W : CoseFault → Tree → Type 0) (l : Option (List ℕ)) (o : ℕ) (f : StreamFault E) → Names ends TitleFault 0 l o f → Names ends (PartFault n W) 0 l o f
part_title_tells ends n W l o f k = known_tells ends l o 0 0 TitleFault (PartFault n W) f (omega arith) (λ stop b w le d. part_title n W stop b w d) k

-- an element that is damaged after its title, which was put back
pub part_item : {E : Type 0} (ends : E → Bool) (n : ℕ) (W : CoseFault → Tree → Type 0) (l₀ l₁ l₂ : Option (List ℕ)) (o₀ o₁ o₂ o₃ : ℕ) (h : Header) (e : Error E)
    → Moves l₀ l₁ o₀ o₁ (λ (b : List ℕ). Title b h) → h ≢ Break → FitsHeader h → l₂ ≡ prepend_known (title_of h) l₁ → o₂ + length (title_of h) ≡ o₁
    → IfKnown l₂ (λ b. FailsAt ends b o₂ o₃ (λ stop b f. Damage stop b n f) e) → Names ends (PartFault n W) 0 l₀ o₀ (fault_by e)
part_item ends n W l₀ l₁ l₂ o₀ o₁ o₂ o₃ h e t not fits same place k = (fault_holds e, go l₀ l₁ t same)
  where
    go : (l₀ l₁ : Option (List ℕ)) → Moves l₀ l₁ o₀ o₁ (λ (b : List ℕ). Title b h) → l₂ ≡ prepend_known (title_of h) l₁
        → IfKnown l₀ (λ b. TellsFault ends (PartFault n W (o₀ + length b) b) (IsLongFor 0 o₀ b) (fault_by e))
    go None l₁ t same = tt
    go (Some b) None t same = absurd t.taken
    go (Some b) (Some rest) t same =
        let pushed : List ℕ = title_of h ++ rest in
        let there : FailsAt ends pushed o₂ o₃ (λ stop b f. Damage stop b n f) e = subst (λ (z : Option (List ℕ)). IfKnown z (λ b. FailsAt ends b o₂ o₃ (λ stop b f. Damage stop b n f) e)) same k in
        let total : length b ≡ length t.bytes + length rest = ap length t.taken ∙ length-append t.bytes rest in
        let size : length pushed ≡ length (title_of h) + length rest = length-append (title_of h) rest in
        let grown : o₁ ≡ o₀ + length t.bytes = t.grown in
        let stop : o₂ + length pushed ≡ o₀ + length b = omega arith in
        let long : length (t.bytes ++ rest) ≤ o₀ + length b = omega (arith, ap length t.taken) in
        let clean : NoBreak b = begun_no_break h b rest (record { title = t.bytes; is_title = t.has; whole = t.taken }) not in
        fails_tells ends (EndPlace pushed o₂ o₃) (λ f. Damage (o₂ + length pushed) pushed n f) (PartFault n W (o₀ + length b) b) (IsLong o₂ pushed) (IsLongFor 0 o₀ b) e
        (λ f d. let other : Damaged (o₀ + length b) b n f = subst (λ (z : List ℕ). Damaged (o₀ + length b) z n f) (sym t.taken) (damage_too h (title_of h) t.bytes rest (title_of_is h fits) t.has (o₀ + length b) long pushed n f refl (subst (λ (z : ℕ). Damage z pushed n f) stop d)) in (clean, other))
        tt (λ l. omega arith) there

-- the same by a number that is another name for it
pub part_as : {E : Type 0} (ends : E → Bool) (W : CoseFault → Tree → Type 0) (l : Option (List ℕ)) (o : ℕ) (f : StreamFault E) (n m : ℕ) → n ≡ m → Names ends (PartFault (n - 2) W) 0 l o f → Names ends (PartFault (m - 2) W) 0 l o f
part_as ends W l o f n m e k = subst (λ (z : ℕ). Names ends (PartFault (z - 2) W) 0 l o f) e k

pub reads_as : (l₀ l₁ : Option (List ℕ)) (o₀ o₁ : ℕ) (v : Tree) (n m : ℕ) → n ≡ m → Moves l₀ l₁ o₀ o₁ (λ (b : List ℕ). Reads b (n - 2) v) → Moves l₀ l₁ o₀ o₁ (λ (b : List ℕ). Reads b (m - 2) v)
reads_as l₀ l₁ o₀ o₁ v n m e k = subst (λ (z : ℕ). Moves l₀ l₁ o₀ o₁ (λ (b : List ℕ). Reads b (z - 2) v)) e k

-- no header waits
pub fresh_due : (l : Option (List ℕ)) (w : Option Header) → w ≡ None → due l w ≡ l
fresh_due None w e = ap (due None) e
fresh_due (Some b) w e = ap (due (Some b)) e

-- an item whose title was put back, as if it had not been
pub put_back : (n : ℕ) (l₀ l₁ l₂ l₃ : Option (List ℕ)) (o₀ o₁ o₂ o₃ : ℕ) (h : Header) (v : Tree) → Moves l₀ l₁ o₀ o₁ (λ (b : List ℕ). Title b h) → l₁ ≡ l₂ → o₂ + length (title_of h) ≡ o₁
    → Moves l₂ l₃ (o₂ + length (title_of h)) o₃ (ReadsAfterTitle h n v) → Moves l₀ l₃ o₀ o₃ (λ (b : List ℕ). Reads b n v)
put_back n l₀ l₁ l₂ l₃ o₀ o₁ o₂ o₃ h v t e p r =
    item_read l₀ l₂ l₃ o₀ (o₂ + length (title_of h)) o₃ n v h (subst (λ (z : Option (List ℕ)). Moves l₀ z o₀ (o₂ + length (title_of h)) (λ (b : List ℕ). Title b h)) e (subst (λ (z : ℕ). Moves l₀ l₁ o₀ z (λ (b : List ℕ). Title b h)) (sym p) t)) r

-- an element that is there, and wrong, or for which there was no memory
pub part_wrong : {E : Type 0} (ends : E → Bool) (k : ℕ) (W : CoseFault → Tree → Type 0) (l₀ l₁ : Option (List ℕ)) (o₀ o₁ : ℕ) (v : Tree) (e : CoseError) → Moves l₀ l₁ o₀ o₁ (λ (b : List ℕ). Reads b k v)
    → ((f : CoseFault) → W f v → f ≢ no_memory) → (e ≢ cose.Memory → W (fault_of e) v) → Names {E = E} ends (PartFault k W) 0 l₀ o₀ (shape_by e)
part_wrong {E} ends k W l₀ l₁ o₀ o₁ v e t named wrong = (shape_holds E e (λ other. named (fault_of e) (wrong other)), place l₀ l₁ t)
  where
    place : (l₀ l₁ : Option (List ℕ)) → Moves l₀ l₁ o₀ o₁ (λ (b : List ℕ). Reads b k v) → IfKnown l₀ (λ b. TellsFault {E = E} ends (PartFault k W (o₀ + length b) b) (IsLongFor 0 o₀ b) (shape_by e))
    place None l₁ t = tt
    place (Some b) None t = absurd t.taken
    place (Some b) (Some rest) t = go e wrong
      where
        there : (f : CoseFault) → W f v → ((f ≡ unexpected) × ((r : List ℕ) × (b ≡ 255 ∷ r))) ⊎ ((v : Tree) × (rest : List ℕ) × Front b k v rest × W f v)
        there f w = inr (v, rest, record { spelling = t.bytes; whole = t.taken; reads = t.has }, w)

        go : (e : CoseError) → (e ≢ cose.Memory → W (fault_of e) v) → TellsFault {E = E} ends (PartFault k W (o₀ + length b) b) (IsLongFor 0 o₀ b) (shape_by e)
        go cose.Memory w = tt
        go (cose.DecodeFailed x) w = there _ (w (λ q. cc))
        go cose.DuplicateMapKey w = there _ (w (λ q. cc))
        go cose.EncodeFailed w = there _ (w (λ q. cc))
        go cose.ExtraneousData w = there _ (w (λ q. cc))
        go cose.OutOfRangeIntegerValue w = there _ (w (λ q. cc))
        go (cose.UnexpectedItem x y) w = there _ (w (λ q. cc))
        go cose.UnregisteredIanaValue w = there _ (w (λ q. cc))
        go cose.UnregisteredIanaNonPrivateValue w = there _ (w (λ q. cc))
        go cose.TooManyLayers w = there _ (w (λ q. cc))

pub part_refused : {E : Type 0} (ends : E → Bool) (k : ℕ) (W : Tree → CoseFault → Type 0) (l₀ l₁ : Option (List ℕ)) (o₀ o₁ : ℕ) (v : Tree) (e : CoseError) → Moves l₀ l₁ o₀ o₁ (λ (b : List ℕ). Reads b k v)
    → ((f : CoseFault) → W v f → f ≢ no_memory) → OrMemory (W v) e → Names {E = E} ends (PartFault k (WrongPart W)) 0 l₀ o₀ (shape_by e)
part_refused ends k W l₀ l₁ o₀ o₁ v e t named (inl m) = part_wrong ends k (WrongPart W) l₀ l₁ o₀ o₁ v e t named (λ n. absurd (n m))
part_refused ends k W l₀ l₁ o₀ o₁ v e t named (inr w) = part_wrong ends k (WrongPart W) l₀ l₁ o₀ o₁ v e t named (λ n. w)

-- a fault of a shape that was not expected
unexpected_tells : {E : Type 0} (ends : E → Bool) (D : Why → Type 0) (long : Type 0) (f : StreamFault E) → IsUnexpected f → D (shape unexpected) → TellsFault ends D long f
unexpected_tells ends D long (fault.Shape e) u d = subst (λ (z : CoseFault). D (shape z)) (sym u) d
unexpected_tells ends D long (fault.Decode e) u d = absurd u
unexpected_tells ends D long fault.NotTagged u d = absurd u
unexpected_tells ends D long (fault.OtherTag n) u d = absurd u
unexpected_tells ends D long fault.Detached u d = absurd u
unexpected_tells ends D long fault.Unsized u d = absurd u
unexpected_tells ends D long fault.Memory u d = absurd u

pub absent_tells : (b rest : List ℕ) (h : Header) → (h ≡ Simple 22) ⊎ (h ≡ Simple 23) → Begins b h rest → ((r : List ℕ) × Begins b (Simple 22) r) ⊎ ((r : List ℕ) × Begins b (Simple 23) r)
absent_tells b rest h (inl e) s = inl (rest, subst (λ (z : Header). Begins b z rest) e s)
absent_tells b rest h (inr e) s = inr (rest, subst (λ (z : Header). Begins b z rest) e s)

-- a title that is not one that was expected
pub unexpected_here : {E : Type 0} (ends : E → Bool) (l₀ l₁ : Option (List ℕ)) (o₀ o₁ : ℕ) (h : Header) (D : ℕ → List ℕ → Why → Type 0) (f : StreamFault E) → Moves l₀ l₁ o₀ o₁ (λ (b : List ℕ). Title b h) → IsUnexpected f
    → ((stop : ℕ) (b rest : List ℕ) → Begins b h rest → D stop b (shape unexpected)) → Names ends D 0 l₀ o₀ f
unexpected_here ends l₀ l₁ o₀ o₁ h D f t u d = (unexpected_holds f u, go l₀ l₁ t)
  where
    go : (l₀ l₁ : Option (List ℕ)) → Moves l₀ l₁ o₀ o₁ (λ (b : List ℕ). Title b h) → IfKnown l₀ (λ b. TellsFault ends (D (o₀ + length b) b) (IsLongFor 0 o₀ b) f)
    go None l₁ t = tt
    go (Some b) None t = absurd t.taken
    go (Some b) (Some rest) t = unexpected_tells ends (D (o₀ + length b) b) (IsLongFor 0 o₀ b) f u (d (o₀ + length b) b rest (record { title = t.bytes; is_title = t.has; whole = t.taken }))
