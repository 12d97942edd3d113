-- Items that were sifted one after another.
use Rattle.std.proofs.Common.{◌≡◌, ◌≢◌, ℕ, ◌+◌, ◌≤◌, ◌<◌, List, [], ◌++◌, length, Bool, true, false, MatchBool, Option, Some, None, ◌⊎◌, inl, inr, Result, Ok, Err, IfOk, IfErr, refl, sym, ap, subst, ◌∙◌, append-nil, arith}
use Rattle.std.specs.Io.KnownBytes.{Keeps, Appends, Consumes}
use Rattle.std.proofs.KnownBytes.{Keeps-refl, Appends-nil, Appends-trans, Appends-kept}
use Rattle.ciborium_ll.specs.Device.{AppendsFront}
use Rattle.ciborium_ll.specs.Seen.{Seen, Takes}
use Rattle.ciborium.proofs.Taking.{takes_then, takes_as, takes_none}
use Rattle.cose_sift.specs.declared.items.Halt.{Halt}
use Rattle.cose_sift.specs.declared.items.Halt.TheVariants as halt
use Rattle.cose_sift.specs.declared.taking.Stop.TheVariants as stop
use Rattle.cose_sift.specs.declared.taking.Taking.{Taking}
use Rattle.cose_sift.specs.declared.sifting.Counts.{Counts}
use Rattle.cose_sift.specs.declared.sifting.Options.{Options}
use Rattle.cose_sift.specs.Reading.{IsUntold}
use Rattle.cose_sift.specs.Sifting.{nothing, kept, dropped, Readably, IsUnreadable, Writes, HaltsAt, Halts}
use Rattle.cose_sift.specs.Taking.{Held, IfKnown, ItemFails, IsPlace, ItemDeepAt, most_of, failures_at, failures_after, writer_failures}
use Rattle.cose_sift.specs.Untagging.{Content}
use Rattle.cbor_walk.specs.Walking.{IsOne, IsNothing}

-- so far
pub record Ran (o : Options) (old new : Seen) (w w' : Option (List ℕ)) (c : Counts) : Type 0 where
  pub taken : Takes old new (Writes o w w' c)

pub ran_none : (o : Options) (old : Seen) (w : Option (List ℕ)) (c : Counts) → c.sifted ≡ 0 → c.dropped ≡ 0 → Ran o old old w w c
ran_none o old w c n k = record { taken = takes_none old.left old.offset (Writes o w w c) ([], rw (n, k) nothing, Appends-nil w) }

-- the item is written
pub ran_kept : (o : Options) (old mid new : Seen) (w v u : Option (List ℕ)) (c d : Counts) (x : List ℕ) → Ran o old mid w v c → Takes mid new (λ y. (y ≡ x) × IsOne y × length y ≤ o.max)
    → Readably o.untag x (Appends v u) → d.sifted ≡ c.sifted + 1 → d.dropped ≡ c.dropped → Ran o old new w u d
ran_kept o old mid new w v u c d x r t a n k = record {
  taken = takes_then old.left mid.left new.left old.offset mid.offset new.offset _ _ (Writes o w u d) r.taken t (λ b y p q.
      (p.0 ++ a.0, rw (n, k) (kept b p.0 y a.0 c.sifted c.dropped p.1 q.1 q.2 (subst (λ (z : List ℕ). Content o.untag z a.0) (sym q.0) a.1) a.2), Appends-trans w v u p.0 a.0 p.2 a.3));
}

-- the item is left out
pub ran_dropped : (o : Options) (old mid new : Seen) (w v u : Option (List ℕ)) (c d : Counts) → Ran o old mid w v c → Takes mid new (λ y. IsOne y × (length y ≤ o.max → IsUnreadable o.untag y))
    → Keeps v u → d.sifted ≡ c.sifted → d.dropped ≡ c.dropped + 1 → Ran o old new w u d
ran_dropped o old mid new w v u c d r t a n k = record {
  taken = takes_then old.left mid.left new.left old.offset mid.offset new.offset _ _ (Writes o w u d) r.taken t (λ b y p q.
      (p.0, rw (n, k) (dropped b p.0 y c.sifted c.dropped p.1 q.0 q.1), Appends-kept w v u p.0 p.2 a));
}

-- the end of the input
pub ran_whole : (o : Options) (left mid : Option (List ℕ)) (w u : Option (List ℕ)) (c : Counts) (x : List ℕ) → Consumes left mid x → Writes o w u c x → IfKnown mid IsNothing → IfKnown left (Writes o w u c)
ran_whole o None mid w u c x t p e = tt
ran_whole o (Some b) None w u c x t p e = absurd t
ran_whole o (Some b) (Some r) w u c x t p e = subst (Writes o w u c) (sym (t ∙ subst (λ z. x ++ r ≡ x ++ z) e refl ∙ append-nil x)) p

pub ran_end : (o : Options) (old mid new : Seen) (w v u : Option (List ℕ)) (c d : Counts) (h : Halt) → Ran o old mid w v c → Keeps v u → ItemFails mid new h → h ≡ halt.Decode stop.End → new.offset ≡ mid.offset → d ≡ c → IfKnown old.left (Writes o w u d)
ran_end o old mid new w v u c d h r k f is same e =
    rw e (ran_whole o old.left mid.left w u c r.taken.bytes r.taken.taken (r.taken.has.0, r.taken.has.1, Appends-kept w v u r.taken.has.0 r.taken.has.2 k) ((subst (ItemFails mid new) is f).0 same))

halts_at : (o : Options) (mid new : Seen) (v u : Option (List ℕ)) (h : Halt) → ItemFails mid new h → IsPlace mid new h → ItemDeepAt (most_of o.max) mid new h → Keeps v u → (h ≡ halt.Decode stop.End → new.offset ≢ mid.offset) → HaltsAt o mid new v u h
halts_at o mid new v u (halt.Decode s) f at d k n = (f, at, d, k, λ e. n (ap (λ z. halt.Decode z) e))
halts_at o mid new v u halt.Write f at d k n = inl k

pub ran_halts : (o : Options) (old mid new : Seen) (w v u : Option (List ℕ)) (c : Counts) (h : Halt) → Ran o old mid w v c → ItemFails mid new h → IsPlace mid new h → ItemDeepAt (most_of o.max) mid new h → Keeps v u → (h ≡ halt.Decode stop.End → new.offset ≢ mid.offset) → Halts o old new w u h
ran_halts o old mid new w v u c h r f at d k n = record { mid = mid; written = v; counts = c; before = r.taken; why = halts_at o mid new v u h f at d k n }

pub ran_memory : (o : Options) (old mid new : Seen) (w v u : Option (List ℕ)) (c : Counts) (h : Halt) (x : List ℕ) → Ran o old mid w v c → Takes mid new (λ y. (y ≡ x) × IsOne y × length y ≤ o.max)
    → (IsUntold h × Keeps v u) ⊎ ((h ≡ halt.Write) × Readably o.untag x (AppendsFront v u)) → Halts o old new w u h
ran_memory o old mid new w v u c h x r t (inl (inl m, k)) = ran_halts o old mid new w v u c h r (subst (ItemFails mid new) (sym m) tt) (subst (IsPlace mid new) (sym m) tt) (subst (ItemDeepAt (most_of o.max) mid new) (sym m) tt) k (λ e. let k : halt.Decode stop.Memory ≡ halt.Decode stop.End = sym m ∙ e in cc)
ran_memory o old mid new w v u c h x r t (inl (inr m, k)) = ran_halts o old mid new w v u c h r (subst (ItemFails mid new) (sym m) tt) (subst (IsPlace mid new) (sym m) tt) (subst (ItemDeepAt (most_of o.max) mid new) (sym m) tt) k (λ e. let k : halt.Decode stop.TooLong ≡ halt.Decode stop.End = sym m ∙ e in cc)
ran_memory o old mid new w v u c h x r t (inr f) = record {
  mid = mid;
  written = v;
  counts = c;
  before = r.taken;
  why = subst (HaltsAt o mid new v u) (sym f.0) (inr (takes_as mid.left new.left mid.offset new.offset _ _ t (λ y p. subst (λ (z : List ℕ). Readably o.untag z (AppendsFront v u)) (sym p.0) f.1)));
}

-- what was kept of the item
held_all : (t : Taking) (x : List ℕ) → t.is_long ≡ false → Held t x → (t.bytes.items ≡ x) × (length x ≤ t.max)
held_all t x e h = subst (λ z. MatchBool z (t.max < length x) ((t.bytes.items ≡ x) × (length x ≤ t.max))) e h

pub taken_all : (o : Options) (mid new : Seen) (t : Taking) (b : List ℕ) → t.is_long ≡ false → b ≡ t.bytes.items → t.max ≡ o.max → Takes mid new (λ x. IsOne x × Held t x) → Takes mid new (λ y. (y ≡ b) × IsOne y × length y ≤ o.max)
taken_all o mid new t b e is m k = takes_as mid.left new.left mid.offset new.offset _ _ k (λ y p. let h = held_all t y e p.1 in (sym (is ∙ h.0), p.0, subst (λ (z : ℕ). length y ≤ z) m h.1))

pub is_one : (o : Options) (mid new : Seen) (b : List ℕ) → Takes mid new (λ y. (y ≡ b) × IsOne y × length y ≤ o.max) → IsOne b
is_one o mid new b t = subst IsOne t.has.0 t.has.1

pub taken_long : (o : Options) (mid new : Seen) (t : Taking) → t.is_long ≡ true → t.max ≡ o.max → Takes mid new (λ x. IsOne x × Held t x) → Takes mid new (λ y. IsOne y × (length y ≤ o.max → IsUnreadable o.untag y))
taken_long o mid new t e m k = takes_as mid.left new.left mid.offset new.offset _ _ k (λ y p.
    let h : t.max < length y = subst (λ z. MatchBool z (t.max < length y) ((t.bytes.items ≡ y) × (length y ≤ t.max))) e p.1 in (p.0, λ le. absurd (omega arith)))

pub taken_unread : (o : Options) (mid new : Seen) (b : List ℕ) → IsUnreadable o.untag b → Takes mid new (λ y. (y ≡ b) × IsOne y × length y ≤ o.max) → Takes mid new (λ y. IsOne y × (length y ≤ o.max → IsUnreadable o.untag y))
taken_unread o mid new b unread t = takes_as mid.left new.left mid.offset new.offset _ _ t (λ y p. (p.1, λ le. subst (IsUnreadable o.untag) (sym p.0) unread))

pub ran_on : (o : Options) (old mid : Seen) (w v u : Option (List ℕ)) (c : Counts) → Ran o old mid w v c → Keeps v u → Ran o old mid w u c
ran_on o old mid w v u c r k = record { taken = takes_as old.left mid.left old.offset mid.offset _ _ r.taken (λ x p. (p.0, p.1, Appends-kept w v u p.0 p.2 k)) }

pub ran_passed : (o : Options) (old mid new : Seen) (w v u : Option (List ℕ)) (c d : Counts) (b : List ℕ) (yes : Bool) → Ran o old mid w v c → Takes mid new (λ y. (y ≡ b) × IsOne y × length y ≤ o.max)
    → MatchBool yes (Readably o.untag b (Appends v u)) (IsUnreadable o.untag b × Keeps v u)
    → MatchBool yes ((d.sifted ≡ c.sifted + 1) × (d.dropped ≡ c.dropped)) ((d.sifted ≡ c.sifted) × (d.dropped ≡ c.dropped + 1)) → Ran o old new w u d
ran_passed o old mid new w v u c d b true r t p n = ran_kept o old mid new w v u c d b r t p n.0 n.1
ran_passed o old mid new w v u c d b false r t p n = ran_dropped o old mid new w v u c d r (taken_unread o mid new b p.0 t) p.1 n.0 n.1

-- the same if no more is counted
pub ran_uncounted : (o : Options) (old mid new : Seen) (w v u : Option (List ℕ)) (c : Counts) (h : Halt) (b : List ℕ) (yes : Bool) → Ran o old mid w v c → Takes mid new (λ y. (y ≡ b) × IsOne y × length y ≤ o.max)
    → MatchBool yes (Readably o.untag b (Appends v u)) (IsUnreadable o.untag b × Keeps v u) → h ≡ halt.Decode stop.TooLong → Halts o old new w u h
ran_uncounted o old mid new w v u c h b true r t p e =
    let d : Counts = record { sifted = c.sifted + 1; dropped = c.dropped } in
    ran_halts o old new new w u u d h (ran_kept o old mid new w v u c d b r t p refl refl) (subst (ItemFails new new) (sym e) tt) (subst (IsPlace new new) (sym e) tt) (subst (ItemDeepAt (most_of o.max) new new) (sym e) tt) (Keeps-refl u) (λ q. let k : halt.Decode stop.TooLong ≡ halt.Decode stop.End = sym e ∙ q in cc)
ran_uncounted o old mid new w v u c h b false r t p e = ran_halts o old mid new w v u c h r (subst (ItemFails mid new) (sym e) tt) (subst (IsPlace mid new) (sym e) tt) (subst (ItemDeepAt (most_of o.max) mid new) (sym e) tt) p.1 (λ q. let k : halt.Decode stop.TooLong ≡ halt.Decode stop.End = sym e ∙ q in cc)

pub if_ok_as : (P Q : Counts → Type 0) (r : Result Counts Halt) → IfOk r P → ((d : Counts) → P d → Q d) → IfOk r Q
if_ok_as P Q (Ok d) p f = f d p
if_ok_as P Q (Err h) p f = tt

-- the output couldn't be handed on at the end
pub ran_unwritten : (o : Options) (old mid new : Seen) (w v u : Option (List ℕ)) (c : Counts) (h : Halt) → Ran o old mid w v c → h ≡ halt.Write → Keeps v u → Halts o old new w u h
ran_unwritten o old mid new w v u c h r e k = record { mid = mid; written = v; counts = c; before = r.taken; why = subst (HaltsAt o mid new v u) (sym e) (inl k) }

-- how often reader and writer have failed at the end
pub end_failures : (r : Result Counts Halt) (h : Halt) (m n : ℕ) → m ≡ failures_at h n → h ≡ halt.Decode stop.End → IfErr r (λ e. e ≡ halt.Write) → m ≡ failures_after r n
end_failures (Ok d) h m n is e q = is ∙ ap (λ z. failures_at z n) e
end_failures (Err x) h m n is e q = is ∙ (ap (λ z. failures_at z n) e ∙ sym (ap (λ z. failures_at z n) q))

pub end_written : (h : Halt) (m n : ℕ) → m ≡ writer_failures {T = Unit {0}} (Err h) n → h ≡ halt.Decode stop.End → m ≡ n
end_written h m n is e = is ∙ ap (λ z. writer_failures {T = Unit {0}} (Err z) n) e

pub passed_failures : (A B : Type 0) (h : Halt) (m n : ℕ) → m ≡ n → (IsUntold h × A) ⊎ ((h ≡ halt.Write) × B) → m ≡ failures_at h n
passed_failures A B h m n is (inl (inl p, a)) = is ∙ ap (λ z. failures_at z n) (sym p)
passed_failures A B h m n is (inl (inr p, a)) = is ∙ ap (λ z. failures_at z n) (sym p)
passed_failures A B h m n is (inr p) = is ∙ ap (λ z. failures_at z n) (sym p.0)
