-- Heads and strings that are taken from a decoder.
use Rattle.std.proofs.Common.{◌≡◌, ◌≤◌, ◌+◌, ℕ, List, [], ◌∷◌, ◌++◌, length, Bool, true, false, IsTrue, cond, get_or, Option, Some, None, refl, sym, ap, subst, ◌∙◌, append-nil, ◌^◌, inl, inr, length-append, arith}
use Rattle.std.specs.Io.KnownBytes.{Consumes}
use Rattle.ciborium_ll.specs.Device.{IsShort}
use Rattle.ciborium_ll.specs.Reading.{Moves, Tells, Ends, IsBadByte, fault_failures}
use Rattle.ciborium_ll.specs.Seen.{Seen, ReadTells}
use Rattle.ciborium_ll.specs.Title.{Title, Begins, IsCut, StartsBad, bytes_after}
use Rattle.ciborium_ll.specs.declared.hdr.Error.{Error}
use Rattle.ciborium_ll.specs.declared.hdr.Error.TheVariants as code
use Rattle.ciborium_ll.specs.declared.hdr.Header.{Header}
use Rattle.ciborium_ll.proofs.TitleLaws.{not_cut, not_bad}
use Rattle.cose_sift.specs.declared.taking.Stop.{Stop}
use Rattle.cose_sift.specs.declared.taking.Stop.TheVariants as stop
use Rattle.cbor_walk.specs.declared.walk.Fault.{Fault}
use Rattle.cbor_walk.specs.declared.walk.Fault.TheVariants as fault
use Rattle.cose_sift.specs.Taking.{HeadFails, StepFails, BeginsNone, IfKnown, stop_of, stopped_at, failures_by}
use Rattle.cbor_walk.specs.Walking.{Then, Long, Goes, Refuses, IsNothing, IfSyntax}
use Rattle.cbor_walk.proofs.Going.{regroup, goes_from}
use Rattle.cbor_walk.proofs.Steps.{only_rest, no_body}

-- a read of n bytes that failed
module _ {E : Type 0} (F : Stop → Type 0) (input : F stop.Input) (long : F stop.TooLong) (ends : E → Bool) (n : ℕ) (mid new : Seen) (end : Stop) (cut : IsShort mid.left n → F end) where
  by_end : (b : Bool) → (IsTrue b → IsShort mid.left n) → F (cond b end stop.Input)
  by_end true f = cut (f refl)
  by_end false f = input

  pub read_fails : (e : Error E) (s : Stop) → s ≡ stop_of ends end e → ReadTells ends n mid new e → F s
  read_fails (code.Io e) s is f = subst F (sym is) (by_end (ends e) f)
  read_fails (code.Syntax p) s is f = absurd f
  read_fails code.TooLong s is f = subst F (sym is) long
  read_fails code.Waiting s is f = subst F (sym is) input

-- how often the reader has failed then, if no header waited
by_ends : (b : Bool) (end : Stop) (n : ℕ) → failures_by end n ≡ n → cond b n (n + 1) ≡ failures_by (cond b end stop.Input) n
by_ends true end n none = sym none
by_ends false end n none = refl

stop_failures : {E : Type 0} (ends : E → Bool) (k n : ℕ) (mid new : Seen) (end : Stop) (e : Error E) → mid.waiting ≡ None → failures_by end n ≡ n → ReadTells ends k mid new e → fault_failures ends e n ≡ failures_by (stop_of ends end e) n
stop_failures ends k n mid new end (code.Io e) fresh none f = by_ends (ends e) end n none
stop_failures ends k n mid new end (code.Syntax p) fresh none f = refl
stop_failures ends k n mid new end code.TooLong fresh none f = refl
stop_failures ends k n mid new end code.Waiting fresh none f = absurd (f.0 fresh)

pub read_failed : {E : Type 0} (ends : E → Bool) (k n m : ℕ) (mid new : Seen) (end : Stop) (e : Error E) (s : Stop) → mid.waiting ≡ None → failures_by end n ≡ n → ReadTells ends k mid new e → s ≡ stop_of ends end e
    → m ≡ fault_failures ends e n → m ≡ failures_by s n
read_failed ends k n m mid new end e s fresh none f is was = was ∙ stop_failures ends k n mid new end e fresh none f ∙ ap (λ z. failures_by z n) (sym is)

-- the input ends before the first byte of a head, or after it
pub short_first : (left : Option (List ℕ)) (n : ℕ) → n ≡ 1 → IsShort left n → IfKnown left IsNothing
short_first None n is short = tt
short_first (Some []) n is short = refl
short_first (Some (x ∷ xs)) n is short = absurd (omega arith)

-- what is due in an item that begins with a head
module _ (P : List ℕ → Type 0) (begins : (i : List ℕ) → P i → (h : Header) × (rest : List ℕ) × Begins i h rest) where
  pub cut_none : (left : Option (List ℕ)) → IfKnown left IsCut → BeginsNone P left
  cut_none None c = tt
  cut_none (Some b) c = λ i behind p e. let q = begins i p in not_cut q.2.title (q.1 ++ behind) q.0 q.2.is_title (subst IsCut (sym (sym (regroup i q.2.title q.1 behind q.2.whole) ∙ e)) c)

  end_cut : (left : Option (List ℕ)) → IfKnown left IsNothing → IfKnown left IsCut
  end_cut None e = tt
  end_cut (Some b) e = subst IsCut (sym e) tt

  bad_on : (x left : List ℕ) → StartsBad x → StartsBad (x ++ left)
  bad_on [] left bad = absurd bad
  bad_on (f ∷ fs) left bad = bad

  bad_refuses : (x : List ℕ) → StartsBad x → Refuses P x
  bad_refuses x bad i behind left p e = let q = begins i p in not_bad q.2.title (q.1 ++ behind) q.0 q.2.is_title (subst StartsBad (sym (sym (regroup i q.2.title q.1 behind q.2.whole) ∙ e)) (bad_on x left bad))

  pub head_fails : (old new : Seen) (s : Stop) → HeadFails old new s → StepFails P old new s
  head_fails old new (stop.Syntax p) f = (f.0, record { bytes = f.1.bytes; has = (inr f.1.has, bad_refuses f.1.bytes f.1.has); taken = f.1.taken; grown = f.1.grown })
  head_fails old new stop.End f = (f.0, f.1, cut_none old.left (end_cut old.left f.1))
  head_fails old new stop.Cut f = cut_none old.left f
  head_fails old new stop.Deep f = tt
  head_fails old new stop.Input f = tt
  head_fails old new stop.TooLong f = tt
  head_fails old new stop.Memory f = tt

-- the walk stopped at a head
pub walk_fails : (W : List ℕ → Type 0) (body : ℕ) (old new : Seen) (h : Header) (at : ℕ) (f : Fault) (s : Stop) (x : List ℕ) → body ≡ 0 → s ≡ stopped_at at f → at ≡ old.offset → Title x h
    → Consumes old.left new.left x → new.offset ≡ old.offset + length x → IfSyntax ((title : List ℕ) → Title title h → Refuses W title) f → StepFails (Then (Long body) W) old new s
walk_fails W body old new h at fault.Syntax s x none is e t c g r =
    subst (StepFails (Then (Long body) W) old new) (sym is) (e, record { bytes = x; has = (inl (h, t), λ i behind left p. r x t i behind left (only_rest W i (subst (λ z. Then (Long z) W i) none p))); taken = c; grown = g })
walk_fails W body old new h at fault.Deep s x none is e t c g r = subst (StepFails (Then (Long body) W) old new) (sym is) tt
walk_fails W body old new h at fault.Memory s x none is e t c g r = subst (StepFails (Then (Long body) W) old new) (sym is) tt

-- a title of so many bytes as its first one says is the whole
pub title_whole : (b rest : List ℕ) (h : Header) → Title b h → length (b ++ rest) ≡ 1 + bytes_after (get_or (b ++ rest) 0 0) → rest ≡ []
title_whole [] rest h t len = absurd (not_cut [] [] h t tt)
title_whole (x ∷ xs) [] h t len = refl
title_whole (x ∷ xs) (y ∷ ys) h t len = absurd (not_cut (x ∷ xs) [] h t (omega (arith, length-append xs [], length-append xs (y ∷ ys))))

pub title_is : (title : List ℕ) (new : Option (List ℕ)) (o o' : ℕ) (h : Header) → length title ≡ 1 + bytes_after (get_or title 0 0) → Moves (Some title) new o o' (λ b. Title b h) → Title title h
title_is title None o o' h len m = absurd m.taken
title_is title (Some ys) o o' h len m =
    let e : title ≡ m.bytes ++ ys = m.taken in
    let none : ys ≡ [] = title_whole m.bytes ys h m.has (subst (λ (z : List ℕ). length z ≡ 1 + bytes_after (get_or z 0 0)) e len) in
    subst (λ (z : List ℕ). Title z h) (sym (e ∙ ap (λ z. m.bytes ++ z) none ∙ append-nil m.bytes)) m.has

bad_first : (title : List ℕ) (new : Option (List ℕ)) (o o' : ℕ) → Moves (Some title) new o o' IsBadByte → StartsBad title
bad_first title None o o' m = absurd m.taken
bad_first title (Some ys) o o' m = subst StartsBad (sym (m.taken ∙ ap (λ z. z ++ ys) m.has.1)) m.has.2

no_cut : (title : List ℕ) → length title ≡ 1 + bytes_after (get_or title 0 0) → IsCut title → ⊥
no_cut [] len cut = omega arith
no_cut (x ∷ xs) len cut = omega arith

pub title_bad : {E : Type 0} (ends : E → Bool) (title : List ℕ) (new : Option (List ℕ)) (o o' : ℕ) (e : Error E) → o ≡ 0 → length title ≡ 1 + bytes_after (get_or title 0 0)
    → Tells ends (Ends (Some title) new o o') (λ p. (p ≡ o) × Moves (Some title) new o o' IsBadByte) (2 ^ 64 ≤ o + 9) e → ((e : E) → IsTrue (ends e)) → StartsBad title
title_bad ends title new o o' (code.Io e) none len t all = absurd (no_cut title len (t (all e)).0)
title_bad ends title new o o' (code.Syntax p) none len t all = bad_first title new o o' t.1
title_bad ends title new o o' code.TooLong none len t all = absurd (omega arith)
title_bad ends title new o o' code.Waiting none len t all = absurd t

-- a head that the walk took
pub head_goes_on : (W V : List ℕ → Type 0) (body more : ℕ) (h : Header) (x : List ℕ) → body ≡ 0 → Title x h → ((title : List ℕ) → Title title h → Goes W (Then (Long more) V) title) → Goes (Then (Long body) W) (Then (Long more) V) x
head_goes_on W V body more h x none t g = rw none (goes_from (Then (Long 0) W) W (Then (Long more) V) x (only_rest W) (no_body W) (g x t))

-- if no bytes of a string are due, what is due begins as what is due after them
pub body_begins : (W : List ℕ → Type 0) (body : ℕ) → body ≡ 0 → ((i : List ℕ) → W i → (h : Header) × (rest : List ℕ) × Begins i h rest) → (i : List ℕ) → Then (Long body) W i → (h : Header) × (rest : List ℕ) × Begins i h rest
body_begins W body none f i w = f i (only_rest W i (subst (λ (z : ℕ). Then (Long z) W i) none w))
