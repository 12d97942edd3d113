-- No byte is left: the one fault that is due is an end.
use Rattle.std.proofs.Common.{◌≡◌, inl, inr, ℕ, ◌+◌, ◌<◌, List, [], ◌++◌, length, Option, None, Some, refl, ap, subst, ◌∙◌, arith, length-append}
use Rattle.std.specs.Str.{IsUtf8}
use Rattle.ciborium_ll.specs.declared.hdr.Header.{Header}
use Rattle.ciborium_ll.specs.declared.hdr.Header.TheVariants.{Bytes, Text}
use Rattle.ciborium_ll.specs.Title.{Begins, StartsBad}
use Rattle.ciborium_ll.specs.Framing.{Any, Opened, opened, deeper}
use Rattle.ciborium.specs.Damage.{Fault, end, Damage, in_title, in_bytes, in_text, unassigned, stray_break, too_negative, too_deep, in_child, in_free, TitleDamage, cut_title, bad_title, ChunkDamage, cut_body, bad_body, StringDamage}
use Rattle.ciborium.proofs.StringLemmas.{title_some}

begins_some : (b : List ℕ) (h : Header) (r : List ℕ) → Begins b h r → b ≡ [] → ⊥
begins_some b h r s e =
    let t = title_some s.title h s.is_title in
    let l : length b ≡ length s.title + length r = ap length s.whole ∙ length-append s.title r in
    let z : length b ≡ 0 = ap length e in
    omega arith

opened_some : (k : Option ℕ → Header) (P : List ℕ → Type 0) (n : ℕ) (b : List ℕ) (xs : List (List ℕ)) → Opened k P n b xs → 0 < length b
opened_some k P _ _ _ (opened title inner xs t fs) = let s = title_some title (k None) t in omega (arith, length-append title inner)
opened_some k P _ _ _ (deeper n b title inner xs ys o t fs) = let s = opened_some k P n b xs o in omega (arith, length-append b (title ++ inner))

title_end : (stop : ℕ) (b : List ℕ) (f : Fault) → TitleDamage stop b f → b ≡ [] → f ≡ end
title_end stop b _ (cut_title c) e = refl
title_end stop b _ (bad_title p c _) e = absurd (subst StartsBad e c)

chunk_none : (k : Option ℕ → Header) (P : List ℕ → Type 0) (stop : ℕ) (b : List ℕ) (f : Fault) → ChunkDamage k P stop b f → b ≡ [] → ⊥
chunk_none k P stop b _ (cut_body n rest s _) e = begins_some b (k (Some n)) rest s e
chunk_none k P stop b _ (bad_body n p rest s _ _) e = begins_some b (k (Some n)) rest s e

string_none : (k : Option ℕ → Header) (P : List ℕ → Type 0) (stop : ℕ) (b : List ℕ) (f : Fault) → StringDamage k P stop b f → b ≡ [] → ⊥
string_none k P stop b f (inl d) e = chunk_none k P stop b f d e
string_none k P stop b f (inr (rest, i, d)) e =
    let s = opened_some k P i.opens i.read i.bodies i.is in
    let l : length b ≡ length i.read + length rest = ap length i.whole ∙ length-append i.read rest in
    let z : length b ≡ 0 = ap length e in
    omega arith

damage_end : (stop : ℕ) (b : List ℕ) (limit : ℕ) (f : Fault) → Damage stop b limit f → b ≡ [] → f ≡ end
damage_end stop _ _ _ (in_title b limit f d) e = title_end stop b f d e
damage_end stop _ _ _ (in_bytes b limit f d) e = absurd (string_none Bytes Any stop b f d e)
damage_end stop _ _ _ (in_text b limit f d) e = absurd (string_none Text IsUtf8 stop b f d e)
damage_end stop _ _ _ (unassigned b rest limit n s m) e = absurd (begins_some b _ rest s e)
damage_end stop _ _ _ (stray_break b rest limit s) e = absurd (begins_some b _ rest s e)
damage_end stop _ _ _ (too_negative b inside inner rest limit bodies s fr w n) e = absurd (begins_some b _ inside s e)
damage_end stop _ _ _ (too_deep b rest h s o) e = absurd (begins_some b h rest s e)
damage_end stop _ _ _ (in_child b inside rest limit h done f s l fs due d) e = absurd (begins_some b h inside s e)
damage_end stop _ _ _ (in_free b inside limit n f s free d) e = absurd (begins_some b _ inside s e)

pub empty_damage : (stop limit : ℕ) (f : Fault) → Damage stop [] limit f → f ≡ end
empty_damage stop limit f d = damage_end stop [] limit f d refl
