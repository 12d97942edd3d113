-- What a judge that asks by the rules says and keeps.
use Rattle.std.proofs.Common.{◌≡◌, ℕ, List, [], ◌∷◌, ◌++◌, Bool, Option, flat_map, sym, ap, subst, ◌∙◌, append_assoc}
use Rattle.std.specs.Global.{Vec}
use Rattle.std.specs.Prelude.{Result, Ok, Err}
use Rattle.std.specs.Result.{is_ok}
use Rattle.std.proofs.lemmas.List.{append-nil, append_cancel_left}
use Rattle.std.proofs.lemmas.Grind.{flat_map-append}
use Rattle.ciborium_ll.specs.declared.log.Log.{Log}
use Rattle.coset_keys.specs.Fields.{KeyFields}
use Rattle.cose_rules.specs.Claims.{TermsFields}
use Rattle.cose_rules.specs.Rule.{RulingFields, ask, refuse}
use Rattle.cose_rules.specs.declared.deciding.Refusal.{Refusal as Unasked}
use Rattle.cose_gate_core.specs.Questions.{Subject}
use Rattle.cose_gate_core.specs.declared.about.MessageKind.{MessageKind}
use Rattle.cose_gate_core.specs.declared.report.Entry.{Entry}
use Rattle.cose_gate_records.specs.Digests.{digest_by}
use Rattle.cose_gate_records.specs.Framing.{framed}
use Rattle.cose_gate_records.specs.Records.{front_of}
use Rattle.cose_ruled.specs.Blocks.{Part, AskedSoFar, ItemTerms, is_ask, by_ruling, about_of, part_by, part_of, IsBlock}
use Rattle.cose_ruled.specs.Told.{about_in, parts_in}
use Rattle.cose_ruled.specs.declared.told.Told.{Told}

-- yes if the rules allow it
pub yes_if : (about : Result (Vec ℕ) Unasked) (keys : List KeyFields) (kind : MessageKind) (r : RulingFields) (b : Bool)
    → b ≡ is_ok about → about_in about ≡ by_ruling keys kind r → b ≡ is_ask r
yes_if (Ok v) keys kind (ask s id) b is e = is
yes_if (Ok v) keys kind (refuse w) b is e = absurd (cc)
yes_if (Err w) keys kind (ask s id) b is e = absurd (cc)
yes_if (Err w) keys kind (refuse x) b is e = is

-- what is told of a question that was held
pub told_part : (about : Result (List ℕ) Unasked) (keys : List KeyFields) (subject : Subject) (front gathered lent covered signature digest : List ℕ)
    → lent ≡ gathered → digest ≡ digest_by front gathered signature → about ≡ about_of keys subject → front ≡ front_of subject → gathered ≡ covered
    → part_by about lent (framed signature ++ digest) ≡ part_of keys (record { subject = subject; covered = covered; signature = signature })
told_part about keys subject front gathered lent covered signature digest same is told at all =
    ap (λ (z : List ℕ). part_by about z (framed signature ++ digest)) (same ∙ all)
    ∙ (ap (λ (z : List ℕ). part_by about covered (framed signature ++ z))
    (is ∙ (ap (λ (z : List ℕ). digest_by z gathered signature) at ∙ ap (λ (z : List ℕ). digest_by (front_of subject) z signature) all))
    ∙ ap (λ (z : Result (List ℕ) Unasked). part_by z covered (framed signature ++ digest_by (front_of subject) covered signature)) told)

-- what was told before, and then this
pub told_on : (keys : List KeyFields) (before old now : List Part) (p q : Part) → now ≡ old ++ p ∷ [] → p ≡ q
    → ◌≡◌ {A = AskedSoFar} (record { keys = keys; told = before ++ now }) (record { keys = keys; told = (before ++ old) ++ q ∷ [] })
told_on keys before old now p q is same =
    ap (λ (z : List Part). record { keys = keys; told = z })
    (ap (λ (z : List Part). before ++ z) is ∙ (sym (append_assoc before old (p ∷ [])) ∙ ap (λ (z : Part). (before ++ old) ++ z ∷ []) same))

-- the next item begins behind all that was told
begun_behind : (before before' : List (Log Told)) (log : Log Told) (old : List Part) → before' ≡ before ++ log ∷ []
    → parts_in log ≡ old → flat_map parts_in before' ≡ flat_map parts_in before ++ old
begun_behind before before' log old e is =
    ap (λ (z : List (Log Told)). flat_map parts_in z) e
    ∙ (flat_map-append parts_in before (log ∷ []) ∙ ap (λ (z : List Part). flat_map parts_in before ++ z) (append-nil (parts_in log) ∙ is))

pub told_stays : (keys : List KeyFields) (before before' : List (Log Told)) (log : Log Told) (old now : List Part) → before' ≡ before ++ log ∷ []
    → parts_in log ≡ old → now ≡ []
    → ◌≡◌ {A = AskedSoFar} (record { keys = keys; told = flat_map parts_in before' ++ now }) (record { keys = keys; told = flat_map parts_in before ++ old })
told_stays keys before before' log old now e is none =
    ap (λ (z : List Part). record { keys = keys; told = z })
    (ap (λ (z : List Part). flat_map parts_in before' ++ z) none ∙ (append-nil (flat_map parts_in before') ∙ begun_behind before before' log old e is))

pub item_begins : (keys : List KeyFields) (before before' : List (Log Told)) (log : Log Told) (old : List Part) → before' ≡ before ++ log ∷ []
    → parts_in log ≡ old
    → ◌≡◌ {A = ItemTerms} (record { keys = keys; before = flat_map parts_in before' }) (record { keys = keys; before = flat_map parts_in before ++ old })
item_begins keys before before' log old e is =
    ap (λ (z : List Part). record { keys = keys; before = z }) (begun_behind before before' log old e is)

-- the block of what was told since
pub block_since : (token : Option TermsFields) (entry : Entry) (end : ℕ) (before now ps : List Part) (block : List ℕ) → IsBlock token entry end now block
    → before ++ now ≡ before ++ ps → IsBlock token entry end ps block
block_since token entry end before now ps block is e = subst (λ (z : List Part). IsBlock token entry end z block) (append_cancel_left before now ps e) is
