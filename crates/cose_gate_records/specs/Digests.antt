-- The digest that stands for a question.
use Rattle.std.specs.Prelude.{◌≡◌, ℕ, List, All, length, map, Bool}
use Rattle.std.specs.List.{list_any, concat}
use Rattle.std.specs.Str.{bytes_eq}
use Rattle.sha2.specs.Hashers.{Holds256}
use Rattle.sha2.specs.Sha256.{sha256}
use Rattle.cose_gate_core.specs.Questions.{Question, Subject}
use Rattle.cose_gate_records.specs.Framing.{key_by}
use Rattle.cose_gate_records.specs.Records.{front_of}
use Rattle.cose_gate_records.specs.declared.digested.Digested.{Digested}

-- SHA-256 of the key in which SHA-256 of the covered bytes stands for these
abbrev pub digest_by : List ℕ → List ℕ → List ℕ → List ℕ
digest_by front covered signature = sha256 (key_by front (sha256 covered) signature)

abbrev pub digest_of : Question → List ℕ
digest_of q = digest_by (front_of q.subject) q.covered q.signature

-- whether the digest of a question is one of these
abbrev pub is_digest_among : List (List ℕ) → Question → Bool
is_digest_among digests q = list_any (λ d. bytes_eq d (digest_of q)) digests

-- bytes that are these digests, one after another
abbrev pub AreDigests : List ℕ → List (List ℕ) → Type 0
AreDigests bytes digests = (bytes ≡ concat digests) × All (λ d. length d ≡ 32) digests

-- the digests that a judge goes by, as they were received
abbrev pub digests_of : Digested → List (List ℕ)
digests_of judge = map (λ d. d.now) judge.digests.received.items

-- a question about this subject is held, with these covered bytes
abbrev pub IsHashed : Digested → Subject → List ℕ → Type 0
IsHashed judge subject covered =
    (judge.front.items ≡ front_of subject) × Holds256 judge.hasher covered
