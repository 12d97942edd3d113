-- Which tags are good under secrets that are chosen by their key ids.
use Rattle.std.specs.Prelude.{ℕ, pos, List, Option, None, Some, Bool, false, ◌&&◌, if◌then◌else◌, slice_get}
use Rattle.std.specs.List.{position}
use Rattle.std.specs.Str.{bytes_eq}
use Rattle.cose_gate.specs.Hmac.{hmac}
use Rattle.cose_gate.specs.KeyHeaders.{has_algorithm, has_known_crit, key_id_of}
use Rattle.cose_gate.specs.Questions.{Subject, Question}
use Rattle.cose_gate.specs.Verifying.{if_chosen}
use Rattle.callers.specs.declared.choosing.Secret.{Secret}

-- the place of the first secret with this key id
abbrev pub place_of : List Secret → List ℕ → Option ℕ
place_of secrets id = position (λ secret. bytes_eq secret.id.now id) secrets

-- that of a message's key id, if its algorithm is HMAC 256/256 (5) and its critical labels are known
abbrev pub place_for : List Secret → Subject → Option ℕ
place_for secrets s =
    if has_algorithm (pos 5) s && has_known_crit s then place_of secrets (key_id_of s) else None

-- the tag is that of the covered bytes
abbrev pub is_tag_under : Option Secret → List ℕ → List ℕ → Bool
is_tag_under None covered tag = false
is_tag_under (Some secret) covered tag = bytes_eq (hmac secret.secret.now covered) tag

-- the rule: the tag of a question is good under the secret that is chosen
abbrev pub is_good : List Secret → Question → Bool
is_good secrets q = if_chosen (place_for secrets q.subject)
    (λ place. is_tag_under (slice_get secrets place) q.covered q.signature)
