-- What holds of both kinds of message.
use Rattle.std.proofs.Common.{◌≡◌, ◌≢◌, ℕ, inl, inr, List, [], ◌∷◌, false, None, Some, refl, arith}
use Rattle.ciborium_value.specs.Tree.{Tree, array, tag, Trees, tree_count, bytes, is_bytes}
use Rattle.ciborium_value.specs.View.{trees}
use Rattle.coset_headers.specs.Fields.{HeaderFields, ProtectedFields, protected}
use Rattle.coset_headers.specs.Headers.{HasProtected, HasHeader}
use Rattle.coset_headers.specs.Written.{shown}
use Rattle.coset_labels.specs.Faults.{CoseFault, unexpected}
use Rattle.ciborium_value.specs.Kinds.{is_array}
use Rattle.cose_gate_core.specs.WrongParts.{WrongParts}
use Rattle.cose_gate_core.specs.WrongParts as whole
use Rattle.cose_gate_core.specs.WrongSigned.{WrongSign1}
use Rattle.cose_gate_core.specs.WrongMaced.{WrongMac0, no_array0, in_parts0, in_tag0}
use Rattle.cose_gate_core.specs.WrongMaced as maced
use Rattle.coset_base.specs.Structure.{structure}
use Rattle.cose_gate_core.specs.Questions.{Question, questions, alone}
use Rattle.cose_gate_core.specs.Findings.{Bounds, IsJudged}
use Rattle.cose_gate_core.specs.Misshapen.{IsMisshapen, WrongMessage}
use Rattle.cose_gate.specs.declared.form.Form.{Form}
use Rattle.cose_gate.specs.declared.form.Form.TheVariants as form
use Rattle.cose_gate.specs.Forms.{tag_number, kind_of, context_of, message_of, received_of}
use Rattle.cose_gate.specs.Stated.{IsSingleTag, IsSingle}

pub not_two : (f : Form) → tag_number f ≢ 2
not_two form.Sign1 e = omega arith
not_two form.Mac0 e = omega arith

pub not_three : (f : Form) → tag_number f ≢ 3
not_three form.Sign1 e = omega arith
not_three form.Mac0 e = omega arith

pub single_tag : (f : Form) → IsSingleTag (tag_number f)
single_tag form.Sign1 = inr refl
single_tag form.Mac0 = inl refl

pub single : (f : Form) (p : ProtectedFields) (u : HeaderFields) (payload s : List ℕ) → IsSingle (message_of f p u payload s)
single form.Sign1 p u payload s = tt
single form.Mac0 p u payload s = tt

-- which fault a value has as the message
abbrev pub WrongForm : Bounds → Form → Tree → CoseFault → Type 0
WrongForm l form.Sign1 u e = WrongSign1 l.nesting u l.layers e
WrongForm l form.Mac0 u e = WrongMac0 l.nesting u l.layers e

pub shaped : (l : Bounds) (f : Form) (t u : Tree) (e : CoseFault) → t ≡ tag (tag_number f) u → WrongForm l f u e → IsMisshapen l t e
shaped l f t u e is w = (kind_of f, u, is, wrong f w)
  where
    wrong : (f : Form) → WrongForm l f u e → WrongMessage l (kind_of f) u e
    wrong form.Sign1 w = w
    wrong form.Mac0 w = w

pub no_array : (l : Bounds) (f : Form) (u : Tree) → is_array u ≡ false → WrongForm l f u unexpected
no_array l form.Sign1 u n = whole.no_array n
no_array l form.Mac0 u n = no_array0 u l.layers n

pub not_four_items : (l : Bounds) (f : Form) (ts : Trees) → tree_count ts ≢ 4 → WrongForm l f (array ts) unexpected
not_four_items l form.Sign1 ts n = whole.not_as_many ts refl n
not_four_items l form.Mac0 ts n = maced.not_four ts l.layers n

abbrev pub four_items : Tree → Tree → Tree → Tree → Tree
four_items a b c d = array (trees (a ∷ b ∷ c ∷ d ∷ []))

pub wrong_parts : (l : Bounds) (f : Form) (a b c d : Tree) (e : CoseFault) → WrongParts l.nesting a b c l.layers e → WrongForm l f (four_items a b c d) e
wrong_parts l form.Sign1 a b c d e w = whole.in_parts a b c (d ∷ []) e refl refl w
wrong_parts l form.Mac0 a b c d e w = in_parts0 a b c d l.layers e w

pub wrong_last : (l : Bounds) (f : Form) (a b c d : Tree) → is_bytes d ≡ false → WrongForm l f (four_items a b c d) unexpected
wrong_last l form.Sign1 a b c d n = whole.in_lasts a b c (d ∷ []) unexpected refl refl (inl (n, refl))
wrong_last l form.Mac0 a b c d n = in_tag0 a b c d l.layers n

-- a form by its tag
pub form_by : (n : ℕ) → IsSingleTag n → (f : Form) × (n ≡ tag_number f)
form_by n (inl e) = (form.Mac0, e)
form_by n (inr e) = (form.Sign1, e)

-- the parts of a message make one
pub judged_of : (l : Bounds) (f : Form) (a b : Tree) (p : ProtectedFields) (u : HeaderFields) (payload s : List ℕ) → HasProtected l.nesting a p l.layers → HasHeader l.nesting b u l.layers
    → IsJudged l (tag (tag_number f) (four_items a b (bytes payload) (bytes s))) (message_of f p u payload s)
judged_of l form.Sign1 a b p u payload s hp hu = (
  (
    four_items a b (bytes payload) (bytes s),
    refl,
    record {
      first = a;
      second = b;
      third = bytes payload;
      lasts = bytes s ∷ [];
      is = refl;
      parts = record { protected = hp; unprotected = hu; content = refl };
      hold = (refl, tt);
    },
  ),
  (payload, refl),
  λ n. n,
)
judged_of l form.Mac0 a b p u payload s hp hu = (
  (
    four_items a b (bytes payload) (bytes s),
    refl,
    record {
      first = a;
      second = b;
      third = bytes payload;
      lasts = bytes s ∷ [];
      is = refl;
      parts = record { protected = hp; unprotected = hu; content = refl };
      hold = (refl, tt);
    },
  ),
  (payload, refl),
  λ n. n,
)

shown_received : (p : ProtectedFields) (b : List ℕ) → received_of p ≡ Some b → shown p ≡ Some b
shown_received (protected (Some x) h) b e = e
shown_received (protected None h) b e = cc

-- the one question about it
abbrev pub question_of : Form → ProtectedFields → HeaderFields → List ℕ → List ℕ → List ℕ → List ℕ → Question
question_of f p u body aad payload s = record { subject = alone (kind_of f) p u; covered = structure (context_of f) body None aad payload; signature = s }

pub one_question : (f : Form) (p : ProtectedFields) (u : HeaderFields) (body aad payload s : List ℕ) → received_of p ≡ Some body
    → questions (message_of f p u payload s) aad ≡ question_of f p u body aad payload s ∷ []
one_question f p u body aad payload s e = go f p (shown_received p body e)
  where
    go : (f : Form) (p : ProtectedFields) → shown p ≡ Some body → questions (message_of f p u payload s) aad ≡ question_of f p u body aad payload s ∷ []
    go form.Sign1 p k = rw k
    go form.Mac0 p k = rw k
