-- The parts of a message that was streamed make one readable item of a stated length.
use Rattle.std.proofs.Common.{◌≡◌, ◌≢◌, ◌+◌, ℕ, Bool, true, false, cond, List, [], ◌∷◌, ◌++◌, length, Option, None, Some, refl, sym, ap, subst, ◌∙◌, ◌-◌, ◌≤◌, arith, append_assoc}
use Rattle.std.specs.Prelude.{is_none, option_map}
use denote.Bor.{Bor}
use Rattle.ciborium_ll.specs.declared.hdr.Header.TheVariants.{Tag, Bytes, Array}
use Rattle.ciborium_ll.specs.Title.{Title}
use Rattle.ciborium_ll.specs.Framing.{whole as whole_frame}
use Rattle.ciborium_ll.specs.Reading.{Moves}
use Rattle.ciborium_value.specs.Tree.{Tree, bytes, array, tag, Trees, no_trees, one_more, tree_count}
use Rattle.ciborium.specs.Front.{Reads, ReadsAll}
use Rattle.ciborium.specs.Reading.{ChildrenAfterHead}
use Rattle.ciborium.proofs.Once.{append_nil}
use Rattle.ciborium.proofs.Taking.{takes_then}
use Rattle.ciborium.specs.Frames.{snoc}
use Rattle.ciborium.proofs.ReadLemmas.{all_none, all_more}
use Rattle.ciborium.proofs.ChildLemmas.{all_count, array_read}
use Rattle.ciborium.proofs.TagLemmas.{tag_level, tag_read}
use Rattle.coset_headers.specs.Fields.{HeaderFields, ProtectedFields, protected}
use Rattle.coset_headers.specs.Headers.{HasProtected, HasHeader}
use Rattle.coset_headers.specs.View.{header_view, protected_view}
use Rattle.coset_headers.specs.declared.header.Header.{Header}
use Rattle.coset_headers.specs.declared.header.ProtectedHeader.{ProtectedHeader}
use Rattle.cose_gate_core.specs.RecipientView.{recipients_view}
use Rattle.cose_gate_core.specs.CoseRecipient.{CoseRecipient}
use Rattle.cose_gate_core.specs.Asked.{first_no, folded_over}
use Rattle.cose_gate_core.specs.Findings.{Bounds}
use Rattle.cose_gate_core.specs.Questions.{Question, Subject, alone, payload_of}
use Rattle.cose_gate_core.specs.declared.about.About.{About}
use Rattle.cose_gate_core.specs.declared.about.MessageKind.{MessageKind}
use Rattle.cose_gate_core.specs.Lent.{subject_of, signer_of}
use Rattle.cose_gate_core.specs.Received.{received_bytes}
use Rattle.cose_gate.specs.declared.form.Form.{Form}
use Rattle.cose_gate.specs.Forms.{tag_number, message_of, received_of}
use Rattle.cose_gate.specs.declared.form.Form.TheVariants as form
use Rattle.cose_gate.specs.Stated.{IsFour, closing, InPieces}
use Rattle.cose_gate.specs.Streaming.{CopiedBy}
use Rattle.cose_gate.specs.ElementFaults.{IsPart, Split}
use Rattle.cose_gate.proofs.Forms.{single_tag, single, judged_of, question_of, one_question}

-- the tag of a message, the title of an array, and the elements that are read so far
pub record Within (limits : Bounds) (f : Form) (o : Option ℕ) (done : Trees) (b : List ℕ) : Type 0 where
  pub tag_title : List ℕ
  pub array_title : List ℕ
  pub inner : List ℕ
  pub is_tag : Title tag_title (Tag (tag_number f))
  pub is_array : Title array_title (Array o)
  pub is_four : IsFour o
  pub reads : ReadsAll inner (limits.nesting - 2) done
  pub whole : b ≡ tag_title ++ (array_title ++ inner)

-- the payload, with its title, and with what P says of its bytes
pub record Paid (limits : Bounds) (f : Form) (o : Option ℕ) (a b : Tree) (n : ℕ) (P : List ℕ → Type 0) (x : List ℕ) : Type 0 where
  pub front : List ℕ
  pub title : List ℕ
  pub payload : List ℕ
  pub within : Within limits f o (one_more a (one_more b no_trees)) front
  pub is_title : Title title (Bytes (Some n))
  pub is_payload : length payload ≡ n
  pub has : P payload
  pub whole : x ≡ front ++ (title ++ payload)

pub part_is : (k : ℕ) (l₀ l₁ : Option (List ℕ)) (o₀ o₁ : ℕ) (Has : Tree → Type 0) → Moves l₀ l₁ o₀ o₁ (IsPart k Has) → (v : Tree) × Moves l₀ l₁ o₀ o₁ (λ (b : List ℕ). Reads b k v) × Has v
part_is k l₀ l₁ o₀ o₁ Has t = (t.has.0, record { bytes = t.bytes; has = t.has.1; taken = t.taken; grown = t.grown }, t.has.2)

-- the payload is an item
pub pays : (title payload : List ℕ) (n k : ℕ) → Title title (Bytes (Some n)) → length payload ≡ n → Reads (title ++ payload) k (bytes payload)
pays title payload n k t e = record {
  tree = bytes payload;
  spells = (payload ∷ [], whole_frame (title ++ payload) payload title (subst (λ (z : ℕ). Title title (Bytes (Some z))) (sym e) t) tt refl, append_nil payload);
  shallow = omega arith;
  means = refl;
}

-- the bytes of a header that was received
pub received_is : (p : ProtectedFields) (body : List ℕ) → received_of p ≢ None → body ≡ received_bytes p → received_of p ≡ Some body
received_is (protected None h) body there is = absurd (there refl)
received_is (protected (Some b) h) body there is = ap Some (sym is)

module _ (limits : Bounds) where
  pub within_start : (l₀ l₁ l₂ : Option (List ℕ)) (o₀ o₁ o₂ : ℕ) (f : Form) (o : Option ℕ) → Moves l₀ l₁ o₀ o₁ (λ (b : List ℕ). Title b (Tag (tag_number f))) → Moves l₁ l₂ o₁ o₂ (λ (b : List ℕ). Title b (Array o)) → IsFour o
      → Moves l₀ l₂ o₀ o₂ (Within limits f o no_trees)
  within_start l₀ l₁ l₂ o₀ o₁ o₂ f o t a four =
      takes_then l₀ l₁ l₂ o₀ o₁ o₂ _ _ (Within limits f o no_trees) t a (λ x y p q. record { tag_title = x; array_title = y; inner = []; is_tag = p; is_array = q; is_four = four; reads = all_none (limits.nesting - 2); whole = ap (λ z. x ++ z) (append_nil y) })

  pub within_grows : (f : Form) (o : Option ℕ) (done : Trees) (v : Tree) (x y : List ℕ) → Within limits f o done x → Reads y (limits.nesting - 2) v → Within limits f o (snoc done v) (x ++ y)
  within_grows f o done v x y w r = record {
    tag_title = w.tag_title;
    array_title = w.array_title;
    inner = w.inner ++ y;
    is_tag = w.is_tag;
    is_array = w.is_array;
    is_four = w.is_four;
    reads = all_more w.inner y (limits.nesting - 2) done v w.reads r;
    whole = ap (λ z. z ++ y) w.whole ∙ append_assoc w.tag_title (w.array_title ++ w.inner) y ∙ ap (λ z. w.tag_title ++ z) (append_assoc w.array_title w.inner y);
  }

  pub within_more : (l₀ l₁ l₂ : Option (List ℕ)) (o₀ o₁ o₂ : ℕ) (f : Form) (o : Option ℕ) (done : Trees) (v : Tree) → Moves l₀ l₁ o₀ o₁ (Within limits f o done) → Moves l₁ l₂ o₁ o₂ (λ (b : List ℕ). Reads b (limits.nesting - 2) v)
      → Moves l₀ l₂ o₀ o₂ (Within limits f o (snoc done v))
  within_more l₀ l₁ l₂ o₀ o₁ o₂ f o done v t r =
      takes_then l₀ l₁ l₂ o₀ o₁ o₂ (Within limits f o done) (λ (b : List ℕ). Reads b (limits.nesting - 2) v) (Within limits f o (snoc done v)) t r (λ x y w p. within_grows f o done v x y w p)

  pub paid : (l₀ l₁ l₂ l₃ : Option (List ℕ)) (o₀ o₁ o₂ o₃ : ℕ) (f : Form) (o : Option ℕ) (a b : Tree) (n : ℕ) (P : List ℕ → Type 0) → Moves l₀ l₁ o₀ o₁ (Within limits f o (one_more a (one_more b no_trees)))
      → Moves l₁ l₂ o₁ o₂ (λ (x : List ℕ). Title x (Bytes (Some n))) → Moves l₂ l₃ o₂ o₃ (λ (x : List ℕ). (length x ≡ n) × P x) → Moves l₀ l₃ o₀ o₃ (Paid limits f o a b n P)
  paid l₀ l₁ l₂ l₃ o₀ o₁ o₂ o₃ f o a b n P w t p =
      takes_then l₀ l₁ l₃ o₀ o₁ o₃ _ (λ (x : List ℕ). (s : List ℕ) × (y : List ℕ) × Title s (Bytes (Some n)) × (length y ≡ n) × P y × (x ≡ s ++ y)) (Paid limits f o a b n P) w
      (takes_then l₁ l₂ l₃ o₁ o₂ o₃ _ _ _ t p (λ x y q r. (x, y, q, r.0, r.1, refl)))
      (λ x y q r. record { front = x; title = r.0; payload = r.1; within = q; is_title = r.2; is_payload = r.3; has = r.4; whole = ap (λ z. x ++ z) r.5 })

  -- all parts make one item
  four_reads : 2 ≤ limits.nesting → (f : Form) (o : Option ℕ) (vs : Trees) (x : List ℕ) → tree_count vs ≡ 4 → Within limits f o vs x → Reads (x ++ closing o) limits.nesting (tag (tag_number f) (array vs))
  four_reads two f o vs x c w =
      let n = tag_number f in
      let k = limits.nesting in
      let inside = array_read o 4 (k - 1) (array vs) vs (w.inner ++ closing o) refl c (omega arith) (children o w.is_four) w.array_title w.is_array in
      let item = tag_read n k (array vs) (tag n (array vs)) (w.array_title ++ (w.inner ++ closing o)) (tag_level n k (array vs) (w.array_title ++ (w.inner ++ closing o)) (omega arith) inside) refl w.tag_title w.is_tag in
      subst (λ (z : List ℕ). Reads z k (tag n (array vs))) (sym (ap (λ z. z ++ closing o) w.whole ∙ append_assoc w.tag_title (w.array_title ++ w.inner) (closing o) ∙ ap (λ z. w.tag_title ++ z) (append_assoc w.array_title w.inner (closing o)))) item
    where
      reads : ReadsAll w.inner ((limits.nesting - 1) - 1) vs
      reads = subst (λ (z : ℕ). ReadsAll w.inner z vs) (let e : limits.nesting - 2 ≡ (limits.nesting - 1) - 1 = omega arith in e) w.reads

      children : (o : Option ℕ) → IsFour o → ChildrenAfterHead o 4 ((limits.nesting - 1) - 1) vs (w.inner ++ closing o)
      children None e = (w.inner, reads, refl)
      children (Some n) e = (e, subst (λ (z : List ℕ). ReadsAll z ((limits.nesting - 1) - 1) vs) (append_nil w.inner) reads)

  pub paid_within : (l₀ l₁ : Option (List ℕ)) (o₀ o₁ : ℕ) (f : Form) (o : Option ℕ) (a b : Tree) (n : ℕ) (P : List ℕ → Type 0) → Moves l₀ l₁ o₀ o₁ (Paid limits f o a b n P)
      → (payload : List ℕ) × Moves l₀ l₁ o₀ o₁ (Within limits f o (one_more a (one_more b (one_more (bytes payload) no_trees))))
  paid_within l₀ l₁ o₀ o₁ f o a b n P t =
      let w = t.has in (
        w.payload,
        record {
          bytes = t.bytes;
          has = subst (Within limits f o (one_more a (one_more b (one_more (bytes w.payload) no_trees)))) (sym w.whole)
              (within_grows f o (one_more a (one_more b no_trees)) (bytes w.payload) w.front (w.title ++ w.payload) w.within (pays w.title w.payload n (limits.nesting - 2) w.is_title w.is_payload));
          taken = t.taken;
          grown = t.grown;
        },
      )

first_alone : (b : Bool) → b ≡ is_none (cond b (option_map (λ (n : ℕ). n + 1) None) (Some 0))
first_alone true = refl
first_alone false = refl

carries : (f : Form) (p : ProtectedFields) (h : HeaderFields) (payload s : List ℕ) → payload_of (message_of f p h payload s) ≡ Some payload
carries form.Sign1 p h payload s = refl
carries form.Mac0 p h payload s = refl

pub checked : {T : Type 0} (limits : Bounds) → 2 ≤ limits.nesting → (decided : T → Question → T) (allows : Question → Bool) (aad body : List ℕ) (told told' : T) (room : ℕ) (lengths : List ℕ) (says : Bool) (l₀ l₁ l₂ l₃ : Option (List ℕ)) (o₀ o₁ o₂ o₃ n : ℕ) (f : Form) (o : Option ℕ) (a b : Tree)
    (p : ProtectedFields) (h : HeaderFields) (s : List ℕ) (P C : List ℕ → Type 0) → HasProtected limits.nesting a p limits.layers → HasHeader limits.nesting b h limits.layers → received_of p ≡ Some body → InPieces n room lengths
    → ((payload : List ℕ) → length payload ≡ n → P payload → (says ≡ allows (question_of f p h body aad payload s)) × (told' ≡ decided told (question_of f p h body aad payload s)))
    → Moves l₀ l₁ o₀ o₁ (Paid limits f o a b n (λ (x : List ℕ). P x × C x)) → Moves l₁ l₂ o₁ o₂ (λ (x : List ℕ). Reads x (limits.nesting - 2) (bytes s)) → Moves l₂ l₃ o₂ o₃ (λ (x : List ℕ). x ≡ closing o)
    → Moves l₀ l₃ o₀ o₃ (CopiedBy limits decided allows aad told told' room lengths C says)
checked limits two_below decided allows aad body told told' room lengths says l₀ l₁ l₂ l₃ o₀ o₁ o₂ o₃ n f o a b p h s P C hp hh got cut ask paid sig end =
    takes_then l₀ l₁ l₃ o₀ o₁ o₃ (Paid limits f o a b n (λ (x : List ℕ). P x × C x)) (λ (x : List ℕ). (y : List ℕ) × Reads y (limits.nesting - 2) (bytes s) × (x ≡ y ++ closing o)) _ paid
    (takes_then l₁ l₂ l₃ o₁ o₂ o₃ _ _ (λ (x : List ℕ). (y : List ℕ) × Reads y (limits.nesting - 2) (bytes s) × (x ≡ y ++ closing o)) sig end (λ x y r e. (x, r, ap (λ z. x ++ z) e)))
    (λ x y w r. all x y w r.0 r.1 r.2)
  where
    all : (x y : List ℕ) → Paid limits f o a b n (λ (x : List ℕ). P x × C x) x → (last : List ℕ) → Reads last (limits.nesting - 2) (bytes s) → y ≡ last ++ closing o → CopiedBy limits decided allows aad told told' room lengths C says (x ++ y)
    all x y w last r e =
        let v = w.within in
        let two = v.reads in
        let vs : Trees = one_more a (one_more b (one_more (bytes w.payload) (one_more (bytes s) no_trees))) in
        let item : Tree = tag (tag_number f) (array vs) in
        let three = within_grows limits f o (one_more a (one_more b no_trees)) (bytes w.payload) w.front (w.title ++ w.payload) v (pays w.title w.payload n (limits.nesting - 2) w.is_title w.is_payload) in
        let four = within_grows limits f o (one_more a (one_more b (one_more (bytes w.payload) no_trees))) (bytes s) (w.front ++ (w.title ++ w.payload)) last three r in
        let joint : x ++ y ≡ ((w.front ++ (w.title ++ w.payload)) ++ last) ++ closing o = ap (λ z. z ++ y) w.whole ∙ ap (λ z. (w.front ++ (w.title ++ w.payload)) ++ z) e ∙ sym (append_assoc (w.front ++ (w.title ++ w.payload)) last (closing o)) in
        let behind : (w.title ++ w.payload) ++ y ≡ w.title ++ (w.payload ++ (last ++ closing o)) = ap (λ z. (w.title ++ w.payload) ++ z) e ∙ append_assoc w.title w.payload (last ++ closing o) in
        let flat : x ++ y ≡ v.tag_title ++ (v.array_title ++ (v.inner ++ (w.title ++ (w.payload ++ (last ++ closing o))))) =
        ap (λ z. z ++ y) (w.whole ∙ ap (λ z. z ++ (w.title ++ w.payload)) v.whole)
        ∙ append_assoc (v.tag_title ++ (v.array_title ++ v.inner)) (w.title ++ w.payload) y ∙ append_assoc v.tag_title (v.array_title ++ v.inner) ((w.title ++ w.payload) ++ y)
        ∙ ap (λ z. v.tag_title ++ z) (append_assoc v.array_title v.inner ((w.title ++ w.payload) ++ y)) ∙ ap (λ z. v.tag_title ++ (v.array_title ++ (v.inner ++ z))) behind in
        let said = ask w.payload w.is_payload w.has.0 in
        let one = one_question f p h body aad w.payload s got in
        record {
          checked = record {
            item = item;
            message = message_of f p h w.payload s;
            size = n;
            reads = subst (λ (z : List ℕ). Reads z limits.nesting item) (sym joint) (four_reads limits two_below f o vs ((w.front ++ (w.title ++ w.payload)) ++ last) refl four);
            is = judged_of limits f a b p h w.payload s hp hh;
            single = single f p h w.payload s;
            stated = record {
              number = tag_number f;
              is_single = single_tag f;
              tag_title = v.tag_title;
              array_title = v.array_title;
              count = o;
              headers = v.inner;
              two = two.trees;
              length_title = w.title;
              payload = w.payload;
              last = last;
              signature = r.tree;
              is_tag = v.is_tag;
              is_array = v.is_array;
              is_four = v.is_four;
              are_two = all_count two.trees (one_more a (one_more b no_trees)) two.means;
              spells = two.spells;
              is_length = w.is_title;
              is_payload = w.is_payload;
              spells_last = r.spells;
              whole = flat;
            };
            answer = said.0 ∙ first_alone _ ∙ ap (λ (qs : List Question). is_none (first_no allows qs)) (sym one);
            tells = said.1 ∙ ap (λ (qs : List Question). folded_over decided told qs) (sym one);
            pieces = cut;
          };
          payload = w.payload;
          is_payload = carries f p h w.payload s;
          is_copied = w.has.1;
        }

-- what the judge is told of the message
pub subject_is : (a : About) (k : MessageKind) (p : ProtectedHeader) (h : Header) → a.kind ≡ k → a.protected.now ≡ p → a.unprotected.now ≡ h → a.signer ≡ None → a.recipients.now ≡ []
    → subject_of a ≡ alone k (protected_view p) (header_view h)
subject_is a k p h ek ep eh es er =
    let made : MessageKind → ProtectedHeader → Header → Option (Bor ProtectedHeader × Bor Header) → List CoseRecipient → Subject =
    λ k p h s r. record { kind = k; protected = protected_view p; unprotected = header_view h; signer = signer_of s; recipients = recipients_view r } in
    ap (λ z. made z a.protected.now a.unprotected.now a.signer a.recipients.now) ek ∙ ap (λ z. made k z a.unprotected.now a.signer a.recipients.now) ep
    ∙ ap (λ z. made k p z a.signer a.recipients.now) eh ∙ ap (λ z. made k p h z a.recipients.now) es ∙ ap (λ z. made k p h None z) er

pub question_is : (a b : Subject) (c d s t : List ℕ) → a ≡ b → c ≡ d → s ≡ t → (let x : Question = record { subject = a; covered = c; signature = s } in x) ≡ (record { subject = b; covered = d; signature = t })
question_is a b c d s t p q r =
    let made : Subject → List ℕ → List ℕ → Question = λ x y z. record { subject = x; covered = y; signature = z } in
    ap (λ z. made z c s) p ∙ ap (λ z. made b z s) q ∙ ap (λ z. made b d z) r

pub in_pieces : (n room : ℕ) (old mid new : List ℕ) → Split n room old mid → new ≡ mid → InPieces n room new
in_pieces n room old mid new s e = record { front = old; pieces = s.0; whole = e ∙ s.1; cut = s.2 }

pub asked_as : {W Q A : Type 0} (f : W → Q → A) (a b : W) (q r : Q) (x : A) → x ≡ f a q → a ≡ b → q ≡ r → x ≡ f b r
asked_as f a b q r x e d h = e ∙ ap (λ z. f z q) d ∙ ap (f b) h
