-- What was written of questions, one after another.
use Rattle.std.proofs.Common.{◌≡◌, ℕ, zero, suc, ◌+◌, ◌-◌, ◌≤◌, List, [], ◌∷◌, ◌++◌, length, take, map, flat_map, Option, Some, None, true, false, refl, sym, ap, subst, ◌∙◌, arith, append-nil, append_assoc, length-append}
use Rattle.std.specs.Prelude.{Result, Ok, Err, OnErr, OnOk, IfOk, is_err, is_ok, if◌then◌else◌}
use Rattle.std.specs.Io.KnownBytes.{Appends, Keeps}
use Rattle.std.proofs.KnownBytes.{Appends-nil, Appends-trans}
use Rattle.std.proofs.Math.Seq.{take-length}
use Rattle.std.proofs.lemmas.Bool.{true≢false}
use Rattle.std.proofs.lemmas.List.{flat_map_more, map-append}
use Rattle.ciborium_ll.specs.Device.{AppendsFront, write_failures}
use Rattle.ciborium_ll.specs.declared.log.Log.{Log}
use Rattle.ciborium_ll.specs.declared.write.Write.{Ghosts as Writes}
use Rattle.ciborium_ll.proofs.Appending.{front_then, then_front}
use Rattle.cose_gate_core.specs.Asked.{folded_over}
use Rattle.cose_gate_core.specs.Questions.{Question}
use Rattle.cose_gate_command.specs.Asking.{Hands, IsStatus, SentText, or_status}
use Rattle.cose_gate_command.specs.Lines.{parts_of, told_as}
use Rattle.cose_gate_command.specs.Written.{IsQuestionWritten, AreWritten, AreWrittenSince, QuestionLog, HasText, HasTexts, Beginning, AreOut, HandedIfOk, added, parts_in}
use Rattle.cose_gate_command.specs.declared.options.Form.{Form}
use Rattle.cose_gate_command.specs.declared.not_run.NotRun.{NotRun}
use Rattle.cose_gate_command.specs.declared.not_run.NotRun.TheVariants as unrun
use Rattle.cose_gate_command.specs.declared.parts.Parts.{Parts}

-- a beginning is as long as what was added
same_front : (n : ℕ) (xs : List ℕ) → take (length (take n xs)) xs ≡ take n xs
same_front zero xs = refl
same_front (suc n) [] = refl
same_front (suc n) (x ∷ xs) = ap (λ (z : List ℕ). x ∷ z) (same_front n xs)

front_length : (xs ys text : List ℕ) (n : ℕ) → ys ≡ xs ++ take n text → length ys - length xs ≡ length (take n text)
front_length xs ys text n e =
    let l : length ys ≡ length xs + length (take n text) = ap (λ (z : List ℕ). length z) e ∙ length-append xs (take n text) in
    omega (arith, l)

as_added : (old new : Option (List ℕ)) (text : List ℕ) → AppendsFront old new text → Appends old new (take (added old new) text)
as_added None new text p = tt
as_added (Some xs) None text p = absurd p.1
as_added (Some xs) (Some ys) text p =
    p.1 ∙ ap (λ (z : List ℕ). xs ++ z) (sym (same_front p.0 text) ∙ ap (λ (k : ℕ). take k text) (sym (front_length xs ys text p.0 p.1)))

-- the last of a list, by what it is mapped to
record LastIs {X Y : Type 0} (f : X → Y) (qs : List X) (ys : List Y) (y : Y) : Type 0 where
  pub before : List X
  pub last : X
  pub whole : qs ≡ before ++ last ∷ []
  pub first : map f before ≡ ys
  pub is_last : y ≡ f last

last_is : {X Y : Type 0} (f : X → Y) (qs : List X) (ys : List Y) (y : Y) → map f qs ≡ ys ++ y ∷ [] → LastIs f qs ys y
last_is f [] [] y e = cc
last_is f (q ∷ []) [] y e = record { before = []; last = q; whole = refl; first = refl; is_last = cc }
last_is f (q ∷ r ∷ qs) [] y e = cc
last_is f [] (x ∷ ys) y e = cc
last_is f (q ∷ qs) (x ∷ ys) y e =
    let same : map f qs ≡ ys ++ y ∷ [] = cc in
    let head : f q ≡ x = cc in
    let r = last_is f qs ys y same in
    record {
      before = q ∷ r.before;
      last = r.last;
      whole = ap (λ (z : List _). q ∷ z) r.whole;
      first = λ i. head i ∷ r.first i;
      is_last = r.is_last;
    }

pub one_more : (told : List Parts) (p : Parts) (all : List Parts) {parts : List ℕ × List ℕ} → all ≡ told ++ p ∷ [] → parts_in p ≡ parts → map parts_in all ≡ map parts_in told ++ parts ∷ []
one_more told p all e is = ap (map parts_in) e ∙ (map-append parts_in told (p ∷ []) ∙ ap (λ (z : _). map parts_in told ++ z ∷ []) is)

take_whole : {A : Type 0} (n : ℕ) (xs ys : List A) → n ≡ length xs → take n (xs ++ ys) ≡ xs
take_whole zero [] ys e = refl
take_whole zero (x ∷ xs) ys e = absurd (omega (arith, e))
take_whole (suc n) [] ys e = absurd (omega (arith, e))
take_whole (suc n) (x ∷ xs) ys e = ap (λ (z : List _). x ∷ z) (take_whole n xs ys (omega (arith, e)))

take_within : {A : Type 0} (n : ℕ) (xs ys : List A) → n ≤ length xs → take n (xs ++ ys) ≡ take n xs
take_within zero xs ys l = refl
take_within (suc n) [] ys l = absurd (omega (arith, l))
take_within (suc n) (x ∷ xs) ys l = ap (λ (z : List _). x ∷ z) (take_within n xs ys (omega (arith, l)))

module _ {W F : Type 0} (w : Writes W F) where
  pub stopped : (old new : W) (n : ℕ) (text : List ℕ) → w.failed new ≡ w.failed old + n → AppendsFront (w.written old) (w.written new) text → Beginning w old new n text
  stopped old new n text f p = (f, as_added (w.written old) (w.written new) text p)

  front : (old new : W) (n : ℕ) (text : List ℕ) → Beginning w old new n text → AppendsFront (w.written old) (w.written new) text
  front old new n text p = (added (w.written old) (w.written new), p.1)

  -- all of one text, and a beginning of another
  stopped_then : (old mid new : W) (n : ℕ) (a b : List ℕ) → HasText w old mid (Ok tt) a → Beginning w mid new n b → Beginning w old new n (a ++ b)
  stopped_then old mid new n a b p q =
      stopped old new n (a ++ b) (q.0 ∙ ap (λ (k : ℕ). k + n) p.0) (then_front (w.written old) (w.written mid) (w.written new) a b p.1 (front mid new n b q))

  stopped_more : (old new : W) (n : ℕ) (a b : List ℕ) → Beginning w old new n a → Beginning w old new n (a ++ b)
  stopped_more old new n a b p = stopped old new n (a ++ b) p.0 (front_then (w.written old) (w.written new) a b (front old new n a p))

  module _ (form : Form) where
    with_last : (qs : List Question) (q : Question) → flat_map (told_as form) qs ++ told_as form q ≡ flat_map (told_as form) (qs ++ q ∷ [])
    with_last qs q = flat_map_more (told_as form) [] qs q

    -- one more question after some that were all written
    came_then : (old mid new : W) (r : Result (Unit {0}) NotRun) (n n' : ℕ) (qs : List Question) (q : Question) → HasTexts w form old mid (Ok tt) n qs → HasText w mid new r (told_as form q)
        → n' ≡ (if is_ok r then n + 1 else n) → HasTexts w form old new r n' (qs ++ q ∷ [])
    came_then old mid new (Ok u) n n' qs q p t e = (
      (let l : length (qs ++ q ∷ []) ≡ length qs + 1 = length-append qs (q ∷ []) in let k : n ≡ length qs = p.0 in let m : n' ≡ n + 1 = e in omega arith),
      (t.0 ∙ p.1.0, subst (Appends (w.written old) (w.written new)) (with_last qs q) (Appends-trans (w.written old) (w.written mid) (w.written new) (flat_map (told_as form) qs) (told_as form q) p.1.1 t.1)),
    )
    came_then old mid new (Err unrun.Memory) n n' qs q p t e =
        let l : length (qs ++ q ∷ []) ≡ length qs + 1 = length-append qs (q ∷ []) in
        let k : n ≡ length qs = p.0 in
        let m : n' ≡ n = e in
        let all : take n' (qs ++ q ∷ []) ≡ qs = take_whole n' qs (q ∷ []) (m ∙ k) in (
          omega arith,
          (
            t.0 ∙ p.1.0,
            subst (Appends (w.written old) (w.written new)) (append-nil (flat_map (told_as form) qs) ∙ ap (flat_map (told_as form)) (sym all))
                (Appends-trans (w.written old) (w.written mid) (w.written new) (flat_map (told_as form) qs) [] p.1.1 t.1),
          ),
        )
    came_then old mid new (Err unrun.Output) n n' qs q p t e =
        subst (Beginning w old new 1) (with_last qs q) (stopped_then old mid new 1 (flat_map (told_as form) qs) (told_as form q) p.1 t)
    came_then old mid new (Err why) n n' qs q p t e = absurd t

    -- one more question after one that wasn't written
    fell_more : (old new : W) (why : NotRun) (n : ℕ) (qs : List Question) (q : Question) → HasTexts w form old new (Err why) n qs → HasTexts w form old new (Err why) n (qs ++ q ∷ [])
    fell_more old new unrun.Memory n qs q p =
        let l : length (qs ++ q ∷ []) ≡ length qs + 1 = length-append qs (q ∷ []) in
        let k : n ≤ length qs = p.0 in
        (omega arith, (p.1.0, subst (λ (z : List Question). Appends (w.written old) (w.written new) (flat_map (told_as form) z)) (sym (take_within n qs (q ∷ []) p.0)) p.1.1))
    fell_more old new unrun.Output n qs q p = subst (Beginning w old new 1) (with_last qs q) (stopped_more old new 1 (flat_map (told_as form) qs) (told_as form q) p)
    fell_more old new why n qs q p = absurd p

    arrived_then : (begun : List W) (mid new : W) (r : Result (Unit {0}) NotRun) (n n' : ℕ) (qs : List Question) (q : Question) → AreWrittenSince w form begun mid (Ok tt) n qs → IsQuestionWritten w mid new r (told_as form q)
        → n' ≡ (if is_ok r then n + 1 else n) → AreWrittenSince w form begun new r n' (qs ++ q ∷ [])
    arrived_then [] mid new r n n' qs q p t e = tt
    arrived_then (old ∷ more) mid new r n n' qs q p t e = (t.0 ∙ p.0, came_then old mid new r n n' qs q p.1 t.1 e)

    arrived_more : (begun : List W) (new : W) (why : NotRun) (n : ℕ) (qs : List Question) (q : Question) → AreWrittenSince w form begun new (Err why) n qs → AreWrittenSince w form begun new (Err why) n (qs ++ q ∷ [])
    arrived_more [] new why n qs q p = tt
    arrived_more (old ∷ more) new why n qs q p = (p.0, fell_more old new why n qs q p.1)

    -- one more question, which was written or not, if all before it were written
    pub writes_next : (begun : Log W) (old new : W) (written written' : Result (Unit {0}) NotRun) (sent sent' : Log ℕ) (told told' : Log Parts) (parts : List ℕ × List ℕ)
        → AreOut w form begun old written sent told → OnErr written ((written' ≡ written) × (new ≡ old))
        → OnOk written ((q : Question) → parts ≡ parts_of form q → IsQuestionWritten w old new written' (told_as form q))
        → length sent'.items ≡ (if is_ok written' then length sent.items + 1 else length sent.items)
        → map parts_in told'.items ≡ map parts_in told.items ++ parts ∷ [] → AreOut w form begun new written' sent' told'
    writes_next begun old new (Ok u) written' sent sent' told told' parts before none one count more qs e =
        let l = last_is (parts_of form) qs (map parts_in told.items) parts (e ∙ more) in
        subst (λ (z : List Question). AreWrittenSince w form begun.items new written' (length sent'.items) z) (sym l.whole)
        (arrived_then begun.items old new written' (length sent.items) (length sent'.items) l.before l.last (before l.before l.first) (one l.last l.is_last) count)
    writes_next begun old new (Err why) written' sent sent' told told' parts before same one count more qs e =
        let l = last_is (parts_of form) qs (map parts_in told.items) parts (e ∙ more) in
        let c : length sent'.items ≡ length sent.items = subst (λ (z : Result (Unit {0}) NotRun). length sent'.items ≡ (if is_ok z then length sent.items + 1 else length sent.items)) same.0 count in
        let p = subst (λ (z : List Question). AreWrittenSince w form begun.items old (Err why) (length sent.items) z) (sym l.whole)
        (arrived_more begun.items old why (length sent.items) l.before l.last (before l.before l.first)) in
        subst (λ (z : W). AreWrittenSince w form begun.items z written' (length sent'.items) qs) (sym same.1)
        (subst (λ (z : Result (Unit {0}) NotRun). AreWrittenSince w form begun.items old z (length sent'.items) qs) (sym same.0)
        (subst (λ (k : ℕ). AreWrittenSince w form begun.items old (Err why) k qs) (sym c) p))

  -- nothing was written of no questions
  pub none_written : (form : Form) (begun : Log W) (now : W) (sent : Log ℕ) (told : Log Parts) → begun.items ≡ now ∷ [] → sent.items ≡ [] → told.items ≡ [] → AreOut w form begun now (Ok tt) sent told
  none_written form begun now sent told first unsent none [] e =
      subst (λ (z : List W). AreWrittenSince w form z now (Ok tt) (length sent.items) []) (sym first) (refl, (ap (λ (z : List ℕ). length z) unsent, (refl, Appends-nil (w.written now))))
  none_written form begun now sent told first unsent none (q ∷ qs) e =
      let c : map (parts_of form) (q ∷ qs) ≡ [] = e ∙ ap (map parts_in) none in cc

  -- a judge that was told these
  abbrev tells : QuestionLog W → Question → QuestionLog W
  tells s q = record s { told = s.told ++ parts_of s.form q ∷ [] }

  told_over : (s : QuestionLog W) (qs : List Question) → folded_over tells s qs ≡ record s { told = s.told ++ map (parts_of s.form) qs }
  told_over s [] = ap (λ (z : List _). record s { told = z }) (sym (append-nil s.told))
  told_over s (q ∷ qs) = told_over (tells s q) qs ∙ ap (λ (z : List _). record s { told = z }) (append_assoc s.told (parts_of s.form q ∷ []) (map (parts_of s.form) qs))

  -- a judge with these, on a writer of this name
  abbrev judge : ℕ → List W → Form → List (List ℕ × List ℕ) → QuestionLog W
  judge name begun form told = record { name = name; was = begun; form = form; told = told }

  module _ (name name' : ℕ) (begun begun' : List W) (form form' : Form) (told told' : List (List ℕ × List ℕ)) (qs : List Question)
      (heard : judge name' begun' form' told' ≡ folded_over tells (judge name begun form told) qs) where
    all : judge name' begun' form' told' ≡ judge name begun form (told ++ map (parts_of form) qs)
    all = heard ∙ told_over (judge name begun form told) qs

    pub told_name : name' ≡ name
    told_name = ap (λ (z : QuestionLog W). z.name) all

    pub all_arrived : (first now : W) (b : Log W) (written : Result (Unit {0}) NotRun) (sent : Log ℕ) (t : Log Parts) (f : Form) → begun ≡ first ∷ [] → told ≡ [] → b.items ≡ begun'
        → map parts_in t.items ≡ told' → form ≡ f → AreOut w form' b now written sent t → AreWritten w f first now written (length sent.items) qs
    all_arrived first now b written sent t f starts none same is in_form wrote =
        let fs : form' ≡ f = ap (λ (z : QuestionLog W). z.form) all ∙ in_form in
        let bs : b.items ≡ first ∷ [] = same ∙ (ap (λ (z : QuestionLog W). z.was) all ∙ starts) in
        let ts : map parts_in t.items ≡ map (parts_of form') qs
        = is ∙ (ap (λ (z : QuestionLog W). z.told) all ∙ (ap (λ (z : List _). z ++ map (parts_of form) qs) none ∙ ap (λ (z : Form). map (parts_of z) qs) (in_form ∙ sym fs))) in
        subst (λ (z : Form). AreWritten w z first now written (length sent.items) qs) fs
        (subst (λ (z : List W). AreWrittenSince w form' z now written (length sent.items) qs) bs (wrote qs (sym ts)))

    pub all_handed : (first now : W) (b : List W) (written : Result (Unit {0}) NotRun) → begun ≡ first ∷ [] → b ≡ begun' → HandedIfOk w b now written → HandedIfOk w (first ∷ []) now written
    all_handed first now b written starts same h =
        subst (λ (z : List W). HandedIfOk w z now written) (same ∙ (ap (λ (z : QuestionLog W). z.was) all ∙ starts)) h

  -- nothing is held back of no questions, nor after one that was handed on
  pub none_handed : (now : W) (begun : List W) → begun ≡ now ∷ [] → HandedIfOk w begun now (Ok tt)
  none_handed now begun first = subst (λ (z : List W). HandedIfOk w z now (Ok tt)) (sym first) (λ none. none)

  pub next_handed : (begun : List W) (new : W) (written : Result (Unit {0}) NotRun) → OnOk written (w.held new ≡ []) → HandedIfOk w begun new written
  next_handed [] new written handed = tt
  next_handed (old ∷ more) new (Ok u) handed = λ none. handed
  next_handed (old ∷ more) new (Err why) handed = tt

  pub handed_by : (first now : W) (s : ℕ) (written : Result (Unit {0}) NotRun) (result : Result ℕ NotRun) → result ≡ or_status s written → HandedIfOk w (first ∷ []) now written
      → w.held first ≡ [] → OnOk result (w.held now ≡ [])
  handed_by first now s (Ok u) result e h none = subst (λ (z : Result ℕ NotRun). OnOk z (w.held now ≡ [])) (sym e) (h none)
  handed_by first now s (Err why) result e h none = subst (λ (z : Result ℕ NotRun). OnOk z (w.held now ≡ [])) (sym e) tt

  -- what one question was, or a beginning of it
  pub torn : (old new : W) (text : List ℕ) → w.handle new ≡ w.handle old → w.failed new ≡ w.failed old + 1
      → AppendsFront (w.written old) (w.written new) text → IsQuestionWritten w old new (Err unrun.Output) text
  torn old new text h f p = (h, stopped old new 1 text f p)

-- of a question whose record was made, if it was
pub by_record : {E T U V : Type 0} (P : Question → Type 0) (form : Form) (items : V → List ℕ) (written : Result U T) (fields r : List ℕ) (made : Result V E)
    → IfOk made (λ v. items v ≡ r)
    → OnOk written ((q : Question) → IfOk made (λ v. ◌≡◌ {A = List ℕ × List ℕ} (fields, items v) (parts_of form q)) → P q)
    → OnOk written ((q : Question) → ◌≡◌ {A = List ℕ × List ℕ} (fields, r) (parts_of form q) → P q)
by_record P form items (Err e) fields r made is next = tt
by_record P form items (Ok u) fields r (Err e) is next = λ q same. next q tt
by_record P form items (Ok u) fields r (Ok v) is next = λ q same. next q ((λ i. (fields, is i)) ∙ same)

-- what arrived of the questions of a run is handed out
pub is_status : (s : ℕ) (written : Result (Unit {0}) NotRun) → IsStatus (or_status s written) s
is_status s (Ok u) = refl
is_status s (Err why) = tt

handed : {W F : Type 0} (w : Writes W F) (form : Form) (out out' : W) (s : ℕ) (written : Result (Unit {0}) NotRun) (n : ℕ) (asked : List Question) → AreWritten w form out out' written n asked
    → Hands w form out out' (or_status s written) asked
handed w form out out' s (Ok u) n asked p = p.1.1
handed w form out out' s (Err unrun.Memory) n asked p = (n, p.1.1.0, p.1.1.1)
handed w form out out' s (Err unrun.Output) n asked p = (p.1.0, (added (w.written out) (w.written out'), p.1.1))
handed w form out out' s (Err why) n asked p = absurd p.1

pub handed_as : {W F : Type 0} (w : Writes W F) (form : Form) (out out' : W) (s : ℕ) (written : Result (Unit {0}) NotRun) (n : ℕ) (result : Result ℕ NotRun) (asked : List Question)
    → result ≡ or_status s written → AreWritten w form out out' written n asked → Hands w form out out' result asked
handed_as w form out out' s written n result asked e p = subst (λ (z : Result ℕ NotRun). Hands w form out out' z asked) (sym e) (handed w form out out' s written n asked p)

-- what is held of a question, with more that is so of its subject
pub also_so : {T E S : Type 0} (r : Result T E) (P Q : S → List ℕ → Type 0) (F : S → Type 0) → OnOk r ((s : S) (b : List ℕ) → P s b → Q s b)
    → OnOk r ((s : S) (b : List ℕ) → P s b × F s → Q s b × F s)
also_so (Err e) P Q F p = tt
also_so (Ok x) P Q F p = λ s b q. (p s b q.0, q.1)

-- what is known of a result that is Ok
pub at_ok : {T E : Type 0} (r : Result T E) (P : Type 0) → P → OnOk r P
at_ok (Ok x) P p = p
at_ok (Err e) P p = tt

pub of_ok : {T E : Type 0} (r : Result T E) (P : T → Type 0) (x : T) → r ≡ Ok x → IfOk r P → P x
of_ok r P x e p = subst (λ z. IfOk z P) e p

kept : (a b c : Option (List ℕ)) (x : List ℕ) → Keeps b c → Appends a b x → Appends a c x
kept None b c x q p = tt
kept (Some a) None c x q p = absurd p
kept (Some a) (Some b) None x q p = absurd q
kept (Some a) (Some b) (Some c) x q p = q ∙ p

-- a text that was written whole, but not handed on
pub not_handed_on : {W F T E X G : Type 0} (w : Writes W F) (out mid out' : W) (r : Result T E) (f : Result X G) (text : List ℕ) → is_err r ≡ false → SentText w out mid r text
    → Keeps (w.written mid) (w.written out') → w.failed out' ≡ write_failures f (w.failed mid) → is_err f ≡ true → w.handle out' ≡ w.handle out
    → IsQuestionWritten w out out' (Err unrun.Output) text
not_handed_on w out mid out' (Err x) f text e s k n o h = absurd (true≢false e)
not_handed_on w out mid out' (Ok x) (Ok y) text e s k n o h = absurd (true≢false (sym o))
not_handed_on w out mid out' (Ok x) (Err y) text e s k n o h =
    torn w out out' text h (n ∙ ap (λ (z : ℕ). z + 1) s.0)
    (length text, subst (Appends (w.written out) (w.written out')) (sym (take-length text)) (kept (w.written out) (w.written mid) (w.written out') text k s.1))

pub same_handle : {W F : Type 0} (w : Writes W F) (form : Form) (out out' : W) (written : Result (Unit {0}) NotRun) (n : ℕ) (asked : List Question) → AreWritten w form out out' written n asked
    → w.handle out' ≡ w.handle out
same_handle w form out out' written n asked p = p.0

-- what is known of a result that is no error
pub at_no_err : {T E : Type 0} (r : Result T E) (P : Type 0) → is_err r ≡ false → OnOk r P → P
at_no_err (Ok x) P e p = p
at_no_err (Err y) P e p = absurd (true≢false e)
