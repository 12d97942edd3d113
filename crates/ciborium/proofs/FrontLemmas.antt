-- Four items in an array under a tag, after the heads of the array and the tag.
use Rattle.std.proofs.Common.{◌≡◌, ◌≢◌, ◌≤◌, ◌<◌, ◌-◌, ◌⊎◌, inl, inr, ℕ, Bool, List, ◌++◌, Option, Some, Result, Ok, Err, refl, sym, ap, subst, ◌∙◌, arith, append_assoc}
use Rattle.std.specs.Prelude.{IfOk, IfErr, IsErrAnd}
use Rattle.ciborium_ll.specs.Reading.{Moves}
use Rattle.ciborium_ll.specs.Seen.{Seen, Takes}
use Rattle.ciborium_ll.specs.declared.hdr.Header.{Header}
use Rattle.ciborium_ll.specs.declared.hdr.Header.TheVariants.{Tag, Array}
use Rattle.ciborium_ll.specs.Title.{Title}
use Rattle.ciborium_value.specs.Tree.{Tree, array, tag, Trees, no_trees, tree_count}
use Rattle.ciborium_value.specs.Folding.{tagged}
use Rattle.ciborium.specs.declared.de.Error.{Error}
use Rattle.ciborium.specs.declared.frames.Front.{Front}
use Rattle.ciborium.specs.declared.frames.Front.TheVariants as code
use Rattle.ciborium.specs.Damage.{Fault, Damage, in_child, in_array}
use Rattle.ciborium.specs.Front.{Reads, ReadsAll, Fronts, HoldsOne}
use Rattle.ciborium.specs.Frames.{snoc}
use Rattle.ciborium.specs.Fronts.{IsFront, IsTagged, FourDamage, FourOne, TakesItem, TakesFour}
use Rattle.ciborium.specs.Reading.{IfKnown, FailsAt, IfMemory, NamesFault, TakesSome, ReadsAfterTitle, Leaves, Steady, failures}
use Rattle.ciborium.proofs.Taking.{takes_as, takes_then, takes_none, fails_behind}
use Rattle.ciborium.proofs.Halting.{some_then, memory_then}
use Rattle.ciborium.proofs.ReadLemmas.{all_none, all_more}
use Rattle.ciborium.proofs.LevelLemmas.{begins}
use Rattle.ciborium.proofs.ChildLemmas.{array_read}
use Rattle.ciborium.proofs.TagLemmas.{tag_read, tag_level, in_tag}
use Rattle.ciborium.proofs.OneItem.{level_one, read_one, tag_one}

-- the tags of messages are none of bignums
pub plain : (n : ℕ) → (n ≡ 17) ⊎ (n ≡ 18) → (n ≢ 2) × (n ≢ 3)
plain n (inl e) = ((λ f. omega arith), (λ f. omega arith))
plain n (inr e) = ((λ f. omega arith), (λ f. omega arith))

-- items one after another
pub none_read : (limit : ℕ) (l : Option (List ℕ)) (o : ℕ) → Moves l l o o (λ (b : List ℕ). ReadsAll b limit no_trees)
none_read limit l o = takes_none l o (λ (b : List ℕ). ReadsAll b limit no_trees) (all_none limit)

pub more_read : (limit : ℕ) (done : Trees) (v : Tree) (l₀ l₁ l₂ : Option (List ℕ)) (o₀ o₁ o₂ : ℕ) → Moves l₀ l₁ o₀ o₁ (λ (b : List ℕ). ReadsAll b limit done) → Moves l₁ l₂ o₁ o₂ (λ (b : List ℕ). Reads b limit v)
    → Moves l₀ l₂ o₀ o₂ (λ (b : List ℕ). ReadsAll b limit (snoc done v))
more_read limit done v l₀ l₁ l₂ o₀ o₁ o₂ t u =
    takes_then l₀ l₁ l₂ o₀ o₁ o₂ (λ (b : List ℕ). ReadsAll b limit done) (λ (b : List ℕ). Reads b limit v) (λ (b : List ℕ). ReadsAll b limit (snoc done v)) t u (λ x y p q. all_more x y limit done v p q)

-- a fault of one of four items
pub four_fails : {E : Type 0} (ends : E → Bool) (limit : ℕ) (done : Trees) (l₀ l₁ : Option (List ℕ)) (o₀ o₁ o₂ : ℕ) (e : Error E) → tree_count done < 4 → Moves l₀ l₁ o₀ o₁ (λ (b : List ℕ). ReadsAll b limit done)
    → IfKnown l₁ (λ b. FailsAt ends b o₁ o₂ (λ stop b f. Damage stop b limit f) e) → IfKnown l₀ (λ b. FailsAt ends b o₀ o₂ (λ stop b f. FourDamage limit stop b f) e)
four_fails ends limit done l₀ l₁ o₀ o₁ o₂ e few t w =
    fails_behind ends l₀ l₁ o₀ o₁ o₂ (λ (b : List ℕ). ReadsAll b limit done) (λ stop b f. Damage stop b limit f) (λ stop b f. FourDamage limit stop b f) e t
    (λ stop x rest f p d. record { done = done; rest = rest; before = record { spelling = x; whole = refl; reads = p }; few = few; is = d }) w

pub four_memory : {E : Type 0} (limit : ℕ) (done : Trees) (l₀ l₁ l₂ : Option (List ℕ)) (o₀ o₁ o₂ : ℕ) (e : Error E) → tree_count done < 4 → Moves l₀ l₁ o₀ o₁ (λ (b : List ℕ). ReadsAll b limit done)
    → IfMemory (Moves l₁ l₂ o₁ o₂ HoldsOne) e → IfMemory (Moves l₀ l₂ o₀ o₂ (FourOne limit)) e
four_memory limit done l₀ l₁ l₂ o₀ o₁ o₂ e few t w =
    memory_then l₀ l₁ l₂ o₀ o₁ o₂ (λ (b : List ℕ). ReadsAll b limit done) HoldsOne (FourOne limit) e t
    (λ x y p q. record { done = done; inner = x; rest = y; reads = p; few = few; one = q; whole = refl }) w

-- any other content of a tag
pub content_reads : (n limit : ℕ) (h : Header) (c v : Tree) (x y : List ℕ) → 2 ≤ limit → tagged n c ≡ Some v → Title x h → ReadsAfterTitle h (limit - 1) c y → ReadsAfterTitle (Tag n) limit v (x ++ y)
content_reads n limit h c v x y two e t r = tag_read n limit c v (x ++ y) (tag_level n limit c (x ++ y) (omega arith) (r x t)) e

pub content_one : (limit : ℕ) (h : Header) (c : Tree) (x y : List ℕ) → Title x h → ReadsAfterTitle h limit c y → HoldsOne (x ++ y)
content_one limit h c x y t r = read_one (x ++ y) limit c (r x t)

-- the result of a call that is handed on
pub ok_as : {T E : Type 0} (r : Result T E) (P Q : T → Type 0) → ((v : T) → P v → Q v) → IfOk r P → IfOk r Q
ok_as (Ok v) P Q f p = f v p
ok_as (Err e) P Q f p = tt

pub err_as : {T E : Type 0} (r : Result T E) (P Q : E → Type 0) → ((e : E) → P e → Q e) → IfErr r P → IfErr r Q
err_as (Ok v) P Q f p = tt
err_as (Err e) P Q f p = f e p

pub leaves_then : {T U E : Type 0} (ends : E → Bool) (K P Q : List ℕ → Type 0) (r : Result T (Error E)) (u : U) (old mid new : Seen) → Takes old mid K → Steady ends (Ok u) old mid → ((x y : List ℕ) → K x → P y → Q (x ++ y))
    → Leaves ends P r mid new → Leaves ends Q r old new
leaves_then ends K P Q r u old mid new t s f l = record {
  stops = err_as r _ _ (λ e w. some_then new.left new.offset e t w) l.stops;
  one = err_as r _ _ (λ e w. memory_then old.left mid.left new.left old.offset mid.offset new.offset K P Q e t f w) l.one;
  steady = record { failed = l.steady.failed ∙ ap (failures ends r) s.failed; handle = l.steady.handle ∙ s.handle; waiting = l.steady.waiting };
}

-- behind the tag's title, an item or the title of the array
pub front_read : (n limit : ℕ) (f : Front) (x y : List ℕ) → 2 ≤ limit → Title x (Tag n) → IsTagged n limit f y → IsFront limit f (x ++ y)
front_read n limit (code.Item v) x y two t r = r x t
front_read n limit (code.Four m) x y two t r =
    (two, record { outer = x; inner = y; is_tag = subst (λ z. Title x (Tag z)) (sym r.0) t; is_array = r.1; whole = refl })

-- the heads of the tag and of the array are behind
four_damage : (n limit stop : ℕ) (x y rest : List ℕ) (f : Fault) → (n ≢ 2) × (n ≢ 3) → 2 ≤ limit → Title x (Tag n) → Title y (Array (Some 4)) → FourDamage (limit - 2) stop rest f
    → Damage stop (x ++ (y ++ rest)) limit f
four_damage n limit stop x y rest f not two t u d =
    let same : limit - 2 ≡ (limit - 1) - 1 = omega arith in
    let before : Fronts rest ((limit - 1) - 1) d.done d.rest = subst (λ (z : ℕ). Fronts rest z d.done d.rest) same d.before in
    let is : Damage stop d.rest ((limit - 1) - 1) f = subst (λ (z : ℕ). Damage stop d.rest z f) same d.is in
    in_tag (x ++ (y ++ rest)) (y ++ rest) limit n f (begins x (y ++ rest) (Tag n) t) (omega arith) (inl not)
    (in_child (y ++ rest) rest d.rest (limit - 1) (Array (Some 4)) d.done f (begins y rest (Array (Some 4)) u) (omega arith) before (in_array 4 d.few) is)

four_one : (n limit : ℕ) (x y z : List ℕ) → Title x (Tag n) → Title y (Array (Some 4)) → FourOne limit z → HoldsOne (x ++ (y ++ z))
four_one n limit x y z t u p =
    tag_one n x (y ++ z) t
    (subst (λ (z : List ℕ). HoldsOne (y ++ z)) (sym p.whole) (level_one (Array (Some 4)) p.done limit y p.inner p.rest u p.reads (in_array 4 p.few) p.one))

four_reads : (n limit : ℕ) (ts : Trees) (x y z : List ℕ) → 2 ≤ limit → Title x (Tag n) → Title y (Array (Some 4)) → ReadsAll z (limit - 2) ts → tree_count ts ≡ 4
    → Reads (x ++ (y ++ z)) limit (tag n (array ts))
four_reads n limit ts x y z two t u p four =
    let same : limit - 2 ≡ (limit - 1) - 1 = omega arith in
    let inside = array_read (Some 4) 4 (limit - 1) (array ts) ts z refl four (omega arith) (refl, subst (λ (k : ℕ). ReadsAll z k ts) same p) y u in
    tag_read n limit (array ts) (tag n (array ts)) (y ++ z) (tag_level n limit (array ts) (y ++ z) (omega arith) inside) refl x t

-- after the heads of a message its four items are taken: they are the whole
pub four_taken : {T E : Type 0} (ends : E → Bool) (n limit : ℕ) (P : T → Trees → Type 0) (r : Result T (Error E)) (old mid new : Seen) → (n ≡ 17) ⊎ (n ≡ 18) → Takes old mid (IsFront limit (code.Four n))
    → TakesFour ends (limit - 2) P r mid new → TakesItem ends limit (λ x t. (ts : Trees) × (t ≡ tag n (array ts)) × P x ts) r old new
four_taken ends n limit P r old mid new which t w = record {
  ok = ok_as r _ _ (λ v q. takes_then old.left mid.left new.left old.offset mid.offset new.offset (IsFront limit (code.Four n)) _ _ t q
      (λ b z h p. (tag n (array p.0), subst (λ (c : List ℕ). Reads c limit (tag n (array p.0))) (joined b z h) (four_reads n limit p.0 h.1.outer h.1.inner z h.0 h.1.is_tag h.1.is_array p.1 p.2), (p.0, refl, p.3)))) w.ok;
  err = err_as r _ _ (λ e q. fails_behind ends old.left mid.left old.offset mid.offset new.offset (IsFront limit (code.Four n)) (λ stop b f. FourDamage (limit - 2) stop b f) (λ stop b f. Damage stop b limit f) e t
      (λ stop b z f h d. subst (λ (c : List ℕ). Damage stop c limit f) (joined b z h) (four_damage n limit stop h.1.outer h.1.inner z f (plain n which) h.0 h.1.is_tag h.1.is_array d)) q) w.err;
  stops = err_as r _ _ (λ e q. some_then new.left new.offset e t q) w.stops;
  one = err_as r _ _ (λ e q. memory_then old.left mid.left new.left old.offset mid.offset new.offset (IsFront limit (code.Four n)) (FourOne (limit - 2)) HoldsOne e t
      (λ b z h p. subst HoldsOne (joined b z h) (four_one n (limit - 2) h.1.outer h.1.inner z h.1.is_tag h.1.is_array p)) q) w.one;
}
  where
    joined : (b z : List ℕ) (h : IsFront limit (code.Four n) b) → h.1.outer ++ (h.1.inner ++ z) ≡ b ++ z
    joined b z h = sym (append_assoc h.1.outer h.1.inner z) ∙ ap (λ c. c ++ z) (sym h.1.whole)

-- a fault of one of the four
pub four_stops : {T E : Type 0} (ends : E → Bool) (limit : ℕ) (P : T → Trees → Type 0) (done : Trees) (start mid new : Seen) (e : Error E) (r : Result T (Error E)) → IsErrAnd r (λ x. x ≡ e) → tree_count done < 4
    → Takes start mid (λ b. ReadsAll b limit done) → NamesFault ends (λ stop b f. Damage stop b limit f) mid new e → TakesSome mid new e → IfMemory (Takes mid new HoldsOne) e → TakesFour ends limit P r start new
four_stops ends limit P done start mid new e (Ok x) h few t w s o = absurd h
four_stops ends limit P done start mid new e (Err x) h few t w s o = record {
  ok = tt;
  err = subst (NamesFault ends (λ stop b f. FourDamage limit stop b f) start new) (sym h) (four_fails ends limit done start.left mid.left start.offset mid.offset new.offset e few t w);
  stops = subst (TakesSome start new) (sym h) (some_then new.left new.offset e t s);
  one = subst (IfMemory (Takes start new (FourOne limit))) (sym h) (four_memory limit done start.left mid.left new.left start.offset mid.offset new.offset e few t o);
}

-- all four were taken
pub four_all : {T E : Type 0} (ends : E → Bool) (limit : ℕ) (P : T → Trees → Type 0) (ts : Trees) (start new : Seen) (x : T) → Takes start new (λ b. ReadsAll b limit ts) → tree_count ts ≡ 4 → P x ts → TakesFour {E = E} ends limit P (Ok x) start new
four_all ends limit P ts start new x t four p = record {
  ok = takes_as start.left new.left start.offset new.offset (λ b. ReadsAll b limit ts) (λ b. (ts : Trees) × ReadsAll b limit ts × (tree_count ts ≡ 4) × P x ts) t (λ b r. (ts, r, four, p));
  err = tt;
  stops = tt;
  one = tt;
}

-- four items that are more
pub four_as : {T U E : Type 0} (ends : E → Bool) (limit : ℕ) (P : T → Trees → Type 0) (Q : U → Trees → Type 0) (x : T) (y : U) (old new : Seen) → ((ts : Trees) → P x ts → Q y ts)
    → TakesFour {E = E} ends limit P (Ok x) old new → TakesFour {E = E} ends limit Q (Ok y) old new
four_as ends limit P Q x y old new f w = record {
  ok = takes_as old.left new.left old.offset new.offset _ _ w.ok (λ b p. (p.0, p.1, p.2, f p.0 p.3));
  err = tt;
  stops = tt;
  one = tt;
}

pub four_passed_on : {T U E : Type 0} (ends : E → Bool) (limit : ℕ) (P : T → Trees → Type 0) (Q : U → Trees → Type 0) (e : Error E) (r : Result U (Error E)) (old new : Seen) → IsErrAnd r (λ x. x ≡ e)
    → TakesFour ends limit P (Err e) old new → TakesFour ends limit Q r old new
four_passed_on ends limit P Q e (Ok x) old new h w = absurd h
four_passed_on ends limit P Q e (Err x) old new h w = record {
  ok = tt;
  err = subst (NamesFault ends (λ stop b f. FourDamage limit stop b f) old new) (sym h) w.err;
  stops = subst (TakesSome old new) (sym h) w.stops;
  one = subst (IfMemory (Takes old new (FourOne limit))) (sym h) w.one;
}
