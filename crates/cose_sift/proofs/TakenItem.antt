-- An item that is taken step by step.
use Rattle.std.proofs.Common.{◌≡◌, ◌+◌, ℕ, List, [], ◌∷◌, ◌++◌, length, Option, Some, None, refl, sym, subst, ◌∙◌, append_assoc, append-nil, arith, length-append}
use Rattle.std.proofs.lemmas.List.{append_cancel_left}
use Rattle.std.specs.Io.KnownBytes.{Consumes}
use Rattle.std.proofs.KnownBytes.{Consumes-trans}
use Rattle.ciborium_ll.specs.Seen.{Seen, Takes}
use Rattle.ciborium.proofs.Taking.{takes_then, takes_as, takes_none}
use Rattle.cose_sift.specs.declared.items.Halt.{Halt}
use Rattle.cose_sift.specs.declared.items.Halt.TheVariants as halt
use Rattle.cose_sift.specs.declared.taking.Stop.{Stop}
use Rattle.cose_sift.specs.declared.taking.Stop.TheVariants as stop
use Rattle.cose_sift.specs.declared.taking.Taking.{Taking}
use Rattle.cbor_walk.specs.Grammar.{Item}
use Rattle.cose_sift.specs.Taking.{due_by, Held, StepFails, BeginsNone, IfKnown, ItemFails, IsPlace}
use Rattle.cbor_walk.specs.Walking.{Goes, Refuses, IsNothing, IsOne, IsSound}
use Rattle.cbor_walk.proofs.Going.{regroup, goes_then}
use Rattle.cbor_walk.proofs.Steps.{whole_item, walk_there, string_there}

-- some of the item was taken
pub record Begun (old new : Seen) (t : Taking) : Type 0 where
  pub taken : Takes old new (λ x. Goes Item (due_by t) x × Held t x)

pub begun : (old : Seen) (t : Taking) → Goes Item (due_by t) [] → Held t [] → Begun old old t
begun old t g h = record { taken = takes_none old.left old.offset (λ x. Goes Item (due_by t) x × Held t x) (g, h) }

pub begun_step : (old mid new : Seen) (t u : Taking) → Begun old mid t → Takes mid new (λ x. Goes (due_by t) (due_by u) x × ((y : List ℕ) → Held t y → Held u (y ++ x))) → Begun old new u
begun_step old mid new t u b s = record {
  taken = takes_then old.left mid.left new.left old.offset mid.offset new.offset _ _ (λ x. Goes Item (due_by u) x × Held u x) b.taken s (λ x y p q. (goes_then Item (due_by t) (due_by u) x y p.0 q.0, q.1 x p.1));
}

pub begun_done : (old new : Seen) (t : Taking) → Begun old new t → Goes (due_by t) IsNothing [] → Takes old new (λ x. IsOne x × Held t x)
begun_done old new t b d = takes_as old.left new.left old.offset new.offset _ _ b.taken (λ x p. (whole_item x (subst (Goes Item IsNothing) (append-nil x) (goes_then Item (due_by t) IsNothing x [] p.0 d)), p.1))

none_behind : (P : List ℕ → Type 0) (x : List ℕ) (l m : Option (List ℕ)) → Goes Item P x → Consumes l m x → BeginsNone P m → BeginsNone Item l
none_behind P x None m g c none = tt
none_behind P x (Some b) None g c none = absurd c
none_behind P x (Some b) (Some r) g c none = λ i behind p e.
    let u = g.on i behind r p (e ∙ c) in
    none u.rest behind u.has (append_cancel_left x (u.rest ++ behind) r (sym (regroup i x u.rest behind u.whole) ∙ e ∙ c))

nothing_behind : (x : List ℕ) (l m : Option (List ℕ)) → length x ≡ 0 → Consumes l m x → IfKnown m IsNothing → IfKnown l IsNothing
nothing_behind x None m none c e = tt
nothing_behind x (Some b) None none c e = absurd c
nothing_behind [] (Some b) (Some r) none c e = c ∙ e
nothing_behind (y ∷ ys) (Some b) (Some r) none c e = absurd (omega arith)

refuses_behind : (P : List ℕ → Type 0) (x y : List ℕ) → Goes Item P x → Refuses P y → Refuses Item (x ++ y)
refuses_behind P x y g r i behind left p e =
    let f : i ++ behind ≡ x ++ (y ++ left) = e ∙ append_assoc x y left in
    let u = g.on i behind (y ++ left) p f in
    r u.rest behind left u.has (append_cancel_left x (u.rest ++ behind) (y ++ left) (sym (regroup i x u.rest behind u.whole) ∙ f))

pub begun_fails : (old mid new : Seen) (t : Taking) (s : Stop) → Begun old mid t → StepFails (due_by t) mid new s → ItemFails old new (halt.Decode s)
begun_fails old mid new t (stop.Syntax p) b f = (
  (let g : new.offset ≡ mid.offset + length f.1.bytes = f.1.grown in let h : p ≡ mid.offset = f.0 in omega arith),
  takes_then old.left mid.left new.left old.offset mid.offset new.offset _ _ (Refuses Item) b.taken f.1 (λ x y q r. refuses_behind (due_by t) x y q.0 r.1),
)
begun_fails old mid new t stop.End b f = (
  λ same. nothing_behind b.taken.bytes old.left mid.left (let g : mid.offset ≡ old.offset + length b.taken.bytes = b.taken.grown in let h : new.offset ≡ mid.offset = f.0 in omega arith) b.taken.taken f.1,
  none_behind (due_by t) b.taken.bytes old.left mid.left b.taken.has.0 b.taken.taken f.2,
)
begun_fails old mid new t stop.Cut b f = none_behind (due_by t) b.taken.bytes old.left mid.left b.taken.has.0 b.taken.taken f
begun_fails old mid new t stop.Deep b f = tt
begun_fails old mid new t stop.Input b f = tt
begun_fails old mid new t stop.TooLong b f = tt
begun_fails old mid new t stop.Memory b f = tt

pub halted : (old new : Seen) (h : Halt) → h ≡ halt.Write → ItemFails old new h
halted old new h e = subst (ItemFails old new) (sym e) tt

-- what is due is there
due_there : (t : Taking) → IsSound t.walk → (b : List ℕ) × due_by t b
due_there t sound =
    let x = string_there t.body in
    let w = walk_there t.walk sound in
    (x.0 ++ w.0, (x.0, w.0, x.1, w.1, refl))

-- where it stopped
pub begun_place : (old mid new : Seen) (t : Taking) (s : Stop) → IsSound t.walk → Begun old mid t → StepFails (due_by t) mid new s → IsPlace old new (halt.Decode s)
begun_place old mid new t (stop.Syntax p) sound b f =
    let some = due_there t sound in (
      length b.taken.bytes,
      f.0 ∙ b.taken.grown,
      record {
        bytes = b.taken.bytes ++ f.1.bytes;
        has = record {
          front = b.taken.bytes;
          head = f.1.bytes;
          whole = refl;
          place = refl;
          begins = (some.0, b.taken.has.0.back some.0 some.1);
          is_head = f.1.has.0;
          refused = refuses_behind (due_by t) b.taken.bytes f.1.bytes b.taken.has.0 f.1.has.1;
        };
        taken = Consumes-trans old.left mid.left new.left b.taken.bytes f.1.bytes b.taken.taken f.1.taken;
        grown = omega (arith, b.taken.grown, f.1.grown, length-append b.taken.bytes f.1.bytes);
      },
    )
begun_place old mid new t stop.End sound b f = tt
begun_place old mid new t stop.Cut sound b f = tt
begun_place old mid new t stop.Deep sound b f = tt
begun_place old mid new t stop.Input sound b f = tt
begun_place old mid new t stop.TooLong sound b f = tt
begun_place old mid new t stop.Memory sound b f = tt

pub no_place : (old new : Seen) (h : Halt) → h ≡ halt.Write → IsPlace old new h
no_place old new h e = subst (IsPlace old new) (sym e) tt
