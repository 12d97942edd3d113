-- Items that lie too deep.
use Rattle.std.proofs.Common.{◌≡◌, ◌≢◌, ◌+◌, ℕ, List, length, refl, sym, subst}
use Rattle.std.specs.Io.KnownBytes.{Consumes}
use Rattle.ciborium_ll.specs.Seen.{Seen}
use Rattle.ciborium_ll.specs.Title.{Title}
use Rattle.ciborium_ll.specs.declared.hdr.Header.{Header}
use Rattle.ciborium.proofs.Taking.{takes_then}
use Rattle.cbor_walk.specs.declared.walk.Fault.{Fault}
use Rattle.cbor_walk.specs.declared.walk.Fault.TheVariants as fault
use Rattle.cbor_walk.specs.Grammar.{Item}
use Rattle.cbor_walk.specs.Walking.{Then, Long, IsDeep, IfDeep}
use Rattle.cbor_walk.proofs.Deep.{deep_as, deep_behind}
use Rattle.cbor_walk.proofs.Steps.{only_rest, no_body}
use Rattle.cose_sift.specs.declared.taking.Stop.{Stop}
use Rattle.cose_sift.specs.declared.taking.Stop.TheVariants as stop
use Rattle.cose_sift.specs.declared.taking.Taking.{Taking}
use Rattle.cose_sift.specs.Taking.{due_by, HeadFails, DeepAt, stopped_at}
use Rattle.cose_sift.proofs.TakenItem.{Begun}

pub begun_deep : (old mid new : Seen) (t : Taking) (most : ℕ) (s : Stop) → Begun old mid t → DeepAt (due_by t) most mid new s → DeepAt Item most old new s
begun_deep old mid new t most (stop.Syntax p) b d = tt
begun_deep old mid new t most stop.End b d = tt
begun_deep old mid new t most stop.Cut b d = tt
begun_deep old mid new t most stop.Deep b d =
    takes_then old.left mid.left new.left old.offset mid.offset new.offset _ _ (IsDeep Item most) b.taken d (λ x y q e. deep_behind (due_by t) most x y q.0 e)
begun_deep old mid new t most stop.Input b d = tt
begun_deep old mid new t most stop.TooLong b d = tt
begun_deep old mid new t most stop.Memory b d = tt

module _ (P : List ℕ → Type 0) (most : ℕ) (old new : Seen) where
  pub not_deep : (s : Stop) → s ≢ stop.Deep → DeepAt P most old new s
  not_deep (stop.Syntax p) n = tt
  not_deep stop.End n = tt
  not_deep stop.Cut n = tt
  not_deep stop.Deep n = absurd (n refl)
  not_deep stop.Input n = tt
  not_deep stop.TooLong n = tt
  not_deep stop.Memory n = tt

  pub head_not_deep : (s : Stop) → HeadFails old new s → DeepAt P most old new s
  head_not_deep (stop.Syntax p) f = tt
  head_not_deep stop.End f = tt
  head_not_deep stop.Cut f = tt
  head_not_deep stop.Deep f = absurd f
  head_not_deep stop.Input f = tt
  head_not_deep stop.TooLong f = tt
  head_not_deep stop.Memory f = tt

-- the walk stopped at a head
pub walk_deep : (W : List ℕ → Type 0) (most body : ℕ) (old new : Seen) (h : Header) (at : ℕ) (f : Fault) (s : Stop) (x : List ℕ) → body ≡ 0 → s ≡ stopped_at at f → Title x h
    → Consumes old.left new.left x → new.offset ≡ old.offset + length x → IfDeep ((title : List ℕ) → Title title h → IsDeep W most title) f → DeepAt (Then (Long body) W) most old new s
walk_deep W most body old new h at fault.Syntax s x none is t c g d = subst (DeepAt (Then (Long body) W) most old new) (sym is) tt
walk_deep W most body old new h at fault.Deep s x none is t c g d =
    subst (DeepAt (Then (Long body) W) most old new) (sym is) (record {
      bytes = x;
      has = deep_as (Then (Long body) W) W most x (λ b q. only_rest W b (subst (λ (z : ℕ). Then (Long z) W b) none q)) (λ b w. subst (λ (z : ℕ). Then (Long z) W b) (sym none) (no_body W b w)) (d x t);
      taken = c;
      grown = g;
    })
walk_deep W most body old new h at fault.Memory s x none is t c g d = subst (DeepAt (Then (Long body) W) most old new) (sym is) tt
