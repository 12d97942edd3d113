use Rattle.std.proofs.Common.{rules, ◌≡◌, ◌-◌, ℕ, length, arith, subst, sym}
use Rattle.ciborium_ll.specs.Views.{seen}
use Rattle.ciborium.specs.declared.frames.Frame.{Frame}
use Rattle.ciborium.specs.declared.frames.Opened.{Opened}
use Rattle.ciborium.specs.declared.frames.Opened.TheVariants as opens
use Rattle.ciborium.specs.Frames.{Holds, room_of}
use Rattle.ciborium.proofs.Taking.{takes_as}
use Rattle.ciborium.proofs.BeginLemmas.{begin_fails, level_begun, leaf_begun}
use Rattle.ciborium.proofs.OneTurns.{opened_behind}
use Rattle.ciborium.proofs.Passing.{passed_on}
use Rattle.ciborium.proofs.frames.begin.Goals as goal

pub returns-in_err-frame-clause-err : goal.returns-in_err-frame-clause-err
returns-in_err-frame-clause-err g c =
    let same : c.saturating_sub-left.result ≡ c.args.limit - length c.args.below.now.items - 1 = omega (arith, c.len.ensures, c.saturating_sub.ensures, c.saturating_sub-left.ensures, c.args.below.now.ok.0) in
    passed_on _ _ c.from_residual.ensures.1 (begin_fails g.R.Read.ends c.args.limit c.saturating_sub-left.result c.args.title.0 c.args.title.1 c.args.top.now c.args.below.now.items (seen g.R.Read c.args.decoder.now) (seen g.R.Read c.opening.new.decoder) _ same c.in_err-frame.ensures.err)

pub returns-in-Ok-clause-ok : goal.returns-in-Ok-clause-ok
returns-in-Ok-clause-ok g c =
    let same : c.saturating_sub-left.result ≡ c.args.limit - length c.args.below.now.items - 1 = omega (arith, c.len.ensures, c.saturating_sub.ensures, c.saturating_sub-left.ensures, c.args.below.now.ok.0) in
    rw c.replace.ensures.after (takes_as _ _ _ _ _ _ (rw c.in-Level.is at c.in_ok-frame.ensures.ok)
    (λ y i. level_begun c.args.limit c.saturating_sub-left.result c.args.title.0 _ c.args.title.1 c.in-Level.frame c.args.top.now c.args.below.now.items c.push.new.self.items c.args.exact.now.holds c.opening.new.exact.holds y same (rw c.replace.ensures.value at c.in-Ok.ensures.items) i))

room_kept : (r : ℕ) (x f g : Frame) (o : Opened) → r ≡ room_of x → g ≡ f → o ≡ opens.Level f → Holds r o → Holds (room_of x) (opens.Level g)
room_kept r x f g o e same is h = subst (λ (z : ℕ). Holds z (opens.Level g)) e (subst (λ (z : Frame). Holds r (opens.Level z)) (sym same) (subst (Holds r) is h))

pub returns-in-Ok-clause-room : goal.returns-in-Ok-clause-room
returns-in-Ok-clause-room g c = room_kept _ c.args.top.now c.in-Level.frame _ c.in_ok-frame.field-0 c.room_in.ensures c.replace.ensures.after c.in-Level.is c.in_ok-frame.ensures.room

pub returns-in-Leaf-clause-ok : goal.returns-in-Leaf-clause-ok
returns-in-Leaf-clause-ok g c =
    let same : c.saturating_sub-left.result ≡ c.args.limit - length c.args.below.now.items - 1 = omega (arith, c.len.ensures, c.saturating_sub.ensures, c.saturating_sub-left.ensures, c.args.below.now.ok.0) in
    takes_as _ _ _ _ _ _ (rw c.in-Leaf.is at c.in_ok-frame.ensures.ok)
    (λ y i. leaf_begun c.args.limit c.saturating_sub-left.result c.args.title.0 _ c.args.title.1 c.args.top.now c.args.below.now.items c.in-Leaf.value c.args.exact.now.holds c.opening.new.exact.holds y same i)

pub returns-in_default-clause-leaves : goal.returns-in_default-clause-leaves
returns-in_default-clause-leaves g c =
    record { stops = search rules; one = takes_as _ _ _ _ _ _ (rw c.in-Level.is at c.in_ok-frame.ensures.ok) (λ y i. opened_behind c.args.title.1 c.args.title.0 (seen g.R.Read c.args.decoder.now).offset c.saturating_sub-left.result c.args.exact.now.holds c.opening.new.exact.holds c.in-Level.frame y i); steady = search rules }
