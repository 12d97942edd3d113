use Rattle.std.proofs.Common.{◌≡◌, ℕ, Bool, refl, subst, inl, inr, rules}
use Rattle.ciborium_ll.specs.Seen.{Seen, Takes}
use Rattle.ciborium_ll.specs.Views.{seen}
use Rattle.ciborium_value.specs.View.{view}
use Rattle.ciborium.specs.Fronts.{IsFront}
use Rattle.ciborium.specs.declared.frames.Front.TheVariants.{Four}
use Rattle.coset_labels.specs.Limits.{nesting_of}
use Rattle.cose_gate_core.specs.Terms.{IsTaken, IsTakenFront}
use Rattle.cose_gate_core.specs.declared.terms.Terms.{Terms}
use Rattle.cose_gate_core.proofs.InOrder.{err_is}
use Rattle.cose_gate_core.proofs.Passed.{item_passed, item_stopped, no_front, seventeen}
use Rattle.cose_gate_core.proofs.gating.pass_next.Goals as goal

-- the heads of a message under this tag were taken
heads_taken : (terms : Terms) (n k : ℕ) (exact : Bool) (old new : Seen) → Takes old new (IsTakenFront terms (Four n) exact) → n ≡ k → Takes old new (IsFront (nesting_of terms.limits) (Four k))
heads_taken terms n k exact old new t e =
    let heads : Takes old new (IsFront (nesting_of terms.limits) (Four n)) = record { bytes = t.bytes; has = t.has.1; taken = t.taken; grown = t.grown } in
    subst (λ (z : ℕ). Takes old new (IsFront (nesting_of terms.limits) (Four z))) e heads

pub returns-in_err-front-clause-ran : goal.returns-in_err-front-clause-ran
returns-in_err-front-clause-ran g c = rw (err_is _ _ c.from_residual.ensures.1) (inr (c.in_err-front.ensures.err, refl))

pub returns-in_err-verdict-in-Item-clause-ran : goal.returns-in_err-verdict-in-Item-clause-ran
returns-in_err-verdict-in-Item-clause-ran g c =
    let taken = rw c.in-Item.is at (rw c.in-Some.is at c.in_ok-front.ensures.next) in
    rw (err_is _ _ c.from_residual-in_err-verdict-in-Item.ensures.1)
    (item_stopped g.R.Read.ends _ _ _ _ _ _ _ (λ b. IsTaken c.args.item.terms b (view c.in-Item.value) c.in-Some.exact) (view c.in-Item.value) taken _ (λ b h. (h.0, c.in_err-verdict-in-Item.ensures.handled b h)))

pub returns-in_ok-verdict-in-Item-clause-ran : goal.returns-in_ok-verdict-in-Item-clause-ran
returns-in_ok-verdict-in-Item-clause-ran g c =
    let taken = rw c.in-Item.is at (rw c.in-Some.is at c.in_ok-front.ensures.next) in
    item_passed g.R.Read.ends _ _ _ _ _ _ _ (λ b. IsTaken c.args.item.terms b (view c.in-Item.value) c.in-Some.exact) (view c.in-Item.value) taken _ (λ b h. (h.0, c.in_ok-verdict-in-Item.ensures.handled b h))

pub returns-in_err-verdict-in-Four-eq18-clause-ran : goal.returns-in_err-verdict-in-Four-eq18-clause-ran
returns-in_err-verdict-in-Four-eq18-clause-ran g c =
    let taken = rw c.in-Four-eq18.is at (rw c.in-Some.is at c.in_ok-front.ensures.next) in
    let is : c.in-Four-eq18.field-0 ≡ 18 = search rules in
    let heads = heads_taken c.args.item.terms c.in-Four-eq18.field-0 18 c.in-Some.exact (seen g.R.Read c.args.decoder.now) (seen g.R.Read c.next_front.new.decoder) taken is in
    rw (err_is _ _ c.from_residual-in_err-verdict-in-Four-eq18.ensures.1) (c.in_err-verdict-in-Four-eq18.ensures.ran (seen g.R.Read c.args.decoder.now) (inr refl) heads)

pub returns-in_ok-verdict-in-Four-eq18-clause-ran : goal.returns-in_ok-verdict-in-Four-eq18-clause-ran
returns-in_ok-verdict-in-Four-eq18-clause-ran g c =
    let taken = rw c.in-Four-eq18.is at (rw c.in-Some.is at c.in_ok-front.ensures.next) in
    let is : c.in-Four-eq18.field-0 ≡ 18 = search rules in
    let heads = heads_taken c.args.item.terms c.in-Four-eq18.field-0 18 c.in-Some.exact (seen g.R.Read c.args.decoder.now) (seen g.R.Read c.next_front.new.decoder) taken is in
    c.in_ok-verdict-in-Four-eq18.ensures.ran (seen g.R.Read c.args.decoder.now) (inr refl) heads

pub returns-in_err-verdict-in-Four-clause-ran : goal.returns-in_err-verdict-in-Four-clause-ran
returns-in_err-verdict-in-Four-clause-ran g c =
    let taken = rw c.in-Four.is at (rw c.in-Some.is at c.in_ok-front.ensures.next) in
    let is = seventeen c.in-Four.field-0 (rw c.in-Four.is at (rw c.in-Some.is at c.in_ok-front.ensures.message)) (search rules) in
    let heads = heads_taken c.args.item.terms c.in-Four.field-0 17 c.in-Some.exact (seen g.R.Read c.args.decoder.now) (seen g.R.Read c.next_front.new.decoder) taken is in
    rw (err_is _ _ c.from_residual-in_err-verdict-in-Four.ensures.1) (c.in_err-verdict-in-Four.ensures.ran (seen g.R.Read c.args.decoder.now) (inl refl) heads)

pub returns-in_ok-verdict-in-Four-clause-ran : goal.returns-in_ok-verdict-in-Four-clause-ran
returns-in_ok-verdict-in-Four-clause-ran g c =
    let taken = rw c.in-Four.is at (rw c.in-Some.is at c.in_ok-front.ensures.next) in
    let is = seventeen c.in-Four.field-0 (rw c.in-Four.is at (rw c.in-Some.is at c.in_ok-front.ensures.message)) (search rules) in
    let heads = heads_taken c.args.item.terms c.in-Four.field-0 17 c.in-Some.exact (seen g.R.Read c.args.decoder.now) (seen g.R.Read c.next_front.new.decoder) taken is in
    c.in_ok-verdict-in-Four.ensures.ran (seen g.R.Read c.args.decoder.now) (inl refl) heads

pub returns-in_err-verdict-in-Item-clause-nothing : goal.returns-in_err-verdict-in-Item-clause-nothing
returns-in_err-verdict-in-Item-clause-nothing g c = λ none.
    absurd (no_front c.args.item.terms _ _ _ _ _ _ none (rw c.in-Some.is at c.in_ok-front.ensures.next))
