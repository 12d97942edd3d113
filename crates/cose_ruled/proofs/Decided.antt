-- What is decided by the parts that a judge holds.
use Rattle.std.proofs.Common.{◌≡◌, ℕ, ℤ, List, Bool, ap, ◌∙◌}
use Rattle.std.specs.Prelude.{Result, Ok, Err}
use Rattle.coset_keys.specs.Fields.{KeyFields}
use Rattle.cose_rules.specs.Rule.{RulingFields, ask, is_good}
use Rattle.cose_rules.specs.declared.algorithms.Scheme.{Scheme}
use Rattle.cose_rules.specs.declared.deciding.Refusal.{Refusal}
use Rattle.cose_ruled.specs.Judging.{ruling_by, IsFed}

abbrev Verifies : Type 0
Verifies = List ℕ → ℤ → KeyFields → Bool

held_good : (f : Verifies) (keys : List KeyFields) (asked : Result Scheme Refusal) (id gathered covered : List ℕ) (r : RulingFields)
    → ruling_by id asked ≡ r → IsFed asked gathered covered
    → is_good (f gathered) keys (ruling_by id asked) ≡ is_good (f covered) keys r
held_good f keys (Ok s) id gathered covered r e same = ap (λ z. is_good (f z) keys (ask s id)) same ∙ ap (λ z. is_good (f covered) keys z) e
held_good f keys (Err x) id gathered covered r e same = ap (λ z. is_good (f covered) keys z) e

pub good_by : (f : Verifies) (keys : List KeyFields) (asked : Result Scheme Refusal) (id lent gathered seen covered : List ℕ) (ruling r : RulingFields) (b : Bool)
    → b ≡ is_good (f seen) keys ruling → ruling ≡ ruling_by lent asked → lent ≡ id → seen ≡ gathered
    → ruling_by id asked ≡ r → IsFed asked gathered covered → b ≡ is_good (f covered) keys r
good_by f keys asked id lent gathered seen covered ruling r b is by same all e held = is
    ∙ ap (λ z. is_good (f seen) keys z) by
    ∙ ap (λ z. is_good (f seen) keys (ruling_by z asked)) same
    ∙ ap (λ z. is_good (f z) keys (ruling_by id asked)) all
    ∙ held_good f keys asked id gathered covered r e held
