-- Why there is no first value, and no second one.
use Rattle.std.proofs.Common.{arith, ◌≡◌, ℕ, ◌≤◌, List, [], length, Option, Some, None, true, refl, sym, ◌∙◌, append-nil, max}
use Rattle.ciborium.specs.declared.de.Error.{Error}
use Rattle.ciborium.specs.declared.End.{End}
use Rattle.ciborium.specs.HeadReading.{Moves}
use Rattle.ciborium.specs.Damage.{Damage}
use Rattle.ciborium.specs.Front.{Reads, ReadsAll}
use Rattle.ciborium.specs.Items.{nesting}
use Rattle.ciborium.specs.Meaning.{meaning, meanings}
use Rattle.ciborium.specs.Reading.{IfKnown, FailsAt}
use Rattle.ciborium.specs.Tree.{Tree, no_trees, one_more}
use Rattle.callers.specs.Items.{Fewer}

least : (n limit : ℕ) → n ≤ limit → max n 0 ≤ limit
least n limit h = omega (arith, h)

one_meaning : (t v : Tree) → meaning t ≡ Some v → meanings (one_more t no_trees) ≡ Some (one_more v no_trees)
one_meaning t v e = rw e refl

-- one item is a list of items
alone : (b : List ℕ) (v : Tree) → Reads b nesting v → ReadsAll b nesting (one_more v no_trees)
alone b v r = record {
  trees = one_more r.tree no_trees;
  spells = (b, [], r.spells, refl, sym (append-nil b));
  shallow = least _ nesting r.shallow;
  means = one_meaning r.tree v r.means;
}

-- the fault at the front of the whole input
pub none_first : (input b : List ℕ) (at at' limit : ℕ) (e : Error End)
    → FailsAt (λ _. true) b at at' (λ stop c f. Damage stop c limit f) e → b ≡ input → at ≡ 0 → limit ≡ nesting → Fewer 2 input e
none_first input b at at' limit e why is zero same = record {
  done = no_trees;
  few = omega (arith);
  front = [];
  rest = input;
  whole = refl;
  reads = record { trees = no_trees; spells = refl; shallow = omega (arith); means = refl };
  place = at';
  why = rw (sym is, sym zero, sym same) why;
}

-- the fault after a first value
pub none_second : (input : List ℕ) (left left' : Option (List ℕ)) (at at' at'' limit limit' : ℕ) (v : Tree) (e : Error End)
    → Moves left left' at at' (λ b. Reads b limit v)
    → IfKnown left' (λ b. FailsAt (λ _. true) b at' at'' (λ stop c f. Damage stop c limit' f) e)
    → left ≡ Some input → at ≡ 0 → limit ≡ nesting → limit' ≡ limit → Fewer 2 input e
none_second input None left' at at' at'' limit limit' v e m why is zero same stays = let h : None ≡ Some input = is in cc
none_second input (Some xs) None at at' at'' limit limit' v e m why is zero same stays = absurd m.taken
none_second input (Some xs) (Some ys) at at' at'' limit limit' v e m why is zero same stays =
    let h : Some xs ≡ Some input = is in let g : xs ≡ input = cc in
    let grown : at' ≡ length m.bytes = omega (arith, m.grown, zero) in
    record {
      done = one_more v no_trees;
      few = omega (arith);
      front = m.bytes;
      rest = ys;
      whole = sym g ∙ m.taken;
      reads = alone m.bytes v (rw (sym same) m.has);
      place = at'';
      why = rw (sym grown, sym (stays ∙ same)) why;
    }
