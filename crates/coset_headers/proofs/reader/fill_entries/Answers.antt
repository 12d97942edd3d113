use Rattle.std.proofs.Common.{refl, subst, sym}
use Rattle.ciborium_value.specs.Tree.{map}
use Rattle.ciborium_value.specs.View.{view_pairs}
use Rattle.coset_headers.specs.Levels.{Within}
use Rattle.coset_headers.proofs.reader.fill_entries.Goals as goal

pub returns : goal.returns
returns c =
    let t = map (view_pairs c.args.entries.items) in
    c.read.ensures c.args.nesting c.args.layers t (record {
      nesting = refl;
      inner = t;
      within = subst (λ z. Within c.args.nesting t c.args.layers z t c.new-top.result.layers) (sym c.new.ensures.items) (refl, c.new-top.ensures.layers);
      going = c.new-top.ensures.going c.args.nesting c.args.into.now c.requires.empty;
    })
