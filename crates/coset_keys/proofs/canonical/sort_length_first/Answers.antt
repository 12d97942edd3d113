use Rattle.std.proofs.Common.{rules}
use Rattle.std.proofs.lemmas.List.Sorted.{answers_always}
use Rattle.coset_labels.specs.declared.order.CborOrdering.TheVariants.{LengthFirstLexicographic}
use Rattle.coset_keys.proofs.Ordered.{lesser, lesser_ranks, sorts}
use Rattle.coset_keys.proofs.canonical.sort_length_first.Goals as goal

pub returns : goal.returns
returns c =
    sorts LengthFirstLexicographic _ _ c.in_ok-sort_by.ensures.permutation
    (c.in_ok-sort_by.ensures.sorted (lesser LengthFirstLexicographic) (lesser_ranks LengthFirstLexicographic) (answers_always _ _ _ (λ f a r g h. search rules)))
    (c.in_ok-sort_by.ensures.stable (lesser LengthFirstLexicographic) (lesser_ranks LengthFirstLexicographic) (answers_always _ _ _ (λ f a r g h. search rules)))
