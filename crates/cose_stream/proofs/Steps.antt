-- Steps after one another.
use Rattle.std.proofs.Common.{List, [], ◌++◌, Option, None, Some, append_assoc, append-nil, refl, sym, ap, ◌∙◌}
use Rattle.std.specs.Prelude.{option_map}
use Rattle.cose_stream.specs.Folder.{FolderStep, Does}

-- steps, and then others
pub then_does : (old mid new : Option (List FolderStep)) (a b : List FolderStep) → Does old mid a → Does mid new b → Does old new (a ++ b)
then_does None mid new a b p q = rw (q, p) refl
then_does (Some xs) mid new a b p q = q ∙ ap (option_map (λ (ys : List FolderStep). ys ++ b)) p ∙ ap (λ (ys : List FolderStep). Some ys) (append_assoc xs a b)

-- no step
pub nothing_done : (old : Option (List FolderStep)) → Does old old []
nothing_done None = refl
nothing_done (Some xs) = ap (λ (ys : List FolderStep). Some ys) (sym (append-nil xs))
