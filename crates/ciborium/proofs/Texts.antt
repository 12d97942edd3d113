-- The bodies of a text are UTF-8 together.
use Rattle.std.proofs.Common.{ℕ, List, ◌++◌, Option, sym, subst, true}
use Rattle.std.specs.Str.{IsUtf8}
use Rattle.std.proofs.lemmas.Str.{IsUtf8-append, IsUtf8-nil}
use Rattle.ciborium_ll.specs.declared.hdr.Header.TheVariants.{Text}
use Rattle.ciborium_ll.specs.declared.hdr.Header.{Header}
use Rattle.ciborium_ll.specs.Title.{Title}
use Rattle.ciborium_ll.specs.Framing.{joined, Frame, whole, cut, Frames, no_frames, frame_more}
use Rattle.ciborium.specs.Reading.{StringAfterHead}
use Rattle.ciborium.proofs.Once.{append_nil}
use Rattle.ciborium.proofs.StringLemmas.{joined_append}

mutual
  frame_utf8 : (k : Option ℕ → Header) (b : List ℕ) (xs : List (List ℕ)) → Frame k IsUtf8 b xs → IsUtf8 (joined xs)
  frame_utf8 k _ _ (whole b body title t p e) = subst IsUtf8 (append_nil body) p
  frame_utf8 k _ _ (cut b inner title xs t fs e) = frames_utf8 k inner xs fs

  frames_utf8 : (k : Option ℕ → Header) (b : List ℕ) (xs : List (List ℕ)) → Frames k IsUtf8 b xs → IsUtf8 (joined xs)
  frames_utf8 k _ _ no_frames = IsUtf8-nil
  frames_utf8 k _ _ (frame_more a b xs ys f fs) = subst IsUtf8 (sym (joined_append xs ys)) (IsUtf8-append (joined xs) (joined ys) (frame_utf8 k a xs f) (frames_utf8 k b ys fs))

pub string_utf8 : (o : Option ℕ) (items inner title : List ℕ) → StringAfterHead true o items inner → Title title (Text o) → IsUtf8 items
string_utf8 o items inner title s t = subst IsUtf8 (sym s.is) (frame_utf8 Text (title ++ inner) s.bodies (s.frame title t))
