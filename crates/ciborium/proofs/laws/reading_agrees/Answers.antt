use Rattle.ciborium.proofs.Agreeing.{folded_read, negative_unread, only_negative, is_negative}
use Rattle.ciborium.proofs.laws.reading_agrees.Goals as goal

pub returns : goal.returns
returns c = record { folded = folded_read; unread = negative_unread; fault = only_negative; negative = is_negative }
