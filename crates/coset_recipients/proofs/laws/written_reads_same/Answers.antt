use Rattle.coset_headers.proofs.Sound.{reads_sound, sound_reads}
use Rattle.coset_recipients.proofs.Again.{recipient_again}
use Rattle.coset_recipients.proofs.Sound.{recipient_sound}
use Rattle.coset_recipients.proofs.laws.written_reads_same.Goals as goal

pub returns : goal.returns
returns c = λ n k limit b t u r i a e f.
    (sound_reads limit u f (recipient_sound n r t u k limit a e (reads_sound b limit t i)), recipient_again n r t u k a e)
