use Rattle.coset_headers.proofs.Again.{hdr_again, sig_again}
use Rattle.coset_headers.proofs.Sound.{hdr_sound, sig_sound, reads_sound, sound_reads}
use Rattle.coset_headers.proofs.laws.written_reads_same.Goals as goal

pub returns : goal.returns
returns c = record {
  header = λ n k limit b t u h r a e f. (sound_reads limit u f (hdr_sound n h t u k limit a e (reads_sound b limit t r)), hdr_again n h t u k a e);
  signature = λ n k limit b t u s r a e f. (sound_reads limit u f (sig_sound n s t u k limit a e (reads_sound b limit t r)), sig_again n s t u k a e);
}
