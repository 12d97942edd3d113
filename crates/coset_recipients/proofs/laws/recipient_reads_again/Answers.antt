use Rattle.coset_recipients.proofs.laws.recipient_reads_again.Goals as goal

pub returns : goal.returns
returns c = λ b u i e.
    let fits = c.recipient_fits.ensures u e (c.read_is_short.ensures.recipient 256 16 i.tree _ i.shape) in
    let w = c.written_reads_same.ensures 256 16 256 b i.tree u _ i.reads i.shape e fits in
    record { tree = u; reads = w.0; shape = w.1 }
