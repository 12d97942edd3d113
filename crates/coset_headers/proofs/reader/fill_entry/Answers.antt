use Rattle.std.proofs.lemmas.Result.{err_from_is_err_and}
use Rattle.std.proofs.Common.{Ok, Err, ap}
use Rattle.std.specs.Prelude.{is_ok}
use Rattle.ciborium_value.specs.View.{view}
use Rattle.coset_headers.proofs.Alike.{plain_rolled, signs_rolled}
use Rattle.coset_headers.proofs.Walked.{more_read, more_passed, signs_fault, signs_read}
use Rattle.coset_headers.proofs.reader.fill_entry.Goals as goal

pub returns-in_err-read : goal.returns-in_err-read
returns-in_err-read c =
    let p = err_from_is_err_and c.from_residual.result c.from_residual.ensures.1 in
    rw (p.1, p.2) (λ ps w. rw c.in_err-read.was at (more_passed c.args.nesting c.args.layers ps (view c.args.entry.0, view c.args.entry.1) c.args.seen.now c.args.into.now c.args.read (ap is_ok c.in_err-read.was) w))

pub returns-in_err-signed : goal.returns-in_err-signed
returns-in_err-signed c =
    let p = err_from_is_err_and c.from_residual-in_err-signed.result c.from_residual-in_err-signed.ensures.1 in
    rw (p.1, p.2) (λ ps w. more_read c.args.nesting c.args.layers ps (view c.args.entry.0) (view c.args.entry.1) c.args.seen.now c.read_entry.new.seen c.args.into.now c.read_entry.new.into c.args.read (Err c.in_err-signed.field-0.0) (ap is_ok c.in_ok-read.was) w (λ es v. c.in_err-signed.ensures.read c.args.nesting c.args.layers es v))

pub returns-in-None : goal.returns-in-None
returns-in-None c = λ ps w. more_read c.args.nesting c.args.layers ps (view c.args.entry.0) (view c.args.entry.1) c.args.seen.now c.read_entry.new.seen c.args.into.now c.read_entry.new.into c.args.read (Ok tt) (ap is_ok c.in_ok-read.was) w
    (λ es v. rw c.in-None.is at (c.in_ok-signed.ensures.read c.args.nesting c.args.layers es v))

pub returns-in_err-signatures-in-Some : goal.returns-in_err-signatures-in-Some
returns-in_err-signatures-in-Some c =
    let p = err_from_is_err_and c.from_residual-in_err-signatures-in-Some.result c.from_residual-in_err-signatures-in-Some.ensures.1 in
    let same = rw c.in-Some.is at c.in_ok-signed.ensures.same in
    rw (p.1, p.2) (λ ps w. more_read c.args.nesting c.args.layers ps (view c.args.entry.0) (view c.args.entry.1) c.args.seen.now c.read_entry.new.seen c.args.into.now c.read_entry.new.into c.args.read (Err c.in_err-signatures-in-Some.field-0.0) (ap is_ok c.in_ok-read.was) w (λ es v.
    let x = rw c.in-Some.is at (c.in_ok-signed.ensures.read c.args.nesting c.args.layers es v) in
    rw same.0 at (signs_fault c.args.nesting c.args.layers es (view c.args.entry.0) _ _ _ x c.in_err-signatures-in-Some.ensures)))

pub returns-in_ok-signatures-in-Some : goal.returns-in_ok-signatures-in-Some
returns-in_ok-signatures-in-Some c =
    let same = rw c.in-Some.is at c.in_ok-signed.ensures.same in
    λ ps w. more_read c.args.nesting c.args.layers ps (view c.args.entry.0) (view c.args.entry.1) c.args.seen.now c.read_entry.new.seen c.args.into.now _ c.args.read (Ok tt) (ap is_ok c.in_ok-read.was) w (λ es v.
    let x = rw c.in-Some.is at (c.in_ok-signed.ensures.read c.args.nesting c.args.layers es v) in
    signs_read c.args.nesting c.args.layers es (view c.args.entry.0) (view c.args.entry.1) _ c.read_entry.new.into _ _ (rw (← same.1) at v.known) x (rw same.0 at c.in_ok-signatures-in-Some.ensures) (plain_rolled _) (signs_rolled _))
