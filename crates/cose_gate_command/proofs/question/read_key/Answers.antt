use Rattle.std.proofs.Common.{[], ◌∷◌}
use Rattle.cose_gate_command.proofs.Keys as keys
use Rattle.cose_gate_command.proofs.question.read_key.Goals as goal

pub returns-in_err-kind : goal.returns-in_err-kind
returns-in_err-kind c = rw c.from_residual-in_err-kind.ensures
    (keys.no_kind c.args.key.now c.in_ok-tag.rest.now c.in_ok-tag.tag c.in_ok-tag.ensures.0 c.in_ok-tag.ensures.1 c.in_err-kind.ensures)

pub returns-in_err-protected : goal.returns-in_err-protected
returns-in_err-protected c = rw c.from_residual-in_err-protected.ensures
    (keys.no_key c.args.key.now c.in_ok-tag.rest.now c.in_ok-tag.tag c.well_formed.0.0 c.in_ok-tag.ensures.0 c.in_ok-tag.ensures.1
    (keys.none_here 6 c.in_ok-tag.rest.now c.in_err-protected.ensures))

pub returns-in_err-unprotected : goal.returns-in_err-unprotected
returns-in_err-unprotected c = rw c.from_residual-in_err-unprotected.ensures
    (keys.no_key c.args.key.now c.in_ok-tag.rest.now c.in_ok-tag.tag c.well_formed.0.0 c.in_ok-tag.ensures.0 c.in_ok-tag.ensures.1
    (keys.none_after 6 c.in_ok-tag.rest.now c.in_ok-protected.protected.now c.in_ok-protected.rest.now c.in_ok-protected.ensures
    (keys.none_here 5 c.in_ok-protected.rest.now c.in_err-unprotected.ensures)))

pub returns-in_err-signer_protected : goal.returns-in_err-signer_protected
returns-in_err-signer_protected c = rw c.from_residual-in_err-signer_protected.ensures
    (keys.no_key c.args.key.now c.in_ok-tag.rest.now c.in_ok-tag.tag c.well_formed.0.0 c.in_ok-tag.ensures.0 c.in_ok-tag.ensures.1
    (keys.none_after 6 c.in_ok-tag.rest.now c.in_ok-protected.protected.now c.in_ok-protected.rest.now c.in_ok-protected.ensures
    (keys.none_after 5 c.in_ok-protected.rest.now c.in_ok-unprotected.unprotected.now c.in_ok-unprotected.rest.now c.in_ok-unprotected.ensures
    (keys.none_here 4 c.in_ok-unprotected.rest.now c.in_err-signer_protected.ensures))))

pub returns-in_err-signer_unprotected : goal.returns-in_err-signer_unprotected
returns-in_err-signer_unprotected c = rw c.from_residual-in_err-signer_unprotected.ensures
    (keys.no_key c.args.key.now c.in_ok-tag.rest.now c.in_ok-tag.tag c.well_formed.0.0 c.in_ok-tag.ensures.0 c.in_ok-tag.ensures.1
    (keys.none_after 6 c.in_ok-tag.rest.now c.in_ok-protected.protected.now c.in_ok-protected.rest.now c.in_ok-protected.ensures
    (keys.none_after 5 c.in_ok-protected.rest.now c.in_ok-unprotected.unprotected.now c.in_ok-unprotected.rest.now c.in_ok-unprotected.ensures
    (keys.none_after 4 c.in_ok-unprotected.rest.now c.in_ok-signer_protected.signer_protected.now c.in_ok-signer_protected.rest.now c.in_ok-signer_protected.ensures
    (keys.none_here 3 c.in_ok-signer_protected.rest.now c.in_err-signer_unprotected.ensures)))))

pub returns-in_err-recipients : goal.returns-in_err-recipients
returns-in_err-recipients c = rw c.from_residual-in_err-recipients.ensures
    (keys.no_key c.args.key.now c.in_ok-tag.rest.now c.in_ok-tag.tag c.well_formed.0.0 c.in_ok-tag.ensures.0 c.in_ok-tag.ensures.1
    (keys.none_after 6 c.in_ok-tag.rest.now c.in_ok-protected.protected.now c.in_ok-protected.rest.now c.in_ok-protected.ensures
    (keys.none_after 5 c.in_ok-protected.rest.now c.in_ok-unprotected.unprotected.now c.in_ok-unprotected.rest.now c.in_ok-unprotected.ensures
    (keys.none_after 4 c.in_ok-unprotected.rest.now c.in_ok-signer_protected.signer_protected.now c.in_ok-signer_protected.rest.now c.in_ok-signer_protected.ensures
    (keys.none_after 3 c.in_ok-signer_protected.rest.now c.in_ok-signer_unprotected.signer_unprotected.now c.in_ok-signer_unprotected.rest.now c.in_ok-signer_unprotected.ensures
    (keys.none_here 2 c.in_ok-signer_unprotected.rest.now c.in_err-recipients.ensures))))))

pub returns-in_err-covered : goal.returns-in_err-covered
returns-in_err-covered c = rw c.from_residual-in_err-covered.ensures
    (keys.no_key c.args.key.now c.in_ok-tag.rest.now c.in_ok-tag.tag c.well_formed.0.0 c.in_ok-tag.ensures.0 c.in_ok-tag.ensures.1
    (keys.none_after 6 c.in_ok-tag.rest.now c.in_ok-protected.protected.now c.in_ok-protected.rest.now c.in_ok-protected.ensures
    (keys.none_after 5 c.in_ok-protected.rest.now c.in_ok-unprotected.unprotected.now c.in_ok-unprotected.rest.now c.in_ok-unprotected.ensures
    (keys.none_after 4 c.in_ok-unprotected.rest.now c.in_ok-signer_protected.signer_protected.now c.in_ok-signer_protected.rest.now c.in_ok-signer_protected.ensures
    (keys.none_after 3 c.in_ok-signer_protected.rest.now c.in_ok-signer_unprotected.signer_unprotected.now c.in_ok-signer_unprotected.rest.now c.in_ok-signer_unprotected.ensures
    (keys.none_after 2 c.in_ok-signer_unprotected.rest.now c.in_ok-recipients.recipients.now c.in_ok-recipients.rest.now c.in_ok-recipients.ensures
    (keys.none_here 1 c.in_ok-recipients.rest.now c.in_err-covered.ensures)))))))

pub returns-in_err-signature : goal.returns-in_err-signature
returns-in_err-signature c = rw c.from_residual-in_err-signature.ensures
    (keys.no_key c.args.key.now c.in_ok-tag.rest.now c.in_ok-tag.tag c.well_formed.0.0 c.in_ok-tag.ensures.0 c.in_ok-tag.ensures.1
    (keys.none_after 6 c.in_ok-tag.rest.now c.in_ok-protected.protected.now c.in_ok-protected.rest.now c.in_ok-protected.ensures
    (keys.none_after 5 c.in_ok-protected.rest.now c.in_ok-unprotected.unprotected.now c.in_ok-unprotected.rest.now c.in_ok-unprotected.ensures
    (keys.none_after 4 c.in_ok-unprotected.rest.now c.in_ok-signer_protected.signer_protected.now c.in_ok-signer_protected.rest.now c.in_ok-signer_protected.ensures
    (keys.none_after 3 c.in_ok-signer_protected.rest.now c.in_ok-signer_unprotected.signer_unprotected.now c.in_ok-signer_unprotected.rest.now c.in_ok-signer_unprotected.ensures
    (keys.none_after 2 c.in_ok-signer_unprotected.rest.now c.in_ok-recipients.recipients.now c.in_ok-recipients.rest.now c.in_ok-recipients.ensures
    (keys.none_after 1 c.in_ok-recipients.rest.now c.in_ok-covered.covered.now c.in_ok-covered.rest.now c.in_ok-covered.ensures
    (keys.none_here 0 c.in_ok-covered.rest.now c.in_err-signature.ensures))))))))

pub returns-then-not-is_empty : goal.returns-then-not-is_empty
returns-then-not-is_empty c =
    keys.no_key c.args.key.now c.in_ok-tag.rest.now c.in_ok-tag.tag c.well_formed.0.0 c.in_ok-tag.ensures.0 c.in_ok-tag.ensures.1
    (keys.none_after 6 c.in_ok-tag.rest.now c.in_ok-protected.protected.now c.in_ok-protected.rest.now c.in_ok-protected.ensures
    (keys.none_after 5 c.in_ok-protected.rest.now c.in_ok-unprotected.unprotected.now c.in_ok-unprotected.rest.now c.in_ok-unprotected.ensures
    (keys.none_after 4 c.in_ok-unprotected.rest.now c.in_ok-signer_protected.signer_protected.now c.in_ok-signer_protected.rest.now c.in_ok-signer_protected.ensures
    (keys.none_after 3 c.in_ok-signer_protected.rest.now c.in_ok-signer_unprotected.signer_unprotected.now c.in_ok-signer_unprotected.rest.now c.in_ok-signer_unprotected.ensures
    (keys.none_after 2 c.in_ok-signer_unprotected.rest.now c.in_ok-recipients.recipients.now c.in_ok-recipients.rest.now c.in_ok-recipients.ensures
    (keys.none_after 1 c.in_ok-recipients.rest.now c.in_ok-covered.covered.now c.in_ok-covered.rest.now c.in_ok-covered.ensures
    (keys.none_after 0 c.in_ok-covered.rest.now c.in_ok-signature.signature.now c.in_ok-signature.rest.now c.in_ok-signature.ensures
    (keys.none_left c.in_ok-signature.rest.now c.is_empty.result c.is_empty.ensures c.if-not-is_empty.true))))))))

pub returns : goal.returns
returns c =
    let from7 = c.in_ok-signature.signature.now ∷ [] in
    let from6 = c.in_ok-covered.covered.now ∷ from7 in
    let from5 = c.in_ok-recipients.recipients.now ∷ from6 in
    let from4 = c.in_ok-signer_unprotected.signer_unprotected.now ∷ from5 in
    let from3 = c.in_ok-signer_protected.signer_protected.now ∷ from4 in
    let from2 = c.in_ok-unprotected.unprotected.now ∷ from3 in
    let from1 = c.in_ok-protected.protected.now ∷ from2 in
    keys.key_is c.args.key.now c.in_ok-tag.rest.now c.in_ok-tag.tag c.in_ok-kind.kind from1 c.in_ok-tag.ensures.1 c.in_ok-kind.ensures
    (keys.text_then c.in_ok-tag.rest.now c.in_ok-protected.protected.now c.in_ok-protected.rest.now from2 c.in_ok-protected.ensures
    (keys.text_then c.in_ok-protected.rest.now c.in_ok-unprotected.unprotected.now c.in_ok-unprotected.rest.now from3 c.in_ok-unprotected.ensures
    (keys.text_then c.in_ok-unprotected.rest.now c.in_ok-signer_protected.signer_protected.now c.in_ok-signer_protected.rest.now from4 c.in_ok-signer_protected.ensures
    (keys.text_then c.in_ok-signer_protected.rest.now c.in_ok-signer_unprotected.signer_unprotected.now c.in_ok-signer_unprotected.rest.now from5 c.in_ok-signer_unprotected.ensures
    (keys.text_then c.in_ok-signer_unprotected.rest.now c.in_ok-recipients.recipients.now c.in_ok-recipients.rest.now from6 c.in_ok-recipients.ensures
    (keys.text_then c.in_ok-recipients.rest.now c.in_ok-covered.covered.now c.in_ok-covered.rest.now from7 c.in_ok-covered.ensures
    (keys.text_then c.in_ok-covered.rest.now c.in_ok-signature.signature.now c.in_ok-signature.rest.now [] c.in_ok-signature.ensures
    (keys.no_texts c.in_ok-signature.rest.now c.is_empty.result c.is_empty.ensures c.if-not-is_empty.false))))))))
