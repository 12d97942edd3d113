-- What builders have so far.
use Rattle.std.specs.Prelude.{ℕ}
use Rattle.std.specs.Global.{Vec}
use Rattle.coset_signed.specs.Fields.{Sign1Fields, SignFields}
use Rattle.coset_signed.specs.View.{sign1_view, sign_view}
use Rattle.coset_signed.specs.declared.sign1_builder.CoseSign1Builder.{CoseSign1Builder}
use Rattle.coset_signed.specs.declared.sign_builder.CoseSignBuilder.{CoseSignBuilder}

abbrev pub sign1_so_far : CoseSign1Builder → Sign1Fields
sign1_so_far b = sign1_view b.message

abbrev pub sign_so_far : CoseSignBuilder → SignFields
sign_so_far b = sign_view b.message

abbrev pub sign1_signature : CoseSign1Builder → Vec ℕ
sign1_signature b = b.message.signature
