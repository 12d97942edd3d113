-- What builders have so far.
use Rattle.std.specs.Prelude.{ℕ}
use Rattle.std.specs.Global.{Vec}
use Rattle.coset_maced.specs.Fields.{Mac0Fields, MacFields}
use Rattle.coset_maced.specs.View.{mac0_view, mac_view}
use Rattle.coset_maced.specs.declared.mac0_builder.CoseMac0Builder.{CoseMac0Builder}
use Rattle.coset_maced.specs.declared.mac_builder.CoseMacBuilder.{CoseMacBuilder}

abbrev pub mac0_so_far : CoseMac0Builder → Mac0Fields
mac0_so_far b = mac0_view b.message

abbrev pub mac_so_far : CoseMacBuilder → MacFields
mac_so_far b = mac_view b.message

abbrev pub mac0_tag : CoseMac0Builder → Vec ℕ
mac0_tag b = b.message.tag

abbrev pub mac_tag : CoseMacBuilder → Vec ℕ
mac_tag b = b.message.tag
