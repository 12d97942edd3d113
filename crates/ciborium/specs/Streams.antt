-- What a clause sees of a deserializer and a serializer.
use Rattle.std.specs.Prelude.{ℕ}
use Rattle.ciborium_ll.specs.declared.dec.Decoder.{Decoder}
use Rattle.ciborium_ll.specs.declared.enc.Encoder.{Encoder}
use Rattle.ciborium.specs.declared.ser.Serializer.{Serializer}
use Rattle.ciborium.specs.declared.source.Deserializer.{Deserializer}

-- the decoder that the items come from
abbrev pub decoder_of : {R : Type 0} → Deserializer R → Decoder R
decoder_of d = d.decoder

-- how many levels an item may nest
abbrev pub limit_of : {R : Type 0} → Deserializer R → ℕ
limit_of d = d.recursion_limit

-- the encoder that events are written by
abbrev pub encoder_of : {W : Type 0} → Serializer W → Encoder W
encoder_of s = s.encoder
