use Rattle.ciborium_value.proofs.OneEncoding.{short_lengths}
use Rattle.ciborium_value.proofs.TextOrder.{fits_sized, text_order, canonical_order, heads_order}
use Rattle.ciborium_value.proofs.laws.orders_of_encodings.Goals as goal

pub returns : goal.returns
returns c = record {
  sized = fits_sized;
  bytes = text_order;
  counted = canonical_order;
  heads = heads_order;
  lengths = short_lengths;
}
