use Rattle.cbor_tests.proofs.items.building.in_place.Goals as goal

pub returns : goal.returns
returns c =
    let one = c.cbor-with_item.ensures.view _ _ c.cbor-no_items.ensures.ok c.cbor-leaf-2.ensures.ok in
    let two = c.cbor-with_item-2.ensures.view _ _ one c.cbor-leaf-3.ensures.ok in
    let three = c.cbor-with_item-3.ensures.view _ _ two c.cbor-null.ensures.ok in
    let array = c.cbor-array.ensures.ok _ three in
    let entry = c.cbor-with_entry.ensures.view _ _ _ c.cbor-no_entries.ensures.ok c.cbor-leaf.ensures.ok array in
    let inside = c.cbor-with_entry-2.ensures.view _ _ _ c.cbor-no_entries-2.ensures.ok c.cbor-null-2.ensures.ok c.cbor-leaf-5.ensures.ok in
    let inner = c.cbor-map.ensures.ok _ inside in
    c.cbor.ensures.ok _ (c.cbor-with_entry-3.ensures.view _ _ _ entry c.cbor-leaf-4.ensures.ok inner)
