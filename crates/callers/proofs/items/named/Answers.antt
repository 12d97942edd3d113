use Rattle.callers.proofs.items.named.Goals as goal

pub returns-clause-ok : goal.returns-clause-ok
returns-clause-ok c = c.cbor.ensures.ok _ (c.cbor-with_entry.ensures.view _ _ _ c.cbor-no_entries.ensures.ok c.cbor-leaf.ensures.ok c.cbor-leaf-2.ensures.ok)
