-- Two digits make the byte.
use Rattle.importer.specs.RecordLaws.{worth, pair}
use Rattle.importer.proofs.records.octet.Goals as goal

pub returns : goal.returns
returns c =
    pair _ _ _ _ (worth _ _ _ _ c.digit.ensures.number c.byte.ensures c.digit.ensures.below c.unwrap_or-high.ensures)
    (worth _ _ _ _ c.digit-2.ensures.number c.byte-2.ensures c.digit-2.ensures.below c.unwrap_or-low.ensures)
