-- Each return is a law of the specs.
use Rattle.importer.specs.StepLaws.{keeps_other, keeps_none, has_places, keeps_bytes}
use Rattle.importer.proofs.reading.Said.keep.Goals as goal
use Rattle.importer.proofs.reading.Said.keep.Goals.{else-octet-eq-DATA-via-then-octet-eq-DATA+else-n-ne0, else-octet-eq-DATA-via-else-octet-eq-DATA}

pub put-requires : goal.put-requires
put-requires c = has_places _ c.args.memory.now _ _ c.octet.ensures.0 c.if-octet-eq-DATA.true _ c.octet-n.ensures.0 _ c.address.ensures c.requires c.if-n-ne0.true c.octet-n.ensures.1

pub returns-then-n-ne0 : goal.returns-then-n-ne0
returns-then-n-ne0 c = keeps_bytes _ _ _ _ c.octet.ensures.0 c.if-octet-eq-DATA.true _ c.octet-n.ensures.0 _ c.address.ensures _ c.put.ensures

pub returns-else-octet-eq-DATA : goal.returns-else-octet-eq-DATA
returns-else-octet-eq-DATA c =
    elim c.else-octet-eq-DATA.branch [
      | else-octet-eq-DATA-via-then-octet-eq-DATA+else-n-ne0 w ↦ keeps_none _ _ _ _ c.octet.ensures.0 w.if-octet-eq-DATA.true _ c.octet-n.ensures.0 w.if-n-ne0.false
      | else-octet-eq-DATA-via-else-octet-eq-DATA w ↦ keeps_other _ _ _ _ c.octet.ensures.0 w.if-octet-eq-DATA.false
    ]
