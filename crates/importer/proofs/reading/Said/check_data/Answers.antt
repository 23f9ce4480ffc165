-- Each return is a law of the specs.
use Rattle.importer.specs.StepLaws.{no_bytes, far, twice, once}
use Rattle.importer.proofs.reading.Said.check_data.Goals as goal

pub returns-then-n-eq0 : goal.returns-then-n-eq0
returns-then-n-eq0 c = no_bytes _ _ _ _ c.octet-n.ensures.0 c.if-n-eq0.true

pub returns-then-n-at : goal.returns-then-n-at
returns-then-n-at c = far _ _ _ _ c.octet-n.ensures.0 c.if-n-eq0.false c.octet-n.ensures.1 _ c.address-at.ensures c.if-n-at.true

pub returns-then-given : goal.returns-then-given
returns-then-given c = twice _ _ _ _ c.octet-n.ensures.0 c.if-n-eq0.false c.octet-n.ensures.1 _ c.address-at.ensures c.if-n-at.false _ c.given.ensures c.if-given.true

pub returns : goal.returns
returns c = once _ _ _ _ c.octet-n.ensures.0 c.if-n-eq0.false c.octet-n.ensures.1 _ c.address-at.ensures c.if-n-at.false _ c.given.ensures c.if-given.false
