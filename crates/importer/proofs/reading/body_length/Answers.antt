-- Each return is a law of the specs.
use Rattle.std.proofs.Common.{refl}
use Rattle.importer.specs.StepLaws.{no_byte, no_return_lem, one_return}
use Rattle.importer.proofs.reading.body_length.Goals as goal
use Rattle.importer.proofs.reading.body_length.Goals.{else-n-ne0-via-then-n-ne0+else-bytes-n-eq13, else-n-ne0-via-else-n-ne0}

pub returns-then-bytes-n-eq13 : goal.returns-then-bytes-n-eq13
returns-then-bytes-n-eq13 c = one_return _ c.if-bytes-n-eq13.true

pub returns-else-n-ne0 : goal.returns-else-n-ne0
returns-else-n-ne0 c =
    elim c.else-n-ne0.branch [
      | else-n-ne0-via-then-n-ne0+else-bytes-n-eq13 w ↦ no_return_lem _ _ refl w.if-bytes-n-eq13.false
      | else-n-ne0-via-else-n-ne0 w ↦ no_byte _ w.if-n-ne0.false
    ]
