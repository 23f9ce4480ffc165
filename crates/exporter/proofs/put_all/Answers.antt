-- The records, and the end record behind them.
use Rattle.intel_hex.specs.Records.{sum}
use Rattle.intel_hex.specs.Exporting.{pairs, end_record}
use Rattle.exporter.specs.Records.{text_put}
use Rattle.exporter.proofs.put_all.Goals as goal

pub returns : goal.returns
unfolding end_record pairs sum
returns c = text_put c.args.words.now _ _ _ _ _ c.put_records-end.ensures c.put_text.ensures
