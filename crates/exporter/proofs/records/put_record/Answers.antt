-- The head, the data, the checksum and the LF, each behind the one before.
use native.Mathlib.Omega.{arith}
use Rattle.std.proofs.Common.{refl}
use Rattle.text.specs.Puts.{put_within}
use Rattle.exporter.specs.Words.{sum_most}
use Rattle.exporter.specs.Records.{place_bytes, record_put}
use Rattle.exporter.proofs.records.put_record.Goals as goal

pub overflow_add-sum-3 : goal.overflow_add-sum-3
overflow_add-sum-3 c = let m = sum_most c.args.words.now in
    let b = place_bytes c.args.place _ (omega arith) c.to_be_bytes.ensures in
    omega arith

pub put_bytes-data-requires : goal.put_bytes-data-requires
put_bytes-data-requires c = put_within _ _ _ _ _ c.put_text-head.ensures

pub put_words-last-requires : goal.put_words-last-requires
put_words-last-requires c = put_within _ _ _ _ _ c.put_bytes-data.ensures

pub put_bytes-end-requires : goal.put_bytes-end-requires
put_bytes-end-requires c = put_within _ _ _ _ _ c.put_words-last.ensures

pub returns : goal.returns
returns c = let g = c.args in
    let b = place_bytes g.place _ (omega arith) c.to_be_bytes.ensures in
    record_put g.place g.words.now _ _ _ _ refl b.0 b.1 (omega arith) g.at g.out.now _ _ _ _ _ _ _ _ _ _ c.put_text-head.ensures
    c.put_bytes-data.ensures c.put_words-last.ensures c.put_bytes-end.ensures c.put_text.ensures
