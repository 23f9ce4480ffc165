-- "Two outcomes allowed by one promise are proved equal", of words exported.
use Rattle.std.specs.Prelude.{List, ℕ, Result}
use Rattle.answers.specs.declared.Refusal.{Refusal}
use Rattle.exporter.proofs.export.Reads as export
use Rattle.claims.specs.Allowed.{Once, same}
use Rattle.claims.specs.Once.Written.{written_same}

-- exporter: export, with the buffer

pub export_once : Once export.Post {Out = Result ℕ Refusal × List ℕ} (λ κs r s. (r, s.1.0.now))
export_once κs a r q s t h k = written_same r q s.1.0.now t.1.0.now (same h k)
