-- "Two outcomes allowed by one promise are proved equal", of calls over any type, and of those of programs.
use denote.RattleType.{RattleType}
use denote.Param.Laws.{Laws}
use Rattle.answers.proofs.answer_of.Reads as answer-of
use Rattle.streams.proofs.within.Reads as within
use Rattle.lines.proofs.status.Status.of.Reads as status-of
use Rattle.claims.specs.Allowed.{Once, same}

module _ (T : RattleType) (laws : Laws T) where
  -- answers: answer_of
  pub answer_of_once : Once (answer-of.Post T laws) (λ κs r s. r)
  answer_of_once κs a r q s t = same

  -- streams: within
  pub within_once : Once (within.Post T laws) (λ κs r s. r)
  within_once κs a r q s t h k = same h.1 k.1

-- lines: Status::of
pub status_of_once : Once status-of.Post (λ κs r s. r)
status_of_once κs a r q s t = same
