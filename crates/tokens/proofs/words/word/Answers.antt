-- The key says what the word is.
use Rattle.tokens.specs.Words.{word_known}
use Rattle.tokens.proofs.words.word.Goals as goal

pub returns : goal.returns
returns c = word_known _ _ _ c.spelled-s.ensures _ c.known-kind.ensures
