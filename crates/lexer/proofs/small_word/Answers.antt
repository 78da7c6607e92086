-- `lexer::small_word` meets its contract.
use Rattle.lexer.specs.Marks.{small_words}
use Rattle.lexer.proofs.Words.{word_none, word-or}
use Rattle.lexer.proofs.small_word.Goals as goal

pub returns : goal.returns
unfolding small_words
returns c = search (word-or, word_none) depth 16
