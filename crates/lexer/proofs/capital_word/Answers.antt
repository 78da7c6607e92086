-- `lexer::capital_word` meets its contract.
use Rattle.lexer.specs.Marks.{capital_words}
use Rattle.lexer.proofs.Words.{word_none, word-or}
use Rattle.lexer.proofs.capital_word.Goals as goal

pub returns : goal.returns
unfolding capital_words
returns c = search (word-or, word_none) depth 16
