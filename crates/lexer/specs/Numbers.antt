-- The numbers of the code's signs and words, in the definition's terms.
use Rattle.std.specs.Prelude.{ℕ}
use Rattle.lexer.specs.declared.Mark.{Mark}
use Rattle.lexer.specs.declared.Mark.TheVariants.{Plus, Minus, Times, Comma, Semicolon, Colon, Equals, AtMost, AtLeast, LeftParen, RightParen, LeftBracket, RightBracket, Open, Close, Maximize, Minimize, Init, Sum, Sigma, Index, Integer, Real, Formula, Discrete, Continuous}
use Rattle.lexer.specs.Marks.{plus_sign, minus_sign, times_sign, comma, semicolon, colon, equals, at_most, at_least, opens, closes, opens_list, closes_list, open_word, close_word, maximize_word, minimize_word, init_word, sum_word, sigma_word, index_word, integer_word, real_word, formula_word, discrete_word, continuous_word}

abbrev pub number : Mark → ℕ
number Plus = plus_sign
number Minus = minus_sign
number Times = times_sign
number Comma = comma
number Semicolon = semicolon
number Colon = colon
number Equals = equals
number AtMost = at_most
number AtLeast = at_least
number LeftParen = opens
number RightParen = closes
number LeftBracket = opens_list
number RightBracket = closes_list
number Open = open_word
number Close = close_word
number Maximize = maximize_word
number Minimize = minimize_word
number Init = init_word
number Sum = sum_word
number Sigma = sigma_word
number Index = index_word
number Integer = integer_word
number Real = real_word
number Formula = formula_word
number Discrete = discrete_word
number Continuous = continuous_word
