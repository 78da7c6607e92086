-- The number of a sign or word is above the kinds of other tokens, and one byte has room for it.
use Prim.Native.Nat.{◌<◌}
use native.Mathlib.Omega.{arith}
use Rattle.lexer.specs.declared.Mark.{Mark}
use Rattle.lexer.specs.declared.Mark.TheVariants.{Plus, Minus, Times, Comma, Semicolon, Colon, Equals, AtMost, AtLeast, LeftParen, RightParen, LeftBracket, RightBracket, Open, Close, Maximize, Minimize, Init, Sum, Sigma, Index, Integer, Real, Formula, Discrete, Continuous}
use Rattle.lexer.specs.Numbers.{number}

number-bounds : (m : Mark) → (5 < number m) × (number m < 256)
number-bounds Plus = (omega arith, omega arith)
number-bounds Minus = (omega arith, omega arith)
number-bounds Times = (omega arith, omega arith)
number-bounds Comma = (omega arith, omega arith)
number-bounds Semicolon = (omega arith, omega arith)
number-bounds Colon = (omega arith, omega arith)
number-bounds Equals = (omega arith, omega arith)
number-bounds AtMost = (omega arith, omega arith)
number-bounds AtLeast = (omega arith, omega arith)
number-bounds LeftParen = (omega arith, omega arith)
number-bounds RightParen = (omega arith, omega arith)
number-bounds LeftBracket = (omega arith, omega arith)
number-bounds RightBracket = (omega arith, omega arith)
number-bounds Open = (omega arith, omega arith)
number-bounds Close = (omega arith, omega arith)
number-bounds Maximize = (omega arith, omega arith)
number-bounds Minimize = (omega arith, omega arith)
number-bounds Init = (omega arith, omega arith)
number-bounds Sum = (omega arith, omega arith)
number-bounds Sigma = (omega arith, omega arith)
number-bounds Index = (omega arith, omega arith)
number-bounds Integer = (omega arith, omega arith)
number-bounds Real = (omega arith, omega arith)
number-bounds Formula = (omega arith, omega arith)
number-bounds Discrete = (omega arith, omega arith)
number-bounds Continuous = (omega arith, omega arith)

pub number-high : (m : Mark) → 5 < number m
number-high m = (number-bounds m).0

pub number-byte : (m : Mark) → number m < 256
number-byte m = (number-bounds m).1
