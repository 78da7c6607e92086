-- `scanner::fill` meets its contract.
use native.Mathlib.Omega.{arith}
use Rattle.tokens.proofs.scanner.Filling.{filling-start, turn-packs, turn-place, filling-more, filling-last, filling-out}
use Rattle.tokens.proofs.scanner.fill.Goals as goal

pub loop-i-init : goal.loop-i-init
loop-i-init c = search filling-start depth 6

pub word-requires : goal.word-requires
word-requires c = (search turn-packs depth 6, search turn-place depth 6)

pub returns-then-is_last : goal.returns-then-is_last
returns-then-is_last c =
    filling-last _ _ _ _ _ _ c.loop-i.invariant c.next-read.ensures _ (omega (arith, c.loop-i.invariant.size)) c.word.ensures _ c.is_last.ensures c.if-is_last.true

pub loop-i-preserved : goal.loop-i-preserved
loop-i-preserved c =
    filling-more _ _ _ _ _ _ c.loop-i.invariant c.next-read.ensures _ (omega (arith, c.loop-i.invariant.size)) c.word.ensures _ c.is_last.ensures c.if-is_last.false

pub returns : goal.returns
returns c = filling-out _ _ _ _ _ _ c.loop-i.invariant (omega (arith, c.loop-i.invariant.size)) c.loop-i.invariant.size
