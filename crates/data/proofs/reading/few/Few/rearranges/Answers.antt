-- `few::Few::rearranges` meets its contract.
use Rattle.data.proofs.reading.Lists.{rearranges-count, rearranges-not, rearranges_last}
use Rattle.data.proofs.reading.few.Few.rearranges.Goals as goal

pub returns-then-self-marks : goal.returns-then-self-marks
returns-then-self-marks c = search rearranges-count

pub returns-then-not-no_repeats : goal.returns-then-not-no_repeats
returns-then-not-no_repeats c = search rearranges-not depth 7

pub returns : goal.returns
returns c = search rearranges_last depth 8
