-- `store::unpack` meets its contract.
use Rattle.store.proofs.Words.{unpacked-is}
use Rattle.store.proofs.unpack.Goals as goal

pub returns : goal.returns
returns c = unpacked-is _ c.ranges.w.fits
