-- `contents::little_endian::u16_at` meets its contract: the library's number is the one of the definition. Assumes nothing.
use Rattle.contents.proofs.Le.{from_le_2}
use Rattle.contents.proofs.little_endian.u16_at.Goals as goal

pub returns : goal.returns
returns c = let a = c.args in from_le_2 a.at a.s.now c.from_le_bytes.ensures
