use Rattle.ras_cells.proofs.Bits.{made_of_bits-whole}
use Rattle.ras_cells.proofs.laws.bits_make_the_number.Goals as goal

pub returns : goal.returns
returns c = made_of_bits-whole
