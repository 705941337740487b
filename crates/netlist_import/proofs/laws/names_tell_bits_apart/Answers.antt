use Rattle.netlist_import.proofs.NamedBits.{names_tell_bits}
use Rattle.netlist_import.proofs.laws.names_tell_bits_apart.Goals as goal

pub returns : goal.returns
returns c = names_tell_bits
