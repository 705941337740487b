use Rattle.std.proofs.Common.{ap, sym}
use Rattle.flat_circuit.specs.Circuit.{net_name}
use Rattle.listing.specs.Text.{bit_text}
use Rattle.listing.proofs.Numbers.{name_past}
use Rattle.listing.proofs.names.net_piece.Goals as goal

pub returns-in-None : goal.returns-in-None
returns-in-None c = ap bit_text (sym (name_past net_name c.args.c.now.nets c.args.net c.in-None.ensures))
