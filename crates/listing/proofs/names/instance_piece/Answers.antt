use Rattle.std.proofs.Common.{ap, sym}
use Rattle.listing.specs.Names.{instance_name}
use Rattle.listing.specs.Text.{bit_text}
use Rattle.listing.proofs.Numbers.{name_past}
use Rattle.listing.proofs.names.instance_piece.Goals as goal

pub returns-in-None : goal.returns-in-None
returns-in-None c = ap bit_text (sym (name_past instance_name c.args.c.now.instances c.args.instance c.in-None.ensures))
