use Rattle.listing.proofs.Kept.{same_known}
use Rattle.listing.proofs.lines.Lines.add_faults.Goals as goal

pub add_again-requires : goal.add_again-requires
add_again-requires c =
    same_known c.args.c.now c.args.self.now c.make_room.new.self c.make_room.ensures c.requires
