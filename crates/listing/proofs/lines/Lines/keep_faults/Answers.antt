use Rattle.listing.proofs.Kept.{keeps}
use Rattle.listing.proofs.lines.Lines.keep_faults.Goals as goal

pub returns : goal.returns
returns c =
    keeps c.args.c.now c.args.self.now _ _ _ _ c.in_ok-add_faults.ensures.ok c.len-from.ensures
    c.len.ensures c.requires
