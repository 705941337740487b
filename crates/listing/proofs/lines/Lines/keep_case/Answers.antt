use Rattle.listing.proofs.Kept.{keeps}
use Rattle.listing.proofs.lines.Lines.keep_case.Goals as goal

pub returns : goal.returns
returns g c =
    keeps c.args.c.now c.args.self.now _ _ _ _ c.in_ok-add_case_head.ensures c.len-from.ensures
    c.len.ensures c.requires.are
