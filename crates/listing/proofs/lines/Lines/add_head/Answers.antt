use Rattle.listing.proofs.Kept.{put_behind}
use Rattle.listing.proofs.lines.Lines.add_head.Goals as goal

pub refer-requires-clause-within : goal.refer-requires-clause-within
refer-requires-clause-within c = c.in_ok-part.ensures.within

pub refer-requires-clause-last : goal.refer-requires-clause-last
refer-requires-clause-last c = c.in_ok-part.ensures.are.last

pub returns-clause-text : goal.returns-clause-text
returns-clause-text c =
    put_behind c.args.c.now c.args.self.now _ _ _ _ c.in_ok-part.ensures c.in_ok-refer.ensures.text

pub returns-clause-are : goal.returns-clause-are
returns-clause-are c = c.in_ok-refer.ensures.are c.args.c.now c.in_ok-part.ensures.are
