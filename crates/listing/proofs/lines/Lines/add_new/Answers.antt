use Rattle.std.proofs.Common.{refl}
use Rattle.listing.proofs.Kept.{put_behind, more_known}
use Rattle.listing.proofs.lines.Lines.add_new.Goals as goal

pub refer-requires-clause-within : goal.refer-requires-clause-within
refer-requires-clause-within c = c.in_ok-part.ensures.within

pub refer-requires-clause-last : goal.refer-requires-clause-last
refer-requires-clause-last c = c.in_ok-part.ensures.are.last

pub returns-clause-text : goal.returns-clause-text
returns-clause-text c =
    put_behind c.args.c.now c.args.self.now _ _ _ _ c.in_ok-part.ensures c.in_ok-refer.ensures.text

pub returns-clause-are : goal.returns-clause-are
returns-clause-are c =
    let k = c.in_ok-part.ensures in
    c.in_ok-refer.ensures.are c.args.c.now
    (more_known c.args.c.now c.keep_fault.new.self _ c.remember.new.self _ refl
    c.in_ok-remember.ensures.1 k.are (record { within = k.within; is = k.is }))
