use Rattle.listing.proofs.Kept.{joined_text, joined_are, pushed_text, pushed_are}
use Rattle.listing.proofs.lines.Lines.refer.Goals as goal

pub returns-then-self-part-clause-text : goal.returns-then-self-part-clause-text
returns-then-self-part-clause-text c =
    joined_text c.args.self.now c.args.part c.if-self-part.true c.requires.within c.requires.last

pub returns-then-self-part-clause-are : goal.returns-then-self-part-clause-are
returns-then-self-part-clause-are c d are =
    joined_are d c.args.self.now c.args.part c.if-self-part.true c.requires.within are

pub returns-clause-text : goal.returns-clause-text
returns-clause-text c =
    pushed_text c.args.self.now c.push.new.self c.args.part c.in_ok-push.ensures.ok

pub returns-clause-are : goal.returns-clause-are
returns-clause-are c d are =
    pushed_are d c.args.self.now c.push.new.self c.args.part c.in_ok-push.ensures.ok
    c.requires.within are
