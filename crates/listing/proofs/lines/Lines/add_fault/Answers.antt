use Rattle.std.proofs.Common.{List, ℕ, ◌++◌, ap, ◌∙◌}
use Rattle.listing.specs.Lines.{lines_text}
use Rattle.listing.proofs.Kept.{known_at}
use Rattle.listing.proofs.lines.Lines.add_fault.Goals as goal

pub refer-requires-clause-within : goal.refer-requires-clause-within
refer-requires-clause-within c =
    let found = c.in-Some.ensures in
    (known_at c.args.c.now c.args.self.now.kept c.args.self.now.known.lines found.0 found.1
    c.args.fault c.in-Some.part c.requires.known found.2).within

pub refer-requires-clause-last : goal.refer-requires-clause-last
refer-requires-clause-last c = c.requires.last

pub returns-in_ok-refer-in-Some-clause-text : goal.returns-in_ok-refer-in-Some-clause-text
returns-in_ok-refer-in-Some-clause-text c =
    let found = c.in-Some.ensures in
    let line = known_at c.args.c.now c.args.self.now.kept c.args.self.now.known.lines found.0
    found.1 c.args.fault c.in-Some.part c.requires.known found.2 in
    c.in_ok-refer-in-Some.ensures.text
    ∙ ap (λ (b : List ℕ). lines_text c.args.self.now ++ b) line.is

pub returns-in_ok-refer-in-Some-clause-are : goal.returns-in_ok-refer-in-Some-clause-are
returns-in_ok-refer-in-Some-clause-are c = c.in_ok-refer-in-Some.ensures.are c.args.c.now c.requires
