use Rattle.std.proofs.Common.{w64, FitsSigned, rules}
use Rattle.drawing_reader.proofs.Sketches.{second_by, first_by}
use Rattle.drawing_reader.proofs.reader.edition_by.Goals as goal

pub returns-then-header-eq2 : goal.returns-then-header-eq2
returns-then-header-eq2 c =
    let fits : FitsSigned w64 c.args.header.now.version = search rules in
    second_by c.args.header.now.version fits c.if-header-eq2.true

pub returns : goal.returns
returns c = first_by c.args.header.now.version c.if-header-eq2.false
