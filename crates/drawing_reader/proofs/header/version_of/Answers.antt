use Rattle.std.proofs.Common.{w64, FitsSigned, rules}
use Rattle.drawing_reader.proofs.Sketches.{version_two, version_one}
use Rattle.drawing_reader.proofs.header.version_of.Goals as goal

pub returns-then-written-eq2 : goal.returns-then-written-eq2
returns-then-written-eq2 c =
    let fits : FitsSigned w64 c.args.written.now.version = search rules in
    λ known. version_two c.args.written.now.version fits c.if-written-eq2.true

pub returns : goal.returns
returns c = λ known. version_one c.args.written.now.version c.if-written-eq2.false known
