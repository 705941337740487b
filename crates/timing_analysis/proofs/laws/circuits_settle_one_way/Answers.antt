use Rattle.timing_analysis.proofs.SettlesOneWay.{settles_in_one_way}
use Rattle.timing_analysis.proofs.laws.circuits_settle_one_way.Goals as goal

pub returns : goal.returns
returns c = settles_in_one_way
