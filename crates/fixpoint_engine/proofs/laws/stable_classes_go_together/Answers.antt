use Rattle.fixpoint_engine.proofs.Classes.{go_together}
use Rattle.fixpoint_engine.proofs.laws.stable_classes_go_together.Goals as goal

pub returns : goal.returns
returns c circuit cases classes active start known stable together one = go_together circuit cases classes known stable active start together one
