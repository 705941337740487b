use Rattle.std.proofs.Common.{sym}
use Rattle.std.proofs.lemmas.Option.{slice_get_within}
use Rattle.critical_paths.proofs.Arriving.{not_past}
use Rattle.critical_paths.proofs.arrival.is_net.Goals as goal

pub returns-in-Some-clause-within : goal.returns-in-Some-clause-within
returns-in-Some-clause-within g c = λ same. slice_get_within c.args.view.now.circuit.now.nets c.args.net _
    (sym c.in-Some.ensures)

pub returns-in-None-clause-net : goal.returns-in-None-clause-net
returns-in-None-clause-net g c = λ less.
    absurd (not_past c.args.view.now.circuit.now.nets c.args.net less (sym c.in-None.ensures))
