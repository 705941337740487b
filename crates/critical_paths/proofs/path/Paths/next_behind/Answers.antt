use Rattle.std.proofs.Common.{◌∙◌, ap, refl}
use Rattle.flat_circuit.specs.Circuit.{instance_in}
use Rattle.critical_paths.proofs.Pins.{fits_at}
use Rattle.critical_paths.proofs.Search.{none_behind, none_then, passed_all}
use Rattle.critical_paths.proofs.path.Paths.next_behind.Goals as goal

pub open_from-requires-clause-fits : goal.open_from-requires-clause-fits
open_from-requires-clause-fits g c =
    fits_at c.args.view.now.circuit.now _ _ c.requires.circuit c.in-Some.ensures.found

pub open_from-requires-clause-driven : goal.open_from-requires-clause-driven
open_from-requires-clause-driven g c =
    ap (instance_in c.args.view.now.circuit.now) c.in-Some.ensures.number ∙ c.in-Some.ensures.found

pub returns-in-None-clause-none : goal.returns-in-None-clause-none
returns-in-None-clause-none g c = λ before.
    none_behind c.args.view.now.circuit.now c.args.self.now.known.entries c.args.frame.place
    c.in-None.ensures.none

pub returns-in-Some-clause-none : goal.returns-in-Some-clause-none
returns-in-Some-clause-none g c =
    none_then c.open_from.result c.open_from.ensures.none
    (λ after before. passed_all c.args.view.now.circuit.now c.args.self.now.known.entries
    c.args.frame.place c.args.frame.pin _ c.in-Some.element.now
    (ap (instance_in c.args.view.now.circuit.now) c.in-Some.ensures.number
    ∙ c.in-Some.ensures.found) refl before after)
