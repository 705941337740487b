use Rattle.std.proofs.Common.{◌∙◌, sym, ap, arith}
use Rattle.std.specs.Option.{option_copied}
use Rattle.fixpoint_engine.proofs.Drivers.{driver_fits, driver_makes}
use Rattle.fixpoint_engine.proofs.Keys.{each_number}
use Rattle.fixpoint_engine.proofs.Added.{kept_number}
use Rattle.fixpoint_engine.proofs.value.evaluated.Goals as goal

pub number_made-requires-clause-makes : goal.number_made-requires-clause-makes
number_made-requires-clause-makes g c =
    driver_makes c.args.c.now c.args.net c.in-Some.driver.now c.known.ensures (sym c.in-Some.ensures)

pub number_made-requires-clause-fits : goal.number_made-requires-clause-fits
number_made-requires-clause-fits g c =
    driver_fits c.args.c.now c.args.net c.in-Some.driver.now c.known.ensures (sym c.in-Some.ensures)

pub returns-in-None-clause-is : goal.returns-in-None-clause-is
returns-in-None-clause-is g c =
    let each = each_number c.args.c.now c.args.store.now c.args.numbers.now c.requires.fit in
    let exists = c.requires.exists in
    kept_number c.args.c.now c.args.store.now c.args.numbers.now c.args.net (sym c.driver_of.ensures ∙ ap option_copied c.in-None.is) c.requires.known (omega (arith, each, exists))
