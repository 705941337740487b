use Rattle.draw_report.proofs.way.Way.add_rows.Goals as goal

pub add_pin-requires : goal.add_pin-requires
add_pin-requires c = c.in_ok-add_nets.ensures

pub returns-in-Some : goal.returns-in-Some
returns-in-Some c = c.add_pin.ensures
