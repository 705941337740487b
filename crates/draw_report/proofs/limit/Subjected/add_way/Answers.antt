use Rattle.draw_report.proofs.limit.Subjected.add_way.Goals as goal

pub add_net-requires : goal.add_net-requires
add_net-requires c = c.in_ok-add_rows.ensures

pub returns-in-Some : goal.returns-in-Some
returns-in-Some c = c.add_net.ensures
