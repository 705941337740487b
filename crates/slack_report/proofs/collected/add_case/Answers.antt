use Rattle.std.proofs.Common.{refl, ◌∙◌}
use Rattle.fixpoint_engine.specs.Waves.{waves_of}
use Rattle.slack_rows.specs.Limit.{Case}
use Rattle.slack_report.proofs.Gathered.{waves_more}
use Rattle.slack_report.proofs.collected.add_case.Goals as goal

pub add_case-requires-clause-sees : goal.add_case-requires-clause-sees
add_case-requires-clause-sees g c = record {
  circuit = c.known.ensures;
  fit = c.requires.fit;
  normal = c.known_waves.ensures;
  marks = c.in_ok-hazards.ensures;
}

pub add_case-requires-clause-limits : goal.add_case-requires-clause-limits
add_case-requires-clause-limits g c = c.requires.ready.1.known.are_limits

pub returns : goal.returns
returns g c =
    let one : Case = record {
      number = c.args.number;
      waves = waves_of c.args.waves.now;
    } in
    λ cases are. record {
      known = c.in_ok-add_case.ensures.known cases one refl refl are.known;
      same_period = c.in_ok-add_case.ensures.period ∙ are.same_period;
      are_waves =
          waves_more c.args.circuit.now cases one are.are_waves (record {
            circuit = c.known.ensures;
            header = c.known_header.ensures;
            long = c.requires.fit.each_slot;
          });
    }
