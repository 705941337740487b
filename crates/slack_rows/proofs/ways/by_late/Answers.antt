use Rattle.std.proofs.Common.{map, ap, ◌∙◌}
use Rattle.slack_rows.specs.Sides.{guarded}
use Rattle.slack_rows.proofs.Launching.{goes_then}
use Rattle.slack_rows.proofs.ways.by_late.Goals as goal

pub returns-clause-are : goal.returns-clause-are
returns-clause-are g c =
    record {
      level = c.in_ok-found.ensures.level;
      before = record {
        guards = c.args.late.now;
        guards_are = c.requires.late;
        known = c.in_ok-found.ensures.late;
        is = c.in_ok-found.ensures.before;
      };
      after = record {
        guards = c.as_slice.result.now;
        guards_are = ap (map guarded) c.as_slice.ensures ∙ c.in_ok-early.ensures.are;
        known = c.in_ok-found.ensures.early;
        is = c.in_ok-found.ensures.after;
      };
    }

pub returns-clause-paths : goal.returns-clause-paths
returns-clause-paths g c = goes_then _ _ _ _ _ c.in_ok-early.ensures.paths c.in_ok-found.ensures.paths
