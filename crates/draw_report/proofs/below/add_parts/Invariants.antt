use Rattle.std.proofs.Common.{◌≡◌, ◌-◌, ◌<◌, ◌++◌}
use Rattle.draw_report.specs.Below.{is_like_last, parts}
use Rattle.draw_report.specs.Row.{cut}
use Rattle.draw_report.proofs.below.add_parts.Given as goal

-- what is found, and what is cut from the row on, are all
abbrev pub invariant-loop-place : goal.invariant-loop-place
invariant-loop-place l = record {
  after : l.row.from < l.place;
  all : l.out ++ cut (is_like_last l.c l.path) l.from l.place (l.row.to - l.place)
      ≡ l.fn.out ++ parts l.c l.path l.row;
}
