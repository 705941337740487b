use Rattle.std.proofs.Common.{◌≡◌, ◌-◌, ◌<◌, ◌++◌, length}
use Rattle.trace_tool.specs.Stretch.{cut, stretches}
use Rattle.trace_tool.proofs.stretch.stretches.Given as goal

-- what is found, and what is cut from the stretch on, are all
abbrev pub invariant-loop-place : goal.invariant-loop-place
invariant-loop-place l = record {
  all : l.found ++ cut l.c l.stretch l.place (length l.c.nets - l.place) ≡ stretches l.c;
  few : l.stretch.number < l.place;
}
