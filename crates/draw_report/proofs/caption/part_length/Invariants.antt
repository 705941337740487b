use Rattle.std.proofs.Common.{◌≡◌, ◌+◌, drop}
use Rattle.draw_report.specs.Caption.{part_length}
use Rattle.draw_report.proofs.caption.part_length.Given as goal

-- how far the text was gone through, and the part with which the rest begins, are the whole part
abbrev pub invariant-loop-place : goal.invariant-loop-place
invariant-loop-place l = l.place + part_length (drop l.place l.text) ≡ part_length l.text
