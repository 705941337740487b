-- How a call of `draw` ends.
use Rattle.std.specs.Prelude.{ℕ, Option, None}
use Rattle.scald_base.specs.declared.call_end.CallEnd.{CallEnd}
use Rattle.scald_base.specs.Outcome.{ended as drawing_ended, end_of as drawing_end, status_of as drawing_status}
use Rattle.draw_report.specs.declared.outcome.DrawOutcome.{DrawOutcome}
use Rattle.draw_report.specs.declared.outcome.DrawOutcome.TheVariants.{Drawing, Limits, NoCase, NoNet, NoRow, TooMuch}

abbrev pub ended : CallEnd → DrawOutcome
ended end = Drawing (drawing_ended end)

abbrev pub end_of : DrawOutcome → Option CallEnd
end_of (Drawing o) = drawing_end o
end_of (Limits o) = drawing_end o
end_of (NoCase count) = None
end_of (NoRow count) = None
end_of NoNet = None
end_of TooMuch = None

-- that of the verifier, or of a case, a row or nets that are not there, or of too much
abbrev pub status_of : DrawOutcome → ℕ
status_of (Drawing o) = drawing_status o
status_of (Limits o) = drawing_status o
status_of (NoCase count) = 10
status_of (NoRow count) = 10
status_of NoNet = 10
status_of TooMuch = 11
