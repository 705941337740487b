use Rattle.std.proofs.Common.{◌≡◌, ℕ, ◌<◌, false}
use Rattle.slack_rows.specs.Limit.{is_beside}
use Rattle.slack_rows.proofs.limits.has_pin_beside.Given as goal

-- none so far
abbrev pub invariant-loop-place : goal.invariant-loop-place
invariant-loop-place l = (k : ℕ) → k < l.place → is_beside l.gate l.marked k ≡ false
