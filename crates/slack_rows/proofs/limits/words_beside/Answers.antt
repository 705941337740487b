use Rattle.std.proofs.Common.{true, false, sym, ◌∙◌}
use Rattle.slack_rows.proofs.Listed.{words_by}
use Rattle.slack_rows.proofs.limits.words_beside.Goals as goal

pub returns-then-has_pin_beside : goal.returns-then-has_pin_beside
returns-then-has_pin_beside c = sym (words_by c.args.gate.now c.args.marked true (sym c.has_pin_beside.ensures ∙ c.if-has_pin_beside.true))

pub returns-else-has_pin_beside : goal.returns-else-has_pin_beside
returns-else-has_pin_beside c = sym (words_by c.args.gate.now c.args.marked false (sym c.has_pin_beside.ensures ∙ c.if-has_pin_beside.false))
