use Rattle.std.proofs.Common.{◌≡◌, ◌++◌, map, take}
use Rattle.slack_rows.specs.Rows.{limit_of}
use Rattle.slack_rows.proofs.limits.add.Given as goal

-- those of the words so far
abbrev pub invariant-loop-word : goal.invariant-loop-word
invariant-loop-word l =
    l.out ≡ l.fn.out ++ map (λ word. record { subject = l.subject; word = word; limit = limit_of l.limits word }) (take l.word-index l.words)
