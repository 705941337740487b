use Rattle.std.proofs.Common.{◌≡◌, map, reverse, take, slice_index_or}
use Rattle.slack_rows.proofs.rows.Rows.cases_of.Given as goal

-- those of the last so many
abbrev pub invariant-loop-back : goal.invariant-loop-back
invariant-loop-back l =
    l.numbers ≡ map (λ place. slice_index_or l.self.cases place 0) (take l.back (reverse l.places))
