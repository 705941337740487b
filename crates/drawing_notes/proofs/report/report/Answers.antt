use Rattle.std.proofs.Common.{◌∙◌, ◌++◌, ℕ, List, ap}
use Rattle.listing.specs.Head.{period_line}
use Rattle.program_call.specs.Answer.{verdict_of}
use Rattle.drawing_notes.specs.Report.{count_line}
use Rattle.drawing_notes.proofs.Reporting.{reported}
use Rattle.drawing_notes.proofs.report.report.Goals as goal

pub returns : goal.returns
returns c =
    let circuit = c.args.c.now in
    let notes = c.add_paths.new.notes in
    let before = c.in_ok-write_period.ensures.ok ∙ ap (λ (b : List ℕ). b ++ period_line c.args.kept.now.version circuit) c.new-bytes.ensures in
    reported circuit c.args.so_far.now c.args.kept.now c.new-notes.result c.add_single.new.notes c.add_drawn.new.notes notes _ _
    (c.new-notes.ensures ∙ (λ k. record { bytes = before k; count = 0 }))
    c.in_ok-add_single.ensures c.in_ok-add_drawn.ensures c.in_ok-add_paths.ensures
    (c.verdict.ensures ∙ ap verdict_of c.count-count.ensures)
    (c.whole.ensures ∙ c.in_ok-add_count.ensures ∙ ap (λ (b : List ℕ). b ++ count_line c.count-count.result) c.into_bytes-bytes.ensures
    ∙ ap (λ n. notes.bytes ++ count_line n) c.count-count.ensures)
