use Rattle.std.proofs.Common.{rules, arith, ◌≡◌, ◌++◌, ◌∷◌, [], length, is_ok, sym, ap, ◌∙◌, subst}
use Rattle.run_wave.specs.Mark.{AreMarks, marked_run}
use Rattle.run_wave.specs.Run.{cells_of}
use Rattle.run_wave.proofs.Runs.{cells_of_push, IsRuns_push, length_pushed}
use Rattle.run_wave.proofs.Marks.{marks_push, marks_pushed}
use Rattle.run_wave.proofs.run_list.RunList.push_run.Goals as goal

pub invariant_of-self-then-count-len : goal.invariant_of-self-then-count-len
invariant_of-self-then-count-len g c =
    let rs = c.args.self.now.runs.items in
    let pushed : c.push.new.self.items ≡ c.args.self.now.runs.items ++ c.args.run ∷ [] = search rules in
    let long = length_pushed (cells_of rs) (cells_of c.push.new.self.items) c.args.run.width c.args.run.cell
    (ap cells_of pushed ∙ cells_of_push rs c.args.run) in
    let counted = c.args.self.now.counted in
    let turn : marked_run (length c.args.self.now.marks.items) ≡ length c.args.self.now.runs.items = omega arith in
    record {
      is_runs = rw pushed (IsRuns_push rs c.args.run c.requires.some c.requires.other c.args.self.now.is_runs);
      counted = omega (arith, long, counted);
      marked = marks_pushed rs c.args.run c.push.new.self.items c.args.self.now.marks.items c.push-then-count-len.new.self.items c.args.self.now.slots
          (is_ok c.push-then-count-len.result) pushed turn counted c.push-then-count-len.ensures.items c.args.self.now.marked;
    }

pub invariant_of-self-else-count-len : goal.invariant_of-self-else-count-len
invariant_of-self-else-count-len g c =
    let rs = c.args.self.now.runs.items in
    let pushed : c.push.new.self.items ≡ c.args.self.now.runs.items ++ c.args.run ∷ [] = search rules in
    let long = length_pushed (cells_of rs) (cells_of c.push.new.self.items) c.args.run.width c.args.run.cell
    (ap cells_of pushed ∙ cells_of_push rs c.args.run) in
    let counted = c.args.self.now.counted in
    record {
      is_runs = rw pushed (IsRuns_push rs c.args.run c.requires.some c.requires.other c.args.self.now.is_runs);
      counted = omega (arith, long, counted);
      marked = subst (λ l. AreMarks l c.args.self.now.marks.items) (sym pushed) (marks_push rs c.args.run c.args.self.now.marks.items c.args.self.now.marked);
    }

pub invariant_of-self-else-count-eq0 : goal.invariant_of-self-else-count-eq0
invariant_of-self-else-count-eq0 g c =
    let rs = c.args.self.now.runs.items in
    let pushed : c.push.new.self.items ≡ c.args.self.now.runs.items ++ c.args.run ∷ [] = search rules in
    let long = length_pushed (cells_of rs) (cells_of c.push.new.self.items) c.args.run.width c.args.run.cell
    (ap cells_of pushed ∙ cells_of_push rs c.args.run) in
    let counted = c.args.self.now.counted in
    record {
      is_runs = rw pushed (IsRuns_push rs c.args.run c.requires.some c.requires.other c.args.self.now.is_runs);
      counted = omega (arith, long, counted);
      marked = subst (λ l. AreMarks l c.args.self.now.marks.items) (sym pushed) (marks_push rs c.args.run c.args.self.now.marks.items c.args.self.now.marked);
    }
