use Rattle.std.proofs.Common.{arith, ◌≡◌, ◌+◌, ◌-◌, ◌++◌, ◌∷◌, [], length, set, ap, ◌∙◌}
use Rattle.std.specs.Prelude.{replicate}
use Rattle.std.proofs.lemmas.Result.{on_ok_weaker}
use Rattle.run_wave.specs.Run.{cells_of}
use Rattle.run_wave.proofs.Runs.{cells_of_push, cells_of_wider, wider, IsRuns_wider, ends_last, ends_some, width_within, length_pushed}
use Rattle.run_wave.proofs.Marks.{marks_set}
use Rattle.run_wave.proofs.run_list.RunList.push.Goals as goal

pub overflow_add-index_mut : goal.overflow_add-index_mut
overflow_add-index_mut g c =
    let rs = c.args.self.now.runs.items in
    let some = ends_some c.args.self.now.runs.items c.args.cell (c.ends_with.ensures.0 c.if-ends_with.true) in
    let last : c.len-last.result - 1 + 1 ≡ length rs = omega (arith, some) in
    let within = width_within rs (c.len-last.result - 1) c.index_mut.result.now (omega (arith, some)) c.index_mut.ensures.value in
    let counted = c.args.self.now.counted in
    omega (arith, within, counted)

pub invariant_of-self : goal.invariant_of-self
invariant_of-self g c =
    let rs = c.args.self.now.runs.items in
    let r = c.index_mut.result.now in
    let some = ends_some c.args.self.now.runs.items c.args.cell (c.ends_with.ensures.0 c.if-ends_with.true) in
    let last : c.len-last.result - 1 + 1 ≡ length rs = omega (arith, some) in
    let long = length_pushed (cells_of rs) (cells_of (set rs (c.len-last.result - 1) (wider r c.args.width))) c.args.width r.cell
    (cells_of_wider rs (c.len-last.result - 1) c.args.width r last c.index_mut.ensures.value) in
    let counted = c.args.self.now.counted in
    record {
      is_runs = IsRuns_wider rs (c.len-last.result - 1) c.args.width r last c.index_mut.ensures.value c.args.self.now.is_runs;
      counted = omega (arith, long, counted);
      marked = marks_set rs (c.len-last.result - 1) (wider r c.args.width) c.args.self.now.marks.items last c.args.self.now.marked;
    }

pub returns-then-ends_with : goal.returns-then-ends_with
returns-then-ends_with g c =
    let rs = c.args.self.now.runs.items in
    let r = c.index_mut.result.now in
    let some = ends_some c.args.self.now.runs.items c.args.cell (c.ends_with.ensures.0 c.if-ends_with.true) in
    let last : c.len-last.result - 1 + 1 ≡ length rs = omega (arith, some) in
    let same = ends_last rs (c.len-last.result - 1) r c.args.cell last c.index_mut.ensures.value (c.ends_with.ensures.0 c.if-ends_with.true) in
    cells_of_wider rs (c.len-last.result - 1) c.args.width r last c.index_mut.ensures.value ∙ ap (λ x. cells_of rs ++ replicate c.args.width x) same

pub returns : goal.returns
returns g c =
    on_ok_weaker c.push_run.result
    (λ (e : c.push_run.new.self.runs.items ≡ c.args.self.now.runs.items ++ record { cell = c.args.cell; width = c.args.width } ∷ []).
    ap cells_of e ∙ cells_of_push c.args.self.now.runs.items (record { cell = c.args.cell; width = c.args.width }))
    c.push_run.ensures
