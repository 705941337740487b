use Rattle.std.proofs.Common.{rules, arith, ◌≡◌, ◌∷◌, ◌++◌, [], length, drop, ap, ◌∙◌}
use Rattle.std.specs.Prelude.{replicate}
use Rattle.std.specs.List.{zip}
use Rattle.wave_core.specs.Slots.{later}
use Rattle.wave_core.proofs.Slots.{mapped}
use Rattle.run_wave.specs.Run.{cells_of}
use Rattle.run_wave.proofs.Joined.{joined_start, joined_next, joined_turn}
use Rattle.run_wave.proofs.Runs.{length_next, length_pushed, none_left}
use Rattle.run_wave.proofs.Zipped.{continues_start, continues_next, continues_end}
use Rattle.run_wave.proofs.run_wave.RunWave.joined_later.Goals as goal

pub parts-init : goal.parts-init
parts-init g c =
    let xs = cells_of c.args.self.now.list.runs.items in
    let now = c.whole-now.ensures.cells in
    let none : cells_of c.in_ok-list.list.runs.items ≡ [] = ap cells_of c.in_ok-list.ensures in
    let empty : length (cells_of c.in_ok-list.list.runs.items) ≡ 0 = ap length none in
    record {
      so_far = continues_start (λ q d. d ≡ g.T.Cell.kind.join q.0 q.1) _ _ _
          (ap (λ l. zip l (cells_of (c.from-earlier.result.run ∷ drop c.from-earlier.result.next c.args.self.now.list.runs.items) ++ xs)) now
          ∙ joined_start g.T.Cell.kind xs _ c.args.self.now.list.slots c.args.by c.args.self.now.list.counted c.requires.some c.requires.below
          c.from-earlier.ensures.cells)
          none;
      count = omega (arith, empty, ap length now);
      some = λ h. c.whole-now.ensures.some;
      some_too = c.from-earlier.ensures.some;
    }

pub parts-preserved-then-earlier-eq0 : goal.parts-preserved-then-earlier-eq0
parts-preserved-then-earlier-eq0 g c =
    let rs = c.args.self.now.list.runs.items in
    let now = c.after-now.ensures.cells in
    let now_long = length_next _ _ c.min-width.result c.parts.now.run.cell now in
    let list_long = length_pushed _ _ c.min-width.result c.join.result c.in_ok-push.ensures in
    let count = c.parts.invariant.count in
    let none = none_left (length (cells_of (c.after-earlier.result.run ∷ drop c.after-earlier.result.next rs))) c.after-earlier.result.run.width
    c.after-earlier.ensures.some (omega (arith, c.if-earlier-eq0.true)) in
    record {
      so_far = continues_next (λ q d. d ≡ g.T.Cell.kind.join q.0 q.1) _ _ _ _ _ c.min-width.result (c.parts.now.run.cell, c.parts.earlier.run.cell) c.join.result
          (search rules)
          (joined_next c.min-width.result c.parts.now.run.cell c.parts.earlier.run.cell _ _ _ _ (cells_of rs) now c.after-earlier.ensures.cells
          ∙ ap (λ l. replicate c.min-width.result (c.parts.now.run.cell, c.parts.earlier.run.cell) ++ l)
          (joined_turn (cells_of (c.after-now.result.run ∷ drop c.after-now.result.next rs))
          (cells_of (c.after-earlier.result.run ∷ drop c.after-earlier.result.next rs)) (cells_of rs)
          (cells_of (c.whole-earlier.result.run ∷ drop c.whole-earlier.result.next rs))
          (omega (arith, now_long, count)) none c.whole-earlier.ensures.cells))
          c.in_ok-push.ensures c.parts.invariant.so_far;
      count = omega (arith, now_long, list_long, count);
      some = c.after-now.ensures.some;
      some_too = c.whole-earlier.ensures.some;
    }

pub parts-preserved : goal.parts-preserved
parts-preserved g c =
    let rs = c.args.self.now.list.runs.items in
    let now = c.after-now.ensures.cells in
    let now_long = length_next _ _ c.min-width.result c.parts.now.run.cell now in
    let list_long = length_pushed _ _ c.min-width.result c.join.result c.in_ok-push.ensures in
    record {
      so_far = continues_next (λ q d. d ≡ g.T.Cell.kind.join q.0 q.1) _ _ _ _ _ c.min-width.result (c.parts.now.run.cell, c.parts.earlier.run.cell) c.join.result
          (search rules)
          (joined_next c.min-width.result c.parts.now.run.cell c.parts.earlier.run.cell _ _ _ _ (cells_of rs) now c.after-earlier.ensures.cells)
          c.in_ok-push.ensures c.parts.invariant.so_far;
      count = omega (arith, now_long, list_long, c.parts.invariant.count);
      some = c.after-now.ensures.some;
      some_too = omega (arith, c.if-earlier-eq0.false);
    }

pub returns : goal.returns
returns g c =
    let rs = c.args.self.now.list.runs.items in
    let none = none_left (length (cells_of (c.parts.now.run ∷ drop c.parts.now.next rs))) c.parts.now.run.width c.parts.invariant.some (omega arith) in
    mapped (λ q d. d ≡ g.T.Cell.kind.join q.0 q.1) (λ q. g.T.Cell.kind.join q.0 q.1) _ _ (λ q d e. e)
    (continues_end (λ q d. d ≡ g.T.Cell.kind.join q.0 q.1) (zip (cells_of rs) (later g.T.Cell.kind (cells_of rs) c.args.by))
    (cells_of (c.parts.now.run ∷ drop c.parts.now.next rs))
    (cells_of (c.parts.earlier.run ∷ drop c.parts.earlier.next rs) ++ cells_of rs)
    (cells_of c.parts.list.runs.items) none c.parts.invariant.so_far)
