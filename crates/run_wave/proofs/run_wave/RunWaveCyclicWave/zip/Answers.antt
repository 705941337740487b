use Rattle.std.proofs.Common.{rules, arith, ◌≡◌, ◌<◌, ◌∷◌, [], length, drop, min, sym, ap, ◌∙◌}
use Rattle.run_wave.specs.Run.{cells_of}
use Rattle.std.specs.List.{zip}
use Rattle.wave_core.proofs.Slots.{period_length}
use Rattle.run_wave.proofs.Runs.{length_next, length_pushed, first_within, none_left}
use Rattle.run_wave.proofs.Zipped.{continues_start, continues_next, continues_end, zip_next}
use Rattle.run_wave.proofs.run_wave.RunWaveCyclicWave.zip.Goals as goal

pub parts-init : goal.parts-init
parts-init g c =
    let mine = c.whole-mine.ensures.cells in
    let theirs = c.whole-theirs.ensures.cells in
    let none : cells_of c.in_ok-list.list.runs.items ≡ [] = ap cells_of c.in_ok-list.ensures in
    let empty : length (cells_of c.in_ok-list.list.runs.items) ≡ 0 = ap length none in
    record {
      so_far = continues_start (λ p d. g.F.Fn.post c.args.f (p.0, (p.1, tt)) d) _ _ _ (λ i. zip (mine i) (theirs i)) none;
      together = ap length mine ∙ c.requires.periods ∙ sym (ap length theirs);
      count = omega (arith, empty, ap length mine);
      some = λ h. c.whole-mine.ensures.some;
      some_too = λ h. c.whole-theirs.ensures.some;
    }

pub push-requires : goal.push-requires
push-requires g c =
    let counted = c.parts.list.counted in
    let count = c.parts.invariant.count in
    let within = first_within c.parts.mine.run (drop c.parts.mine.next c.args.self.now.list.runs.items) in
    let longest = c.args.self.now.sized.longest in
    let width : c.min-width.result ≡ min c.parts.mine.run.width c.parts.theirs.run.width = grind arith in
    omega (arith, width, counted, count, within, longest)

pub parts-preserved : goal.parts-preserved
parts-preserved g c =
    let x = c.parts.mine.run.cell in
    let y = c.parts.theirs.run.cell in
    let mine = c.after-mine.ensures.cells in
    let theirs = c.after-theirs.ensures.cells in
    let mine_long = length_next _ _ c.min-width.result c.parts.mine.run.cell mine in
    let theirs_long = length_next _ _ c.min-width.result c.parts.theirs.run.cell theirs in
    let list_long = length_pushed _ _ c.min-width.result c.f.result c.in_ok-push.ensures in
    record {
      so_far = continues_next (λ p d. g.F.Fn.post c.args.f (p.0, (p.1, tt)) d) _ _ _ _ _ c.min-width.result (c.parts.mine.run.cell, c.parts.theirs.run.cell) c.f.result
          (search rules) (zip_next c.min-width.result c.parts.mine.run.cell c.parts.theirs.run.cell _ _ _ _ mine theirs) c.in_ok-push.ensures c.parts.invariant.so_far;
      together = omega (arith, mine_long, theirs_long, c.parts.invariant.together);
      count = omega (arith, mine_long, list_long, c.parts.invariant.count);
      some = c.after-mine.ensures.some;
      some_too = c.after-theirs.ensures.some;
    }

pub parts-smaller : goal.parts-smaller
parts-smaller g c =
    let mine_long = length_next _ _ c.min-width.result c.parts.mine.run.cell c.after-mine.ensures.cells in
    let within = first_within c.parts.mine.run (drop c.parts.mine.next c.args.self.now.list.runs.items) in
    let together = c.parts.invariant.together in
    let some : 0 < c.parts.mine.run.width = omega arith in
    let some_too : 0 < c.parts.theirs.run.width = c.parts.invariant.some_too (omega (arith, some, within, together)) in
    let width : c.min-width.result ≡ min c.parts.mine.run.width c.parts.theirs.run.width = grind arith in
    let less : length (cells_of (c.after-mine.result.run ∷ drop c.after-mine.result.next c.args.self.now.list.runs.items))
    < length (cells_of (c.parts.mine.run ∷ drop c.parts.mine.next c.args.self.now.list.runs.items)) =
    omega (arith, width, mine_long, some, some_too) in
    less

pub invariant_of-result : goal.invariant_of-result
invariant_of-result g c =
    let none = none_left (length (cells_of (c.parts.mine.run ∷ drop c.parts.mine.next c.args.self.now.list.runs.items))) c.parts.mine.run.width
    c.parts.invariant.some (omega arith) in
    let count = c.parts.invariant.count in
    let long : length (cells_of c.parts.list.runs.items) ≡ length (cells_of c.args.self.now.list.runs.items) = omega (arith, none, count) in
    record { sized = period_length (cells_of c.parts.list.runs.items) (length (cells_of c.args.self.now.list.runs.items)) long c.args.self.now.sized }

pub returns : goal.returns
returns g c =
    let none = none_left (length (cells_of (c.parts.mine.run ∷ drop c.parts.mine.next c.args.self.now.list.runs.items))) c.parts.mine.run.width
    c.parts.invariant.some (omega arith) in
    continues_end (λ p d. g.F.Fn.post c.args.f (p.0, (p.1, tt)) d) (zip (cells_of c.args.self.now.list.runs.items) (cells_of c.args.other.now.list.runs.items))
    (cells_of (c.parts.mine.run ∷ drop c.parts.mine.next c.args.self.now.list.runs.items))
    (cells_of (c.parts.theirs.run ∷ drop c.parts.theirs.next c.args.other.now.list.runs.items))
    (cells_of c.parts.list.runs.items) none c.parts.invariant.so_far
