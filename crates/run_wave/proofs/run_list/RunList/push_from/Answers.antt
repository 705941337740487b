use Rattle.std.proofs.Common.{rules, arith, ◌≡◌, take, min, get_or}
use Rattle.run_wave.specs.Run.{cells_of}
use Rattle.std.proofs.lemmas.List.{take_all}
use Rattle.run_wave.proofs.Runs.{pushed_dropped, length_with_dropped, slots_within, length_cells_of_more}
use Rattle.run_wave.proofs.run_list.RunList.push_from.Goals as goal

pub push-requires : goal.push-requires
push-requires g c =
    let is : c.run-item.result ≡ get_or c.args.other.now.runs.items c.loop-run.run-index c.run-item.result = search rules in
    let rs = c.args.other.now.runs.items in
    let long = length_with_dropped (cells_of c.args.self.now.runs.items) (cells_of c.loop-run.self.runs.items) (cells_of (take c.loop-run.run-index rs)) c.args.start c.loop-run.invariant.so_far in
    let within = slots_within rs c.loop-run.run-index c.run-item.result (omega arith) is in
    let counted = c.loop-run.self.counted in
    let counted_before = c.args.self.now.counted in
    let counted_other = c.args.other.now.counted in
    let left = c.loop-run.invariant.left in
    let room = c.requires in
    let cut : c.min-part.result ≡ min c.loop-run.skipped c.run-item.result.width = grind arith in
    omega (arith, cut, long, within, counted, counted_before, counted_other, left, room)

pub loop-run-preserved : goal.loop-run-preserved
loop-run-preserved g c =
    let is : c.run-item.result ≡ get_or c.args.other.now.runs.items c.loop-run.run-index c.run-item.result = search rules in
    let rs = c.args.other.now.runs.items in
    let more = length_cells_of_more rs c.loop-run.run-index c.run-item.result (omega arith) is in
    let left = c.loop-run.invariant.left in
    let cut : c.min-part.result ≡ min c.loop-run.skipped c.run-item.result.width = grind arith in
    record {
      so_far = pushed_dropped (cells_of c.args.self.now.runs.items) (cells_of c.loop-run.self.runs.items) (cells_of c.push.new.self.runs.items) rs
          c.loop-run.run-index c.args.start c.loop-run.skipped c.min-part.result c.run-item.result (omega arith) is left cut
          c.loop-run.invariant.so_far c.in_ok-push.ensures;
      left = omega (arith, cut, more, left);
    }

pub returns : goal.returns
returns g c =
    let rs = c.args.other.now.runs.items in
    let all : take c.loop-run.run-index rs ≡ rs = take_all c.loop-run.run-index rs (omega arith) in
    rw all at c.loop-run.invariant.so_far
