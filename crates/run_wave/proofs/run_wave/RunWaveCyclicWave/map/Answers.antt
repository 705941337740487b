use Rattle.std.proofs.Common.{rules, arith, ◌≡◌, length, take, get_or, ap, ◌∙◌, subst}
use Rattle.run_wave.specs.Run.{cells_of}
use Rattle.std.specs.List.{AllZip}
use Rattle.std.proofs.lemmas.List.{take_all}
use Rattle.wave_core.proofs.Slots.{length_related, period_length}
use Rattle.run_wave.proofs.Runs.{slots_within}
use Rattle.run_wave.proofs.Zipped.{mapped_more}
use Rattle.run_wave.proofs.run_wave.RunWaveCyclicWave.map.Goals as goal

pub push-requires : goal.push-requires
push-requires g c =
    let is : c.run-item.result ≡ get_or c.args.self.now.list.runs.items c.loop-run.run-index c.run-item.result = search rules in
    let rs = c.args.self.now.list.runs.items in
    let long = length_related (λ x d. g.F.Fn.post c.args.f (x, tt) d) (cells_of (take c.loop-run.run-index rs)) (cells_of c.loop-run.list.runs.items) c.loop-run.invariant in
    let within = slots_within rs c.loop-run.run-index c.run-item.result (omega arith) is in
    let counted = c.loop-run.list.counted in
    let longest = c.args.self.now.sized.longest in
    omega (arith, long, within, counted, longest)

pub loop-run-preserved : goal.loop-run-preserved
loop-run-preserved g c =
    let is : c.run-item.result ≡ get_or c.args.self.now.list.runs.items c.loop-run.run-index c.run-item.result = search rules in
    mapped_more (λ x d. g.F.Fn.post c.args.f (x, tt) d) c.args.self.now.list.runs.items c.loop-run.run-index c.run-item.result
    (cells_of c.loop-run.list.runs.items) (cells_of c.push.new.self.runs.items) c.f.result (omega arith) is (search rules)
    c.in_ok-push.ensures c.loop-run.invariant

pub invariant_of-result : goal.invariant_of-result
invariant_of-result g c =
    let rs = c.args.self.now.list.runs.items in
    let all : take c.loop-run.run-index rs ≡ rs = take_all c.loop-run.run-index rs (omega arith) in
    let long = length_related (λ x d. g.F.Fn.post c.args.f (x, tt) d) (cells_of (take c.loop-run.run-index rs)) (cells_of c.loop-run.list.runs.items) c.loop-run.invariant in
    record { sized = period_length (cells_of c.loop-run.list.runs.items) (length (cells_of rs)) (long ∙ ap (λ l. length (cells_of l)) all) c.args.self.now.sized }

pub returns : goal.returns
returns g c =
    let rs = c.args.self.now.list.runs.items in
    let all : take c.loop-run.run-index rs ≡ rs = take_all c.loop-run.run-index rs (omega arith) in
    subst (λ l. AllZip (λ x d. g.F.Fn.post c.args.f (x, tt) d) (cells_of l) (cells_of c.loop-run.list.runs.items)) all c.loop-run.invariant
