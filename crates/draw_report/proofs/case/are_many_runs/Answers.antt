use Rattle.std.proofs.Common.{◌≡◌, ℕ, ◌+◌, ◌-◌, ◌^◌, ◌<◌, List, length, get_or, take, arith, ap, ◌∙◌}
use Rattle.std.specs.Prelude.{min, nat_lt}
use Rattle.std.proofs.lemmas.Bool.Decides.{nat_tests}
use Rattle.std.proofs.lemmas.List.{take_all}
use Rattle.std.proofs.lemmas.List.Sums.{sum_by_more}
use Rattle.step_values.specs.declared.value.Value.{Value}
use Rattle.skew_algebra.specs.Wave.{Wave}
use Rattle.draw_report.specs.Picture.{are_many_runs, run_count}
use Rattle.draw_report.specs.Wave.{runs_from}
use Rattle.draw_report.proofs.case.are_many_runs.Goals as goal

counted : (count : ℕ) (ws : List (Wave Value)) (i : ℕ) (w : Wave Value) (before more after : ℕ) →
    i < length ws → w ≡ get_or ws i w → more ≡ length (runs_from w.cells 0 count) →
    before ≡ min (run_count count (take i ws)) (2 ^ 64 - 1) →
    after ≡ min (before + more) (2 ^ 64 - 1) →
    after ≡ min (run_count count (take (i + 1) ws)) (2 ^ 64 - 1)
counted count ws i w before more after within is has so_far next =
    let one = sum_by_more (λ (v : Wave Value). length (runs_from v.cells 0 count)) ws i w within in
    let here = ap (λ (v : Wave Value). length (runs_from v.cells 0 count)) is in
    omega (arith, one, here, has, so_far, next)

-- as many as can be counted are too many where all of them are
many : (all counted : ℕ) → counted ≡ min all (2 ^ 64 - 1) → nat_lt 262144 counted
    ≡ nat_lt 262144 all
many all counted is = grind (arith, nat_tests)

pub loop-wave-preserved : goal.loop-wave-preserved
loop-wave-preserved g c =
    counted c.args.count c.args.waves.now c.loop-wave.wave-index c.wave-item.result
    c.loop-wave.runs c.in_ok-count_runs.field-0 c.saturating_add-runs.result c.loop-wave-test.true
    c.wave-item.is
    (c.in_ok-count_runs.ensures
    ∙ ap (λ (vs : List Value). length (runs_from vs 0 c.args.count)) c.wave.ensures)
    c.loop-wave.invariant c.saturating_add-runs.ensures

pub returns : goal.returns
returns g c =
    many (run_count c.args.count (take c.loop-wave.wave-index c.args.waves.now)) c.loop-wave.runs
    c.loop-wave.invariant
    ∙ ap (are_many_runs c.args.count)
    (take_all c.loop-wave.wave-index c.args.waves.now c.loop-wave-test.false)
