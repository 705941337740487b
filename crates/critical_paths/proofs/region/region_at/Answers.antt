use Rattle.std.proofs.Common.{◌≡◌, ℕ, ◌+◌, ◌-◌, ◌%◌, ◌≤◌, false, true, length, not, refl, sym, ap, ◌∙◌, arith, rules}
use Rattle.step_values.specs.Cell.{values}
use Rattle.wave_core.specs.Slots.{cell_round}
use Rattle.critical_paths.specs.Views.{passes, passing}
use Rattle.critical_paths.proofs.Finding.{at_before, at_cell, count_some, fails_at, first_fails, goes_on, none_here, passes_at, some_here}
use Rattle.critical_paths.proofs.region.region_at.Goals as goal
use Rattle.critical_paths.proofs.region.region_at.Goals.{then-not-holds-via-then-not-holds, then-not-holds-via-else-not-holds+then-holds}

pub returns-then-not-holds : goal.returns-then-not-holds
returns-then-not-holds g c =
    let test = c.args.test in
    let cells = g.W.CyclicWave.cells c.args.wave.now in
    let slot = c.args.slot in
    let long : 2 ≤ length cells = (g.met.W.CyclicWave.sized c.args.wave.now).shortest in
    let period = c.period-period.result in
    let p : period ≡ length cells = c.period-period.ensures in
    none_here test cells long slot (elim c.then-not-holds.branch [
      | then-not-holds-via-then-not-holds w ↦
          first_fails test cells long slot
          (sym (at_cell test cells long slot c.at.result c.requires c.at.ensures)
          ∙ sym c.holds.ensures ∙ w.if-not-holds.true)
      | then-not-holds-via-else-not-holds+then-holds w ↦
          goes_on test cells long slot
          (sym (at_before test cells long slot ((slot + (period - 1)) % period)
          w.at-else-not-holds.result (ap (λ (z : ℕ). (slot + (z - 1)) % z) p)
          (omega (arith, p, long)) w.at-else-not-holds.ensures)
          ∙ sym w.holds-else-not-holds.ensures ∙ w.if-holds.true)
    ])

pub returns-in_err-count : goal.returns-in_err-count
returns-in_err-count g c =
    let test = c.args.test in
    let cells = g.W.CyclicWave.cells c.args.wave.now in
    let slot = c.args.slot in
    let long : 2 ≤ length cells = (g.met.W.CyclicWave.sized c.args.wave.now).shortest in
    let period = c.period-period.result in
    let p : period ≡ length cells = c.period-period.ensures in
    let said = c.in_err-count.ensures (period - 1) (omega arith) (omega (arith, p, long)) in
    let passes : false ≡ not (passes test (cell_round values cells (slot + (period - 1)))) = search
    rules in
    let on : passing test cells (slot + (length cells - 1)) ≡ true =
    passes_at test cells long (slot + (length cells - 1)) (slot + (period - 1))
    (ap (λ (z : ℕ). slot + (z - 1)) p) passes in
    let off : passing test cells (slot + (length cells - 1)) ≡ false =
    sym (at_before test cells long slot ((slot + (period - 1)) % period) c.at-else-not-holds.result
    (ap (λ (z : ℕ). (slot + (z - 1)) % z) p)
    (omega (arith, p, long)) c.at-else-not-holds.ensures)
    ∙ sym c.holds-else-not-holds.ensures ∙ c.if-holds.false in
    absurd (cc (on, off))

pub of-requires-clause-some : goal.of-requires-clause-some
of-requires-clause-some g c =
    let test = c.args.test in
    let cells = g.W.CyclicWave.cells c.args.wave.now in
    let slot = c.args.slot in
    let long : 2 ≤ length cells = (g.met.W.CyclicWave.sized c.args.wave.now).shortest in
    let count = c.in_ok-count.count in
    let said = c.in_ok-count.ensures.passes in
    let fails : true ≡ not (passes test (cell_round values cells (slot + count))) = search rules in
    count_some test cells long slot count
    (sym (at_cell test cells long slot c.at.result c.requires c.at.ensures) ∙ sym c.holds.ensures
    ∙ c.if-not-holds.false)
    (fails_at test cells long (slot + count) (slot + count) refl fails)

pub of-requires-clause-few : goal.of-requires-clause-few
of-requires-clause-few g c =
    let most = (g.met.W.CyclicWave.sized c.args.wave.now).longest in
    let within = c.in_ok-count.ensures.within in
    omega (arith, most, within, c.period-period.ensures)

pub returns : goal.returns
returns g c =
    let test = c.args.test in
    let cells = g.W.CyclicWave.cells c.args.wave.now in
    let slot = c.args.slot in
    let long : 2 ≤ length cells = (g.met.W.CyclicWave.sized c.args.wave.now).shortest in
    let period = c.period-period.result in
    let p : period ≡ length cells = c.period-period.ensures in
    let count = c.in_ok-count.count in
    let found = c.in_ok-count.ensures in
    let said = found.passes in
    let fails : true ≡ not (passes test (cell_round values cells (slot + count))) = search rules in
    some_here test cells long slot count c.of.result
    (sym (at_cell test cells long slot c.at.result c.requires c.at.ensures) ∙ sym c.holds.ensures
    ∙ c.if-not-holds.false)
    (sym (at_before test cells long slot ((slot + (period - 1)) % period) c.at-else-not-holds.result
    (ap (λ (z : ℕ). (slot + (z - 1)) % z) p)
    (omega (arith, p, long)) c.at-else-not-holds.ensures)
    ∙ sym c.holds-else-not-holds.ensures ∙ c.if-holds.false)
    (fails_at test cells long (slot + count) (slot + count) refl fails)
    (λ place below.
    let said = found.before place (omega arith) below in
    let passes : false ≡ not (passes test (cell_round values cells (slot + place))) = search rules
    in
    passes_at test cells long (slot + place) (slot + place) refl passes)
    c.of.ensures
