use Rattle.std.proofs.Common.{None, refl, ◌≡◌, ℕ, ◌≤◌, true, false, Some, length, sym, subst, ◌∙◌, arith}
use Rattle.std.specs.Prelude.{IfOk}
use Rattle.scald_base.specs.Time.{period}
use Rattle.fixpoint_engine.specs.Pins.{read}
use Rattle.fixpoint_engine.specs.Waves.{waves_of}
use Rattle.point_check.specs.Window.{Folds}
use Rattle.critical_paths.specs.declared.direction.Direction.TheVariants.{Rise, Change}
use Rattle.critical_paths.specs.Event.{events}
use Rattle.slack_rows.specs.declared.slack.Slacks.{Slacks}
use Rattle.slack_rows.specs.Held.{TellWatch, launches_of, two_of}
use Rattle.slack_rows.specs.Limit.{edge_limits, is_by_arrivals, least_still, pin_folds, still_after, still_before}
use Rattle.slack_rows.specs.Slack.{finding_of}
use Rattle.slack_rows.specs.Views.{Tells}
use Rattle.slack_rows.specs.Watch.{rise_watch, span_watch}
use Rattle.slack_rows.proofs.Checking.{event_none, event_some, exists_at, free_both, free_check, is_held, quiet_check, rise_check, span_check}
use Rattle.slack_rows.proofs.Inputs.{changes_of, no_windows, of_rises, of_spans, shows_long, shows_pin}
use Rattle.slack_rows.proofs.checker.checker_slacks.Goals as goal

pub slots-requires : goal.slots-requires
slots-requires g c =
    shows_long c.args.view.now.circuit.now (waves_of c.args.view.now.waves.now) c.args.checker.now 1 c.held_by-held.result.pin
    (g.W.CyclicWave.cells c.in_ok-data.data) c.requires.sees.fit.each_slot c.requires.fits.exists.reads c.held_by-held.ensures.pin c.in_ok-data.ensures

pub fold-requires-2-clause-pin : goal.fold-requires-2-clause-pin
fold-requires-2-clause-pin g c =
    exists_at (length c.args.view.now.circuit.now.nets) c.args.checker.now.pins 0 c.held_by-held.result.clock c.requires.fits.exists.reads
    c.held_by-held.ensures.clock

pub span_slacks-requires-clause-held : goal.span_slacks-requires-clause-held
span_slacks-requires-clause-held g c =
    let nets = length c.args.view.now.circuit.now.nets in
    let pins = c.args.checker.now.pins in
    let reads = c.requires.fits.exists.reads in
    is_held c.args.view.now.circuit.now c.held_by-held.result
    (exists_at nets pins 1 c.held_by-held.result.pin reads c.held_by-held.ensures.pin)
    (exists_at nets pins 0 c.held_by-held.result.clock reads c.held_by-held.ensures.clock)

pub rise_slacks-requires-clause-held : goal.rise_slacks-requires-clause-held
rise_slacks-requires-clause-held g c =
    let nets = length c.args.view.now.circuit.now.nets in
    let pins = c.args.checker.now.pins in
    let reads = c.requires.fits.exists.reads in
    is_held c.args.view.now.circuit.now c.held_by-held.result
    (exists_at nets pins 1 c.held_by-held.result.pin reads c.held_by-held.ensures.pin)
    (exists_at nets pins 0 c.held_by-held.result.clock reads c.held_by-held.ensures.clock)

pub span_slacks-requires-clause-clock : goal.span_slacks-requires-clause-clock
span_slacks-requires-clause-clock g c =
    shows_long c.args.view.now.circuit.now (waves_of c.args.view.now.waves.now) c.args.checker.now 0 c.held_by-held.result.clock
    (g.W.CyclicWave.cells c.in_ok-clock.clock) c.requires.sees.fit.each_slot c.requires.fits.exists.reads c.held_by-held.ensures.clock c.in_ok-clock.ensures

pub rise_slacks-requires-clause-clock : goal.rise_slacks-requires-clause-clock
rise_slacks-requires-clause-clock g c =
    shows_long c.args.view.now.circuit.now (waves_of c.args.view.now.waves.now) c.args.checker.now 0 c.held_by-held.result.clock
    (g.W.CyclicWave.cells c.in_ok-clock.clock) c.requires.sees.fit.each_slot c.requires.fits.exists.reads c.held_by-held.ensures.clock c.in_ok-clock.ensures

pub quiet_slacks-requires : goal.quiet_slacks-requires
quiet_slacks-requires g c =
    shows_long c.args.view.now.circuit.now (waves_of c.args.view.now.waves.now) c.args.checker.now 1 c.held_by-held.result.pin
    (g.W.CyclicWave.cells c.in_ok-data.data) c.requires.sees.fit.each_slot c.requires.fits.exists.reads c.held_by-held.ensures.pin c.in_ok-data.ensures
    ∙ sym
    (shows_long c.args.view.now.circuit.now (waves_of c.args.view.now.waves.now) c.args.checker.now 0 c.held_by-held.result.clock
    (g.W.CyclicWave.cells c.in_ok-clock.clock) c.requires.sees.fit.each_slot c.requires.fits.exists.reads c.held_by-held.ensures.clock c.in_ok-clock.ensures)

pub returns-then-are_none-clause-finding : goal.returns-then-are_none-clause-finding
returns-then-are_none-clause-finding g c =
    let circuit = c.args.view.now.circuit.now in
    let ws = waves_of c.args.view.now.waves.now in
    let j = c.args.checker.now in
    let p = period circuit.header in
    let least = c.period-period.ensures.shortest in
    let long : 2 ≤ period c.args.view.now.circuit.now.header = omega (arith, least, c.period-period.ensures.is) in
    let each = c.requires.sees.fit.each_slot in
    let reads = c.requires.fits.exists.reads in
    let changes = c.in_ok-changes.changes in
    let cells = g.W.CyclicWave.cells c.in_ok-data.data in
    let data_shows = shows_pin circuit ws j 1 c.held_by-held.result.pin cells each reads c.held_by-held.ensures.pin c.in_ok-data.ensures long in
    let are = changes_of circuit ws j 1 cells changes data_shows c.in_ok-changes.ensures.are in
    let nothing : Slacks = record { level = None; before = None; after = None } in
    free_both circuit ws j c.args.check nothing refl
    (free_check circuit ws j c.args.check c.requires.edges data_shows.cyclic long
    (event_none p (events Change (pin_folds circuit ws j 1)) changes data_shows.cyclic long are
    (sym c.are_none.ensures ∙ c.if-are_none.true)))

pub returns-then-is_to_fall-clause-finding : goal.returns-then-is_to_fall-clause-finding
returns-then-is_to_fall-clause-finding g c =
    let circuit = c.args.view.now.circuit.now in
    let ws = waves_of c.args.view.now.waves.now in
    let j = c.args.checker.now in
    let p = period circuit.header in
    let least = c.period-period.ensures.shortest in
    let long : 2 ≤ period c.args.view.now.circuit.now.header = omega (arith, least, c.period-period.ensures.is) in
    let each = c.requires.sees.fit.each_slot in
    let reads = c.requires.fits.exists.reads in
    let changes = c.in_ok-changes.changes in
    let cells = g.W.CyclicWave.cells c.in_ok-data.data in
    let data_shows = shows_pin circuit ws j 1 c.held_by-held.result.pin cells each reads c.held_by-held.ensures.pin c.in_ok-data.ensures long in
    let are = changes_of circuit ws j 1 cells changes data_shows c.in_ok-changes.ensures.are in
    let clocks = g.W.CyclicWave.cells c.in_ok-clock.clock in
    let clock_shows = shows_pin circuit ws j 0 c.held_by-held.result.clock clocks each reads c.held_by-held.ensures.clock c.in_ok-clock.ensures long in
    let some = event_some p (events Change (pin_folds circuit ws j 1)) changes data_shows.cyclic long are
    (sym c.are_none.ensures ∙ c.if-are_none.false) in
    let held = c.held_by-held.result in
    let made = c.held_by-held.ensures in
    span_check circuit ws j held made.pin made.clock made.opens made.place c.args.check c.span_slacks.result (c.is_to_fall.ensures.fall c.if-is_to_fall.true)
    (subst (λ (f : Folds). IfOk c.span_slacks.result (TellWatch p (launches_of circuit ws (Some held))
    (is_by_arrivals p (two_of circuit ws (Some held)) (span_watch p (edge_limits j.limits) f (pin_folds circuit ws j 1))) held.place Change
    (span_watch p (edge_limits j.limits) f (pin_folds circuit ws j 1)))) clock_shows.folds
    (c.span_slacks.ensures.finding (pin_folds circuit ws j 1) data_shows.cyclic some are))

pub returns-then-asks_nothing-clause-finding : goal.returns-then-asks_nothing-clause-finding
returns-then-asks_nothing-clause-finding g c =
    let circuit = c.args.view.now.circuit.now in
    let ws = waves_of c.args.view.now.waves.now in
    let j = c.args.checker.now in
    let p = period circuit.header in
    let least = c.period-period.ensures.shortest in
    let long : 2 ≤ period c.args.view.now.circuit.now.header = omega (arith, least, c.period-period.ensures.is) in
    let each = c.requires.sees.fit.each_slot in
    let reads = c.requires.fits.exists.reads in
    let changes = c.in_ok-changes.changes in
    let cells = g.W.CyclicWave.cells c.in_ok-data.data in
    let data_shows = shows_pin circuit ws j 1 c.held_by-held.result.pin cells each reads c.held_by-held.ensures.pin c.in_ok-data.ensures long in
    let clocks = g.W.CyclicWave.cells c.in_ok-clock.clock in
    let clock_shows = shows_pin circuit ws j 0 c.held_by-held.result.clock clocks each reads c.held_by-held.ensures.clock c.in_ok-clock.ensures long in
    let count = clock_shows.long in
    let clock_is = clock_shows.folds in
    let data_is = data_shows.folds in
    quiet_check circuit ws j c.args.check c.quiet_slacks.result (c.is_to_fall.ensures.rise c.if-is_to_fall.false c.requires.edges)
    (sym c.asks_nothing.ensures ∙ c.if-asks_nothing.true)
    (subst (λ (n : ℕ). Tells n c.quiet_slacks.result.before (finding_of 1 Change (least_still (still_before n (events Change (pin_folds circuit ws j 1))) n
    (events Rise (pin_folds circuit ws j 0))))) count
    (subst (λ (f : Folds). Tells (length clocks) c.quiet_slacks.result.before (finding_of 1 Change (least_still
    (still_before (length clocks) (events Change (pin_folds circuit ws j 1))) (length clocks) (events Rise f)))) clock_is
    (subst (λ (f : Folds). Tells (length clocks) c.quiet_slacks.result.before (finding_of 1 Change (least_still
    (still_before (length clocks) (events Change f)) (length clocks) (events Rise (read clocks))))) data_is c.quiet_slacks.ensures.before)))
    (subst (λ (n : ℕ). Tells n c.quiet_slacks.result.after (finding_of 1 Change (least_still (still_after n (events Change (pin_folds circuit ws j 1))) n
    (events Rise (pin_folds circuit ws j 0))))) count
    (subst (λ (f : Folds). Tells (length clocks) c.quiet_slacks.result.after (finding_of 1 Change (least_still
    (still_after (length clocks) (events Change (pin_folds circuit ws j 1))) (length clocks) (events Rise f)))) clock_is
    (subst (λ (f : Folds). Tells (length clocks) c.quiet_slacks.result.after (finding_of 1 Change (least_still
    (still_after (length clocks) (events Change f)) (length clocks) (events Rise (read clocks))))) data_is c.quiet_slacks.ensures.after)))

pub returns-clause-finding : goal.returns-clause-finding
returns-clause-finding g c =
    let circuit = c.args.view.now.circuit.now in
    let ws = waves_of c.args.view.now.waves.now in
    let j = c.args.checker.now in
    let p = period circuit.header in
    let least = c.period-period.ensures.shortest in
    let long : 2 ≤ period c.args.view.now.circuit.now.header = omega (arith, least, c.period-period.ensures.is) in
    let each = c.requires.sees.fit.each_slot in
    let reads = c.requires.fits.exists.reads in
    let changes = c.in_ok-changes.changes in
    let cells = g.W.CyclicWave.cells c.in_ok-data.data in
    let data_shows = shows_pin circuit ws j 1 c.held_by-held.result.pin cells each reads c.held_by-held.ensures.pin c.in_ok-data.ensures long in
    let are = changes_of circuit ws j 1 cells changes data_shows c.in_ok-changes.ensures.are in
    let clocks = g.W.CyclicWave.cells c.in_ok-clock.clock in
    let clock_shows = shows_pin circuit ws j 0 c.held_by-held.result.clock clocks each reads c.held_by-held.ensures.clock c.in_ok-clock.ensures long in
    let some = event_some p (events Change (pin_folds circuit ws j 1)) changes data_shows.cyclic long are
    (sym c.are_none.ensures ∙ c.if-are_none.false) in
    let held = c.held_by-held.result in
    let made = c.held_by-held.ensures in
    rise_check circuit ws j held made.pin made.clock made.opens made.place c.args.check c.rise_slacks.result (c.is_to_fall.ensures.rise c.if-is_to_fall.false c.requires.edges)
    (sym c.asks_nothing.ensures ∙ c.if-asks_nothing.false)
    (subst (λ (f : Folds). IfOk c.rise_slacks.result (TellWatch p (launches_of circuit ws (Some held))
    (is_by_arrivals p (two_of circuit ws (Some held)) (rise_watch p (edge_limits j.limits) f (pin_folds circuit ws j 1))) held.place Change
    (rise_watch p (edge_limits j.limits) f (pin_folds circuit ws j 1)))) clock_shows.folds
    (c.rise_slacks.ensures.finding (pin_folds circuit ws j 1) data_shows.cyclic some are))

-- ---- by arrivals

pub returns-then-are_none-clause-are : goal.returns-then-are_none-clause-are
returns-then-are_none-clause-are g c some windows =
    let circuit = c.args.view.now.circuit.now in
    let ws = waves_of c.args.view.now.waves.now in
    let j = c.args.checker.now in
    let p = period circuit.header in
    let least = c.period-period.ensures.shortest in
    let long : 2 ≤ period c.args.view.now.circuit.now.header = omega (arith, least, c.period-period.ensures.is) in
    let each = c.requires.sees.fit.each_slot in
    let reads = c.requires.fits.exists.reads in
    let changes = c.in_ok-changes.changes in
    let cells = g.W.CyclicWave.cells c.in_ok-data.data in
    let data_shows = shows_pin circuit ws j 1 c.held_by-held.result.pin cells each reads c.held_by-held.ensures.pin c.in_ok-data.ensures long in
    let are = changes_of circuit ws j 1 cells changes data_shows c.in_ok-changes.ensures.are in
    let none = event_none p (events Change (pin_folds circuit ws j 1)) changes data_shows.cyclic long are
    (sym c.are_none.ensures ∙ c.if-are_none.true) in
    let bad : true ≡ false = sym some ∙ none in
    absurd (cc)

pub returns-then-is_to_fall-clause-are : goal.returns-then-is_to_fall-clause-are
returns-then-is_to_fall-clause-are g c some windows =
    let circuit = c.args.view.now.circuit.now in
    let ws = waves_of c.args.view.now.waves.now in
    let j = c.args.checker.now in
    let p = period circuit.header in
    let least = c.period-period.ensures.shortest in
    let long : 2 ≤ period c.args.view.now.circuit.now.header = omega (arith, least, c.period-period.ensures.is) in
    let each = c.requires.sees.fit.each_slot in
    let reads = c.requires.fits.exists.reads in
    let changes = c.in_ok-changes.changes in
    let cells = g.W.CyclicWave.cells c.in_ok-data.data in
    let data_shows = shows_pin circuit ws j 1 c.held_by-held.result.pin cells each reads c.held_by-held.ensures.pin c.in_ok-data.ensures long in
    let are = changes_of circuit ws j 1 cells changes data_shows c.in_ok-changes.ensures.are in
    let clocks = g.W.CyclicWave.cells c.in_ok-clock.clock in
    let clock_shows = shows_pin circuit ws j 0 c.held_by-held.result.clock clocks each reads c.held_by-held.ensures.clock c.in_ok-clock.ensures long in
    let held = c.held_by-held.result in
    let made = c.held_by-held.ensures in
    of_spans circuit ws j c.args.check held changes record { pin = made.pin; clock = made.clock; place = made.place; opens = made.opens; shuts = made.shuts } are
    c.span_slacks.result c.args.paths.now c.span_slacks.new.paths (length clocks) (read clocks) clock_shows.long clock_shows.folds (c.is_to_fall.ensures.fall c.if-is_to_fall.true)
    c.span_slacks.ensures.are windows

pub returns-then-asks_nothing-clause-are : goal.returns-then-asks_nothing-clause-are
returns-then-asks_nothing-clause-are g c some windows =
    let circuit = c.args.view.now.circuit.now in
    let ws = waves_of c.args.view.now.waves.now in
    let bad = no_windows circuit ws c.args.checker.now c.args.check (c.is_to_fall.ensures.rise c.if-is_to_fall.false c.requires.edges)
    (sym c.asks_nothing.ensures ∙ c.if-asks_nothing.true) windows in
    absurd (cc)

pub returns-clause-are : goal.returns-clause-are
returns-clause-are g c some windows =
    let circuit = c.args.view.now.circuit.now in
    let ws = waves_of c.args.view.now.waves.now in
    let j = c.args.checker.now in
    let p = period circuit.header in
    let least = c.period-period.ensures.shortest in
    let long : 2 ≤ period c.args.view.now.circuit.now.header = omega (arith, least, c.period-period.ensures.is) in
    let each = c.requires.sees.fit.each_slot in
    let reads = c.requires.fits.exists.reads in
    let changes = c.in_ok-changes.changes in
    let cells = g.W.CyclicWave.cells c.in_ok-data.data in
    let data_shows = shows_pin circuit ws j 1 c.held_by-held.result.pin cells each reads c.held_by-held.ensures.pin c.in_ok-data.ensures long in
    let are = changes_of circuit ws j 1 cells changes data_shows c.in_ok-changes.ensures.are in
    let clocks = g.W.CyclicWave.cells c.in_ok-clock.clock in
    let clock_shows = shows_pin circuit ws j 0 c.held_by-held.result.clock clocks each reads c.held_by-held.ensures.clock c.in_ok-clock.ensures long in
    let held = c.held_by-held.result in
    let made = c.held_by-held.ensures in
    of_rises circuit ws j c.args.check held changes record { pin = made.pin; clock = made.clock; place = made.place; opens = made.opens; shuts = made.shuts } are
    c.rise_slacks.result c.args.paths.now c.rise_slacks.new.paths (read clocks) clock_shows.folds (c.is_to_fall.ensures.rise c.if-is_to_fall.false c.requires.edges) c.rise_slacks.ensures.are windows
