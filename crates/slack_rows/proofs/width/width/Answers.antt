use Rattle.std.proofs.Common.{◌≡◌, ◌&&◌, true, length, refl, sym, ap, ◌∙◌, arith, rules, Option, Some, pos, ◌+ℤ◌}
use Rattle.std.specs.Prelude.{◌==◌, nat_lt}
use Rattle.std.specs.Option.{option_map}
use Rattle.std.proofs.lemmas.Bool.{and_parts, eqb-true}
use Rattle.std.proofs.lemmas.Int.{ints}
use Rattle.scald_base.specs.Time.{period}
use Rattle.step_values.specs.declared.value.Value.{Value}
use Rattle.skew_algebra.specs.Wave.{Wave}
use Rattle.fixpoint_engine.specs.Pins.{read}
use Rattle.fixpoint_engine.specs.Waves.{pin_wave, waves_of}
use Rattle.fixpoint_engine.proofs.Fits.{long_pin}
use Rattle.slack_rows.specs.declared.slack.By.TheVariants.{Pulse as ByPulse, Repeated, Swallowed}
use Rattle.slack_rows.specs.Limit.{begin_of}
use Rattle.slack_rows.specs.Pulse.{Pulse, begins_at, changes_again, left_at, may_change_again, narrowest, finding_wave}
use Rattle.slack_rows.specs.Slack.{finding_of}
use Rattle.slack_rows.specs.Views.{comes_again}
use Rattle.slack_rows.proofs.Breadths.{finding_near, tells_swallowed, tells_whole, width_left, width_none, width_repeated, width_whole, window_here, window_late}
use Rattle.slack_rows.proofs.width.width.Goals as goal

pub returns-in_default-clause-finding : goal.returns-in_default-clause-finding
returns-in_default-clause-finding g c =
    let circuit = c.args.view.now.circuit.now in
    let ws = waves_of c.args.view.now.waves.now in
    let pin = c.args.pin in
    let level = c.args.level in
    let limit = c.args.limit in
    let p = period circuit.header in
    let wave = read (pin_wave circuit ws pin).cells in
    let left = left_at circuit ws level pin in
    let cells = c.wave-shown.ensures ∙ ap (λ (w : Wave Value). w.cells) c.in_ok-wave.ensures in
    let long = ap length cells
    ∙ long_pin circuit ws pin c.requires.sees.fit.each_slot c.requires.pin in
    let found = sym (λ i. narrowest (long i) level (read (cells i)))
    ∙ sym c.narrowest.ensures.is ∙ c.in_default.is in
    ap (λ (o : Option Pulse). (finding_of 0 (begin_of level) (finding_wave limit left wave o)).slack) found

pub returns-then-is_repeated-clause-finding : goal.returns-then-is_repeated-clause-finding
returns-then-is_repeated-clause-finding g c =
    let circuit = c.args.view.now.circuit.now in
    let ws = waves_of c.args.view.now.waves.now in
    let pin = c.args.pin in
    let level = c.args.level in
    let limit = c.args.limit in
    let p = period circuit.header in
    let wave = read (pin_wave circuit ws pin).cells in
    let left = left_at circuit ws level pin in
    let cells = c.wave-shown.ensures ∙ ap (λ (w : Wave Value). w.cells) c.in_ok-wave.ensures in
    let long = ap length cells
    ∙ long_pin circuit ws pin c.requires.sees.fit.each_slot c.requires.pin in
    let found = sym (λ i. narrowest (long i) level (read (cells i)))
    ∙ sym c.narrowest.ensures.is ∙ c.in-Some.is in
    let pulse = c.in-Some.pulse in
    let again : c.is_repeated.result ≡ may_change_again wave pulse =
    c.is_repeated.ensures ∙ ap (λ xs. may_change_again (read xs) pulse) cells in
    let first = c.ticks-window.ensures.first in
    let last = c.ticks-window.ensures.last in
    let ends : c.ticks-window.result.last ≡ c.ticks-window.result.first +ℤ pos pulse.1 =
    omega (arith, ints, first, last, c.from.ensures, c.from-2.ensures) in
    finding_near p c.finding-repeated.result _ Repeated c.finding-repeated.ensures.way tt
    (ap (λ (o : Option Pulse). finding_of 0 (begin_of level) (finding_wave limit left wave o)) found
    ∙ tells_whole p (begin_of level) limit pulse c.finding-repeated.result c.ticks-window.result
    c.finding-repeated.ensures.slack c.finding-repeated.ensures.window c.finding-repeated.ensures.pin c.finding-repeated.ensures.direction
    c.finding-repeated.ensures.tick (pos pulse.1) ends wave left Repeated c.finding-repeated.ensures.way refl
    (width_repeated pulse limit (may_change_again wave pulse) left (sym again ∙ c.if-is_repeated.true)) refl)

pub returns-then-not-may_vanish-clause-finding : goal.returns-then-not-may_vanish-clause-finding
returns-then-not-may_vanish-clause-finding g c =
    let circuit = c.args.view.now.circuit.now in
    let ws = waves_of c.args.view.now.waves.now in
    let pin = c.args.pin in
    let level = c.args.level in
    let limit = c.args.limit in
    let p = period circuit.header in
    let wave = read (pin_wave circuit ws pin).cells in
    let left = left_at circuit ws level pin in
    let cells = c.wave-shown.ensures ∙ ap (λ (w : Wave Value). w.cells) c.in_ok-wave.ensures in
    let long = ap length cells
    ∙ long_pin circuit ws pin c.requires.sees.fit.each_slot c.requires.pin in
    let found = sym (λ i. narrowest (long i) level (read (cells i)))
    ∙ sym c.narrowest.ensures.is ∙ c.in-Some.is in
    let pulse = c.in-Some.pulse in
    let again : c.is_repeated.result ≡ may_change_again wave pulse =
    c.is_repeated.ensures ∙ ap (λ xs. may_change_again (read xs) pulse) cells in
    let first = c.ticks-window.ensures.first in
    let last = c.ticks-window.ensures.last in
    let ends : c.ticks-window.result.last ≡ c.ticks-window.result.first +ℤ pos pulse.1 =
    omega (arith, ints, first, last, c.from.ensures, c.from-2.ensures) in
    finding_near p c.finding-wide.result _ ByPulse c.finding-wide.ensures.way tt
    (ap (λ (o : Option Pulse). finding_of 0 (begin_of level) (finding_wave limit left wave o)) found
    ∙ tells_whole p (begin_of level) limit pulse c.finding-wide.result c.ticks-window.result
    c.finding-wide.ensures.slack c.finding-wide.ensures.window c.finding-wide.ensures.pin c.finding-wide.ensures.direction
    c.finding-wide.ensures.tick (pos pulse.1) ends wave left ByPulse c.finding-wide.ensures.way refl
    (width_whole pulse limit (may_change_again wave pulse) left
    (sym c.may_vanish.ensures ∙ c.if-not-may_vanish.true)) refl)

pub returns-in-None-clause-finding : goal.returns-in-None-clause-finding
returns-in-None-clause-finding g c =
    let circuit = c.args.view.now.circuit.now in
    let ws = waves_of c.args.view.now.waves.now in
    let pin = c.args.pin in
    let level = c.args.level in
    let limit = c.args.limit in
    let p = period circuit.header in
    let wave = read (pin_wave circuit ws pin).cells in
    let left = left_at circuit ws level pin in
    let cells = c.wave-shown.ensures ∙ ap (λ (w : Wave Value). w.cells) c.in_ok-wave.ensures in
    let long = ap length cells
    ∙ long_pin circuit ws pin c.requires.sees.fit.each_slot c.requires.pin in
    let found = sym (λ i. narrowest (long i) level (read (cells i)))
    ∙ sym c.narrowest.ensures.is ∙ c.in-Some.is in
    let pulse = c.in-Some.pulse in
    let again : c.is_repeated.result ≡ may_change_again wave pulse =
    c.is_repeated.ensures ∙ ap (λ xs. may_change_again (read xs) pulse) cells in
    let first = c.ticks-window.ensures.first in
    let last = c.ticks-window.ensures.last in
    let ends : c.ticks-window.result.last ≡ c.ticks-window.result.first +ℤ pos pulse.1 =
    omega (arith, ints, first, last, c.from.ensures, c.from-2.ensures) in
    finding_near p c.finding-kept.result _ ByPulse c.finding-kept.ensures.way tt
    (ap (λ (o : Option Pulse). finding_of 0 (begin_of level) (finding_wave limit left wave o)) found
    ∙ tells_whole p (begin_of level) limit pulse c.finding-kept.result c.ticks-window.result
    c.finding-kept.ensures.slack c.finding-kept.ensures.window c.finding-kept.ensures.pin c.finding-kept.ensures.direction
    c.finding-kept.ensures.tick (pos pulse.1) ends wave left ByPulse c.finding-kept.ensures.way refl
    (width_none pulse limit (may_change_again wave pulse) left
    (sym c.in_ok-swallowed.ensures.left ∙ ap (option_map (λ left. left.1)) c.in-None.is)) refl)

pub returns-clause-finding : goal.returns-clause-finding
returns-clause-finding g c =
    let circuit = c.args.view.now.circuit.now in
    let ws = waves_of c.args.view.now.waves.now in
    let pin = c.args.pin in
    let level = c.args.level in
    let limit = c.args.limit in
    let p = period circuit.header in
    let wave = read (pin_wave circuit ws pin).cells in
    let left = left_at circuit ws level pin in
    let cells = c.wave-shown.ensures ∙ ap (λ (w : Wave Value). w.cells) c.in_ok-wave.ensures in
    let long = ap length cells
    ∙ long_pin circuit ws pin c.requires.sees.fit.each_slot c.requires.pin in
    let found = sym (λ i. narrowest (long i) level (read (cells i)))
    ∙ sym c.narrowest.ensures.is ∙ c.in-Some.is in
    let pulse = c.in-Some.pulse in
    let again : c.is_repeated.result ≡ may_change_again wave pulse =
    c.is_repeated.ensures ∙ ap (λ xs. may_change_again (read xs) pulse) cells in
    let n = c.in-Some-2.left in
    let few = c.in_ok-swallowed.ensures.few in
    let first = c.ticks-rest.ensures.first in
    let last = c.ticks-rest.ensures.last in
    let ends : c.ticks-rest.result.last ≡ c.ticks-rest.result.first +ℤ n = omega (arith, ints, first, last) in
    let narrow : ((pulse.1 == 1) && nat_lt 1 limit) ≡ true = sym c.may_vanish.ensures ∙ c.if-not-may_vanish.false in
    let one : pulse.1 ≡ 1 = eqb-true pulse.1 1 (and_parts (pulse.1 == 1) (nat_lt 1 limit) narrow).0 in
    let is : option_map (λ left. left.1) c.in_ok-swallowed.field-0 ≡ Some n = search rules in
    finding_near p c.finding-gone.result _ Swallowed c.finding-gone.ensures.way tt
    (ap (λ (o : Option Pulse). finding_of 0 (begin_of level) (finding_wave limit left wave o)) found
    ∙ tells_swallowed p (begin_of level) limit pulse c.finding-gone.result c.ticks-rest.result
    c.finding-gone.ensures.slack c.finding-gone.ensures.window c.finding-gone.ensures.pin c.finding-gone.ensures.direction
    c.finding-gone.ensures.tick n ends wave left c.finding-gone.ensures.way one
    (width_left pulse limit (may_change_again wave pulse) left n (sym again ∙ c.if-is_repeated.false)
    (sym c.in_ok-swallowed.ensures.left ∙ is) narrow))

pub returns-then-is_repeated-clause-again : goal.returns-then-is_repeated-clause-again
returns-then-is_repeated-clause-again g c =
    let circuit = c.args.view.now.circuit.now in
    let ws = waves_of c.args.view.now.waves.now in
    let pin = c.args.pin in
    let wave = read (pin_wave circuit ws pin).cells in
    let cells = c.wave-shown.ensures ∙ ap (λ (w : Wave Value). w.cells) c.in_ok-wave.ensures in
    let long = ap length cells
    ∙ long_pin circuit ws pin c.requires.sees.fit.each_slot c.requires.pin in
    let found = sym (λ i. narrowest (long i) c.args.level (read (cells i)))
    ∙ sym c.narrowest.ensures.is ∙ c.in-Some.is in
    let again : c.is_repeated.result ≡ may_change_again wave c.in-Some.pulse =
    c.is_repeated.ensures ∙ ap (λ xs. may_change_again (read xs) c.in-Some.pulse) cells in
    ap comes_again c.finding-repeated.ensures.way ∙ sym c.if-is_repeated.true ∙ again
    ∙ sym (ap (changes_again wave) found)

pub returns-then-not-may_vanish-clause-again : goal.returns-then-not-may_vanish-clause-again
returns-then-not-may_vanish-clause-again g c =
    let circuit = c.args.view.now.circuit.now in
    let ws = waves_of c.args.view.now.waves.now in
    let pin = c.args.pin in
    let wave = read (pin_wave circuit ws pin).cells in
    let cells = c.wave-shown.ensures ∙ ap (λ (w : Wave Value). w.cells) c.in_ok-wave.ensures in
    let long = ap length cells
    ∙ long_pin circuit ws pin c.requires.sees.fit.each_slot c.requires.pin in
    let found = sym (λ i. narrowest (long i) c.args.level (read (cells i)))
    ∙ sym c.narrowest.ensures.is ∙ c.in-Some.is in
    let again : c.is_repeated.result ≡ may_change_again wave c.in-Some.pulse =
    c.is_repeated.ensures ∙ ap (λ xs. may_change_again (read xs) c.in-Some.pulse) cells in
    ap comes_again c.finding-wide.ensures.way ∙ sym c.if-is_repeated.false ∙ again
    ∙ sym (ap (changes_again wave) found)

pub returns-in-None-clause-again : goal.returns-in-None-clause-again
returns-in-None-clause-again g c =
    let circuit = c.args.view.now.circuit.now in
    let ws = waves_of c.args.view.now.waves.now in
    let pin = c.args.pin in
    let wave = read (pin_wave circuit ws pin).cells in
    let cells = c.wave-shown.ensures ∙ ap (λ (w : Wave Value). w.cells) c.in_ok-wave.ensures in
    let long = ap length cells
    ∙ long_pin circuit ws pin c.requires.sees.fit.each_slot c.requires.pin in
    let found = sym (λ i. narrowest (long i) c.args.level (read (cells i)))
    ∙ sym c.narrowest.ensures.is ∙ c.in-Some.is in
    let again : c.is_repeated.result ≡ may_change_again wave c.in-Some.pulse =
    c.is_repeated.ensures ∙ ap (λ xs. may_change_again (read xs) c.in-Some.pulse) cells in
    ap comes_again c.finding-kept.ensures.way ∙ sym c.if-is_repeated.false ∙ again
    ∙ sym (ap (changes_again wave) found)

pub returns-clause-again : goal.returns-clause-again
returns-clause-again g c =
    let circuit = c.args.view.now.circuit.now in
    let ws = waves_of c.args.view.now.waves.now in
    let pin = c.args.pin in
    let wave = read (pin_wave circuit ws pin).cells in
    let cells = c.wave-shown.ensures ∙ ap (λ (w : Wave Value). w.cells) c.in_ok-wave.ensures in
    let long = ap length cells
    ∙ long_pin circuit ws pin c.requires.sees.fit.each_slot c.requires.pin in
    let found = sym (λ i. narrowest (long i) c.args.level (read (cells i)))
    ∙ sym c.narrowest.ensures.is ∙ c.in-Some.is in
    let again : c.is_repeated.result ≡ may_change_again wave c.in-Some.pulse =
    c.is_repeated.ensures ∙ ap (λ xs. may_change_again (read xs) c.in-Some.pulse) cells in
    ap comes_again c.finding-gone.ensures.way ∙ sym c.if-is_repeated.false ∙ again
    ∙ sym (ap (changes_again wave) found)

pub returns-then-is_repeated-clause-window : goal.returns-then-is_repeated-clause-window
returns-then-is_repeated-clause-window g c =
    let late = begins_at c.args.view.now.circuit.now (waves_of c.args.view.now.waves.now) c.args.level c.args.pin in
    let n = c.in-Some.pulse.0 in
    let made = c.finding-repeated.ensures in
    window_here c.args.limit late n c.finding-repeated.result c.ticks-window.result Repeated
    (let first = c.ticks-window.ensures.first in omega (arith, ints, first, c.from.ensures)) made.slack made.window made.tick made.way refl

pub returns-then-not-may_vanish-clause-window : goal.returns-then-not-may_vanish-clause-window
returns-then-not-may_vanish-clause-window g c =
    let late = begins_at c.args.view.now.circuit.now (waves_of c.args.view.now.waves.now) c.args.level c.args.pin in
    let n = c.in-Some.pulse.0 in
    let made = c.finding-wide.ensures in
    window_here c.args.limit late n c.finding-wide.result c.ticks-window.result ByPulse
    (let first = c.ticks-window.ensures.first in omega (arith, ints, first, c.from.ensures)) made.slack made.window made.tick made.way refl

pub returns-in-None-clause-window : goal.returns-in-None-clause-window
returns-in-None-clause-window g c =
    let late = begins_at c.args.view.now.circuit.now (waves_of c.args.view.now.waves.now) c.args.level c.args.pin in
    let n = c.in-Some.pulse.0 in
    let made = c.finding-kept.ensures in
    window_here c.args.limit late n c.finding-kept.result c.ticks-window.result ByPulse
    (let first = c.ticks-window.ensures.first in omega (arith, ints, first, c.from.ensures)) made.slack made.window made.tick made.way refl

pub returns-clause-window : goal.returns-clause-window
returns-clause-window g c =
    let late = begins_at c.args.view.now.circuit.now (waves_of c.args.view.now.waves.now) c.args.level c.args.pin in
    let made = c.finding-gone.ensures in
    let begin = c.in-Some-2.begin in
    let is : option_map (λ left. left.0) c.in_ok-swallowed.field-0 ≡ Some begin = search rules in
    window_late c.args.limit late c.in-Some.pulse.0 begin c.finding-gone.result c.ticks-rest.result
    (sym c.in_ok-swallowed.ensures.begin ∙ is) (let first = c.ticks-rest.ensures.first in omega (arith, ints, first)) made.slack made.window made.way
