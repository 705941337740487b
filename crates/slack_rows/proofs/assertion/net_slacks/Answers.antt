use Rattle.std.proofs.Common.{◌≡◌, ℕ, ◌<◌, Bool, List, length, map, Option, sym, ap, subst, ◌∙◌, arith}
use Rattle.std.proofs.lemmas.Option.{slice_get_within}
use Rattle.scald_base.specs.declared.assertion.AssertSpec.{AssertSpec}
use Rattle.scald_base.specs.Time.{Header, period}
use Rattle.step_values.specs.declared.value.Value.{Value}
use Rattle.step_values.specs.Cell.{values}
use Rattle.wave_core.proofs.Slots.{length_slots}
use Rattle.skew_algebra.specs.Wave.{Wave, fold, folded}
use Rattle.skew_algebra.proofs.Moves.{earlier_folded}
use Rattle.pin_waves.specs.Interface.{wide_wave}
use Rattle.flat_circuit.specs.declared.net.Net.{Net}
use Rattle.flat_circuit.specs.Circuit.{Circuit}
use Rattle.fixpoint_engine.specs.Pins.{read}
use Rattle.fixpoint_engine.specs.Waves.{Waves, waves_of}
use Rattle.point_check.specs.Assertion.{first_excess}
use Rattle.point_check.specs.Window.{Folds}
use Rattle.critical_paths.specs.declared.direction.Direction.{Direction}
use Rattle.slack_rows.specs.declared.parameter.Word.TheVariants.{Assert, From as StableFrom, To as StableTo}
use Rattle.slack_rows.specs.declared.slack.Reason.{Reason}
use Rattle.slack_rows.specs.declared.slack.Slacks.{Slacks}
use Rattle.slack_rows.specs.declared.slack.Finding.{Finding as Found}
use Rattle.slack_rows.specs.Held.{is_high_outside, IsLevelFinding, TellDirections}
use Rattle.slack_rows.specs.Limit.{steps_outside, finding_net, finding_never, finding_outside, watch_net}
use Rattle.slack_rows.specs.Slack.{finding_of}
use Rattle.slack_rows.specs.Views.{Tells, lesser_found, finding_level_by}
use Rattle.slack_rows.specs.Watch.{directions_of, permitted}
use Rattle.slack_rows.proofs.Marking.{level_finding, with_outside}
use Rattle.slack_rows.proofs.assertion.net_slacks.Goals as goal

-- what each slot may hold is as long as the wave
shown_long : (cells : List Value) (w : Wave Value) (p : ℕ) → cells ≡ folded values w → length w.cells ≡ p → length cells ≡ p
shown_long cells w p are long = ap length are ∙ length_slots (length w.cells) (fold values w) ∙ long

-- and is read as the wave
shown_is : (cells : List Value) (w : Wave Value) → cells ≡ folded values w → 0 < length w.cells → read cells ≡ fold values w
shown_is cells w are some = ap read are ∙ (λ i t. earlier_folded values w t some i)

-- the same of what is the same
directions_same : (p : ℕ) (f found w wide : Folds) (s spec : AssertSpec) (slacks : Slacks) → f ≡ found → w ≡ wide → s ≡ spec →
    TellDirections p f w (directions_of s) slacks → TellDirections p found wide (directions_of spec) slacks
directions_same p f found w wide s spec slacks found_is wide_is spec_is finding =
    subst (λ (x : Folds). TellDirections p x wide (directions_of spec) slacks) found_is
    (subst (λ (x : Folds). TellDirections p f x (directions_of spec) slacks) wide_is
    (subst (λ (x : AssertSpec). TellDirections p f w (directions_of x) slacks) spec_is finding))

abbrev beyond : Folds → Folds → ℕ → Bool
beyond f w t = is_high_outside (f t) (w t)

level_same : (n p : ℕ) (f found w wide : Folds) (level : Option Reason) → n ≡ p → f ≡ found → w ≡ wide →
    IsLevelFinding (beyond f w) level (steps_outside n f w) (first_excess n f w) →
    IsLevelFinding (beyond found wide) level (steps_outside p found wide) (first_excess p found wide)
level_same n p f found w wide level long found_is wide_is finding =
    subst (λ (m : ℕ). IsLevelFinding (beyond found wide) level (steps_outside m found wide) (first_excess m found wide)) long
    (subst (λ (x : Folds). IsLevelFinding (beyond x wide) level (steps_outside n x wide) (first_excess n x wide)) found_is
    (subst (λ (x : Folds). IsLevelFinding (beyond f x) level (steps_outside n f x) (first_excess n f x)) wide_is finding))

-- the steps of a net, and its level beside them
module _ (c : Circuit) (ws : Waves) (i : ℕ) (net : Net) where
  abbrev p : ℕ
  p = period c.header

  abbrev found : Folds
  found = fold values (ws i)

  abbrev wide : Folds
  wide = permitted c.header net.spec

  net_finding : (steps all : Slacks) (level : Option Reason) → TellDirections p found wide (directions_of net.spec) steps →
      IsLevelFinding (beyond found wide) level (steps_outside p found wide) (first_excess p found wide) →
      all.level ≡ lesser_found steps.level (finding_level_by level) → all.before ≡ steps.before → all.after ≡ steps.after →
      (Tells p all.level (finding_net c ws i net Assert)) × (Tells p all.before (finding_net c ws i net StableFrom)) × (Tells p all.after (finding_net c ws i net StableTo))
  net_finding steps all level finding finding_level level_is before_is after_is = (
    with_outside p steps.level (finding_level_by level) all.level
        (map (λ (d : Direction). finding_of 0 d (finding_never p (watch_net c ws i net d))) (directions_of net.spec))
        (finding_outside (steps_outside p found wide) (first_excess p found wide)) level_is finding.level
        (level_finding p (beyond found wide) level (steps_outside p found wide) (first_excess p found wide) finding_level),
    subst (λ (o : Option Found). Tells p o (finding_net c ws i net StableFrom)) (sym before_is) finding.before,
    subst (λ (o : Option Found). Tells p o (finding_net c ws i net StableTo)) (sym after_is) finding.after,
  )

pub all_steps-requires-clause-fold : goal.all_steps-requires-clause-fold
all_steps-requires-clause-fold g c =
    let circuit = c.args.view.now.circuit.now in
    let below = slice_get_within circuit.nets c.args.number c.args.net.now c.requires.net in
    shown_long (g.W.CyclicWave.cells c.in_ok-fold.fold) (waves_of c.args.view.now.waves.now c.args.number) (period circuit.header)
    (c.in_ok-fold.ensures.wave ∙ ap (folded values) c.at.ensures) (c.requires.sees.fit.each_slot c.args.number below)

pub first_level-requires : goal.first_level-requires
first_level-requires g c =
    let circuit = c.args.view.now.circuit.now in
    let below = slice_get_within circuit.nets c.args.number c.args.net.now c.requires.net in
    c.in_ok-wide.ensures.sized ∙ ap period c.header.ensures
    ∙ sym (shown_long (g.W.CyclicWave.cells c.in_ok-fold.fold) (waves_of c.args.view.now.waves.now c.args.number) (period circuit.header)
    (c.in_ok-fold.ensures.wave ∙ ap (folded values) c.at.ensures) (c.requires.sees.fit.each_slot c.args.number below))

pub returns-clause-finding : goal.returns-clause-finding
returns-clause-finding g c =
    let circuit = c.args.view.now.circuit.now in
    let p = period circuit.header in
    let ws = waves_of c.args.view.now.waves.now in
    let i = c.args.number in
    let net = c.args.net.now in
    let below = slice_get_within circuit.nets i net c.requires.net in
    let cells = g.W.CyclicWave.cells c.in_ok-fold.fold in
    let wide = g.W.CyclicWave.cells c.in_ok-wide.wide in
    let slots = c.requires.sees.fit.each_slot i below in
    let least = c.period-period.ensures.shortest in
    let same = c.period-period.ensures.is in
    let cells_are : cells ≡ folded values (ws i) = c.in_ok-fold.ensures.wave ∙ ap (folded values) c.at.ensures in
    let found_is : read cells ≡ fold values (ws i) = shown_is cells (ws i) cells_are (omega (arith, slots, least, same)) in
    let wide_is : read wide ≡ permitted circuit.header net.spec =
    ap read (c.in_ok-wide.ensures.wave ∙ ap (λ (h : Header). wide_wave h c.or-spec.result.now) c.header.ensures
    ∙ ap (wide_wave circuit.header) c.or-spec.ensures) in
    net_finding circuit ws i net c.in_ok-found.found c.with_level.result c.first_level.result
    (directions_same p (read cells) (fold values (ws i)) (read wide) (permitted circuit.header net.spec) c.or-spec.result.now net.spec
    c.in_ok-found.found found_is wide_is c.or-spec.ensures c.in_ok-found.ensures.finding)
    (level_same (length cells) p (read cells) (fold values (ws i)) (read wide) (permitted circuit.header net.spec) c.first_level.result
    (shown_long cells (ws i) p cells_are slots) found_is wide_is c.first_level.ensures)
    c.with_level.ensures.level c.with_level.ensures.before c.with_level.ensures.after
