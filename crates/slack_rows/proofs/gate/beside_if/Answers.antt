use Rattle.std.proofs.Common.{◌≡◌, true, false, not, ◌&&◌, eqb, inl, inr, sym, ap, subst, ◌∙◌, slice_get}
use Rattle.std.proofs.lemmas.Bool.Decides.{eqb_tells}
use Rattle.scald_base.specs.Time.{period}
use Rattle.fixpoint_engine.specs.Waves.{waves_of}
use Rattle.fixpoint_engine.proofs.Fits.{long_pin_at}
use Rattle.step_values.specs.declared.value.Value.{Value}
use Rattle.gate_eval.specs.Instance.{wave_of_pin}
use Rattle.gate_eval.specs.Hold.{is_closed}
use Rattle.fixpoint_engine.specs.Waves.{pin_waves}
use Rattle.point_check.specs.Window.{Folds}
use Rattle.critical_paths.specs.declared.direction.Direction.TheVariants.{Change}
use Rattle.critical_paths.specs.Event.{events}
use Rattle.critical_paths.specs.Region.{IsCyclic}
use Rattle.slack_rows.specs.Exact.{AreOfHeld}
use Rattle.slack_rows.specs.Limit.{is_beside, is_on, pin_folds}
use Rattle.slack_rows.specs.Watch.{opens}
use Rattle.slack_rows.proofs.Checkers.{folds_repeat}
use Rattle.slack_rows.proofs.Parting.{folds_are, tell_beside}
use Rattle.slack_rows.proofs.gate.beside_if.Goals as goal

pub returns-clause-finding : goal.returns-clause-finding
returns-clause-finding g c =
    let circuit = c.args.view.now.circuit.now in
    let ws = waves_of c.args.view.now.waves.now in
    let p = period circuit.header in
    let j = c.args.gate.now in
    let marked = c.args.marked in
    let place = c.args.place in
    let other : eqb place marked ≡ false =
    elim (eqb_tells place marked) [ inl same ↦ absurd (c.if-place-marked.false same.1) | inr apart ↦ apart.0 ] in
    let on : is_on (slice_get j.pins place) ≡ true = ap is_on c.pin_of-pin.ensures ∙ sym c.is_net-is_on.ensures ∙ cc c.if-not-is_on.false in
    let beside : is_beside j marked place ≡ true = (λ i. not (other i) && on i) in
    let held = c.held_beside.result in
    let e = c.held_beside.ensures in
    let repeats : IsCyclic p (opens j.kind (pin_folds circuit ws j marked)) =
    (λ t. ap (λ (v : Value). not (is_closed j.kind v))
    (folds_repeat p (wave_of_pin (pin_waves circuit ws j) marked)
    (long_pin_at circuit ws j.pins marked c.requires.sees.fit.each_slot c.requires.fits.exists.reads c.requires.marked) t)) in
    λ are.
    tell_beside circuit ws j marked place held c.in_ok-found.found e.pin e.clock e.opens e.place beside
    (c.in_ok-found.ensures.finding (opens j.kind (pin_folds circuit ws j marked)) repeats are)

pub returns-clause-are : goal.returns-clause-are
returns-clause-are g c =
    let circuit = c.args.view.now.circuit.now in
    let ws = waves_of c.args.view.now.waves.now in
    let j = c.args.gate.now in
    let place = c.args.place in
    let held = c.held_beside.result in
    let made = c.held_beside.ensures in
    let other : eqb place c.args.marked ≡ false =
    elim (eqb_tells place c.args.marked) [ inl same ↦ absurd (c.if-place-marked.false same.1) | inr apart ↦ apart.0 ] in
    let on : is_on (slice_get j.pins place) ≡ true = ap is_on c.pin_of-pin.ensures ∙ sym c.is_net-is_on.ensures ∙ cc c.if-not-is_on.false in
    let beside : is_beside j c.args.marked place ≡ true = (λ i. not (other i) && on i) in
    λ still. record {
      beside = λ is. record {
        held = held;
        is_held = record { own = made.pin; against = made.clock; step = made.opens };
        still = c.args.opened.now;
        still_are = still;
        are = subst (λ (f : Folds). AreOfHeld circuit ws c.args.paths.now held (events Change f) c.args.opened.now c.in_ok-found.found)
            (sym (folds_are circuit ws j place held.pin made.pin)) c.in_ok-found.ensures.are;
      };
      none = λ none. let bad : true ≡ false = sym beside ∙ none in absurd (cc);
    }
