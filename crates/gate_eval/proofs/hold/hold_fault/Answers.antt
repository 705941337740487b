use Rattle.std.proofs.Common.{◌≤◌, ℕ, List, length, map, arith, sym, ap, ◌∙◌, subst}
use Rattle.std.specs.List.{position}
use Rattle.std.proofs.lemmas.List.{length-map}
use Rattle.gate_eval.specs.Meeting.{period_of}
use Rattle.gate_eval.specs.Hold.{hazard, KeepsMark}
use Rattle.gate_eval.specs.Instance.{MarkFits}
use Rattle.gate_eval.proofs.Gathered.{some_period}
use Rattle.gate_eval.proofs.Chosen.{mark_fits, pins_fit, some_pins, if_none}
use Rattle.gate_eval.proofs.Sound.{no_hazard}
use Rattle.gate_eval.proofs.hold.hold_fault.Goals as goal

pub returns-clause-sound : goal.returns-clause-sound
returns-clause-sound g c =
    if_none c.hazard_among.result (KeepsMark c.args.kind (map (λ p. p.wave) c.args.pins.now) (position (λ p. p.hold) c.args.pins.now)) (λ e.
    no_hazard c.args.kind (map (λ p. p.wave) c.args.pins.now) (position (λ p. p.hold) c.args.pins.now)
    (e ∙ c.hazard_among.ensures ∙ ap (λ (ps : List _). hazard c.args.kind (map (λ p. p.wave) ps) (position (λ p. p.hold) ps)) c.as_slice.ensures)
    (subst (λ (n : ℕ). MarkFits c.args.kind (position (λ p. p.hold) c.args.pins.now) n)
    (sym (length-map c.args.pins.now (λ p. p.wave))) (mark_fits c.args.kind (λ p. p.hold) c.args.pins.now c.requires.pins.marks))
    (some_period c.args.pins.now (λ p. p.wave) (some_pins c.args.kind (length c.args.pins.now) c.requires.pins.least)
    (λ p. let s : 2 ≤ length p.wave.cells = p.sized.shortest in omega arith))
    (pins_fit c.args.pins.now (λ p. p.wave) (period_of (map (λ p. p.wave) c.args.pins.now)) c.requires.periods (λ p. p.normal)))
