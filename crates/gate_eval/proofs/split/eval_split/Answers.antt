use Rattle.std.proofs.Common.{◌≡◌, ◌<◌, ◌≤◌, ℕ, List, length, map, arith, sym, ap, ◌∙◌, subst}
use Rattle.std.specs.List.{position}
use Rattle.std.proofs.lemmas.Result.{IfOk-weaker}
use Rattle.std.proofs.lemmas.List.{length-map}
use Rattle.skew_algebra.specs.Wave.{Wave}
use Rattle.gate_eval.specs.Meeting.{period_of}
use Rattle.gate_eval.specs.Instance.{MarkFits}
use Rattle.gate_eval.specs.Split.{split_wave, IsSplitSound}
use Rattle.gate_eval.proofs.Gathered.{some_period}
use Rattle.gate_eval.proofs.Chosen.{mark_fits, pins_fit, some_pins}
use Rattle.gate_eval.proofs.SplitSound.{split_sound}
use Rattle.gate_eval.proofs.split.eval_split.Goals as goal

pub evaluated-requires-clause-some : goal.evaluated-requires-clause-some
evaluated-requires-clause-some g c =
    let some : 0 < length c.args.pins.now = some_pins c.args.kind (length c.args.pins.now) c.requires.pins.least in
    let same : length c.as_slice.result.now ≡ length c.args.pins.now = ap length c.as_slice.ensures in
    omega (arith, some, same)

pub evaluated-requires-clause-mark : goal.evaluated-requires-clause-mark
evaluated-requires-clause-mark g c =
    subst (λ (ps : List _). MarkFits c.args.kind (position (λ p. p.hold) ps) (length ps)) (sym c.as_slice.ensures)
    (mark_fits c.args.kind (λ p. p.hold) c.args.pins.now c.requires.pins.marks)

pub returns-clause-sound : goal.returns-clause-sound
returns-clause-sound g c =
    IfOk-weaker c.evaluated.result
    (λ s. s ≡ split_wave c.args.kind (map (λ p. p.wave) c.as_slice.result.now) (position (λ p. p.hold) c.as_slice.result.now) c.args.s)
    (λ s. IsSplitSound c.args.kind c.args.s (map (λ p. p.wave) c.args.pins.now) s)
    (λ s e. subst (λ (w : Wave _). IsSplitSound c.args.kind c.args.s (map (λ p. p.wave) c.args.pins.now) w)
    (sym (e ∙ ap (λ (ps : List _). split_wave c.args.kind (map (λ p. p.wave) ps) (position (λ p. p.hold) ps) c.args.s) c.as_slice.ensures))
    (split_sound c.args.kind (map (λ p. p.wave) c.args.pins.now) (position (λ p. p.hold) c.args.pins.now) c.args.s
    (subst (λ (n : ℕ). MarkFits c.args.kind (position (λ p. p.hold) c.args.pins.now) n)
    (sym (length-map c.args.pins.now (λ p. p.wave))) (mark_fits c.args.kind (λ p. p.hold) c.args.pins.now c.requires.pins.marks))
    (some_period c.args.pins.now (λ p. p.wave) (some_pins c.args.kind (length c.args.pins.now) c.requires.pins.least)
    (λ p. let s : 2 ≤ length p.wave.cells = p.sized.shortest in omega arith))
    (pins_fit c.args.pins.now (λ p. p.wave) (period_of (map (λ p. p.wave) c.args.pins.now)) c.requires.periods (λ p. p.normal))))
    c.evaluated.ensures
