use Rattle.std.proofs.Common.{◌≡◌, ◌<◌, List, length, map, sym, ap, ◌∙◌, subst, arith}
use Rattle.std.proofs.lemmas.List.{length-map}
use Rattle.std.proofs.lemmas.Result.{IfOk-weaker}
use Rattle.step_values.specs.declared.value.Value.{Value}
use Rattle.step_values.specs.Cell.{values}
use Rattle.skew_algebra.specs.Wave.{Wave, moved}
use Rattle.gate_eval.specs.Meeting.{meeting, period_of, HaveOnePeriod}
use Rattle.gate_eval.proofs.Gathered.{some_period}
use Rattle.gate_eval.proofs.Chosen.{pins_fit}
use Rattle.storage_eval.specs.Storage.{listening, storage_value}
use Rattle.gate_eval.specs.Instance.{IsSound}
use Rattle.storage_eval.specs.Instance.{storage_wave}
use Rattle.storage_eval.proofs.Heard.{some_listening, some_pins, one_period_listening}
use Rattle.storage_eval.proofs.Sounds.{storage_sound}
use Rattle.storage_eval.proofs.storage.element_wave.Goals as goal

pub met-requires-clause-some : goal.met-requires-clause-some
met-requires-clause-some g c =
    let heard : map (λ p. p.wave) c.deref.result.now ≡ listening c.args.kind (map (λ p. p.wave) c.args.pins.now) =
    ap (λ ps. map (λ p. p.wave) ps) c.deref.ensures.value ∙ c.in_ok-heard.ensures in
    let some : 0 < length (listening c.args.kind (map (λ p. p.wave) c.args.pins.now)) =
    some_listening c.args.kind (map (λ p. p.wave) c.args.pins.now) c.requires.stores (length-map c.args.pins.now (λ p. p.wave) ∙ c.requires.pins) in
    let long : length (map (λ p. p.wave) c.deref.result.now) ≡ length c.deref.result.now = length-map c.deref.result.now (λ p. p.wave) in
    let same : length (map (λ p. p.wave) c.deref.result.now) ≡ length (listening c.args.kind (map (λ p. p.wave) c.args.pins.now)) = ap length heard in
    omega (arith, some, long, same)

pub met-requires-clause-periods : goal.met-requires-clause-periods
met-requires-clause-periods g c =
    let heard : map (λ p. p.wave) c.deref.result.now ≡ listening c.args.kind (map (λ p. p.wave) c.args.pins.now) =
    ap (λ ps. map (λ p. p.wave) ps) c.deref.ensures.value ∙ c.in_ok-heard.ensures in
    subst (λ (ws : List (Wave Value)). HaveOnePeriod ws) (sym heard)
    (one_period_listening c.args.kind (map (λ p. p.wave) c.args.pins.now) c.requires.periods)

pub returns-clause-wave : goal.returns-clause-wave
unfolding storage_wave
returns-clause-wave g c =
    let heard : map (λ p. p.wave) c.deref.result.now ≡ listening c.args.kind (map (λ p. p.wave) c.args.pins.now) =
    ap (λ ps. map (λ p. p.wave) ps) c.deref.ensures.value ∙ c.in_ok-heard.ensures in
    IfOk-weaker c.met.result
    (λ s. s
    ≡ moved values (meeting values (g.I.Image.value_of c.args.image.now) (map (λ p. p.wave) c.deref.result.now)) c.args.d)
    (λ s. s
    ≡ moved values (meeting values (storage_value c.args.kind) (listening c.args.kind (map (λ p. p.wave) c.args.pins.now))) c.args.d)
    (λ s e. e ∙ (λ i. moved values (meeting values (λ found. c.requires.value found i) (heard i)) c.args.d))
    c.met.ensures

pub returns-clause-sound : goal.returns-clause-sound
unfolding storage_wave
returns-clause-sound g c =
    let heard : map (λ p. p.wave) c.deref.result.now ≡ listening c.args.kind (map (λ p. p.wave) c.args.pins.now) =
    ap (λ ps. map (λ p. p.wave) ps) c.deref.ensures.value ∙ c.in_ok-heard.ensures in
    let some : 0 < length c.args.pins.now = some_pins c.args.kind (length c.args.pins.now) c.requires.stores c.requires.pins in
    IfOk-weaker c.met.result
    (λ s. s
    ≡ moved values (meeting values (g.I.Image.value_of c.args.image.now) (map (λ p. p.wave) c.deref.result.now)) c.args.d)
    (λ s. IsSound c.args.kind c.args.d (map (λ p. p.wave) c.args.pins.now) s)
    (λ s e. subst (λ (w : Wave Value). IsSound c.args.kind c.args.d (map (λ p. p.wave) c.args.pins.now) w)
    (sym (e ∙ (λ i. moved values (meeting values (λ found. c.requires.value found i) (heard i)) c.args.d)))
    (storage_sound c.args.kind c.args.d (map (λ p. p.wave) c.args.pins.now) c.requires.stores (length-map c.args.pins.now (λ p. p.wave) ∙ c.requires.pins)
    (some_period c.args.pins.now (λ p. p.wave) some (λ p. let sized = p.sized in omega (arith, sized.shortest)))
    (pins_fit c.args.pins.now (λ p. p.wave) (period_of (map (λ p. p.wave) c.args.pins.now)) c.requires.periods (λ p. p.normal))))
    c.met.ensures
