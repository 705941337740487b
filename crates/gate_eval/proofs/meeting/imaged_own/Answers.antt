use Rattle.std.proofs.Common.{◌≡◌, [], ◌∷◌, map, get_or, refl, rules, sym, ◌∙◌, arith}
use Rattle.std.specs.List.{zip}
use Rattle.std.proofs.lemmas.Result.{IfOk-weaker}
use Rattle.step_values.specs.declared.value.Value.{Value}
use Rattle.step_values.specs.Cell.{values}
use Rattle.gate_eval.proofs.Few.{alone_imaged, both_imaged}
use Rattle.gate_eval.proofs.Gathered.{own_long, own_image}
use Rattle.gate_eval.proofs.meeting.imaged_own.Goals as goal

pub imaged_slots-requires-clause-waves : goal.imaged_slots-requires-clause-waves
imaged_slots-requires-clause-waves g c =
    own_long values c.deref.result.now c.args.pins.now g.W.CyclicWave.cells (λ p. p.wave) c.args.period (search rules) (sym c.requires.period) c.requires.periods

pub returns-in-len1 : goal.returns-in-len1
returns-in-len1 g c =
    let least = c.in-len1.len_at_least in
    let most = c.in-len1.len_below in
    let pins = c.args.pins.now in
    let only = c.only-item.result in
    let is : only ≡ get_or pins 0 only = search rules in
    let f = g.I.Image.value_of c.args.image.now in
    IfOk-weaker c.imaged_alone.result _ _
    (λ w e. e ∙ (λ i. map (λ (v : Value). f (v ∷ [])) (c.wave.ensures i))
    ∙ alone_imaged f (λ p. p.wave.cells) pins only c.args.period (omega (arith, least, most)) is
    (own_long values pins pins (λ p. p.wave.cells) (λ p. p.wave) c.args.period refl (sym c.requires.period) c.requires.periods)
    ∙ own_image values pins pins (λ p. p.wave.cells) (λ p. p.wave) f c.args.period refl (sym c.requires.period))
    c.imaged_alone.ensures

pub returns-in-len2 : goal.returns-in-len2
returns-in-len2 g c =
    let least = c.in-len2.len_at_least in
    let most = c.in-len2.len_below in
    let pins = c.args.pins.now in
    let one = c.one-item.result in
    let other = c.other-item.result in
    let is : one ≡ get_or pins 0 one = search rules in
    let is' : other ≡ get_or pins 1 other = search rules in
    let f = g.I.Image.value_of c.args.image.now in
    IfOk-weaker c.imaged_both.result _ _
    (λ w e. e ∙ (λ i. map (λ (q : Value × Value). f (q.0 ∷ q.1 ∷ [])) (zip (c.wave-in-len2.ensures i) (c.wave-in-len2-2.ensures i)))
    ∙ both_imaged f (λ p. p.wave.cells) pins one other c.args.period (omega (arith, least, most)) is is'
    (own_long values pins pins (λ p. p.wave.cells) (λ p. p.wave) c.args.period refl (sym c.requires.period) c.requires.periods)
    ∙ own_image values pins pins (λ p. p.wave.cells) (λ p. p.wave) f c.args.period refl (sym c.requires.period))
    c.imaged_both.ensures

pub returns-in_ok-waves-in_default : goal.returns-in_ok-waves-in_default
returns-in_ok-waves-in_default g c =
    IfOk-weaker c.imaged_slots.result _ _
    (λ w e. e ∙ own_image values c.deref.result.now c.args.pins.now g.W.CyclicWave.cells (λ p. p.wave)
    (g.I.Image.value_of c.args.image.now) c.args.period (search rules) (sym c.requires.period))
    c.imaged_slots.ensures
