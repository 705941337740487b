use Rattle.std.proofs.Common.{◌≡◌, [], ◌∷◌, map, get_or, rules, ◌∙◌, arith}
use Rattle.std.specs.List.{zip}
use Rattle.std.proofs.lemmas.Result.{IfOk-weaker}
use Rattle.wave_core.specs.Slots.{slots}
use Rattle.step_values.specs.declared.value.Value.{Value}
use Rattle.step_values.specs.Cell.{values}
use Rattle.skew_algebra.specs.Wave.{cell_at}
use Rattle.gate_eval.proofs.Few.{alone_imaged, both_imaged}
use Rattle.gate_eval.proofs.meeting.imaged.Goals as goal

pub returns-in-len1 : goal.returns-in-len1
returns-in-len1 g c =
    let least = c.in-len1.len_at_least in
    let most = c.in-len1.len_below in
    let is : c.only-item.result ≡ get_or c.args.waves.now 0 c.only-item.result = search rules in
    IfOk-weaker c.imaged_alone.result
    (λ w. g.W.CyclicWave.cells w ≡ map (λ (v : Value). g.I.Image.value_of c.args.image.now (v ∷ [])) (g.W.CyclicWave.cells c.only-item.result))
    (λ w. g.W.CyclicWave.cells w ≡ slots c.args.period (λ p. g.I.Image.value_of c.args.image.now (map (λ u. cell_at values (g.W.CyclicWave.cells u) p) c.args.waves.now)))
    (λ w e. e ∙ alone_imaged (g.I.Image.value_of c.args.image.now) g.W.CyclicWave.cells c.args.waves.now c.only-item.result c.args.period
    (omega (arith, least, most)) is c.requires.waves)
    c.imaged_alone.ensures

pub returns-in-len2 : goal.returns-in-len2
returns-in-len2 g c =
    let least = c.in-len2.len_at_least in
    let most = c.in-len2.len_below in
    let is : c.one-item.result ≡ get_or c.args.waves.now 0 c.one-item.result = search rules in
    let is' : c.other-item.result ≡ get_or c.args.waves.now 1 c.other-item.result = search rules in
    IfOk-weaker c.imaged_both.result
    (λ w. g.W.CyclicWave.cells w ≡ map (λ (q : Value × Value). g.I.Image.value_of c.args.image.now (q.0 ∷ q.1 ∷ []))
    (zip (g.W.CyclicWave.cells c.one-item.result) (g.W.CyclicWave.cells c.other-item.result)))
    (λ w. g.W.CyclicWave.cells w ≡ slots c.args.period (λ p. g.I.Image.value_of c.args.image.now (map (λ u. cell_at values (g.W.CyclicWave.cells u) p) c.args.waves.now)))
    (λ w e. e ∙ both_imaged (g.I.Image.value_of c.args.image.now) g.W.CyclicWave.cells c.args.waves.now c.one-item.result c.other-item.result c.args.period
    (omega (arith, least, most)) is is' c.requires.waves)
    c.imaged_both.ensures
