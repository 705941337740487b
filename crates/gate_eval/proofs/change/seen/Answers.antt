use Rattle.std.proofs.Common.{◌≡◌, ◌+◌, ℕ, length, map, take, get_or, arith, sym, ap, ◌∙◌, subst}
use Rattle.std.proofs.lemmas.Result.{IfOk-weaker}
use Rattle.std.proofs.lemmas.List.{take_more, take_all}
use Rattle.wave_core.specs.Slots.{slots}
use Rattle.skew_algebra.specs.Wave.{skewed}
use Rattle.gate_eval.specs.Meeting.{period_of}
use Rattle.gate_eval.specs.Window.{seen_at, found_at}
use Rattle.gate_eval.proofs.Gathered.{period_any, slots_same}
use Rattle.gate_eval.proofs.Seen.{seen_next}
use Rattle.gate_eval.proofs.Gathering.{StandsFor, stands_first, stands_next}
use Rattle.gate_eval.proofs.change.seen.Goals as goal

pub loop-place-init : goal.loop-place-init
loop-place-init g c =
    subst (λ ps. StandsFor (map (λ p. p.wave) ps) c.args.d
    (period_of (map (λ p. p.wave) c.args.pins.now))
    (g.W.CyclicWave.cells c.in_ok-gathered.gathered.seen) (skewed (g.W.CyclicWave.cells c.in_ok-gathered.gathered.last) c.in_ok-gathered.gathered.skew))
    (sym (take_more c.args.pins.now 0 c.index-pins-0.result c.requires.some))
    (stands_first (get_or c.args.pins.now 0 c.index-pins-0.result).wave
    (skewed (g.W.CyclicWave.cells c.in_ok-gathered.gathered.last) c.in_ok-gathered.gathered.skew) c.args.d
    (period_of (map (λ p. p.wave) c.args.pins.now))
    (g.W.CyclicWave.cells c.in_ok-gathered.gathered.seen)
    (period_any c.args.pins.now 0 c.index-pins-0.result (λ p. p.wave) c.requires.some c.requires.periods)
    c.in_ok-gathered.ensures.short c.in_ok-gathered.ensures.seen c.in_ok-gathered.ensures.last)

pub counted-requires-clause-one : goal.counted-requires-clause-one
counted-requires-clause-one g c = c.loop-place.invariant.seen_long ∙ sym c.loop-place.invariant.last_long

pub counted-requires-clause-pin : goal.counted-requires-clause-pin
counted-requires-clause-pin g c =
    c.loop-place.invariant.last_long
    ∙ sym (period_any c.args.pins.now c.loop-place.place c.index-pins-place.result (λ p. p.wave)
    (omega arith) c.requires.periods)

pub loop-place-preserved : goal.loop-place-preserved
loop-place-preserved g c =
    stands_next (map (λ p. p.wave) (take c.loop-place.place c.args.pins.now))
    (map (λ p. p.wave) (take (c.loop-place.place + 1) c.args.pins.now))
    (get_or c.args.pins.now c.loop-place.place c.index-pins-place.result).wave c.args.d
    (period_of (map (λ p. p.wave) c.args.pins.now))
    (g.W.CyclicWave.cells c.loop-place.gathered.seen) (g.W.CyclicWave.cells c.in_ok-gathered-2.gathered.seen)
    (skewed (g.W.CyclicWave.cells c.loop-place.gathered.last) c.loop-place.gathered.skew)
    (skewed (g.W.CyclicWave.cells c.in_ok-gathered-2.gathered.last) c.in_ok-gathered-2.gathered.skew)
    (λ p. seen_next c.args.pins.now c.loop-place.place (get_or c.args.pins.now c.loop-place.place c.index-pins-place.result) (λ p. p.wave) c.args.d p
    (omega arith) (ap (get_or c.args.pins.now c.loop-place.place) c.index-pins-place.is))
    c.loop-place.invariant c.in_ok-gathered-2.ensures

pub all-requires-clause-one : goal.all-requires-clause-one
all-requires-clause-one g c = c.loop-place.invariant.seen_long ∙ sym c.loop-place.invariant.last_long

pub returns : goal.returns
returns g c =
    let n = period_of (map (λ p. p.wave) c.args.pins.now) in
    let seen = g.W.CyclicWave.cells c.loop-place.gathered.seen in
    let last = skewed (g.W.CyclicWave.cells c.loop-place.gathered.last) c.loop-place.gathered.skew in
    let every : take c.loop-place.place c.args.pins.now ≡ c.args.pins.now = take_all c.loop-place.place c.args.pins.now (omega arith) in
    IfOk-weaker c.all.result
    (λ w. g.W.CyclicWave.cells w ≡ slots (length seen) (found_at seen last c.args.d))
    (λ w. g.W.CyclicWave.cells w ≡ slots n (seen_at (map (λ p. p.wave) c.args.pins.now) c.args.d))
    (λ w e. e ∙ ap (λ (m : ℕ). slots m (found_at seen last c.args.d)) c.loop-place.invariant.seen_long
    ∙ slots_same n (found_at seen last c.args.d) (seen_at (map (λ p. p.wave) c.args.pins.now) c.args.d)
    (λ p below. c.loop-place.invariant.found p below
    ∙ ap (λ ps. seen_at (map (λ p. p.wave) ps) c.args.d p) every))
    c.all.ensures
