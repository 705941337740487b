use Rattle.std.proofs.Common.{◌≡◌, ◌+◌, ◌-◌, ◌*◌, drop, sym, subst, arith, ℤ, ◌+ℤ◌, to_z, w64}
use Rattle.std.proofs.lemmas.Int.{ints}
use Rattle.critical_paths.specs.declared.event.Stop.{Stop}
use Rattle.critical_paths.specs.declared.path.Passage.{Passage}
use Rattle.critical_paths.specs.Known.{IsNear, ticks_along}
use Rattle.critical_paths.proofs.Turning.{near_more, ticks_more}
use Rattle.critical_paths.proofs.path.ticks_from.Goals as goal
use Rattle.critical_paths.proofs.path.ticks_from.Goals.{in-Some, in_default}

pub loop-place-preserved : goal.loop-place-preserved
loop-place-preserved c =
    let chain = c.args.chain.now.entries in
    let first = c.args.first in
    let place = c.loop-place.place in
    let now = to_z w64 c.loop-place.ticks-bits in
    let sum : now +ℤ ticks_along (drop place chain) ≡ ticks_along (drop first chain) =
    c.loop-place.invariant.sum in
    let near : IsNear (131072 * (place - first)) now = c.loop-place.invariant.near in
    elim c.match-get_index.branch [
      | in-Some w ↦
          let more = w.ticks-ticks.result in
          let e : Stop × Passage = (_, w.in-Some.passage.now) in
          let next = ticks_more chain first place now more (ticks_along (drop first chain)) e
          (sym w.in-Some.ensures.entry) w.ticks-ticks.ensures.is sum in
          let close = near_more first place now more c.loop-place.auto.place
          w.ticks-ticks.ensures.near near in
          let low = close.low in
          let high = close.high in
          let long = c.requires.long in
          let is : now +ℤ more ≡ to_z w64 c.match-get_index.ticks-bits =
          omega (
            arith,
            ints,
            w.ticks-is,
            c.match-get_index.ticks-is,
            c.loop-place.ticks-is,
            low,
            high,
            long,
          ) in
          record {
            sum = subst (λ (z : ℤ). z +ℤ ticks_along (drop (place + 1) chain)
                ≡ ticks_along (drop first chain)) is next;
            near = subst (IsNear (131072 * (place + 1 - first))) is close;
          }
      | in_default w ↦ let f = w.in_default.ensures.found.1 (omega arith) in absurd (cc)
    ]
