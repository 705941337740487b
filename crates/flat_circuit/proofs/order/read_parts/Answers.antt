use Rattle.std.proofs.Common.{◌∙◌, ap, length, refl, arith}
use Rattle.std.proofs.lemmas.List.{length-map}
use Rattle.flat_circuit.specs.Stretch.{numbers_of}
use Rattle.flat_circuit.proofs.Stretches.{read_part}
use Rattle.flat_circuit.proofs.order.read_parts.Goals as goal
use Rattle.flat_circuit.proofs.order.read_parts.Goals.{in-Some, in_default}

pub loop-place-preserved : goal.loop-place-preserved
loop-place-preserved c =
    let long = ap length c.loop-place.invariant in
    let n = length-map c.loop-place.stretches numbers_of in
    let m = length-map c.args.stretches.now numbers_of in
    elim c.match-get.branch [
      | in-Some w ↦ rw w.stretches-is (read_part c.loop-place.stretches c.loop-place.place _ _ (omega (arith, c.loop-place-test.true)) refl ∙ c.loop-place.invariant)
      | in_default w ↦ rw w.stretches-is c.loop-place.invariant
    ]
