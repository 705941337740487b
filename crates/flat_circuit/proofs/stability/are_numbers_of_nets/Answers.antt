use Rattle.std.proofs.Common.{arith, ◌≡◌, ℕ, Some, slice_get, take, sym}
use Rattle.std.proofs.lemmas.List.{take_all}
use Rattle.std.proofs.lemmas.List.Elements.{All-more, All-same}
use Rattle.flat_circuit.proofs.stability.are_numbers_of_nets.Goals as goal

pub loop-number-preserved : goal.loop-number-preserved
loop-number-preserved c =
    All-more (λ (number : ℕ). slice_get c.args.classes.now number ≡ Some number) c.args.classes.now c.loop-number.number-index _ (omega arith)
    c.loop-number.invariant c.if-not-is_number_of_net.ensures

pub returns : goal.returns
returns c =
    let all : take c.loop-number.number-index c.args.classes.now ≡ c.args.classes.now = take_all c.loop-number.number-index c.args.classes.now (omega arith) in
    All-same (λ (number : ℕ). slice_get c.args.classes.now number ≡ Some number) c.args.classes.now (take c.loop-number.number-index c.args.classes.now)
    (sym all) c.loop-number.invariant
