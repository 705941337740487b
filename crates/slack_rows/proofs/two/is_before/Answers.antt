use Rattle.std.proofs.Common.{◌≡◌, ◌∙◌, ℤ, ◌+ℤ◌, ◌-ℤ◌, int_lt, ap, arith, to_z, of_z, w64}
use Rattle.std.proofs.lemmas.Int.{ints, to_z-of_z}
use Rattle.slack_rows.proofs.two.is_before.Goals as goal

pub returns : goal.returns
returns c =
    let ideal = c.requires.ideal in
    let found = c.requires.found in
    let near = c.requires.tick in
    let first : ℤ = c.args.found.ideal in
    let from : ℤ = c.args.found.tick in
    let tick : ℤ = c.args.tick in
    let edge : to_z w64 (of_z w64 c.args.edge) ≡ c.args.edge =
    to_z-of_z w64 c.args.edge c.ranges.edge in
    let moved : to_z w64 (of_z w64 (to_z w64 (of_z w64 tick) -ℤ to_z w64 (of_z w64 from)))
    ≡ tick -ℤ from = omega (arith, ints, found, near) in
    let launched : to_z w64 (of_z w64 (to_z w64 (of_z w64 first) +ℤ (tick -ℤ from)))
    ≡ first +ℤ (tick -ℤ from) = omega (arith, ints, ideal, found, near) in
    (λ i. int_lt (to_z w64 (of_z w64 (to_z w64 (of_z w64 first) +ℤ moved i))) (edge i))
    ∙ ap (λ (t : ℤ). int_lt t c.args.edge) launched
