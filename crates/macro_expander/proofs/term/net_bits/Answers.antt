use Rattle.std.proofs.Common.{◌+◌, ◌++◌, ◌∷◌, [], drop, get_or, sym, subst, List}
use Rattle.std.proofs.lemmas.List.{drop_more}
use Rattle.vector_names.specs.declared.bits.BitRef.{BitRef}
use Rattle.macro_expander.specs.Terms.{net_bit, net_bits}
use Rattle.macro_expander.specs.Numbered.{Gathered, state_of}
use Rattle.macro_expander.proofs.Gathered.{gathered_more}
use Rattle.macro_expander.proofs.term.net_bits.Goals as goal

pub loop-number-preserved : goal.loop-number-preserved
loop-number-preserved c =
    let step = net_bit (c.args.path.now ++ c.args.base.now) c.args.spec.now c.args.place in
    let want = net_bits (c.args.path.now ++ c.args.base.now) c.args.spec.now c.args.place c.args.numbers.now (state_of c.args.expansion.now) in
    let i = c.loop-number.number-index in
    let x = get_or c.args.numbers.now i 0 in
    subst (λ (bits : List BitRef). Gathered step c.args.expansion.now want (drop (i + 1) c.args.numbers.now) bits c.net.new.expansion) (sym c.in_ok-push.ensures.ok)
    (gathered_more step c.args.expansion.now want (drop i c.args.numbers.now) (drop (i + 1) c.args.numbers.now) x c.loop-number.bits
    c.loop-number.expansion (drop_more c.args.numbers.now i 0 c.loop-number-test.true) (c.in_ok-net.field-0 ∷ []) c.net.new.expansion
    c.in_ok-net.ensures c.loop-number.invariant)
