use Rattle.std.proofs.Common.{map, drop}
use Rattle.std.specs.List.{range_with_len}
use Rattle.drawing_tree.specs.Tree.{use_of}
use Rattle.macro_expander.specs.Primitives.{adding, instance_at}
use Rattle.macro_expander.specs.Numbered.{WentOn, joined_of, names_in, state_of}
use Rattle.macro_expander.specs.Wired.{all_wired}
use Rattle.macro_expander.proofs.instance_bits.add_bits.Given as goal

abbrev pub invariant-loop-k : goal.invariant-loop-k
invariant-loop-k l =
    let w = l.wiring in
    let ins = map (joined_of (names_in l.fn.expansion)) w.ins.now in
    let outs = map (joined_of (names_in l.fn.expansion)) w.outs.now in
    WentOn (λ k. adding (instance_at w.path.now (use_of w.statement.now) w.kind w.plan ins outs k)) l.fn.expansion
    (all_wired (names_in l.fn.expansion) w l.width (state_of l.fn.expansion)) (drop l.k (range_with_len 0 l.width)) l.expansion
