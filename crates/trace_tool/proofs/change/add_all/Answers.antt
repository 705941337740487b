use Rattle.std.proofs.Common.{◌++◌, List, ℕ, ap, sym, ◌∙◌, arith}
use Rattle.std.specs.List.{flat_map}
use Rattle.std.proofs.lemmas.List.{take_all}
use Rattle.trace_tool.specs.declared.stretch.Stretch.{Stretch}
use Rattle.trace_tool.specs.Change.{value_of}
use Rattle.trace_tool.proofs.Texts.{all_text, texts_map}
use Rattle.trace_tool.proofs.change.add_all.Goals as goal

pub returns : goal.returns
returns c =
    c.loop-s.invariant
    ∙ ap (λ (l : List Stretch). c.args.out.now ++ flat_map (all_text c.args.c.now c.args.rows.now c.args.tick) l)
    (take_all c.loop-s.s-index c.args.all.now (omega (arith, c.loop-s-test.false)))
    ∙ ap (λ (l : List ℕ). c.args.out.now ++ l) (sym (texts_map (value_of c.args.c.now c.args.rows.now c.args.tick) c.args.all.now))
