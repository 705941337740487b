use Rattle.std.proofs.Common.{ℕ, ◌≡◌, List, ◌++◌, subst}
use Rattle.std.specs.Prelude.{OnOk, codes}
use Rattle.trace_tool.specs.Tick.{count_text}
use Rattle.trace_tool.proofs.dump.add_timescale.Goals as goal

pub returns : goal.returns
returns c =
    subst (λ (unit : List ℕ). OnOk c.add_pieces.result (c.add_pieces.new.out
    ≡ c.args.out.now ++ (codes "$timescale " ++ (count_text c.args.tick.count ++ (codes " " ++ (unit ++ codes " $end\n")))))) c.text-2.ensures
    (subst (λ (count : List ℕ). OnOk c.add_pieces.result (c.add_pieces.new.out
    ≡ c.args.out.now ++ (codes "$timescale " ++ (count ++ (codes " " ++ (c.text-2.result.now ++ codes " $end\n")))))) c.text.ensures
    c.add_pieces.ensures.ok)
