use Rattle.std.proofs.Common.{ℕ, List, [], ◌++◌, length, ap, ◌∙◌}
use Rattle.std.specs.Prelude.{codes}
use Rattle.listing.proofs.Parts.{ok_second}
use Rattle.trace_tool.specs.Scope.{moves, scopes_before}
use Rattle.trace_tool.specs.Dump.{tail_text}
use Rattle.trace_tool.proofs.Searching.{last_moves}
use Rattle.trace_tool.proofs.dump.add_tail.Goals as goal

pub returns : goal.returns
unfolding tail_text
returns c =
    let all = c.args.c.now in
    ok_second c.extend.result c.args.out.now c.add_moves.new.out c.extend.new.self
    (moves (scopes_before all (length all.nets)) []) (codes "$upscope $end\n$enddefinitions $end\n")
    (c.in_ok-add_moves.ensures ∙ ap (λ (l : List ℕ). c.args.out.now ++ l) (last_moves c.args.c.now c.net_count.result c.known.ensures c.net_count.ensures))
    c.extend.ensures.ok
