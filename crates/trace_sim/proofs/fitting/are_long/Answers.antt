use Rattle.std.proofs.Common.{arith, ◌≡◌, ◌∙◌, Bool, List, length, take, sym, ap}
use Rattle.std.proofs.lemmas.List.{take_all}
use Rattle.std.proofs.lemmas.List.Elements.{All-more, All-same}
use Rattle.trace_sim.proofs.fitting.are_long.Goals as goal

pub loop-row-preserved : goal.loop-row-preserved
loop-row-preserved c =
    All-more (λ (row : List Bool). length row ≡ c.args.ticks) c.args.rows.now c.loop-row.row-index
    c.row-item.result (omega arith) c.loop-row.invariant
    (sym (ap length c.row-item.is) ∙ sym c.len.ensures ∙ c.if-len-ticks.false)

pub returns : goal.returns
returns c =
    let all : take c.loop-row.row-index c.args.rows.now ≡ c.args.rows.now = take_all c.loop-row.row-index c.args.rows.now (omega arith) in
    All-same (λ (row : List Bool). length row ≡ c.args.ticks) c.args.rows.now (take c.loop-row.row-index c.args.rows.now)
    (sym all) c.loop-row.invariant
