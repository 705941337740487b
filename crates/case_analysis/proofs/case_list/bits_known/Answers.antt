use Rattle.std.proofs.Common.{◌≡◌, take, arith, subst}
use Rattle.std.proofs.lemmas.List.{take_all}
use Rattle.case_analysis.proofs.Entries.{AreNarrow, narrow_more}
use Rattle.case_analysis.proofs.case_list.bits_known.Goals as goal

pub loop-i-preserved : goal.loop-i-preserved
loop-i-preserved c =
    narrow_more c.args.c.now.nets c.loop-i.i c.net_of.result.now c.net_of.ensures c.bit_known.ensures c.loop-i.invariant

pub returns : goal.returns
returns c =
    let whole : take c.loop-i.i c.args.c.now.nets ≡ c.args.c.now.nets =
    take_all c.loop-i.i c.args.c.now.nets (let past = c.loop-i-test.false in let n = c.net_count-i-end.ensures in omega (arith, past, n)) in
    subst AreNarrow whole c.loop-i.invariant
