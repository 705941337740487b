use Rattle.std.proofs.Common.{◌∙◌, ap, arith, length}
use Rattle.design_gen.proofs.Sections.{datapath_short}
use Rattle.scald_tool.proofs.bench.bench.Goals as goal

pub reply_to-requires-clause-short : goal.reply_to-requires-clause-short
reply_to-requires-clause-short c =
    omega (arith, ap length c.as_slice.ensures, ap length c.in_ok-text.ensures, datapath_short c.args.sections (omega (arith, c.ranges.sections)))

pub returns : goal.returns
returns c = rw (c.as_slice.ensures ∙ c.in_ok-text.ensures) at c.reply_to.ensures.is
