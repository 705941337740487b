use Rattle.assertion_syntax.proofs.Names.{base_len_le}
use Rattle.std.proofs.Common.{arith}
use Rattle.assertion_syntax.proofs.reader.base.Goals as goal

pub split_at-requires : goal.split_at-requires
split_at-requires c = omega (arith, c.base_len.ensures, base_len_le c.args.rest.now)
