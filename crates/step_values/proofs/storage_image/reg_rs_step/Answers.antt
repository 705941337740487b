use Rattle.std.proofs.Common.{true, false}
use Rattle.step_values.proofs.storage_image.reg_rs_step.Goals as goal

pub returns : goal.returns
returns c before after =
    rw (
      c.only_if.ensures before after,
      c.followed_by.ensures before after,
      c.reg_rs_steps.ensures before after,
      c.earlier_reg_rs_steps-earlier.ensures false before,
      c.earlier_reg_rs_steps-earlier.ensures true before,
    )
