use Rattle.scald_tool.proofs.Replies.{upgraded_drawing, upgraded_refusal}
use Rattle.scald_tool.proofs.upgrade.upgrade_text.Goals as goal

pub returns-in-Ok : goal.returns-in-Ok
returns-in-Ok c = upgraded_drawing _ _ _ c.in-Ok.ensures.drawn c.upgraded.ensures.outcome
    c.upgraded.ensures.bytes

pub returns-in-Err-Refused : goal.returns-in-Err-Refused
returns-in-Err-Refused c =
    upgraded_refusal _ c.in-Err-Refused.refusal _ (c.in-Err-Refused.ensures.refused c.in-Err-Refused.refusal c.in-Err-Refused.field-0-is) c.refused.ensures.outcome c.refused.ensures.bytes
