use Rattle.scald_tool.proofs.Replies.{formatted_drawing, formatted_refusal}
use Rattle.scald_tool.proofs.format.format.Goals as goal

pub returns-in-Ok : goal.returns-in-Ok
returns-in-Ok c = formatted_drawing _ _ _ c.in-Ok.ensures.drawn c.formatted.ensures.outcome
    c.formatted.ensures.bytes

pub returns-in-Err-Refused : goal.returns-in-Err-Refused
returns-in-Err-Refused c =
    formatted_refusal _ c.in-Err-Refused.refusal _ (c.in-Err-Refused.ensures.refused c.in-Err-Refused.refusal c.in-Err-Refused.field-0-is) c.refused.ensures.outcome c.refused.ensures.bytes
