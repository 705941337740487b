use Rattle.std.proofs.Common.{◌∙◌}
use Rattle.listing.proofs.Kept.{put_behind, text_ended}
use Rattle.listing.proofs.lines.Lines.end.Goals as goal

pub refer-requires-clause-within : goal.refer-requires-clause-within
refer-requires-clause-within c = c.in_ok-part.ensures.within

pub refer-requires-clause-last : goal.refer-requires-clause-last
refer-requires-clause-last c = c.in_ok-part.ensures.are.last

pub returns : goal.returns
returns c =
    c.of_parts.ensures ∙ (text_ended c.refer.new.self c.push.new.self c.in_ok-push.ensures.ok
    ∙ put_behind c.args.c.now c.args.self _ _ _ _ c.in_ok-part.ensures c.in_ok-refer.ensures.text)
