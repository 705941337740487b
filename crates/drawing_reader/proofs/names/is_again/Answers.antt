use Rattle.std.proofs.Common.{sym, ap, ◌∙◌, option_copied}
use Rattle.drawing_reader.proofs.Sifting.{again}
use Rattle.drawing_reader.proofs.names.is_again.Goals as goal

pub returns-in-Some : goal.returns-in-Some
returns-in-Some c = λ h.
    again c.args.doubtful.now c.in-Some.last.now c.args.text.now c.args.of_formal
    (sym c.last.ensures.value ∙ ap option_copied c.in-Some.is) (c.is_same_outside.ensures h)
