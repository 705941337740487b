use Rattle.std.proofs.Common.{ap, sym, ◌∙◌}
use Rattle.std.specs.Str.{bytes_eq}
use Rattle.std.specs.Option.{option_map}
use Rattle.drawing_tree.specs.Tree.{Macro, macro_of}
use Rattle.macro_expander.proofs.Lists.{find_map}
use Rattle.macro_expander.proofs.library.Library.find.Goals as goal

pub returns : goal.returns
returns c =
    ap (option_map macro_of) (rw c.as_slice.ensures at c.named.ensures)
    ∙ sym (find_map (λ (m : Macro). bytes_eq m.name c.args.name.now) macro_of c.args.self.now.macros.now)
