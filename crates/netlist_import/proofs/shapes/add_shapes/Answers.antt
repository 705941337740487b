use Rattle.std.proofs.Common.{map}
use Rattle.std.proofs.lemmas.Result.{on_ok_weaker}
use Rattle.netlist_import.specs.Kinds.{formals_of}
use Rattle.netlist_import.specs.Words.{kind_word_of}
use Rattle.netlist_import.proofs.Named.{as_many, shapes_both}
use Rattle.netlist_import.proofs.shapes.add_shapes.Goals as goal

pub returns : goal.returns
returns c =
    let modules = c.args.modules.now in
    let kinds = c.args.kinds.now in
    on_ok_weaker c.add_kinds.result
    (λ e. shapes_both c.new-names.result c.add_modules.new.names
    (map (λ m. kind_word_of m.name) modules) (map (λ k. kind_word_of k.kind) kinds)
    (map (λ m. formals_of m.ports) modules) (map (λ k. k.ports) kinds) c.args.shapes.now
    c.add_modules.new.shapes c.add_kinds.new.shapes
    (as_many (λ m. kind_word_of m.name) (λ m. formals_of m.ports) modules) c.new-names.ensures
    c.requires c.in_ok-add_modules.ensures.names c.in_ok-add_modules.ensures.shapes e)
    c.add_kinds.ensures
