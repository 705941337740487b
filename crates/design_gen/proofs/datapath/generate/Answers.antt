use Rattle.std.proofs.Common.{ℕ, ◌+◌, List, ◌++◌, map, append_assoc, ap, sym, ◌∙◌}
use Rattle.std.specs.List.{concat, range_with_len}
use Rattle.design_gen.specs.Datapath.{head, section}
use Rattle.design_gen.proofs.Sections.{section_more}
use Rattle.design_gen.proofs.datapath.generate.Goals as goal

pub loop-j-preserved : goal.loop-j-preserved
loop-j-preserved c =
    let before = concat (map section (range_with_len 1 c.loop-j.j)) in
    let added = section (c.loop-j.j + 1) in
    c.in_ok-add_section.ensures
    ∙ ap (λ (l : List ℕ). l ++ added) c.loop-j.invariant
    ∙ append_assoc head before added
    ∙ ap (λ (l : List ℕ). head ++ l) (sym (section_more c.loop-j.j))
