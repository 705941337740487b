use Rattle.std.proofs.Common.{◌++◌, ◌∙◌, sym, ap, List}
use Rattle.flat_circuit.specs.declared.fault.Fault.{Fault}
use Rattle.listing.specs.Fault.{fault_lines}
use Rattle.listing.specs.Lines.{lines_text}
use Rattle.listing.proofs.Kept.{put_behind, with_faults, without_faults}
use Rattle.listing.proofs.lines.Lines.add_case.Goals as goal

pub refer-requires-clause-within : goal.refer-requires-clause-within
refer-requires-clause-within g c = c.in_ok-part.ensures.within

pub refer-requires-clause-last : goal.refer-requires-clause-last
refer-requires-clause-last g c = c.in_ok-part.ensures.are.last

pub returns-then-not-shows_faults-clause-text : goal.returns-then-not-shows_faults-clause-text
returns-then-not-shows_faults-clause-text g c =
    without_faults (lines_text c.args.self.now) _ (fault_lines c.args.c.now c.args.faults.now)
    (lines_text c.refer.new.self) c.args.mode
    (sym c.shows_faults.ensures ∙ c.if-not-shows_faults.true)
    (put_behind c.args.c.now c.args.self.now _ _ _ _ c.in_ok-part.ensures c.in_ok-refer.ensures.text)

pub returns-then-not-shows_faults-clause-are : goal.returns-then-not-shows_faults-clause-are
returns-then-not-shows_faults-clause-are g c =
    c.in_ok-refer.ensures.are c.args.c.now c.in_ok-part.ensures.are

pub add_faults-requires : goal.add_faults-requires
add_faults-requires g c = c.in_ok-refer.ensures.are c.args.c.now c.in_ok-part.ensures.are

pub returns-clause-text : goal.returns-clause-text
returns-clause-text g c =
    with_faults (lines_text c.args.self.now) _ (fault_lines c.args.c.now c.args.faults.now)
    (lines_text c.add_faults.new.self) (lines_text c.refer.new.self) c.args.mode
    (sym c.shows_faults.ensures ∙ c.if-not-shows_faults.false)
    (put_behind c.args.c.now c.args.self.now _ _ _ _ c.in_ok-part.ensures c.in_ok-refer.ensures.text)
    (c.in_ok-add_faults.ensures.text
    ∙ ap (λ (fs : List Fault). lines_text c.refer.new.self ++ fault_lines c.args.c.now fs)
    c.as_slice.ensures)
