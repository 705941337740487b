use Rattle.std.proofs.Common.{ℕ, ◌≡◌, List, ◌++◌, take, append-nil, ap, sym, subst, ◌∙◌}
use Rattle.std.specs.Prelude.{OnOk}
use Rattle.std.specs.List.{flat_map}
use Rattle.listing.proofs.Parts.{ok_second}
use Rattle.trace_tool.specs.Name.{parts_of}
use Rattle.trace_tool.specs.Scope.{open_line}
use Rattle.trace_tool.proofs.Scopes.{lines_at, no_lines, rest_of}
use Rattle.trace_tool.proofs.scope.+add_opens.Goals as goal

pub returns-in-None : goal.returns-in-None
returns-in-None t c =
    sym (ap (λ (l : List ℕ). c.args.out.now ++ l) (no_lines open_line c.args.name.now (sym c.in-None.ensures)) ∙ append-nil c.args.out.now)

pub returns-in_ok-add_open-in-Some : goal.returns-in_ok-add_open-in-Some
returns-in_ok-add_open-in-Some t c =
    let name = c.args.name.now in
    let at = c.in-Some.at in
    subst (λ (text : List ℕ). OnOk c.add_opens.result (c.add_opens.new.out ≡ c.args.out.now ++ text))
    (sym (lines_at open_line name at (sym c.in-Some.ensures)))
    (ok_second c.add_opens.result c.args.out.now c.add_open.new.out c.add_opens.new.out (open_line (take at name))
    (flat_map open_line (parts_of (rest_of name at)).scopes)
    c.in_ok-add_open-in-Some.ensures c.add_opens.ensures)
