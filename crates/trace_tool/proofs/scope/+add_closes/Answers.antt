use Rattle.std.proofs.Common.{ℕ, ◌≡◌, List, ◌++◌, take, append-nil, ap, sym, subst, ◌∙◌}
use Rattle.std.specs.Prelude.{OnOk}
use Rattle.std.specs.List.{flat_map}
use Rattle.listing.proofs.Parts.{ok_second}
use Rattle.trace_tool.specs.Name.{parts_of}
use Rattle.trace_tool.specs.Scope.{close_line}
use Rattle.trace_tool.proofs.Scopes.{lines_at, no_lines, rest_of}
use Rattle.trace_tool.proofs.scope.+add_closes.Goals as goal

pub returns-in-None : goal.returns-in-None
returns-in-None t c =
    sym (ap (λ (l : List ℕ). c.args.out.now ++ l) (no_lines close_line c.args.name.now (sym c.in-None.ensures)) ∙ append-nil c.args.out.now)

pub returns-in_ok-extend-in-Some : goal.returns-in_ok-extend-in-Some
returns-in_ok-extend-in-Some t c =
    let name = c.args.name.now in
    let at = c.in-Some.at in
    subst (λ (text : List ℕ). OnOk c.add_closes.result (c.add_closes.new.out ≡ c.args.out.now ++ text))
    (sym (lines_at close_line name at (sym c.in-Some.ensures)))
    (ok_second c.add_closes.result c.args.out.now c.extend.new.self c.add_closes.new.out (close_line (take at name))
    (flat_map close_line (parts_of (rest_of name at)).scopes) c.in_ok-extend-in-Some.ensures.ok c.add_closes.ensures)
