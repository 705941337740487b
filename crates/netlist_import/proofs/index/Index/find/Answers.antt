use Rattle.std.proofs.Common.{◌≡◌, ◌∙◌, List, IfSome, ap, subst}
use Rattle.std.specs.List.{find}
use Rattle.std.specs.Str.{bytes_eq}
use Rattle.netlist_import.specs.Index.{LeadToFirst, item_at}
use Rattle.netlist_import.proofs.Found.{found_at}
use Rattle.netlist_import.proofs.index.Index.find.Goals as goal

pub returns-in-Some : goal.returns-in-Some
returns-in-Some g c =
    let items = c.self.inside.items.now in
    let name_of = g.T.Named.name in
    let known : LeadToFirst name_of items c.in-Some.places.entries =
    subst (λ o. IfSome o (λ places. LeadToFirst name_of items places.entries)) c.in-Some.is
    c.self.invariant in
    c.led.ensures ∙ ap (item_at items) (known c.args.name)
    ∙ found_at (λ x. bytes_eq (name_of x) c.args.name.now) items
    ∙ ap (find (λ x. bytes_eq (name_of x) c.args.name.now)) c.self.view_is
