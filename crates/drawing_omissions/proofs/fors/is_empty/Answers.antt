use Rattle.std.proofs.Common.{◌≡◌, ◌&&◌, Bool, not, sym, ap, ◌∙◌}
use Rattle.std.specs.List.{list_any}
use Rattle.drawing_omissions.specs.declared.fors.Spot.{Spot}
use Rattle.drawing_omissions.specs.Fors.{is_among, same_spot}
use Rattle.drawing_omissions.proofs.Spotting.{empty_by}
use Rattle.drawing_omissions.proofs.fors.is_empty.Goals as goal

pub returns-then-is_reached : goal.returns-then-is_reached
returns-then-is_reached c = λ found r t.
    let place = c.args.place in
    let reached = c.args.reached.now.keys in
    let turned = c.args.turned.now.keys in
    let over = c.contains-is_turned.result in
    let one : c.contains-is_reached.result ≡ is_among reached place =
    c.contains-is_reached.ensures ∙ ap (λ (s : Spot). list_any (same_spot s) reached) c.key_of-key.ensures in
    let two : over ≡ is_among turned place = c.contains-is_turned.ensures ∙ ap (λ (s : Spot). list_any (same_spot s) turned) c.key_of-key.ensures in
    ap (λ (b : Bool). b && not over) (sym c.if-is_reached.true ∙ one) ∙ ap (λ (b : Bool). is_among reached place && not b) two
    ∙ empty_by found reached turned place r t

pub returns-else-is_reached : goal.returns-else-is_reached
returns-else-is_reached c = λ found r t.
    let place = c.args.place in
    let reached = c.args.reached.now.keys in
    let turned = c.args.turned.now.keys in
    let over = c.contains-is_turned.result in
    let one : c.contains-is_reached.result ≡ is_among reached place =
    c.contains-is_reached.ensures ∙ ap (λ (s : Spot). list_any (same_spot s) reached) c.key_of-key.ensures in
    let two : over ≡ is_among turned place = c.contains-is_turned.ensures ∙ ap (λ (s : Spot). list_any (same_spot s) turned) c.key_of-key.ensures in
    c.if-is_reached.false
    ∙ ap (λ (b : Bool). b && not over) (sym c.if-is_reached.false ∙ one) ∙ ap (λ (b : Bool). is_among reached place && not b) two
    ∙ empty_by found reached turned place r t
