use Rattle.std.proofs.Common.{◌≡◌, ℕ, List, [], ◌∷◌, ◌++◌, codes, decimal, subst}
use Rattle.std.specs.Prelude.{OnOk}
use Rattle.std.specs.List.{concat}
use Rattle.listing.specs.Fault.{unnamed_fault}
use Rattle.listing.proofs.Parts.{ok_second}
use Rattle.margin_report.proofs.Pieces.{five_texts}
use Rattle.margin_report.proofs.lines.add_margin.Goals as goal

pub returns-in_ok-add_pieces-in-Next : goal.returns-in_ok-add_pieces-in-Next
returns-in_ok-add_pieces-in-Next c =
    let d = c.args.c.now in
    let next = c.in-Next in
    let numbers : (decimal c.from-in-Next.result ∷ codes " NEXT CASE " ∷ decimal c.from-in-Next-2.result ∷ codes " " ∷ [])
    ≡ (decimal next.more ∷ codes " NEXT CASE " ∷ decimal next.case ∷ codes " " ∷ []) = cc in
    rw next.is
    (subst (λ (text : List ℕ). OnOk c.write_unnamed_fault.result (c.write_unnamed_fault.new.out ≡ c.args.out.now ++ text))
    (five_texts (decimal next.more) (codes " NEXT CASE ") (decimal next.case) (codes " ") (unnamed_fault d next.fault))
    (ok_second c.write_unnamed_fault.result c.args.out.now c.add_pieces-in-Next.new.out c.write_unnamed_fault.new.out
    (concat (decimal next.more ∷ codes " NEXT CASE " ∷ decimal next.case ∷ codes " " ∷ [])) (unnamed_fault d next.fault)
    (subst (λ (texts : List (List ℕ)). c.add_pieces-in-Next.new.out ≡ c.args.out.now ++ concat texts) numbers c.in_ok-add_pieces-in-Next.ensures.ok)
    c.write_unnamed_fault.ensures.ok))
