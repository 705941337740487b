use Rattle.std.proofs.Common.{◌≡◌, List, ℕ, ◌++◌, ◌∷◌, [], codes, decimal, subst}
use Rattle.std.specs.Prelude.{OnOk}
use Rattle.std.specs.List.{concat}
use Rattle.listing.specs.Fault.{fault_place, slot_text}
use Rattle.listing.specs.Piece.{piece_text}
use Rattle.listing.proofs.fault.add_place.Goals as goal

pub returns-in-Hazard-clause-ok : goal.returns-in-Hazard-clause-ok
unfolding fault_place
returns-in-Hazard-clause-ok c =
    let d = c.args.c.now in
    let f = c.in-Hazard in
    let e : (codes "SLOT " ∷ piece_text c.slot_piece-in-Hazard.result ∷ codes " PIN " ∷ decimal c.from-in-Hazard.result ∷ [])
    ≡ (codes "SLOT " ∷ slot_text d f.slot ∷ codes " PIN " ∷ decimal f.pin ∷ []) = cc in
    rw c.in-Hazard.is (subst (λ (texts : List (List ℕ)). OnOk c.add_pieces-in-Hazard.result (c.add_pieces-in-Hazard.new.out ≡ c.args.out.now ++ concat texts)) e c.add_pieces-in-Hazard.ensures.ok)

pub returns-in-Assertion-clause-ok : goal.returns-in-Assertion-clause-ok
unfolding fault_place
returns-in-Assertion-clause-ok c =
    let d = c.args.c.now in
    let f = c.in-Assertion in
    let e : (codes "SLOT " ∷ piece_text c.slot_piece-in-Assertion.result ∷ codes " VALUE " ∷ (f.value ∷ []) ∷ [])
    ≡ (codes "SLOT " ∷ slot_text d f.slot ∷ codes " VALUE " ∷ (f.value ∷ []) ∷ []) = cc in
    rw c.in-Assertion.is (subst (λ (texts : List (List ℕ)). OnOk c.add_pieces-in-Assertion.result (c.add_pieces-in-Assertion.new.out ≡ c.args.out.now ++ concat texts)) e c.add_pieces-in-Assertion.ensures.ok)
