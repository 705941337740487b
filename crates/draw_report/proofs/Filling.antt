-- What holds of each item of a list holds with one item more, and with one in another's place.
use Rattle.std.specs.List.{All}
use Rattle.std.specs.Prelude.{OnOk, Result, slice_set}
use Rattle.std.proofs.Common.{◌≡◌, ◌∙◌, ℕ, ◌+◌, List, [], ◌∷◌, ◌++◌, length, length-append, ap, subst, sym}
use Rattle.std.proofs.lemmas.List.Elements.{All-push, All-set}
use Rattle.std.proofs.lemmas.Result.{on_ok_weaker}

module _ {X : Type 0} (P : X → Type 0) (old new : List X) (x : X) where
  pub all_more : All P old → P x → new ≡ old ++ x ∷ [] → All P new
  all_more each one is = subst (All P) (sym is) (All-push P old x each one)

  pub all_pushed : {T E : Type 0} (r : Result T E) → All P old → P x →
      OnOk r (new ≡ old ++ x ∷ []) → OnOk r (All P new)
  all_pushed r each one = on_ok_weaker r (all_more each one)

  pub all_with : (place : ℕ) → All P old → P x → new ≡ slice_set old place x → All P new
  all_with place each one is = subst (All P) (sym is) (All-set P old place x one each)

pub length_more : {X : Type 0} (old new : List X) (x : X) → new ≡ old ++ x ∷ [] →
    length new ≡ length old + 1
length_more old new x is = ap length is ∙ length-append old (x ∷ [])
