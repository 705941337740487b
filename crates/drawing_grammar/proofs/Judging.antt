-- What passed if a header is judged good.
use Rattle.std.proofs.Common.{◌≡◌, Bool, true, false, ℤ, Option, Some, None, refl}
use Rattle.std.specs.Prelude.{IfSome, Result, Ok}
use Rattle.scald_base.specs.declared.refusal.Place.{Place}
use Rattle.scald_base.specs.declared.refusal.Refusal.{Refusal}
use Rattle.drawing_grammar.specs.declared.header.NumberPair.{NumberPair}
use Rattle.drawing_grammar.specs.Header.{judged_statement, judged_pair}

pub passed : {A : Type 0} (b : Bool) (place : Place) (said : Result A Refusal) (x : A) → judged_statement b place said ≡ Ok x → (b ≡ true) × (said ≡ Ok x)
passed true place said x e = (refl, e)
passed false place said x e = absurd cc

pub passed_pair : {A : Type 0} (test : ℤ → ℤ → Bool) (o : Option NumberPair) (said : Result A Refusal) (x : A) →
    judged_pair test o said ≡ Ok x → IfSome o (λ p. test p.first p.second ≡ true) × (said ≡ Ok x)
passed_pair test None said x e = (tt, e)
passed_pair test (Some p) said x e = passed (test p.first p.second) p.place said x e
