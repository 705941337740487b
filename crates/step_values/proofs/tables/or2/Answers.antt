use Rattle.std.proofs.Common.{List, [], ◌∷◌, refl}
use Rattle.step_values.specs.declared.value.Value.{Value}
use Rattle.step_values.specs.declared.value.Value.TheVariants.{Zero, One, S, C, R, F, U}
use Rattle.step_values.specs.Image.{or_of, or_image, image1, image2}
use Rattle.step_values.proofs.Written.{by_rows}
use Rattle.step_values.proofs.tables.or2.Goals as goal

abbrev written : List Value
written =
    Zero ∷ One ∷ S ∷ C ∷ R ∷ F ∷ U ∷
    One ∷ One ∷ One ∷ One ∷ One ∷ One ∷ One ∷
    S ∷ One ∷ S ∷ C ∷ R ∷ F ∷ U ∷
    C ∷ One ∷ C ∷ C ∷ C ∷ C ∷ U ∷
    R ∷ One ∷ R ∷ C ∷ R ∷ C ∷ U ∷
    F ∷ One ∷ F ∷ C ∷ C ∷ F ∷ U ∷
    U ∷ One ∷ U ∷ U ∷ U ∷ U ∷ U ∷ []

pub returns : goal.returns
unfolding or_of or_image image2 image1
returns c = by_rows or_of written (refl, refl, refl, refl, refl, refl, refl) (refl, refl, refl, refl, refl, refl, refl) (refl, refl, refl, refl, refl, refl, refl) (refl, refl, refl, refl, refl, refl, refl)
    (refl, refl, refl, refl, refl, refl, refl) (refl, refl, refl, refl, refl, refl, refl) (refl, refl, refl, refl, refl, refl, refl)
