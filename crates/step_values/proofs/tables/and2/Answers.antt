use Rattle.std.proofs.Common.{List, [], ◌∷◌, refl}
use Rattle.step_values.specs.declared.value.Value.{Value}
use Rattle.step_values.specs.declared.value.Value.TheVariants.{Zero, One, S, C, R, F, U}
use Rattle.step_values.specs.Image.{and_of, and_image, image1, image2}
use Rattle.step_values.proofs.Written.{by_rows}
use Rattle.step_values.proofs.tables.and2.Goals as goal

abbrev written : List Value
written =
    Zero ∷ Zero ∷ Zero ∷ Zero ∷ Zero ∷ Zero ∷ Zero ∷
    Zero ∷ One ∷ S ∷ C ∷ R ∷ F ∷ U ∷
    Zero ∷ S ∷ S ∷ C ∷ R ∷ F ∷ U ∷
    Zero ∷ C ∷ C ∷ C ∷ C ∷ C ∷ U ∷
    Zero ∷ R ∷ R ∷ C ∷ R ∷ C ∷ U ∷
    Zero ∷ F ∷ F ∷ C ∷ C ∷ F ∷ U ∷
    Zero ∷ U ∷ U ∷ U ∷ U ∷ U ∷ U ∷ []

pub returns : goal.returns
unfolding and_of and_image image2 image1
returns c = by_rows and_of written (refl, refl, refl, refl, refl, refl, refl) (refl, refl, refl, refl, refl, refl, refl) (refl, refl, refl, refl, refl, refl, refl) (refl, refl, refl, refl, refl, refl, refl)
    (refl, refl, refl, refl, refl, refl, refl) (refl, refl, refl, refl, refl, refl, refl) (refl, refl, refl, refl, refl, refl, refl)
