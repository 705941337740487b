use Rattle.std.proofs.Common.{List, [], ◌∷◌, refl}
use Rattle.step_values.specs.declared.value.Value.{Value}
use Rattle.step_values.specs.declared.value.Value.TheVariants.{Zero, One, S, C, R, F, U}
use Rattle.step_values.specs.Image.{xor_of, xor_image, image1, image2}
use Rattle.step_values.proofs.Written.{by_rows}
use Rattle.step_values.proofs.tables.xor2.Goals as goal

abbrev written : List Value
written =
    Zero ∷ One ∷ S ∷ C ∷ R ∷ F ∷ U ∷
    One ∷ Zero ∷ S ∷ C ∷ F ∷ R ∷ U ∷
    S ∷ S ∷ S ∷ C ∷ C ∷ C ∷ U ∷
    C ∷ C ∷ C ∷ C ∷ C ∷ C ∷ U ∷
    R ∷ F ∷ C ∷ C ∷ C ∷ C ∷ U ∷
    F ∷ R ∷ C ∷ C ∷ C ∷ C ∷ U ∷
    U ∷ U ∷ U ∷ U ∷ U ∷ U ∷ U ∷ []

pub returns : goal.returns
unfolding xor_of xor_image image2 image1
returns c = by_rows xor_of written (refl, refl, refl, refl, refl, refl, refl) (refl, refl, refl, refl, refl, refl, refl) (refl, refl, refl, refl, refl, refl, refl) (refl, refl, refl, refl, refl, refl, refl)
    (refl, refl, refl, refl, refl, refl, refl) (refl, refl, refl, refl, refl, refl, refl) (refl, refl, refl, refl, refl, refl, refl)
