-- Entries that a designer can work out, by the definitions alone.
use Rattle.std.proofs.Common.{◌≡◌, refl}
use Rattle.step_values.specs.declared.value.Value.TheVariants.{Zero, One, S, C, R, F, U}
use Rattle.step_values.specs.Image.{image1, image2, image3, image4, mux2_of, mux2_image, reg_rs_of, reg_rs_image, latch_rs_of, latch_rs_image}

selects : (mux2_of S Zero One ≡ S) × (mux2_of R Zero One ≡ R) × (mux2_of F Zero One ≡ F) × (mux2_of R S S ≡ C) × (mux2_of U One One ≡ One)
unfolding mux2_of mux2_image image3 image2 image1
selects = (refl, refl, refl, refl, refl)

registers : (reg_rs_of Zero One Zero ≡ One) × (reg_rs_of Zero Zero R ≡ F) × (reg_rs_of R Zero Zero ≡ C) × (reg_rs_of Zero One One ≡ C)
unfolding reg_rs_of reg_rs_image image3 image2 image1
registers = (refl, refl, refl, refl)

latches : (latch_rs_of Zero S R Zero ≡ R) × (latch_rs_of One Zero Zero Zero ≡ Zero)
unfolding latch_rs_of latch_rs_image image4 image3 image2 image1
latches = (refl, refl)
