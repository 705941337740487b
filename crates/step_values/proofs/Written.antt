-- Tables of two values that are written out.
use Rattle.std.proofs.Common.{◌≡◌, List}
use Rattle.step_values.specs.declared.value.Value.{Value}
use Rattle.step_values.specs.declared.value.Value.TheVariants.{Zero, One, S, C, R, F, U}
use Rattle.step_values.specs.Table.{entry2, IsTable2}

module _ (f : Value → Value → Value) (entries : List Value) where
  -- one row of it is right
  abbrev pub IsRow : Value → Type 0
  IsRow a =
      (entry2 entries a Zero ≡ f a Zero) × (entry2 entries a One ≡ f a One) × (entry2 entries a S ≡ f a S) × (entry2 entries a C ≡ f a C)
      × (entry2 entries a R ≡ f a R) × (entry2 entries a F ≡ f a F) × (entry2 entries a U ≡ f a U)

  in_row : (a : Value) → IsRow a → (b : Value) → entry2 entries a b ≡ f a b
  in_row a row Zero = row.0
  in_row a row One = row.1
  in_row a row S = row.2
  in_row a row C = row.3
  in_row a row R = row.4
  in_row a row F = row.5
  in_row a row U = row.6

  pub by_rows : IsRow Zero → IsRow One → IsRow S → IsRow C → IsRow R → IsRow F → IsRow U → IsTable2 f entries
  by_rows zero one s c r f' u Zero = in_row Zero zero
  by_rows zero one s c r f' u One = in_row One one
  by_rows zero one s c r f' u S = in_row S s
  by_rows zero one s c r f' u C = in_row C c
  by_rows zero one s c r f' u R = in_row R r
  by_rows zero one s c r f' u F = in_row F f'
  by_rows zero one s c r f' u U = in_row U u
