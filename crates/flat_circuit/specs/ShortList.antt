-- Short lists.
use Rattle.std.specs.Prelude.{List, []}
use Rattle.flat_circuit.specs.declared.short_list.Kept.{Kept}
use Rattle.flat_circuit.specs.declared.short_list.Kept.TheVariants.{Nothing, One, Two, More}

-- the items of a short list, wherever they lie
abbrev pub items_in : {T : Type 0} → Kept T → List T
items_in Nothing = []
items_in (One items) = items
items_in (Two items) = items
items_in (More items) = items.value.items
