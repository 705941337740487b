-- Names of nets by their numbers.
use Rattle.std.proofs.Common.{◌≡◌, ℕ, zero, suc, List, [], ◌∷◌, map, slice_get, Some, ap, sym}
use Rattle.std.proofs.lemmas.Option.{same_Some}
use Rattle.flat_circuit.specs.declared.net.Net.{Net}
use Rattle.flat_circuit.specs.Name.{name_at}
use Rattle.flat_circuit.specs.Circuit.{net_name}

pub name_there : (nets : List Net) (i : ℕ) (net : Net) → Some net ≡ slice_get nets i → name_at (map net_name nets) i ≡ net_name net
name_there [] i net is = absurd (cc)
name_there (n ∷ ns) zero net is = ap net_name (sym (same_Some net n is))
name_there (n ∷ ns) (suc i) net is = name_there ns i net is
