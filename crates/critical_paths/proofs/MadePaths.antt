-- What holds of a path that was made, and stays as more are.
use Rattle.std.proofs.Common.{◌≡◌, ℕ, zero, suc, ◌^◌, ◌<◌, List, [], ◌∷◌, ◌++◌, length, slice_get, refl, sym, ap, subst, ◌∙◌, arith, Option, Some, None}
use Rattle.std.specs.Option.{option_and_then, option_map}
use Rattle.std.proofs.lemmas.Option.{slice_get_within}
use Rattle.scald_base.specs.Time.{period}
use Rattle.flat_circuit.specs.Circuit.{Circuit, IsCircuit, driver}
use Rattle.fixpoint_engine.specs.Waves.{Waves}
use Rattle.critical_paths.specs.declared.direction.Corner.{Corner}
use Rattle.critical_paths.specs.declared.event.Reading.{Reading}
use Rattle.critical_paths.specs.declared.event.Reading.TheVariants.{Folded}
use Rattle.critical_paths.specs.declared.event.Stop.{Stop}
use Rattle.critical_paths.specs.declared.path.At.{At}
use Rattle.critical_paths.specs.declared.path.End.{End as Ending}
use Rattle.critical_paths.specs.declared.path.Node.{Node}
use Rattle.critical_paths.specs.Event.{Event}
use Rattle.critical_paths.specs.Launch.{edge_of}
use Rattle.critical_paths.specs.Path.{Path}
use Rattle.critical_paths.specs.Known.{Goes, Grows, Has, IsNear, IsShortAt, IsShortPath, IsSmall, IsStop, Knows, are_met, edge_in, edge_known, last_on, path_known, rest_of, known_by, edge_pair}
use Rattle.critical_paths.specs.Walk.{reading_of, stop_of}
use Rattle.critical_paths.proofs.Edges.{edge_is}
use Rattle.critical_paths.proofs.Few.{IsFolded}
use Rattle.critical_paths.proofs.Linked.{origin_folded, stays_folded}
use Rattle.critical_paths.proofs.Memo.{knows_more, noted_is}
use Rattle.critical_paths.proofs.Settles.{small_stops}
use Rattle.critical_paths.proofs.Staying.{stays}

-- ---- as nodes come to others

get_kept : {X : Type 0} (xs ys : List X) (i : ℕ) → i < length xs → slice_get (xs ++ ys) i
    ≡ slice_get xs i
get_kept [] ys i less = absurd (omega (arith, less))
get_kept (x ∷ xs) ys zero less = refl
get_kept (x ∷ xs) ys (suc i) less = get_kept xs ys i (omega (arith, less))

pub node_kept : (old new : List Node) → Grows old new → (i : ℕ) → i < length old → slice_get new i
    ≡ slice_get old i
node_kept old new grows i less =
    ap (λ (l : List Node). slice_get l i) grows.is ∙ get_kept old grows.more i less

pub edge_kept : (old new : List Node) → Grows old new → (at : At) → at.node < length old →
    edge_in new at ≡ edge_in old at
edge_kept old new grows at less = ap (edge_known at.tick) (node_kept old new grows at.node less)

pub short_kept : (old new : List Node) → Grows old new → (at : At) → at.node < length old →
    IsShortPath old at → IsShortPath new at
short_kept old new grows at less short =
    subst (IsShortAt at.tick) (sym (node_kept old new grows at.node less)) short

-- what tells a path is there
pub noted_within : (nodes : List Node) (i : ℕ) (path : Path) → path_known nodes i ≡ Some path →
    i < length nodes
noted_within nodes i path noted = by (slice_get nodes i) refl noted
  where
    by : (o : Option Node) → slice_get nodes i ≡ o → known_by nodes o ≡ Some path → i < length nodes
    by None is noted = absurd (cc)
    by (Some n) is noted = slice_get_within nodes i n is

pub path_kept : (c : Circuit) (ws : Waves) (old new : List Node) (met : List (Stop × ℕ)) (s : Stop)
    (i : ℕ) → Knows c ws old met →
    Has met s i → Grows old new → path_known new i ≡ path_known old i
path_kept c ws old new met s i knows has grows =
    let later = knows_more c ws old grows.more met knows in
    ap (λ (l : List Node). path_known l i) grows.is
    ∙ noted_is c ws (old ++ grows.more) (are_met met) s i (later.each s i has)
    ∙ sym (noted_is c ws old (are_met met) s i (knows.each s i has))

-- ---- a path is short

pub known_short : (c : Circuit) (ws : Waves) (nodes : List Node) (met : List (Stop × ℕ)) (s : Stop)
    (at : At) → IsSmall c →
    Knows c ws nodes met → Has met s at.node → IsNear (2 ^ 60) at.tick → IsShortPath nodes at
known_short c ws nodes met s at small knows has near =
    let known = knows.each s at.node has in
    let few = known.tells.few in
    let stops = small_stops c small in
    subst (IsShortAt at.tick) (sym known.is) (near, omega (arith, few, stops), known.tells.near)

-- ---- the edge of a path that goes by folds

module _ (c : Circuit) (ws : Waves) (is : IsCircuit c) (some : 0 < period c.header)
    (corner : Corner) where
  last_folded : (end : Ending) (seen : List Stop) (n : Node) (rest : List Node) →
      IsFolded c corner n.stop →
      Goes c ws seen end n rest → IsFolded c corner (last_on n rest)
  last_folded end seen n [] folded goes = folded
  last_folded end seen n (m ∷ more) folded (fresh, (p, p_is, from), goes) =
      let next = stays c ws some is corner n.stop p m.stop folded.stop from in
      last_folded end (n.stop ∷ seen) m more (record {
        stop = next.1;
        folded = origin_folded c ws n.stop p m.stop folded.folded from;
      }) goes

  pub known_edge : (nodes : List Node) (met : List (Stop × ℕ)) (s : Stop) (at : At) →
      Knows c ws nodes met → Has met s at.node →
      IsStop c corner s → s.reading ≡ Folded →
      edge_in nodes at ≡ option_map edge_pair (option_and_then (edge_of c corner at.tick)
      (path_known nodes at.node))
  known_edge nodes met s at knows has stop folded =
      let known = knows.each s at.node has in
      let n = known.node in
      let own : IsFolded c corner n.stop = subst (IsFolded c corner) (sym known.tells.of)
      (record { stop = stop; folded = folded }) in
      let last = last_folded n.end [] n (rest_of nodes n) own known.tells.goes in
      ap (edge_known at.tick) known.is
      ∙ edge_is c ws nodes (are_met met) s n corner at.tick known.tells last.folded last.stop.side
      ∙ sym (ap (λ (o : Option Node). option_map edge_pair
      (option_and_then (edge_of c corner at.tick) (known_by nodes o))) known.is)

  -- what is asked by folds is read so
  pub reads_folds : (reading : Reading) (e : Event) → reading ≡ Folded →
      (stop_of c corner reading e).reading ≡ Folded
  reads_folds reading e folded =
      ap (λ (r : Reading). reading_of r (driver c e.net)) folded
      ∙ stays_folded c ws (driver c e.net)
