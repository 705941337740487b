-- There are few stops, so paths are short.
use Rattle.std.proofs.Common.{◌≡◌, ℕ, suc, ◌+◌, ◌*◌, ◌<◌, ◌≤◌, true, false, List, [], ◌∷◌, length, map, refl, sym, ap, ◌∙◌, arith, eqb, eqb-true, ne_eqb, inl, inr}
use Rattle.std.specs.List.{AllByRecursion, IsDistinct, list_any}
use Rattle.std.proofs.lemmas.Nat.{mul-add-lt, same_from_place}
use Rattle.std.proofs.lemmas.Bool.{or_cases, or_parts}
use Rattle.std.proofs.lemmas.Map.Keys.{IsDistinct-cons}
use Rattle.std.proofs.lemmas.Map.Steps.{length-le_from_distinct_below}
use Rattle.critical_paths.specs.declared.direction.Corner.{Corner}
use Rattle.critical_paths.specs.declared.direction.Direction.{Direction}
use Rattle.critical_paths.specs.declared.direction.Direction.TheVariants.{Rise, Fall, Change}
use Rattle.critical_paths.specs.declared.event.Reading.{Reading}
use Rattle.critical_paths.specs.declared.event.Reading.TheVariants.{Folded, Unfolded}
use Rattle.critical_paths.specs.declared.event.Stop.{Stop}
use Rattle.critical_paths.specs.declared.path.Passage.{Passage}
use Rattle.critical_paths.specs.declared.path.Origin.TheVariants.{Earlier}
use Rattle.critical_paths.specs.declared.path.Node.{Node}
use Rattle.critical_paths.specs.declared.path.End.{End as Ending}
use Rattle.scald_base.specs.Time.{period}
use Rattle.flat_circuit.specs.Circuit.{Circuit}
use Rattle.fixpoint_engine.specs.Waves.{Waves}
use Rattle.critical_paths.specs.Walk.{event_count, origin_of, same_stop, stop_count}
use Rattle.critical_paths.specs.Known.{Goes, IsShort, IsStop}
use Rattle.critical_paths.proofs.Stops.{stop_from, stop_self}

abbrev number_of_direction : Direction → ℕ
number_of_direction Rise = 0
number_of_direction Fall = 1
number_of_direction Change = 2

abbrev number_of_reading : Reading → ℕ
number_of_reading Folded = 0
number_of_reading Unfolded = 1

direction_below : (d : Direction) → number_of_direction d < 3
direction_below Rise = omega arith
direction_below Fall = omega arith
direction_below Change = omega arith

reading_below : (r : Reading) → number_of_reading r < 2
reading_below Folded = omega arith
reading_below Unfolded = omega arith

direction_from : (a b : Direction) → number_of_direction a ≡ number_of_direction b → a ≡ b
direction_from Rise Rise h = refl
direction_from Rise Fall h = absurd (omega arith)
direction_from Rise Change h = absurd (omega arith)
direction_from Fall Rise h = absurd (omega arith)
direction_from Fall Fall h = refl
direction_from Fall Change h = absurd (omega arith)
direction_from Change Rise h = absurd (omega arith)
direction_from Change Fall h = absurd (omega arith)
direction_from Change Change h = refl

reading_from : (a b : Reading) → number_of_reading a ≡ number_of_reading b → a ≡ b
reading_from Folded Folded h = refl
reading_from Folded Unfolded h = absurd (omega arith)
reading_from Unfolded Folded h = absurd (omega arith)
reading_from Unfolded Unfolded h = refl

-- each event by a number of its own, and each stop of a corner
abbrev code : ℕ → Stop → ℕ
code period s = (s.net * period + s.slot) * 3 + number_of_direction s.direction

abbrev code_read : ℕ → Stop → ℕ
code_read period s = code period s * 2 + number_of_reading s.reading

-- a stop of the circuit that is read by folds
pub record IsFolded (c : Circuit) (corner : Corner) (s : Stop) : Type 0 where
  pub stop : IsStop c corner s
  pub folded : s.reading ≡ Folded

module _ (c : Circuit) (corner : Corner) where
  code_below : (s : Stop) → IsStop c corner s → code (period c.header) s < event_count c
  code_below s is =
      let one : s.net * period c.header + s.slot < period c.header * length c.nets = mul-add-lt
      s.net (period c.header) s.slot (length c.nets) is.net is.slot in
      mul-add-lt (s.net * period c.header + s.slot) 3 (number_of_direction s.direction)
      (period c.header * length c.nets) one (direction_below s.direction)

  read_below : (s : Stop) → IsStop c corner s → code_read (period c.header) s < stop_count c
  read_below s is =
      let below = mul-add-lt (code (period c.header) s) 2 (number_of_reading s.reading)
      (event_count c) (code_below s is) (reading_below s.reading) in
      omega (arith, below)

  code_is : (a b : Stop) → IsStop c corner a → IsStop c corner b → code (period c.header) a
      ≡ code (period c.header) b → a.reading ≡ b.reading → a ≡ b
  code_is a b one other same reading =
      let middle = same_from_place (a.net * period c.header + a.slot)
      (number_of_direction a.direction)
      (b.net * period c.header + b.slot) (number_of_direction b.direction) 3
      (direction_below a.direction) (direction_below b.direction) same in
      let first = same_from_place a.net a.slot b.net b.slot (period c.header) one.slot other.slot
      middle.0 in
      stop_from a b first.0 (direction_from a.direction b.direction middle.1) first.1
      (one.side ∙ sym other.side) reading

  read_is : (a b : Stop) → IsStop c corner a → IsStop c corner b → code_read (period c.header) a
      ≡ code_read (period c.header) b → a ≡ b
  read_is a b one other same =
      let last = same_from_place (code (period c.header) a) (number_of_reading a.reading)
      (code (period c.header) b) (number_of_reading b.reading) 2
      (reading_below a.reading) (reading_below b.reading) same in
      code_is a b one other last.0 (reading_from a.reading b.reading last.1)

pub none_same : (s : Stop) (ks : List Stop) → list_any (same_stop s) ks ≡ false →
    AllByRecursion (λ y. same_stop s y ≡ false) ks
none_same s [] none = tt
none_same s (k ∷ ks) none = let parts = or_parts (same_stop s k) _ none in
    (parts.0, none_same s ks parts.1)

-- ---- stops with numbers of their own below a bound

module _ (P : Stop → Type 0) (number : Stop → ℕ) (bound : ℕ)
    (below : (s : Stop) → P s → number s < bound)
    (is_one : (a b : Stop) → P a → P b → number a ≡ number b → a ≡ b) where
  apart_codes : (s : Stop) (ks : List Stop) → P s → AllByRecursion P ks →
      AllByRecursion (λ y. same_stop s y ≡ false) ks → AllByRecursion
      (λ y. eqb (number s) y ≡ false) (map number ks)
  apart_codes s [] is all apart = tt
  apart_codes s (k ∷ ks) is all apart = (
    ne_eqb (number s) (number k) (λ e. differs (is_one s k is all.0 e) apart.0),
    apart_codes s ks
        is all.1 apart.1,
  )
    where
      differs : s ≡ k → same_stop s k ≡ false → ⊥
      differs e apart = absurd (cc (ap (same_stop s) e, stop_self s, apart))

  distinct_codes : (ks : List Stop) → AllByRecursion P ks → IsDistinct same_stop ks →
      IsDistinct eqb (map number ks)
  unfolding IsDistinct
  distinct_codes [] all distinct = tt
  distinct_codes (k ∷ ks) all distinct = (
    apart_codes k ks all.0 all.1 distinct.0,
    distinct_codes ks
        all.1 distinct.1,
  )

  below_codes : (ks : List Stop) → AllByRecursion P ks → (q : ℕ) → list_any (eqb q) (map number ks)
      ≡ true → q < bound
  below_codes [] all q found = absurd (cc)
  below_codes (k ∷ ks) all q found = elim (or_cases (eqb q (number k)) _ found) [
    | inl here ↦
        let same : q ≡ number k = eqb-true q (number k) here in
        let less = below k all.0 in
        omega (arith, same, less)
    | inr there ↦ below_codes ks all.1 q there
  ]

  codes_long : (ks : List Stop) → length (map number ks) ≡ length ks
  codes_long [] = refl
  codes_long (k ∷ ks) = ap suc (codes_long ks)

  few_numbers : (ks : List Stop) → AllByRecursion P ks → IsDistinct same_stop ks → length ks ≤ bound
  few_numbers ks all distinct =
      let long = codes_long ks in
      let short = length-le_from_distinct_below (map number ks) bound
      (distinct_codes ks all distinct) (below_codes ks all) in
      omega (arith, long, short)

module _ (c : Circuit) (corner : Corner) where
  pub few_stops : (ks : List Stop) → AllByRecursion (IsStop c corner) ks → IsDistinct same_stop ks →
      length ks ≤ stop_count c
  few_stops = few_numbers (IsStop c corner) (code_read (period c.header)) (stop_count c)
      (read_below c corner) (read_is c corner)

  pub few_folded : (ks : List Stop) → AllByRecursion (IsFolded c corner) ks →
      IsDistinct same_stop ks → length ks ≤ event_count c
  few_folded =
      few_numbers (IsFolded c corner) (code (period c.header)) (event_count c)
      (λ s is. code_below c corner s is.stop)
      (λ a b one other same. code_is c corner a b one.stop other.stop same
      (one.folded ∙ sym other.folded))

  -- ---- paths are short

  module _ (ws : Waves)
      (within : (s : Stop) (p : Passage) (t : Stop) → IsStop c corner s → origin_of c ws s
      ≡ Earlier p t → IsShort p × IsStop c corner t) where
    few_nodes : (seen : List Stop) (end : Ending) (n : Node) (rest : List Node) →
        AllByRecursion (IsStop c corner) seen →
        IsDistinct same_stop seen → IsStop c corner n.stop → Goes c ws seen end n rest →
        length seen + length rest ≤ stop_count c
    few_nodes seen end n [] all distinct is goes =
        let few = few_stops seen all distinct in
        omega (arith, few)
    few_nodes seen end n (m ∷ more) all distinct is (fresh, (p, passage, from), goes) =
        let rest = few_nodes (n.stop ∷ seen) end m more (is, all)
        (IsDistinct-cons same_stop n.stop seen (none_same n.stop seen fresh) distinct)
        (within n.stop p m.stop is from).1 goes in
        omega (arith, rest)

    -- the links of a path are at most as many as there are stops
    pub few_links : (end : Ending) (n : Node) (rest : List Node) → IsStop c corner n.stop →
        Goes c ws [] end n rest → length rest ≤ stop_count c
    unfolding IsDistinct
    few_links end n rest is goes = let few = few_nodes [] end n rest tt tt is goes in
        omega (arith, few)
