-- How long before an edge a change is launched, by what the program's paths tell.
use Rattle.std.proofs.Common.{◌≡◌, ℕ, zero, suc, ◌*◌, ◌%◌, ◌<◌, Bool, cond, refl, sym, ap, subst, ◌∙◌, arith, List, [], ◌∷◌, ◌++◌, length, Option, Some, None}
use Rattle.std.specs.Prelude.{ℤ, pos, ◌+ℤ◌, ◌-ℤ◌, ◌≤ℤ◌, ◌==◌, slice_get, unsigned_abs}
use Rattle.std.specs.Option.{option_and_then, option_map}
use Rattle.std.proofs.lemmas.Int.{ints, int_rem_euclid_is}
use Rattle.std.proofs.lemmas.Option.{slice_get_within}
use Rattle.scald_base.specs.Clock.{back}
use Rattle.scald_base.specs.Time.{period}
use Rattle.scald_base.proofs.Back.{back_zero}
use Rattle.flat_circuit.specs.declared.instance.Pin.{Pin}
use Rattle.flat_circuit.specs.Circuit.{Circuit}
use Rattle.fixpoint_engine.specs.Waves.{Waves}
use Rattle.critical_paths.specs.declared.direction.Corner.{Corner}
use Rattle.critical_paths.specs.declared.direction.Direction.{Direction}
use Rattle.critical_paths.specs.declared.path.At.{At}
use Rattle.critical_paths.specs.declared.path.Node.{Node}
use Rattle.critical_paths.specs.Tick.{slot_of}
use Rattle.critical_paths.specs.Path.{End, Source, Loop, Nothing, Path}
use Rattle.critical_paths.specs.Walk.{PinPath, pin_path_on}
use Rattle.critical_paths.specs.Launch.{Edge, ago, ago_of, edge_by, edge_of, edge_of_pin, offset_of, source_tick}
use Rattle.critical_paths.specs.Known.{Grows, IsShortPath, Knows, IsShortAt, ago_in, corner_in, corner_known, edge_in, edge_known, path_at, path_known, pin_path_by, known_by, edge_pair}
use Rattle.slack_rows.specs.Views.{ahead_of}
use Rattle.critical_paths.specs.declared.direction.Corner.TheVariants.{Late as LateCorner, Early as EarlyCorner}
use Rattle.critical_paths.specs.declared.path.Paths.{Paths}
use Rattle.critical_paths.proofs.Exact.{knows_same}
use Rattle.critical_paths.specs.Tick.{IsWithin, most_tick}
use Rattle.critical_paths.specs.Views.{IsPin}
use Rattle.std.specs.Prelude.{IfSome}
use Rattle.slack_rows.specs.declared.held.Held.{Held}
use Rattle.slack_rows.specs.declared.window.Window.{Window as Ticks}
use Rattle.slack_rows.specs.Held.{GoesOn, IsCloseWindow, IsHeld, IsNearPath, edge_at_pin, step_held, finding_back}
use Rattle.slack_rows.specs.Shown.{Explains}
use Rattle.slack_rows.proofs.Lying.{ahead_is}

-- ---- ticks and slots

pub mod_ahead : (p : ℕ) (tick : ℤ) → 0 < p → pos 0 ≤ℤ (pos (3 * p) +ℤ tick) →
    ahead_of p tick % p ≡ slot_of p tick
mod_ahead p tick some from =
    let ahead = ahead_is p tick from in
    sym (ap unsigned_abs (int_rem_euclid_is tick (pos p) p 3 (ahead_of p tick) some refl
    (omega (arith, ints, ahead))))

pub slot_ahead : (p : ℕ) (tick : ℤ) → 0 < p → pos 0 ≤ℤ (pos (3 * p) +ℤ tick) →
    back p (ahead_of p tick) 0 ≡ slot_of p tick
slot_ahead p tick some from = back_zero p (ahead_of p tick) ∙ mod_ahead p tick some from

pair_of : (net : ℕ) (x y : ℤ) → x ≡ y → ◌≡◌ {A = Option (ℕ × ℤ)} (Some (net, x)) (Some (net, y))
pair_of net x y same = ap (λ (z : ℤ). Some (net, z)) same

edge_back : (c : Circuit) (corner : Corner) (ticks : ℕ) (tick later : ℤ) (path : Path) → later ≡ pos ticks +ℤ tick →
    option_map edge_pair (edge_of c corner tick path) ≡ option_map (finding_back ticks) (edge_of c corner later path)
edge_back c corner ticks tick later path at = by path.end
  where
    offset : (o : Option ℤ) →
        option_map edge_pair (option_map (λ after. record { net = path.last.net; tick = source_tick tick path -ℤ after }) o)
        ≡ option_map (finding_back ticks) (option_map (λ after. record { net = path.last.net; tick = source_tick later path -ℤ after }) o)
    offset None = refl
    offset (Some after) =
        pair_of path.last.net (source_tick tick path -ℤ after) (source_tick later path -ℤ after -ℤ pos ticks) (omega (arith, ints, at))

    by : (e : End) → option_map edge_pair (edge_by c corner tick path e) ≡ option_map (finding_back ticks) (edge_by c corner later path e)
    by Source = offset (offset_of c corner path.last)
    by Loop = refl
    by Nothing = refl

-- ---- paths of pins

-- what is found of the path that a pin shows
record IsPathAt (nodes : List Node) (at : At) (x : Option PinPath) : Type 0 where
  path : Path
  finding : path_known nodes at.node ≡ Some path
  is : x ≡ Some (record { wire = at.wire; path = path })

is_path_at : (nodes : List Node) (at : At) (x : Option PinPath) → option_map (path_at nodes) (Some at) ≡ option_map Some x → IsPathAt nodes at x
is_path_at nodes at None same = absurd (cc)
is_path_at nodes at (Some found) same = by (path_known nodes at.node) refl
  where
    by : (o : Option Path) → path_known nodes at.node ≡ o → IsPathAt nodes at (Some found)
    by None finding =
        let none : ◌≡◌ {A = Option (Option PinPath)} (Some None) (Some (Some found)) = ap (λ (o : Option Path). Some (pin_path_by at.wire o)) (sym finding) ∙ same in
        absurd (cc)
    by (Some path) finding =
        let made : PinPath = record { wire = at.wire; path = path } in
        let one : ◌≡◌ {A = Option (Option PinPath)} (Some (Some made)) (Some (Some found)) = ap (λ (o : Option Path). Some (pin_path_by at.wire o)) (sym finding) ∙ same in
        let inner : ◌≡◌ {A = Option PinPath} (Some found) (Some made) = cc in
        record { path = path; finding = finding; is = inner }

pub within : (nodes : List Node) (at : At) (x : Option PinPath) → option_map (path_at nodes) (Some at) ≡ option_map Some x → at.node < length nodes
within nodes at x same = by (slice_get nodes at.node) refl
  where
    found : IsPathAt nodes at x
    found = is_path_at nodes at x same

    by : (o : Option Node) → slice_get nodes at.node ≡ o → at.node < length nodes
    by None is =
        let none : known_by nodes None ≡ Some found.path = ap (known_by nodes) (sym is) ∙ found.finding in
        absurd (cc)
    by (Some n) is = slice_get_within nodes at.node n is

module _ (c : Circuit) (ws : Waves) (some : 0 < period c.header) (corner : Corner) (pin : Pin) (d : Direction) (tick : ℤ)
    (from : pos 0 ≤ℤ (pos (3 * period c.header) +ℤ tick)) where
  abbrev shown : Option PinPath
  shown = pin_path_on c ws corner (slot_of (period c.header) tick) d pin.inverted pin.target

  at_slot : edge_at_pin c ws corner pin d (ahead_of (period c.header) tick) ≡ edge_of_pin c corner (ahead_of (period c.header) tick) shown
  at_slot =
      ap (λ (slot : ℕ). edge_of_pin c corner (ahead_of (period c.header) tick) (pin_path_on c ws corner slot d pin.inverted pin.target))
      (slot_ahead (period c.header) tick some from)

  pub no_edge : option_map Some shown ≡ None → edge_at_pin c ws corner pin d (ahead_of (period c.header) tick) ≡ None
  no_edge none = at_slot ∙ by shown none
    where
      by : (o : Option PinPath) → option_map Some o ≡ None → edge_of_pin c corner (ahead_of (period c.header) tick) o ≡ None
      by None is = refl
      by (Some path) is = absurd (cc)

  pub edge_finding_is : (nodes : List Node) (at : At) → option_map (path_at nodes) (Some at) ≡ option_map Some shown →
      at.tick +ℤ pos at.wire ≡ tick →
      edge_in nodes at ≡ option_map edge_pair (option_and_then (edge_of c corner at.tick) (path_known nodes at.node)) →
      edge_in nodes at ≡ option_map (finding_back (3 * period c.header)) (edge_at_pin c ws corner pin d (ahead_of (period c.header) tick))
  edge_finding_is nodes at same sum edge =
      let finding = is_path_at nodes at shown same in
      let ahead = ahead_is (period c.header) tick from in
      edge
      ∙ ap (λ (o : Option Path). option_map edge_pair (option_and_then (edge_of c corner at.tick) o)) finding.finding
      ∙ edge_back c corner (3 * period c.header) at.tick (pos (ahead_of (period c.header) tick) -ℤ pos at.wire) finding.path (omega (arith, ints, ahead, sum))
      ∙ ap (option_map (finding_back (3 * period c.header))) (sym (at_slot ∙ ap (edge_of_pin c corner (ahead_of (period c.header) tick)) finding.is))

-- ---- two of them

if_same : (b : Bool) (x y : ℤ) → x ≡ y → ◌≡◌ {A = Option ℤ} (cond b (Some x) None) (cond b (Some y) None)
if_same b x y same = ap (λ (z : ℤ). cond b (Some z) None) same

pub ago_same : (ticks : ℕ) (own clock : Option (ℕ × ℤ)) (a b : Option Edge) → own ≡ option_map (finding_back ticks) a →
    clock ≡ option_map (finding_back ticks) b → ago_in own clock ≡ ago a b
ago_same ticks own clock a b own_is clock_is = (λ i. ago_in (own_is i) (clock_is i)) ∙ by a b
  where
    by : (a b : Option Edge) → ago_in (option_map (finding_back ticks) a) (option_map (finding_back ticks) b) ≡ ago a b
    by None b = refl
    by (Some a) None = refl
    by (Some a) (Some b) =
        if_same (a.net == b.net) (b.tick -ℤ pos ticks -ℤ (a.tick -ℤ pos ticks)) (b.tick -ℤ a.tick) (omega (arith, ints))

pub ago_none : (a b : Option Edge) → b ≡ None → ago a b ≡ None
ago_none None b none = refl
ago_none (Some a) b none = ap (option_and_then (ago_of a)) none

pub none_ago : (a b : Option Edge) → a ≡ None → ago a b ≡ None
none_ago a b none = ap (λ (o : Option Edge). ago o b) none

-- ---- when nodes come to others

pub get_more : {X : Type 0} (xs ys : List X) (i : ℕ) (x : X) → slice_get xs i ≡ Some x → slice_get (xs ++ ys) i ≡ Some x
get_more [] ys i x is = absurd (cc)
get_more (y ∷ xs) ys zero x is = is
get_more (y ∷ xs) ys (suc i) x is = get_more xs ys i x is

node_stays : (old new : List Node) (i : ℕ) → Grows old new → i < length old → slice_get new i ≡ slice_get old i
node_stays old new i grows below = by (slice_get old i) refl
  where
    by : (o : Option Node) → slice_get old i ≡ o → slice_get new i ≡ o
    by None is = absurd (past old i below is)
      where
        past : (xs : List Node) (k : ℕ) → k < length xs → slice_get xs k ≡ None → ⊥
        past [] k below none = absurd (omega (arith, below))
        past (x ∷ xs) zero below none = absurd (cc)
        past (x ∷ xs) (suc k) below none = past xs k (omega (arith, below)) none
    by (Some n) is = ap (λ (xs : List Node). slice_get xs i) grows.is ∙ get_more old grows.more i n is

pub edge_stays : (old new : List Node) (at : At) → Grows old new → at.node < length old → edge_in new at ≡ edge_in old at
edge_stays old new at grows below = ap (edge_known at.tick) (node_stays old new at.node grows below)

pub short_stays : (old new : List Node) (at : At) → Grows old new → at.node < length old → IsShortPath old at → IsShortPath new at
short_stays old new at grows below short = subst (IsShortAt at.tick) (sym (node_stays old new at.node grows below)) short

pub within_stays : (old new : List Node) (i : ℕ) → Grows old new → i < length old → i < length new
within_stays old new i grows below = by (slice_get old i) refl
  where
    by : (o : Option Node) → slice_get old i ≡ o → i < length new
    by None is = absurd (past old i below is)
      where
        past : (xs : List Node) (k : ℕ) → k < length xs → slice_get xs k ≡ None → ⊥
        past [] k below none = absurd (omega (arith, below))
        past (x ∷ xs) zero below none = absurd (cc)
        past (x ∷ xs) (suc k) below none = past xs k (omega (arith, below)) none
    by (Some n) is = slice_get_within new i n (node_stays old new i grows below ∙ is)

pub grows_on : (a b c : List Node) → Grows a b → Grows b c → Grows a c
grows_on a b c first second =
    record {
      more = first.more ++ second.more;
      is = second.is ∙ ap (λ (xs : List Node). xs ++ second.more) first.is ∙ append_three a first.more second.more;
    }
  where
    append_three : (xs ys zs : List Node) → (xs ++ ys) ++ zs ≡ xs ++ (ys ++ zs)
    append_three [] ys zs = refl
    append_three (x ∷ xs) ys zs = ap (λ (rest : List Node). x ∷ rest) (append_three xs ys zs)

pub grows_none : (a : List Node) → Grows a a
grows_none a = record { more = []; is = sym (none a) }
  where
    none : (xs : List Node) → xs ++ [] ≡ xs
    none [] = refl
    none (x ∷ xs) = ap (λ (rest : List Node). x ∷ rest) (none xs)

-- ---- what is found of a step

pub found_near : (nodes : List Node) (found : Option At) (x : Option PinPath) → option_map (path_at nodes) found ≡ option_map Some x →
    IfSome found (IsShortPath nodes) → IsNearPath nodes found
found_near nodes None x same short = tt
found_near nodes (Some at) x same short = (within nodes at x same, short)

pub near_stays : (old new : List Node) (found : Option At) → Grows old new → IsNearPath old found → IsNearPath new found
near_stays old new None grows near = tt
near_stays old new (Some at) grows near = (within_stays old new at.node grows near.0, short_stays old new at grows near.0 near.1)

pub edges_stay : (old new : List Node) (found : Option At) → Grows old new → IsNearPath old found →
    option_and_then (edge_in new) found ≡ option_and_then (edge_in old) found
edges_stay old new None grows near = refl
edges_stay old new (Some at) grows near = edge_stays old new at grows near.0

pub explains_stays : (old new : List Node) (corner : Corner) (found : Option At) → Grows old new →
    Explains old corner found → Explains new corner found
explains_stays old new corner None grows is = tt
explains_stays old new corner (Some at) grows is = by (slice_get old at.node) refl
  where
    by : (o : Option Node) → slice_get old at.node ≡ o → corner_in new at ≡ Some corner
    by None none =
        let bad : ◌≡◌ {A = Option Corner} None (Some corner) = ap corner_known (sym none) ∙ is in
        absurd (cc)
    by (Some n) here =
        ap corner_known (node_stays old new at.node grows (slice_get_within old at.node n here)) ∙ is

-- a path that was found explains the end that was asked for
pub explains_found : (nodes : List Node) (asked corner : Corner) (found : Option At) →
    asked ≡ corner → IfSome found (λ at. corner_in nodes at ≡ Some asked) →
    Explains nodes corner found
explains_found nodes asked corner None same is = tt
explains_found nodes asked corner (Some at) same is = is ∙ ap Some same

pub found_edge : (c : Circuit) (ws : Waves) → 0 < period c.header → (corner : Corner) (pin : Pin) (d : Direction) (tick : ℤ) →
    pos 0 ≤ℤ (pos (3 * period c.header) +ℤ tick) → (nodes : List Node) (found : Option At) →
    option_map (path_at nodes) found ≡ option_map Some (pin_path_on c ws corner (slot_of (period c.header) tick) d pin.inverted pin.target) →
    IfSome found (λ at. at.tick +ℤ pos at.wire ≡ tick) →
    IfSome found (λ at. edge_in nodes at ≡ option_map edge_pair (option_and_then (edge_of c corner at.tick) (path_known nodes at.node))) →
    option_and_then (edge_in nodes) found ≡ option_map (finding_back (3 * period c.header)) (edge_at_pin c ws corner pin d (ahead_of (period c.header) tick))
found_edge c ws some corner pin d tick from nodes None same sum edge =
    sym (ap (option_map (finding_back (3 * period c.header))) (no_edge c ws some corner pin d tick from (sym same)))
found_edge c ws some corner pin d tick from nodes (Some at) same sum edge = edge_finding_is c ws some corner pin d tick from nodes at same sum edge

-- ---- one path after another

pub goes_then : (c : Circuit) (ws : Waves) (first second third : Paths) →
    GoesOn c ws first second → GoesOn c ws second third → GoesOn c ws first third
goes_then c ws first second third one other = record {
  knows = other.knows;
  grows = grows_on first.nodes second.nodes third.nodes one.grows other.grows;
  keeps = λ exact. other.keeps (one.keeps exact);
}

pub goes_none : (c : Circuit) (ws : Waves) (paths : Paths) → Knows c ws paths.nodes paths.met.entries →
    GoesOn c ws paths paths
goes_none c ws paths knows = record { knows = knows; grows = grows_none paths.nodes; keeps = λ exact. exact }

-- a path that is worked out touches no arrival
pub goes_same : (c : Circuit) (ws : Waves) (old new : Paths) → Knows c ws new.nodes new.met.entries →
    Grows old.nodes new.nodes → new.known.entries ≡ old.known.entries → new.arrivals ≡ old.arrivals →
    GoesOn c ws old new
goes_same c ws old new knows grows known arrivals = record {
  knows = knows;
  grows = grows;
  keeps = knows_same c ws old new grows arrivals known;
}

-- ---- the step that something is held against

pub step_pin : (c : Circuit) (held : Held) (w : Ticks) (corner : Corner) → IsHeld c held → IsPin c (step_held held w corner).pin
step_pin c held w LateCorner is = is.clock
step_pin c held w EarlyCorner is = is.clock

pub step_within : (p : ℕ) (held : Held) (w : Ticks) (corner : Corner) → IsCloseWindow p w → IsWithin most_tick (step_held held w corner).tick
step_within p held w LateCorner near = let first = near.first in omega (arith, first)
step_within p held w EarlyCorner near = let last = near.last in omega (arith, last)

pub step_from : (p : ℕ) (held : Held) (w : Ticks) (corner : Corner) → IsCloseWindow p w → pos 0 ≤ℤ (pos (3 * p) +ℤ (step_held held w corner).tick)
step_from p held w LateCorner near = near.edge
step_from p held w EarlyCorner near = near.ends
