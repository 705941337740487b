-- A path has at most as many links as there are events.
use Rattle.std.proofs.Common.{◌≡◌, ◌≢◌, ℕ, zero, suc, ◌+◌, ◌<◌, ◌≤◌, ◌==◌, Bool, true, false, ◌||◌, cond, List, [], ◌∷◌, length, refl, ap, arith, Option, Some, None, inl, inr}
use Rattle.std.specs.List.{AllByRecursion, IsDistinct, list_any}
use Rattle.std.proofs.lemmas.Bool.{and_from, and_parts, or_cases, or_left, or_right}
use Rattle.std.proofs.lemmas.Map.Keys.{IsDistinct-cons}
use Rattle.scald_base.specs.Time.{period}
use Rattle.flat_circuit.specs.declared.instance.Instance.{Instance}
use Rattle.flat_circuit.specs.Circuit.{Circuit, IsCircuit, driver}
use Rattle.fixpoint_engine.specs.Waves.{Waves}
use Rattle.critical_paths.specs.declared.direction.Corner.{Corner}
use Rattle.critical_paths.specs.declared.event.Reading.{Reading}
use Rattle.critical_paths.specs.declared.event.Reading.TheVariants.{Folded}
use Rattle.critical_paths.specs.declared.event.Stop.{Stop}
use Rattle.critical_paths.specs.declared.path.Passage.{Passage}
use Rattle.critical_paths.specs.declared.path.Origin.{Origin}
use Rattle.critical_paths.specs.declared.path.Origin.TheVariants.{Input, Level, Earlier}
use Rattle.critical_paths.specs.Event.{Event, same_direction, same_event}
use Rattle.critical_paths.specs.Path.{End, Link, Loop, Nothing, Path, Source}
use Rattle.critical_paths.specs.Unfolded.{Read}
use Rattle.critical_paths.specs.Walk.{ending, event_at, event_count, link, linked, origin_by, origin_from, origin_of, path_after, path_from, path_of_stop, read_at, reading_of, same_stop, stop_count, stop_of}
use Rattle.critical_paths.specs.Known.{IsStop}
use Rattle.critical_paths.specs.Laws.{EndsAt, PathsAreFinite}
use Rattle.critical_paths.proofs.Few.{IsFolded, few_folded, none_same}
use Rattle.critical_paths.proofs.Linked.{origin_folded, stays_folded}
use Rattle.critical_paths.proofs.Staying.{stays}

module _ (c : Circuit) (ws : Waves) (corner : Corner) (is_circuit : IsCircuit c)
    (some : 0 < period c.header) where
  -- the event is that of a stop which was passed, or of a link
  abbrev is_met : List Stop → List Link → Event → Bool
  is_met seen links e = list_any (λ (s : Stop). same_event e (event_at s)) seen || list_any
      (λ (l : Link). same_event e l.event) links

  abbrev Ends : List Stop → Path → End → Type 0
  Ends seen path Source = driver c path.last.net ≡ None
  Ends seen path Loop = is_met seen path.links path.last ≡ true
  Ends seen path Nothing = driver c path.last.net ≢ None

  record IsWhole (seen : List Stop) (path : Path) : Type 0 where
    pub short : length path.links + length seen ≤ event_count c
    pub ends : Ends seen path path.end

  event_met : (s : Stop) (seen : List Stop) → list_any (same_stop s) seen ≡ true →
      list_any (λ (t : Stop). same_event (event_at s) (event_at t)) seen ≡ true
  event_met s [] met = absurd (cc)
  event_met s (t ∷ seen) met = elim (or_cases (same_stop s t) _ met) [
    | inl here ↦ or_left (same_event (event_at s) (event_at t)) _ (same s t here)
    | inr there ↦ or_right (same_event (event_at s) (event_at t)) _ (event_met s seen there)
  ]
    where
      same : (s t : Stop) → same_stop s t ≡ true → same_event (event_at s) (event_at t) ≡ true
      same s t h =
          let net = and_parts (s.net == t.net) _ h in
          let direction = and_parts (same_direction s.direction t.direction) _ net.1 in
          let slot = and_parts (s.slot == t.slot) _ direction.1 in
          and_from (s.net == t.net) _ net.0 (and_from (s.slot == t.slot) _ slot.0 direction.0)

  -- the stop before stands in the link instead
  moved : (s : Stop) (passage : Passage) (seen : List Stop) (path : Path) →
      IsWhole (s ∷ seen) path →
      IsWhole seen (linked (link s passage) path)
  moved s passage seen path whole =
      let short = whole.short in
      record {
        short = omega (arith, short);
        ends = by path.end whole.ends;
      }
    where
      turned : (a b d : Bool) → ((a || b) || d) ≡ true → (b || (a || d)) ≡ true
      turned true true d h = refl
      turned true false d h = refl
      turned false true d h = refl
      turned false false d h = h

      by : (end : End) → Ends (s ∷ seen) path end → Ends seen (linked (link s passage) path) end
      by Source h = h
      by Loop h = turned (same_event path.last (event_at s))
          (list_any (λ (t : Stop). same_event path.last (event_at t)) seen)
          (list_any (λ (l : Link). same_event path.last l.event) path.links) h
      by Nothing h = h

  -- the paths from the stop before, where this one was not passed
  abbrev AreWhole : ℕ → List Stop → Stop → Type 0
  AreWhole n seen s =
      list_any (same_stop s) seen ≡ false → (before : Stop) → IsFolded c corner before →
      IsWhole (s ∷ seen) (path_from c ws n (s ∷ seen) before)

  path_whole : (n : ℕ) (seen : List Stop) (s : Stop) → AllByRecursion (IsFolded c corner) seen →
      IsDistinct same_stop seen →
      IsFolded c corner s → event_count c < n + length seen → IsWhole seen (path_from c ws n seen s)
  path_whole zero seen s all distinct is left =
      let few = few_folded c corner seen all distinct in
      absurd (omega (arith, few, left))
  path_whole (suc n) seen s all distinct is left =
      by (list_any (same_stop s) seen) refl
      (λ fresh before folded. path_whole n (s ∷ seen) before (is, all)
      (IsDistinct-cons same_stop s seen (none_same s seen fresh) distinct) folded
      (omega (arith, left)))
    where
      few : length seen ≤ event_count c
      few = few_folded c corner seen all distinct

      ends : (end : End) → Ends seen (ending s end) end → IsWhole seen (ending s end)
      ends end h = record { short = omega (arith, few); ends = h }

      no_driver : (o : Option Instance) → driver c s.net ≡ o → origin_by c ws s o ≡ Input →
          driver c s.net ≡ None
      no_driver None at input = at
      no_driver (Some j) at input = absurd (other (read_at c ws s j s.reading) input)
        where
          other : (o : Option Read) → origin_from c s.corner o ≡ Input → ⊥
          other None h = absurd (cc)
          other (Some r) h = absurd (cc)

      some_driver : (o : Option Instance) → driver c s.net ≡ o → origin_by c ws s o ≡ Level →
          driver c s.net ≢ None
      some_driver None at level = absurd (cc)
      some_driver (Some j) at level = λ none. absurd (cc (at, none))

      after : AreWhole n seen s → list_any (same_stop s) seen ≡ false → (o : Origin) →
          origin_of c ws s ≡ o →
          IsWhole seen (path_after s (λ before. path_from c ws n (s ∷ seen) before) o)
      after rest fresh Input at = ends Source (no_driver (driver c s.net) refl at)
      after rest fresh Level at = ends Nothing (some_driver (driver c s.net) refl at)
      after rest fresh (Earlier passage before) at =
          let from = stays c ws some is_circuit corner s passage before is.stop at in
          moved s passage seen (path_from c ws n (s ∷ seen) before)
          (rest fresh before record {
            stop = from.1;
            folded = origin_folded c ws s passage before
                is.folded at;
          })

      by : (b : Bool) → list_any (same_stop s) seen ≡ b → AreWhole n seen s →
          IsWhole seen (cond b (ending s Loop) (path_after s
          (λ before. path_from c ws n (s ∷ seen) before) (origin_of c ws s)))
      by true met rest = ends Loop (or_left (list_any
          (λ (t : Stop). same_event (event_at s) (event_at t)) seen) false (event_met s seen met))
      by false fresh rest = after rest fresh (origin_of c ws s) refl

  finite : (s : Stop) → IsFolded c corner s → IsWhole [] (path_from c ws (stop_count c + 1) [] s)
  unfolding IsDistinct
  finite s is = path_whole (stop_count c + 1) [] s tt tt is (omega arith)

ends_at : (c : Circuit) (ws : Waves) (corner : Corner) (is : IsCircuit c)
    (some : 0 < period c.header) (path : Path) (end : End) →
    Ends c ws corner is some [] path end → EndsAt c path end
ends_at c ws corner is some path Source h = h
ends_at c ws corner is some path Loop h = h
ends_at c ws corner is some path Nothing h = h

pub paths_are_finite : PathsAreFinite
unfolding path_of_stop
paths_are_finite c ws corner e is some net slot =
    let folded = stays_folded c ws (driver c e.net) in
    let s = stop_of c corner Folded e in
    let stop : IsStop c corner s = record {
      net = net;
      slot = slot;
      side = refl;
      reading = ap (λ (r : Reading). reading_of r (driver c e.net)) folded;
    } in
    let whole = finite c ws corner is some s record { stop = stop; folded = folded } in
    let path = path_from c ws (stop_count c + 1) [] s in
    let short = whole.short in
    record {
      short = omega (arith, short);
      ends = ends_at c ws corner is some path path.end
          whole.ends;
    }
