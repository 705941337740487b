-- The edge that a node tells is the one that its path comes from.
use Rattle.std.specs.Prelude.{unsigned_abs}
use Rattle.std.proofs.Common.{◌≡◌, ℕ, ◌+◌, ◌%◌, ◌<◌, Bool, cond, List, [], ◌∷◌, refl, sym, ap, ◌∙◌, arith, Option, Some, None, ℤ, pos, ◌+ℤ◌, ◌-ℤ◌, slice_get}
use Rattle.std.specs.Option.{option_map}
use Rattle.std.proofs.lemmas.Int.{ints, int_rem_euclid_is}
use Rattle.scald_base.specs.declared.assertion.ClockSpec.{ClockSpec}
use Rattle.scald_base.specs.Clock.{back}
use Rattle.scald_base.specs.Fitting.{skew_of}
use Rattle.scald_base.specs.Time.{Header, period}
use Rattle.scald_base.proofs.Back.{back_mod, back_zero}
use Rattle.flat_circuit.specs.declared.net.Net.{Net}
use Rattle.flat_circuit.specs.Circuit.{Circuit}
use Rattle.fixpoint_engine.specs.Waves.{Waves}
use Rattle.critical_paths.specs.declared.direction.Corner.{Corner}
use Rattle.critical_paths.specs.declared.direction.Corner.TheVariants.{Late, Early}
use Rattle.critical_paths.specs.declared.direction.Direction.{Direction}
use Rattle.critical_paths.specs.declared.event.Reading.{Reading}
use Rattle.critical_paths.specs.declared.event.Reading.TheVariants.{Folded}
use Rattle.critical_paths.specs.declared.event.Stop.{Stop}
use Rattle.critical_paths.specs.declared.path.Passage.{Passage}
use Rattle.critical_paths.specs.declared.path.Node.{Node}
use Rattle.critical_paths.specs.declared.path.End.{End as Ending}
use Rattle.critical_paths.specs.declared.path.End.TheVariants.{Edge, Source as AtSource, Loop as InLoop, Nothing as ByNothing}
use Rattle.critical_paths.specs.Event.{Event}
use Rattle.critical_paths.specs.Path.{End, Loop, Nothing, Source}
use Rattle.critical_paths.specs.Walk.{event_at}
use Rattle.critical_paths.specs.Launch.{corner_by, edge_by, edge_of, edge_slot, is_edge, offset, offset_if_edge, offset_at, offset_by, offset_in, offset_of, offset_read, source_tick, taken, ticks_of}
use Rattle.critical_paths.specs.Tick.{slot_of}
use Rattle.critical_paths.proofs.Ticks.{slot_back}
use Rattle.critical_paths.specs.Known.{IsAge, Tells, edge_if, edge_known, end_of, last_on, link_on, path_on, rest_of, ticks_by, ticks_on, edge_pair}

-- ---- the slot of an edge

pub at_slot : (p : ℕ) (tick : ℤ) (m : ℕ) → 0 < p → tick ≡ pos m → slot_of p tick ≡ m % p
at_slot p tick m some e =
    ap unsigned_abs (int_rem_euclid_is tick (pos p) p 0 m some refl (omega (arith, ints, e)))

edge_slot_is : (p : ℕ) (corner : Corner) (early late slot : ℕ) (after tick : ℤ) → 0 < p →
    after ≡ offset corner early late →
    tick ≡ pos slot -ℤ after → slot_of p tick ≡ edge_slot p corner early late slot
edge_slot_is p Late early late slot after tick some is at =
    ap (slot_of p) (at ∙ ap (λ (z : ℤ). pos slot -ℤ z) is) ∙ slot_back p late (pos slot) some
    ∙ ap (λ (t : ℕ). back p t late) (at_slot p (pos slot) slot some refl) ∙ back_mod p slot late
edge_slot_is p Early early late slot after tick some is at =
    at_slot p tick (slot + early) some (omega (arith, ints, is, at))
    ∙ sym (back_zero p (slot + early))

pub offset_found : (h : Header) (corner : Corner) (d : Direction) (slot : ℕ) (clock : ClockSpec)
    (skew : ℕ × ℕ) (after tick : ℤ) (found : Bool) →
    0 < period h → after ≡ offset corner (skew_of clock skew).0 (skew_of clock skew).1 →
    tick ≡ pos slot -ℤ after →
    found ≡ is_edge h clock d (slot_of (period h) tick) → cond found (Some after) None
    ≡ offset_if_edge h corner d slot clock skew
offset_found h corner d slot clock skew after tick found some is at found_is =
    let early = (skew_of clock skew).0 in
    let late = (skew_of clock skew).1 in
    let slot_is = edge_slot_is (period h) corner early late slot after tick some is at in
    let edge : found ≡ is_edge h clock d (edge_slot (period h) corner early late slot) = found_is
    ∙ ap (is_edge h clock d) slot_is in
    ap (λ (b : Bool). cond b (Some after) None) edge
    ∙ ap (λ (z : ℤ). cond (is_edge h clock d (edge_slot (period h) corner early late slot)) (Some z)
    None) is

-- ---- the last event, the end and the sum of what nodes tell

path_last : (e : End) (n : Node) (rest : List Node) → (path_on e n rest).last
    ≡ event_at (last_on n rest)
path_last e n [] = refl
path_last e n (m ∷ more) = by n.passage ∙ path_last e m more
  where
    by : (p : Option Passage) → (link_on n.stop (path_on e m more) p).last ≡ (path_on e m more).last
    by None = refl
    by (Some p) = refl

path_end : (e : End) (n : Node) (rest : List Node) → (path_on e n rest).end ≡ e
path_end e n [] = refl
path_end e n (m ∷ more) = by n.passage ∙ path_end e m more
  where
    by : (p : Option Passage) → (link_on n.stop (path_on e m more) p).end ≡ (path_on e m more).end
    by None = refl
    by (Some p) = refl

path_taken : (e : End) (n : Node) (rest : List Node) → taken (path_on e n rest).links
    ≡ ticks_on n rest
path_taken e n [] = refl
path_taken e n (m ∷ more) = by n.passage (path_taken e m more)
  where
    by : (p : Option Passage) → taken (path_on e m more).links ≡ ticks_on m more →
        taken (link_on n.stop (path_on e m more) p).links ≡ ticks_by p +ℤ ticks_on m more
    by None ih = ih ∙ omega (arith, ints)
    by (Some p) ih = ap (λ (z : ℤ). ticks_of p +ℤ z) ih

-- ---- the offset of a stop that is read by folds

pub offset_folded : (c : Circuit) (s : Stop) → s.reading ≡ Folded →
    offset_at c s ≡ offset_of c s.corner (event_at s)
offset_folded c s folded = by (slice_get c.nets s.net)
  where
    by : (o : Option Net) → offset_read c.header s o ≡ offset_in c.header s.corner (event_at s) o
    by None = refl
    by (Some net) = ap (λ (r : Reading). offset_by c.header (corner_by r s.corner net.spec)
        (event_at s) net.spec) folded

-- ---- the edge

pub edge_is : (c : Circuit) (ws : Waves) (nodes : List Node) (among : Stop → Bool) (s : Stop)
    (n : Node) (corner : Corner) (tick : ℤ) →
    Tells c ws nodes among s n → (last_on n (rest_of nodes n)).reading ≡ Folded →
    (last_on n (rest_of nodes n)).corner ≡ corner →
    edge_known tick (Some n)
    ≡ option_map edge_pair (edge_of c corner tick (path_on (end_of n.end) n (rest_of nodes n)))
edge_is c ws nodes among s n corner tick tells folded last_corner = by n.end tells.age
  where
    last : Stop
    last = last_on n (rest_of nodes n)

    own_offset : (e : Ending) (o : Option ℤ) → offset_at c last ≡ o →
        offset_of c corner (path_on (end_of e) n (rest_of nodes n)).last ≡ o
    own_offset e o is =
        ap (offset_of c corner) (path_last (end_of e) n (rest_of nodes n))
        ∙ ap (λ k. offset_of c k (event_at last)) (sym last_corner)
        ∙ sym (offset_folded c last folded) ∙ is

    both : (a b : ℕ) (x y : ℤ) → a ≡ b → x ≡ y →
        ◌≡◌ {A = Option (ℕ × ℤ)} (Some (a, x)) (Some (b, y))
    both a b x y one other = cc

    by_source : (e : Ending) → end_of e ≡ Source → (o : Option ℤ) → offset_at c last ≡ o →
        edge_of c corner tick (path_on (end_of e) n (rest_of nodes n))
        ≡ option_map (λ after. record {
          net = (path_on (end_of e) n (rest_of nodes n)).last.net;
          tick = source_tick tick (path_on (end_of e) n (rest_of nodes n)) -ℤ after;
        }) o
    by_source e source o is =
        let path = path_on (end_of e) n (rest_of nodes n) in
        ap (edge_by c corner tick path) (path_end (end_of e) n (rest_of nodes n) ∙ source)
        ∙ ap (option_map (λ after. record {
          net = path.last.net;
          tick = source_tick tick path -ℤ after;
        })) (own_offset e o is)

    by : (e : Ending) → IsAge c ws e last (ticks_on n (rest_of nodes n)) n.age →
        edge_if e n.source (tick -ℤ n.age)
        ≡ option_map edge_pair (edge_of c corner tick (path_on (end_of e) n (rest_of nodes n)))
    by Edge (after, off, sum) =
        let path = path_on (end_of Edge) n (rest_of nodes n) in
        let ticks = path_taken (end_of Edge) n (rest_of nodes n) in
        both n.source path.last.net (tick -ℤ n.age) (source_tick tick path -ℤ after)
        (tells.source ∙ ap (λ (e : Event). e.net)
        (sym (path_last (end_of Edge) n (rest_of nodes n))))
        (omega (arith, ints, sum, ticks))
        ∙ sym (ap (option_map edge_pair) (by_source Edge refl (Some after) off))
    by AtSource (none, sum) = sym (ap (option_map edge_pair) (by_source AtSource refl None none))
    by InLoop sum = sym (ap (λ (e : End). option_map edge_pair
        (edge_by c corner tick (path_on Loop n (rest_of nodes n)) e))
        (path_end Loop n (rest_of nodes n)))
    by ByNothing sum = sym (ap (λ (e : End). option_map edge_pair
        (edge_by c corner tick (path_on Nothing n (rest_of nodes n)) e))
        (path_end Nothing n (rest_of nodes n)))
