-- The tokens of a text draw a drawing or are refused: what is asked of them one after another has an answer.
use Rattle.std.proofs.Common.{◌≡◌, ℕ, zero, suc, ◌+◌, ◌*◌, ◌<◌, Bool, true, false, ◌&&◌, nat_eq, List, [], ◌∷◌, ◌++◌, Option, Some, None, Result, Ok, Err, ◌⊎◌, inl, inr, refl, ap, subst, arith}
use Rattle.std.specs.Prelude.{MatchBool, Contains}
use Rattle.std.specs.List.{list_all}
use Rattle.std.specs.Str.{bytes_eq}
use denote.Enum.Bare.{sameb}
use Rattle.scald_base.specs.Time.{Header, IsHeader, period}
use Rattle.scald_base.specs.Span.{span_fits}
use Rattle.scald_base.specs.Fitting.{SpansFit, IntervalsFit, EdgesOverlap, skew_of}
use Rattle.scald_base.specs.declared.assertion.Span.{Span}
use Rattle.scald_base.specs.declared.assertion.ClockSpec.{ClockSpec}
use Rattle.scald_base.specs.declared.assertion.AssertSpec.{AssertSpec}
use Rattle.scald_base.specs.declared.assertion.AssertSpec.TheVariants.{None as Unasserted, Precision, Clock, Stable}
use Rattle.scald_base.specs.declared.refusal.Refusal.{Refusal}
use Rattle.scald_base.specs.declared.refusal.RefusalKind.{RefusalKind}
use Rattle.scald_base.specs.declared.refusal.RefusalKind.TheVariants as kind
use Rattle.scald_base.specs.declared.refusal.Stop.{Stop}
use Rattle.scald_base.specs.declared.refusal.Stop.TheVariants as stop
use Rattle.assertion_syntax.specs.declared.name.SignalName.{SignalName}
use Rattle.assertion_syntax.specs.Name.{IsTextOf}
use Rattle.assertion_syntax.specs.Reading.{name_at}
use Rattle.assertion_syntax.specs.Slots.{steps, is_near, AreNear}
use Rattle.assertion_syntax.proofs.Names.{name_takes, none_again}
use Rattle.assertion_syntax.proofs.Intervals.{spans_decided}
use Rattle.assertion_syntax.proofs.Near.{NoneNear, at_start, passed_over, one_more, near_found, none_near}
use Rattle.assertion_syntax.proofs.Edges.{overlap_from, near_from}
use Rattle.drawing_tree.specs.Tree as tree
use Rattle.drawing_grammar.specs.declared.declared.Kind.{Kind}
use Rattle.drawing_grammar.specs.contracts.declared.Kind.{the_type}
use Rattle.drawing_grammar.specs.Lexeme.{Lexeme, lexemes}
use Rattle.drawing_grammar.specs.Edition.{edition_of}
use Rattle.drawing_grammar.specs.Header.{natural, judged}
use Rattle.drawing_grammar.specs.Names.{Naming, names_from, IsPlain, MayStand, IsGood, no_formal, no_interval, overlapping, IsFault, no_name, bad_name, AreGood, IsBadName}
use Rattle.drawing_grammar.specs.DoubleNames.{Key, key, Declaration, primitives, double_at, Declares, Repeats, IsDistinct, IsDoubleName}
use Rattle.drawing_grammar.specs.Sketch.{Sketch}
use Rattle.drawing_grammar.specs.Draws.{whole, Reads}
use Rattle.drawing_grammar.specs.Machine.{Verdict, Complete, Refused, verdict}
use Rattle.drawing_grammar.specs.Drawing.{declared_by, Draws, IsWrong, grammar}
use Rattle.drawing_grammar.specs.Laws.{DrawnOrRefused}
use Rattle.drawing_grammar.proofs.Doubles.{declares_none, declares_one, declares_both, repeats_one, repeats_first, repeats_later}
use Rattle.drawing_grammar.proofs.Distinct.{distinct_given, distinct_stop}
use Rattle.drawing_grammar.proofs.SameKeys.{same_parts, parts_same, later}
use Rattle.drawing_grammar.proofs.SameHeader.{header_may_be}
use Rattle.drawing_grammar.proofs.Drawn.{header_wrong, name_wrong, double_wrong, draws_it}
use Rattle.drawing_grammar.proofs.Whole.{ending, is_read, is_refused}

-- ---- the edges of a clock

abbrev NearOrNot : (ℕ → Bool) → ℕ → ℕ → Type 0
NearOrNot test reach n = AreNear test reach n ⊎ ((last : Option ℕ) × NoneNear test reach last n)

one_tick : (test : ℕ → Bool) (reach : ℕ) (last : Option ℕ) (n : ℕ) → NoneNear test reach last n → (b c : Bool) → test n ≡ b → is_near last n reach ≡ c → NearOrNot test reach (n + 1)
one_tick test reach last n so false c e f = inr (last, passed_over test reach last n so e)
one_tick test reach last n so true false e f = inr (Some n, one_more test reach last n so e f)
one_tick test reach last n so true true e f = inl (near_found test reach last n (n + 1) so (omega arith) e f)

tick_on : (test : ℕ → Bool) (reach n : ℕ) → NearOrNot test reach n → NearOrNot test reach (n + 1)
tick_on test reach n (inl near) =
    let within : near.second < n = near.within in
    inl (record { first = near.first; second = near.second; ordered = near.ordered; within = omega arith; near = near.near; at_first = near.at_first; at_second = near.at_second })
tick_on test reach n (inr so) = one_tick test reach so.0 n so.1 (test n) (is_near so.0 n reach) refl refl

near_or_not : (test : ℕ → Bool) (reach n : ℕ) → NearOrNot test reach n
near_or_not test reach zero = inr (None, at_start test reach)
near_or_not test reach (suc n) =
    let F : ℕ → Type 0 = λ m. NearOrNot test reach m in
    let same : n + 1 ≡ suc n = omega arith in
    subst F same (tick_on test reach n (near_or_not test reach n))

clock_overlaps : (h : Header) (c : ClockSpec) → 0 < period h → EdgesOverlap h (Clock c) ⊎ ¬ EdgesOverlap h (Clock c)
clock_overlaps h c pos = one (near_or_not (steps c h) (early + late) (2 * period h))
  where
    early : ℕ
    early = (skew_of c h.cskew).0

    late : ℕ
    late = (skew_of c h.cskew).1

    one : NearOrNot (steps c h) (early + late) (2 * period h) → EdgesOverlap h (Clock c) ⊎ ¬ EdgesOverlap h (Clock c)
    one (inl near) = inl (overlap_from c h early late pos near)
    one (inr so) = inr (λ overlap. none_near (steps c h) (early + late) so.0 (2 * period h) so.1 (near_from c h early late pos overlap))

overlaps : (h : Header) (a : AssertSpec) → 0 < period h → EdgesOverlap h a ⊎ ¬ EdgesOverlap h a
overlaps h Unasserted pos = inr (λ x. x)
overlaps h (Precision c) pos = inr (λ x. x)
overlaps h (Clock c) pos = clock_overlaps h c pos
overlaps h (Stable spans) pos = inr (λ x. x)

-- ---- a name

by_test : (A : Type 0) (r : Bool) → MatchBool r A (¬ A) → A ⊎ ¬ A
by_test A true m = inl m
by_test A false m = inr m

spans_fit : (h : Header) (ss : List Span) → SpansFit h ss ⊎ ¬ SpansFit h ss
spans_fit h ss = by_test (SpansFit h ss) (list_all (span_fits h.units) ss) (spans_decided h ss (list_all (span_fits h.units) ss) refl)

intervals_fit : (h : Header) (a : AssertSpec) → IntervalsFit h a ⊎ ¬ IntervalsFit h a
intervals_fit h Unasserted = inl tt
intervals_fit h (Precision c) = spans_fit h c.spans
intervals_fit h (Clock c) = spans_fit h c.spans
intervals_fit h (Stable spans) = spans_fit h spans

is_plain : (n : SignalName) (g : Bool) (a : AssertSpec) → n.global ≡ g → n.spec ≡ a → IsPlain n ⊎ ¬ IsPlain n
is_plain n true a e f = inr (λ p. let h : n.global ≡ false = p.local in cc)
is_plain n false Unasserted e f = inl (record { local = e; bare = f })
is_plain n false (Precision c) e f = inr (λ p. let h : n.spec ≡ Unasserted = p.bare in cc)
is_plain n false (Clock c) e f = inr (λ p. let h : n.spec ≡ Unasserted = p.bare in cc)
is_plain n false (Stable spans) e f = inr (λ p. let h : n.spec ≡ Unasserted = p.bare in cc)

may_stand : (of_formal : Bool) (n : SignalName) → MayStand of_formal n ⊎ ¬ MayStand of_formal n
may_stand false n = inl (λ e. absurd cc)
may_stand true n = elim (is_plain n n.global n.spec refl refl) [ inl p ↦ inl (λ e. p) | inr none ↦ inr (λ f. none (f refl)) ]

abbrev GoodOrNot : Header → Naming → Type 0
GoodOrNot h n = IsGood h n ⊎ ((k : RefusalKind) × IsFault h n k)

good_or_not : (h : Header) (n : Naming) → 0 < period h → GoodOrNot h n
good_or_not h n pos = one (name_at n.text) refl
  where
    edges : (m : SignalName) → IsTextOf m n.text → MayStand n.of_formal m → IntervalsFit h m.spec → EdgesOverlap h m.spec ⊎ ¬ EdgesOverlap h m.spec → GoodOrNot h n
    edges m is stands fit (inl over) = inr (kind.EdgesOverlap, bad_name m is (overlapping stands fit over))
    edges m is stands fit (inr none) = inl (record { name = m; spelled = is; plain = stands; fits = record { intervals = fit; edges = none } })

    intervals : (m : SignalName) → IsTextOf m n.text → MayStand n.of_formal m → IntervalsFit h m.spec ⊎ ¬ IntervalsFit h m.spec → GoodOrNot h n
    intervals m is stands (inl fit) = edges m is stands fit (overlaps h m.spec pos)
    intervals m is stands (inr none) = inr (kind.BadName, bad_name m is (no_interval none))

    stands : (m : SignalName) → IsTextOf m n.text → MayStand n.of_formal m ⊎ ¬ MayStand n.of_formal m → GoodOrNot h n
    stands m is (inl may) = intervals m is may (intervals_fit h m.spec)
    stands m is (inr none) = inr (kind.BadName, bad_name m is (no_formal none))

    one : (o : Option SignalName) → name_at n.text ≡ o → GoodOrNot h n
    one None e = inr (kind.BadName, no_name (none_again n.text e))
    one (Some m) e = let is = name_takes n.text m e in stands m is (may_stand n.of_formal m)

abbrev AllGoodOrNot : Header → List Naming → Type 0
AllGoodOrNot h ns = AreGood h ns ⊎ ((r : Refusal) × IsBadName h ns r)

names_good : (h : Header) (ns : List Naming) → 0 < period h → AllGoodOrNot h ns
names_good h [] pos = inl tt
names_good h (n ∷ ns) pos = first (good_or_not h n pos) (names_good h ns pos)
  where
    rest : IsGood h n → AllGoodOrNot h ns → AllGoodOrNot h (n ∷ ns)
    rest good (inl all) = inl (good, all)
    rest good (inr (r, wrong)) = inr (
      r,
      record {
        before = n ∷ wrong.before;
        bad = wrong.bad;
        after = wrong.after;
        parts = ap (λ (ms : List Naming). n ∷ ms) wrong.parts;
        good = (good, wrong.good);
        fault = wrong.fault;
        place = wrong.place;
      },
    )

    first : GoodOrNot h n → AllGoodOrNot h ns → AllGoodOrNot h (n ∷ ns)
    first (inl good) more = rest good more
    first (inr (k, fault)) more = inr (record { kind = k; place = n.place }, record { before = []; bad = n; after = ns; parts = refl; good = tt; fault = fault; place = refl })

-- ---- double names

abbrev same_key : Key → Key → Bool
same_key a b = nat_eq a.scope b.scope && (sameb the_type a.kind b.kind && bytes_eq a.name b.name)

alike : (s t : ℕ) (j k : Kind) (x y : List ℕ) → s ≡ t → j ≡ k → x ≡ y → key s j x ≡ key t k y
alike s t j k x y e f g = rw (e, f, g) refl

keys_same : (a b : Key) → same_key a b ≡ true → a ≡ b
keys_same a b h =
    let e = same_parts a.scope b.scope a.kind b.kind a.name b.name h in
    alike a.scope b.scope a.kind b.kind a.name b.name e.0 e.1 e.2

keys_differ : (a b : Key) → same_key a b ≡ false → a ≡ b → ⊥
keys_differ a b h e =
    let test : same_key a b ≡ true = parts_same a.scope b.scope a.kind b.kind a.name b.name (ap (λ (k : Key). k.scope) e) (ap (λ (k : Key). k.kind) e) (ap (λ (k : Key). k.name) e) in
    cc

is_taken : (taken : List Key) (k : Key) → Contains taken k ⊎ ¬ Contains taken k
is_taken [] k = inr (λ found. absurd (omega (arith, found.1)))
is_taken (x ∷ xs) k = one (same_key x k) refl (is_taken xs k)
  where
    not_here : same_key x k ≡ false → ¬ Contains xs k → ¬ Contains (x ∷ xs) k
    not_here e none (zero, below, is) = keys_differ x k e is
    not_here e none (suc i, below, is) = none (i, omega arith, is)

    one : (b : Bool) → same_key x k ≡ b → Contains xs k ⊎ ¬ Contains xs k → Contains (x ∷ xs) k ⊎ ¬ Contains (x ∷ xs) k
    one true e more = inl (0, omega arith, keys_same x k e)
    one false e (inl found) = inl (later xs x k found)
    one false e (inr none) = inr (not_here e none)

abbrev DeclaresOrNot : List Key → List Declaration → Type 0
DeclaresOrNot taken ds = ((now : List Key) × Declares taken now ds) ⊎ ((r : Refusal) × Repeats taken ds r)

declares : (taken : List Key) (ds : List Declaration) → DeclaresOrNot taken ds
declares taken [] = inl (taken, declares_none taken)
declares taken (d ∷ ds) = one (is_taken taken d.key) (declares now ds)
  where
    now : List Key
    now = taken ++ d.key ∷ []

    two : (¬ Contains taken d.key) → DeclaresOrNot now ds → DeclaresOrNot taken (d ∷ ds)
    two new (inl (all, made)) = inl (all, declares_both taken now all (d ∷ []) ds (declares_one taken d new) made)
    two new (inr (r, found)) = inr (r, repeats_later taken now (d ∷ []) ds r (declares_one taken d new) found)

    one : Contains taken d.key ⊎ ¬ Contains taken d.key → DeclaresOrNot now ds → DeclaresOrNot taken (d ∷ ds)
    one (inl found) more = inr (double_at d.place, repeats_first taken (d ∷ []) ds (double_at d.place) (repeats_one taken d found))
    one (inr new) more = two new more

is_distinct : (ds : List Declaration) → IsDistinct ds ⊎ ((r : Refusal) × IsDoubleName ds r)
is_distinct ds = one (declares primitives ds)
  where
    one : DeclaresOrNot primitives ds → IsDistinct ds ⊎ ((r : Refusal) × IsDoubleName ds r)
    one (inl (now, made)) = let taken : Result ℕ Stop = Ok 0 in inl (distinct_given taken now ds made)
    one (inr (r, found)) = inr (r, distinct_stop ds (stop.Refused r) found)

-- ---- the text

abbrev Decided : List Lexeme → Type 0
Decided ts = ((d : tree.Drawing) × Draws ts d) ⊎ ((r : Refusal) × IsWrong ts r)

sketch_decided : (ts : List Lexeme) (s : Sketch) → Reads ts s → Decided ts
sketch_decided ts s reads = head (judged s.header) refl
  where
    doubles : (h : Header) → judged s.header ≡ Ok h → AreGood h (names_from false ts) → IsDistinct (declared_by s) ⊎ ((r : Refusal) × IsDoubleName (declared_by s) r) → Decided ts
    doubles h e good (inl distinct) =
        let d : tree.Drawing = record {
          version = natural s.header.version;
          header = h;
          consts = s.consts.constants;
          const_places = s.consts.places;
          macros = s.macros.macros;
          name = s.name;
          body = s.body;
          cases = s.cases;
        } in
        inl (d, draws_it ts s h d reads e good distinct refl)
    doubles h e good (inr (r, wrong)) = inr (r, double_wrong ts s h (stop.Refused r) reads e good wrong)

    named : (h : Header) → judged s.header ≡ Ok h → AllGoodOrNot h (names_from false ts) → Decided ts
    named h e (inl good) = doubles h e good (is_distinct (declared_by s))
    named h e (inr (r, wrong)) = inr (r, name_wrong ts s h (stop.Refused r) reads e wrong)

    head : (j : Result Header Refusal) → judged s.header ≡ j → Decided ts
    head (Ok h) e =
        let may_be : IsHeader h = header_may_be s.header h e in
        let pos : 0 < period h = omega (arith, may_be.shortest) in
        named h e (names_good h (names_from false ts) pos)
    head (Err r) e = inr (r, header_wrong ts s r reads e)

pub drawn_or_refused : DrawnOrRefused
drawn_or_refused text tokens are = one (verdict (lexemes text tokens) (whole (edition_of (lexemes text tokens))) 0) refl
  where
    ts : List Lexeme
    ts = lexemes text tokens

    one : (v : Verdict (whole (edition_of ts))) → verdict ts (whole (edition_of ts)) 0 ≡ v → Decided ts
    one (Complete v) e = sketch_decided ts v.0 (is_read ts v.0 e)
    one (Refused r) e = inr (r, grammar (is_refused ts r (ending text tokens are) e))
