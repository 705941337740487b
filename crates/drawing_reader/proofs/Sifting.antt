-- Names that may be refused, and all names.
use Rattle.std.proofs.Common.{◌≡◌, ℕ, ◌+◌, ◌-◌, ◌<◌, ◌≤◌, Bool, false, List, [], ◌∷◌, ◌++◌, length, map, get_or, take, drop, Some, ◌⊎◌, inl, inr, refl, sym, ap, ◌∙◌, subst, append_assoc, arith}
use Rattle.std.specs.Prelude.{slice_get}
use Rattle.std.proofs.lemmas.List.{append-nil, map-append, take_all, take_more}
use Rattle.std.proofs.lemmas.Option.{slice_get_within, get_or_from_slice_get}
use Rattle.scald_base.specs.Time.{Header}
use Rattle.scald_base.specs.declared.refusal.Place.{Place}
use Rattle.scald_base.specs.declared.refusal.Refusal.{Refusal}
use Rattle.scald_base.specs.declared.refusal.Stop.{Stop}
use Rattle.scald_base.specs.declared.refusal.Stop.TheVariants.{Refused, NoMemory}
use Rattle.assertion_syntax.specs.Name.{IsTextOf}
use Rattle.std.proofs.lemmas.List.{get_or_default}
use Rattle.drawing_grammar.specs.Names.{Judged, Naming, named, IsGood, AreGood, MayStand, IsFault, IsBadName, IsNameStop}
use Rattle.drawing_grammar.proofs.GoodNames.{good_both}
use Rattle.drawing_reader.specs.declared.names.Doubtful.{Doubtful}
use Rattle.drawing_reader.specs.Sifted.{IsAgain, Sifted, Sifting, naming_of}
use Rattle.drawing_reader.proofs.Labels.{dropped}
use Rattle.drawing_reader.proofs.Naming.{judged_on, judged_stop}

-- ---- good names and the first bad one, among others

good_parts : (h : Header) (ns ms : List Naming) → AreGood h (ns ++ ms) →
    AreGood h ns × AreGood h ms
good_parts h [] ms good = (tt, good)
good_parts h (n ∷ ns) ms good =
    let more = good_parts h ns ms good.1 in ((good.0, more.0), more.1)

respelled : (h : Header) (n m : Naming) → n.text ≡ m.text → n.of_formal ≡ m.of_formal →
    IsGood h n → IsGood h m
respelled h n m text formal good = record {
  name = good.name;
  spelled = subst (λ (x : List ℕ). IsTextOf good.name x) text good.spelled;
  plain = subst (λ (b : Bool). MayStand b good.name) formal good.plain;
  fits = good.fits;
}

stop_before : (h : Header) (ns ms : List Naming) (s : Stop) → IsNameStop h ns s →
    IsNameStop h (ns ++ ms) s
stop_before h ns ms NoMemory found = tt
stop_before h ns ms (Refused r) found = record {
  before = found.before;
  bad = found.bad;
  after = found.after ++ ms;
  parts = ap (λ (x : List Naming). x ++ ms) found.parts
      ∙ append_assoc found.before (found.bad ∷ found.after) ms;
  good = found.good;
  fault = found.fault;
  place = found.place;
}

stop_behind : (h : Header) (ns ms : List Naming) (r : Refusal) → AreGood h ns →
    IsBadName h ms r → IsBadName h (ns ++ ms) r
stop_behind h ns ms r good found = record {
  before = ns ++ found.before;
  bad = found.bad;
  after = found.after;
  parts = ap (λ (x : List Naming). ns ++ x) found.parts
      ∙ sym (append_assoc ns found.before (found.bad ∷ found.after));
  good = good_both h ns found.before good found.good;
  fault = found.fault;
  place = found.place;
}

-- the first bad name is the last, or stands before it
abbrev InOrLast : Header → List Naming → Naming → Refusal → Type 0
InOrLast h ns n r = IsBadName h ns r ⊎ (AreGood h ns × IsBadName h (n ∷ []) r)

one_more : (h : Header) (x : Naming) (xs : List Naming) (n : Naming) (r : Refusal) →
    IsGood h x → InOrLast h xs n r → InOrLast h (x ∷ xs) n r
one_more h x xs n r good (inl b) = inl (record {
  before = x ∷ b.before;
  bad = b.bad;
  after = b.after;
  parts = ap (λ (z : List Naming). x ∷ z) b.parts;
  good = (good, b.good);
  fault = b.fault;
  place = b.place;
})
one_more h x xs n r good (inr (all, b)) = inr ((good, all), b)

where_bad : (h : Header) (ns : List Naming) (n : Naming) (r : Refusal) (before : List Naming)
    (bad : Naming) (after : List Naming) → ns ++ n ∷ [] ≡ before ++ bad ∷ after →
    AreGood h before → IsFault h bad r.kind → r.place ≡ bad.place → InOrLast h ns n r
where_bad h [] n r before bad after e good fault place = inr (
  tt,
  record {
    before = before;
    bad = bad;
    after = after;
    parts = e;
    good = good;
    fault = fault;
    place = place;
  },
)
where_bad h (x ∷ xs) n r [] bad after e good fault place =
    let k : bad ≡ x = cc in inl (record {
      before = [];
      bad = x;
      after = xs;
      parts = refl;
      good = tt;
      fault = subst (λ (b : Naming). IsFault h b r.kind) k fault;
      place = place ∙ ap (λ (b : Naming). b.place) k;
    })
where_bad h (x ∷ xs) n r (y ∷ ys) bad after e good fault place =
    let k : y ≡ x = cc in
    let m : xs ++ n ∷ [] ≡ ys ++ bad ∷ after = cc in
    one_more h x xs n r (subst (λ (b : Naming). IsGood h b) k good.0)
    (where_bad h xs n r ys bad after m good.1 fault place)

last_stop : (h : Header) (few all : List Naming) (n : Naming) (s : Stop) →
    (AreGood h few → AreGood h all) → ((s : Stop) → IsNameStop h few s → IsNameStop h all s) →
    IsNameStop h (few ++ n ∷ []) s → IsNameStop h (all ++ n ∷ []) s
last_stop h few all n NoMemory good stop found = tt
last_stop h few all n (Refused r) good stop found =
    one (where_bad h few n r found.before found.bad found.after found.parts found.good found.fault
    found.place)
  where
    one : InOrLast h few n r → IsBadName h (all ++ n ∷ []) r
    one (inl b) = stop_before h all (n ∷ []) (Refused r) (stop (Refused r) b)
    one (inr (are, b)) = stop_behind h all (n ∷ []) r (good are) b

-- ---- one name after another

pub nothing_yet : (all : List Naming) → Sifting [] all all
nothing_yet all = record {
  done = [];
  parts = refl;
  sifted = record { good = λ h g. g; stop = λ h s f. f };
}

moved_on : (done : List Naming) (n : Naming) (all rest : List Naming) → all ≡ done ++ n ∷ rest →
    all ≡ (done ++ n ∷ []) ++ rest
moved_on done n all rest e = e ∙ sym (append_assoc done (n ∷ []) rest)

-- a name that is good, or is if those before are
pub sifted_out : (few all rest : List Naming) (n : Naming) →
    ((h : Header) → AreGood h few → IsGood h n) → Sifting few all (n ∷ rest) →
    Sifting few all rest
sifted_out few all rest n good so = record {
  done = so.done ++ n ∷ [];
  parts = moved_on so.done n all rest so.parts;
  sifted = record {
    good = λ h g. good_both h so.done (n ∷ []) (so.sifted.good h g) (good h g, tt);
    stop = λ h s f. stop_before h so.done (n ∷ []) s (so.sifted.stop h s f);
  };
}

-- a name that may be refused
sifted_in : (few all rest : List Naming) (n : Naming) → Sifting few all (n ∷ rest) →
    Sifting (few ++ n ∷ []) all rest
sifted_in few all rest n so = record {
  done = so.done ++ n ∷ [];
  parts = moved_on so.done n all rest so.parts;
  sifted = record {
    good = λ h g.
        let two = good_parts h few (n ∷ []) g in
        good_both h so.done (n ∷ []) (so.sifted.good h two.0) two.1;
    stop = λ h s f. last_stop h few so.done n s (so.sifted.good h) (so.sifted.stop h) f;
  };
}

pub kept : (few now : List Doubtful) (d : Doubtful) (all rest : List Naming) →
    now ≡ few ++ d ∷ [] → Sifting (map naming_of few) all (naming_of d ∷ rest) →
    Sifting (map naming_of now) all rest
kept few now d all rest e so =
    let k : map naming_of now ≡ map naming_of few ++ naming_of d ∷ [] =
    ap (λ (ds : List Doubtful). map naming_of ds) e ∙ map-append naming_of few (d ∷ []) in
    subst (λ (ns : List Naming). Sifting ns all rest) (sym k)
    (sifted_in (map naming_of few) all rest (naming_of d) so)

pub sifted_all : (few all rest : List Naming) → Sifting few all rest → rest ≡ [] → Sifted few all
sifted_all few all rest so none =
    let e : all ≡ so.done =
    so.parts ∙ (ap (λ (ns : List Naming). so.done ++ ns) none ∙ append-nil so.done) in
    subst (λ (ns : List Naming). Sifted few ns) (sym e) so.sifted

-- ---- the last name again

last_of : {A : Type 0} (xs : List A) (x : A) → slice_get xs (length xs - 1) ≡ Some x →
    xs ≡ take (length xs - 1) xs ++ x ∷ []
last_of {A = A} xs x e =
    let i = length xs - 1 in
    let below : i < length xs = slice_get_within xs i x e in
    let all : length xs ≤ i + 1 = omega arith in
    sym (take_all (i + 1) xs all) ∙ (take_more xs i x below
    ∙ ap (λ (y : A). take i xs ++ y ∷ []) (get_or_from_slice_get xs i x x e))

pub again : (ds : List Doubtful) (d : Doubtful) (text : List ℕ) (of_formal : Bool) →
    slice_get ds (length ds - 1) ≡ Some d →
    (d.of_formal ≡ false) × (of_formal ≡ false) × (d.text.now ≡ text) →
    IsAgain (map naming_of ds) text of_formal
again ds d text of_formal e so =
    let front = take (length ds - 1) ds in
    record {
      before = map naming_of front;
      last = naming_of d;
      ends = ap (λ (xs : List Doubtful). map naming_of xs) (last_of ds d e)
          ∙ map-append naming_of front (d ∷ []);
      spelled = so.2;
      last_outside = so.0;
      outside = so.1;
    }

pub again_good : (few : List Naming) (text : List ℕ) (of_formal : Bool) (place : Place) →
    IsAgain few text of_formal → (h : Header) → AreGood h few →
    IsGood h (named text of_formal place)
again_good few text of_formal place so h good =
    let two = good_parts h so.before (so.last ∷ [])
    (subst (λ (ns : List Naming). AreGood h ns) so.ends good) in
    respelled h so.last (named text of_formal place) so.spelled (so.last_outside ∙ sym so.outside)
    two.1.0

-- ---- the names that are kept, from one on

pub next_naming : (ds : List Doubtful) (i : ℕ) (d : Doubtful) → i < length ds →
    d ≡ get_or ds i d →
    map naming_of (drop i ds) ≡ (naming_of d ∷ []) ++ map naming_of (drop (i + 1) ds)
next_naming ds i d below is =
    ap (λ (xs : List Doubtful). map naming_of xs) (dropped ds i d below is)

names_there : (ds : List Doubtful) (i : ℕ) (d : Doubtful) → i < length ds →
    map naming_of (drop i ds)
    ≡ (naming_of (get_or ds i d) ∷ []) ++ map naming_of (drop (i + 1) ds)
names_there ds i d below =
    next_naming ds i (get_or ds i d) below (get_or_default ds i d (get_or ds i d) below)

pub judged_next : (h : Header) (ds : List Doubtful) (i : ℕ) (d : Doubtful) → i < length ds →
    IsGood h (naming_of (get_or ds i d)) →
    Judged h (map naming_of ds) (map naming_of (drop i ds)) →
    Judged h (map naming_of ds) (map naming_of (drop (i + 1) ds))
judged_next h ds i d below good so =
    judged_on h (map naming_of ds) (map naming_of (drop i ds)) (naming_of (get_or ds i d) ∷ [])
    (map naming_of (drop (i + 1) ds)) so (names_there ds i d below) (good, tt)

pub stopped_next : (h : Header) (ds : List Doubtful) (i : ℕ) (d : Doubtful) (s : Stop) →
    i < length ds → IsNameStop h (naming_of (get_or ds i d) ∷ []) s →
    Judged h (map naming_of ds) (map naming_of (drop i ds)) → IsNameStop h (map naming_of ds) s
stopped_next h ds i d s below stop so =
    judged_stop h (map naming_of ds) (map naming_of (drop i ds)) (naming_of (get_or ds i d) ∷ [])
    (map naming_of (drop (i + 1) ds)) s so (names_there ds i d below) stop
