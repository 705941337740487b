-- Declarations one after another.
use Rattle.std.proofs.Common.{◌≡◌, ◌≢◌, List, [], ◌∷◌, ◌++◌, refl, sym, ap, ◌∙◌, subst, append_assoc}
use Rattle.std.specs.Prelude.{Contains, Result, Ok, Err, MatchResult}
use Rattle.std.proofs.lemmas.List.{map-append, append-nil, get_or_default}
use Rattle.std.proofs.lemmas.List.Quantifiers.{all_pairs_push}
use Rattle.scald_base.specs.declared.refusal.Refusal.{Refusal}
use Rattle.drawing_grammar.specs.DoubleNames.{Key, Declaration, keys_of, AreDifferent, double_at, Repeats, Declares, Goes, IsStopAt}
use Rattle.scald_base.specs.declared.refusal.Stop.{Stop}
use Rattle.scald_base.specs.declared.refusal.Stop.TheVariants.{Refused, NoMemory}

pub declares_none : (taken : List Key) → Declares taken taken []
declares_none taken = record { added = sym (append-nil taken); different = λ h. h }

-- the keys of some, and then of others
keys_both : (taken now : List Key) (ds es : List Declaration) → now ≡ taken ++ keys_of ds → taken ++ keys_of (ds ++ es) ≡ now ++ keys_of es
keys_both taken now ds es e =
    ap (λ (ks : List Key). taken ++ ks) (map-append (λ d. d.key) ds es)
    ∙ (sym (append_assoc taken (keys_of ds) (keys_of es)) ∙ ap (λ (ks : List Key). ks ++ keys_of es) (sym e))

pub declares_both : (taken now later : List Key) (ds es : List Declaration) → Declares taken now ds → Declares now later es → Declares taken later (ds ++ es)
declares_both taken now later ds es first second = record {
  added = second.added ∙ sym (keys_both taken now ds es first.added);
  different = λ h. second.different (first.different h);
}

pub repeats_first : (taken : List Key) (ds es : List Declaration) (r : Refusal) → Repeats taken ds r → Repeats taken (ds ++ es) r
repeats_first taken ds es r found = record {
  before = found.before;
  again = found.again;
  after = found.after ++ es;
  parts = ap (λ (xs : List Declaration). xs ++ es) found.parts ∙ append_assoc found.before (found.again ∷ found.after) es;
  first = found.first;
  double = found.double;
  refusal = found.refusal;
}

pub repeats_later : (taken now : List Key) (ds es : List Declaration) (r : Refusal) → Declares taken now ds → Repeats now es r → Repeats taken (ds ++ es) r
repeats_later taken now ds es r made found =
    let e = keys_both taken now ds found.before made.added in
    record {
      before = ds ++ found.before;
      again = found.again;
      after = found.after;
      parts = ap (λ (xs : List Declaration). ds ++ xs) found.parts ∙ sym (append_assoc ds found.before (found.again ∷ found.after));
      first = λ h. let F : List Key → Type 0 = λ ks. AreDifferent ks in subst F (sym e) (found.first (made.different h));
      double = let F : List Key → Type 0 = λ ks. Contains ks found.again.key in subst F (sym e) found.double;
      refusal = found.refusal;
    }

pub declares_one : (taken : List Key) (d : Declaration) → (Contains taken d.key → ⊥) → Declares taken (taken ++ d.key ∷ []) (d ∷ [])
declares_one taken d new = record {
  added = refl;
  different = λ h. all_pairs_push (λ a b. a ≢ b) taken d.key h (λ k e below same. new (k, below, get_or_default taken k d.key e below ∙ same));
}

pub repeats_one : (taken : List Key) (d : Declaration) → Contains taken d.key → Repeats taken (d ∷ []) (double_at d.place)
repeats_one taken d found = record {
  before = [];
  again = d;
  after = [];
  parts = refl;
  first = λ h. let F : List Key → Type 0 = λ ks. AreDifferent ks in subst F (sym (append-nil taken)) h;
  double = let F : List Key → Type 0 = λ ks. Contains ks d.key in subst F (sym (append-nil taken)) found;
  refusal = refl;
}

-- ---- a list of declarations, some at a time

pub goes_end : (taken now : List Key) (all rest : List Declaration) → Goes taken now all rest → rest ≡ [] → Declares taken now all
goes_end taken now all rest goes none =
    let e : all ≡ goes.done = goes.parts ∙ (ap (λ (ds : List Declaration). goes.done ++ ds) none ∙ append-nil goes.done) in
    let F : List Declaration → Type 0 = λ ds. Declares taken now ds in subst F (sym e) goes.declares

pub goes_on : (taken now later : List Key) (all rest some others : List Declaration) → Goes taken now all rest → rest ≡ some ++ others → Declares now later some → Goes taken later all others
goes_on taken now later all rest some others goes e more = record {
  done = goes.done ++ some;
  parts = goes.parts ∙ (ap (λ (ds : List Declaration). goes.done ++ ds) e ∙ sym (append_assoc goes.done some others));
  declares = declares_both taken now later goes.done some goes.declares more;
}

pub stops_there : (taken now : List Key) (all rest some others : List Declaration) (r : Refusal) → Goes taken now all rest → rest ≡ some ++ others → Repeats now some r → Repeats taken all r
stops_there taken now all rest some others r goes e found =
    let parts : all ≡ goes.done ++ (some ++ others) = goes.parts ∙ ap (λ (ds : List Declaration). goes.done ++ ds) e in
    let F : List Declaration → Type 0 = λ ds. Repeats taken ds r in
    subst F (sym parts) (repeats_later taken now goes.done (some ++ others) r goes.declares (repeats_first now some others r found))

pub stop_there : (taken now : List Key) (all rest some others : List Declaration) (s : Stop) → Goes taken now all rest → rest ≡ some ++ others → IsStopAt now some s → IsStopAt taken all s
stop_there taken now all rest some others (Refused r) goes e found = stops_there taken now all rest some others r goes e found
stop_there taken now all rest some others NoMemory goes e found = tt

pub stop_first : (taken : List Key) (ds es : List Declaration) (s : Stop) → IsStopAt taken ds s → IsStopAt taken (ds ++ es) s
stop_first taken ds es (Refused r) found = repeats_first taken ds es r found
stop_first taken ds es NoMemory found = tt

pub stop_later : (taken now : List Key) (ds es : List Declaration) (s : Stop) → Declares taken now ds → IsStopAt now es s → IsStopAt taken (ds ++ es) s
stop_later taken now ds es (Refused r) made found = repeats_later taken now ds es r made found
stop_later taken now ds es NoMemory made found = tt

-- ---- answers

pub declared_as : (taken now : List Key) (ds es : List Declaration) → es ≡ ds → Declares taken now ds → Declares taken now es
declared_as taken now ds es e made = let F : List Declaration → Type 0 = λ xs. Declares taken now xs in subst F (sym e) made

pub stopped_as : (taken : List Key) (ds es : List Declaration) (s : Stop) → es ≡ ds → IsStopAt taken ds s → IsStopAt taken es s
stopped_as taken ds es s e found = let F : List Declaration → Type 0 = λ xs. IsStopAt taken xs s in subst F (sym e) found

pub given_as : {A : Type 0} (r : Result A Stop) (taken now : List Key) (ds es : List Declaration) →
    es ≡ ds → MatchResult r (λ _. Declares taken now ds) (IsStopAt taken ds) → MatchResult r (λ _. Declares taken now es) (IsStopAt taken es)
given_as (Ok x) taken now ds es e given = declared_as taken now ds es e given
given_as (Err s) taken now ds es e given = stopped_as taken ds es s e given

pub given_later : {A : Type 0} (r : Result A Stop) (taken now later : List Key) (ds es : List Declaration) → Declares taken now ds →
    MatchResult r (λ _. Declares now later es) (IsStopAt now es) → MatchResult r (λ _. Declares taken later (ds ++ es)) (IsStopAt taken (ds ++ es))
given_later (Ok x) taken now later ds es made given = declares_both taken now later ds es made given
given_later (Err s) taken now later ds es made given = stop_later taken now ds es s made given
