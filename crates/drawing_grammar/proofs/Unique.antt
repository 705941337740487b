-- The tokens of a text draw one drawing, or are refused in one way.
use Rattle.std.proofs.Common.{◌≡◌, Bool, false, List, [], ◌∷◌, ◌++◌, Result, Ok, Err, refl, sym, ap, ◌∙◌, subst, append_assoc}
use Rattle.std.proofs.lemmas.List.{map-append}
use Rattle.scald_base.specs.Time.{Header}
use Rattle.scald_base.specs.declared.refusal.Place.{Place}
use Rattle.scald_base.specs.declared.refusal.Refusal.{Refusal}
use Rattle.scald_base.specs.declared.refusal.RefusalKind.{RefusalKind}
use Rattle.assertion_syntax.specs.declared.name.SignalName.{SignalName}
use Rattle.assertion_syntax.proofs.Names.{names_one}
use Rattle.drawing_tree.specs.Tree as tree
use Rattle.drawing_grammar.specs.Lexeme.{Lexeme}
use Rattle.drawing_grammar.specs.declared.edition.Edition.{Edition}
use Rattle.drawing_grammar.specs.Edition.{edition_of}
use Rattle.drawing_grammar.specs.Header.{judged}
use Rattle.drawing_grammar.specs.Names.{Naming, names, names_from, IsGood, IsNameFault, no_formal, no_interval, overlapping, IsFault, no_name, bad_name, AreGood, IsBadName}
use Rattle.drawing_grammar.specs.DoubleNames.{Key, Declaration, primitives, keys_of, AreDifferent, IsDistinct, IsDoubleName, double_at}
use Rattle.drawing_grammar.specs.Sketch.{Sketch, Values}
use Rattle.drawing_grammar.specs.Machine.{Verdict, Complete, Refused, verdict}
use Rattle.drawing_grammar.specs.Written.{values}
use Rattle.drawing_grammar.specs.Draws.{whole, IsRefused}
use Rattle.drawing_grammar.specs.Drawing.{WrittenBy, drawing_of_sketch, declared_by, IsText, Draws, IsWrong, grammar, header, name, double}
use Rattle.drawing_grammar.proofs.First.{first_one, different_front, not_different}
use Rattle.drawing_grammar.proofs.Heads.{names_of_text}
use Rattle.drawing_grammar.proofs.Places.{complete}
use Rattle.drawing_grammar.proofs.Whole.{chained_whole, refused_so}

-- ---- one sketch

completes : (ts : List Lexeme) (w : WrittenBy ts) → IsText ts w → verdict ts (whole (edition_of ts)) 0 ≡ Complete (values w)
completes ts w text = complete ts (whole (edition_of ts)) 0 w (chained_whole (edition_of ts)) text.spelled text.within

one_complete : (e : Edition) (v u : Values (whole e)) → ◌≡◌ {A = Verdict (whole e)} (Complete v) (Complete u) → v.0 ≡ u.0
one_complete e v u h = let k : v ≡ u = cc in ap (λ (w : Values (whole e)). w.0) k

sketches : (ts : List Lexeme) (w u : WrittenBy ts) → IsText ts w → IsText ts u → (values w).0 ≡ (values u).0
sketches ts w u a b = one_complete (edition_of ts) (values w) (values u) (sym (completes ts w a) ∙ completes ts u b)

pub not_refused : (e : Edition) (v : Values (whole e)) (r : Refusal) → ◌≡◌ {A = Verdict (whole e)} (Complete v) (Refused r) → ⊥
not_refused e v r h = cc

pub one_refused : (e : Edition) (r s : Refusal) → ◌≡◌ {A = Verdict (whole e)} (Refused r) (Refused s) → r ≡ s
one_refused e r s h = cc

written_not_refused : (ts : List Lexeme) (w : WrittenBy ts) (r : Refusal) → IsText ts w → IsRefused ts r → ⊥
written_not_refused ts w r text wrong = not_refused (edition_of ts) (values w) r (sym (completes ts w text) ∙ refused_so ts r wrong)

same_names : (ts : List Lexeme) (w u : WrittenBy ts) → IsText ts w → IsText ts u → names w ≡ names u
same_names ts w u a b =
    names_of_text (edition_of ts) w ∙ (ap (λ (xs : List Lexeme). names_from false xs) (a.spelled ∙ sym b.spelled) ∙ sym (names_of_text (edition_of ts) u))

pub one_refusal_by : (r s : Refusal) → r.kind ≡ s.kind → r.place ≡ s.place → r ≡ s
one_refusal_by r s k p =
    ap (λ (x : RefusalKind). let q : Refusal = record { kind = x; place = r.place } in q) k
    ∙ ap (λ (x : Place). let q : Refusal = record { kind = s.kind; place = x } in q) p

-- ---- one bad name

good_front : (h : Header) (xs ys : List Naming) → AreGood h (xs ++ ys) → AreGood h xs
good_front h [] ys g = tt
good_front h (x ∷ xs) ys g = (g.0, good_front h xs ys g.1)

good_last : (h : Header) (xs : List Naming) (x : Naming) → AreGood h (xs ++ x ∷ []) → IsGood h x
good_last h [] x g = g.0
good_last h (y ∷ ys) x g = good_last h ys x g.1

not_both_faults : (h : Header) (n : Naming) (kind : RefusalKind) (good : IsGood h n) → IsNameFault h n.of_formal good.name kind → ⊥
not_both_faults h n kind good (no_formal f) = f good.plain
not_both_faults h n kind good (no_interval f) = f good.fits.intervals
not_both_faults h n kind good (overlapping m i o) = good.fits.edges o

good_is_no_fault : (h : Header) (n : Naming) (kind : RefusalKind) → IsGood h n → IsFault h n kind → ⊥
good_is_no_fault h n kind good (no_name none) = none good.name good.spelled
good_is_no_fault h n kind good (bad_name named spelled fault) =
    let same : named ≡ good.name = names_one named good.name n.text spelled good.spelled in
    let F : SignalName → Type 0 = λ m. IsNameFault h n.of_formal m kind in
    not_both_faults h n kind good (subst F same fault)

one_name_fault : (h : Header) (of_formal : Bool) (m : SignalName) (kind other : RefusalKind) → IsNameFault h of_formal m kind → IsNameFault h of_formal m other → kind ≡ other
one_name_fault h of_formal m _ _ (no_formal f) (no_formal g) = refl
one_name_fault h of_formal m _ _ (no_formal f) (no_interval g) = refl
one_name_fault h of_formal m _ _ (no_formal f) (overlapping plain fits over) = absurd (f plain)
one_name_fault h of_formal m _ _ (no_interval f) (no_formal g) = refl
one_name_fault h of_formal m _ _ (no_interval f) (no_interval g) = refl
one_name_fault h of_formal m _ _ (no_interval f) (overlapping plain fits over) = absurd (f fits)
one_name_fault h of_formal m _ _ (overlapping plain fits over) (no_formal g) = absurd (g plain)
one_name_fault h of_formal m _ _ (overlapping plain fits over) (no_interval g) = absurd (g fits)
one_name_fault h of_formal m _ _ (overlapping plain fits over) (overlapping plain' fits' over') = refl

one_fault : (h : Header) (n : Naming) (kind other : RefusalKind) → IsFault h n kind → IsFault h n other → kind ≡ other
one_fault h n _ _ (no_name none) (no_name none') = refl
one_fault h n _ _ (no_name none) (bad_name m spelled fault) = absurd (none m spelled)
one_fault h n _ _ (bad_name m spelled fault) (no_name none) = absurd (none m spelled)
one_fault h n kind other (bad_name m spelled fault) (bad_name m' spelled' fault') =
    let same : m ≡ m' = names_one m m' n.text spelled spelled' in
    let F : SignalName → Type 0 = λ k. IsNameFault h n.of_formal k kind in
    one_name_fault h n.of_formal m' kind other (subst F same fault) fault'

not_good : (h : Header) (ns : List Naming) (r : Refusal) → IsBadName h ns r → AreGood h ns → ⊥
not_good h ns r wrong good =
    let F : List Naming → Type 0 = λ ms. AreGood h ms in
    let parted : AreGood h (wrong.before ++ wrong.bad ∷ wrong.after) = subst F wrong.parts good in
    good_is_no_fault h wrong.bad r.kind
    (good_last h wrong.before wrong.bad (good_front h (wrong.before ++ wrong.bad ∷ []) wrong.after (subst F (sym (append_assoc wrong.before (wrong.bad ∷ []) wrong.after)) parted)))
    wrong.fault

one_bad_name : (h : Header) (ns : List Naming) (r s : Refusal) → IsBadName h ns r → IsBadName h ns s → r ≡ s
one_bad_name h ns r s a b =
    let same = first_one (λ ms. AreGood h ms) (good_front h) a.before a.bad a.after b.before b.bad b.after (sym a.parts ∙ b.parts) a.good b.good
    (λ g. good_is_no_fault h a.bad r.kind (good_last h a.before a.bad g) a.fault)
    (λ g. good_is_no_fault h b.bad s.kind (good_last h b.before b.bad g) b.fault) in
    let F : Naming → Type 0 = λ n. IsFault h n r.kind in
    let kinds : r.kind ≡ s.kind = one_fault h b.bad r.kind s.kind (subst F same.1 a.fault) b.fault in
    let places : r.place ≡ s.place = a.place ∙ (ap (λ (n : Naming). n.place) same.1 ∙ sym b.place) in
    one_refusal_by r s kinds places

-- ---- one double name

keys_behind : (ds es : List Declaration) → primitives ++ keys_of (ds ++ es) ≡ (primitives ++ keys_of ds) ++ keys_of es
keys_behind ds es = ap (λ (ks : List Key). primitives ++ ks) (map-append (λ d. d.key) ds es) ∙ sym (append_assoc primitives (keys_of ds) (keys_of es))

distinct_front : (ds es : List Declaration) → IsDistinct (ds ++ es) → IsDistinct ds
distinct_front ds es h =
    let F : List Key → Type 0 = λ ks. AreDifferent ks in
    different_front (primitives ++ keys_of ds) (keys_of es) (subst F (keys_behind ds es) h)

not_distinct_behind : (ds : List Declaration) (r : Refusal) (wrong : IsDoubleName ds r) → IsDistinct (wrong.before ++ wrong.again ∷ []) → ⊥
not_distinct_behind ds r wrong h =
    let F : List Key → Type 0 = λ ks. AreDifferent ks in
    not_different (primitives ++ keys_of wrong.before) wrong.again.key wrong.double (subst F (keys_behind wrong.before (wrong.again ∷ [])) h)

not_distinct : (ds : List Declaration) (r : Refusal) → IsDoubleName ds r → IsDistinct ds → ⊥
not_distinct ds r wrong h =
    let F : List Declaration → Type 0 = λ es. IsDistinct es in
    not_distinct_behind ds r wrong (distinct_front (wrong.before ++ wrong.again ∷ []) wrong.after
    (subst F (sym (append_assoc wrong.before (wrong.again ∷ []) wrong.after)) (subst F wrong.parts h)))

one_double : (ds : List Declaration) (r s : Refusal) → IsDoubleName ds r → IsDoubleName ds s → r ≡ s
one_double ds r s a b =
    let same = first_one (λ es. IsDistinct es) distinct_front a.before a.again a.after b.before b.again b.after (sym a.parts ∙ b.parts) a.first b.first
    (not_distinct_behind ds r a) (not_distinct_behind ds s b) in
    a.refusal ∙ (ap (λ (d : Declaration). double_at d.place) same.1 ∙ sym b.refusal)

-- ---- one drawing, or one refusal

judged_same : (ts : List Lexeme) (w u : WrittenBy ts) → IsText ts w → IsText ts u → judged (values w).0.header ≡ judged (values u).0.header
judged_same ts w u a b = ap (λ (s : Sketch). judged s.header) (sketches ts w u a b)

ok_err : (j : Result Header Refusal) (h : Header) (r : Refusal) → j ≡ Ok h → j ≡ Err r → ⊥
ok_err j h r a b = cc

ok_ok : (j : Result Header Refusal) (h k : Header) → j ≡ Ok h → j ≡ Ok k → h ≡ k
ok_ok j h k a b = cc

err_err : (j : Result Header Refusal) (r s : Refusal) → j ≡ Err r → j ≡ Err s → r ≡ s
err_err j r s a b = cc

pub one_drawing : (ts : List Lexeme) (d e : tree.Drawing) → Draws ts d → Draws ts e → d ≡ e
one_drawing ts d e a b = sym a.stands ∙ (ap drawing_of_sketch (sketches ts a.written b.written a.text b.text) ∙ b.stands)

-- the names of the one are as good as those of the other, by one header
good_same : (ts : List Lexeme) (w u : WrittenBy ts) (h k : Header) → IsText ts w → IsText ts u →
    judged (values w).0.header ≡ Ok h → judged (values u).0.header ≡ Ok k → AreGood h (names w) → AreGood k (names u)
good_same ts w u h k a b e f good =
    let one : h ≡ k = ok_ok (judged (values u).0.header) h k (sym (judged_same ts w u a b) ∙ e) f in
    let F : List Naming → Type 0 = λ ns. AreGood h ns in
    let G : Header → Type 0 = λ x. AreGood x (names u) in
    subst G one (subst F (same_names ts w u a b) good)

bad_same : (ts : List Lexeme) (w u : WrittenBy ts) (h k : Header) (r : Refusal) → IsText ts w → IsText ts u →
    judged (values w).0.header ≡ Ok h → judged (values u).0.header ≡ Ok k → IsBadName h (names w) r → IsBadName k (names u) r
bad_same ts w u h k r a b e f bad =
    let one : h ≡ k = ok_ok (judged (values u).0.header) h k (sym (judged_same ts w u a b) ∙ e) f in
    let F : List Naming → Type 0 = λ ns. IsBadName h ns r in
    let G : Header → Type 0 = λ x. IsBadName x (names u) r in
    subst G one (subst F (same_names ts w u a b) bad)

pub draws_is_not_wrong : (ts : List Lexeme) (d : tree.Drawing) (r : Refusal) → Draws ts d → IsWrong ts r → ⊥
draws_is_not_wrong ts d r a (grammar wrong) = written_not_refused ts a.written r a.text wrong
draws_is_not_wrong ts d r a (header w text e) = ok_err (judged (values w).0.header) d.header r (judged_same ts w a.written text a.text ∙ a.header) e
draws_is_not_wrong ts d r a (name w h text e bad) =
    not_good h (names w) r bad (good_same ts a.written w d.header h a.text text a.header e a.names)
draws_is_not_wrong ts d r a (double w h text e good wrong) =
    let F : Sketch → Type 0 = λ s. IsDistinct (declared_by s) in
    not_distinct (declared_by (values w).0) r wrong (subst F (sketches ts a.written w a.text text) a.distinct)

pub one_wrong : (ts : List Lexeme) (r s : Refusal) → IsWrong ts r → IsWrong ts s → r ≡ s
one_wrong ts r s (grammar a) (grammar b) = one_refused (edition_of ts) r s (sym (refused_so ts r a) ∙ refused_so ts s b)
one_wrong ts r s (grammar a) (header w text e) = absurd (written_not_refused ts w r text a)
one_wrong ts r s (grammar a) (name w h text e bad) = absurd (written_not_refused ts w r text a)
one_wrong ts r s (grammar a) (double w h text e good wrong) = absurd (written_not_refused ts w r text a)
one_wrong ts r s (header w text e) (grammar b) = absurd (written_not_refused ts w s text b)
one_wrong ts r s (header w text e) (header u other f) = err_err (judged (values w).0.header) r s e (judged_same ts w u text other ∙ f)
one_wrong ts r s (header w text e) (name u h other f bad) = absurd (ok_err (judged (values w).0.header) h r (judged_same ts w u text other ∙ f) e)
one_wrong ts r s (header w text e) (double u h other f good wrong) = absurd (ok_err (judged (values w).0.header) h r (judged_same ts w u text other ∙ f) e)
one_wrong ts r s (name w h text e bad) (grammar b) = absurd (written_not_refused ts w s text b)
one_wrong ts r s (name w h text e bad) (header u other f) = absurd (ok_err (judged (values u).0.header) h s (judged_same ts u w other text ∙ e) f)
one_wrong ts r s (name w h text e bad) (name u k other f bad') = one_bad_name k (names u) r s (bad_same ts w u h k r text other e f bad) bad'
one_wrong ts r s (name w h text e bad) (double u k other f good wrong) =
    absurd (not_good k (names u) r (bad_same ts w u h k r text other e f bad) good)
one_wrong ts r s (double w h text e good wrong) (grammar b) = absurd (written_not_refused ts w s text b)
one_wrong ts r s (double w h text e good wrong) (header u other f) = absurd (ok_err (judged (values u).0.header) h s (judged_same ts u w other text ∙ e) f)
one_wrong ts r s (double w h text e good wrong) (name u k other f bad) =
    absurd (not_good k (names u) s bad (good_same ts w u h k text other e f good))
one_wrong ts r s (double w h text e good wrong) (double u k other f good' wrong') =
    let F : Sketch → Type 0 = λ x. IsDoubleName (declared_by x) r in
    one_double (declared_by (values u).0) r s (subst F (sketches ts w u text other) wrong) wrong'
