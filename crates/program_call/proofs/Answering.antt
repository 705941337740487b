-- What a program answers, by what its call reads and writes.
use Rattle.std.proofs.Common.{◌⊎◌, inl, inr, ◌≡◌, ℕ, ◌<◌, ◌≤◌, Bool, List, [], ◌++◌, length, true, false, refl, sym, subst, ap, ◌∙◌, append-nil, length-append, arith, IfSome, IfOk, IfErr, Result, Ok, Err, Option, Some, None}
use Rattle.std.specs.Prelude.{◌≢◌}
use Rattle.std.specs.Io.KnownBytes.{Appends, IsAtEnd}
use Rattle.std.proofs.KnownBytes.{Appends-nil}
use Rattle.std.proofs.lemmas.Bool.{both_ways}
use Rattle.scald_base.specs.Device.{ReadsAll, ReadsPast}
use Rattle.scald_base.specs.declared.call_end.CallEnd.{CallEnd}
use Rattle.scald_base.specs.declared.call_end.CallEnd.TheVariants.{BadWords, TooLong, ReadFault, WriteFault, NoMemory}
use Rattle.scald_base.specs.Outcome.{ended, end_of}
use Rattle.program_call.specs.Program.{Meaning, IsLawful, are_reading, is_no_end, is_end, ends_silent, ends_reading, speaks, outcome_of, Answer, no_form, too_long, replied, AreTold, by_source, by_words, IsAnswered, IsCutShort, IsReply, IsReplied, IsPartReplied}

-- ---- what was read

-- a source that tells its bytes, read to its end, gave all of them
pub read_whole : (left left' : Option (List ℕ)) (limit : ℕ) (all text : List ℕ) →
    ReadsAll left left' limit all → left ≡ Some text → all ≡ text
read_whole None left' limit all text read told = absurd (cc)
read_whole (Some whole) None limit all text read told = absurd read.bytes
read_whole (Some whole) (Some rest) limit all text read told =
    let same : whole ≡ text = cc in
    let bytes : whole ≡ all =
    read.bytes ∙ ap (λ (k : List ℕ). all ++ k) read.to_end ∙ append-nil all in
    sym bytes ∙ same

-- one past the limit is too long a text
pub read_past : (left left' : Option (List ℕ)) (limit : ℕ) (text : List ℕ) →
    ReadsPast left left' limit → left ≡ Some text → limit < length text
read_past None left' limit text read told = absurd (cc)
read_past (Some whole) None limit text read told = absurd read.bytes
read_past (Some whole) (Some rest) limit text read told =
    let same : whole ≡ text = cc in
    omega (arith, ap length same, read.past, ap length read.bytes, length-append read.front rest)

-- the end that an outcome is made of is the end that it is of
pub end_of_ended : (end : CallEnd) → end_of (ended end) ≡ Some end
end_of_ended (BadWords i) = refl
end_of_ended TooLong = refl
end_of_ended ReadFault = refl
end_of_ended WriteFault = refl
end_of_ended NoMemory = refl

-- ---- the reply, as it is made and written

abbrev pub reply_made : {Command Outcome : Type 0} (m : Meaning Command Outcome)
    (words : List (List ℕ)) (left left' : Option (List ℕ)) (command : Command) (read slice : List ℕ)
    (o : Outcome) (bytes : List ℕ) → Ok command ≡ m.command_of words →
    (m.reads command ≡ true → ReadsAll left left' (m.most_bytes (Ok command)) read) →
    length read ≤ m.most_bytes (Ok command) → slice ≡ read → m.Replied command slice o bytes →
    IsReply m words left left' o bytes
reply_made m words left left' command read slice o bytes form all short same is = record {
  command = command;
  form = sym form;
  text = slice;
  read = λ asks. subst (ReadsAll left left' (m.most_bytes (Ok command))) (sym same) (all asks);
  short = subst (λ (text : List ℕ). length text ≤ m.most_bytes (Ok command)) (sym same) short;
  is = is;
}

module _ {Command Outcome : Type 0} (m : Meaning Command Outcome) (lawful : IsLawful m) where
  -- ---- the form of the words

  form_reads : (words : List (List ℕ)) (command : Command) → m.command_of words ≡ Ok command →
      are_reading m.reads (m.command_of words) ≡ m.reads command
  form_reads words command form = ap (are_reading m.reads) form

  one_command : (words : List (List ℕ)) (command other : Command) →
      m.command_of words ≡ Ok command → m.command_of words ≡ Ok other → other ≡ command
  one_command words command other form form' = cc (form, form')

  no_command : (words : List (List ℕ)) (i : ℕ) (command : Command) → m.command_of words ≡ Err i →
      m.command_of words ≡ Ok command → ⊥
  no_command words i command none form = absurd (cc (none, form))

  within_or_past : (words : List (List ℕ)) (text : List ℕ) (command other : Command) →
      m.command_of words ≡ Ok command → m.command_of words ≡ Ok other → m.reads command ≡ true →
      m.most_bytes (Ok command) < length text →
      (m.reads other ≡ true → length text ≤ m.most_bytes (Ok other)) → ⊥
  within_or_past words text command other form form' asks long short =
      let same : other ≡ command = one_command words command other form form' in
      let within : length text ≤ m.most_bytes (Ok command) =
      subst (λ (k : Command). m.reads k ≡ true → length text ≤ m.most_bytes (Ok k))
      same short asks in
      absurd (omega (arith, within, long))

  -- all answers to words and a text count as one
  pub one_answer : (words : List (List ℕ)) (text : List ℕ) (o o' : Outcome)
      (bytes bytes' : List ℕ) → Answer m words text o bytes → Answer m words text o' bytes' →
      m.AreOne o bytes o' bytes'
  one_answer words text _ _ _ _ (no_form i form) (no_form j form') =
      let same : i ≡ j = cc (form, form') in
      subst (λ (k : ℕ). m.AreOne (m.ended (BadWords i)) [] (m.ended (BadWords k)) []) same
      (lawful.same (m.ended (BadWords i)) [])
  one_answer words text _ _ _ _ (no_form i form) (too_long c form' asks long') =
      absurd (no_command words i c form form')
  one_answer words text _ _ _ _ (no_form i form) (replied c o' bytes' form' short' r') =
      absurd (no_command words i c form form')
  one_answer words text _ _ _ _ (too_long c form asks long) (no_form j form') =
      absurd (no_command words j c form' form)
  one_answer words text _ _ _ _ (too_long c form asks long) (too_long c' form' asks' long') =
      lawful.same (m.ended TooLong) []
  one_answer words text _ _ _ _ (too_long c form asks long) (replied c' o' bytes' form' short' r') =
      absurd (within_or_past words text c c' form form' asks long short')
  one_answer words text _ _ _ _ (replied c o bytes form short r) (no_form j form') =
      absurd (no_command words j c form' form)
  one_answer words text _ _ _ _ (replied c o bytes form short r) (too_long c' form' asks' long') =
      absurd (within_or_past words text c' c form' form asks' long' short)
  one_answer words text _ _ _ _ (replied c o bytes form short r)
      (replied c' o' bytes' form' short' r') =
      lawful.one c text o o' bytes bytes' r
      (subst (λ (k : Command). m.Replied k text o' bytes') (one_command words c c' form form')
      r')

  -- ---- the reply, as the answer to what is told

  module _ (words : List (List ℕ)) (left left' : Option (List ℕ)) where
    -- if the form reads, what was read is what is told
    pub told_all : (text : List ℕ) (o : Outcome) (bytes : List ℕ) → AreTold m words left text →
        (r : IsReply m words left left' o bytes) → m.reads r.command ≡ true → r.text ≡ text
    told_all text o bytes (by_source told) r asks =
        read_whole left left' (m.most_bytes (Ok r.command)) r.text text (r.read asks) told
    told_all text o bytes (by_words unread) r asks =
        absurd (both_ways (m.reads r.command) (sym (form_reads words r.command r.form) ∙ unread)
        asks)

    replied_told : (command : Command) (read text : List ℕ) (o : Outcome) (bytes : List ℕ)
        (asks : Bool) → m.reads command ≡ asks → (m.reads command ≡ true → read ≡ text) →
        m.Replied command read o bytes → m.Replied command text o bytes
    replied_told command read text o bytes true is same reply =
        subst (λ (z : List ℕ). m.Replied command z o bytes) (same is) reply
    replied_told command read text o bytes false is same reply =
        lawful.unread command read text o bytes is reply

    has_answer : (text : List ℕ) (o : Outcome) (bytes : List ℕ) → AreTold m words left text →
        IsReply m words left left' o bytes → Answer m words text o bytes
    has_answer text o bytes told r =
        let same = told_all text o bytes told r in
        replied r.command o bytes r.form
        (λ asks. subst (λ (z : List ℕ). length z ≤ m.most_bytes (Ok r.command)) (same asks)
        r.short)
        (replied_told r.command r.text text o bytes (m.reads r.command) refl same r.is)

    answered_by : (text : List ℕ) (o : Outcome) (bytes : List ℕ) (taken taken' : Option (List ℕ)) →
        Answer m words text o bytes → Appends taken taken' bytes →
        IsAnswered m words text o taken taken'
    answered_by text o bytes taken taken' is written = record {
      bytes = bytes;
      is = is;
      only = λ p others other. one_answer words text p o others bytes other is;
      written = written;
    }

    pub reply_answers : (promised : Command → List ℕ → Outcome → Type 0) (text : List ℕ)
        (o : Outcome) (taken taken' : Option (List ℕ)) → AreTold m words left text →
        IsReplied m promised words left left' o taken taken' →
        IsAnswered m words text o taken taken'
    reply_answers promised text o taken taken' told r =
        answered_by text o r.bytes taken taken' (has_answer text o r.bytes told r.reply) r.written

    pub part_answers : (text : List ℕ) (taken taken' : Option (List ℕ)) →
        AreTold m words left text → IsPartReplied m words left left' taken taken' →
        IsCutShort m words text taken taken'
    part_answers text taken taken' told r = record {
      outcome = r.outcome;
      bytes = r.bytes;
      is = has_answer text r.outcome r.bytes told r.reply;
      written = r.written;
    }

    -- ---- the ends of a call, as answers

    bad_words_answer : (text : List ℕ) (taken : Option (List ℕ)) (i : ℕ) →
        m.command_of words ≡ Err i → IsAnswered m words text (m.ended (BadWords i)) taken taken
    bad_words_answer text taken i none =
        answered_by text _ [] taken taken (no_form i none) (Appends-nil taken)

    past_limit : (text : List ℕ) (taken : Option (List ℕ)) (read : Result Command ℕ) →
        m.command_of words ≡ read → are_reading m.reads read ≡ true → AreTold m words left text →
        ReadsPast left left' (m.most_bytes read) →
        IsAnswered m words text (m.ended TooLong) taken taken
    past_limit text taken (Err i) form asks told past = absurd (cc)
    past_limit text taken (Ok command) form asks (by_source told) past =
        answered_by text _ [] taken taken
        (too_long command form asks
        (read_past left left' (m.most_bytes (Ok command)) text past told)) (Appends-nil taken)
    past_limit text taken (Ok command) form asks (by_words unread) past =
        absurd (both_ways (m.reads command) (sym (form_reads words command form) ∙ unread) asks)

    -- no reply is to a text past the limit that was read
    short_reply : (o : Outcome) (bytes text : List ℕ) → IsReply m words left left' o bytes →
        left ≡ Some text → are_reading m.reads (m.command_of words) ≡ true →
        m.most_bytes (m.command_of words) < length text → ⊥
    short_reply o bytes text r told asks long =
        let limit : m.most_bytes (m.command_of words) ≡ m.most_bytes (Ok r.command) =
        ap m.most_bytes r.form in
        let same : r.text ≡ text =
        read_whole left left' (m.most_bytes (Ok r.command)) r.text text
        (r.read (sym (form_reads words r.command r.form) ∙ asks)) told in
        absurd (omega (arith, ap length same, long, r.short, limit))

  -- ---- outcomes and ends

  -- the reply's outcome is of no end
  reply_speaks : (words : List (List ℕ)) (left left' : Option (List ℕ)) (o : Outcome)
      (bytes : List ℕ) → IsReply m words left left' o bytes → m.end_of o ≡ None
  reply_speaks words left left' o bytes r = lawful.replies r.command r.text o bytes r.is

  pub end_gives : (made : Result Outcome CallEnd) (o : Outcome) (end : CallEnd) →
      o ≡ outcome_of m made → made ≡ Err end → o ≡ m.ended end
  end_gives made o end is e = is ∙ ap (outcome_of m) e

  pub other_end : (made : Result Outcome CallEnd) (o : Outcome) (end : CallEnd) →
      o ≡ outcome_of m made → o ≢ m.ended end → made ≢ Err end
  other_end made o end is other e = other (end_gives made o end is e)

  module _ (words : List (List ℕ)) (left left' taken taken' : Option (List ℕ))
      (promised : Command → List ℕ → Outcome → Type 0) where
    -- replies that were written
    abbrev AreReplied : Result Outcome CallEnd → Type 0
    AreReplied made = IfOk made (λ o. IsReplied m promised words left left' o taken taken')

    pub end_is : (made : Result Outcome CallEnd) (o : Outcome) (end : CallEnd) → AreReplied made →
        o ≡ outcome_of m made → o ≡ m.ended end → made ≡ Err end
    end_is (Ok p) o end r is e =
        let none : m.end_of p ≡ None = reply_speaks words left left' p r.bytes r.reply in
        let some : m.end_of p ≡ Some end = ap m.end_of (sym is ∙ e) ∙ lawful.ends end in
        absurd (cc (none, some))
    end_is (Err other) o end r is e =
        let same : Some other ≡ Some end =
        sym (lawful.ends other) ∙ ap m.end_of (sym is ∙ e) ∙ lawful.ends end in
        let one : other ≡ end = cc in ap Err one

    -- what is true at some ends, of an outcome that is of such an end
    pub at_end : (made : Result Outcome CallEnd) (o : Outcome) (test : CallEnd → Bool)
        (X : Type 0) → AreReplied made → o ≡ outcome_of m made →
        IfErr made (λ end. test end ≡ true → X) → is_end test (m.end_of o) ≡ true → X
    at_end (Ok p) o test X r is f e =
        let none : m.end_of o ≡ None =
        ap m.end_of is ∙ reply_speaks words left left' p r.bytes r.reply in
        let no : is_end test (m.end_of o) ≡ false = ap (is_end test) none in
        absurd (both_ways (is_end test (m.end_of o)) no e)
    at_end (Err end) o test X r is f e =
        let some : m.end_of o ≡ Some end = ap m.end_of is ∙ lawful.ends end in
        f (sym (ap (is_end test) some) ∙ e)

    pub speaks_replied : (made : Result Outcome CallEnd) (o : Outcome) → AreReplied made →
        o ≡ outcome_of m made → speaks m o ≡ true →
        IsReplied m promised words left left' o taken taken'
    speaks_replied (Ok p) o r is e =
        subst (λ (z : Outcome). IsReplied m promised words left left' z taken taken') (sym is) r
    speaks_replied (Err end) o r is e =
        let no : speaks m o ≡ false =
        ap is_no_end (ap m.end_of is ∙ lawful.ends end) in absurd (both_ways (speaks m o) no e)

    -- ---- the clauses

    pub at_source_end : (made : Result Outcome CallEnd) (o : Outcome) → AreReplied made →
        o ≡ outcome_of m made →
        IfSome left (λ text. are_reading m.reads (m.command_of words) ≡ true → speaks m o ≡ true →
        IsAtEnd left')
    at_source_end made o r is =
        by_left left (λ asks spoken. let reply = (speaks_replied made o r is spoken).reply in
        (reply.read (sym (form_reads words reply.command reply.form) ∙ asks)).to_end)
      where
        by_left : (l : Option (List ℕ)) → (are_reading m.reads (m.command_of words) ≡ true →
            speaks m o ≡ true → IfSome l (λ _. IsAtEnd left')) →
            IfSome l (λ text. are_reading m.reads (m.command_of words) ≡ true → speaks m o ≡ true →
            IsAtEnd left')
        by_left None f = tt
        by_left (Some text) f = f

    pub whole_answer : {K : Type 0} (contents : K → Option (List ℕ)) (sink sink' : K) →
        taken ≡ contents sink → taken' ≡ contents sink' →
        (made : Result Outcome CallEnd) (o : Outcome) (text : List ℕ)
        (Failed FailedWrite : Type 0) → o ≡ outcome_of m made → AreTold m words left text →
        AreReplied made → ((i : ℕ) → made ≡ Err (BadWords i) → m.command_of words ≡ Err i) →
        IfErr made (λ end. ends_reading end ≡ true →
        are_reading m.reads (m.command_of words) ≡ true) →
        IfErr made (λ end. ends_silent end ≡ true → sink' ≡ sink) →
        (made ≡ Err TooLong → ReadsPast left left' (m.most_bytes (m.command_of words))) →
        (made ≡ Err ReadFault → Failed) → (made ≡ Err WriteFault → FailedWrite) →
        (are_reading m.reads (m.command_of words) ≡ true → ¬ Failed) → ¬ FailedWrite →
        (o ≡ m.ended NoMemory) ⊎ IsAnswered m words text o taken taken'
    whole_answer contents sink sink' before after made o text Failed FailedWrite is told =
        go made is
      where
        kept : sink' ≡ sink → taken ≡ taken'
        kept same = before ∙ ap contents (sym same) ∙ sym after

        silent : (end : CallEnd) → o ≡ m.ended end → sink' ≡ sink →
            IsAnswered m words text (m.ended end) taken taken →
            IsAnswered m words text o taken taken'
        silent end of same answered =
            subst (λ (p : Outcome). IsAnswered m words text p taken taken') (sym of)
            (subst (IsAnswered m words text (m.ended end) taken) (kept same) answered)

        go : (made : Result Outcome CallEnd) → o ≡ outcome_of m made → AreReplied made → ((i : ℕ) →
            made ≡ Err (BadWords i) → m.command_of words ≡ Err i) →
            IfErr made (λ end. ends_reading end ≡ true →
            are_reading m.reads (m.command_of words) ≡ true) →
            IfErr made (λ end. ends_silent end ≡ true → sink' ≡ sink) →
            (made ≡ Err TooLong → ReadsPast left left' (m.most_bytes (m.command_of words))) →
            (made ≡ Err ReadFault → Failed) → (made ≡ Err WriteFault → FailedWrite) →
            (are_reading m.reads (m.command_of words) ≡ true → ¬ Failed) → ¬ FailedWrite →
            (o ≡ m.ended NoMemory) ⊎ IsAnswered m words text o taken taken'
        go (Ok p) of r none first quiet past failed failed' calm calm' =
            inr (reply_answers words left left' promised text o taken taken' told
            (subst (λ (z : Outcome). IsReplied m promised words left left' z taken taken')
            (sym of) r))
        go (Err (BadWords i)) of r none first quiet past failed failed' calm calm' =
            inr (silent (BadWords i) of (quiet refl)
            (bad_words_answer words left left' text taken i (none i refl)))
        go (Err TooLong) of r none first quiet past failed failed' calm calm' =
            inr (silent TooLong of (quiet refl)
            (past_limit words left left' text taken (m.command_of words) refl (first refl) told
            (past refl)))
        go (Err ReadFault) of r none first quiet past failed failed' calm calm' =
            absurd (calm (first refl) (failed refl))
        go (Err WriteFault) of r none first quiet past failed failed' calm calm' =
            absurd (calm' (failed' refl))
        go (Err NoMemory) of r none first quiet past failed failed' calm calm' = inl of

    pub long_text : (made : Result Outcome CallEnd) (o : Outcome) (Failed : Type 0) →
        o ≡ outcome_of m made → AreReplied made → ((i : ℕ) → made ≡ Err (BadWords i) →
        m.command_of words ≡ Err i) →
        (made ≡ Err ReadFault → Failed) → (made ≡ Err WriteFault →
        IsPartReplied m words left left' taken taken') →
        IfSome left (λ text. are_reading m.reads (m.command_of words) ≡ true →
        m.most_bytes (m.command_of words) < length text → ¬ Failed →
        (o ≡ m.ended NoMemory) ⊎ (o ≡ m.ended TooLong))
    long_text made o Failed is replies none failed part =
        by_left left (λ text told asks long calm. go text told asks long calm made is replies none failed part)
      where
        by_left : (l : Option (List ℕ)) →
            ((text : List ℕ) → l ≡ Some text → are_reading m.reads (m.command_of words) ≡ true →
            m.most_bytes (m.command_of words) < length text → ¬ Failed →
            (o ≡ m.ended NoMemory) ⊎ (o ≡ m.ended TooLong)) →
            IfSome l (λ text. are_reading m.reads (m.command_of words) ≡ true →
            m.most_bytes (m.command_of words) < length text → ¬ Failed →
            (o ≡ m.ended NoMemory) ⊎ (o ≡ m.ended TooLong))
        by_left None f = tt
        by_left (Some text) f = f text refl

        go : (text : List ℕ) → left ≡ Some text → are_reading m.reads (m.command_of words) ≡ true →
            m.most_bytes (m.command_of words) < length text → ¬ Failed →
            (made : Result Outcome CallEnd) → o ≡ outcome_of m made → AreReplied made → ((i : ℕ) →
            made ≡ Err (BadWords i) → m.command_of words ≡ Err i) →
            (made ≡ Err ReadFault → Failed) → (made ≡ Err WriteFault →
            IsPartReplied m words left left' taken taken') →
            (o ≡ m.ended NoMemory) ⊎ (o ≡ m.ended TooLong)
        go text told asks long calm (Ok p) of r none failed part =
            absurd (short_reply words left left' p r.bytes text r.reply told asks long)
        go text told asks long calm (Err (BadWords i)) of r none failed part =
            absurd (both_ways (are_reading m.reads (m.command_of words))
            (ap (are_reading m.reads) (none i refl)) asks)
        go text told asks long calm (Err TooLong) of r none failed part = inr of
        go text told asks long calm (Err ReadFault) of r none failed part =
            absurd (calm (failed refl))
        go text told asks long calm (Err WriteFault) of r none failed part =
            let some = part refl in absurd
            (short_reply words left left' some.outcome some.bytes text some.reply told asks long)
        go text told asks long calm (Err NoMemory) of r none failed part = inl of
