-- What the plain reader takes is what the words say, and what they say it takes.
use Rattle.std.proofs.Common.{refl, ap, sym, subst, ◌≡◌, ◌∙◌, ℕ, Bool, true, false, ◌||◌, List, [], ◌∷◌, ◌++◌, map, Option, Some, None, codes, inl, inr}
use Rattle.std.proofs.Common.{append_assoc, append-nil}
use Rattle.std.specs.Prelude.{option_map}
use Rattle.std.specs.List.{list_any}
use Rattle.std.specs.Str.{bytes_eq}
use Rattle.std.proofs.lemmas.Bool.{cases_Bool}
use Rattle.std.proofs.lemmas.Slice.Eq.{bytes_eq-Decides}
use Rattle.clap.specs.Lexer.{long_of, short_of}
use Rattle.list_words.specs.Lists.{Each, IsOneOf, AreDifferent}
use Rattle.list_words.proofs.EachLemmas.{each_of, each_at, each_weaker, different_rest, different_more}
use Rattle.list_words.proofs.GetLemmas.{same_some}
use Rattle.list_words.proofs.TestLemmas.{or_none}
use Rattle.command_words.specs.Words.{IsFileName, IsNumber, Say, file, apart, joined, ended, flag, flag_with, option_names, Said, IsTold, IsSaid}
use Rattle.command_words.specs.Reading.{Text, dashes, is_plain, is_name, Texts, has_option, value_of, with_file, with_option, said}
use Rattle.command_words.specs.Reading.{nothing as no_texts}
use Rattle.command_words.specs.Command.{Kept, kept, taken}
use Rattle.command_words.specs.Views.{IsToldAs, AreJudged}
use Rattle.command_words.proofs.ReadingLemmas.{said_ends, said_unknown, said_twice, said_attached, said_bare, said_short, said_file, said_no_value}
use Rattle.command_words.proofs.ReadingLemmas.{said_value, said_value_twice}
use Rattle.command_words.proofs.SpellingLemmas.{file_plain, number_plain, plain_is, by_names, name_listed, listed_name, flag_read, joined_read, long_back}
use Rattle.command_words.proofs.ValueLemmas.{AreValues, name_in, names_same, numbers_of, other_bytes, apart_bytes, value_there, told_valued, valued_told}
use Rattle.command_words.proofs.ValueLemmas.{number_there}

-- ---- options so far

or_false : (b : Bool) → (b || false) ≡ b
or_false true = refl
or_false false = refl

or_assoc : (a b c : Bool) → (a || (b || c)) ≡ ((a || b) || c)
or_assoc true b c = refl
or_assoc false b c = refl

-- an option was named before one more was, or it is that one
has_more : (other name value : Text) (values : List (Text × Text))
    → list_any (λ p. bytes_eq p.0 other) (values ++ (name, value) ∷ []) ≡ (list_any (λ p. bytes_eq p.0 other) values || bytes_eq name other)
has_more other name value [] = or_false (bytes_eq name other)
has_more other name value (p ∷ values) =
    ap (λ b. bytes_eq p.0 other || b) (has_more other name value values)
    ∙ or_assoc (bytes_eq p.0 other) (list_any (λ q. bytes_eq q.0 other) values) (bytes_eq name other)

-- what is new behind one option more was new before, and is another
new_before : (other name value : Text) (s : Texts) → has_option other (with_option name value s) ≡ false
    → (has_option other s ≡ false) × (bytes_eq name other ≡ false)
new_before other name value s new =
    or_none (has_option other s) (bytes_eq name other) (sym (has_more other name value s.options) ∙ new)

new_behind : (other name value : Text) (s : Texts) → has_option other s ≡ false → bytes_eq name other ≡ false
    → has_option other (with_option name value s) ≡ false
new_behind other name value s new unlike = has_more other name value s.options ∙ rw (new, unlike) refl

-- ---- from what was taken to what is said

-- behind the texts so far these words were read to the last: which files and options they added, and that they say so
pub record AreRead (words : List Text) (so_far last : Texts) : Type 0 where
  pub files : List Text
  pub values : List (Text × Text)
  pub all_files : last.files ≡ so_far.files ++ files
  pub all_values : last.options ≡ so_far.options ++ values
  pub known : Each (λ p. is_name option_names p.0 ≡ true) values
  pub new : Each (λ p. has_option p.0 so_far ≡ false) values
  pub once : AreDifferent (map name_in values)
  pub say : (options : List (Text × ℕ)) → AreValues values options → Each IsFileName files → Say words files options

-- without options no numbers are said
no_numbers : {words files : List Text} (options : List (Text × ℕ)) → AreValues [] options → Say words files [] → Say words files options
no_numbers [] are say = say
no_numbers (o ∷ options) are say = absurd are

none_different : AreDifferent {A = Text} []
none_different = λ i j x a b. cc a

nothing_read : (s last : Texts) → s ≡ last → AreRead [] s last
nothing_read s last same = record {
  files = [];
  values = [];
  all_files = ap (λ (t : Texts). t.files) (sym same) ∙ sym (append-nil s.files);
  all_values = ap (λ (t : Texts). t.options) (sym same) ∙ sym (append-nil s.options);
  known = tt;
  new = tt;
  once = none_different;
  say = λ options are named. no_numbers options are Say.nothing;
}

file_read : (word : Text) (words : List Text) (s last : Texts) → AreRead words (with_file word s) last → AreRead (word ∷ words) s last
file_read word words s last more = record {
  files = word ∷ more.files;
  values = more.values;
  all_files = more.all_files ∙ append_assoc s.files (word ∷ []) more.files;
  all_values = more.all_values;
  known = more.known;
  new = more.new;
  once = more.once;
  say = λ options are named. file named.0 (more.say options are named.1);
}

-- the words in front of an option's value, or with it, and the words behind
option_read : (name value : Text) (whole words : List Text) (s last : Texts) → is_name option_names name ≡ true → has_option name s ≡ false
    → ((number : ℕ) (files : List Text) (options : List (Text × ℕ)) → IsNumber value number → Say words files options
    → Say whole files ((name, number) ∷ options))
    → AreRead words (with_option name value s) last → AreRead whole s last
option_read name value whole words s last is new spoken more = record {
  files = more.files;
  values = (name, value) ∷ more.values;
  all_files = more.all_files;
  all_values = more.all_values ∙ append_assoc s.options ((name, value) ∷ []) more.values;
  known = (is, more.known);
  new = (
    new,
    each_weaker (λ p. has_option p.0 (with_option name value s) ≡ false) (λ p. has_option p.0 s ≡ false)
        (λ p h. (new_before p.0 name value s h).0) more.values more.new,
  );
  once = different_more name (map name_in more.values) (others more.values more.new) more.once;
  say = spoken_first;
}
  where
    others : (values : List (Text × Text)) → Each (λ p. has_option p.0 (with_option name value s) ≡ false) values
        → Each (λ n. name ≡ n → ⊥) (map name_in values)
    others [] each = tt
    others (p ∷ values) each = (apart_bytes name p.0 (new_before p.0 name value s each.0).1, others values each.1)

    spoken_first : (options : List (Text × ℕ)) → AreValues ((name, value) ∷ more.values) options → Each IsFileName more.files
        → Say whole more.files options
    spoken_first [] are named = absurd are
    spoken_first (o ∷ options) are named =
        subst (λ (n : Text). Say whole more.files ((n, o.1) ∷ options)) are.0 (spoken o.1 more.files options are.1 (more.say options are.2 named))

-- behind `--` each word is taken for a file name
ended_reads : (words : List Text) (s : Texts) → said option_names None true s words ≡ Some (record s { files = s.files ++ words })
unfolding said
ended_reads [] s = ap (λ (fs : List Text). Some (record s { files = fs })) (sym (append-nil s.files))
ended_reads (x ∷ words) s =
    ended_reads words (with_file x s) ∙ ap (λ (fs : List Text). Some (record s { files = fs })) (append_assoc s.files (x ∷ []) words)

ended_read : (words : List Text) (s last : Texts) → said option_names None true s words ≡ Some last → AreRead (dashes ∷ words) s last
ended_read words s last e =
    let same = same_some (record s { files = s.files ++ words }) last (sym (ended_reads words s) ∙ e) in
    record {
      files = words;
      values = [];
      all_files = ap (λ (t : Texts). t.files) (sym same);
      all_values = ap (λ (t : Texts). t.options) (sym same) ∙ sym (append-nil s.options);
      known = tt;
      new = tt;
      once = none_different;
      say = λ options are named. no_numbers options are (ended named);
    }

-- what a word is
data Word (x : Text) : Type 0 where
  ends : bytes_eq x dashes ≡ true → Word x
  option_known : (name : Text) (v : Option Text) → bytes_eq x dashes ≡ false → long_of x ≡ Some (name, v) → is_name option_names name ≡ true → Word x
  unknown : (name : Text) (v : Option Text) → bytes_eq x dashes ≡ false → long_of x ≡ Some (name, v) → is_name option_names name ≡ false → Word x
  bundle : (flags : Text) → bytes_eq x dashes ≡ false → long_of x ≡ None → short_of x ≡ Some flags → Word x
  plain : bytes_eq x dashes ≡ false → long_of x ≡ None → short_of x ≡ None → Word x

classify : (x : Text) → Word x
classify x = by_dashes (bytes_eq x dashes) refl
  where
    by_short : bytes_eq x dashes ≡ false → long_of x ≡ None → (o : Option Text) → short_of x ≡ o → Word x
    by_short d l None h = plain d l h
    by_short d l (Some flags) h = bundle flags d l h

    by_name : bytes_eq x dashes ≡ false → (name : Text) (v : Option Text) → long_of x ≡ Some (name, v) → (b : Bool) → is_name option_names name ≡ b → Word x
    by_name d name v l true is = option_known name v d l is
    by_name d name v l false is = unknown name v d l is

    by_long : bytes_eq x dashes ≡ false → (o : Option (Text × Option Text)) → long_of x ≡ o → Word x
    by_long d None l = by_short d l (short_of x) refl
    by_long d (Some (name, v)) l = by_name d name v l (is_name option_names name) refl

    by_dashes : (b : Bool) → bytes_eq x dashes ≡ b → Word x
    by_dashes true d = ends d
    by_dashes false d = by_long d (long_of x) refl

never : {A : Type 0} (o : Option Texts) (last : Texts) → None ≡ o → o ≡ Some last → A
never o last refused e = let none : ◌≡◌ {A = Option Texts} None (Some last) = refused ∙ e in cc none

abbrev Reads : List Text → Type 0
Reads words = (s last : Texts) → said option_names None false s words ≡ Some last → AreRead words s last

abbrev Waits : List Text → Type 0
Waits words = (name : Text) (s last : Texts) → is_name option_names name ≡ true → said option_names (Some name) false s words ≡ Some last
    → AreRead (flag name ∷ words) s last

-- a word with an option's value
joined_next : (x : Text) (words : List Text) (name value : Text) (s last : Texts) → bytes_eq x dashes ≡ false → long_of x ≡ Some (name, Some value)
    → is_name option_names name ≡ true → said option_names None false s (x ∷ words) ≡ Some last → Reads words → AreRead (x ∷ words) s last
joined_next x words name value s last d l is e reads = elim (cases_Bool (has_option name s)) [
  | inl yet ↦ never _ last (said_twice option_names x name value s words d l is yet) e
  | inr new ↦
      let more = reads (with_option name value s) last (said_attached option_names x name value s words d l is new ∙ e) in
      subst (λ (w : Text). AreRead (w ∷ words) s last) (sym (long_back x name (Some value) l))
      (option_read name value ((flag_with name ++ value) ∷ words) words s last is new (λ number files options number_is say. joined number_is say) more)
]

option_next : (x : Text) (words : List Text) (name : Text) (v : Option Text) (s last : Texts) → bytes_eq x dashes ≡ false → long_of x ≡ Some (name, v)
    → is_name option_names name ≡ true → said option_names None false s (x ∷ words) ≡ Some last → Reads words → Waits words → AreRead (x ∷ words) s last
option_next x words name (Some value) s last d l is e reads waits = joined_next x words name value s last d l is e reads
option_next x words name None s last d l is e reads waits =
    subst (λ (w : Text). AreRead (w ∷ words) s last) (sym (long_back x name None l))
    (waits name s last is (said_bare option_names x name s words d l is ∙ e))

word_read : (x : Text) (words : List Text) (s last : Texts) → Word x → said option_names None false s (x ∷ words) ≡ Some last → Reads words → Waits words
    → AreRead (x ∷ words) s last
word_read x words s last (ends d) e reads waits =
    subst (λ (w : Text). AreRead (w ∷ words) s last) (sym ((bytes_eq-Decides x dashes).0 d))
    (ended_read words s last (said_ends option_names x s words d ∙ e))
word_read x words s last (option_known name v d l is) e reads waits = option_next x words name v s last d l is e reads waits
word_read x words s last (unknown name v d l none) e reads waits = never _ last (said_unknown option_names x name v s words d l none) e
word_read x words s last (bundle flags d l h) e reads waits = never _ last (said_short option_names x flags s words d l h) e
word_read x words s last (plain d l h) e reads waits =
    file_read x words s last (reads (with_file x s) last (said_file option_names x s words d l h ∙ e))

-- the word behind an option's name is its value
value_read : (x : Text) (words : List Text) (name : Text) (s last : Texts) → is_name option_names name ≡ true
    → said option_names (Some name) false s (x ∷ words) ≡ Some last → Reads words → AreRead (flag name ∷ x ∷ words) s last
value_read x words name s last is e reads = elim (cases_Bool (is_plain x)) [
  | inr no_value ↦ never _ last (said_no_value option_names x name s words no_value) e
  | inl value ↦ elim (cases_Bool (has_option name s)) [
    | inl yet ↦ never _ last (said_value_twice option_names x name s words value yet) e
    | inr new ↦
        option_read name x (flag name ∷ x ∷ words) words s last is new (λ number files options number_is say. apart number_is say)
        (reads (with_option name x s) last (said_value option_names x name s words value new ∙ e))
  ]
]

mutual
  unfolding said

  pub words_read : (words : List Text) (s last : Texts) → said option_names None false s words ≡ Some last → AreRead words s last
  words_read [] s last e = nothing_read s last (same_some s last e)
  words_read (x ∷ words) s last e =
      word_read x words s last (classify x) e (λ s2 last2 e2. words_read words s2 last2 e2) (λ name s2 last2 is e2. value_awaited words name s2 last2 is e2)

  value_awaited : (words : List Text) (name : Text) (s last : Texts) → is_name option_names name ≡ true
      → said option_names (Some name) false s words ≡ Some last → AreRead (flag name ∷ words) s last
  value_awaited [] name s last is e = cc e
  value_awaited (x ∷ words) name s last is e = value_read x words name s last is e (λ s2 last2 e2. words_read words s2 last2 e2)

known_numbers : (values : List (Text × Text)) (options : List (Text × ℕ)) → AreValues values options
    → Each (λ p. is_name option_names p.0 ≡ true) values → Each (λ o. IsOneOf option_names o.0) options
known_numbers [] [] are known = tt
known_numbers [] (o ∷ options) are known = absurd are
known_numbers (p ∷ values) [] are known = absurd are
known_numbers (p ∷ values) (o ∷ options) are known =
    (subst (λ n. IsOneOf option_names n) are.0 (name_listed p.0 known.0), known_numbers values options are.2 known.1)

-- each value that was kept is a number
each_number : (values : List (Text × Text)) (files : List Text) (told : Said) → Each (λ p. is_name option_names p.0 ≡ true) values
    → AreDifferent (map name_in values) → AreJudged (kept (record { files = files; options = values })) told
    → Each (λ p. (number : ℕ) × IsNumber p.1 number) values
each_number values files told known once judged = each_of (λ p. (number : ℕ) × IsNumber p.1 number) values (λ place p at.
    by_names (λ name. value_of name values ≡ Some p.1 → (number : ℕ) × IsNumber p.1 number)
    (λ e. number_there (value_of (codes "limit") values) told.limit p.1 judged.limit e)
    (λ e. number_there (value_of (codes "workers") values) told.workers p.1 judged.workers e)
    (λ e. number_there (value_of (codes "connections") values) told.connections p.1 judged.connections e)
    (λ e. number_there (value_of (codes "port") values) told.port p.1 judged.port e)
    p.0 (each_at (λ q. is_name option_names q.0 ≡ true) values place p known at) (value_there values once place p at))

judged_said : (words : List Text) (told : Said) (last : Texts) → said option_names None false no_texts words ≡ Some last → AreJudged (kept last) told
    → IsSaid words told
judged_said words told last e judged =
    let read = words_read words no_texts last e in
    let files = read.files in
    let values = read.values in
    let same : last ≡ record { files = files; options = values } = λ i. record { files = read.all_files i; options = read.all_values i } in
    let here = subst (λ (t : Texts). AreJudged (kept t) told) same judged in
    let numbers = numbers_of values (each_number values files told read.known read.once here) in
    let options = numbers.0 in
    let are = numbers.1 in
    record {
      options = options;
      say = subst (λ fs. Say words fs options) (sym here.files) (read.say options are here.names);
      known = known_numbers values options are read.known;
      once = subst AreDifferent (names_same values options are) read.once;
      limit = valued_told values options are (codes "limit") told.limit here.limit;
      workers = valued_told values options are (codes "workers") told.workers here.workers;
      connections = valued_told values options are (codes "connections") told.connections here.connections;
      port = valued_told values options are (codes "port") told.port here.port;
    }

-- words that were taken, and judged as this, say it
pub taken_said : (words : List Text) (texts : Kept) (told : Said) → Some texts ≡ taken words → AreJudged texts told → IsSaid words told
taken_said words texts told e judged = go (said option_names None false no_texts words) refl e
  where
    go : (o : Option Texts) → said option_names None false no_texts words ≡ o → Some texts ≡ option_map kept o → IsSaid words told
    go None is none = cc none
    go (Some last) is some = judged_said words told last is (subst (λ (k : Kept). AreJudged k told) (same_some texts (kept last) some) judged)

-- ---- from what is said to what is taken

-- behind the texts so far the words are read to texts with these files, and options with these numbers, added
pub record AreTaken (words files : List Text) (options : List (Text × ℕ)) (so_far : Texts) : Type 0 where
  pub last : Texts
  pub read : said option_names None false so_far words ≡ Some last
  pub values : List (Text × Text)
  pub all_files : last.files ≡ so_far.files ++ files
  pub all_values : last.options ≡ so_far.options ++ values
  pub numbers : AreValues values options
  pub named : Each IsFileName files

nothing_taken : (s : Texts) → AreTaken [] [] [] s
unfolding said
nothing_taken s = record {
  last = s;
  read = refl;
  values = [];
  all_files = sym (append-nil s.files);
  all_values = sym (append-nil s.options);
  numbers = tt;
  named = tt;
}

file_taken : (word : Text) (words files : List Text) (options : List (Text × ℕ)) (s : Texts) → IsFileName word
    → AreTaken words files options (with_file word s) → AreTaken (word ∷ words) (word ∷ files) options s
file_taken word words files options s named more =
    let plain = file_plain word named in
    record {
      last = more.last;
      read = sym (said_file option_names word s words plain.other plain.long plain.short) ∙ more.read;
      values = more.values;
      all_files = more.all_files ∙ append_assoc s.files (word ∷ []) files;
      all_values = more.all_values;
      numbers = more.numbers;
      named = (named, more.named);
    }

option_taken : (name value : Text) (number : ℕ) (whole words files : List Text) (options : List (Text × ℕ)) (s : Texts) → IsNumber value number
    → said option_names None false (with_option name value s) words ≡ said option_names None false s whole
    → AreTaken words files options (with_option name value s) → AreTaken whole files ((name, number) ∷ options) s
option_taken name value number whole words files options s is step more = record {
  last = more.last;
  read = sym step ∙ more.read;
  values = (name, value) ∷ more.values;
  all_files = more.all_files;
  all_values = more.all_values ∙ append_assoc s.options ((name, value) ∷ []) more.values;
  numbers = (refl, is, more.numbers);
  named = more.named;
}

ended_taken : (words : List Text) (s : Texts) → Each IsFileName words → AreTaken (dashes ∷ words) words [] s
ended_taken words s named = record {
  last = record s { files = s.files ++ words };
  read = sym (said_ends option_names dashes s words refl) ∙ ended_reads words s;
  values = [];
  all_files = refl;
  all_values = sym (append-nil s.options);
  numbers = tt;
  named = named;
}

-- options of other names than the first are new behind it too
rest_new : (name value : Text) (options : List (Text × ℕ)) (s : Texts) → Each (λ n. name ≡ n → ⊥) (map name_in options)
    → Each (λ o. has_option o.0 s ≡ false) options → Each (λ o. has_option o.0 (with_option name value s) ≡ false) options
rest_new name value [] s others new = tt
rest_new name value (o ∷ options) s others new =
    (new_behind o.0 name value s new.0 (other_bytes name o.0 others.0), rest_new name value options s others.1 new.1)

pub say_taken : {words files : List Text} {options : List (Text × ℕ)} → Say words files options → (s : Texts)
    → Each (λ o. is_name option_names o.0 ≡ true) options → AreDifferent (map name_in options) → Each (λ o. has_option o.0 s ≡ false) options
    → AreTaken words files options s
say_taken Say.nothing s known once new = nothing_taken s
say_taken (file {name} {words} {files} {options} named say) s known once new =
    file_taken name words files options s named (say_taken say (with_file name s) known once new)
say_taken (apart {name} {value} {number} {words} {files} {options} is say) s known once new =
    let rest = different_rest name (map name_in options) once in
    let bare = flag_read name known.0 in
    let step = said_value option_names value name s words (plain_is value (number_plain value number is)) new.0
    ∙ said_bare option_names (flag name) name s (value ∷ words) bare.other bare.long known.0 in
    option_taken name value number (flag name ∷ value ∷ words) words files options s is step
    (say_taken say (with_option name value s) known.1 rest.1 (rest_new name value options s rest.0 new.1))
say_taken (joined {name} {value} {number} {words} {files} {options} is say) s known once new =
    let rest = different_rest name (map name_in options) once in
    let read = joined_read name value known.0 in
    let step = said_attached option_names (flag_with name ++ value) name value s words read.other read.long known.0 new.0 in
    option_taken name value number ((flag_with name ++ value) ∷ words) words files options s is step
    (say_taken say (with_option name value s) known.1 rest.1 (rest_new name value options s rest.0 new.1))
say_taken (ended {words} named) s known once new = ended_taken words s named

-- texts with these options are judged as this
taken_judged : (words : List Text) (told : Said) (is : IsSaid words told) (t : AreTaken words told.files is.options no_texts)
    → AreJudged (kept t.last) told
taken_judged words told is t = record {
  files = sym t.all_files;
  names = subst (λ fs. Each IsFileName fs) (sym t.all_files) t.named;
  limit = value (codes "limit") told.limit is.limit;
  workers = value (codes "workers") told.workers is.workers;
  connections = value (codes "connections") told.connections is.connections;
  port = value (codes "port") told.port is.port;
}
  where
    value : (name : Text) (number : Option ℕ) → IsTold is.options name number → IsToldAs (value_of name t.last.options) number
    value name number h =
        subst (λ (vs : List (Text × Text)). IsToldAs (value_of name vs) number) (sym t.all_values)
        (told_valued t.values is.options t.numbers is.once name number h)

-- words that say this are taken, and judged as it
pub said_taken : (words : List Text) (told : Said) → IsSaid words told → (texts : Kept) × (taken words ≡ Some texts) × AreJudged texts told
said_taken words told is =
    let known = each_weaker (λ o. IsOneOf option_names o.0) (λ o. is_name option_names o.0 ≡ true) (λ o listed. listed_name o.0 listed)
    is.options is.known in
    let new = each_of (λ o. has_option o.0 no_texts ≡ false) is.options (λ place o at. refl) in
    let t = say_taken is.say no_texts known is.once new in
    (kept t.last, ap (option_map kept) t.read, taken_judged words told is t)

-- judged so, the texts that were kept are those that the words say
pub none_said : (words : List Text) (texts : Kept) (told : Said) → Some texts ≡ taken words → IsSaid words told → AreJudged texts told
none_said words texts told e is =
    let t = said_taken words told is in
    subst (λ (k : Kept). AreJudged k told) (sym (same_some texts t.0 (e ∙ t.1))) t.2

-- words that were refused say nothing
pub refused_said : (words : List Text) (told : Said) → None ≡ taken words → ¬ IsSaid words told
refused_said words told e is = let t = said_taken words told is in let no_way : ◌≡◌ {A = Option Kept} None (Some t.0) = e ∙ t.1 in cc no_way
