-- clap's walk over the words says what the plain reading says.
use Rattle.std.proofs.Common.{refl, ap, sym, subst, ◌≡◌, ◌∙◌, ◌⊎◌, inl, inr, ℕ, suc, Bool, true, false, cond, ◌&&◌, ◌||◌, ◌==◌, List, [], ◌∷◌, ◌++◌}
use Rattle.std.proofs.Common.{length, Option, Some, None, append-nil}
use Rattle.std.specs.Prelude.{is_some, slice_get, find, option_map, option_and_then}
use Rattle.std.specs.Str.{bytes_eq, chars}
use Rattle.std.proofs.lemmas.Bool.{cases_Bool, false≢true, true≢false}
use Rattle.clap.specs.Lexer.{long_of, short_of, short_of_rest}
use Rattle.clap.specs.Walk.{Held, Row, Rule, Waiting, Walk, idle, option, positional, walked, used, settled_rows, arg_by_id, arg_by_long}
use Rattle.clap.specs.Walk.{arg_by_short, arg_by_index, word_met, has_row, all_of, value, subcommand_met, plain_word, at_row, with_values, reading_by}
use Rattle.clap.specs.declared.builder.value_parser.Reading.{Reading}
use Rattle.clap.specs.declared.parser.matches.ValueSource.{ValueSource}
use Rattle.clap.specs.declared.parser.matches.ValueSource.TheVariants.{CommandLine}
use Rattle.std.specs.List.{list_any}
use Rattle.std.proofs.lemmas.Slice.Eq.{bytes_eq-Decides}
use Rattle.clap.specs.Simple.{Shape}
use Rattle.clap.specs.Kinds.{Kinds, or_else}
use Rattle.clap.specs.Faults.{walk_fault, turn_fault, settle_fault, use_fault, flags_fault}
use Rattle.clap.specs.declared.builder.action.ArgAction.TheVariants.{Set, Append}
use Rattle.clap.specs.declared.builder.value_parser.ValueParser.TheVariants as vp
use Rattle.command_words.specs.Reading.{Text, dashes, is_plain, is_name, Texts, has_option, value_of, with_file, with_option, said}
use Rattle.command_words.proofs.ReadingLemmas.{said_ends, said_unknown, said_twice, said_attached, said_bare, said_short, said_file, said_no_value}
use Rattle.command_words.proofs.ReadingLemmas.{said_value, said_value_twice}

-- each word of short options has a character, as text has
abbrev pub Sound : List Text → Type 0
Sound [] = Unit {0}
Sound (x ∷ ws) = ((flags : Text) → short_of x ≡ Some flags → (c : ℕ) × (slice_get (chars flags) 0 ≡ Some c)) × Sound ws

-- the files as a row has them, if there are any
abbrev pub files_row : List Text → Option (List Text)
files_row [] = None
files_row (x ∷ xs) = Some (x ∷ xs)

-- the rule takes one value of any text
pub record TakesOne (a : Rule) : Type 0 where
  pub range : a.range ≡ Some (record { start_inclusive = 1; end_inclusive = 1 })
  pub parser : a.parser ≡ Some vp.String

pub record IsOption (c : List Rule) (a : Rule) : Type 0 where
  pub one : TakesOne a
  pub action : a.action ≡ Some Set
  pub found : arg_by_id c a.id ≡ Some a

pub record IsFile (c : List Rule) (a : Rule) : Type 0 where
  pub one : TakesOne a
  pub action : a.action ≡ Some Append
  pub found : arg_by_id c a.id ≡ Some a
  pub plain : a.trailing_var_arg ≡ false

-- options of these names that take a value, and files
pub record IsPlainCommand (s : Shape) (file : Rule) (names : List Text) : Type 0 where
  pub options : (name : Text) (a : Rule) → arg_by_long s.rules name ≡ Some a → IsOption s.rules a × (a.id ≡ name) × (bytes_eq file.id name ≡ false)
  pub known : (name : Text) → is_name names name ≡ is_some (arg_by_long s.rules name)
  pub no_short : (x : ℕ) → arg_by_short s.rules x ≡ None
  pub file_at : arg_by_index s.rules 1 ≡ Some file
  pub is_file : IsFile s.rules file
  pub again : s.args_override_self ≡ false
  pub leaf : s.is_leaf ≡ true

-- the walk from here on
abbrev pub walk_rest : Shape → Walk → List Text → Walk
walk_rest s w [] = w
walk_rest s w (x ∷ ws) = walk_rest s (walked s.rules [] w x) ws

abbrev pub faults_of : Shape → Held → Kinds
faults_of s h = settle_fault s.rules s.args_override_self h

-- faults that are left
abbrev pub total : Shape → Walk → List Text → Kinds
total s w ws = or_else (walk_fault s [] w ws) (faults_of s (walk_rest s w ws).held)

-- something is at fault
abbrev pub Faulty : Kinds → Type 0
Faulty [] = ⊥
Faulty (k ∷ ks) = Unit {0}

or_else_assoc : (a b c : Kinds) → or_else (or_else a b) c ≡ or_else a (or_else b c)
or_else_assoc [] b c = refl
or_else_assoc (k ∷ a) b c = refl

or_else_nil : (a : Kinds) → or_else a [] ≡ a
or_else_nil [] = refl
or_else_nil (k ∷ a) = refl

faulty_first : (a b : Kinds) → Faulty a → Faulty (or_else a b)
faulty_first [] b f = absurd f
faulty_first (k ∷ a) b f = f

-- one word, and then the others
total-step : (s : Shape) (w : Walk) (x : Text) (ws : List Text) → total s w (x ∷ ws) ≡ or_else (turn_fault s [] w x) (total s (walked s.rules [] w x) ws)
unfolding walk_fault
total-step s w x ws = or_else_assoc (turn_fault s [] w x) _ _

-- where the walk stands
abbrev pub held_at : List Row → Option (Text × List Text) → Held
held_at rows p = record { rows = rows; pending = p; skip = 0 }

abbrev pub at : List Row → Option (Text × List Text) → Waiting → Bool → Walk
at rows p waits ended = record { held = held_at rows p; waiting = waits; position = 1; is_trailing = ended; stopped = None }

-- nothing waits for a value
abbrev pub quiet : Bool → Waiting
quiet true = positional
quiet false = idle

and_none : (b : Bool) → (b && false) ≡ false
and_none true = refl
and_none false = refl

or_none : (b : Bool) → (b || false) ≡ b
or_none true = refl
or_none false = refl

no_sub : (q : Bool) (x : Text) → subcommand_met [] (quiet q) x ≡ None
no_sub true x = refl
no_sub false x = refl

plain_value : (c : List Rule) (q : Bool) (x : Text) (h : Held) → plain_word c (quiet q) x h ≡ (h, value)
plain_value c true x h = refl
plain_value c false x h = refl

-- ---- rows

abbrev pub How : Type 0
How = Reading

has_row_all : (id : Text) (rows : List Row) → has_row id rows ≡ is_some (all_of id rows)
has_row_all id [] = refl
has_row_all id (r ∷ rows) = by_id (bytes_eq r.id id) (has_row_all id rows)
  where
    by_id : (b : Bool) → has_row id rows ≡ is_some (all_of id rows)
        → (b || has_row id rows) ≡ is_some (option_map (λ x. x.values) (cond b (Some r) (find (λ x. bytes_eq x.id id) rows)))
    by_id true e = refl
    by_id false e = e

-- no row of the id: nothing goes, and what is new comes last
at_none : (id : Text) (change : Row → List Row) (missing rows : List Row) → has_row id rows ≡ false → at_row id change missing rows ≡ rows ++ missing
at_none id change missing [] none = refl
at_none id change missing (r ∷ rows) none = go (bytes_eq r.id id) (at_none id change missing rows) none
  where
    go : (b : Bool) → (has_row id rows ≡ false → at_row id change missing rows ≡ rows ++ missing) → (b || has_row id rows) ≡ false
        → cond b (change r ++ rows) (r ∷ at_row id change missing rows) ≡ r ∷ (rows ++ missing)
    go true ih e = absurd (true≢false e)
    go false ih e = ap (λ t. r ∷ t) (ih e)

same_id : (a : Text) → bytes_eq a a ≡ true
same_id a = (bytes_eq-Decides a a).1 refl

abbrev pub values_or : Option (List Text) → List Text
values_or None = []
values_or (Some vs) = vs

-- the values of an id after more of them
all_of-same : (id : Text) (how : How) (src : ValueSource) (vs : List Text) (rows : List Row)
    → all_of id (with_values id how src vs rows) ≡ Some (values_or (all_of id rows) ++ vs)
all_of-same id how src vs [] = rw (same_id id) refl
all_of-same id how src vs (r ∷ rows) = elim (cases_Bool (bytes_eq r.id id)) [
  | inl hit ↦ simp hit
  | inr miss ↦ simp miss (all_of-same id how src vs rows)
]

all_of-other : (id other : Text) (how : How) (src : ValueSource) (vs : List Text) (rows : List Row) → bytes_eq id other ≡ false
    → all_of other (with_values id how src vs rows) ≡ all_of other rows
all_of-other id other how src vs [] apart = rw apart refl
all_of-other id other how src vs (r ∷ rows) apart = elim (cases_Bool (bytes_eq r.id id)) [
  | inl hit ↦
      let away : bytes_eq r.id other ≡ false = ap (λ t. bytes_eq t other) ((bytes_eq-Decides r.id id).0 hit) ∙ apart in
      simp (hit, away)
  | inr miss ↦ rw miss (skip (bytes_eq r.id other) (all_of-other id other how src vs rows apart))
]
  where
    skip : (b : Bool) → all_of other (with_values id how src vs rows) ≡ all_of other rows
        → option_map (λ x. x.values) (cond b (Some r) (find (λ x. bytes_eq x.id other) (with_values id how src vs rows)))
        ≡ option_map (λ x. x.values) (cond b (Some r) (find (λ x. bytes_eq x.id other) rows))
    skip true e = refl
    skip false e = e

-- ---- what is said

value_added : (name other v : Text) (ps : List (Text × Text)) → bytes_eq name other ≡ false → value_of other (ps ++ (name, v) ∷ []) ≡ value_of other ps
value_added name other v [] apart = rw apart refl
value_added name other v (p ∷ ps) apart = by_name (bytes_eq p.0 other) (value_added name other v ps apart)
  where
    by_name : (b : Bool) → value_of other (ps ++ (name, v) ∷ []) ≡ value_of other ps
        → cond b (Some p.1) (value_of other (ps ++ (name, v) ∷ [])) ≡ cond b (Some p.1) (value_of other ps)
    by_name true e = refl
    by_name false e = e

value_new : (name v : Text) (ps : List (Text × Text)) → value_of name ps ≡ None → value_of name (ps ++ (name, v) ∷ []) ≡ Some v
value_new name v [] none = rw (same_id name) refl
value_new name v (p ∷ ps) none = go (bytes_eq p.0 name) (value_new name v ps) none
  where
    go : (b : Bool) → (value_of name ps ≡ None → value_of name (ps ++ (name, v) ∷ []) ≡ Some v) → cond b (Some p.1) (value_of name ps) ≡ None
        → cond b (Some p.1) (value_of name (ps ++ (name, v) ∷ [])) ≡ Some v
    go true ih e = cc e
    go false ih e = ih e

has_value : (name : Text) (ps : List (Text × Text)) → list_any (λ p. bytes_eq p.0 name) ps ≡ is_some (value_of name ps)
has_value name [] = refl
has_value name (p ∷ ps) = by_name (bytes_eq p.0 name) (has_value name ps)
  where
    by_name : (b : Bool) → list_any (λ x. bytes_eq x.0 name) ps ≡ is_some (value_of name ps)
        → (b || list_any (λ x. bytes_eq x.0 name) ps) ≡ is_some (cond b (Some p.1) (value_of name ps))
    by_name true e = refl
    by_name false e = e

files_more : (xs : List Text) (x : Text) → Some (values_or (files_row xs) ++ x ∷ []) ≡ files_row (xs ++ x ∷ [])
files_more [] x = refl
files_more (y ∷ xs) x = refl

none_of_some : {A : Type 0} (o : Option A) → is_some o ≡ false → o ≡ None
none_of_some None e = refl
none_of_some (Some a) e = absurd (true≢false e)

some_of : {A : Type 0} (o : Option A) → is_some o ≡ true → (a : A) × (o ≡ Some a)
some_of None e = absurd (false≢true e)
some_of (Some a) e = (a, refl)

-- the rows hold what is said
pub record Matches (names : List Text) (file : Text) (rows : List Row) (r : Texts) : Type 0 where
  pub options : (name : Text) → is_name names name ≡ true → all_of name rows ≡ option_map (λ v. v ∷ []) (value_of name r.options)
  pub files : all_of file rows ≡ files_row r.files

rest_size : (t flags : Text) → short_of_rest t ≡ Some flags → (n : ℕ) × (length flags ≡ suc n)
rest_size [] flags e = cc e
rest_size (y ∷ ys) flags e = go (y == 45) e
  where
    go : (b : Bool) → cond b None (Some (y ∷ ys)) ≡ Some flags → (n : ℕ) × (length flags ≡ suc n)
    go true e = cc e
    go false e = (length ys, let same : flags ≡ y ∷ ys = cc e in ap length same)

short_size : (x flags : Text) → short_of x ≡ Some flags → (n : ℕ) × (length flags ≡ suc n)
short_size [] flags e = cc e
short_size (b ∷ xs) flags e = go (b == 45) e
  where
    go : (q : Bool) → option_and_then short_of_rest (cond q (Some xs) None) ≡ Some flags → (n : ℕ) × (length flags ≡ suc n)
    go true e = rest_size xs flags e
    go false e = cc e

module _ (s : Shape) (file : Rule) (names : List Text) (plain : IsPlainCommand s file names) where
  abbrev rest_rows : List Row → Option (Text × List Text) → List Row
  rest_rows rows p = settled_rows s.rules p rows

  -- one file word
  file_fault : (x : Text) (rows : List Row) → use_fault s.args_override_self file (x ∷ []) rows ≡ []
  file_fault x rows = rw (plain.is_file.one.range, plain.is_file.action, plain.is_file.one.parser) refl

  file_settles : (x : Text) (rows : List Row) → faults_of s (held_at rows (Some (file.id, x ∷ []))) ≡ []
  file_settles x rows = rw plain.is_file.found (file_fault x rows)

  -- a file word goes to the positional
  to_file : (q ended : Bool) (x : Text) (rows : List Row) (p : Option (Text × List Text))
      → word_met s.rules [] ended (quiet q) 1 x (held_at rows p) ≡ (held_at rows p, value)
      → walked s.rules [] (at rows p (quiet q) ended) x ≡ at (rest_rows rows p) (Some (file.id, x ∷ [])) positional ended
  unfolding walked
  to_file q ended x rows p met = rw (met, plain.file_at, plain.is_file.one.range, plain.is_file.action, plain.is_file.plain, and_none, or_none) refl

  met_ended : (q : Bool) (x : Text) (rows : List Row) (p : Option (Text × List Text))
      → word_met s.rules [] true (quiet q) 1 x (held_at rows p) ≡ (held_at rows p, value)
  met_ended q x rows p = refl

  met_plain : (q : Bool) (x : Text) (rows : List Row) (p : Option (Text × List Text)) → bytes_eq x dashes ≡ false → long_of x ≡ None → short_of x ≡ None
      → word_met s.rules [] false (quiet q) 1 x (held_at rows p) ≡ (held_at rows p, value)
  met_plain q x rows p d l h = rw (no_sub q x, d, l, h) (plain_value s.rules q x (held_at rows p))

  -- a file word is at fault where what is pending is
  fault_ended : (q : Bool) (x : Text) (rows : List Row) (p : Option (Text × List Text))
      → turn_fault s [] (at rows p (quiet q) true) x ≡ faults_of s (held_at rows p)
  fault_ended q x rows p = rw (plain.file_at, plain.is_file.one.range, and_none) refl

  fault_plain : (q : Bool) (x : Text) (rows : List Row) (p : Option (Text × List Text)) → bytes_eq x dashes ≡ false → long_of x ≡ None → short_of x ≡ None
      → turn_fault s [] (at rows p (quiet q) false) x ≡ faults_of s (held_at rows p)
  fault_plain q x rows p d l h = rw (met_plain q x rows p d l h, no_sub q x, d, l, h, plain.file_at, plain.is_file.one.range, and_none) refl

  -- `--`
  turn_dashes : (q : Bool) (x : Text) (rows : List Row) (p : Option (Text × List Text)) → bytes_eq x dashes ≡ true
      → (turn_fault s [] (at rows p (quiet q) false) x ≡ []) × (walked s.rules [] (at rows p (quiet q) false) x ≡ at rows p (quiet q) true)
  unfolding walked
  turn_dashes q x rows p d = (rw (no_sub q x, d) refl, rw (no_sub q x, d) refl)

  -- a word of a name that there is not
  turn_unknown : (q : Bool) (x name : Text) (v : Option Text) (rows : List Row) (p : Option (Text × List Text)) → bytes_eq x dashes ≡ false
      → long_of x ≡ Some (name, v) → arg_by_long s.rules name ≡ None
      → Faulty (turn_fault s [] (at rows p (quiet q) false) x)
  turn_unknown q x name v rows p d l none = rw (no_sub q x, d, l, none) tt

  -- `--name=v`
  fault_attached : (q : Bool) (x name v : Text) (a : Rule) (rows : List Row) (p : Option (Text × List Text)) → bytes_eq x dashes ≡ false
      → long_of x ≡ Some (name, Some v) → arg_by_long s.rules name ≡ Some a
      → turn_fault s [] (at rows p (quiet q) false) x ≡ or_else (faults_of s (held_at rows p)) (use_fault s.args_override_self a (v ∷ []) (rest_rows rows p))
  fault_attached q x name v a rows p d l found =
      let one = (plain.options name a found).0.one in
      rw (no_sub q x, d, l, found, one.range) (or_else_nil _)

  walk_attached : (q : Bool) (x name v : Text) (a : Rule) (rows : List Row) (p : Option (Text × List Text)) → bytes_eq x dashes ≡ false
      → long_of x ≡ Some (name, Some v) → arg_by_long s.rules name ≡ Some a
      → walked s.rules [] (at rows p (quiet q) false) x ≡ at (used a (v ∷ []) (rest_rows rows p)) None idle false
  unfolding walked
  walk_attached q x name v a rows p d l found =
      let one = (plain.options name a found).0.one in
      rw (no_sub q x, d, l, found, one.range) refl

  -- `--name`
  fault_bare : (q : Bool) (x name : Text) (a : Rule) (rows : List Row) (p : Option (Text × List Text)) → bytes_eq x dashes ≡ false
      → long_of x ≡ Some (name, None) → arg_by_long s.rules name ≡ Some a
      → turn_fault s [] (at rows p (quiet q) false) x ≡ faults_of s (held_at rows p)
  fault_bare q x name a rows p d l found =
      let one = (plain.options name a found).0.one in
      rw (no_sub q x, d, l, found, one.range) (or_else_nil _)

  walk_bare : (q : Bool) (x name : Text) (a : Rule) (rows : List Row) (p : Option (Text × List Text)) → bytes_eq x dashes ≡ false
      → long_of x ≡ Some (name, None) → arg_by_long s.rules name ≡ Some a
      → walked s.rules [] (at rows p (quiet q) false) x ≡ at (rest_rows rows p) (Some (a.id, [])) (option a.id) false
  unfolding walked
  walk_bare q x name a rows p d l found =
      let one = (plain.options name a found).0.one in
      rw (no_sub q x, d, l, found, one.range) refl

  -- a bundle of short options
  turn_short : (q : Bool) (x flags : Text) (c : ℕ) (rows : List Row) (p : Option (Text × List Text)) → bytes_eq x dashes ≡ false → long_of x ≡ None
      → short_of x ≡ Some flags
      → (n : ℕ) → length flags ≡ suc n → slice_get (chars flags) 0 ≡ Some c
      → Faulty (turn_fault s [] (at rows p (quiet q) false) x)
  unfolding flags_fault
  turn_short q x flags c rows p d l h n size first = rw (no_sub q x, d, l, h, size, first, plain.no_short c) tt

  -- ---- steps of what is said

  rel_file : (x : Text) (rows : List Row) (r : Texts) → Matches names file.id rows r → Matches names file.id (used file (x ∷ []) rows) (with_file x r)
  rel_file x rows r m = record {
    options = λ name is. let (a, found) = some_of (arg_by_long s.rules name) (sym (plain.known name) ∙ is) in
        rw plain.is_file.action (all_of-other file.id name _ CommandLine (x ∷ []) rows (plain.options name a found).2 ∙ m.options name is);
    files = rw plain.is_file.action (all_of-same file.id _ CommandLine (x ∷ []) rows ∙ ap (λ o. Some (values_or o ++ x ∷ [])) m.files ∙ files_more r.files x);
  }

  no_row : (name : Text) (rows : List Row) (r : Texts) → Matches names file.id rows r → is_name names name ≡ true → has_row name rows ≡ has_option name r
  no_row name rows r m is = has_row_all name rows ∙ ap is_some (m.options name is) ∙ some_map (value_of name r.options) ∙ sym (has_value name r.options)
    where
      some_map : (o : Option Text) → is_some (option_map (λ v. v ∷ []) o) ≡ is_some o
      some_map None = refl
      some_map (Some v) = refl

  apart_back : (a b : Text) → bytes_eq a b ≡ false → bytes_eq b a ≡ false
  apart_back a b e = elim (cases_Bool (bytes_eq b a)) [
    | inl hit ↦ absurd (true≢false (sym ((bytes_eq-Decides a b).1 (sym ((bytes_eq-Decides b a).0 hit))) ∙ e))
    | inr miss ↦ miss
  ]

  rel_option : (name v : Text) (a : Rule) (rows : List Row) (r : Texts) → arg_by_long s.rules name ≡ Some a → has_option name r ≡ false
      → Matches names file.id rows r → Matches names file.id (used a (v ∷ []) rows) (with_option name v r)
  rel_option name v a rows r found new m =
      let (opt, id_is, apart) = plain.options name a found in
      let is : is_name names name ≡ true = plain.known name ∙ ap is_some found in
      let no : has_row a.id rows ≡ false = ap (λ (t : Text). has_row t rows) id_is ∙ no_row name rows r m is ∙ new in
      let kept : at_row a.id (λ _. []) [] rows ≡ rows = at_none a.id (λ _. []) [] rows no ∙ append-nil rows in
      let used_is : used a (v ∷ []) rows ≡ with_values name (reading_by a) CommandLine (v ∷ []) rows = rw (opt.action, kept, id_is) refl in
      let none : value_of name r.options ≡ None = none_of_some _ (sym (has_value name r.options) ∙ new) in
      rw used_is (record {
        options = λ other has. elim (cases_Bool (bytes_eq name other)) [
          | inl hit ↦
              let same : name ≡ other = (bytes_eq-Decides name other).0 hit in
              rw (← same) (
              all_of-same name (reading_by a) CommandLine (v ∷ []) rows
              ∙ ap (λ o. Some (values_or o ++ v ∷ [])) (m.options name is ∙ ap (option_map (λ w. w ∷ [])) none)
              ∙ ap (option_map (λ w. w ∷ [])) (sym (value_new name v r.options none))
              )
          | inr miss ↦
              all_of-other name other (reading_by a) CommandLine (v ∷ []) rows miss ∙ m.options other has
              ∙ ap (option_map (λ w. w ∷ [])) (sym (value_added name other v r.options miss))
        ];
        files = all_of-other name file.id (reading_by a) CommandLine (v ∷ []) rows (apart_back file.id name apart) ∙ m.files;
      })

  -- ---- faults of a use of an option

  use_ok : (name v : Text) (a : Rule) (rows : List Row) → arg_by_long s.rules name ≡ Some a → has_row a.id rows ≡ false
      → use_fault s.args_override_self a (v ∷ []) rows ≡ []
  use_ok name v a rows found new = let opt = (plain.options name a found).0 in rw (opt.one.range, opt.action, plain.again, new, opt.one.parser) refl

  use_again : (name v : Text) (a : Rule) (rows : List Row) → arg_by_long s.rules name ≡ Some a → has_row a.id rows ≡ true
      → Faulty (use_fault s.args_override_self a (v ∷ []) rows)
  use_again name v a rows found yet = let opt = (plain.options name a found).0 in rw (opt.one.range, opt.action, plain.again, yet) tt

  use_empty : (name : Text) (a : Rule) (rows : List Row) → arg_by_long s.rules name ≡ Some a → Faulty (use_fault s.args_override_self a [] rows)
  use_empty name a rows found = rw (plain.options name a found).0.one.range tt

  -- what is pending of an option
  option_settles : (name : Text) (vs : List Text) (a : Rule) (rows : List Row) → arg_by_long s.rules name ≡ Some a
      → faults_of s (held_at rows (Some (a.id, vs))) ≡ use_fault s.args_override_self a vs rows
  option_settles name vs a rows found = rw (plain.options name a found).0.found refl

  option_rows : (name : Text) (vs : List Text) (a : Rule) (rows : List Row) → arg_by_long s.rules name ≡ Some a
      → rest_rows rows (Some (a.id, vs)) ≡ used a vs rows
  option_rows name vs a rows found = rw (plain.options name a found).0.found refl

  file_rows : (x : Text) (rows : List Row) → rest_rows rows (Some (file.id, x ∷ [])) ≡ used file (x ∷ []) rows
  file_rows x rows = rw plain.is_file.found refl

  -- the value of an option
  turn_value : (x name : Text) (a : Rule) (rows : List Row) → bytes_eq x dashes ≡ false → long_of x ≡ None → short_of x ≡ None
      → arg_by_long s.rules name ≡ Some a
      → (turn_fault s [] (at rows (Some (a.id, [])) (option a.id) false) x ≡ [])
      × (walked s.rules [] (at rows (Some (a.id, [])) (option a.id) false) x ≡ at rows (Some (a.id, x ∷ [])) idle false)
  unfolding walked
  turn_value x name a rows d l h found =
      let opt = (plain.options name a found).0 in
      (rw (d, l, h) refl, rw (d, l, h, opt.found, same_id a.id, opt.one.range) refl)

  -- a fault in the first word
  first_faulty : (w : Walk) (x : Text) (ws : List Text) → Faulty (turn_fault s [] w x) → Faulty (total s w (x ∷ ws))
  first_faulty w x ws f = rw (total-step s w x ws) (faulty_first _ _ f)

  -- what a word is
  pub data Word (x : Text) : Type 0 where
    ends : bytes_eq x dashes ≡ true → Word x
    unknown : (name : Text) (v : Option Text) → bytes_eq x dashes ≡ false → long_of x ≡ Some (name, v) → arg_by_long s.rules name ≡ None → Word x
    attached : (name v : Text) (a : Rule) → bytes_eq x dashes ≡ false → long_of x ≡ Some (name, Some v) → arg_by_long s.rules name ≡ Some a → Word x
    bare : (name : Text) (a : Rule) → bytes_eq x dashes ≡ false → long_of x ≡ Some (name, None) → arg_by_long s.rules name ≡ Some a → Word x
    short : (flags : Text) → bytes_eq x dashes ≡ false → long_of x ≡ None → short_of x ≡ Some flags → Word x
    file_name : bytes_eq x dashes ≡ false → long_of x ≡ None → short_of x ≡ None → Word x

  classify : (x : Text) → Word x
  classify x = by_dashes (bytes_eq x dashes) refl
    where
      by_short : bytes_eq x dashes ≡ false → long_of x ≡ None → (o : Option Text) → short_of x ≡ o → Word x
      by_short d l None h = file_name d l h
      by_short d l (Some flags) h = short flags d l h

      by_value : bytes_eq x dashes ≡ false → (name : Text) (v : Option Text) → long_of x ≡ Some (name, v) → (a : Rule) → arg_by_long s.rules name ≡ Some a
          → Word x
      by_value d name None l a found = bare name a d l found
      by_value d name (Some v) l a found = attached name v a d l found

      by_name : bytes_eq x dashes ≡ false → (name : Text) (v : Option Text) → long_of x ≡ Some (name, v) → (o : Option Rule) → arg_by_long s.rules name ≡ o
          → Word x
      by_name d name v l None found = unknown name v d l found
      by_name d name v l (Some a) found = by_value d name v l a found

      by_long : bytes_eq x dashes ≡ false → (o : Option (Text × Option Text)) → long_of x ≡ o → Word x
      by_long d None l = by_short d l (short_of x) refl
      by_long d (Some (name, v)) l = by_name d name v l (arg_by_long s.rules name) refl

      by_dashes : (b : Bool) → bytes_eq x dashes ≡ b → Word x
      by_dashes true d = ends d
      by_dashes false d = by_long d (long_of x) refl

  -- what the walk tells, by what is said
  abbrev pub Tells : Option Texts → Walk → List Text → Type 0
  Tells None w ws = Faulty (total s w ws)
  Tells (Some r) w ws = (total s w ws ≡ []) × Matches names file.id (rest_rows (walk_rest s w ws).held.rows (walk_rest s w ws).held.pending) r

  next_total : (w next : Walk) (x : Text) (ws : List Text) → turn_fault s [] w x ≡ [] → walked s.rules [] w x ≡ next → total s w (x ∷ ws) ≡ total s next ws
  next_total w next x ws quiet_turn goes =
      total-step s w x ws ∙ ap (λ (k : Kinds). or_else k (total s (walked s.rules [] w x) ws)) quiet_turn ∙ ap (λ (z : Walk). total s z ws) goes

  tells_next : (o : Option Texts) (w next : Walk) (x : Text) (ws : List Text) → turn_fault s [] w x ≡ [] → walked s.rules [] w x ≡ next → Tells o next ws
      → Tells o w (x ∷ ws)
  tells_next None w next x ws quiet_turn goes t = subst Faulty (sym (next_total w next x ws quiet_turn goes)) t
  tells_next (Some r) w next x ws quiet_turn goes t = (
    next_total w next x ws quiet_turn goes ∙ t.0,
    subst (λ (z : Walk). Matches names file.id (rest_rows (walk_rest s z ws).held.rows (walk_rest s z ws).held.pending) r) (sym goes) t.1,
  )

  short_faulty : (q : Bool) (x flags : Text) (rows : List Row) (p : Option (Text × List Text)) (ws : List Text) → bytes_eq x dashes ≡ false → long_of x ≡ None
      → short_of x ≡ Some flags → Sound (x ∷ ws) → Faulty (turn_fault s [] (at rows p (quiet q) false) x)
  short_faulty q x flags rows p ws d l h sound =
      let (c, first) = sound.0 flags h in
      let (n, size) = short_size x flags h in
      turn_short q x flags c rows p d l h n size first

  -- what is pending stays at fault
  bad : (ws : List Text) (q ended : Bool) (rows : List Row) (p : Option (Text × List Text)) → Faulty (faults_of s (held_at rows p)) → Sound ws
      → Faulty (total s (at rows p (quiet q) ended) ws)
  unfolding walk_fault
  bad [] q ended rows p f sound = f
  bad (x ∷ ws) q true rows p f sound = first_faulty (at rows p (quiet q) true) x ws (rw (fault_ended q x rows p) f)
  bad (x ∷ ws) q false rows p f sound = go (classify x) (λ t. bad ws q true rows p f t)
    where
      go : Word x → (Sound ws → Faulty (total s (at rows p (quiet q) true) ws)) → Faulty (total s (at rows p (quiet q) false) (x ∷ ws))
      go (ends d) ih = let t = turn_dashes q x rows p d in subst Faulty (sym (next_total (at rows p (quiet q) false) (at rows p (quiet q) true) x ws t.0 t.1))
          (ih sound.1)
      go (unknown name v d l none) ih = first_faulty (at rows p (quiet q) false) x ws (turn_unknown q x name v rows p d l none)
      go (attached name v a d l found) ih = first_faulty (at rows p (quiet q) false) x ws
          (rw (fault_attached q x name v a rows p d l found) (faulty_first (faults_of s (held_at rows p)) _ f))
      go (bare name a d l found) ih = first_faulty (at rows p (quiet q) false) x ws (rw (fault_bare q x name a rows p d l found) f)
      go (short flags d l h) ih = first_faulty (at rows p (quiet q) false) x ws (short_faulty q x flags rows p ws d l h sound)
      go (file_name d l h) ih = first_faulty (at rows p (quiet q) false) x ws (rw (fault_plain q x rows p d l h) f)

  -- ---- what is said, word by word

  known_name : (name : Text) (a : Rule) → arg_by_long s.rules name ≡ Some a → is_name names name ≡ true
  known_name name a found = plain.known name ∙ ap is_some found

  unknown_name : (name : Text) → arg_by_long s.rules name ≡ None → is_name names name ≡ false
  unknown_name name none = plain.known name ∙ ap is_some none

  as_said : (o o2 : Option Texts) (w : Walk) (ws : List Text) → o ≡ o2 → Tells o w ws → Tells o2 w ws
  as_said o o2 w ws e t = subst (λ (z : Option Texts). Tells z w ws) e t

  abbrev Reads : List Text → Type 0
  Reads ws = (q ended : Bool) (rows : List Row) (p : Option (Text × List Text)) (r : Texts) → faults_of s (held_at rows p) ≡ []
      → Matches names file.id (rest_rows rows p) r → Tells (said names None ended r ws) (at rows p (quiet q) ended) ws

  abbrev Waits : List Text → Type 0
  Waits ws = (name : Text) (a : Rule) (rows : List Row) (r : Texts) → arg_by_long s.rules name ≡ Some a → Matches names file.id rows r
      → Tells (said names (Some name) false r ws) (at rows (Some (a.id, [])) (option a.id) false) ws

  -- a use of an option, new or not
  option_next : (name v : Text) (a : Rule) (rows : List Row) (r : Texts) → arg_by_long s.rules name ≡ Some a → Matches names file.id rows r
      → ((has_option name r ≡ true) × Faulty (use_fault s.args_override_self a (v ∷ []) rows))
      ⊎ ((has_option name r ≡ false) × (use_fault s.args_override_self a (v ∷ []) rows ≡ []))
  option_next name v a rows r found m =
      let same : has_row a.id rows ≡ has_option name r = ap (λ (t : Text). has_row t rows) (plain.options name a found).1
      ∙ no_row name rows r m (known_name name a found) in
      elim (cases_Bool (has_option name r)) [
        | inl yet ↦ inl (yet, use_again name v a rows found (same ∙ yet))
        | inr new ↦ inr (new, use_ok name v a rows found (same ∙ new))
      ]

  read_word : (x : Text) (ws : List Text) (q : Bool) (rows : List Row) (p : Option (Text × List Text)) (r : Texts) → faults_of s (held_at rows p) ≡ []
      → Matches names file.id (rest_rows rows p) r → Sound (x ∷ ws)
      → Word x → Reads ws → Waits ws → Tells (said names None false r (x ∷ ws)) (at rows p (quiet q) false) (x ∷ ws)
  read_word x ws q rows p r fine m sound (ends d) ihr ihw =
      let t = turn_dashes q x rows p d in
      as_said _ _ (at rows p (quiet q) false) (x ∷ ws) (said_ends names x r ws d)
      (tells_next (said names None true r ws) (at rows p (quiet q) false) (at rows p (quiet q) true) x ws t.0 t.1 (ihr q true rows p r fine m))
  read_word x ws q rows p r fine m sound (unknown name v d l none) ihr ihw =
      as_said _ _ (at rows p (quiet q) false) (x ∷ ws) (said_unknown names x name v r ws d l (unknown_name name none))
      (first_faulty (at rows p (quiet q) false) x ws (turn_unknown q x name v rows p d l none))
  read_word x ws q rows p r fine m sound (attached name v a d l found) ihr ihw =
      let w = at rows p (quiet q) false in
      let now = rest_rows rows p in
      let turn = fault_attached q x name v a rows p d l found ∙ ap (λ (k : Kinds). or_else k (use_fault s.args_override_self a (v ∷ []) now)) fine in
      let is = known_name name a found in
      elim (option_next name v a now r found m) [
        | inl again ↦ as_said _ _ w (x ∷ ws) (said_twice names x name v r ws d l is again.0) (first_faulty w x ws (subst Faulty (sym turn) again.1))
        | inr once ↦ as_said _ _ w (x ∷ ws) (said_attached names x name v r ws d l is once.0)
            (tells_next (said names None false (with_option name v r) ws) w (at (used a (v ∷ []) now) None idle false) x ws (turn ∙ once.1)
            (walk_attached q x name v a rows p d l found)
            (ihr false false (used a (v ∷ []) now) None (with_option name v r) refl (rel_option name v a now r found once.0 m)))
      ]
  read_word x ws q rows p r fine m sound (bare name a d l found) ihr ihw =
      let w = at rows p (quiet q) false in
      as_said _ _ w (x ∷ ws) (said_bare names x name r ws d l (known_name name a found))
      (tells_next (said names (Some name) false r ws) w (at (rest_rows rows p) (Some (a.id, [])) (option a.id) false) x ws
      (fault_bare q x name a rows p d l found ∙ fine) (walk_bare q x name a rows p d l found)
      (ihw name a (rest_rows rows p) r found m))
  read_word x ws q rows p r fine m sound (short flags d l h) ihr ihw =
      let w = at rows p (quiet q) false in
      as_said _ _ w (x ∷ ws) (said_short names x flags r ws d l h) (first_faulty w x ws (short_faulty q x flags rows p ws d l h sound))
  read_word x ws q rows p r fine m sound (file_name d l h) ihr ihw =
      let w = at rows p (quiet q) false in
      let now = rest_rows rows p in
      as_said _ _ w (x ∷ ws) (said_file names x r ws d l h)
      (tells_next (said names None false (with_file x r) ws) w (at now (Some (file.id, x ∷ [])) positional false) x ws (fault_plain q x rows p d l h ∙ fine)
      (to_file q false x rows p (met_plain q x rows p d l h))
      (ihr true false now (Some (file.id, x ∷ [])) (with_file x r) (file_settles x now) (rw (file_rows x now) (rel_file x now r m))))

  -- ---- the same where an option waits for its value

  pending_faulty : (name : Text) (a : Rule) (rows : List Row) → arg_by_long s.rules name ≡ Some a → Faulty (faults_of s (held_at rows (Some (a.id, []))))
  pending_faulty name a rows found = rw (option_settles name [] a rows found) (use_empty name a rows found)

  wait_dashes : (x : Text) (a : Rule) (rows : List Row) → bytes_eq x dashes ≡ true
      → (turn_fault s [] (at rows (Some (a.id, [])) (option a.id) false) x ≡ [])
      × (walked s.rules [] (at rows (Some (a.id, [])) (option a.id) false) x ≡ at rows (Some (a.id, [])) (option a.id) true)
  unfolding walked
  wait_dashes x a rows d = (rw d refl, rw d refl)

  ended_faulty : (ws : List Text) (id : Text) (rows : List Row) (p : Option (Text × List Text)) → Faulty (faults_of s (held_at rows p))
      → Faulty (total s (at rows p (option id) true) ws)
  unfolding walk_fault
  ended_faulty [] id rows p f = f
  ended_faulty (x ∷ ws) id rows p f = first_faulty (at rows p (option id) true) x ws (rw (plain.file_at, plain.is_file.one.range, and_none) f)

  wait_unknown : (x name : Text) (v : Option Text) (a : Rule) (rows : List Row) → bytes_eq x dashes ≡ false → long_of x ≡ Some (name, v)
      → arg_by_long s.rules name ≡ None → Faulty (turn_fault s [] (at rows (Some (a.id, [])) (option a.id) false) x)
  wait_unknown x name v a rows d l none = rw (d, l, none) tt

  wait_option : (x name : Text) (v : Option Text) (b a : Rule) (rows : List Row) → bytes_eq x dashes ≡ false → long_of x ≡ Some (name, v)
      → arg_by_long s.rules name ≡ Some b
      → Faulty (faults_of s (held_at rows (Some (a.id, [])))) → Faulty (turn_fault s [] (at rows (Some (a.id, [])) (option a.id) false) x)
  wait_option x name None b a rows d l found f = let opt = (plain.options name b found).0 in rw (d, l, found, opt.one.range) (faulty_first _ _ f)
  wait_option x name (Some v) b a rows d l found f =
      let opt = (plain.options name b found).0 in rw (d, l, found, opt.one.range) (faulty_first _ _ (faulty_first _ _ f))

  wait_short : (x flags : Text) (a : Rule) (rows : List Row) (ws : List Text) → bytes_eq x dashes ≡ false → long_of x ≡ None → short_of x ≡ Some flags
      → Sound (x ∷ ws) → Faulty (turn_fault s [] (at rows (Some (a.id, [])) (option a.id) false) x)
  unfolding flags_fault
  wait_short x flags a rows ws d l h sound =
      let (c, first) = sound.0 flags h in
      let (n, size) = short_size x flags h in
      rw (d, l, h, size, first, plain.no_short c) tt

  wait_word : (x : Text) (ws : List Text) (name : Text) (a : Rule) (rows : List Row) (r : Texts) → arg_by_long s.rules name ≡ Some a
      → Matches names file.id rows r → Sound (x ∷ ws)
      → Word x → Reads ws → Tells (said names (Some name) false r (x ∷ ws)) (at rows (Some (a.id, [])) (option a.id) false) (x ∷ ws)
  wait_word x ws name a rows r found m sound (ends d) ihr =
      let w = at rows (Some (a.id, [])) (option a.id) false in
      let t = wait_dashes x a rows d in
      let no_value : is_plain x ≡ false = rw d refl in
      as_said _ _ w (x ∷ ws) (said_no_value names x name r ws no_value)
      (subst Faulty (sym (next_total w (at rows (Some (a.id, [])) (option a.id) true) x ws t.0 t.1))
      (ended_faulty ws a.id rows (Some (a.id, [])) (pending_faulty name a rows found)))
  wait_word x ws name a rows r found m sound (unknown other v d l none) ihr =
      let w = at rows (Some (a.id, [])) (option a.id) false in
      let no_value : is_plain x ≡ false = rw (d, l) refl in
      as_said _ _ w (x ∷ ws) (said_no_value names x name r ws no_value) (first_faulty w x ws (wait_unknown x other v a rows d l none))
  wait_word x ws name a rows r found m sound (attached other v b d l is) ihr =
      let w = at rows (Some (a.id, [])) (option a.id) false in
      let no_value : is_plain x ≡ false = rw (d, l) refl in
      as_said _ _ w (x ∷ ws) (said_no_value names x name r ws no_value)
      (first_faulty w x ws (wait_option x other (Some v) b a rows d l is (pending_faulty name a rows found)))
  wait_word x ws name a rows r found m sound (bare other b d l is) ihr =
      let w = at rows (Some (a.id, [])) (option a.id) false in
      let no_value : is_plain x ≡ false = rw (d, l) refl in
      as_said _ _ w (x ∷ ws) (said_no_value names x name r ws no_value)
      (first_faulty w x ws (wait_option x other None b a rows d l is (pending_faulty name a rows found)))
  wait_word x ws name a rows r found m sound (short flags d l h) ihr =
      let w = at rows (Some (a.id, [])) (option a.id) false in
      let no_value : is_plain x ≡ false = rw (d, l, h) refl in
      as_said _ _ w (x ∷ ws) (said_no_value names x name r ws no_value) (first_faulty w x ws (wait_short x flags a rows ws d l h sound))
  wait_word x ws name a rows r found m sound (file_name d l h) ihr =
      let w = at rows (Some (a.id, [])) (option a.id) false in
      let next = at rows (Some (a.id, x ∷ [])) idle false in
      let is : is_plain x ≡ true = rw (d, l, h) refl in
      let t = turn_value x name a rows d l h found in
      let settles = option_settles name (x ∷ []) a rows found in
      elim (option_next name x a rows r found m) [
        | inl again ↦ as_said _ _ w (x ∷ ws) (said_value_twice names x name r ws is again.0)
            (subst Faulty (sym (next_total w next x ws t.0 t.1)) (bad ws false false rows (Some (a.id, x ∷ [])) (subst Faulty (sym settles) again.1) sound.1))
        | inr once ↦ as_said _ _ w (x ∷ ws) (said_value names x name r ws is once.0)
            (tells_next (said names None false (with_option name x r) ws) w next x ws t.0 t.1
            (ihr false false rows (Some (a.id, x ∷ [])) (with_option name x r) (settles ∙ once.1)
            (subst (λ (z : List Row). Matches names file.id z (with_option name x r)) (sym (option_rows name (x ∷ []) a rows found))
            (rel_option name x a rows r found once.0 m))))
      ]

  mutual
    unfolding walk_fault said

    -- the walk where nothing waits for a value
    pub reads : (ws : List Text) (q ended : Bool) (rows : List Row) (p : Option (Text × List Text)) (r : Texts) → faults_of s (held_at rows p) ≡ []
        → Matches names file.id (rest_rows rows p) r → Sound ws
        → Tells (said names None ended r ws) (at rows p (quiet q) ended) ws
    reads [] q ended rows p r fine m sound = (fine, m)
    reads (x ∷ ws) q true rows p r fine m sound =
        tells_next (said names None true (with_file x r) ws) (at rows p (quiet q) true) (at (rest_rows rows p) (Some (file.id, x ∷ [])) positional true) x ws
        (fault_ended q x rows p ∙ fine) (to_file q true x rows p (met_ended q x rows p))
        (reads ws true true (rest_rows rows p) (Some (file.id, x ∷ [])) (with_file x r) (file_settles x (rest_rows rows p))
        (rw (file_rows x (rest_rows rows p)) (rel_file x (rest_rows rows p) r m)) sound.1)
    reads (x ∷ ws) q false rows p r fine m sound =
        read_word x ws q rows p r fine m sound (classify x) (λ q2 e2 rows2 p2 r2 f2 m2. reads ws q2 e2 rows2 p2 r2 f2 m2 sound.1)
        (λ n2 a2 rows2 r2 f2 m2. waits ws n2 a2 rows2 r2 f2 m2 sound.1)

    -- the walk where an option waits for its value
    pub waits : (ws : List Text) (name : Text) (a : Rule) (rows : List Row) (r : Texts) → arg_by_long s.rules name ≡ Some a → Matches names file.id rows r
        → Sound ws
        → Tells (said names (Some name) false r ws) (at rows (Some (a.id, [])) (option a.id) false) ws
    waits [] name a rows r found m sound = rw (option_settles name [] a rows found) (use_empty name a rows found)
    waits (x ∷ ws) name a rows r found m sound =
        wait_word x ws name a rows r found m sound (classify x) (λ q2 e2 rows2 p2 r2 f2 m2. reads ws q2 e2 rows2 p2 r2 f2 m2 sound.1)
