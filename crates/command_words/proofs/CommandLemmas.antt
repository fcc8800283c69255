-- The desk's command is a plain one, and clap's functions of it are those of the walk.
use Rattle.std.proofs.Common.{refl, ap, sym, subst, ◌≡◌, ◌∙◌, Bool, true, false, cond, ◌||◌, List, [], ◌∷◌, Option, Some, None, codes, inl, inr}
use Rattle.std.specs.Prelude.{is_some, option_map, option_and_then, find, slice_get}
use Rattle.std.specs.List.{fold}
use Rattle.std.specs.Str.{bytes_eq}
use Rattle.std.proofs.lemmas.Bool.{cases_Bool}
use Rattle.std.proofs.lemmas.Slice.Eq.{bytes_eq-Decides}
use Rattle.clap.specs.Walk.{Row, Rule, Walk, walked, walk, nothing_held, settled, settled_rows, with_default, all_of, first_of, arg_by_long, arg_by_id}
use Rattle.clap.specs.Simple.{Shape, built, is_simple, matches_of}
use Rattle.clap.specs.Kinds.{Kinds, IsAmong, or_else}
use Rattle.clap.specs.Faults.{fault_of, is_simple_and_free, defaults_fault, walk_fault, default_fault}
use Rattle.clap.proofs.FaultLemmas.{leaf_fault}
use Rattle.clap.specs.declared.error.kind.ErrorKind.{ErrorKind}
use Rattle.clap.proofs.OnLiterals.{clap_on_literals}
use Rattle.command_words.specs.Words.{option_names}
use Rattle.command_words.specs.Reading.{Text, Texts, said, nothing, is_name, value_of}
use Rattle.clap.specs.Walk.{idle}
use Rattle.clap.specs.declared.builder.action.ArgAction.TheVariants.{Set}
use Rattle.clap.specs.declared.builder.value_parser.ValueParser.TheVariants as vp
use Rattle.command_words.specs.Command.{option_rule, file_rule, command, kept, Kept, taken}
use Rattle.command_words.proofs.WalkLemmas.{Sound, files_row, IsPlainCommand, IsOption, Matches, total, walk_rest, faults_of, at, Tells, reads, Faulty}

abbrev pub top : Shape
top = (built command).top

-- an argument as building leaves it
abbrev made : Rule → Rule
made a = record a { parser = Some vp.String; range = Some (record { start_inclusive = 1; end_inclusive = 1 }) }

abbrev made_option : Text → Rule
made_option name = record (made (option_rule name)) { action = Some Set }

abbrev pub file : Rule
file = record (made file_rule) { index = Some 1 }

pub simple_and_free : is_simple_and_free command ≡ true
unfolding clap_on_literals
simple_and_free = refl

pub simple : is_simple command ≡ true
unfolding clap_on_literals
simple = refl

-- which option a name finds
pub data Named (name : Text) : Type 0 where
  named : (is : Text) → is ≡ name → is_name option_names is ≡ true → bytes_eq file.id is ≡ false → arg_by_long top.rules name ≡ Some (made_option is)
      → arg_by_id top.rules is ≡ Some (made_option is) → Named name
  unnamed : arg_by_long top.rules name ≡ None → is_name option_names name ≡ false → Named name

pub find_name : (name : Text) → Named name
find_name name = elim (cases_Bool (bytes_eq (codes "limit") name)) [
  | inl limit ↦ named (codes "limit") ((bytes_eq-Decides (codes "limit") name).0 limit) refl refl (rw limit refl) refl
  | inr other ↦ elim (cases_Bool (bytes_eq (codes "workers") name)) [
    | inl workers ↦ named (codes "workers") ((bytes_eq-Decides (codes "workers") name).0 workers) refl refl (rw (other, workers) refl) refl
    | inr third ↦ elim (cases_Bool (bytes_eq (codes "connections") name)) [
      | inl connections ↦
          named (codes "connections") ((bytes_eq-Decides (codes "connections") name).0 connections) refl refl (rw (other, third, connections) refl) refl
      | inr last ↦ elim (cases_Bool (bytes_eq (codes "port") name)) [
        | inl port ↦ named (codes "port") ((bytes_eq-Decides (codes "port") name).0 port) refl refl (rw (other, third, last, port) refl) refl
        | inr none ↦ unnamed (rw (other, third, last, none) refl) (rw (other, third, last, none) refl)
      ]
    ]
  ]
]

found_option : (name : Text) (a : Rule) → Named name → arg_by_long top.rules name ≡ Some a
    → IsOption top.rules a × (a.id ≡ name) × (bytes_eq file.id name ≡ false)
found_option name a (named is same known apart at_name at_id) found =
    let a_is : made_option is ≡ a = cc (at_name, found) in
    let opt : IsOption top.rules (made_option is) = record { one = record { range = refl; parser = refl }; action = refl; found = at_id } in
    (subst (λ (z : Rule). IsOption top.rules z) a_is opt, sym (ap (λ (z : Rule). z.id) a_is) ∙ same, ap (bytes_eq file.id) (sym same) ∙ apart)
found_option name a (unnamed none not_name) found = cc (none, found)

known_names : (name : Text) → Named name → is_name option_names name ≡ is_some (arg_by_long top.rules name)
known_names name (named is same known apart at_name at_id) = ap (is_name option_names) (sym same) ∙ known ∙ sym (ap is_some at_name)
known_names name (unnamed none not_name) = not_name ∙ sym (ap is_some none)

pub plain_command : IsPlainCommand top file option_names
plain_command = record {
  options = λ name a found. found_option name a (find_name name) found;
  known = λ name. known_names name (find_name name);
  no_short = λ x. refl;
  file_at = refl;
  is_file = record { one = record { range = refl; parser = refl }; action = refl; found = refl; plain = refl };
  again = refl;
  leaf = refl;
}

-- the walk as a fold
pub walk_fold : (s : Shape) (w : Walk) (ws : List Text) → fold (walked s.rules []) w ws ≡ walk_rest s w ws
walk_fold s w [] = refl
walk_fold s w (x ∷ ws) = walk_fold s (walked s.rules [] w x) ws

or_true : (b : Bool) → (b || true) ≡ true
or_true true = refl
or_true false = refl

abbrev NoDefaults : List Rule → Type 0
NoDefaults [] = Unit {0}
NoDefaults (a ∷ rest) = (a.defaults ≡ []) × NoDefaults rest

same_either : {A : Type 0} (b : Bool) (x : A) → cond b x x ≡ x
same_either true x = refl
same_either false x = refl

default_kept : (rows : List Row) (a : Rule) → a.defaults ≡ [] → with_default rows a ≡ rows
default_kept rows a e = rw (e, same_either) refl

default_fine : (rows : List Row) (a : Rule) → a.defaults ≡ [] → default_fault rows a ≡ []
default_fine rows a e = rw (e, or_true) refl

no_defaults : (rules : List Rule) (rows : List Row) → NoDefaults rules → defaults_fault rows rules ≡ []
unfolding defaults_fault
no_defaults [] rows none = refl
no_defaults (a ∷ rest) rows none = rw (default_fine rows a none.0) (no_defaults rest (with_default rows a) none.1)

-- no argument has a default
finished_is : (rules : List Rule) (rows : List Row) → NoDefaults rules → fold with_default rows rules ≡ rows
finished_is [] rows none = refl
finished_is (a ∷ rest) rows none = rw (default_kept rows a none.0) (finished_is rest rows none.1)

abbrev pub start : Walk
start = at [] None idle false

chain : (wf sf df cf : Kinds) → df ≡ [] → cf ≡ [] → or_else wf (or_else [] (or_else sf (or_else df cf))) ≡ or_else wf sf
chain wf [] df cf a b = rw (a, b) refl
chain wf (k ∷ sf) df cf a b = refl

pub faults_are : (ws : List Text) → fault_of command ws ≡ total top start ws
faults_are ws =
    let held = (walk top.rules [] nothing_held ws).held in
    let rows = (settled top.rules held).rows in
    leaf_fault (built command) nothing_held ws refl
    ∙ chain (walk_fault top [] start ws) (faults_of top held) (defaults_fault rows top.rules) _
    (no_defaults top.rules rows (refl, (refl, (refl, (refl, (refl, tt)))))) refl
    ∙ ap (λ (w : Walk). or_else (walk_fault top [] start ws) (faults_of top w.held)) (walk_fold top start ws)

-- the rows at the end of the walk
abbrev pub end_rows : List Text → List Row
end_rows ws = settled_rows top.rules (walk_rest top start ws).held.pending (walk_rest top start ws).held.rows

pub matches_are : (ws : List Text) → matches_of command ws ≡ end_rows ws
matches_are ws =
    finished_is top.rules (settled top.rules (walk top.rules [] nothing_held ws).held).rows (refl, (refl, (refl, (refl, (refl, tt)))))
    ∙ ap (λ (w : Walk). settled_rows top.rules w.held.pending w.held.rows) (walk_fold top start ws)

-- what is said, by the walk
pub told : (ws : List Text) → Sound ws → Tells top file option_names plain_command (said option_names None false nothing ws) start ws
told ws sound = reads top file option_names plain_command ws false false [] None nothing refl (record { options = λ name is. refl; files = refl }) sound

faulty_none : (k : Kinds) → Faulty k → k ≡ [] → ⊥
faulty_none [] f e = f
faulty_none (x ∷ k) f e = cc e

first_all : (id : Text) (rows : List Row) → first_of id rows ≡ option_and_then (λ vs. slice_get vs 0) (all_of id rows)
first_all id rows = by_row (find (λ r. bytes_eq r.id id) rows)
  where
    by_row : (o : Option Row) → option_and_then (λ r. slice_get r.values 0) o ≡ option_and_then (λ vs. slice_get vs 0) (option_map (λ r. r.values) o)
    by_row None = refl
    by_row (Some r) = refl

first_said : (o : Option Text) → option_and_then (λ vs. slice_get vs 0) (option_map (λ v. v ∷ []) o) ≡ o
first_said None = refl
first_said (Some v) = refl

abbrev pub files_or : Option (List Text) → List Text
files_or None = []
files_or (Some fs) = fs

files_back : (fs : List Text) → files_or (files_row fs) ≡ fs
files_back [] = refl
files_back (x ∷ fs) = refl

abbrev pub kept_rows : List Row → Kept
kept_rows rows = record {
  files = files_or (all_of (codes "file") rows);
  limit = first_of (codes "limit") rows;
  workers = first_of (codes "workers") rows;
  connections = first_of (codes "connections") rows;
  port = first_of (codes "port") rows;
}

kept_said : (rows : List Row) (r : Texts) → Matches option_names file.id rows r → kept_rows rows ≡ kept r
kept_said rows r m =
    let files = ap files_or m.files ∙ files_back r.files in
    let limit = first (codes "limit") refl in
    let workers = first (codes "workers") refl in
    let connections = first (codes "connections") refl in
    let port = first (codes "port") refl in
    λ i. record { files = files i; limit = limit i; workers = workers i; connections = connections i; port = port i }
  where
    first : (name : Text) → is_name option_names name ≡ true → first_of name rows ≡ value_of name r.options
    first name is = first_all name rows ∙ ap (option_and_then (λ vs. slice_get vs 0)) (m.options name is) ∙ first_said _

-- clap took the words
pub takes : (ws : List Text) → Sound ws → fault_of command ws ≡ [] → Some (kept_rows (matches_of command ws)) ≡ taken ws
takes ws sound fine = go (said option_names None false nothing ws) (told ws sound)
  where
    go : (o : Option Texts) → Tells top file option_names plain_command o start ws → Some (kept_rows (matches_of command ws)) ≡ option_map kept o
    go None f = absurd (faulty_none (total top start ws) f (sym (faults_are ws) ∙ fine))
    go (Some r) t = ap Some (ap kept_rows (matches_are ws) ∙ kept_said (end_rows ws) r t.1)

-- clap refused the words
pub refuses : (ws : List Text) (k : ErrorKind) → Sound ws → IsAmong k (fault_of command ws) → None ≡ taken ws
refuses ws k sound among = go (said option_names None false nothing ws) (told ws sound)
  where
    go : (o : Option Texts) → Tells top file option_names plain_command o start ws → None ≡ option_map kept o
    go None f = refl
    go (Some r) t = let e : fault_of command ws ≡ [] = faults_are ws ∙ t.0 in absurd (rw e at among)
