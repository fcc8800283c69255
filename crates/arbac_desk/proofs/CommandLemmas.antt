-- Words, and the form that they are of: there is one at most, whether there is one is decided, and each has its own answer.
use Rattle.std.proofs.Common.{ℕ, ◌≡◌, ◌∙◌, ◌≤◌, ◌-◌, List, [], ◌∷◌, length, get_or, take, drop, refl, sym, ap, arith, subst, inl, inr, Option, Some, None}
use Rattle.std.specs.Prelude.{◌⊎◌, String, codes}
use Rattle.std.specs.List.{list_all}
use Rattle.std.specs.Char.{is_ascii_digit}
use Rattle.std.specs.Str.{bytes_eq}
use Rattle.std.specs.String.{string_bytes}
use Rattle.std.specs.declared.alloc.Global.{Global}
use Rattle.std.specs.Str.Parse.{digits_value}
use Rattle.std.proofs.lemmas.Bool.{cases_Bool, cases_lt, false≢true}
use Rattle.std.proofs.lemmas.List.{take_rest}
use Rattle.std.proofs.lemmas.Slice.Eq.{bytes_eq-Decides}
use Rattle.list_words.specs.Lists.{Each}
use Rattle.list_words.proofs.NumberLemmas.{cases_eq}
use Rattle.desk_ports.specs.Shelves.{ShelfView}
use Rattle.desk_ports.specs.Sinks.{SinkView}
use Rattle.role_order.specs.Names.{texts}
use Rattle.sample_question.specs.declared.TheConstants.{MOST_SIZE}
use Rattle.command_words.specs.declared.TheConstants.{MOST_DIGITS}
use Rattle.command_words.specs.Words.{Said, IsSaid, IsFileName, IsNumber}
use Rattle.command_words.specs.Command.{Kept, taken}
use Rattle.command_words.specs.Views.{IsToldAs, AreJudged}
use Rattle.command_words.proofs.ValueLemmas.{apart_bytes}
use Rattle.command_words.proofs.SayLemmas.{taken_said, said_taken, none_said, refused_said}
use Rattle.arbac_desk.specs.declared.TheConstants.{MOST_LIMIT, USUAL_LIMIT, MOST_WORKERS, USUAL_WORKERS}
use Rattle.arbac_desk.specs.Statuses.{NO_MEMORY}
use Rattle.arbac_desk.specs.Commands.{Form, replay, check, ask, make, IsSetting, files_alone, IsSearch, IsForm, AreWordsOf, AreOfNoForm, IsWithin}
use Rattle.arbac_desk.specs.ReplayAnswers.{IsReplyTo}
use Rattle.arbac_desk.specs.CheckAnswers.{IsCheckReply}
use Rattle.arbac_desk.specs.AskAnswers.{IsReplyToDocument}
use Rattle.arbac_desk.specs.MakeAnswers.{IsMadeReply}
use Rattle.arbac_desk.specs.CommandAnswers.{IsAnswerTo}
use Rattle.arbac_desk.proofs.AnswerLemmas.{out_of_memory}
use Rattle.arbac_desk.proofs.FileLemmas.{nothing_done}

-- ---- one form at most

one_told : (value : Option (List ℕ)) (a b : Option ℕ) → IsToldAs value a → IsToldAs value b → a ≡ b
one_told None a b h k = h ∙ sym k
one_told (Some value) None b h k = absurd h
one_told (Some value) (Some m) None h k = absurd k
one_told (Some value) (Some m) (Some n) h k = ap Some (h.number_is ∙ sym k.number_is)

-- words say one thing at most
one_said : (words : List (List ℕ)) (a b : Said) → IsSaid words a → IsSaid words b → a ≡ b
one_said words a b h k =
    let texts = said_taken words a h in
    let first = texts.2 in
    let second = none_said words texts.0 b (sym texts.1) k in
    let files : a.files ≡ b.files = first.files ∙ sym second.files in
    let limit = one_told texts.0.limit a.limit b.limit first.limit second.limit in
    let workers = one_told texts.0.workers a.workers b.workers first.workers second.workers in
    let connections = one_told texts.0.connections a.connections b.connections first.connections second.connections in
    let port = one_told texts.0.port a.port b.port first.port second.port in
    λ i. record { files = files i; limit = limit i; workers = workers i; connections = connections i; port = port i }

one_setting : (told : Option ℕ) (most usual a b : ℕ) → IsSetting told most usual a → IsSetting told most usual b → a ≡ b
one_setting None most usual a b h k = h ∙ sym k
one_setting (Some told) most usual a b h k = h.2 ∙ sym k.2

-- the word of a form
abbrev word_of : Form → List ℕ
word_of (replay run) = codes "replay"
word_of (check question cert) = codes "check"
word_of (ask question limit workers) = codes "ask"
word_of (make size limit workers) = codes "make"

is_word : (word : List ℕ) (said : Said) (form : Form) → IsForm word said form → word ≡ word_of form
is_word word said (replay run) h = h.0
is_word word said (check question cert) h = h.0
is_word word said (ask question limit workers) h = h.0
is_word word said (make size limit workers) h = h.0

-- a word and what is said behind it are of one form at most
one_of : (word : List ℕ) (said : Said) (a b : Form) → IsForm word said a → IsForm word said b → a ≡ b
one_of word said (replay run) (replay other) h k =
    let files : (run ∷ []) ≡ (other ∷ []) = ap (λ (s : Said). s.files) (sym h.1 ∙ k.1) in
    cc
one_of word said (check question cert) (check other more) h k =
    let files : (question ∷ cert ∷ []) ≡ (other ∷ more ∷ []) = ap (λ (s : Said). s.files) (sym h.1 ∙ k.1) in
    cc
one_of word said (ask question limit workers) (ask other most many) h k =
    let files : (question ∷ []) ≡ (other ∷ []) = sym h.1.files_are ∙ k.1.files_are in
    let limits = one_setting said.limit MOST_LIMIT USUAL_LIMIT limit most h.1.limit_is k.1.limit_is in
    let all_workers = one_setting said.workers MOST_WORKERS USUAL_WORKERS workers many h.1.workers_are k.1.workers_are in
    cc
one_of word said (make size limit workers) (make other most many) h k =
    let files : (h.1 ∷ []) ≡ (k.1 ∷ []) = sym h.2.files_are ∙ k.2.files_are in
    let text : h.1 ≡ k.1 = cc in
    let sizes : size ≡ other = h.3.number_is ∙ ap (digits_value 10) text ∙ sym k.3.number_is in
    let limits = one_setting said.limit MOST_LIMIT USUAL_LIMIT limit most h.2.limit_is k.2.limit_is in
    let all_workers = one_setting said.workers MOST_WORKERS USUAL_WORKERS workers many h.2.workers_are k.2.workers_are in
    cc
one_of word said a b h k = absurd (apart_bytes (word_of a) (word_of b) refl (sym (is_word word said a h) ∙ is_word word said b k))

-- words are of one form at most
pub one_form : (words : List (List ℕ)) (a b : Form) → AreWordsOf words a → AreWordsOf words b → a ≡ b
one_form [] a b h k = absurd h
one_form (word ∷ words) a b h k =
    one_of word h.0 a b h.2 (subst (λ (s : Said). IsForm word s b) (one_said words k.0 h.0 k.1 h.1) k.2)

-- ---- no form

-- behind the word of a command stands what is of no form of that command, and so of none
pub only_replay : (word : List ℕ) (said : Said) → word ≡ codes "replay" → ((run : List ℕ) → said ≡ files_alone (run ∷ []) → ⊥)
    → (form : Form) → IsForm word said form → ⊥
only_replay word said e none (replay run) h = none run h.1
only_replay word said e none form h = apart_bytes (word_of form) (codes "replay") refl (sym (is_word word said form h) ∙ e)

pub only_check : (word : List ℕ) (said : Said) → word ≡ codes "check"
    → ((question cert : List ℕ) → said ≡ files_alone (question ∷ cert ∷ []) → ⊥) → (form : Form) → IsForm word said form → ⊥
only_check word said e none (check question cert) h = none question cert h.1
only_check word said e none form h = apart_bytes (word_of form) (codes "check") refl (sym (is_word word said form h) ∙ e)

pub only_make : (word : List ℕ) (said : Said) → word ≡ codes "make"
    → ((size limit workers : ℕ) → IsForm (codes "make") said (make size limit workers) → ⊥) → (form : Form) → IsForm word said form → ⊥
only_make word said e none (make size limit workers) h = none size limit workers (subst (λ w. IsForm w said (make size limit workers)) e h)
only_make word said e none form h = apart_bytes (word_of form) (codes "make") refl (sym (is_word word said form h) ∙ e)

-- what is said behind the word is of no form
pub no_form_said : (word : List ℕ) (words : List (List ℕ)) (said : Said) → IsSaid words said → ((form : Form) → IsForm word said form → ⊥)
    → AreOfNoForm (word ∷ words)
no_form_said word words said is none form h = none form (subst (λ (s : Said). IsForm word s form) (one_said words h.0 said h.1 is) h.2)

-- and nothing is said behind it
pub nothing_said : (word : List ℕ) (words : List (List ℕ)) → ((said : Said) → IsSaid words said → ⊥) → AreOfNoForm (word ∷ words)
nothing_said word words none form h = none h.0 h.1

-- the texts of the first string and of the others
pub first_text : (words : List (String Global)) (first : String Global) → 1 ≤ length words → first ≡ get_or words 0 first
    → texts words ≡ string_bytes first ∷ texts (take (length words - 1) (drop 1 words))
first_text [] first some e = absurd (omega arith)
first_text (word ∷ words) first some e = ap (λ (s : String Global). string_bytes s ∷ texts words) (sym e)
    ∙ ap (λ (rest : List (String Global)). string_bytes first ∷ texts rest) (sym (take_rest (word ∷ words) 1))

-- ---- whether there is one

-- it is so, or it isn't
abbrev Decided : Type 0 → Type 0
Decided P = P ⊎ (P → ⊥)

name_decided : (name : List ℕ) → Decided (IsFileName name)
name_decided [] = inr (λ h. h.0 refl)
name_decided (first ∷ rest) = elim (cases_eq first 45) [
  | inl e ↦ inr (λ h. h.1 rest (ap (λ c. c ∷ rest) e))
  | inr n ↦ inl (λ e. cc e, λ more e. n (by_first more e))
]
  where
    by_first : (more : List ℕ) → (first ∷ rest) ≡ (45 ∷ more) → first ≡ 45
    by_first more e = cc

names_decided : (names : List (List ℕ)) → Decided (Each IsFileName names)
names_decided [] = inl tt
names_decided (name ∷ names) = by_both (name_decided name) (names_decided names)
  where
    by_both : Decided (IsFileName name) → Decided (Each IsFileName names) → Decided (Each IsFileName (name ∷ names))
    by_both (inl h) (inl k) = inl (h, k)
    by_both (inl h) (inr n) = inr (λ k. n k.1)
    by_both (inr n) k = inr (λ h. n h.0)

number_decided : (text : List ℕ) → Decided ((number : ℕ) × IsNumber text number)
number_decided text = elim (cases_lt 0 (length text)) [
  | inl some ↦ elim (cases_lt MOST_DIGITS (length text)) [
    | inl many ↦ inr (λ h. let few = h.1.few in omega arith)
    | inr few ↦ elim (cases_Bool (list_all is_ascii_digit text)) [
      | inl digits ↦ inl (digits_value 10 text, record { some = omega arith; few = few; digits = digits; number_is = refl })
      | inr other ↦ inr (λ h. false≢true (sym other ∙ h.1.digits))
    ]
  ]
  | inr none ↦ inr (λ h. let some = h.1.some in omega arith)
]

told_decided : (value : Option (List ℕ)) → Decided ((told : Option ℕ) × IsToldAs value told)
told_decided None = inl (None, refl)
told_decided (Some value) = by_number (number_decided value)
  where
    no_number : ((number : ℕ) × IsNumber value number → ⊥) → (told : Option ℕ) → IsToldAs (Some value) told → ⊥
    no_number none None h = h
    no_number none (Some number) h = none (number, h)

    by_number : Decided ((number : ℕ) × IsNumber value number) → Decided ((told : Option ℕ) × IsToldAs (Some value) told)
    by_number (inl h) = inl (Some h.0, h.1)
    by_number (inr none) = inr (λ h. no_number none h.0 h.1)

judged_decided : (kept : Kept) → Decided ((told : Said) × AreJudged kept told)
judged_decided kept = by_parts (names_decided kept.files) (told_decided kept.limit) (told_decided kept.workers) (told_decided kept.connections)
    (told_decided kept.port)
  where
    Value : Option (List ℕ) → Type 0
    Value value = Decided ((told : Option ℕ) × IsToldAs value told)

    by_parts : Decided (Each IsFileName kept.files) → Value kept.limit → Value kept.workers → Value kept.connections → Value kept.port
        → Decided ((told : Said) × AreJudged kept told)
    by_parts (inl names) (inl limit) (inl workers) (inl connections) (inl port) = inl (
      record { files = kept.files; limit = limit.0; workers = workers.0; connections = connections.0; port = port.0 },
      record { files = refl; names = names; limit = limit.1; workers = workers.1; connections = connections.1; port = port.1 },
    )
    by_parts (inr none) limit workers connections port = inr (λ h. none h.1.names)
    by_parts (inl names) (inr none) workers connections port = inr (λ h. none (h.0.limit, h.1.limit))
    by_parts (inl names) (inl limit) (inr none) connections port = inr (λ h. none (h.0.workers, h.1.workers))
    by_parts (inl names) (inl limit) (inl workers) (inr none) port = inr (λ h. none (h.0.connections, h.1.connections))
    by_parts (inl names) (inl limit) (inl workers) (inl connections) (inr none) = inr (λ h. none (h.0.port, h.1.port))

said_decided : (words : List (List ℕ)) → Decided ((said : Said) × IsSaid words said)
said_decided words = by_taken (taken words) refl
  where
    by_judged : (kept : Kept) → taken words ≡ Some kept → Decided ((told : Said) × AreJudged kept told) → Decided ((said : Said) × IsSaid words said)
    by_judged kept e (inl h) = inl (h.0, taken_said words kept h.0 (sym e) h.1)
    by_judged kept e (inr none) = inr (λ h. none (h.0, none_said words kept h.0 (sym e) h.1))

    by_taken : (found : Option Kept) → taken words ≡ found → Decided ((said : Said) × IsSaid words said)
    by_taken None e = inr (λ h. refused_said words h.0 (sym e) h.1)
    by_taken (Some kept) e = by_judged kept e (judged_decided kept)

setting_decided : (told : Option ℕ) (most usual : ℕ) → Decided ((number : ℕ) × IsSetting told most usual number)
setting_decided None most usual = inl (usual, refl)
setting_decided (Some told) most usual = elim (cases_lt 0 told) [
  | inl some ↦ elim (cases_lt most told) [
    | inl many ↦ inr (λ h. let few = h.1.1 in omega arith)
    | inr few ↦ inl (told, (omega arith, few, refl))
  ]
  | inr none ↦ inr (λ h. let some = h.1.0 in omega arith)
]

untold_decided : (told : Option ℕ) → Decided (told ≡ None)
untold_decided None = inl refl
untold_decided (Some number) = inr (λ e. cc e)

one_decided : (files : List (List ℕ)) → Decided ((file : List ℕ) × (files ≡ file ∷ []))
one_decided [] = inr (λ h. let e = h.1 in cc e)
one_decided (file ∷ []) = inl (file, refl)
one_decided (file ∷ other ∷ more) = inr (λ h. let e : (file ∷ other ∷ more) ≡ (h.0 ∷ []) = h.1 in let f : (other ∷ more) ≡ [] = cc in cc f)

two_decided : (files : List (List ℕ)) → Decided ((file : List ℕ) × (other : List ℕ) × (files ≡ file ∷ other ∷ []))
two_decided [] = inr (λ h. let e = h.2 in cc e)
two_decided (file ∷ []) = inr (λ h. let e : (file ∷ []) ≡ (h.0 ∷ h.1 ∷ []) = h.2 in let f : ◌≡◌ {A = List (List ℕ)} [] (h.1 ∷ []) = cc in cc f)
two_decided (file ∷ other ∷ []) = inl (file, other, refl)
two_decided (file ∷ other ∷ third ∷ more) =
    inr (λ h. let e : (file ∷ other ∷ third ∷ more) ≡ (h.0 ∷ h.1 ∷ []) = h.2 in let f : (third ∷ more) ≡ [] = cc in cc f)

-- no option is told
abbrev IsPlain : Said → Type 0
IsPlain said = (said.limit ≡ None) × (said.workers ≡ None) × (said.connections ≡ None) × (said.port ≡ None)

-- what is said by files alone
alone : (said : Said) (files : List (List ℕ)) → said.files ≡ files → IsPlain said → said ≡ files_alone files
alone said files e (limit, workers, connections, port) =
    λ i. record { files = e i; limit = limit i; workers = workers i; connections = connections i; port = port i }

alone_plain : (said : Said) (files : List (List ℕ)) → said ≡ files_alone files → (said.files ≡ files) × IsPlain said
alone_plain said files e = (
  ap (λ (s : Said). s.files) e,
  (
    ap (λ (s : Said). s.limit) e,
    ap (λ (s : Said). s.workers) e,
    ap (λ (s : Said). s.connections) e,
    ap (λ (s : Said). s.port) e,
  ),
)

plain_decided : (said : Said) → Decided (IsPlain said)
plain_decided said = by_parts (untold_decided said.limit) (untold_decided said.workers) (untold_decided said.connections) (untold_decided said.port)
  where
    by_parts : Decided (said.limit ≡ None) → Decided (said.workers ≡ None) → Decided (said.connections ≡ None) → Decided (said.port ≡ None)
        → Decided (IsPlain said)
    by_parts (inl limit) (inl workers) (inl connections) (inl port) = inl (limit, workers, connections, port)
    by_parts (inr none) workers connections port = inr (λ h. none h.0)
    by_parts (inl limit) (inr none) connections port = inr (λ h. none h.1)
    by_parts (inl limit) (inl workers) (inr none) port = inr (λ h. none h.2)
    by_parts (inl limit) (inl workers) (inl connections) (inr none) = inr (λ h. none h.3)

-- a search over one file
abbrev Search : Said → Type 0
Search said = (file : List ℕ) × (limit : ℕ) × (workers : ℕ) × IsSearch said (file ∷ []) limit workers

search_decided : (said : Said) → Decided (Search said)
search_decided said = by_parts (one_decided said.files) (setting_decided said.limit MOST_LIMIT USUAL_LIMIT)
    (setting_decided said.workers MOST_WORKERS USUAL_WORKERS) (untold_decided said.connections) (untold_decided said.port)
  where
    by_parts : Decided ((file : List ℕ) × (said.files ≡ file ∷ [])) → Decided ((limit : ℕ) × IsSetting said.limit MOST_LIMIT USUAL_LIMIT limit)
        → Decided ((workers : ℕ) × IsSetting said.workers MOST_WORKERS USUAL_WORKERS workers) → Decided (said.connections ≡ None)
        → Decided (said.port ≡ None) → Decided (Search said)
    by_parts (inl files) (inl limit) (inl workers) (inl connections) (inl port) = inl (
      files.0,
      limit.0,
      workers.0,
      record {
        files_are = files.1;
        limit_is = limit.1;
        workers_are = workers.1;
        no_connections = connections;
        no_port = port;
      },
    )
    by_parts (inr none) limit workers connections port = inr (λ h. none (h.0, h.3.files_are))
    by_parts (inl files) (inr none) workers connections port = inr (λ h. none (h.1, h.3.limit_is))
    by_parts (inl files) (inl limit) (inr none) connections port = inr (λ h. none (h.2, h.3.workers_are))
    by_parts (inl files) (inl limit) (inl workers) (inr none) port = inr (λ h. none h.3.no_connections)
    by_parts (inl files) (inl limit) (inl workers) (inl connections) (inr none) = inr (λ h. none h.3.no_port)

word_decided : (word other : List ℕ) → Decided (word ≡ other)
word_decided word other = elim (cases_Bool (bytes_eq word other)) [
  | inl same ↦ inl ((bytes_eq-Decides word other).0 same)
  | inr apart ↦ inr (apart_bytes word other apart)
]

-- the word and what is said behind it are of this command
abbrev OfReplay : List ℕ → Said → Type 0
OfReplay word said = (run : List ℕ) × IsForm word said (replay run)

abbrev OfCheck : List ℕ → Said → Type 0
OfCheck word said = (question : List ℕ) × (cert : List ℕ) × IsForm word said (check question cert)

abbrev OfAsk : List ℕ → Said → Type 0
OfAsk word said = (question : List ℕ) × (limit : ℕ) × (workers : ℕ) × IsForm word said (ask question limit workers)

abbrev OfMake : List ℕ → Said → Type 0
OfMake word said = (size : ℕ) × (limit : ℕ) × (workers : ℕ) × IsForm word said (make size limit workers)

module _ (word : List ℕ) (said : Said) where
  replay_decided : Decided (OfReplay word said)
  replay_decided = by_parts (word_decided word (codes "replay")) (one_decided said.files) (plain_decided said)
    where
      by_parts : Decided (word ≡ codes "replay") → Decided ((file : List ℕ) × (said.files ≡ file ∷ [])) → Decided (IsPlain said)
          → Decided (OfReplay word said)
      by_parts (inl is) (inl files) (inl plain) = inl (files.0, (is, alone said (files.0 ∷ []) files.1 plain))
      by_parts (inr none) files plain = inr (λ h. none h.1.0)
      by_parts (inl is) (inr none) plain = inr (λ h. none (h.0, (alone_plain said (h.0 ∷ []) h.1.1).0))
      by_parts (inl is) (inl files) (inr none) = inr (λ h. none (alone_plain said (h.0 ∷ []) h.1.1).1)

  check_decided : Decided (OfCheck word said)
  check_decided = by_parts (word_decided word (codes "check")) (two_decided said.files) (plain_decided said)
    where
      by_parts : Decided (word ≡ codes "check") → Decided ((file : List ℕ) × (other : List ℕ) × (said.files ≡ file ∷ other ∷ []))
          → Decided (IsPlain said) → Decided (OfCheck word said)
      by_parts (inl is) (inl files) (inl plain) = inl (files.0, files.1, (is, alone said (files.0 ∷ files.1 ∷ []) files.2 plain))
      by_parts (inr none) files plain = inr (λ h. none h.2.0)
      by_parts (inl is) (inr none) plain = inr (λ h. none (h.0, h.1, (alone_plain said (h.0 ∷ h.1 ∷ []) h.2.1).0))
      by_parts (inl is) (inl files) (inr none) = inr (λ h. none (alone_plain said (h.0 ∷ h.1 ∷ []) h.2.1).1)

  ask_decided : Decided (OfAsk word said)
  ask_decided = by_parts (word_decided word (codes "ask")) (search_decided said)
    where
      by_parts : Decided (word ≡ codes "ask") → Decided (Search said) → Decided (OfAsk word said)
      by_parts (inl is) (inl s) = inl (s.0, s.1, s.2, (is, s.3))
      by_parts (inr none) s = inr (λ h. none h.3.0)
      by_parts (inl is) (inr none) = inr (λ h. none (h.0, h.1, h.2, h.3.1))

  make_decided : Decided (OfMake word said)
  make_decided = by_parts (word_decided word (codes "make")) (search_decided said)
    where
      by_parts : Decided (word ≡ codes "make") → Decided (Search said) → Decided (OfMake word said)
      by_parts (inr none) s = inr (λ h. none h.3.0)
      by_parts (inl is) (inr none) = inr (λ h. none (h.3.1, h.1, h.2, h.3.2))
      by_parts (inl is) (inl s) = by_number (number_decided s.0)
        where
          named : (text : List ℕ) (limit workers : ℕ) → IsSearch said (text ∷ []) limit workers → text ≡ s.0
          named text limit workers search = let e : (text ∷ []) ≡ (s.0 ∷ []) = sym search.files_are ∙ s.3.files_are in cc

          by_number : Decided ((number : ℕ) × IsNumber s.0 number) → Decided (OfMake word said)
          by_number (inr none) = inr (λ h. none (h.0, subst (λ t. IsNumber t h.0) (named h.3.1 h.1 h.2 h.3.2) h.3.3))
          by_number (inl number) = by_size (setting_decided (Some number.0) MOST_SIZE MOST_SIZE)
            where
              by_size : Decided ((size : ℕ) × IsSetting (Some number.0) MOST_SIZE MOST_SIZE size) → Decided (OfMake word said)
              by_size (inl size) = inl (number.0, s.1, s.2, (is, s.0, s.3, number.1, size.1.0, size.1.1))
              by_size (inr none) = inr (λ h.
                  let same : h.0 ≡ number.0 =
                  h.3.3.number_is ∙ ap (digits_value 10) (named h.3.1 h.1 h.2 h.3.2) ∙ sym number.1.number_is in
                  none (h.0, (subst (λ n. 1 ≤ n) same h.3.4, subst (λ n. n ≤ MOST_SIZE) same h.3.5, same)))

  form_decided : Decided ((form : Form) × IsForm word said form)
  form_decided = by_parts replay_decided check_decided ask_decided make_decided
    where
      by_parts : Decided (OfReplay word said) → Decided (OfCheck word said) → Decided (OfAsk word said) → Decided (OfMake word said)
          → Decided ((form : Form) × IsForm word said form)
      by_parts (inl h) c a m = inl (replay h.0, h.1)
      by_parts (inr r) (inl h) a m = inl (check h.0 h.1, h.2)
      by_parts (inr r) (inr c) (inl h) m = inl (ask h.0 h.1 h.2, h.3)
      by_parts (inr r) (inr c) (inr a) (inl h) = inl (make h.0 h.1 h.2, h.3)
      by_parts (inr r) (inr c) (inr a) (inr m) = inr (λ h. none h.0 h.1)
        where
          none : (form : Form) → IsForm word said form → ⊥
          none (replay run) h = r (run, h)
          none (check question cert) h = c (question, cert, h)
          none (ask question limit workers) h = a (question, limit, workers, h)
          none (make size limit workers) h = m (size, limit, workers, h)

-- words are of a form, or of none
pub formed : (words : List (List ℕ)) → ((form : Form) × AreWordsOf words form) ⊎ AreOfNoForm words
formed [] = inr (λ form h. h)
formed (word ∷ words) = by_said (said_decided words)
  where
    by_form : (said : Said) → IsSaid words said → Decided ((form : Form) × IsForm word said form)
        → ((form : Form) × AreWordsOf (word ∷ words) form) ⊎ AreOfNoForm (word ∷ words)
    by_form said is (inl h) = inl (h.0, (said, is, h.1))
    by_form said is (inr none) = inr (no_form_said word words said is (λ form h. none (form, h)))

    by_said : Decided ((said : Said) × IsSaid words said) → ((form : Form) × AreWordsOf (word ∷ words) form) ⊎ AreOfNoForm (word ∷ words)
    by_said (inl h) = by_form h.0 h.1 (form_decided word h.0)
    by_said (inr none) = inr (nothing_said word words (λ said is. none (said, is)))

-- ---- answers

set_within : (told : Option ℕ) (most usual number : ℕ) → 1 ≤ usual → usual ≤ most → IsSetting told most usual number → (1 ≤ number) × (number ≤ most)
set_within None most usual number some few e = (omega arith, omega arith)
set_within (Some told) most usual number some few h = let l = h.0 in let m = h.1 in let e = h.2 in (omega arith, omega arith)

-- the numbers that the words tell, or leave, are within their limits
within : (word : List ℕ) (said : Said) (form : Form) → IsForm word said form → IsWithin form
within word said (replay run) h = tt
within word said (check question cert) h = tt
within word said (ask question limit workers) h = (
  set_within said.limit MOST_LIMIT USUAL_LIMIT limit (omega arith) (omega arith) h.1.limit_is,
  set_within said.workers MOST_WORKERS USUAL_WORKERS workers (omega arith) (omega arith) h.1.workers_are,
)
within word said (make size limit workers) h = (
  (h.4, h.5),
  set_within said.limit MOST_LIMIT USUAL_LIMIT limit (omega arith) (omega arith) h.2.limit_is,
  set_within said.workers MOST_WORKERS USUAL_WORKERS workers (omega arith) (omega arith) h.2.workers_are,
)

pub words_within : (words : List (List ℕ)) (form : Form) → AreWordsOf words form → IsWithin form
words_within [] form h = absurd h
words_within (word ∷ words) form h = within word h.0 form h.2

-- the answer to words of a form is that to words of any form that they are of
pub answer_as : (words : List (List ℕ)) (told : Form) (shelf shelf' : ShelfView) (sink sink' : SinkView) (status : ℕ) → AreWordsOf words told
    → IsAnswerTo told shelf shelf' sink sink' status → (form : Form) → AreWordsOf words form → IsAnswerTo form shelf shelf' sink sink' status
answer_as words told shelf shelf' sink sink' status is answer form words_of =
    subst (λ f. IsAnswerTo f shelf shelf' sink sink' status) (one_form words told form is words_of) answer

-- no memory was left: nothing was asked, and nothing written
pub answer_lost : (shelf : ShelfView) (sink : SinkView) (form : Form) → IsAnswerTo form shelf shelf sink sink NO_MEMORY
answer_lost shelf sink (replay run) = nothing_done (IsReplyTo run) run shelf sink
answer_lost shelf sink (check question cert) = record {
  asked = inl (record { counted = refl; missed = refl });
  says = out_of_memory (IsCheckReply question cert shelf shelf) sink;
}
answer_lost shelf sink (ask question limit workers) = nothing_done (IsReplyToDocument limit question) question shelf sink
answer_lost shelf sink (make size limit workers) = (refl, out_of_memory (IsMadeReply size limit) sink)
