-- What a document of keys and lists of tables reads as: its lines are expressions, and these leave each key its value.
use Rattle.std.proofs.Common.{◌≡◌, ℕ, ◌≤◌, Bool, true, false, cond, Ordering, Less, Equal, Greater, nat_cmp, List, [], ◌∷◌, ◌++◌}
use Rattle.std.proofs.Common.{Option, Some, None, option_map, option_and_then, refl, sym, ap, ◌∙◌, subst, arith, append_assoc}
use Rattle.std.specs.Prelude.{codes, map, if◌then◌else◌}
use Rattle.std.specs.Cmp.Lexicographic.{slice_cmp}
use Rattle.std.specs.List.{flat_map, list_any}
use Rattle.std.specs.Str.{bytes_eq, IsUtf8}
use Rattle.std.specs.Option.{unwrap_or}
use Rattle.std.proofs.lemmas.Map.Text.{is_eq-slice_cmp}
use Rattle.std.proofs.lemmas.Option.{none-some}
use Rattle.std.proofs.lemmas.Slice.Eq.{bytes_eq-Decides}
use Rattle.std.proofs.lemmas.Str.{IsUtf8-append, IsUtf8-nil}
use Rattle.list_words.specs.Lists.{Each}
use Rattle.toml_writer.specs.Text.{key_text}
use Rattle.toml.specs.Data.{Data, array, table, Items, no_items, push_item, Members, get_member, same_key, depth, has_valid_dates}
use Rattle.toml.specs.Tables.{Node, Nodes, no_nodes, node, open_array, get_node, insert, replace, close, close_node, Document, Expression, key_value}
use Rattle.toml.specs.Tables.{array_table, define, put, along_header, at_key}
use Rattle.toml.specs.Text.{IsValueText}
use Rattle.toml.specs.Parse.{parse_document}
use Rattle.toml.proofs.NodeLaws.{same_key-self, get_node-insert, get_node-replace, replace-insert, replace-replace, replace-self, along_found}
use Rattle.toml.proofs.ReadLines.{run, AllPrinted}
use Rattle.toml.proofs.Fill.{run-append}
use Rattle.question_text.specs.Keys.{first_unknown}
use Rattle.question_writer.specs.Texts.{line, header}
use Rattle.question_writer.proofs.TightLemmas.{IsTightText, tight_document}

-- a key with its value, and the value's text
pub record Entry : Type 0 where
  pub key : List ℕ
  pub text : List ℕ
  pub value : Data

abbrev pub entry_line : Entry → List ℕ
entry_line e = line e.key e.text

abbrev pub as_pair : Entry → Expression
as_pair e = (([], e.key), key_value e.value)

-- the text writes the value, behind a bare key
pub record IsEntry (e : Entry) : Type 0 where
  pub bare : key_text e.key ≡ e.key
  pub text : IsValueText false e.value e.text
  pub flat : depth e.value ≤ 80
  pub dated : has_valid_dates e.value ≡ true
  pub utf8 : IsUtf8 (entry_line e)

-- a key, and the tables that are listed under it
abbrev pub Section : Type 0
Section = List ℕ × List (List Entry)

abbrev pub row_text : List ℕ → List Entry → List ℕ
row_text key row = header key ++ flat_map entry_line row

abbrev pub section_text : Section → List ℕ
section_text s = flat_map (row_text s.0) s.1

abbrev pub blocks_text : List Entry → List Section → List ℕ
blocks_text top sections = flat_map entry_line top ++ flat_map section_text sections

abbrev pub row_lines : List ℕ → List Entry → List Expression
row_lines key row = (([], key), array_table) ∷ map as_pair row

abbrev pub section_lines : Section → List Expression
section_lines s = flat_map (row_lines s.0) s.1

-- the members of a table, put in one by one
abbrev pub fill : List Entry → Nodes → Option Nodes
fill [] ns = Some ns
fill (e ∷ es) ns = option_and_then (fill es) (put ([], e.key) e.value ns)

abbrev pub filled : List Entry → Nodes
filled row = unwrap_or (fill row no_nodes) no_nodes

-- the table of a row
abbrev pub row_data : List Entry → Data
row_data row = table (close (filled row))

pub record IsRow (row : List Entry) : Type 0 where
  pub entries : Each IsEntry row
  pub full : fill row no_nodes ≡ Some (filled row)

pub record IsSection (s : Section) : Type 0 where
  pub bare : key_text s.0 ≡ s.0
  pub rows : Each IsRow s.1
  pub utf8 : IsUtf8 (header s.0)

-- ---- the text's lines

tight-append : (es fs : List Expression) (t u : List ℕ) → IsTightText es t → IsTightText fs u → IsTightText (es ++ fs) (t ++ u)
tight-append [] fs t u a b = rw a b
tight-append (e ∷ es) fs t u a b =
    let (this, rest, whole, is_line, more) = a in
    (this, rest ++ u, rw whole (append_assoc this rest u), is_line, tight-append es fs rest u more b)

printed-append : (es fs : List Expression) → AllPrinted es → AllPrinted fs → AllPrinted (es ++ fs)
printed-append [] fs a b = b
printed-append (e ∷ es) fs a b = (a.0, printed-append es fs a.1 b)

tight_entries : (es : List Entry) → Each IsEntry es → IsTightText (map as_pair es) (flat_map entry_line es)
tight_entries [] h = refl
tight_entries (e ∷ es) h = (
  entry_line e,
  flat_map entry_line es,
  refl,
  (e.text, ap (λ k. k ++ (codes " = " ++ (e.text ++ (10 ∷ [])))) (sym h.0.bare), h.0.text),
  tight_entries es h.1,
)

printed_entries : (es : List Entry) → Each IsEntry es → AllPrinted (map as_pair es)
printed_entries [] h = tt
printed_entries (e ∷ es) h = ((refl, h.0.flat, h.0.dated), printed_entries es h.1)

tight_row : (key : List ℕ) (row : List Entry) → key_text key ≡ key → IsRow row → IsTightText (row_lines key row) (row_text key row)
tight_row key row bare h =
    (header key, flat_map entry_line row, refl, ap (λ k. codes "[[" ++ (k ++ codes "]]\n")) (sym bare), tight_entries row h.entries)

tight_rows : (key : List ℕ) (rows : List (List Entry)) → key_text key ≡ key → Each IsRow rows
    → IsTightText (flat_map (row_lines key) rows) (flat_map (row_text key) rows)
tight_rows key [] bare h = refl
tight_rows key (row ∷ rows) bare h = tight-append (row_lines key row) _ (row_text key row) _ (tight_row key row bare h.0) (tight_rows key rows bare h.1)

printed_rows : (key : List ℕ) (rows : List (List Entry)) → Each IsRow rows → AllPrinted (flat_map (row_lines key) rows)
printed_rows key [] h = tt
printed_rows key (row ∷ rows) h = printed-append (row_lines key row) _ (omega arith, printed_entries row h.0.entries) (printed_rows key rows h.1)

tight_sections : (sections : List Section) → Each IsSection sections → IsTightText (flat_map section_lines sections) (flat_map section_text sections)
tight_sections [] h = refl
tight_sections (s ∷ ss) h = tight-append (section_lines s) _ (section_text s) _ (tight_rows s.0 s.1 h.0.bare h.0.rows) (tight_sections ss h.1)

printed_sections : (sections : List Section) → Each IsSection sections → AllPrinted (flat_map section_lines sections)
printed_sections [] h = tt
printed_sections (s ∷ ss) h = printed-append (section_lines s) _ (printed_rows s.0 s.1 h.0.rows) (printed_sections ss h.1)

-- ---- the text is UTF-8

entries_utf8 : (es : List Entry) → Each IsEntry es → IsUtf8 (flat_map entry_line es)
entries_utf8 [] h = IsUtf8-nil
entries_utf8 (e ∷ es) h = IsUtf8-append (entry_line e) (flat_map entry_line es) h.0.utf8 (entries_utf8 es h.1)

rows_utf8 : (key : List ℕ) (rows : List (List Entry)) → IsUtf8 (header key) → Each IsRow rows → IsUtf8 (flat_map (row_text key) rows)
rows_utf8 key [] head h = IsUtf8-nil
rows_utf8 key (row ∷ rows) head h =
    IsUtf8-append (row_text key row) (flat_map (row_text key) rows)
    (IsUtf8-append (header key) (flat_map entry_line row) head (entries_utf8 row h.0.entries)) (rows_utf8 key rows head h.1)

sections_utf8 : (sections : List Section) → Each IsSection sections → IsUtf8 (flat_map section_text sections)
sections_utf8 [] h = IsUtf8-nil
sections_utf8 (s ∷ ss) h = IsUtf8-append (section_text s) (flat_map section_text ss) (rows_utf8 s.0 s.1 h.0.utf8 h.0.rows) (sections_utf8 ss h.1)

pub blocks_utf8 : (top : List Entry) (sections : List Section) → Each IsEntry top → Each IsSection sections → IsUtf8 (blocks_text top sections)
blocks_utf8 top sections entries h =
    IsUtf8-append (flat_map entry_line top) (flat_map section_text sections) (entries_utf8 top entries) (sections_utf8 sections h)

-- ---- what the expressions leave

top_step : (es : List Entry) (o : Option Nodes) → ((r : Nodes) → run (r, []) (map as_pair es) ≡ option_map (λ n. (n, [])) (fill es r))
    → option_and_then (λ next. run next (map as_pair es)) (option_map (λ r. (r, [])) o) ≡ option_map (λ n. (n, [])) (option_and_then (fill es) o)
top_step es None ih = refl
top_step es (Some r) ih = ih r

-- pairs before any header
run_top : (es : List Entry) (root : Nodes) → run (root, []) (map as_pair es) ≡ option_map (λ n. (n, [])) (fill es root)
unfolding define along_header
run_top [] root = refl
run_top (e ∷ es) root = top_step es (put ([], e.key) e.value root) (λ r. run_top es r)

-- the document with this list of tables under the key, whose last is still open
abbrev opened : List ℕ → Items → Nodes → Nodes → Document
opened key done root last = (replace key (open_array done last) root, key ∷ [])

row_step : (key : List ℕ) (es : List Entry) (done : Items) (root : Nodes) (o : Option Nodes)
    → ((n : Nodes) → run (opened key done root n) (map as_pair es) ≡ option_map (opened key done root) (fill es n))
    → option_and_then (λ next. run next (map as_pair es))
    (option_map (λ r. (r, key ∷ [])) (option_map (λ new. replace key new root) (option_map (open_array done) o)))
    ≡ option_map (opened key done root) (option_and_then (fill es) o)
row_step key es done root None ih = refl
row_step key es done root (Some n) ih = ih n

opened_again : (key : List ℕ) (done : Items) (root n : Nodes) (o : Option Nodes)
    → option_map (opened key done (replace key (open_array done n) root)) o ≡ option_map (opened key done root) o
opened_again key done root n None = refl
opened_again key done root n (Some m) = rw (replace-replace key (open_array done n) (open_array done m) root) refl

-- pairs behind the header of a list of tables
run_row : (key : List ℕ) (es : List Entry) (done : Items) (last root : Nodes) → get_node key root ≡ Some (open_array done last)
    → run (root, key ∷ []) (map as_pair es) ≡ option_map (opened key done root) (fill es last)
unfolding define along_header
run_row key [] done last root there = ap (λ r. Some (r, key ∷ [])) (sym (replace-self key (open_array done last) root there))
run_row key (e ∷ es) done last root there =
    let found = along_found key [] (put ([], e.key) e.value) root (open_array done last) there in
    rw found (row_step key es done root (put ([], e.key) e.value last) (λ n.
    run_row key es done n (replace key (open_array done n) root) (get_node-replace key (open_array done n) root (open_array done last) there)
    ∙ opened_again key done root n (fill es n)))

-- the items, and these behind them
abbrev pub items_after : Items → List Data → Items
items_after before [] = before
items_after before (d ∷ ds) = items_after (push_item before d) ds

pub record Gathers (key : List ℕ) (rows : List (List Entry)) (before : Items) (root : Nodes) (ran : Option Document) : Type 0 where
  pub done : Items
  pub last : Nodes
  pub path : List (List ℕ)
  pub ran_is : ran ≡ Some (replace key (open_array done last) root, path)
  pub items : push_item done (table (close last)) ≡ items_after before (map row_data rows)

-- one table more in a list that is there
run_next : (key : List ℕ) (row : List Entry) (done : Items) (last root : Nodes) (path : List (List ℕ)) → IsRow row
    → get_node key root ≡ Some (open_array done last)
    → run (root, path) (row_lines key row) ≡ Some (opened key (push_item done (table (close last))) root (filled row))
unfolding define along_header at_key
run_next key row done last root path h there =
    let more : Items = push_item done (table (close last)) in
    let new : Nodes = replace key (open_array more no_nodes) root in
    let found = get_node-replace key (open_array more no_nodes) root (open_array done last) there in
    rw there (run_row key row more no_nodes new found ∙ ap (option_map (opened key more new)) h.full
    ∙ opened_again key more root no_nodes (Some (filled row)))

-- a first table under a key
run_first : (key : List ℕ) (row : List Entry) (root : Nodes) (path : List (List ℕ)) → IsRow row → get_node key root ≡ None
    → run (root, path) (row_lines key row) ≡ Some (insert key (open_array no_items (filled row)) root, key ∷ [])
unfolding define along_header at_key
run_first key row root path h none =
    let new : Nodes = insert key (open_array no_items no_nodes) root in
    rw none (run_row key row no_items no_nodes new (get_node-insert key (open_array no_items no_nodes) root)
    ∙ ap (option_map (opened key no_items new)) h.full
    ∙ ap (λ n. Some (n, key ∷ [])) (replace-insert key (open_array no_items no_nodes) (open_array no_items (filled row)) root))

run_rows : (key : List ℕ) (rows : List (List Entry)) (done : Items) (last root : Nodes) (path : List (List ℕ)) → Each IsRow rows
    → get_node key root ≡ Some (open_array done last)
    → Gathers key rows (push_item done (table (close last))) root (run (root, path) (flat_map (row_lines key) rows))
run_rows key [] done last root path h there =
    record {
      done = done;
      last = last;
      path = path;
      ran_is = ap (λ n. Some (n, path))
          (sym (replace-self key (open_array done last) root there));
      items = refl;
    }
run_rows key (row ∷ rows) done last root path h there =
    let more : Items = push_item done (table (close last)) in
    let node_now : Node = open_array more (filled row) in
    let new : Nodes = replace key node_now root in
    let rest = run_rows key rows more (filled row) new (key ∷ []) h.1 (get_node-replace key node_now root (open_array done last) there) in
    record {
      done = rest.done;
      last = rest.last;
      path = rest.path;
      ran_is = run-append (root, path) (row_lines key row) (flat_map (row_lines key) rows)
          ∙ ap (option_and_then (λ d. run d (flat_map (row_lines key) rows))) (run_next key row done last root path h.0 there)
          ∙ rest.ran_is ∙ ap (λ n. Some (n, rest.path)) (replace-replace key node_now (open_array rest.done rest.last) root);
      items = rest.items;
    }

-- ---- each key's value

-- the value under a key, as far as a document is read
abbrev pub look : List ℕ → Nodes → Option Data
look k ns = option_map close_node (get_node k ns)

pub get_closed : (k : List ℕ) (ns : Nodes) → get_member k (close ns) ≡ look k ns
get_closed k no_nodes = refl
get_closed k (node l x ns) = by_order (slice_cmp nat_cmp k l) refl (get_closed k ns)
  where
    by_order : (o : Ordering) → slice_cmp nat_cmp k l ≡ o → get_member k (close ns) ≡ look k ns
        → get_member k (close (node l x ns)) ≡ look k (node l x ns)
    by_order Less e rest = rw e rest
    by_order Equal e rest = rw e refl
    by_order Greater e rest = rw e rest

chosen : {A : Type 0} (t : Bool) (a b : A) → t ≡ false → cond t a b ≡ b
chosen true a b e = cc
chosen false a b e = refl

none_past : (k l : List ℕ) (x : Node) (ns : Nodes) → get_node k (node l x ns) ≡ None → (same_key k l ≡ false) × (get_node k ns ≡ None)
none_past k l x ns h = by_test (same_key k l) refl h
  where
    by_test : (t : Bool) → same_key k l ≡ t → cond t (Some x) (get_node k ns) ≡ None → (same_key k l ≡ false) × (get_node k ns ≡ None)
    by_test true e g = absurd (none-some x (sym g))
    by_test false e g = (e, g)

-- a new key leaves the others
pub get_insert : (k key : List ℕ) (x : Node) (ns : Nodes) → get_node key ns ≡ None → same_key k key ≡ false
    → get_node k (insert key x ns) ≡ get_node k ns
get_insert k key x no_nodes none other = rw other refl
get_insert k key x (node l y ns) none other = by_order (slice_cmp nat_cmp key l) refl (get_insert k key x ns (none_past key l y ns none).1 other)
  where
    by_order : (o : Ordering) → slice_cmp nat_cmp key l ≡ o → get_node k (insert key x ns) ≡ get_node k ns
        → get_node k (insert key x (node l y ns)) ≡ get_node k (node l y ns)
    by_order Less e rest = rw e (chosen (same_key k key) (Some x) (get_node k (node l y ns)) other)
    by_order Equal e rest = absurd (clash (none_past key l y ns none).0)
      where
        clash : same_key key l ≡ false → ⊥
        clash e2 = let t : same_key key l ≡ true = rw e refl in cc
    by_order Greater e rest = rw (e, rest) refl

-- the keys are all known
pub known_insert : (known : List (List ℕ)) (key : List ℕ) (x : Node) (ns : Nodes) → list_any (bytes_eq key) known ≡ true
    → first_unknown known (close ns) ≡ None
    → first_unknown known (close (insert key x ns)) ≡ None
known_insert known key x no_nodes is h = rw is refl
known_insert known key x (node l y ns) is h = by_order (slice_cmp nat_cmp key l) refl (list_any (bytes_eq l) known) refl h (known_insert known key x ns is)
  where
    by_order : (o : Ordering) → slice_cmp nat_cmp key l ≡ o → (t : Bool) → list_any (bytes_eq l) known ≡ t
        → cond t (first_unknown known (close ns)) (Some l) ≡ None
        → (first_unknown known (close ns) ≡ None → first_unknown known (close (insert key x ns)) ≡ None)
        → first_unknown known (close (insert key x (node l y ns))) ≡ None
    by_order o e false s g more = absurd (none-some l (sym g))
    by_order Less e true s g more = rw (e, is, s) g
    by_order Equal e true s g more = rw (e, s) g
    by_order Greater e true s g more = rw (e, s) (more g)

-- a list of tables as a value; none where it is empty
abbrev pub section_data : List (List Entry) → Option Data
section_data [] = None
section_data (row ∷ rows) = Some (array (items_after (push_item no_items (row_data row)) (map row_data rows)))

-- what the sections put under a key, where this was there before
abbrev pub found_in : List ℕ → List Section → Option Data → Option Data
found_in k [] before = before
found_in k (s ∷ ss) before = if same_key k s.0 then section_data s.1 else found_in k ss before

-- the sections' keys are none of the nodes, and all different
abbrev pub AreNew : List Section → Nodes → Type 0
AreNew sections ns = Each (λ s. get_node s.0 ns ≡ None) sections

abbrev pub AreDistinct : List Section → Type 0
AreDistinct [] = Unit {0}
AreDistinct (s ∷ ss) = Each (λ t. same_key t.0 s.0 ≡ false) ss × AreDistinct ss

pub record Leaves (sections : List Section) (known : List (List ℕ)) (root : Nodes) (ran : Option Document) : Type 0 where
  pub next : Nodes
  pub path : List (List ℕ)
  pub ran_is : ran ≡ Some (next, path)
  pub values : (k : List ℕ) → look k next ≡ found_in k sections (look k root)
  pub known_keys : first_unknown known (close next) ≡ None

abbrev IsKnownSection : List (List ℕ) → Section → Type 0
IsKnownSection known s = list_any (bytes_eq s.0) known ≡ true

pub key_is : (k l : List ℕ) → same_key k l ≡ true → k ≡ l
key_is k l e = (bytes_eq-Decides k l).0 (sym (is_eq-slice_cmp k l) ∙ e)

-- one list of tables
run_section : (s : Section) (known : List (List ℕ)) (root : Nodes) (path : List (List ℕ)) → IsSection s → IsKnownSection known s
    → get_node s.0 root ≡ None → first_unknown known (close root) ≡ None
    → Leaves (s ∷ []) known root (run (root, path) (section_lines s))
run_section (key, []) known root path h is none ok =
    record { next = root; path = path; ran_is = refl; values = λ k. by_key k (same_key k key) refl; known_keys = ok }
  where
    by_key : (k : List ℕ) (t : Bool) → same_key k key ≡ t → look k root ≡ found_in k ((key, []) ∷ []) (look k root)
    by_key k true e = rw e (rw (key_is k key e) (ap (option_map close_node) none))
    by_key k false e = rw e refl
run_section (key, row ∷ rows) known root path h is none ok =
    let first : Nodes = insert key (open_array no_items (filled row)) root in
    let rest = run_rows key rows no_items (filled row) first (key ∷ []) h.rows.1 (get_node-insert key (open_array no_items (filled row)) root) in
    let last_node : Node = open_array rest.done rest.last in
    let found : look key (insert key last_node root) ≡ section_data (row ∷ rows) =
    ap (option_map close_node) (get_node-insert key last_node root) ∙ ap (λ l. Some (array l)) rest.items in
    record {
      next = insert key last_node root;
      path = rest.path;
      ran_is = run-append (root, path) (row_lines key row) (flat_map (row_lines key) rows)
          ∙ ap (option_and_then (λ d. run d (flat_map (row_lines key) rows))) (run_first key row root path h.rows.0 none)
          ∙ rest.ran_is ∙ ap (λ n. Some (n, rest.path)) (replace-insert key (open_array no_items (filled row)) last_node root);
      values = λ k. by_key k last_node found (same_key k key) refl;
      known_keys = known_insert known key last_node root is ok;
    }
  where
    by_key : (k : List ℕ) (x : Node) → look key (insert key x root) ≡ section_data (row ∷ rows) → (t : Bool) → same_key k key ≡ t
        → look k (insert key x root) ≡ found_in k ((key, row ∷ rows) ∷ []) (look k root)
    by_key k x found true e = rw e (rw (key_is k key e) found)
    by_key k x found false e = rw e (ap (option_map close_node) (get_insert k key x root none e))

look_none : (k : List ℕ) (ns : Nodes) → look k ns ≡ None → get_node k ns ≡ None
look_none k ns h = by_node (get_node k ns) refl h
  where
    by_node : (o : Option Node) → get_node k ns ≡ o → option_map close_node o ≡ None → get_node k ns ≡ None
    by_node None e g = e
    by_node (Some x) e g = absurd (none-some (close_node x) (sym g))

found_past : (k : List ℕ) (s : Section) (before : Option Data) → same_key k s.0 ≡ false → found_in k (s ∷ []) before ≡ before
found_past k s before e = rw e refl

-- keys that another section leaves new
still_new : (s : Section) (ss : List Section) (root next : Nodes) → ((k : List ℕ) → look k next ≡ found_in k (s ∷ []) (look k root))
    → Each (λ t. same_key t.0 s.0 ≡ false) ss → AreNew ss root → AreNew ss next
still_new s [] root next values apart new = tt
still_new s (t ∷ ts) root next values apart new = (
  look_none t.0 next (values t.0 ∙ found_past t.0 s (look t.0 root) apart.0 ∙ ap (option_map close_node) new.0),
  still_new s ts root next values apart.1 new.1,
)

found_apart : (k : List ℕ) (ss : List Section) (before : Option Data) → Each (λ t. same_key t.0 k ≡ false) ss → found_in k ss before ≡ before
found_apart k [] before h = refl
found_apart k (t ∷ ts) before h = by_key (same_key k t.0) refl (found_apart k ts before h.1)
  where
    turned : same_key k t.0 ≡ true → ⊥
    turned e = let back : same_key t.0 k ≡ true = rw (key_is k t.0 e) (same_key-self t.0) in let no = h.0 in cc

    by_key : (b : Bool) → same_key k t.0 ≡ b → found_in k ts before ≡ before → found_in k (t ∷ ts) before ≡ before
    by_key true e rest = absurd (turned e)
    by_key false e rest = rw e rest

found_step : (k : List ℕ) (s : Section) (ss : List Section) (before : Option Data) → Each (λ t. same_key t.0 s.0 ≡ false) ss
    → found_in k ss (found_in k (s ∷ []) before) ≡ found_in k (s ∷ ss) before
found_step k s ss before apart = by_key (same_key k s.0) refl
  where
    by_key : (b : Bool) → same_key k s.0 ≡ b → found_in k ss (found_in k (s ∷ []) before) ≡ found_in k (s ∷ ss) before
    by_key true e = rw e
        (found_apart k ss (section_data s.1) (subst (λ (l : List ℕ). Each (λ t. same_key t.0 l ≡ false) ss) (sym (key_is k s.0 e)) apart))
    by_key false e = rw e refl

run_sections : (sections : List Section) (known : List (List ℕ)) (root : Nodes) (path : List (List ℕ)) → Each IsSection sections
    → Each (IsKnownSection known) sections
    → AreNew sections root → AreDistinct sections → first_unknown known (close root) ≡ None
    → Leaves sections known root (run (root, path) (flat_map section_lines sections))
run_sections [] known root path h is new apart ok = record { next = root; path = path; ran_is = refl; values = λ k. refl; known_keys = ok }
run_sections (s ∷ ss) known root path h is new apart ok =
    let one = run_section s known root path h.0 is.0 new.0 ok in
    let rest = run_sections ss known one.next one.path h.1 is.1 (still_new s ss root one.next one.values apart.0 new.1) apart.1 one.known_keys in
    record {
      next = rest.next;
      path = rest.path;
      ran_is = run-append (root, path) (section_lines s) (flat_map section_lines ss)
          ∙ ap (option_and_then (λ d. run d (flat_map section_lines ss))) one.ran_is ∙ rest.ran_is;
      values = λ k. rest.values k ∙ ap (found_in k ss) (one.values k) ∙ found_step k s ss (look k root) apart.0;
      known_keys = rest.known_keys;
    }

-- the table that a document of keys and lists of tables is
pub record IsRead (top : List Entry) (sections : List Section) (known : List (List ℕ)) (root : Nodes) : Type 0 where
  pub table : Members
  pub parsed : parse_document (blocks_text top sections) ≡ Some table
  pub values : (k : List ℕ) → get_member k table ≡ found_in k sections (get_member k (close root))
  pub known_keys : first_unknown known table ≡ None

pub blocks_read : (top : List Entry) (sections : List Section) (known : List (List ℕ)) (root : Nodes) → Each IsEntry top
    → fill top no_nodes ≡ Some root → first_unknown known (close root) ≡ None
    → Each IsSection sections → Each (IsKnownSection known) sections → AreNew sections root → AreDistinct sections → IsRead top sections known root
blocks_read top sections known root entries full ok h is new apart =
    let after = run_sections sections known root [] h is new apart ok in
    let lines : List Expression = map as_pair top ++ flat_map section_lines sections in
    let ran : run (no_nodes, []) lines ≡ Some (after.next, after.path) =
    run-append (no_nodes, []) (map as_pair top) (flat_map section_lines sections)
    ∙ ap (option_and_then (λ d. run d (flat_map section_lines sections))) (run_top top no_nodes ∙ ap (option_map (λ n. (n, []))) full)
    ∙ after.ran_is in
    record {
      table = close after.next;
      parsed = tight_document lines (blocks_text top sections) (after.next, after.path)
          (tight-append (map as_pair top) (flat_map section_lines sections) _ _ (tight_entries top entries) (tight_sections sections h))
          (printed-append (map as_pair top) (flat_map section_lines sections) (printed_entries top entries) (printed_sections sections h)) ran;
      values = λ k. get_closed k after.next ∙ after.values k ∙ ap (found_in k sections) (sym (get_closed k root));
      known_keys = after.known_keys;
    }
