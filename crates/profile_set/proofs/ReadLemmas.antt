-- What a read of a record takes of a text, and that the records read in turn are the text's.
use Rattle.std.proofs.Common.{refl, ap, sym, ◌≡◌, ◌∙◌, ◌<◌, ◌≤◌, ◌+◌, arith, ℕ, zero, suc, Bool, true, false, cond, ◌==◌}
use Rattle.std.proofs.Common.{◌&&◌, List, [], ◌∷◌, ◌++◌, length, Option, Some, None, length-append}
use Rattle.std.specs.Option.{unwrap_or}
use Rattle.std.proofs.lemmas.Bool.{false≢true}
use Rattle.csv.specs.declared.parser.Config.{Config}
use Rattle.csv.specs.declared.parser.State.{State}
use Rattle.csv.specs.declared.parser.State.TheVariants as st
use Rattle.csv.specs.declared.parser.Action.{Action}
use Rattle.csv.specs.declared.parser.Action.TheVariants as act
use Rattle.csv.specs.declared.parser.Terminator.{Terminator}
use Rattle.csv.specs.declared.parser.Terminator.TheVariants as term
use Rattle.csv.specs.Machine.{Read, next_record, step, is_end, ends_at_end, fields_after, field_after, in_field, start_record, after_end, ends_with, is_byte}
use Rattle.csv.specs.Reading.{Reached, records_from, default_config}
use Rattle.profile_set.specs.Members.{Fields}

at_nothing : (cfg : Config) (s : State) (fs : Fields) (f : List ℕ) (p : Read) → next_record cfg s fs f [] ≡ Some p → [] ≡ p.2
unfolding next_record
at_nothing cfg s fs f p e = go (ends_at_end s) e
  where
    go : (b : Bool) → cond b (Some (fs ++ (f ∷ []), st.StartRecord, [])) None ≡ Some p → [] ≡ p.2
    go true e = ap (λ (o : Option Read). (unwrap_or o p).2) e
    go false e = cc e

-- behind a read that began with a byte less than that text is left
pub shorter : (cfg : Config) (s : State) (fs : Fields) (f : List ℕ) (c : ℕ) (rest : List ℕ) (p : Read) → next_record cfg s fs f (c ∷ rest) ≡ Some p
    → length p.2 ≤ length rest
unfolding next_record
shorter cfg s fs f c [] p e = go (is_end (step cfg s c).1) e
  where
    go : (b : Bool) → cond b (Some (fields_after (step cfg s c).1 fs f, (step cfg s c).0, []))
        (next_record cfg (step cfg s c).0 (fields_after (step cfg s c).1 fs f) (field_after (step cfg s c).1 c f) []) ≡ Some p
        → length p.2 ≤ length {A = ℕ} []
    go true e = let q : 0 ≡ length p.2 = ap (λ (o : Option Read). length (unwrap_or o p).2) e in omega arith
    go false e = let q : 0 ≡ length p.2 = ap length (at_nothing cfg _ _ _ p e) in omega arith
shorter cfg s fs f c (d ∷ rest) p e =
    go (is_end (step cfg s c).1) (λ q. shorter cfg (step cfg s c).0 (fields_after (step cfg s c).1 fs f) (field_after (step cfg s c).1 c f) d rest p q) e
  where
    go : (b : Bool) → (next_record cfg (step cfg s c).0 (fields_after (step cfg s c).1 fs f) (field_after (step cfg s c).1 c f) (d ∷ rest) ≡ Some p
        → length p.2 ≤ length rest) → cond b (Some (fields_after (step cfg s c).1 fs f, (step cfg s c).0, d ∷ rest))
        (next_record cfg (step cfg s c).0 (fields_after (step cfg s c).1 fs f) (field_after (step cfg s c).1 c f) (d ∷ rest)) ≡ Some p
        → length p.2 ≤ length (d ∷ rest)
    go true ih e = let q : length (d ∷ rest) ≡ length p.2 = ap (λ (o : Option Read). length (unwrap_or o p).2) e in omega arith
    go false ih e = let q = ih e in omega arith

after_end-settled : (t : Terminator) (c : ℕ) → ends_at_end (after_end t c) ≡ false
after_end-settled term.CRLF c = elim (c == 13) as (λ b. ends_at_end (cond b st.AfterCr st.StartRecord) ≡ false) [ true ↦ refl | false ↦ refl ]
after_end-settled (term.Any t) c = refl

in_field-settled : (cfg : Config) (c : ℕ) → is_end (in_field cfg c).1 ≡ true → ends_at_end (in_field cfg c).0 ≡ false
in_field-settled cfg c = go (c == cfg.delimiter) (ends_with cfg.terminator c)
  where
    go : (a b : Bool) → is_end (cond {A = State × Action} a (st.StartField, act.EndField)
        (cond {A = State × Action} b (after_end cfg.terminator c, act.EndRecord) (st.InField, act.Copy))).1 ≡ true
        → ends_at_end (cond {A = State × Action} a (st.StartField, act.EndField)
        (cond {A = State × Action} b (after_end cfg.terminator c, act.EndRecord) (st.InField, act.Copy))).0 ≡ false
    go true b e = absurd (false≢true e)
    go false true e = after_end-settled cfg.terminator c
    go false false e = absurd (false≢true e)

-- by a test a step that ends no record, or else another step
or_settled : (a : Bool) (s : State) (x : Action) (q : State × Action) → is_end x ≡ false → (is_end q.1 ≡ true → ends_at_end q.0 ≡ false)
    → is_end (cond {A = State × Action} a (s, x) q).1 ≡ true → ends_at_end (cond {A = State × Action} a (s, x) q).0 ≡ false
or_settled true s x q quiet h e = absurd (false≢true (sym quiet ∙ e))
or_settled false s x q quiet h e = h e

start_record-settled : (cfg : Config) (c : ℕ) → is_end (start_record cfg c).1 ≡ true → ends_at_end (start_record cfg c).0 ≡ false
start_record-settled cfg c =
    or_settled (ends_with cfg.terminator c) st.StartRecord act.Skip _ refl
    (or_settled (is_byte cfg.comment c) st.InComment act.Skip _ refl
    (or_settled (cfg.quoting && (c == cfg.quote)) st.InQuoted act.Skip _ refl (in_field-settled cfg c)))

-- a state behind a record isn't within one
pub settled : (cfg : Config) (s : State) (c : ℕ) → is_end (step cfg s c).1 ≡ true → ends_at_end (step cfg s c).0 ≡ false
settled cfg st.StartRecord c = start_record-settled cfg c
settled cfg st.StartField c = or_settled (cfg.quoting && (c == cfg.quote)) st.InQuoted act.Skip _ refl (in_field-settled cfg c)
settled cfg st.InField c = in_field-settled cfg c
settled cfg st.InQuoted c =
    or_settled (cfg.quoting && (c == cfg.quote)) st.AfterQuote act.Skip _ refl
    (or_settled (cfg.quoting && is_byte cfg.escape c) st.InEscape act.Skip _ refl (λ e. absurd (false≢true e)))
settled cfg st.InEscape c = λ e. absurd (false≢true e)
settled cfg st.AfterQuote c = or_settled (cfg.quoting && cfg.double_quote && (c == cfg.quote)) st.InQuoted act.Copy _ refl (in_field-settled cfg c)
settled cfg st.InComment c = or_settled (c == 10) st.StartRecord act.Skip (st.InComment, act.Skip) refl (λ e. absurd (false≢true e))
settled cfg st.AfterCr c = or_settled (c == 10) st.StartRecord act.Skip _ refl (start_record-settled cfg c)

-- so is the state that a read leaves
pub settled_after : (cfg : Config) (s : State) (fs : Fields) (f : List ℕ) (xs : List ℕ) (p : Read) → next_record cfg s fs f xs ≡ Some p
    → ends_at_end p.1 ≡ false
unfolding next_record
settled_after cfg s fs f [] p e = go (ends_at_end s) e
  where
    go : (b : Bool) → cond b (Some (fs ++ (f ∷ []), st.StartRecord, [])) None ≡ Some p → ends_at_end p.1 ≡ false
    go true e = sym (ap (λ (o : Option Read). ends_at_end (unwrap_or o p).1) e)
    go false e = cc e
settled_after cfg s fs f (c ∷ rest) p e =
    go (is_end (step cfg s c).1) refl
    (λ q. settled_after cfg (step cfg s c).0 (fields_after (step cfg s c).1 fs f) (field_after (step cfg s c).1 c f) rest p q) e
  where
    go : (b : Bool) → is_end (step cfg s c).1 ≡ b
        → (next_record cfg (step cfg s c).0 (fields_after (step cfg s c).1 fs f) (field_after (step cfg s c).1 c f) rest ≡ Some p
        → ends_at_end p.1 ≡ false)
        → cond b (Some (fields_after (step cfg s c).1 fs f, (step cfg s c).0, rest))
        (next_record cfg (step cfg s c).0 (fields_after (step cfg s c).1 fs f) (field_after (step cfg s c).1 c f) rest) ≡ Some p → ends_at_end p.1 ≡ false
    go true is ih e = sym (ap (λ (o : Option Read). ends_at_end (unwrap_or o p).1) e) ∙ settled cfg s c is
    go false is ih e = ih e

-- a read between records takes a byte at least
pub next_shorter : (cfg : Config) (s : State) (xs : List ℕ) (p : Read) → ends_at_end s ≡ false → next_record cfg s [] [] xs ≡ Some p
    → suc (length p.2) ≤ length xs
unfolding next_record
next_shorter cfg s [] p quiet e =
    let none : ◌≡◌ {A = Option Read} None (Some p) = rw quiet at e in cc none
next_shorter cfg s (c ∷ rest) p quiet e = let q = shorter cfg s [] [] c rest p e in omega arith

-- a text's records are those that were read, and then those of what is left
pub listed : (cfg : Config) (n : ℕ) (s : State) (xs : List ℕ) (rows : List Fields) (s2 : State) (ys : List ℕ)
    → Reached cfg s xs rows s2 ys → length xs < n → ends_at_end s ≡ false
    → (m : ℕ) × (records_from cfg n s xs ≡ rows ++ records_from cfg m s2 ys) × (length ys < m) × (ends_at_end s2 ≡ false)
unfolding Reached records_from
listed cfg n s xs [] s2 ys h room quiet = (n, rw (h.0, h.1) refl, rw (← h.1) room, rw (← h.0) quiet)
listed cfg zero s xs (r ∷ rs) s2 ys h room quiet = absurd (omega arith)
listed cfg (suc n) s xs (r ∷ rs) s2 ys h room quiet =
    let (p, next, is, more) = h in
    let less = next_shorter cfg s xs p quiet next in
    let (m, rest, left, still) = listed cfg n p.1 p.2 rs s2 ys more (omega arith) (settled_after cfg s [] [] xs p next) in
    (m, rw (next, is) (ap (λ t. p.0 ∷ t) rest), left, still)

-- a read that finds nothing leaves no records
pub after_none : (m : ℕ) (s : State) (ys : List ℕ) → next_record default_config s [] [] ys ≡ None → records_from default_config m s ys ≡ []
unfolding records_from
after_none zero s ys is = refl
after_none (suc m) s ys is = rw is refl

-- each record that was read took a byte at least
pub reached_bytes : (cfg : Config) (s : State) (xs : List ℕ) (rows : List Fields) (s2 : State) (ys : List ℕ)
    → Reached cfg s xs rows s2 ys → ends_at_end s ≡ false → length rows + length ys ≤ length xs
unfolding Reached
reached_bytes cfg s xs [] s2 ys h quiet = rw h.1 (omega arith)
reached_bytes cfg s xs (r ∷ rs) s2 ys h quiet =
    let less = next_shorter cfg s xs h.0 quiet h.1 in
    let more = reached_bytes cfg h.0.1 h.0.2 rs s2 ys h.3 (settled_after cfg s [] [] xs h.0 h.1) in
    omega (arith, less, more)

-- how many bytes fields have
abbrev pub size : Fields → ℕ
size [] = 0
size (f ∷ fs) = length f + size fs

size_last : (fs : Fields) (f : List ℕ) → size (fs ++ f ∷ []) ≡ size fs + length f
size_last [] f = omega arith
size_last (g ∷ fs) f = let more = size_last fs f in omega (arith, more)

-- a byte adds a byte at most
size_step : (a : Action) (c : ℕ) (fs : Fields) (f : List ℕ) → size (fields_after a fs f) + length (field_after a c f) ≤ size fs + length f + 1
size_step act.EndField c fs f = let e = size_last fs f in omega (arith, e)
size_step act.EndRecord c fs f = let e = size_last fs f in omega (arith, e)
size_step act.Skip c fs f = omega arith
size_step act.Copy c fs f = let e = length-append f (c ∷ []) in omega (arith, e)

-- the fields of a read have no more bytes than it took
pub size_read : (cfg : Config) (s : State) (fs : Fields) (f : List ℕ) (xs : List ℕ) (p : Read) → next_record cfg s fs f xs ≡ Some p
    → size p.0 + length p.2 ≤ size fs + length f + length xs
unfolding next_record
size_read cfg s fs f [] p e = go (ends_at_end s) e
  where
    go : (b : Bool) → cond b (Some (fs ++ (f ∷ []), st.StartRecord, [])) None ≡ Some p
        → size p.0 + length p.2 ≤ size fs + length f + length {A = ℕ} []
    go true e =
        let fields : size (fs ++ f ∷ []) ≡ size p.0 = ap (λ (o : Option Read). size (unwrap_or o p).0) e in
        let left : 0 ≡ length p.2 = ap (λ (o : Option Read). length (unwrap_or o p).2) e in
        let last = size_last fs f in
        omega (arith, fields, left, last)
    go false e = cc e
size_read cfg s fs f (c ∷ rest) p e =
    go (is_end (step cfg s c).1) (size_read cfg (step cfg s c).0 (fields_after (step cfg s c).1 fs f) (field_after (step cfg s c).1 c f) rest p)
    (size_step (step cfg s c).1 c fs f) e
  where
    go : (b : Bool) → (next_record cfg (step cfg s c).0 (fields_after (step cfg s c).1 fs f) (field_after (step cfg s c).1 c f) rest ≡ Some p
        → size p.0 + length p.2 ≤ size (fields_after (step cfg s c).1 fs f) + length (field_after (step cfg s c).1 c f) + length rest)
        → size (fields_after (step cfg s c).1 fs f) + length (field_after (step cfg s c).1 c f) ≤ size fs + length f + 1
        → cond b (Some (fields_after (step cfg s c).1 fs f, (step cfg s c).0, rest))
        (next_record cfg (step cfg s c).0 (fields_after (step cfg s c).1 fs f) (field_after (step cfg s c).1 c f) rest) ≡ Some p
        → size p.0 + length p.2 ≤ size fs + length f + length (c ∷ rest)
    go true ih one e =
        let fields : size (fields_after (step cfg s c).1 fs f) ≡ size p.0 = ap (λ (o : Option Read). size (unwrap_or o p).0) e in
        let left : length rest ≡ length p.2 = ap (λ (o : Option Read). length (unwrap_or o p).2) e in
        omega (arith, fields, left, one)
    go false ih one e = let more = ih e in omega (arith, more, one)
