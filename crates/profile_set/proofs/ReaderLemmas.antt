-- What the steps of a reader of records tell.
use Rattle.std.proofs.Common.{ℕ, ◌≡◌, ◌<◌, ◌≤◌, ◌+◌, ◌∙◌, true, false, List, [], ◌∷◌, ◌++◌, append_assoc, append-nil}
use Rattle.std.proofs.Common.{length, Option, Some, None, Result, Ok, Err, refl, ap, sym, arith, inl, cond, ◌==◌, ◌&&◌}
use Rattle.std.proofs.lemmas.Bool.{false≢true}
use Rattle.csv.specs.Machine.{Read, next_record}
use Rattle.csv.specs.Records.{AllText, Row, fields_of}
use Rattle.csv.specs.Reading.{Reached, Ready, HeaderNext, TextStep, HeaderTextStep, FailStep, FlexibleStep, ExplainsRead, TookRecord, ReadsNext, NextIs}
use Rattle.csv.specs.Reading.{default_config, source_of, pending_of, strip_bom, stops_reader, reader_trim, records_from}
use Rattle.csv.specs.declared.error.Error.{Error}
use Rattle.csv.specs.declared.error.ErrorKind.{ErrorKind}
use Rattle.csv.specs.declared.error.ErrorKind.TheVariants as kind
use Rattle.csv.specs.declared.iter.StringRecordsIntoIter.{StringRecordsIntoIter}
use Rattle.csv.specs.declared.parser.Config.{Config}
use Rattle.csv.specs.declared.parser.State.{State}
use Rattle.csv.specs.declared.parser.State.TheVariants as st
use Rattle.csv.specs.declared.reader.Reader.{Reader}
use Rattle.csv.specs.declared.reader.Trim.TheVariants as trim
use Rattle.csv.proofs.ReadFacts.{rows-end, rows-more, reached-more}
use Rattle.profile_set.specs.Members.{Fields, records_of, header}
use Rattle.profile_set.specs.Reader.{HasRead}
use Rattle.profile_set.proofs.ReadLemmas.{listed, after_none, reached_bytes, settled_after, size, size_read}

-- one step of the reader
abbrev pub Steps : {R : Type 0} → (R → Option (List ℕ)) → StringRecordsIntoIter R → Option (Result Row Error) → StringRecordsIntoIter R → Type 0
Steps rem a r b = (0 < a.left) → (reader_trim a.rdr ≡ trim.None)
    → (Ready a.rdr → TextStep rem a.rdr b.rdr b.left r) × (HeaderNext a.rdr → HeaderTextStep rem a.rdr b.rdr b.left r) × FailStep a.rdr b.rdr b.left r
    × FlexibleStep a.rdr b.rdr r

-- the text has the records that were read, and then others
pub has_records : {R : Type 0} (rem : R → Option (List ℕ)) (bytes : List ℕ) (it : StringRecordsIntoIter R) (done : List Fields)
    → HasRead rem bytes it done
    → (later : List Fields) × (records_of bytes ≡ done ++ later)
has_records rem bytes it done h =
    let (m, is, room, quiet) = listed default_config (length (strip_bom bytes) + 1) st.StartRecord (strip_bom bytes) done it.rdr.state h.rest h.reached
    (omega arith) refl in
    (records_from default_config m it.rdr.state h.rest, is)

pub step_more : {R : Type 0} (rem : R → Option (List ℕ)) (bytes : List ℕ) (a b : StringRecordsIntoIter R) (done : List Fields) (x : Row)
    → HasRead rem bytes a done → Steps rem a (Some (Ok x)) b → HasRead rem bytes b (done ++ fields_of x ∷ []) × AllText (fields_of x)
step_more rem bytes a b done x h steps =
    let s = steps h.left h.plain in
    let t = s.0 h.ready in
    let (z, at_z, more) = rows-more rem a.rdr b.rdr (fields_of x) default_config st.StartRecord
    (strip_bom bytes) h.rest done h.config h.source h.reached t.0 in (
      record {
        plain = t.0.3 ∙ h.plain;
        ready = inl t.1;
        left = t.3;
        config = t.0.2 ∙ h.config;
        flexible = s.3 ∙ h.flexible;
        rest = z;
        source = at_z;
        reached = more;
      },
      t.2,
    )

pub step_end : {R : Type 0} (rem : R → Option (List ℕ)) (bytes : List ℕ) (a b : StringRecordsIntoIter R) (done : List Fields)
    → HasRead rem bytes a done → Steps rem a None b → records_of bytes ≡ done
step_end rem bytes a b done h steps =
    let t = (steps h.left h.plain).0 h.ready in
    let ended = rows-end rem a.rdr b.rdr [] default_config h.rest h.config h.source t in
    let (m, is, room, quiet) = listed default_config (length (strip_bom bytes) + 1) st.StartRecord (strip_bom bytes) done a.rdr.state h.rest h.reached
    (omega arith) refl in
    is ∙ ap (λ t. done ++ t) (after_none m a.rdr.state h.rest ended) ∙ append-nil done

-- of a reader that takes records of each length, a refusal that doesn't stop it is of a record that is no text
no_text : {R : Type 0} (rem : R → Option (List ℕ)) (a b : Reader R) (k : ErrorKind) → a.flexible ≡ true → stops_reader k ≡ false
    → ExplainsRead rem a b true k
    → (fields : Fields) × TookRecord rem a b fields × ¬ (AllText fields)
no_text rem a b (kind.Io e) f s h = cc s
no_text rem a b kind.OutOfMemory f s h = cc s
no_text rem a b (kind.UnequalLengths pos expected len) f s h = absurd (false≢true (sym h.0 ∙ f))
no_text rem a b (kind.Utf8 pos err) f s h = (h.1, h.2, h.3)
no_text rem a b (kind.Serialize why) f s h = absurd h
no_text rem a b (kind.Deserialize pos err) f s h = absurd h

next_of : (o : Option Read) (f : Fields) (s : State) (z : List ℕ) → NextIs o true f s z → (p : Read) × (o ≡ Some p) × (f ≡ p.0)
next_of None f s z n = cc n
next_of (Some p) f s z n = (p, refl, n.1)

took_next : (cfg : Config) (s s2 : State) (src : Option (List ℕ)) (y : List ℕ) (f : Fields) (k : Option (List ℕ)) → cfg ≡ default_config
    → src ≡ Some y
    → ReadsNext cfg s src k true f s2
    → (p : Read) × (next_record default_config s [] [] y ≡ Some p) × (f ≡ p.0)
took_next cfg s s2 src y f k c e r = go k (rw (c, e) at r)
  where
    go : (k : Option (List ℕ)) → ReadsNext default_config s (Some y) k true f s2 → (p : Read) × (next_record default_config s [] [] y ≡ Some p)
        × (f ≡ p.0)
    go None r = absurd r
    go (Some z) r = next_of (next_record default_config s [] [] y) f s2 z r

pub step_refused : {R : Type 0} (rem : R → Option (List ℕ)) (bytes : List ℕ) (a b : StringRecordsIntoIter R) (done : List Fields) (e : Error)
    → HasRead rem bytes a done → Steps rem a (Some (Err e)) b → stops_reader e.kind ≡ false
    → (fields : Fields) × (later : List Fields) × (records_of bytes ≡ done ++ fields ∷ later) × ¬ (AllText fields)
step_refused rem bytes a b done e h steps goes =
    let t = (steps h.left h.plain).0 h.ready in
    let (fields, took, none) = no_text rem a.rdr b.rdr e.kind h.flexible goes t in
    let (p, is, same) = took_next a.rdr.config a.rdr.state b.rdr.state (source_of rem a.rdr) h.rest fields
    (pending_of (rem b.rdr.rdr) b.rdr) h.config h.source took in
    let more = reached-more default_config st.StartRecord a.rdr.state (strip_bom bytes) h.rest done p h.reached is in
    let (m, all, room, quiet) = listed default_config (length (strip_bom bytes) + 1) st.StartRecord (strip_bom bytes) (done ++ p.0 ∷ []) p.1 p.2 more
    (omega arith) refl in
    let later = records_from default_config m p.1 p.2 in
    (fields, later, all ∙ append_assoc done (p.0 ∷ []) later ∙ ap (λ (f : List (List ℕ)). done ++ f ∷ later) (sym same), none)

strip_shorter : (bytes : List ℕ) → length (strip_bom bytes) ≤ length bytes
unfolding strip_bom
strip_shorter [] = omega arith
strip_shorter (a ∷ []) = omega arith
strip_shorter (a ∷ b ∷ []) = omega arith
strip_shorter (a ∷ b ∷ c ∷ rest) =
    elim ((a == 239) && (b == 187) && (c == 191)) as
    (λ t. length (cond t rest (a ∷ b ∷ c ∷ rest)) ≤ length (a ∷ b ∷ c ∷ rest)) [ true ↦ omega arith | false ↦ omega arith ]

-- the header has twelve bytes, and each record behind it one at least
pub few_read : {R : Type 0} (rem : R → Option (List ℕ)) (bytes : List ℕ) (it : StringRecordsIntoIter R) (before : List Fields)
    → HasRead rem bytes it (header ∷ before)
    → 12 + length before ≤ length bytes
unfolding Reached
few_read rem bytes it before h =
    let (p, is, same, more) = h.reached in
    let all = size_read default_config st.StartRecord [] [] (strip_bom bytes) p is in
    let twelve : 12 ≡ size p.0 = ap size same in
    let behind = reached_bytes default_config p.1 p.2 before it.rdr.state h.rest more
    (settled_after default_config st.StartRecord [] [] (strip_bom bytes) p is) in
    let whole = strip_shorter bytes in
    omega (arith, all, twelve, behind, whole)
