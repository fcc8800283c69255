-- A text that stands for a run has no fault, and stands for no other run.
use Rattle.std.proofs.Common.{ℕ, ◌≡◌, ◌≤◌, ◌+◌, ◌⊎◌, inl, inr, false, List, [], ◌∷◌, ◌++◌, append_assoc, append-nil, length}
use Rattle.std.proofs.Common.{refl, arith, sym, ◌∙◌, ap, subst, Some, map}
use Rattle.std.specs.Prelude.{codes}
use Rattle.std.proofs.lemmas.Bool.{false≢true}
use Rattle.role_order.specs.declared.order.OrderError.{OrderError}
use Rattle.list_words.specs.Lists.{Each, Some_of}
use Rattle.role_order.specs.Refusals.{IsOrder}
use Rattle.arbac_policy.specs.Truth.{Term}
use Rattle.cond_text.specs.declared.word.Word.{Word}
use Rattle.cond_text.specs.declared.word.Placed.{Placed}
use Rattle.cond_text.specs.declared.cond_error.CondError.{CondError}
use Rattle.cond_text.specs.declared.cond_error.CondError.TheVariants as conditions
use Rattle.cond_text.specs.Words.{plain, placed_words}
use Rattle.cond_text.specs.Grammar.{Stands}
use Rattle.cond_text.specs.Faults.{IsFaultAt, IsFine, AreFine, IsFirstFault as IsFirstCondFault}
use Rattle.cond_text.specs.Reading.{IsRefused as IsRefusedCond}
use Rattle.policy_text.specs.declared.run_error.RunError.{RunError}
use Rattle.policy_text.specs.declared.run_error.RunError.TheVariants.{BadLine, UnknownRole, Order, Cond, TooMany, Unended, Memory}
use Rattle.text_lines.specs.Lines.{split}
use Rattle.policy_text.specs.Lines.{is_order_line}
use Rattle.cond_text.specs.Ranges.{NamedRange}
use Rattle.policy_text.specs.LineForms.{LineForm, a_role, an_edge, an_assign, a_revoke, a_user, an_act, a_goal, IsWellFormed, tells_order, spell}
use Rattle.policy_text.specs.Spelling.{form_of}
use Rattle.cond_text.specs.Named.{Names, NameEach, ReadsAs, IsUnknown}
use Rattle.policy_text.specs.Runs.{RunValue, nothing, MayStand, HasRoom, Extends, Adds, AddAll, behind_edges, IsReadTo, StandsFor}
use Rattle.policy_text.specs.Faults.{HasUnknown, HasCondFault, IsLineFault, EndsOrder, IsFaultInside, IsFaultAhead, IsFaultBehind, IsOrderFault, IsUnended}
use Rattle.policy_text.specs.Faults.{IsFirstFault}
use Rattle.cond_text.proofs.OrderLemmas.{order_clash}
use Rattle.policy_text.proofs.FormLemmas.{form_found}
use Rattle.policy_text.proofs.StepLemmas.{order_line_is, no_end, begun}
use Rattle.policy_text.proofs.SoleLemmas.{extends_one}

-- conditions

pub cond_clash_at : (count : ℕ) (before : List Word) (x : Placed) (rest : List Placed) (f : CondError) → IsFaultAt count before x rest f
    → IsFine count before x rest → ⊥
cond_clash_at count before x rest (conditions.Unexpected place) h k = h.1 k.expected
cond_clash_at count before x rest (conditions.TooDeep place) h k = k.shallow h.2
cond_clash_at count before x rest (conditions.UnknownRole place) h k = k.known h.3
cond_clash_at count before x rest conditions.Memory h k = h

cond_clash : (count size : ℕ) (ws : List Placed) (before : List Word) (f : CondError) (t : Term) → IsFirstCondFault count size before ws f
    → AreFine count before ws → Stands (before ++ plain ws) t → ⊥
cond_clash count size [] before f t h k st = h.1 t (subst (λ (ws : List Word). Stands ws t) (append-nil before) st)
cond_clash count size (x ∷ xs) before f t h k st = elim h [
  | inl a ↦ cond_clash_at count before x xs f a k.0
  | inr a ↦ cond_clash count size xs (before ++ (x.word ∷ [])) f t a.1 k.1
      (subst (λ (ws : List Word). Stands ws t) (sym (append_assoc before (x.word ∷ []) (plain xs))) st)
]

reads_clash : (names : List (List ℕ)) (text : List ℕ) (term : Term) (error : CondError) → ReadsAs names text term → IsRefusedCond names text error
    → (error ≡ conditions.Memory → ⊥) → ⊥
reads_clash names text term (conditions.Unexpected place) s r m =
    cond_clash (length names) (length text) (placed_words names text) [] (conditions.Unexpected place) term r s.1 s.0
reads_clash names text term (conditions.UnknownRole place) s r m =
    cond_clash (length names) (length text) (placed_words names text) [] (conditions.UnknownRole place) term r s.1 s.0
reads_clash names text term (conditions.TooDeep place) s r m =
    cond_clash (length names) (length text) (placed_words names text) [] (conditions.TooDeep place) term r s.1 s.0
reads_clash names text term conditions.Memory s r m = m refl

-- lines

named_clash : (names : List (List ℕ)) (name : List ℕ) (role : ℕ) → Names names name role → IsUnknown names name → ⊥
named_clash names name role h k = absurd (cc)

range_clash : (names : List (List ℕ)) (written : NamedRange) → (low high : ℕ) → Names names written.low low → Names names written.high high
    → IsUnknown names written.low ⊎ IsUnknown names written.high → ⊥
range_clash names written low high h k (inl u) = named_clash names written.low low h u
range_clash names written low high h k (inr u) = named_clash names written.high high k u

each_clash : (names words : List (List ℕ)) (roles : List ℕ) → NameEach names words roles → Some_of (IsUnknown names) words → ⊥
each_clash names [] roles h u = u
each_clash names (word ∷ words) roles h (inl u) = named_clash names word h.0 h.2 u
each_clash names (word ∷ words) roles h (inr u) = each_clash names words h.1 h.3 u

pub known_clash : (run next : RunValue) (form : LineForm) → Extends run form next → HasUnknown run.names form → ⊥
known_clash run next (a_role name) g u = u
known_clash run next (an_edge senior junior) g (inl u) = named_clash run.names senior g.0.0 g.1 u
known_clash run next (an_edge senior junior) g (inr u) = named_clash run.names junior g.0.1 g.2 u
known_clash run next (an_assign admin range condition) g (inl u) = named_clash run.names admin g.0.admin g.1 u
known_clash run next (an_assign admin range condition) g (inr u) = range_clash run.names range g.0.range.low g.0.range.high g.2.low g.2.high u
known_clash run next (a_revoke admin range) g (inl u) = named_clash run.names admin g.0.admin g.1 u
known_clash run next (a_revoke admin range) g (inr u) = range_clash run.names range g.0.range.low g.0.range.high g.2.low g.2.high u
known_clash run next (a_user words) g u = each_clash run.names words g.1.roles g.1.named u
known_clash run next (an_act act) g u = named_clash run.names act.role g.0.role g.4 u
known_clash run next (a_goal condition) g u = u

condition_clash : (run next : RunValue) (form : LineForm) (error : CondError) → Extends run form next → HasCondFault run.names form error → ⊥
condition_clash run next (an_assign admin range condition) error g f = reads_clash run.names condition g.0.cond error g.3 f.0 f.1
condition_clash run next (a_goal condition) error g f = reads_clash run.names condition g.0 error g.1 f.0 f.1
condition_clash run next (a_role name) error g f = f
condition_clash run next (an_edge senior junior) error g f = f
condition_clash run next (a_revoke admin range) error g f = f
condition_clash run next (a_user words) error g f = f
condition_clash run next (an_act act) error g f = f

-- two forms with one spelling are one
pub spell_one : (a b : LineForm) → IsWellFormed a → IsWellFormed b → spell a ≡ spell b → a ≡ b
spell_one a b h k e = let s : Some a ≡ Some b = sym (form_found a h) ∙ ap form_of e ∙ form_found b k in cc

pub no_last : (form : LineForm) → IsWellFormed form → spell form ≡ codes "end" → ⊥
no_last form h e = no_end (spell form) form (form_found form h) e

pub adds_clash : (run next : RunValue) (line : List ℕ) (form : LineForm) (number : ℕ) (fault : RunError) → IsWellFormed form → spell form ≡ line
    → Adds run form next → (fault ≡ Memory → ⊥) → IsLineFault run line number fault → ⊥
adds_clash run next line form number (BadLine at) h s a m f = f.1 form (record { formed = h; spelled = s; place = a.place })
adds_clash run next line form number (TooMany at) h s a m f =
    f.3 (subst (HasRoom run) (spell_one form f.1 h f.2.formed (s ∙ sym f.2.spelled)) a.room)
adds_clash run next line form number (UnknownRole at) h s a m f =
    known_clash run next f.1 (subst (λ (t : LineForm). Extends run t next) (spell_one form f.1 h f.2.formed (s ∙ sym f.2.spelled)) a.extends) f.4
adds_clash run next line form number (Cond at error) h s a m f =
    condition_clash run next f.1 error (subst (λ (t : LineForm). Extends run t next) (spell_one form f.1 h f.2.formed (s ∙ sym f.2.spelled)) a.extends) f.5
adds_clash run next line form number (Order error) h s a m f = f
adds_clash run next line form number Unended h s a m f = f
adds_clash run next line form number Memory h s a m f = m refl

pub end_clash : (run : RunValue) (line : List ℕ) (number : ℕ) (fault : RunError) → line ≡ codes "end" → 1 ≤ length run.goal → (fault ≡ Memory → ⊥)
    → IsLineFault run line number fault → ⊥
end_clash run line number (BadLine at) e g m f = let z : length run.goal ≡ 0 = f.2 e in absurd (omega arith)
end_clash run line number (TooMany at) e g m f = no_last f.1 f.2.formed (f.2.spelled ∙ e)
end_clash run line number (UnknownRole at) e g m f = no_last f.1 f.2.formed (f.2.spelled ∙ e)
end_clash run line number (Cond at error) e g m f = no_last f.1 f.2.formed (f.2.spelled ∙ e)
end_clash run line number (Order error) e g m f = f
end_clash run line number Unended e g m f = f
end_clash run line number Memory e g m f = m refl

-- the line is one more right line on the way to the last run
pub record IsOnTheWay (mid : RunValue) (line : List ℕ) (last : RunValue) : Type 0 where
  pub form : LineForm
  pub formed : IsWellFormed form
  pub spelled : spell form ≡ line
  pub next : RunValue
  pub adds : Adds mid form next
  pub more : List LineForm
  pub each : Each IsWellFormed more
  pub rest : AddAll next more last

pub same_cons : {A : Type 0} (x y : A) (xs ys : List A) → x ∷ xs ≡ y ∷ ys → (x ≡ y) × (xs ≡ ys)
same_cons x y xs ys e = (cc, cc)

-- right lines before a line, and all right lines before the last one, tell what the line is
aligned : (before all : List LineForm) (run mid last : RunValue) (line : List ℕ) (later : List (List ℕ)) → Each IsWellFormed before
    → Each IsWellFormed all
    → map spell before ++ (line ∷ later) ≡ map spell all ++ (codes "end" ∷ []) → AddAll run before mid → AddAll run all last
    → IsOnTheWay mid line last ⊎ ((line ≡ codes "end") × (later ≡ []) × (mid ≡ last))
aligned [] [] run mid last line later hb ha e b a = let s = same_cons line (codes "end") later [] e in inr (s.0, s.1, b ∙ sym a)
aligned [] (form ∷ more) run mid last line later hb ha e b a =
    let s = same_cons line (spell form) later (map spell more ++ (codes "end" ∷ [])) e in
    inl (record {
      form = form;
      formed = ha.0;
      spelled = sym s.0;
      next = a.0;
      adds = subst (λ (r : RunValue). Adds r form a.0)
          (sym b) a.1;
      more = more;
      each = ha.1;
      rest = a.2;
    })
aligned (form ∷ before) [] run mid last line later hb ha e b a =
    absurd (no_last form hb.0 (same_cons (spell form) (codes "end") (map spell before ++ (line ∷ later)) [] e).0)
aligned (form ∷ before) (other ∷ all) run mid last line later hb ha e b a =
    let s = same_cons (spell form) (spell other) (map spell before ++ (line ∷ later)) (map spell all ++ (codes "end" ∷ [])) e in
    let one : form ≡ other = spell_one form other hb.0 ha.0 s.0 in
    let next : b.0 ≡ a.0 = extends_one run b.0 a.0 other (subst (λ (t : LineForm). Extends run t b.0) one b.1.extends) a.1.extends in
    aligned before all a.0 mid last line later hb.1 ha.1 s.1 (subst (λ (r : RunValue). AddAll r before mid) next b.2) a.2

-- the last line is no form's
unaligned : (before all : List LineForm) → Each IsWellFormed before → map spell before ++ [] ≡ map spell all ++ (codes "end" ∷ []) → ⊥
unaligned [] [] h e = absurd (cc)
unaligned [] (other ∷ all) h e = absurd (cc)
unaligned (form ∷ before) [] h e = no_last form h.0 (same_cons (spell form) (codes "end") (map spell before ++ []) [] e).0
unaligned (form ∷ before) (other ∷ all) h e =
    unaligned before all h.1 (same_cons (spell form) (spell other) (map spell before ++ []) (map spell all ++ (codes "end" ∷ [])) e).1

-- the lines of two readings of one text
same_lines : (bytes : List ℕ) (run last : RunValue) (n m : ℕ) (left : List (List ℕ)) (part : List ℕ) → (r : IsReadTo bytes run n left part)
    → (s : IsReadTo bytes last m (codes "end" ∷ []) [])
    → (map spell r.lines ++ left ≡ map spell s.lines ++ (codes "end" ∷ [])) × (part ≡ [])
same_lines bytes run last n m left part r s =
    let e = sym r.text ∙ s.text in
    ((same_cons (codes "run 1") (codes "run 1") _ _ (ap (λ (p : List (List ℕ) × List ℕ). p.0) e)).1, ap (λ (p : List (List ℕ) × List ℕ). p.1) e)

-- a text stands for one run at most
pub one_run : (bytes : List ℕ) (a b : RunValue) → StandsFor bytes a → StandsFor bytes b → a ≡ b
one_run bytes a b h k =
    let s = same_lines bytes a b h.number k.number (codes "end" ∷ []) [] h.read k.read in
    by_case (aligned h.read.lines k.read.lines nothing a b (codes "end") [] h.read.formed k.read.formed s.0 h.read.added k.read.added)
  where
    by_case : IsOnTheWay a (codes "end") b ⊎ ((codes "end" ≡ codes "end") × (◌≡◌ {A = List (List ℕ)} [] []) × (a ≡ b)) → a ≡ b
    by_case (inl w) = absurd (no_last w.form w.formed w.spelled)
    by_case (inr e) = e.2

-- what lines behind the role order keep
pub keep_one : (run next : RunValue) (form : LineForm) → tells_order form ≡ false → Extends run form next → (next.names ≡ run.names)
    × (next.edges ≡ run.edges)
keep_one run next (a_role name) t g = absurd (cc)
keep_one run next (an_edge senior junior) t g = absurd (cc)
keep_one run next (an_assign admin range condition) t g = (ap (λ (r : RunValue). r.names) g.4, ap (λ (r : RunValue). r.edges) g.4)
keep_one run next (a_revoke admin range) t g = (ap (λ (r : RunValue). r.names) g.3, ap (λ (r : RunValue). r.edges) g.3)
keep_one run next (a_user words) t g = (ap (λ (r : RunValue). r.names) g.2, ap (λ (r : RunValue). r.edges) g.2)
keep_one run next (an_act act) t g = (ap (λ (r : RunValue). r.names) g.5, ap (λ (r : RunValue). r.edges) g.5)
keep_one run next (a_goal condition) t g = (ap (λ (r : RunValue). r.names) g.2, ap (λ (r : RunValue). r.edges) g.2)

pub no_order : (run : RunValue) (form : LineForm) → (behind_edges run ≡ 0 → ⊥) → MayStand run form → tells_order form ≡ false
no_order run (a_role name) late p = absurd (late (second (length run.edges) (behind_edges run) p))
  where
    second : (a b : ℕ) → a + b ≡ 0 → b ≡ 0
    second a b e = omega arith
no_order run (an_edge senior junior) late p = absurd (late p.0)
no_order run (an_assign admin range condition) late p = refl
no_order run (a_revoke admin range) late p = refl
no_order run (a_user words) late p = refl
no_order run (an_act act) late p = refl
no_order run (a_goal condition) late p = refl

pub still_late : (run next : RunValue) (form : LineForm) → IsWellFormed form → tells_order form ≡ false → Adds run form next
    → behind_edges next ≡ 0 → ⊥
still_late run next form h t a =
    begun run next (spell form) (record { form = form; formed = h; spelled = refl; adds = a })
    (λ o. absurd (false≢true (sym t ∙ sym (order_line_is form) ∙ o)))

pub keep_all : (run last : RunValue) (lines : List LineForm) → Each IsWellFormed lines → (behind_edges run ≡ 0 → ⊥) → AddAll run lines last
    → (last.names ≡ run.names) × (last.edges ≡ run.edges)
keep_all run last [] h late a = (ap (λ (r : RunValue). r.names) a, ap (λ (r : RunValue). r.edges) a)
keep_all run last (line ∷ lines) h late a =
    let t = no_order run line late a.1.place in
    let k = keep_one run a.0 line t a.1.extends in
    let l = keep_all a.0 last lines h.1 (still_late run a.0 line h.0 t a.1) a.2 in
    (l.0 ∙ k.0, l.1 ∙ k.1)

-- at a line that is at fault no text stands for a run
inside_clash : (bytes : List ℕ) (value : RunValue) (fault : RunError) → StandsFor bytes value → (fault ≡ Memory → ⊥) → IsFaultInside bytes fault
    → ⊥
inside_clash bytes value fault h m f =
    let s = same_lines bytes f.run value f.number h.number (f.line ∷ f.later) f.part f.read h.read in
    by_case (aligned f.read.lines h.read.lines nothing f.run value f.line f.later f.read.formed h.read.formed s.0 f.read.added h.read.added)
  where
    by_case : IsOnTheWay f.run f.line value ⊎ ((f.line ≡ codes "end") × (f.later ≡ []) × (f.run ≡ value)) → ⊥
    by_case (inl w) = adds_clash f.run w.next f.line w.form f.number fault w.formed w.spelled w.adds m f.fault_is
    by_case (inr e) = end_clash f.run f.line f.number fault e.0 (subst (λ (r : RunValue). 1 ≤ length r.goal) (sym e.2) h.goal) m f.fault_is

ahead_clash : (bytes : List ℕ) (value : RunValue) (at : ℕ) → StandsFor bytes value → IsFaultAhead bytes at → ⊥
ahead_clash bytes value at h f =
    f.other (same_cons f.line (codes "run 1") f.later _ (ap (λ (p : List (List ℕ) × List ℕ). p.0) (sym f.text ∙ h.read.text))).0

behind_clash : (bytes : List ℕ) (value : RunValue) (at : ℕ) → StandsFor bytes value → IsFaultBehind bytes at → ⊥
behind_clash bytes value at h f =
    let s = same_lines bytes f.run value f.number h.number (codes "end" ∷ f.later) f.part f.read h.read in
    by_case s.1 (aligned f.read.lines h.read.lines nothing f.run value (codes "end") f.later f.read.formed h.read.formed s.0 f.read.added h.read.added)
  where
    by_case : f.part ≡ [] → IsOnTheWay f.run (codes "end") value ⊎ ((codes "end" ≡ codes "end") × (f.later ≡ []) × (f.run ≡ value)) → ⊥
    by_case p (inl w) = no_last w.form w.formed w.spelled
    by_case p (inr e) = f.more (e.1, p)

order_fault_clash : (bytes : List ℕ) (value : RunValue) (error : OrderError) → StandsFor bytes value → IsOrderFault bytes error → ⊥
order_fault_clash bytes value error h f =
    let s = same_lines bytes f.run value f.number h.number f.left f.part f.read h.read in
    by_left f.left f.ends s.0
  where
    kept : value.names ≡ f.run.names → value.edges ≡ f.run.edges → ⊥
    kept n e =
        let P : List (List ℕ) → Type 0 = λ names. IsOrder names f.run.edges in
        let Q : List (ℕ × ℕ) → Type 0 = λ edges. IsOrder value.names edges in
        order_clash f.run.names f.run.edges error (subst P n (subst Q e h.order)) f.refused f.told

    by_case : (line : List ℕ) (later : List (List ℕ)) → is_order_line line ≡ false → IsOnTheWay f.run line value
        ⊎ ((line ≡ codes "end") × (later ≡ []) × (f.run ≡ value)) → ⊥
    by_case line later o (inl w) =
        let t : tells_order w.form ≡ false = sym (order_line_is w.form) ∙ ap is_order_line w.spelled ∙ o in
        let k = keep_one f.run w.next w.form t w.adds.extends in
        let l = keep_all w.next value w.more w.each (still_late f.run w.next w.form w.formed t w.adds) w.rest in
        kept (l.0 ∙ k.0) (l.1 ∙ k.1)
    by_case line later o (inr e) = kept (ap (λ (r : RunValue). r.names) (sym e.2)) (ap (λ (r : RunValue). r.edges) (sym e.2))

    by_left : (left : List (List ℕ)) → EndsOrder left → map spell f.read.lines ++ left ≡ map spell h.read.lines ++ (codes "end" ∷ []) → ⊥
    by_left [] o e = unaligned f.read.lines h.read.lines f.read.formed e
    by_left (line ∷ later) o e =
        by_case line later o (aligned f.read.lines h.read.lines nothing f.run value line later f.read.formed h.read.formed e f.read.added h.read.added)

unended_clash : (bytes : List ℕ) (value : RunValue) → StandsFor bytes value → IsUnended bytes → ⊥
unended_clash bytes value h f =
    unaligned f.read.lines h.read.lines f.read.formed (same_lines bytes f.run value f.number h.number [] f.part f.read h.read).0

no_lines_clash : (bytes : List ℕ) (value : RunValue) → StandsFor bytes value → (split bytes).0 ≡ [] → ⊥
no_lines_clash bytes value h e = let there = sym (ap (λ (p : List (List ℕ) × List ℕ). p.0) h.read.text) ∙ e in absurd (cc)

-- a text that stands for a run has no fault
pub first_clash : (bytes : List ℕ) (value : RunValue) (fault : RunError) → StandsFor bytes value → (fault ≡ Memory → ⊥) → IsFirstFault bytes fault
    → ⊥
first_clash bytes value (BadLine at) h m (inl f) = ahead_clash bytes value at h f
first_clash bytes value (BadLine at) h m (inr (inl f)) = inside_clash bytes value (BadLine at) h m f
first_clash bytes value (BadLine at) h m (inr (inr f)) = behind_clash bytes value at h f
first_clash bytes value (TooMany at) h m f = inside_clash bytes value (TooMany at) h m f
first_clash bytes value (UnknownRole at) h m f = inside_clash bytes value (UnknownRole at) h m f
first_clash bytes value (Cond at error) h m f = inside_clash bytes value (Cond at error) h m f
first_clash bytes value (Order error) h m (inl f) = no_lines_clash bytes value h f.0
first_clash bytes value (Order error) h m (inr f) = order_fault_clash bytes value error h f
first_clash bytes value Unended h m f = unended_clash bytes value h f
first_clash bytes value Memory h m f = f
