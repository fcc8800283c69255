-- What one line does: from its form to the line, and from line to line.
use Rattle.std.proofs.Common.{ℕ, ◌≡◌, ◌≤◌, ◌+◌, inl, Bool, true, false, List, [], ◌∷◌, ◌++◌, length, refl, arith, sym, ◌∙◌}
use Rattle.std.proofs.Common.{ap, subst, Some, None, map, zero, suc, eqb}
use Rattle.std.specs.Str.{bytes_eq}
use Rattle.std.proofs.lemmas.Bool.{eq-eqb, eqb-true}
use Rattle.std.proofs.lemmas.Slice.Eq.{bytes_eq-Decides}
use Rattle.std.specs.Prelude.{◌&&◌, not, codes, OnOk, IfErr, Result, Ok, Err}
use Rattle.list_words.specs.Lists.{Each}
use Rattle.role_order.specs.Refusals.{IsOrder}
use Rattle.policy_text.specs.declared.run_error.RunError.{RunError}
use Rattle.policy_text.specs.declared.run_error.RunError.TheVariants.{BadLine, UnknownRole, Order, Cond, TooMany, Unended, Memory}
use Rattle.cond_text.specs.Cuts.{cut}
use Rattle.text_lines.specs.Lines.{split}
use Rattle.policy_text.specs.Lines.{is_order_line}
use Rattle.cond_text.specs.Ranges.{spell_range}
use Rattle.policy_text.specs.LineForms.{LineForm, a_role, an_edge, an_assign, a_revoke, a_user, an_act, a_goal, IsWellFormed, tells_order, condition_of}
use Rattle.policy_text.specs.LineForms.{spell}
use Rattle.policy_text.specs.Spelling.{form_of}
use Rattle.policy_text.specs.Runs.{RunValue, MayStand, Adds, AddAll, behind_edges}
use Rattle.policy_text.specs.Faults.{IsPlaced, IsLineFault, IsPastOrder, EndsOrder}
use Rattle.policy_text.specs.Steps.{IsFormFault, AddsLine, Passes, StopsAt, Told, GoesOn, HasNoEnd, EndsWith, IsBodyFault}
use Rattle.text_lines.proofs.LineLemmas.{split_none, split_first, split_empty, nothing_left}
use Rattle.policy_text.proofs.FormLemmas.{form_found}
use Rattle.policy_text.proofs.SpellLemmas.{form_is}
use Rattle.list_words.proofs.TestLemmas.{and_both}

-- the first word of a line tells whether it is one of the role order
pub order_line_is : (form : LineForm) → is_order_line (spell form) ≡ tells_order form
unfolding is_order_line spell cut
order_line_is (a_role name) = refl
order_line_is (an_edge senior junior) = refl
order_line_is (an_assign admin range condition) = refl
order_line_is (a_revoke admin range) = refl
order_line_is (a_user []) = refl
order_line_is (a_user (name ∷ names)) = refl
order_line_is (an_act act) = refl
order_line_is (a_goal condition) = refl

pub tells_of : (line : List ℕ) (form : LineForm) → form_of line ≡ Some form → is_order_line line ≡ tells_order form
tells_of line form e = ap is_order_line (sym (form_is line form e).1) ∙ order_line_is form

-- a condition is no longer than its line
behind_long : (xs ys : List ℕ) → length ys ≤ length (xs ++ ys)
behind_long [] ys = omega arith
behind_long (x ∷ xs) ys = let l = behind_long xs ys in omega arith

spelled_long : (form : LineForm) → length (condition_of form) ≤ length (spell form)
unfolding spell
spelled_long (a_role name) = omega arith
spelled_long (an_edge senior junior) = omega arith
spelled_long (an_assign admin range condition) =
    let a = behind_long (spell_range range) (32 ∷ condition) in
    let b = behind_long admin (32 ∷ (spell_range range ++ (32 ∷ condition))) in
    let c = behind_long (codes "assign ") (admin ++ (32 ∷ (spell_range range ++ (32 ∷ condition)))) in
    longer (length condition) _ _ _ a b c
  where
    longer : (n x y z : ℕ) → suc n ≤ x → suc x ≤ y → y ≤ z → n ≤ z
    longer n x y z a b c = omega arith
spelled_long (a_revoke admin range) = omega arith
spelled_long (a_user names) = omega arith
spelled_long (an_act act) = omega arith
spelled_long (a_goal condition) = behind_long (codes "goal ") condition

pub condition_short : (line : List ℕ) (form : LineForm) → form_of line ≡ Some form → length (condition_of form) ≤ length line
condition_short line form e = subst (λ (t : List ℕ). length (condition_of form) ≤ length t) (form_is line form e).1 (spelled_long form)

end_has_none : form_of (codes "end") ≡ None
unfolding form_of cut
end_has_none = refl

same_form : (line : List ℕ) (form other : LineForm) → form_of line ≡ Some form → IsWellFormed other → spell other ≡ line → other ≡ form
same_form line form other e formed spelled = let f : form_of line ≡ Some other = ap form_of (sym spelled) ∙ form_found other formed in cc

pub no_end : (line : List ℕ) (form : LineForm) → form_of line ≡ Some form → line ≡ codes "end" → ⊥
no_end line form e is = let f : form_of line ≡ None = ap form_of is ∙ end_has_none in absurd (cc)

placed : (run : RunValue) (line : List ℕ) (form : LineForm) → form_of line ≡ Some form → MayStand run form → IsPlaced run line form
placed run line form e place = let f = form_is line form e in record { formed = f.0; spelled = f.1; place = place }

-- a form's fault is its line's
pub line_fault : (run : RunValue) (line : List ℕ) (form : LineForm) (number : ℕ) (e : RunError) → form_of line ≡ Some form
    → IsFormFault run form number e → IsLineFault run line number e
line_fault run line form number (BadLine at) s f =
    (f.0, (λ other p. f.1 (subst (MayStand run) (same_form line form other s p.formed p.spelled) p.place)), λ is. absurd (no_end line form s is))
line_fault run line form number (TooMany at) s f = (f.0, form, placed run line form s f.1, f.2)
line_fault run line form number (UnknownRole at) s f = (f.0, form, placed run line form s f.1, f.2, f.3)
line_fault run line form number (Cond at error) s f = (f.0, form, placed run line form s f.1, f.2, f.3, f.4)
line_fault run line form number (Order error) s f = f
line_fault run line form number Unended s f = f
line_fault run line form number Memory s f = tt

pub line_faults : (run : RunValue) (line : List ℕ) (form : LineForm) (number : ℕ) (r : Result (Unit {0}) RunError) → form_of line ≡ Some form
    → IfErr r (IsFormFault run form number) → IfErr r (IsLineFault run line number)
line_faults run line form number (Ok u) s f = tt
line_faults run line form number (Err e) s f = line_fault run line form number e s f

-- a line without a form is at fault
pub formless : (run : RunValue) (line : List ℕ) (number : ℕ) → form_of line ≡ None → (line ≡ codes "end" → length run.goal ≡ 0)
    → IsLineFault run line number (BadLine number)
formless run line number n end =
    (refl, (λ other p. let f : form_of line ≡ Some other = ap form_of (sym p.spelled) ∙ form_found other p.formed in absurd (cc)), end)

-- what a form adds, its line adds
pub line_adds : (run next : RunValue) (line : List ℕ) (form : LineForm) (r : Result (Unit {0}) RunError) → form_of line ≡ Some form
    → OnOk r (Adds run form next) → OnOk r (AddsLine run line next)
line_adds run next line form (Ok u) s a = let f = form_is line form s in record { form = form; formed = f.0; spelled = f.1; adds = a }
line_adds run next line form (Err e) s a = tt

pub ends_none : (bytes : List ℕ) → cut 10 bytes ≡ None → EndsOrder (split bytes).0
ends_none bytes e = subst EndsOrder (sym (ap (λ (s : List (List ℕ) × List ℕ). s.0) (split_none bytes e))) tt

pub ends_line : (bytes line rest : List ℕ) → cut 10 bytes ≡ Some (line, rest) → is_order_line line ≡ false → EndsOrder (split bytes).0
ends_line bytes line rest e h = subst EndsOrder (sym (ap (λ (s : List (List ℕ) × List ℕ). s.0) (split_first bytes line rest e))) h

pub begins_line : (bytes line rest : List ℕ) → cut 10 bytes ≡ Some (line, rest) → EndsOrder (split bytes).0 → is_order_line line ≡ false
begins_line bytes line rest e h = subst EndsOrder (ap (λ (s : List (List ℕ) × List ℕ). s.0) (split_first bytes line rest e)) h

-- lines one by one
pub add_one_more : (run mid next : RunValue) (lines : List LineForm) (form : LineForm) → AddAll run lines mid → Adds mid form next
    → AddAll run (lines ++ form ∷ []) next
add_one_more run mid next [] form all more = (next, subst (λ (r : RunValue). Adds r form next) all more, refl)
add_one_more run mid next (line ∷ lines) form all more = (all.0, all.1, add_one_more all.0 mid next lines form all.2 more)

each_one_more : (lines : List LineForm) (form : LineForm) → Each IsWellFormed lines → IsWellFormed form → Each IsWellFormed (lines ++ form ∷ [])
each_one_more [] form each formed = (formed, tt)
each_one_more (line ∷ lines) form each formed = (each.0, each_one_more lines form each.1 formed)

spell_one_more : (lines : List LineForm) (form : LineForm) (left : List (List ℕ))
    → map spell (lines ++ form ∷ []) ++ left ≡ map spell lines ++ (spell form ∷ left)
spell_one_more [] form left = refl
spell_one_more (line ∷ lines) form left = ap (λ t. spell line ∷ t) (spell_one_more lines form left)

pub passes_none : (run : RunValue) (text : List ℕ) (number : ℕ) → Passes run text number run text number
passes_none run text number = record { lines = []; formed = tt; text_is = refl; added = refl; number_is = omega arith }

pub passes_more : (run mid next : RunValue) (text rest line later : List ℕ) (number at : ℕ) → Passes run text number mid rest at
    → cut 10 rest ≡ Some (line, later) → AddsLine mid line next
    → Passes run text number next later (at + 1)
passes_more run mid next text rest line later number at p c a = record {
  lines = p.lines ++ a.form ∷ [];
  formed = each_one_more p.lines a.form p.formed a.formed;
  text_is = p.text_is ∙ ap (λ (s : List (List ℕ) × List ℕ). (map spell p.lines ++ s.0, s.1)) (split_first rest line later c)
      ∙ ap (λ (t : List ℕ). (map spell p.lines ++ (t ∷ (split later).0), (split later).1)) (sym a.spelled)
      ∙ ap (λ (t : List (List ℕ)). (t, (split later).1)) (sym (spell_one_more p.lines a.form (split later).0));
  added = add_one_more run mid next p.lines a.form p.added a.adds;
  number_is = longer at number (length p.lines) (length (p.lines ++ a.form ∷ [])) p.number_is (length_more p.lines a.form);
}
  where
    length_more : (xs : List LineForm) (x : LineForm) → length (xs ++ x ∷ []) ≡ length xs + 1
    length_more [] x = refl
    length_more (y ∷ ys) x = let l = length_more ys x in omega arith

    longer : (at number n m : ℕ) → at ≡ number + n → m ≡ n + 1 → at + 1 ≡ number + m
    longer at number n m h k = omega arith

pub stops : (run mid : RunValue) (text rest line later : List ℕ) (number at : ℕ) (e : RunError) → Passes run text number mid rest at
    → cut 10 rest ≡ Some (line, later) → IsPastOrder mid line
    → IsLineFault mid line at e → StopsAt run text number e
stops run mid text rest line later number at e p c past f = record {
  last = mid;
  rest = rest;
  at = at;
  line = line;
  later = later;
  passed = p;
  next = split_first rest line later c;
  past = past;
  fault_is = f;
}

pub told_stop : (run mid : RunValue) (text rest line later : List ℕ) (number at : ℕ) (e : RunError) → Passes run text number mid rest at
    → cut 10 rest ≡ Some (line, later) → IsPastOrder mid line
    → IsLineFault mid line at e → Told e (StopsAt run text number e)
told_stop run mid text rest line later number at (BadLine k) p c past f = stops run mid text rest line later number at (BadLine k) p c past f
told_stop run mid text rest line later number at (TooMany k) p c past f = stops run mid text rest line later number at (TooMany k) p c past f
told_stop run mid text rest line later number at (UnknownRole k) p c past f = stops run mid text rest line later number at (UnknownRole k) p c past f
told_stop run mid text rest line later number at (Cond k error) p c past f = stops run mid text rest line later number at (Cond k error) p c past f
told_stop run mid text rest line later number at (Order error) p c past f = absurd f
told_stop run mid text rest line later number at Unended p c past f = absurd f
told_stop run mid text rest line later number at Memory p c past f = tt

pub body_stop : (run mid : RunValue) (text rest line later : List ℕ) (number at : ℕ) (e : RunError) → Passes run text number mid rest at
    → cut 10 rest ≡ Some (line, later) → IsPastOrder mid line
    → IsLineFault mid line at e → IsBodyFault run text number e
body_stop run mid text rest line later number at (BadLine k) p c past f = inl (stops run mid text rest line later number at (BadLine k) p c past f)
body_stop run mid text rest line later number at (TooMany k) p c past f = stops run mid text rest line later number at (TooMany k) p c past f
body_stop run mid text rest line later number at (UnknownRole k) p c past f = stops run mid text rest line later number at (UnknownRole k) p c past f
body_stop run mid text rest line later number at (Cond k error) p c past f = stops run mid text rest line later number at (Cond k error) p c past f
body_stop run mid text rest line later number at (Order error) p c past f = f
body_stop run mid text rest line later number at Unended p c past f = absurd f
body_stop run mid text rest line later number at Memory p c past f = tt

pub is_last : (line : List ℕ) (n : ℕ) → (bytes_eq line (codes "end") && not (eqb n 0)) ≡ true → (line ≡ codes "end") × (n ≡ 0 → ⊥)
is_last line n e = (
  (bytes_eq-Decides line (codes "end")).0 ((and_both (bytes_eq line (codes "end")) _ e).0),
  λ z. none (eqb n 0) (eq-eqb n 0 z)
      ((and_both (bytes_eq line (codes "end")) _ e).1),
)
  where
    none : (t : Bool) → t ≡ true → not t ≡ true → ⊥
    none true a b = absurd (cc)
    none false a b = absurd (cc)

pub is_not_last : (line : List ℕ) (n : ℕ) → (bytes_eq line (codes "end") && not (eqb n 0)) ≡ false → line ≡ codes "end" → n ≡ 0
is_not_last line n e is =
    let t : bytes_eq line (codes "end") ≡ true = (bytes_eq-Decides line (codes "end")).1 is in
    eqb-true n 0 (tested (eqb n 0) (rw t at e))
  where
    tested : (t : Bool) → not t ≡ false → t ≡ true
    tested true h = refl
    tested false h = cc

longer_by_one : {A : Type 0} (xs : List A) (x : A) (n : ℕ) → length (xs ++ x ∷ []) + n ≡ 0 → ⊥
longer_by_one [] x n e = omega arith
longer_by_one (y ∷ ys) x n e = omega arith

-- a sum that is 0 has parts that are
pub zero_both : (a b : ℕ) → a + b ≡ 0 → (a ≡ 0) × (b ≡ 0)
zero_both a b e = (omega arith, omega arith)

-- behind a line that is none of the role order's, a later section has begun
pub begun : (run next : RunValue) (line : List ℕ) → AddsLine run line next → (is_order_line line ≡ true → behind_edges run ≡ 0 → ⊥)
    → behind_edges next ≡ 0 → ⊥
begun run next line a late = by_form a.form (ap is_order_line (sym a.spelled) ∙ order_line_is a.form) a.adds
  where
    at : RunValue → Type 0
    at r = behind_edges r ≡ 0 → ⊥

    by_form : (form : LineForm) → is_order_line line ≡ tells_order form → Adds run form next → behind_edges next ≡ 0 → ⊥
    by_form (a_role name) t a = absurd (late t (zero_both (length run.edges) (behind_edges run) a.place).1)
    by_form (an_edge senior junior) t a = absurd (late t a.place.0)
    by_form (an_assign admin range condition) t a = subst at (sym a.extends.4) (λ e. longer_by_one run.assign a.extends.0 _ e)
    by_form (a_revoke admin range) t a = subst at (sym a.extends.3) (λ e. longer_by_one run.revoke a.extends.0 _ (zero_both (length run.assign) _ e).1)
    by_form (a_user names) t a =
        subst at (sym a.extends.2) (λ e. longer_by_one run.start a.extends.0 _ (zero_both (length run.revoke) _ (zero_both (length run.assign) _ e).1).1)
    by_form (an_act act) t a =
        subst at (sym a.extends.5)
        (λ e. longer_by_one run.acts a.extends.0 _
        (zero_both (length run.start) _ (zero_both (length run.revoke) _ (zero_both (length run.assign) _ e).1).1).1)
    by_form (a_goal condition) t a =
        subst at (sym a.extends.2)
        (λ e. last run.goal a.extends.0
        (zero_both (length run.acts) _ (zero_both (length run.start) _ (zero_both (length run.revoke) _ (zero_both (length run.assign) _ e).1).1).1).1)
      where
        last : {A : Type 0} (xs : List A) (x : A) → length (xs ++ x ∷ []) ≡ 0 → ⊥
        last [] x e = omega arith
        last (y ∷ ys) x e = omega arith

pub late_line : (n : ℕ) (rest line later : List ℕ) → cut 10 rest ≡ Some (line, later) → (n ≡ 0 → EndsOrder (split rest).0)
    → is_order_line line ≡ true → n ≡ 0 → ⊥
late_line n rest line later c fresh t z = let f = begins_line rest line later c (fresh z) in absurd (cc)

-- the last line, and nothing behind it
pub ends_here : (run last : RunValue) (text rest line later : List ℕ) (number at : ℕ) → Passes run text number last rest at
    → IsOrder last.names last.edges → cut 10 rest ≡ Some (line, later)
    → (bytes_eq line (codes "end") && not (eqb (length last.goal) 0)) ≡ true → eqb (length later) 0 ≡ true → EndsWith run text number last
ends_here run last text rest line later number at p o c e n =
    let l = is_last line (length last.goal) e in
    let none = split_empty later (eqb-true (length later) 0 n) in
    record {
      rest = rest;
      at = at;
      passed = p;
      end = split_first rest line later c ∙ ap (λ (t : List ℕ). (t ∷ (split later).0, (split later).1)) l.0
          ∙ ap (λ (s : List (List ℕ) × List ℕ). (codes "end" ∷ s.0, s.1)) none;
      order = o;
      goal = some (length last.goal) l.1;
    }
  where
    some : (n : ℕ) → (n ≡ 0 → ⊥) → 1 ≤ n
    some zero h = absurd (h refl)
    some (suc n) h = omega arith

-- the last line, and more behind it
pub goes_on : (run last : RunValue) (text rest line later : List ℕ) (number at : ℕ) → Passes run text number last rest at
    → IsOrder last.names last.edges → cut 10 rest ≡ Some (line, later)
    → (bytes_eq line (codes "end") && not (eqb (length last.goal) 0)) ≡ true → eqb (length later) 0 ≡ false → GoesOn run text number (at + 1)
goes_on run last text rest line later number at p o c e n =
    let l = is_last line (length last.goal) e in
    record {
      last = last;
      rest = rest;
      at = at;
      later = later;
      passed = p;
      end = split_first rest line later c ∙ ap (λ (t : List ℕ). (t ∷ (split later).0, (split later).1)) l.0;
      order = o;
      goal = l.1;
      more = λ h. let z : eqb (length later) 0 ≡ true = eq-eqb (length later) 0 (nothing_left later h.0 h.1) in absurd (cc);
      next_is = refl;
    }

pub has_no_end : (run last : RunValue) (text rest : List ℕ) (number at : ℕ) → Passes run text number last rest at → IsOrder last.names last.edges
    → cut 10 rest ≡ None → HasNoEnd run text number
has_no_end run last text rest number at p o c =
    record { last = last; rest = rest; at = at; passed = p; order = o; none = ap (λ (s : List (List ℕ) × List ℕ). s.0) (split_none rest c) }
