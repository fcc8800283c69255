-- A text has one first fault at most.
use Rattle.std.proofs.Common.{ℕ, ◌≡◌, ◌≤◌, ◌+◌, ◌⊎◌, inl, inr, false, List, [], ◌∷◌, ◌++◌, length, refl, arith, sym}
use Rattle.std.proofs.Common.{◌∙◌, ap, subst, map, zero, suc}
use Rattle.std.specs.Prelude.{codes}
use Rattle.std.proofs.lemmas.Bool.{false≢true}
use Rattle.role_order.specs.declared.order.OrderError.{OrderError}
use Rattle.role_order.specs.declared.order.OrderError.TheVariants as refusals
use Rattle.list_words.specs.Lists.{Each}
use Rattle.role_order.specs.Refusals.{IsOrder, IsRefused as IsRefusedOrder}
use Rattle.cond_text.specs.declared.word.Word.{Word}
use Rattle.cond_text.specs.declared.word.Placed.{Placed}
use Rattle.cond_text.specs.declared.cond_error.CondError.{CondError}
use Rattle.cond_text.specs.declared.cond_error.CondError.TheVariants as conditions
use Rattle.cond_text.specs.Words.{placed_words}
use Rattle.cond_text.specs.Faults.{IsFaultAt, IsFirstFault as IsFirstCondFault}
use Rattle.cond_text.specs.Reading.{IsRefused as IsRefusedCond}
use Rattle.policy_text.specs.declared.run_error.RunError.{RunError}
use Rattle.policy_text.specs.declared.run_error.RunError.TheVariants.{BadLine, UnknownRole, Order, Cond, TooMany, Unended, Memory}
use Rattle.text_lines.specs.Lines.{split}
use Rattle.policy_text.specs.Lines.{is_order_line}
use Rattle.policy_text.specs.LineForms.{LineForm, a_role, an_edge, an_assign, a_revoke, a_user, an_act, a_goal, IsWellFormed, tells_order, spell}
use Rattle.policy_text.specs.Runs.{RunValue, nothing, HasRoom, Adds, AddAll, behind_edges, IsReadTo}
use Rattle.policy_text.specs.Faults.{HasUnknown, HasCondFault, IsPlaced, IsLineFault, IsPastOrder, EndsOrder, IsFaultInside, IsFaultAhead, IsFirstFault}
use Rattle.policy_text.proofs.StepLemmas.{order_line_is}
use Rattle.policy_text.proofs.SoleLemmas.{extends_one}
use Rattle.cond_text.proofs.OrderLemmas.{order_clash, refusal_one}
use Rattle.policy_text.proofs.ClashLemmas.{IsOnTheWay, cond_clash_at, adds_clash, end_clash, no_last, spell_one, same_cons, keep_one, no_order, still_late}
use Rattle.policy_text.proofs.ClashLemmas.{keep_all}

-- conditions

cond_fault_at : (count : ℕ) (before : List Word) (x : Placed) (rest : List Placed) (a b : CondError) → IsFaultAt count before x rest a
    → IsFaultAt count before x rest b → a ≡ b
cond_fault_at count before x rest conditions.Memory b f g = absurd f
cond_fault_at count before x rest (conditions.Unexpected p) conditions.Memory f g = absurd g
cond_fault_at count before x rest (conditions.Unexpected p) (conditions.Unexpected q) f g = ap conditions.Unexpected (f.0 ∙ sym g.0)
cond_fault_at count before x rest (conditions.Unexpected p) (conditions.TooDeep q) f g = absurd (f.1 g.1)
cond_fault_at count before x rest (conditions.Unexpected p) (conditions.UnknownRole q) f g = absurd (f.1 g.1)
cond_fault_at count before x rest (conditions.TooDeep p) conditions.Memory f g = absurd g
cond_fault_at count before x rest (conditions.TooDeep p) (conditions.Unexpected q) f g = absurd (g.1 f.1)
cond_fault_at count before x rest (conditions.TooDeep p) (conditions.TooDeep q) f g = ap conditions.TooDeep (f.0 ∙ sym g.0)
cond_fault_at count before x rest (conditions.TooDeep p) (conditions.UnknownRole q) f g = absurd (g.2 f.2)
cond_fault_at count before x rest (conditions.UnknownRole p) conditions.Memory f g = absurd g
cond_fault_at count before x rest (conditions.UnknownRole p) (conditions.Unexpected q) f g = absurd (g.1 f.1)
cond_fault_at count before x rest (conditions.UnknownRole p) (conditions.TooDeep q) f g = absurd (f.2 g.2)
cond_fault_at count before x rest (conditions.UnknownRole p) (conditions.UnknownRole q) f g = ap conditions.UnknownRole (f.0 ∙ sym g.0)

cond_fault_one : (count size : ℕ) (ws : List Placed) (before : List Word) (a b : CondError) → IsFirstCondFault count size before ws a
    → IsFirstCondFault count size before ws b → a ≡ b
cond_fault_one count size [] before a b f g = f.0 ∙ sym g.0
cond_fault_one count size (x ∷ xs) before a b (inl f) (inl g) = cond_fault_at count before x xs a b f g
cond_fault_one count size (x ∷ xs) before a b (inl f) (inr g) = absurd (cond_clash_at count before x xs a f g.0)
cond_fault_one count size (x ∷ xs) before a b (inr f) (inl g) = absurd (cond_clash_at count before x xs b g f.0)
cond_fault_one count size (x ∷ xs) before a b (inr f) (inr g) = cond_fault_one count size xs (before ++ (x.word ∷ [])) a b f.1 g.1

refused_is : (names : List (List ℕ)) (text : List ℕ) (e : CondError) → IsRefusedCond names text e → (e ≡ conditions.Memory → ⊥)
    → IsFirstCondFault (length names) (length text) [] (placed_words names text) e
refused_is names text (conditions.Unexpected p) r m = r
refused_is names text (conditions.TooDeep p) r m = r
refused_is names text (conditions.UnknownRole p) r m = r
refused_is names text conditions.Memory r m = absurd (m refl)

refused_one : (names : List (List ℕ)) (text : List ℕ) (a b : CondError) → IsRefusedCond names text a × (a ≡ conditions.Memory → ⊥)
    → IsRefusedCond names text b × (b ≡ conditions.Memory → ⊥) → a ≡ b
refused_one names text a b f g =
    cond_fault_one (length names) (length text) (placed_words names text) [] a b (refused_is names text a f.0 f.1) (refused_is names text b g.0 g.1)

condition_one : (names : List (List ℕ)) (form : LineForm) (a b : CondError) → HasCondFault names form a → HasCondFault names form b → a ≡ b
condition_one names (an_assign admin range condition) a b f g = refused_one names condition a b f g
condition_one names (a_goal condition) a b f g = refused_one names condition a b f g
condition_one names (a_role name) a b f g = absurd f
condition_one names (an_edge senior junior) a b f g = absurd f
condition_one names (a_revoke admin range) a b f g = absurd f
condition_one names (a_user words) a b f g = absurd f
condition_one names (an_act act) a b f g = absurd f

-- lines

form_one : (run : RunValue) (line : List ℕ) (a b : LineForm) → IsPlaced run line a → IsPlaced run line b → a ≡ b
form_one run line a b f g = spell_one a b f.formed g.formed (f.spelled ∙ sym g.spelled)

cond_pair : (m n : ℕ) (a b : CondError) → m ≡ n → a ≡ b → Cond m a ≡ Cond n b
cond_pair m n a b e f = ap (λ (k : ℕ). Cond k a) e ∙ ap (λ (c : CondError). Cond n c) f

-- a line has one fault
line_one : (run : RunValue) (line : List ℕ) (number : ℕ) (a b : RunError) → IsLineFault run line number a → IsLineFault run line number b
    → (a ≡ Memory → ⊥) → (b ≡ Memory → ⊥) → a ≡ b
line_one run line number Memory b f g m n = absurd (m refl)
line_one run line number (Order e) b f g m n = absurd f
line_one run line number Unended b f g m n = absurd f
line_one run line number (BadLine k) Memory f g m n = absurd (n refl)
line_one run line number (BadLine k) (Order e) f g m n = absurd g
line_one run line number (BadLine k) Unended f g m n = absurd g
line_one run line number (BadLine k) (BadLine l) f g m n = ap BadLine (f.0 ∙ sym g.0)
line_one run line number (BadLine k) (TooMany l) f g m n = absurd (f.1 g.1 g.2)
line_one run line number (BadLine k) (UnknownRole l) f g m n = absurd (f.1 g.1 g.2)
line_one run line number (BadLine k) (Cond l e) f g m n = absurd (f.1 g.1 g.2)
line_one run line number (TooMany k) Memory f g m n = absurd (n refl)
line_one run line number (TooMany k) (Order e) f g m n = absurd g
line_one run line number (TooMany k) Unended f g m n = absurd g
line_one run line number (TooMany k) (BadLine l) f g m n = absurd (g.1 f.1 f.2)
line_one run line number (TooMany k) (TooMany l) f g m n = ap TooMany (f.0 ∙ sym g.0)
line_one run line number (TooMany k) (UnknownRole l) f g m n = absurd (f.3 (subst (HasRoom run) (form_one run line g.1 f.1 g.2 f.2) g.3))
line_one run line number (TooMany k) (Cond l e) f g m n = absurd (f.3 (subst (HasRoom run) (form_one run line g.1 f.1 g.2 f.2) g.3))
line_one run line number (UnknownRole k) Memory f g m n = absurd (n refl)
line_one run line number (UnknownRole k) (Order e) f g m n = absurd g
line_one run line number (UnknownRole k) Unended f g m n = absurd g
line_one run line number (UnknownRole k) (BadLine l) f g m n = absurd (g.1 f.1 f.2)
line_one run line number (UnknownRole k) (TooMany l) f g m n = absurd (g.3 (subst (HasRoom run) (form_one run line f.1 g.1 f.2 g.2) f.3))
line_one run line number (UnknownRole k) (UnknownRole l) f g m n = ap UnknownRole (f.0 ∙ sym g.0)
line_one run line number (UnknownRole k) (Cond l e) f g m n = absurd (g.4 (subst (HasUnknown run.names) (form_one run line f.1 g.1 f.2 g.2) f.4))
line_one run line number (Cond k e) Memory f g m n = absurd (n refl)
line_one run line number (Cond k e) (Order d) f g m n = absurd g
line_one run line number (Cond k e) Unended f g m n = absurd g
line_one run line number (Cond k e) (BadLine l) f g m n = absurd (g.1 f.1 f.2)
line_one run line number (Cond k e) (TooMany l) f g m n = absurd (g.3 (subst (HasRoom run) (form_one run line f.1 g.1 f.2 g.2) f.3))
line_one run line number (Cond k e) (UnknownRole l) f g m n = absurd (f.4 (subst (HasUnknown run.names) (form_one run line g.1 f.1 g.2 f.2) g.4))
line_one run line number (Cond k e) (Cond l d) f g m n =
    cond_pair k l e d (f.0 ∙ sym g.0)
    (condition_one run.names g.1 e d (subst (λ (s : LineForm). HasCondFault run.names s e) (form_one run line f.1 g.1 f.2 g.2) f.5) g.5)

-- where a text stops

record StopsInLine (run : RunValue) (number : ℕ) (left : List (List ℕ)) (fault : RunError) : Type 0 where
  line : List ℕ
  later : List (List ℕ)
  left_is : left ≡ line ∷ later
  past : IsPastOrder run line
  fault_is : IsLineFault run line number fault
  told : fault ≡ Memory → ⊥

record StopsBehindEnd (run : RunValue) (number : ℕ) (left : List (List ℕ)) (fault : RunError) : Type 0 where
  later : List (List ℕ)
  left_is : left ≡ codes "end" ∷ later
  order : IsOrder run.names run.edges
  goal : length run.goal ≡ 0 → ⊥
  fault_is : fault ≡ BadLine (number + 1)

record StopsAtOrder (run : RunValue) (left : List (List ℕ)) (fault : RunError) : Type 0 where
  error : OrderError
  early : behind_edges run ≡ 0
  ends : EndsOrder left
  refused : IsRefusedOrder run.names run.edges error
  told : error ≡ refusals.Memory → ⊥
  fault_is : fault ≡ Order error

record StopsUnended (run : RunValue) (left : List (List ℕ)) (fault : RunError) : Type 0 where
  left_is : left ≡ []
  order : IsOrder run.names run.edges
  fault_is : fault ≡ Unended

data Stops (run : RunValue) (number : ℕ) (left : List (List ℕ)) (fault : RunError) : Type 0 where
  in_line : StopsInLine run number left fault → Stops run number left fault
  behind_end : StopsBehindEnd run number left fault → Stops run number left fault
  at_order : StopsAtOrder run left fault → Stops run number left fault
  unended : StopsUnended run left fault → Stops run number left fault

some_goal : (n : ℕ) → (n ≡ 0 → ⊥) → 1 ≤ n
some_goal zero h = absurd (h refl)
some_goal (suc n) h = omega arith

past_clash : (run : RunValue) (line : List ℕ) (error : OrderError) → IsPastOrder run line → is_order_line line ≡ false
    → IsRefusedOrder run.names run.edges error → (error ≡ refusals.Memory → ⊥) → ⊥
past_clash run line error (inl p) o r m = absurd (false≢true (sym o ∙ p.1))
past_clash run line error (inr p) o r m = order_clash run.names run.edges error p r m

line_order_clash : (run : RunValue) (number : ℕ) (left : List (List ℕ)) (a b : RunError) → StopsInLine run number left a → StopsAtOrder run left b
    → ⊥
line_order_clash run number left a b f g = past_clash run f.line g.error f.past (subst EndsOrder f.left_is g.ends) g.refused g.told

line_end_clash : (run : RunValue) (number : ℕ) (left : List (List ℕ)) (a b : RunError) → StopsInLine run number left a
    → StopsBehindEnd run number left b → ⊥
line_end_clash run number left a b f g =
    let s = same_cons f.line (codes "end") f.later g.later (sym f.left_is ∙ g.left_is) in
    end_clash run f.line number a s.0 (some_goal (length run.goal) g.goal) f.told f.fault_is

cons_clash : (left : List (List ℕ)) (line : List ℕ) (later : List (List ℕ)) → left ≡ line ∷ later → left ≡ [] → ⊥
cons_clash left line later e f = absurd (cc)

-- at one place a text stops in one way
stop_one : (run : RunValue) (number : ℕ) (left : List (List ℕ)) (a b : RunError) → Stops run number left a → Stops run number left b → a ≡ b
stop_one run number left a b (in_line f) (in_line g) =
    let s = same_cons f.line g.line f.later g.later (sym f.left_is ∙ g.left_is) in
    line_one run g.line number a b (subst (λ (l : List ℕ). IsLineFault run l number a) s.0 f.fault_is) g.fault_is f.told g.told
stop_one run number left a b (in_line f) (behind_end g) = absurd (line_end_clash run number left a b f g)
stop_one run number left a b (in_line f) (at_order g) = absurd (line_order_clash run number left a b f g)
stop_one run number left a b (in_line f) (unended g) = absurd (cons_clash left f.line f.later f.left_is g.left_is)
stop_one run number left a b (behind_end f) (in_line g) = absurd (line_end_clash run number left b a g f)
stop_one run number left a b (behind_end f) (behind_end g) = f.fault_is ∙ sym g.fault_is
stop_one run number left a b (behind_end f) (at_order g) = absurd (order_clash run.names run.edges g.error f.order g.refused g.told)
stop_one run number left a b (behind_end f) (unended g) = absurd (cons_clash left (codes "end") f.later f.left_is g.left_is)
stop_one run number left a b (at_order f) (in_line g) = absurd (line_order_clash run number left b a g f)
stop_one run number left a b (at_order f) (behind_end g) = absurd (order_clash run.names run.edges f.error g.order f.refused f.told)
stop_one run number left a b (at_order f) (at_order g) =
    f.fault_is ∙ ap Order (refusal_one run.names run.edges f.error g.error f.refused g.refused f.told g.told) ∙ sym g.fault_is
stop_one run number left a b (at_order f) (unended g) = absurd (order_clash run.names run.edges f.error g.order f.refused f.told)
stop_one run number left a b (unended f) (in_line g) = absurd (cons_clash left g.line g.later g.left_is f.left_is)
stop_one run number left a b (unended f) (behind_end g) = absurd (cons_clash left (codes "end") g.later g.left_is f.left_is)
stop_one run number left a b (unended f) (at_order g) = absurd (order_clash run.names run.edges g.error f.order g.refused g.told)
stop_one run number left a b (unended f) (unended g) = f.fault_is ∙ sym g.fault_is

-- the other reading goes further, by a right line
record GoesFurther (run : RunValue) (left : List (List ℕ)) (last : RunValue) : Type 0 where
  line : List ℕ
  later : List (List ℕ)
  left_is : left ≡ line ∷ later
  way : IsOnTheWay run line last

late_all : (run last : RunValue) (lines : List LineForm) → Each IsWellFormed lines → (behind_edges run ≡ 0 → ⊥) → AddAll run lines last
    → behind_edges last ≡ 0 → ⊥
late_all run last [] h late a = subst (λ (r : RunValue). behind_edges r ≡ 0 → ⊥) (sym a) late
late_all run last (line ∷ lines) h late a =
    late_all a.0 last lines h.1 (still_late run a.0 line h.0 (no_order run line late a.1.place) a.1) a.2

-- behind a line that is none of the role order's, a text stops only under an order
late_order : (run : RunValue) (number : ℕ) (left : List (List ℕ)) (fault : RunError) → Stops run number left fault → (behind_edges run ≡ 0 → ⊥)
    → IsOrder run.names run.edges
late_order run number left fault (in_line f) late = by_past f.past
  where
    by_past : IsPastOrder run f.line → IsOrder run.names run.edges
    by_past (inl p) = absurd (late p.0)
    by_past (inr o) = o
late_order run number left fault (behind_end f) late = f.order
late_order run number left fault (at_order f) late = absurd (late f.early)
late_order run number left fault (unended f) late = f.order

-- a text stops before no right line
stop_clash : (run last : RunValue) (n m : ℕ) (left right : List (List ℕ)) (a b : RunError) → Stops run n left a → Stops last m right b
    → GoesFurther run left last → ⊥
stop_clash run last n m left right a b (in_line f) t g =
    let s = same_cons f.line g.line f.later g.later (sym f.left_is ∙ g.left_is) in
    adds_clash run g.way.next f.line g.way.form n a g.way.formed (g.way.spelled ∙ sym s.0) g.way.adds f.told f.fault_is
stop_clash run last n m left right a b (behind_end f) t g =
    let s = same_cons (codes "end") g.line f.later g.later (sym f.left_is ∙ g.left_is) in
    no_last g.way.form g.way.formed (g.way.spelled ∙ sym s.0)
stop_clash run last n m left right a b (at_order f) t g =
    let w = g.way in
    let o : is_order_line g.line ≡ false = subst EndsOrder g.left_is f.ends in
    let none : tells_order w.form ≡ false = sym (order_line_is w.form) ∙ ap is_order_line w.spelled ∙ o in
    let late = still_late run w.next w.form w.formed none w.adds in
    let k = keep_one run w.next w.form none w.adds.extends in
    let l = keep_all w.next last w.more w.each late w.rest in
    let order = late_order last m right b t (late_all w.next last w.more w.each late w.rest) in
    let P : List (List ℕ) → Type 0 = λ names. IsOrder names run.edges in
    let Q : List (ℕ × ℕ) → Type 0 = λ edges. IsOrder last.names edges in
    order_clash run.names run.edges f.error (subst P (l.0 ∙ k.0) (subst Q (l.1 ∙ k.1) order)) f.refused f.told
stop_clash run last n m left right a b (unended f) t g = cons_clash left g.line g.later g.left_is f.left_is

-- two readings of one text: they end at one place, or one goes further
compare : (xs ys : List LineForm) (run a b : RunValue) (left right : List (List ℕ)) → Each IsWellFormed xs → Each IsWellFormed ys
    → map spell xs ++ left ≡ map spell ys ++ right → AddAll run xs a → AddAll run ys b
    → ((left ≡ right) × (a ≡ b) × (length xs ≡ length ys)) ⊎ (GoesFurther a left b ⊎ GoesFurther b right a)
compare [] [] run a b left right hx hy e f g = inl (e, f ∙ sym g, refl)
compare [] (y ∷ ys) run a b left right hx hy e f g = inr (inl (record {
  line = spell y;
  later = map spell ys ++ right;
  left_is = e;
  way = record {
    form = y;
    formed = hy.0;
    spelled = refl;
    next = g.0;
    adds = subst (λ (r : RunValue). Adds r y g.0)
        (sym f) g.1;
    more = ys;
    each = hy.1;
    rest = g.2;
  };
}))
compare (x ∷ xs) [] run a b left right hx hy e f g = inr (inr (record {
  line = spell x;
  later = map spell xs ++ left;
  left_is = sym e;
  way = record {
    form = x;
    formed = hx.0;
    spelled = refl;
    next = f.0;
    adds = subst (λ (r : RunValue). Adds r x f.0)
        (sym g) f.1;
    more = xs;
    each = hx.1;
    rest = f.2;
  };
}))
compare (x ∷ xs) (y ∷ ys) run a b left right hx hy e f g =
    let s = same_cons (spell x) (spell y) (map spell xs ++ left) (map spell ys ++ right) e in
    let one : x ≡ y = spell_one x y hx.0 hy.0 s.0 in
    let next : f.0 ≡ g.0 = extends_one run f.0 g.0 y (subst (λ (t : LineForm). Adds run t f.0) one f.1).extends g.1.extends in
    longer (compare xs ys g.0 a b left right hx.1 hy.1 s.1 (subst (λ (r : RunValue). AddAll r xs a) next f.2) g.2)
  where
    longer : ((left ≡ right) × (a ≡ b) × (length xs ≡ length ys)) ⊎ (GoesFurther a left b ⊎ GoesFurther b right a)
        → ((left ≡ right) × (a ≡ b) × (length (x ∷ xs) ≡ length (y ∷ ys))) ⊎ (GoesFurther a left b ⊎ GoesFurther b right a)
    longer (inl h) = inl (h.0, h.1, ap suc h.2)
    longer (inr h) = inr h

-- a place that right lines lead to, and where the text stops
record Stop (bytes : List ℕ) (fault : RunError) : Type 0 where
  run : RunValue
  number : ℕ
  left : List (List ℕ)
  part : List ℕ
  read : IsReadTo bytes run number left part
  stops : Stops run number left fault

read_lines : (bytes : List ℕ) (a b : RunValue) (n m : ℕ) (left right : List (List ℕ)) (p q : List ℕ) → (r : IsReadTo bytes a n left p)
    → (s : IsReadTo bytes b m right q)
    → map spell r.lines ++ left ≡ map spell s.lines ++ right
read_lines bytes a b n m left right p q r s =
    (same_cons (codes "run 1") (codes "run 1") _ _ (ap (λ (p : List (List ℕ) × List ℕ). p.0) (sym r.text ∙ s.text))).1

stops_one : (bytes : List ℕ) (a b : RunError) → Stop bytes a → Stop bytes b → a ≡ b
stops_one bytes a b f g =
    by_case (compare f.read.lines g.read.lines nothing f.run g.run f.left g.left f.read.formed g.read.formed
    (read_lines bytes f.run g.run f.number g.number f.left g.left f.part g.part f.read g.read) f.read.added g.read.added)
  where
    by_case : ((f.left ≡ g.left) × (f.run ≡ g.run) × (length f.read.lines ≡ length g.read.lines))
        ⊎ (GoesFurther f.run f.left g.run ⊎ GoesFurther g.run g.left f.run) → a ≡ b
    by_case (inl h) =
        let number : f.number ≡ g.number = f.read.number_is ∙ ap (λ (n : ℕ). 2 + n) h.2 ∙ sym g.read.number_is in
        let P : RunValue → Type 0 = λ r. Stops r f.number f.left a in
        let Q : List (List ℕ) → Type 0 = λ l. Stops g.run f.number l a in
        let R : ℕ → Type 0 = λ n. Stops g.run n g.left a in
        stop_one g.run g.number g.left a b (subst R number (subst Q h.0 (subst P h.1 f.stops))) g.stops
    by_case (inr (inl h)) = absurd (stop_clash f.run g.run f.number g.number f.left g.left a b f.stops g.stops h)
    by_case (inr (inr h)) = absurd (stop_clash g.run f.run g.number f.number g.left f.left b a g.stops f.stops h)

-- before its first line, at it, or behind it
data Start (bytes : List ℕ) (fault : RunError) : Type 0 where
  no_line : (split bytes).0 ≡ [] → fault ≡ Order refusals.NoRoles → Start bytes fault
  ahead : (at : ℕ) → IsFaultAhead bytes at → fault ≡ BadLine at → Start bytes fault
  stop : Stop bytes fault → Start bytes fault

inside_start : (bytes : List ℕ) (fault : RunError) → IsFaultInside bytes fault → (fault ≡ Memory → ⊥) → Start bytes fault
inside_start bytes fault f m = stop (record {
  run = f.run;
  number = f.number;
  left = f.line ∷ f.later;
  part = f.part;
  read = f.read;
  stops = in_line (record { line = f.line; later = f.later; left_is = refl; past = f.past; fault_is = f.fault_is; told = m });
})

start_of : (bytes : List ℕ) (fault : RunError) → IsFirstFault bytes fault → Start bytes fault
start_of bytes (BadLine at) (inl f) = ahead at f refl
start_of bytes (BadLine at) (inr (inl f)) = inside_start bytes (BadLine at) f (λ e. absurd (cc))
start_of bytes (BadLine at) (inr (inr f)) = stop (record {
  run = f.run;
  number = f.number;
  left = codes "end" ∷ f.later;
  part = f.part;
  read = f.read;
  stops = behind_end (record { later = f.later; left_is = refl; order = f.order; goal = f.goal; fault_is = ap BadLine f.number_is });
})
start_of bytes (TooMany at) f = inside_start bytes (TooMany at) f (λ e. absurd (cc))
start_of bytes (UnknownRole at) f = inside_start bytes (UnknownRole at) f (λ e. absurd (cc))
start_of bytes (Cond at error) f = inside_start bytes (Cond at error) f (λ e. absurd (cc))
start_of bytes (Order error) (inl f) = no_line f.0 (ap Order f.1)
start_of bytes (Order error) (inr f) = stop (record {
  run = f.run;
  number = f.number;
  left = f.left;
  part = f.part;
  read = f.read;
  stops = at_order (record { error = error; early = f.early; ends = f.ends; refused = f.refused; told = f.told; fault_is = refl });
})
start_of bytes Unended f = stop (record {
  run = f.run;
  number = f.number;
  left = [];
  part = f.part;
  read = f.read;
  stops = unended (record { left_is = refl; order = f.order; fault_is = refl });
})
start_of bytes Memory f = absurd f

lines_of : (bytes : List ℕ) (lines other : List (List ℕ)) (p q : List ℕ) → split bytes ≡ (lines, p) → split bytes ≡ (other, q) → lines ≡ other
lines_of bytes lines other p q e f = ap (λ (s : List (List ℕ) × List ℕ). s.0) (sym e ∙ f)

ahead_stop : (bytes : List ℕ) (at : ℕ) (fault : RunError) → IsFaultAhead bytes at → Stop bytes fault → ⊥
ahead_stop bytes at fault f g =
    f.other (same_cons f.line (codes "run 1") f.later (map spell g.read.lines ++ g.left)
    (lines_of bytes (f.line ∷ f.later) (codes "run 1" ∷ (map spell g.read.lines ++ g.left)) f.part g.part f.text g.read.text)).0

none_stop : (bytes : List ℕ) (fault : RunError) → (split bytes).0 ≡ [] → Stop bytes fault → ⊥
none_stop bytes fault e g =
    cons_clash (split bytes).0 (codes "run 1") (map spell g.read.lines ++ g.left) (ap (λ (s : List (List ℕ) × List ℕ). s.0) g.read.text) e

none_ahead : (bytes : List ℕ) (at : ℕ) → (split bytes).0 ≡ [] → IsFaultAhead bytes at → ⊥
none_ahead bytes at e f = cons_clash (split bytes).0 f.line f.later (ap (λ (s : List (List ℕ) × List ℕ). s.0) f.text) e

start_one : (bytes : List ℕ) (a b : RunError) → Start bytes a → Start bytes b → a ≡ b
start_one bytes a b (no_line e f) (no_line g h) = f ∙ sym h
start_one bytes a b (no_line e f) (ahead at g h) = absurd (none_ahead bytes at e g)
start_one bytes a b (no_line e f) (stop g) = absurd (none_stop bytes b e g)
start_one bytes a b (ahead at f h) (no_line e g) = absurd (none_ahead bytes at e f)
start_one bytes a b (ahead at f h) (ahead to g k) = h ∙ ap BadLine (f.number_is ∙ sym g.number_is) ∙ sym k
start_one bytes a b (ahead at f h) (stop g) = absurd (ahead_stop bytes at b f g)
start_one bytes a b (stop f) (no_line e g) = absurd (none_stop bytes a e f)
start_one bytes a b (stop f) (ahead at g h) = absurd (ahead_stop bytes at a g f)
start_one bytes a b (stop f) (stop g) = stops_one bytes a b f g

-- a text has one first fault
pub one_fault : (bytes : List ℕ) (a b : RunError) → IsFirstFault bytes a → IsFirstFault bytes b → a ≡ b
one_fault bytes a b f g = start_one bytes a b (start_of bytes a f) (start_of bytes b g)
