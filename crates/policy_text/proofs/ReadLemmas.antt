-- What the parts of a text say, put together.
use Rattle.std.proofs.Common.{ℕ, ◌≡◌, ◌+◌, inl, inr, List, [], ◌∷◌, ◌++◌, length, refl, arith, sym, ◌∙◌, ap, subst, Some, None}
use Rattle.std.proofs.Common.{map, suc, Result, Ok, Err, IfOk, IfErr}
use Rattle.std.specs.Prelude.{codes}
use Rattle.role_order.specs.declared.order.OrderError.TheVariants as refusals
use Rattle.role_order.specs.Graph.{Graph}
use Rattle.arbac_policy.specs.Rules.{IsPolicy, AreCountable, policy_of}
use Rattle.role_order.specs.Names.{texts}
use Rattle.policy_text.specs.declared.listing.Listing.{Listing}
use Rattle.policy_text.specs.declared.body.Body.{Body}
use Rattle.policy_text.specs.declared.run_error.RunError.{RunError}
use Rattle.policy_text.specs.declared.run_error.RunError.TheVariants.{BadLine, UnknownRole, Order, Cond, TooMany, Unended, Memory}
use Rattle.cond_text.specs.Cuts.{cut}
use Rattle.text_lines.specs.Lines.{split}
use Rattle.policy_text.specs.LineForms.{LineForm, IsWellFormed, spell}
use Rattle.policy_text.specs.declared.run.Run.{Run}
use Rattle.arbac_policy.specs.PlainRules.{plain_rule}
use Rattle.policy_text.specs.Runs.{RunValue, nothing, plain_of, behind_edges, AddAll, IsReadTo, StandsFor, Reads}
use Rattle.policy_text.proofs.ClashLemmas.{one_run, first_clash}
use Rattle.policy_text.proofs.FirstLemmas.{one_fault}
use Rattle.policy_text.specs.Faults.{EndsOrder, IsFaultInside, IsFirstFault, IsRefused, Tells}
use Rattle.policy_text.specs.Steps.{listing_view, order_view, run_view, IsOrderTold, Passes, StopsAt, EndsWith, IsBodyFault, Told}
use Rattle.cond_text.proofs.CutLemmas.{cut_joined}
use Rattle.text_lines.proofs.LineLemmas.{split_none, split_first}
use Rattle.policy_text.proofs.RunLemmas.{few_nothing}
use Rattle.policy_text.proofs.SoleLemmas.{known_nothing, each_plain}
use Rattle.list_words.proofs.EachLemmas.{each_append}
use Rattle.std.proofs.lemmas.List.{length-map}

add_append : (run mid last : RunValue) (xs ys : List LineForm) → AddAll run xs mid → AddAll mid ys last → AddAll run (xs ++ ys) last
add_append run mid last [] ys a b = subst (λ (r : RunValue). AddAll r ys last) a b
add_append run mid last (x ∷ xs) ys a b = (a.0, a.1, add_append a.0 mid last xs ys a.2 b)

spell_append : (xs ys : List LineForm) (left : List (List ℕ)) → map spell xs ++ (map spell ys ++ left) ≡ map spell (xs ++ ys) ++ left
spell_append [] ys left = refl
spell_append (x ∷ xs) ys left = ap (λ t. spell x ∷ t) (spell_append xs ys left)

length_append : (xs ys : List LineForm) → length (xs ++ ys) ≡ length xs + length ys
length_append [] ys = omega arith
length_append (x ∷ xs) ys = let l = length_append xs ys in omega arith

-- one way behind another
pub passes_then : (run mid last : RunValue) (text rest end : List ℕ) (number at to : ℕ) → Passes run text number mid rest at
    → Passes mid rest at last end to → Passes run text number last end to
passes_then run mid last text rest end number at to p q = record {
  lines = p.lines ++ q.lines;
  formed = each_append IsWellFormed p.lines q.lines p.formed q.formed;
  text_is = p.text_is ∙ ap (λ (s : List (List ℕ) × List ℕ). (map spell p.lines ++ s.0, s.1)) q.text_is
      ∙ ap (λ (t : List (List ℕ)). (t, (split end).1)) (spell_append p.lines q.lines (split end).0);
  added = add_append run mid last p.lines q.lines p.added q.added;
  number_is = sum at to number (length p.lines) (length q.lines) _ p.number_is q.number_is (length_append p.lines q.lines);
}
  where
    sum : (at to number a b c : ℕ) → at ≡ number + a → to ≡ at + b → c ≡ a + b → to ≡ number + c
    sum at to number a b c h k l = omega arith

-- the text behind its first line
abbrev pub IsHeaded : List ℕ → List ℕ → Type 0
IsHeaded bytes text = split bytes ≡ (codes "run 1" ∷ (split text).0, (split text).1)

pub headed : (bytes line text : List ℕ) → cut 10 bytes ≡ Some (line, text) → line ≡ codes "run 1" → IsHeaded bytes text
headed bytes line text c is = split_first bytes line text c ∙ ap (λ (t : List ℕ). (t ∷ (split text).0, (split text).1)) is

read_to : (bytes text rest : List ℕ) (run : RunValue) (at : ℕ) → IsHeaded bytes text → Passes nothing text 2 run rest at
    → IsReadTo bytes run at (split rest).0 (split rest).1
read_to bytes text rest run at h p = record {
  lines = p.lines;
  formed = p.formed;
  text = h ∙ ap (λ (s : List (List ℕ) × List ℕ). (codes "run 1" ∷ s.0, s.1)) p.text_is;
  added = p.added;
  number_is = p.number_is;
}

read_on : (bytes : List ℕ) (run : RunValue) (at : ℕ) (s t : List (List ℕ) × List ℕ) → s ≡ t → IsReadTo bytes run at s.0 s.1
    → IsReadTo bytes run at t.0 t.1
read_on bytes run at s t e r = subst (λ (p : List (List ℕ) × List ℕ). IsReadTo bytes run at p.0 p.1) e r

inside : (bytes text : List ℕ) (e : RunError) → IsHeaded bytes text → StopsAt nothing text 2 e → IsFaultInside bytes e
inside bytes text e h s = record {
  run = s.last;
  number = s.at;
  line = s.line;
  later = (split s.later).0;
  part = (split s.later).1;
  read = read_on bytes s.last s.at (split s.rest) (s.line ∷ (split s.later).0, (split s.later).1) s.next (read_to bytes text s.rest s.last s.at h s.passed);
  past = s.past;
  fault_is = s.fault_is;
}

-- a fault among the lines of the role order
pub told_first : (bytes text : List ℕ) (e : RunError) → IsHeaded bytes text → Told e (StopsAt nothing text 2 e) → IsRefused bytes e
told_first bytes text (BadLine at) h s = inr (inl (inside bytes text (BadLine at) h s))
told_first bytes text (TooMany at) h s = inside bytes text (TooMany at) h s
told_first bytes text (UnknownRole at) h s = inside bytes text (UnknownRole at) h s
told_first bytes text (Cond at error) h s = inside bytes text (Cond at error) h s
told_first bytes text (Order error) h s = absurd s.fault_is
told_first bytes text Unended h s = absurd s.fault_is
told_first bytes text Memory h s = tt

-- a refusal of the role order
pub order_first : (bytes text rest : List ℕ) (run : RunValue) (at : ℕ) (e : RunError) → IsHeaded bytes text → Passes nothing text 2 run rest at
    → behind_edges run ≡ 0 → EndsOrder (split rest).0
    → IsOrderTold run.names run.edges e → IsRefused bytes e
order_first bytes text rest run at (Order error) h p early ends o = inr (record {
  run = run;
  number = at;
  left = (split rest).0;
  part = (split rest).1;
  read = read_to bytes text rest run at h p;
  early = early;
  ends = ends;
  refused = o.0;
  told = o.1;
})
order_first bytes text rest run at (BadLine k) h p early ends o = absurd o
order_first bytes text rest run at (TooMany k) h p early ends o = absurd o
order_first bytes text rest run at (UnknownRole k) h p early ends o = absurd o
order_first bytes text rest run at (Cond k error) h p early ends o = absurd o
order_first bytes text rest run at Unended h p early ends o = absurd o
order_first bytes text rest run at Memory h p early ends o = tt

stops_then : (text rest : List ℕ) (run : RunValue) (at : ℕ) (e : RunError) → Passes nothing text 2 run rest at → StopsAt run rest at e
    → StopsAt nothing text 2 e
stops_then text rest run at e p s = record {
  last = s.last;
  rest = s.rest;
  at = s.at;
  line = s.line;
  later = s.later;
  passed = passes_then nothing run s.last text rest s.rest 2 at s.at p s.passed;
  next = s.next;
  past = s.past;
  fault_is = s.fault_is;
}

-- a fault behind the role order
pub body_first : (bytes text rest : List ℕ) (run : RunValue) (at : ℕ) (e : RunError) → IsHeaded bytes text → Passes nothing text 2 run rest at
    → IsBodyFault run rest at e → IsRefused bytes e
body_first bytes text rest run at (BadLine k) h p (inl s) = inr (inl (inside bytes text (BadLine k) h (stops_then text rest run at (BadLine k) p s)))
body_first bytes text rest run at (BadLine k) h p (inr s) = inr (inr (record {
  run = s.last;
  number = s.at;
  later = (split s.later).0;
  part = (split s.later).1;
  read = read_on bytes s.last s.at (split s.rest) (codes "end" ∷ (split s.later).0, (split s.later).1) s.end
      (read_to bytes text s.rest s.last s.at h (passes_then nothing run s.last text rest s.rest 2 at s.at p s.passed));
  order = s.order;
  goal = s.goal;
  more = s.more;
  number_is = s.next_is;
}))
body_first bytes text rest run at (TooMany k) h p s = inside bytes text (TooMany k) h (stops_then text rest run at (TooMany k) p s)
body_first bytes text rest run at (UnknownRole k) h p s = inside bytes text (UnknownRole k) h (stops_then text rest run at (UnknownRole k) p s)
body_first bytes text rest run at (Cond k error) h p s = inside bytes text (Cond k error) h (stops_then text rest run at (Cond k error) p s)
body_first bytes text rest run at (Order error) h p s = absurd s
body_first bytes text rest run at Unended h p s =
    let r = read_to bytes text s.rest s.last s.at h (passes_then nothing run s.last text rest s.rest 2 at s.at p s.passed) in
    record {
      run = s.last;
      number = s.at;
      part = (split s.rest).1;
      read = subst (λ (l : List (List ℕ)). IsReadTo bytes s.last s.at l (split s.rest).1) s.none r;
      order = s.order;
    }
body_first bytes text rest run at Memory h p s = tt

-- a text without a whole line
pub no_line_first : (bytes : List ℕ) → cut 10 bytes ≡ None → IsFirstFault bytes (Order refusals.NoRoles)
no_line_first bytes c = inl (ap (λ (s : List (List ℕ) × List ℕ). s.0) (split_none bytes c), refl)

-- a text with another first line
pub ahead_first : (bytes line text : List ℕ) → cut 10 bytes ≡ Some (line, text) → (line ≡ codes "run 1" → ⊥) → IsFirstFault bytes (BadLine 1)
ahead_first bytes line text c other = inl (record {
  line = line;
  later = (split text).0;
  part = (split text).1;
  text = split_first bytes line text c;
  other = other;
  number_is = refl;
})

-- a whole run text
pub stands : (bytes text rest : List ℕ) (run last : RunValue) (at : ℕ) → IsHeaded bytes text → Passes nothing text 2 run rest at
    → EndsWith run rest at last → StandsFor bytes last
stands bytes text rest run last at h p s = record {
  number = s.at;
  read = read_on bytes last s.at (split s.rest) (codes "end" ∷ [], []) s.end
      (read_to bytes text s.rest last s.at h (passes_then nothing run last text rest s.rest 2 at s.at p s.passed));
  order = s.order;
  goal = s.goal;
}

pub same_order : (a b : List (List ℕ)) (c d : List (ℕ × ℕ)) → a ≡ b → c ≡ d
    → record nothing { names = a; edges = c } ≡ record nothing { names = b; edges = d }
same_order a b c d h k =
    ap (λ (n : List (List ℕ)). record nothing { names = n; edges = c }) h ∙ ap (λ (e : List (ℕ × ℕ)). record nothing { names = b; edges = e }) k

-- the lines of the role order lead to the order that was made of them
pub order_passes : (text rest : List ℕ) (listing : Listing) (order : Graph) (at : ℕ) → Passes nothing text 2 (listing_view listing) rest at
    → order.names ≡ texts listing.names.items → order.edges ≡ listing.edges.items
    → Passes nothing text 2 (order_view order) rest at
order_passes text rest listing order at p n e =
    subst (λ (run : RunValue). Passes nothing text 2 run rest at)
    (same_order (texts listing.names.items) order.names listing.edges.items order.edges (sym n) (sym e)) p

-- the rules that were read name roles alone
pub is_policy : (text rest : List ℕ) (order : Graph) (body : Body) (at : ℕ) → Passes nothing text 2 (order_view order) rest at
    → EndsWith (order_view order) rest at (run_view order body)
    → IsPolicy (policy_of order body.assign.items body.revoke.items [] [] [])
is_policy text rest order body at p s =
    let all = passes_then nothing (order_view order) (run_view order body) text rest s.rest 2 at s.at p s.passed in
    let known = known_nothing (run_view order body) all.lines all.added in
    record { assign = each_plain (length order.names) body.assign.items known.assign; revoke = known.revoke; assignp = tt; revokep = tt; exclusive = tt }

-- and are few
pub is_countable : (text rest : List ℕ) (order : Graph) (body : Body) (at : ℕ) → Passes nothing text 2 (order_view order) rest at
    → EndsWith (order_view order) rest at (run_view order body)
    → AreCountable (policy_of order body.assign.items body.revoke.items [] [] [])
is_countable text rest order body at p s =
    let all = passes_then nothing (order_view order) (run_view order body) text rest s.rest 2 at s.at p s.passed in
    let few = few_nothing (run_view order body) all.lines all.added in
    record {
      assign = omega (arith, few.assign, length-map body.assign.items plain_rule);
      revoke = omega (arith, few.revoke);
      assignp = omega arith;
      revokep = omega arith;
      exclusive = omega arith;
    }

-- the first line has six bytes, its line feed among them
pub behind_head : (bytes line text : List ℕ) → cut 10 bytes ≡ Some (line, text) → line ≡ codes "run 1" → length bytes ≡ length text + 6
behind_head bytes line text c is = ap length (cut_joined 10 bytes line text c ∙ ap (λ (t : List ℕ). t ++ (10 ∷ text)) is) ∙ longer (length text)
  where
    longer : (n : ℕ) → suc (suc (suc (suc (suc (suc n))))) ≡ n + 6
    longer n = omega arith

-- what stands for a run is read as that run
pub only_of : (bytes : List ℕ) (r : Result Run RunError) → IfOk r (λ run. StandsFor bytes (plain_of run)) → IfErr r (IsRefused bytes)
    → (run : RunValue) → StandsFor bytes run → Reads r run
only_of bytes (Ok found) h k run s = one_run bytes (plain_of found) run h s
only_of bytes (Err Memory) h k run s = refl
only_of bytes (Err (BadLine at)) h k run s = absurd (first_clash bytes run (BadLine at) s (λ e. absurd (cc)) k)
only_of bytes (Err (TooMany at)) h k run s = absurd (first_clash bytes run (TooMany at) s (λ e. absurd (cc)) k)
only_of bytes (Err (UnknownRole at)) h k run s = absurd (first_clash bytes run (UnknownRole at) s (λ e. absurd (cc)) k)
only_of bytes (Err (Cond at error)) h k run s = absurd (first_clash bytes run (Cond at error) s (λ e. absurd (cc)) k)
only_of bytes (Err (Order error)) h k run s = absurd (first_clash bytes run (Order error) s (λ e. absurd (cc)) k)
only_of bytes (Err Unended) h k run s = absurd (first_clash bytes run Unended s (λ e. absurd (cc)) k)

-- a text's first fault is told
pub told_of : (bytes : List ℕ) (r : Result Run RunError) → IfOk r (λ run. StandsFor bytes (plain_of run)) → IfErr r (IsRefused bytes)
    → (fault : RunError) → IsFirstFault bytes fault → Tells r fault
told_of bytes (Ok found) h k fault f = first_clash bytes (plain_of found) fault h (λ e. subst (IsFirstFault bytes) e f) f
told_of bytes (Err Memory) h k fault f = inr refl
told_of bytes (Err (BadLine at)) h k fault f = inl (one_fault bytes (BadLine at) fault k f)
told_of bytes (Err (TooMany at)) h k fault f = inl (one_fault bytes (TooMany at) fault k f)
told_of bytes (Err (UnknownRole at)) h k fault f = inl (one_fault bytes (UnknownRole at) fault k f)
told_of bytes (Err (Cond at error)) h k fault f = inl (one_fault bytes (Cond at error) fault k f)
told_of bytes (Err (Order error)) h k fault f = inl (one_fault bytes (Order error) fault k f)
told_of bytes (Err Unended) h k fault f = inl (one_fault bytes Unended fault k f)
