-- A text comes to one end: it stands for a certificate, or has a first fault, and there is one of these at most.
use Rattle.std.proofs.Common.{ℕ, ◌≡◌, ◌+◌, ◌⊎◌, inl, inr, List, [], ◌∷◌, ◌++◌, length, refl, sym, ◌∙◌, ap, subst, map, suc, Result, Ok, Err, Some}
use Rattle.std.specs.Prelude.{codes}
use Rattle.list_words.specs.Lists.{Each}
use Rattle.text_lines.specs.Lines.{split}
use Rattle.cert_text.specs.declared.cert_error.CertError.{CertError}
use Rattle.cert_text.specs.declared.cert_error.CertError.TheVariants.{BadLine, UnknownRole, Unended, Memory}
use Rattle.cert_text.specs.Certificates.{Certificate}
use Rattle.cert_text.specs.LineForms.{LineForm, IsWellFormed, spell}
use Rattle.cert_text.specs.Spelling.{form_of}
use Rattle.cert_text.specs.Drafts.{Draft, nothing, Extends, Adds, AddAll, IsWhole, MayEnd, IsReadTo, StandsFor}
use Rattle.cert_text.specs.Faults.{IsLineFault, IsFaultInside, IsFaultAhead, IsFirstFault}
use Rattle.cert_text.proofs.LineFormLemmas.{form_found}
use Rattle.cert_text.proofs.SoleLemmas.{extends_one, whole_one, known_clash}
use Rattle.cert_text.proofs.StepLemmas.{no_end}

same_cons : {A : Type 0} (x y : A) (xs ys : List A) → x ∷ xs ≡ y ∷ ys → (x ≡ y) × (xs ≡ ys)
same_cons x y xs ys e = (cc, cc)

cons_clash : (left : List (List ℕ)) (line : List ℕ) (later : List (List ℕ)) → left ≡ line ∷ later → left ≡ [] → ⊥
cons_clash left line later e f = absurd (cc)

-- lines

-- two forms with one spelling are one
spell_one : (a b : LineForm) → IsWellFormed a → IsWellFormed b → spell a ≡ spell b → a ≡ b
spell_one a b h k e = let s : Some a ≡ Some b = sym (form_found a h) ∙ ap form_of e ∙ form_found b k in cc

-- a line has one fault
line_one : (names : List (List ℕ)) (draft : Draft) (line : List ℕ) (number : ℕ) (a b : CertError) → IsLineFault names draft line number a
    → IsLineFault names draft line number b → (a ≡ Memory → ⊥) → (b ≡ Memory → ⊥) → a ≡ b
line_one names draft line number Memory b f g m n = absurd (m refl)
line_one names draft line number Unended b f g m n = absurd f
line_one names draft line number (BadLine k) Memory f g m n = absurd (n refl)
line_one names draft line number (BadLine k) Unended f g m n = absurd g
line_one names draft line number (BadLine k) (BadLine l) f g m n = ap BadLine (f.0 ∙ sym g.0)
line_one names draft line number (BadLine k) (UnknownRole l) f g m n = absurd (f.1 g.1 g.2)
line_one names draft line number (UnknownRole k) Memory f g m n = absurd (n refl)
line_one names draft line number (UnknownRole k) Unended f g m n = absurd g
line_one names draft line number (UnknownRole k) (BadLine l) f g m n = absurd (g.1 f.1 f.2)
line_one names draft line number (UnknownRole k) (UnknownRole l) f g m n = ap UnknownRole (f.0 ∙ sym g.0)

-- a right line has no fault
adds_clash : (names : List (List ℕ)) (draft next : Draft) (line : List ℕ) (form : LineForm) (number : ℕ) (fault : CertError) → IsWellFormed form
    → spell form ≡ line → Adds names draft form next → (fault ≡ Memory → ⊥) → IsLineFault names draft line number fault → ⊥
adds_clash names draft next line form number (BadLine at) h s a m f = f.1 form (record { formed = h; spelled = s; place = a.place })
adds_clash names draft next line form number (UnknownRole at) h s a m f =
    known_clash names draft f.1 next
    (subst (λ (t : LineForm). Extends names draft t next) (spell_one form f.1 h f.2.formed (s ∙ sym f.2.spelled)) a.extends) f.3
adds_clash names draft next line form number Unended h s a m f = f
adds_clash names draft next line form number Memory h s a m f = m refl

-- nor has the line `end` of a whole certificate
end_clash : (names : List (List ℕ)) (draft : Draft) (line : List ℕ) (number : ℕ) (fault : CertError) → line ≡ codes "end" → MayEnd draft
    → (fault ≡ Memory → ⊥) → IsLineFault names draft line number fault → ⊥
end_clash names draft line number (BadLine at) e w m f = f.2 e w
end_clash names draft line number (UnknownRole at) e w m f = no_end f.1 (f.2.spelled ∙ e)
end_clash names draft line number Unended e w m f = f
end_clash names draft line number Memory e w m f = m refl

-- how a text ends behind right lines

-- the next line is at fault
record EndsInLine (names : List (List ℕ)) (draft : Draft) (number : ℕ) (left : List (List ℕ)) (end : Result Certificate CertError) : Type 0 where
  line : List ℕ
  later : List (List ℕ)
  left_is : left ≡ line ∷ later
  fault : CertError
  fault_is : IsLineFault names draft line number fault
  told : fault ≡ Memory → ⊥
  end_is : end ≡ Err fault

-- the next line is the last one, and nothing stands behind it
record EndsWhole (draft : Draft) (left : List (List ℕ)) (part : List ℕ) (end : Result Certificate CertError) : Type 0 where
  left_is : left ≡ codes "end" ∷ []
  part_is : part ≡ []
  cert : Certificate
  whole : IsWhole draft cert
  end_is : end ≡ Ok cert

-- something stands behind it
record EndsBehind (draft : Draft) (number : ℕ) (left : List (List ℕ)) (part : List ℕ) (end : Result Certificate CertError) : Type 0 where
  later : List (List ℕ)
  left_is : left ≡ codes "end" ∷ later
  whole : MayEnd draft
  more : (later ≡ []) × (part ≡ []) → ⊥
  end_is : end ≡ Err (BadLine (number + 1))

-- there is no next line
record EndsEarly (left : List (List ℕ)) (end : Result Certificate CertError) : Type 0 where
  left_is : left ≡ []
  end_is : end ≡ Err Unended

data Ends (names : List (List ℕ)) (draft : Draft) (number : ℕ) (left : List (List ℕ)) (part : List ℕ) (end : Result Certificate CertError) : Type 0 where
  ends_in_line : EndsInLine names draft number left end → Ends names draft number left part end
  ends_whole : EndsWhole draft left part end → Ends names draft number left part end
  ends_behind : EndsBehind draft number left part end → Ends names draft number left part end
  ends_early : EndsEarly left end → Ends names draft number left part end

last_clash : (names : List (List ℕ)) (draft : Draft) (number : ℕ) (left later : List (List ℕ)) (end : Result Certificate CertError)
    → EndsInLine names draft number left end → left ≡ codes "end" ∷ later → MayEnd draft → ⊥
last_clash names draft number left later end f g w =
    end_clash names draft f.line number f.fault (same_cons f.line (codes "end") f.later later (sym f.left_is ∙ g)).0 w f.told f.fault_is

more_clash : (draft : Draft) (number : ℕ) (left : List (List ℕ)) (part : List ℕ) (a b : Result Certificate CertError) → EndsWhole draft left part a
    → EndsBehind draft number left part b → ⊥
more_clash draft number left part a b f g =
    g.more ((same_cons (codes "end") (codes "end") g.later [] (sym g.left_is ∙ f.left_is)).1, f.part_is)

-- at one place a text ends in one way
end_one : (names : List (List ℕ)) (draft : Draft) (number : ℕ) (left : List (List ℕ)) (part : List ℕ) (a b : Result Certificate CertError)
    → Ends names draft number left part a → Ends names draft number left part b → a ≡ b
end_one names draft number left part a b (ends_in_line f) (ends_in_line g) =
    let s = same_cons f.line g.line f.later g.later (sym f.left_is ∙ g.left_is) in
    let one = line_one names draft g.line number f.fault g.fault
    (subst (λ (l : List ℕ). IsLineFault names draft l number f.fault) s.0 f.fault_is) g.fault_is f.told g.told in
    f.end_is ∙ ap Err one ∙ sym g.end_is
end_one names draft number left part a b (ends_in_line f) (ends_whole g) = absurd (last_clash names draft number left [] a f g.left_is (g.cert, g.whole))
end_one names draft number left part a b (ends_in_line f) (ends_behind g) = absurd (last_clash names draft number left g.later a f g.left_is g.whole)
end_one names draft number left part a b (ends_in_line f) (ends_early g) = absurd (cons_clash left f.line f.later f.left_is g.left_is)
end_one names draft number left part a b (ends_whole f) (ends_in_line g) = absurd (last_clash names draft number left [] b g f.left_is (f.cert, f.whole))
end_one names draft number left part a b (ends_whole f) (ends_whole g) = f.end_is ∙ ap Ok (whole_one draft f.cert g.cert f.whole g.whole) ∙ sym g.end_is
end_one names draft number left part a b (ends_whole f) (ends_behind g) = absurd (more_clash draft number left part a b f g)
end_one names draft number left part a b (ends_whole f) (ends_early g) = absurd (cons_clash left (codes "end") [] f.left_is g.left_is)
end_one names draft number left part a b (ends_behind f) (ends_in_line g) = absurd (last_clash names draft number left f.later b g f.left_is f.whole)
end_one names draft number left part a b (ends_behind f) (ends_whole g) = absurd (more_clash draft number left part b a g f)
end_one names draft number left part a b (ends_behind f) (ends_behind g) = f.end_is ∙ sym g.end_is
end_one names draft number left part a b (ends_behind f) (ends_early g) = absurd (cons_clash left (codes "end") f.later f.left_is g.left_is)
end_one names draft number left part a b (ends_early f) (ends_in_line g) = absurd (cons_clash left g.line g.later g.left_is f.left_is)
end_one names draft number left part a b (ends_early f) (ends_whole g) = absurd (cons_clash left (codes "end") [] g.left_is f.left_is)
end_one names draft number left part a b (ends_early f) (ends_behind g) = absurd (cons_clash left (codes "end") g.later g.left_is f.left_is)
end_one names draft number left part a b (ends_early f) (ends_early g) = f.end_is ∙ sym g.end_is

-- one more right line stands there
record GoesFurther (names : List (List ℕ)) (draft : Draft) (left : List (List ℕ)) : Type 0 where
  line : List ℕ
  later : List (List ℕ)
  left_is : left ≡ line ∷ later
  form : LineForm
  formed : IsWellFormed form
  spelled : spell form ≡ line
  next : Draft
  adds : Adds names draft form next

-- a text ends before no right line
further_clash : (names : List (List ℕ)) (draft : Draft) (number : ℕ) (left : List (List ℕ)) (part : List ℕ) (end : Result Certificate CertError)
    → Ends names draft number left part end → GoesFurther names draft left → ⊥
further_clash names draft number left part end (ends_in_line f) g =
    let s = same_cons f.line g.line f.later g.later (sym f.left_is ∙ g.left_is) in
    adds_clash names draft g.next f.line g.form number f.fault g.formed (g.spelled ∙ sym s.0) g.adds f.told f.fault_is
further_clash names draft number left part end (ends_whole f) g =
    no_end g.form (g.spelled ∙ sym (same_cons (codes "end") g.line [] g.later (sym f.left_is ∙ g.left_is)).0)
further_clash names draft number left part end (ends_behind f) g =
    no_end g.form (g.spelled ∙ sym (same_cons (codes "end") g.line f.later g.later (sym f.left_is ∙ g.left_is)).0)
further_clash names draft number left part end (ends_early f) g = cons_clash left g.line g.later g.left_is f.left_is

-- two readings of one text: they end at one place, or one goes further
compare : (names : List (List ℕ)) (xs ys : List LineForm) (draft a b : Draft) (left right : List (List ℕ)) → Each IsWellFormed xs → Each IsWellFormed ys
    → map spell xs ++ left ≡ map spell ys ++ right → AddAll names draft xs a → AddAll names draft ys b
    → ((left ≡ right) × (a ≡ b) × (length xs ≡ length ys)) ⊎ (GoesFurther names a left ⊎ GoesFurther names b right)
compare names [] [] draft a b left right hx hy e f g = inl (e, f ∙ sym g, refl)
compare names [] (y ∷ ys) draft a b left right hx hy e f g = inr (inl (record {
  line = spell y;
  later = map spell ys ++ right;
  left_is = e;
  form = y;
  formed = hy.0;
  spelled = refl;
  next = g.0;
  adds = subst (λ (d : Draft). Adds names d y g.0) (sym f) g.1;
}))
compare names (x ∷ xs) [] draft a b left right hx hy e f g = inr (inr (record {
  line = spell x;
  later = map spell xs ++ left;
  left_is = sym e;
  form = x;
  formed = hx.0;
  spelled = refl;
  next = f.0;
  adds = subst (λ (d : Draft). Adds names d x f.0) (sym g) f.1;
}))
compare names (x ∷ xs) (y ∷ ys) draft a b left right hx hy e f g =
    let s = same_cons (spell x) (spell y) (map spell xs ++ left) (map spell ys ++ right) e in
    let one : x ≡ y = spell_one x y hx.0 hy.0 s.0 in
    let next : f.0 ≡ g.0 =
    extends_one names draft y f.0 g.0 (subst (λ (t : LineForm). Adds names draft t f.0) one f.1).extends g.1.extends in
    longer (compare names xs ys g.0 a b left right hx.1 hy.1 s.1 (subst (λ (d : Draft). AddAll names d xs a) next f.2) g.2)
  where
    longer : ((left ≡ right) × (a ≡ b) × (length xs ≡ length ys)) ⊎ (GoesFurther names a left ⊎ GoesFurther names b right)
        → ((left ≡ right) × (a ≡ b) × (length (x ∷ xs) ≡ length (y ∷ ys))) ⊎ (GoesFurther names a left ⊎ GoesFurther names b right)
    longer (inl h) = inl (h.0, h.1, ap suc h.2)
    longer (inr h) = inr h

-- a place that right lines lead to, and where the text ends
record Stop (names : List (List ℕ)) (bytes : List ℕ) (end : Result Certificate CertError) : Type 0 where
  draft : Draft
  number : ℕ
  left : List (List ℕ)
  part : List ℕ
  read : IsReadTo names bytes draft number left part
  ends : Ends names draft number left part end

stop_one : (names : List (List ℕ)) (bytes : List ℕ) (a b : Result Certificate CertError) → Stop names bytes a → Stop names bytes b → a ≡ b
stop_one names bytes a b f g =
    let e = sym f.read.text ∙ g.read.text in
    let lines = (same_cons (codes "arbac certificate 1") (codes "arbac certificate 1") (map spell f.read.lines ++ f.left)
    (map spell g.read.lines ++ g.left) (ap (λ (p : List (List ℕ) × List ℕ). p.0) e)).1 in
    by_case (ap (λ (p : List (List ℕ) × List ℕ). p.1) e)
    (compare names f.read.lines g.read.lines nothing f.draft g.draft f.left g.left f.read.formed g.read.formed lines f.read.added g.read.added)
  where
    by_case : f.part ≡ g.part → ((f.left ≡ g.left) × (f.draft ≡ g.draft) × (length f.read.lines ≡ length g.read.lines))
        ⊎ (GoesFurther names f.draft f.left ⊎ GoesFurther names g.draft g.left) → a ≡ b
    by_case p (inl h) =
        let number : f.number ≡ g.number = f.read.number_is ∙ ap (λ (n : ℕ). 2 + n) h.2 ∙ sym g.read.number_is in
        let D : Draft → Type 0 = λ d. Ends names d f.number f.left f.part a in
        let L : List (List ℕ) → Type 0 = λ l. Ends names g.draft f.number l f.part a in
        let N : ℕ → Type 0 = λ n. Ends names g.draft n g.left f.part a in
        let P : List ℕ → Type 0 = λ p. Ends names g.draft g.number g.left p a in
        end_one names g.draft g.number g.left g.part a b (subst P p (subst N number (subst L h.0 (subst D h.1 f.ends)))) g.ends
    by_case p (inr (inl h)) = absurd (further_clash names f.draft f.number f.left f.part a f.ends h)
    by_case p (inr (inr h)) = absurd (further_clash names g.draft g.number g.left g.part b g.ends h)

-- before its first line, at it, or behind it
data Start (names : List (List ℕ)) (bytes : List ℕ) (end : Result Certificate CertError) : Type 0 where
  no_line : (split bytes).0 ≡ [] → end ≡ Err Unended → Start names bytes end
  ahead : (at : ℕ) → IsFaultAhead bytes at → end ≡ Err (BadLine at) → Start names bytes end
  stop : Stop names bytes end → Start names bytes end

start_whole : (names : List (List ℕ)) (bytes : List ℕ) (cert : Certificate) → StandsFor names bytes cert → Start names bytes (Ok cert)
start_whole names bytes cert h = stop (record {
  draft = h.draft;
  number = h.number;
  left = codes "end" ∷ [];
  part = [];
  read = h.read;
  ends = ends_whole (record { left_is = refl; part_is = refl; cert = cert; whole = h.whole; end_is = refl });
})

start_inside : (names : List (List ℕ)) (bytes : List ℕ) (fault : CertError) → IsFaultInside names bytes fault → (fault ≡ Memory → ⊥)
    → Start names bytes (Err fault)
start_inside names bytes fault f m = stop (record {
  draft = f.draft;
  number = f.number;
  left = f.line ∷ f.later;
  part = f.part;
  read = f.read;
  ends = ends_in_line (record {
    line = f.line;
    later = f.later;
    left_is = refl;
    fault = fault;
    fault_is = f.fault_is;
    told = m;
    end_is = refl;
  });
})

start_fault : (names : List (List ℕ)) (bytes : List ℕ) (fault : CertError) → IsFirstFault names bytes fault → Start names bytes (Err fault)
start_fault names bytes (BadLine at) (inl f) = ahead at f refl
start_fault names bytes (BadLine at) (inr (inl f)) = start_inside names bytes (BadLine at) f (λ e. absurd (cc))
start_fault names bytes (BadLine at) (inr (inr f)) = stop (record {
  draft = f.draft;
  number = f.number;
  left = codes "end" ∷ f.later;
  part = f.part;
  read = f.read;
  ends = ends_behind (record {
    later = f.later;
    left_is = refl;
    whole = f.whole;
    more = f.more;
    end_is = ap (λ (n : ℕ). Err (BadLine n)) f.number_is;
  });
})
start_fault names bytes (UnknownRole at) f = start_inside names bytes (UnknownRole at) f (λ e. absurd (cc))
start_fault names bytes Unended (inl e) = no_line e refl
start_fault names bytes Unended (inr f) = stop (record {
  draft = f.draft;
  number = f.number;
  left = [];
  part = f.part;
  read = f.read;
  ends = ends_early (record { left_is = refl; end_is = refl });
})
start_fault names bytes Memory f = absurd f

ahead_stop : (names : List (List ℕ)) (bytes : List ℕ) (at : ℕ) (end : Result Certificate CertError) → IsFaultAhead bytes at → Stop names bytes end → ⊥
ahead_stop names bytes at end f g =
    f.other (same_cons f.line (codes "arbac certificate 1") f.later (map spell g.read.lines ++ g.left)
    (ap (λ (p : List (List ℕ) × List ℕ). p.0) (sym f.text ∙ g.read.text))).0

none_stop : (names : List (List ℕ)) (bytes : List ℕ) (end : Result Certificate CertError) → (split bytes).0 ≡ [] → Stop names bytes end → ⊥
none_stop names bytes end e g =
    cons_clash (split bytes).0 (codes "arbac certificate 1") (map spell g.read.lines ++ g.left)
    (ap (λ (s : List (List ℕ) × List ℕ). s.0) g.read.text) e

none_ahead : (bytes : List ℕ) (at : ℕ) → (split bytes).0 ≡ [] → IsFaultAhead bytes at → ⊥
none_ahead bytes at e f = cons_clash (split bytes).0 f.line f.later (ap (λ (s : List (List ℕ) × List ℕ). s.0) f.text) e

start_one : (names : List (List ℕ)) (bytes : List ℕ) (a b : Result Certificate CertError) → Start names bytes a → Start names bytes b → a ≡ b
start_one names bytes a b (no_line e f) (no_line g h) = f ∙ sym h
start_one names bytes a b (no_line e f) (ahead at g h) = absurd (none_ahead bytes at e g)
start_one names bytes a b (no_line e f) (stop g) = absurd (none_stop names bytes b e g)
start_one names bytes a b (ahead at f h) (no_line e g) = absurd (none_ahead bytes at e f)
start_one names bytes a b (ahead at f h) (ahead to g k) = h ∙ ap (λ (n : ℕ). Err (BadLine n)) (f.number_is ∙ sym g.number_is) ∙ sym k
start_one names bytes a b (ahead at f h) (stop g) = absurd (ahead_stop names bytes at b f g)
start_one names bytes a b (stop f) (no_line e g) = absurd (none_stop names bytes a e f)
start_one names bytes a b (stop f) (ahead at g h) = absurd (ahead_stop names bytes at a g f)
start_one names bytes a b (stop f) (stop g) = stop_one names bytes a b f g

-- a text stands for one certificate at most
pub one_cert : (names : List (List ℕ)) (bytes : List ℕ) (a b : Certificate) → StandsFor names bytes a → StandsFor names bytes b → a ≡ b
one_cert names bytes a b f g =
    let same = start_one names bytes (Ok a) (Ok b) (start_whole names bytes a f) (start_whole names bytes b g) in cc

-- a text that stands for one has no first fault
pub first_clash : (names : List (List ℕ)) (bytes : List ℕ) (cert : Certificate) (fault : CertError) → StandsFor names bytes cert
    → IsFirstFault names bytes fault → ⊥
first_clash names bytes cert fault f g =
    let same = start_one names bytes (Ok cert) (Err fault) (start_whole names bytes cert f) (start_fault names bytes fault g) in absurd (cc)

-- a text has one first fault at most
pub one_fault : (names : List (List ℕ)) (bytes : List ℕ) (a b : CertError) → IsFirstFault names bytes a → IsFirstFault names bytes b → a ≡ b
one_fault names bytes a b f g =
    let same = start_one names bytes (Err a) (Err b) (start_fault names bytes a f) (start_fault names bytes b g) in cc
