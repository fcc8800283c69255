-- A range between two names is read from its spelling, and from that alone.
use Rattle.std.proofs.Common.{ℕ, ◌≡◌, Bool, true, false, List, [], ◌∷◌, ◌++◌, length, refl, sym, ◌∙◌, ap, subst, Option, Some, None}
use Rattle.std.proofs.Common.{eqb, cond}
use Rattle.std.specs.Prelude.{codes}
use Rattle.std.proofs.lemmas.Bool.{eqb-true}
use Rattle.cond_text.specs.Cuts.{IsName, cut, name_in}
use Rattle.cond_text.specs.Ranges.{NamedRange, IsNamedRange, opening_text, closing_text, spell_range, opening_in, closed_by, or_open, closing_in, range_in}
use Rattle.cond_text.proofs.CutLemmas.{step_of, only_is, Lacks, lacks_append, cut_behind, cut_nowhere, cut_is, nothing_is}
use Rattle.cond_text.proofs.NamedLemmas.{name_lacks, name_found, named}
use Rattle.list_words.proofs.GetLemmas.{same_some}

closed_found : (high : List ℕ) → IsName high → closing_in (high ++ codes "]") ≡ Some (high, false)
unfolding closing_in
closed_found high h = rw (cut_behind 93 high [] (name_lacks 93 high refl h)) refl

open_found : (high : List ℕ) → IsName high → closing_in (high ++ codes ")") ≡ Some (high, true)
unfolding closing_in
open_found high h =
    rw (
      cut_nowhere 93 (high ++ codes ")") (lacks_append 93 high (codes ")") (name_lacks 93 high refl h) (refl, tt)),
      cut_behind 41 high [] (name_lacks 41 high refl h),
    ) refl

end_found : (high : List ℕ) (is_open : Bool) → IsName high → closing_in (high ++ closing_text is_open) ≡ Some (high, is_open)
end_found high true h = open_found high h
end_found high false h = closed_found high h

start_found : (is_open : Bool) (rest : List ℕ) → opening_in (opening_text is_open ++ rest) ≡ Some (is_open, rest)
unfolding opening_in
start_found true rest = refl
start_found false rest = refl

-- the range is read from its spelling
pub range_found : (r : NamedRange) → IsNamedRange r → range_in (spell_range r) ≡ Some r
unfolding range_in
range_found r h =
    rw (
      start_found r.low_open (r.low ++ (codes "," ++ (r.high ++ closing_text r.high_open))),
      cut_behind 44 r.low (r.high ++ closing_text r.high_open) (name_lacks 44 r.low refl h.0),
      name_found r.low h.0,
      end_found r.high r.high_open h.1,
      name_found r.high h.1,
    ) refl

opening_lacks : (is_open : Bool) → Lacks 32 (opening_text is_open)
opening_lacks true = (refl, tt)
opening_lacks false = (refl, tt)

closing_lacks : (is_open : Bool) → Lacks 32 (closing_text is_open)
closing_lacks true = (refl, tt)
closing_lacks false = (refl, tt)

-- a range's spelling has no space
pub range_lacks : (r : NamedRange) → IsNamedRange r → Lacks 32 (spell_range r)
range_lacks r h =
    let back = lacks_append 32 r.high (closing_text r.high_open) (name_lacks 32 r.high refl h.1) (closing_lacks r.high_open) in
    let ends = lacks_append 32 r.low (codes "," ++ (r.high ++ closing_text r.high_open)) (name_lacks 32 r.low refl h.0) (refl, back) in
    lacks_append 32 (opening_text r.low_open) (r.low ++ (codes "," ++ (r.high ++ closing_text r.high_open))) (opening_lacks r.low_open) ends

start_is : (text : List ℕ) (p : Bool × List ℕ) → opening_in text ≡ Some p → opening_text p.0 ++ p.1 ≡ text
unfolding opening_in
start_is [] p e = absurd (cc)
start_is (b ∷ bs) p e = by_square (eqb b 91) refl e
  where
    begun : (is_open : Bool) (sign : ℕ) → opening_text is_open ≡ sign ∷ [] → eqb b sign ≡ true → Some (is_open, bs) ≡ Some p
        → opening_text p.0 ++ p.1 ≡ b ∷ bs
    begun is_open sign text t e =
        let P : Bool × List ℕ → Type 0 = λ q. opening_text q.0 ++ q.1 ≡ b ∷ bs in
        subst P (same_some (is_open, bs) p e) (ap (λ s. s ++ bs) text ∙ ap (λ c. c ∷ bs) (sym (eqb-true b sign t)))

    by_round : (t : Bool) → eqb b 40 ≡ t → cond t (Some (true, bs)) None ≡ Some p → opening_text p.0 ++ p.1 ≡ b ∷ bs
    by_round true t e = begun true 40 refl t e
    by_round false t e = absurd (cc)

    by_square : (t : Bool) → eqb b 91 ≡ t → cond t (Some (false, bs)) (cond (eqb b 40) (Some (true, bs)) None) ≡ Some p
        → opening_text p.0 ++ p.1 ≡ b ∷ bs
    by_square true t e = begun false 91 refl t e
    by_square false t e = by_round (eqb b 40) refl e

closed_is : (is_open : Bool) (sign : ℕ) (text : List ℕ) (p : List ℕ × Bool) → closed_by is_open (cut sign text) ≡ Some p
    → (p.0 ++ (sign ∷ []) ≡ text) × (p.1 ≡ is_open)
closed_is is_open sign text p e = by_cut (cut sign text) refl e
  where
    by_cut : (o : Option (List ℕ × List ℕ)) → cut sign text ≡ o → closed_by is_open o ≡ Some p → (p.0 ++ (sign ∷ []) ≡ text)
        × (p.1 ≡ is_open)
    by_cut None c e = absurd (cc)
    by_cut (Some q) c e =
        let o = only_is (eqb (length q.1) 0) (q.0, is_open) p e in
        let whole : q.0 ++ (sign ∷ []) ≡ text = ap (λ t. q.0 ++ (sign ∷ t)) (sym (nothing_is q.1 o.0)) ∙ cut_is sign text q c in
        let P : List ℕ × Bool → Type 0 = λ r. (r.0 ++ (sign ∷ []) ≡ text) × (r.1 ≡ is_open) in
        subst P o.1 (whole, refl)

end_is : (text : List ℕ) (p : List ℕ × Bool) → closing_in text ≡ Some p → p.0 ++ closing_text p.1 ≡ text
unfolding closing_in
end_is text p e = by_cut (cut 93 text) refl e
  where
    by_cut : (o : Option (List ℕ × List ℕ)) → cut 93 text ≡ o → or_open text o ≡ Some p → p.0 ++ closing_text p.1 ≡ text
    by_cut None c e = let h = closed_is true 41 text p e in ap (λ t. p.0 ++ closing_text t) h.1 ∙ h.0
    by_cut (Some q) c e =
        let h = closed_is false 93 text p (ap (closed_by false) c ∙ e) in
        ap (λ t. p.0 ++ closing_text t) h.1 ∙ h.0

-- what is read as a range is its spelling
pub ranged : (text : List ℕ) (range : NamedRange) → range_in text ≡ Some range → IsNamedRange range × (spell_range range ≡ text)
unfolding range_in
ranged text range e =
    let front = step_of (opening_in text) _ range e in
    let ends = step_of (cut 44 front.0.1) _ range front.2 in
    let low = step_of (name_in ends.0.0) _ range ends.2 in
    let back = step_of (closing_in ends.0.1) _ range low.2 in
    let high = step_of (name_in back.0.0) _ range back.2 in
    let l = named ends.0.0 low.0 low.1 in
    let h = named back.0.0 high.0 high.1 in
    let made : NamedRange = record { low = low.0; high = high.0; low_open = front.0.0; high_open = back.0.1 } in
    let same = same_some made range high.2 in
    let P : NamedRange → Type 0 = λ r. IsNamedRange r × (spell_range r ≡ text) in
    let spelled : spell_range made ≡ text =
    ap (λ t. opening_text front.0.0 ++ (t ++ (codes "," ++ (high.0 ++ closing_text back.0.1)))) l.1
    ∙ ap (λ t. opening_text front.0.0 ++ (ends.0.0 ++ (codes "," ++ (t ++ closing_text back.0.1)))) h.1
    ∙ ap (λ t. opening_text front.0.0 ++ (ends.0.0 ++ (codes "," ++ t))) (end_is ends.0.1 back.0 back.1)
    ∙ ap (λ t. opening_text front.0.0 ++ t) (cut_is 44 front.0.1 ends.0 ends.1)
    ∙ start_is text front.0 front.1 in
    subst P same ((l.0, h.0), spelled)
