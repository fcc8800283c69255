-- Profiles that rise by their sets and count users.
use Rattle.std.proofs.Common.{ℕ, ◌≡◌, ◌<◌, ◌≤◌, ◌+◌, ◌^◌, ◌∙◌, ◌⊎◌, Bool, true, false, cond, List, [], ◌∷◌}
use Rattle.std.proofs.Common.{◌++◌, length, Option, Some, zero, suc, refl, ap, sym, subst, arith, inl, inr, take}
use Rattle.std.specs.Prelude.{slice_get, slice_set, slice_index_or, insert}
use Rattle.std.specs.Str.{bytes_eq}
use Rattle.std.specs.List.Sorted.{IsPartitionedBy, IsPartitionPoint}
use Rattle.std.proofs.lemmas.Bool.{false≢true}
use Rattle.std.proofs.lemmas.Slice.Eq.{bytes_eq-Decides}
use Rattle.list_words.specs.Lists.{Each, Some_of}
use Rattle.role_order.specs.Orders.{set_before}
use Rattle.list_words.proofs.EachLemmas.{each_at, each_weaker}
use Rattle.list_words.proofs.GetLemmas.{get_at, take_one_more}
use Rattle.role_order.proofs.OrderLemmas.{set_order}
use Rattle.list_words.proofs.TestLemmas.{not_false}
use Rattle.arbac_policy.specs.declared.profile.Profile.{Profile}
use Rattle.profile_set.specs.Groups.{holders, RiseBySet, IsGroup}
use Rattle.profile_set.specs.Tallies.{number_of, tally, IsCounted, HasRoom, IsTally, with_one, first_of, with_member}

each_both : {A : Type 0} (P Q R : A → Type 0) → ((x : A) → P x → Q x → R x) → (xs : List A) → Each P xs → Each Q xs → Each R xs
each_both P Q R f [] p q = tt
each_both P Q R f (x ∷ xs) p q = (f x p.0 q.0, each_both P Q R f xs p.1 q.1)

-- the place of a set

-- the profiles whose sets are before a set come first
pub parted : (set : List ℕ) (ps : List Profile) → RiseBySet ps → IsPartitionedBy (λ p. set_before p.set set) ps
parted set [] r i j d le less h = absurd (omega arith)
parted set (p ∷ ps) r zero zero d le less h = h
parted set (p ∷ ps) r zero (suc j) d le less h =
    set_order.through p.set (slice_index_or ps j d).set set
    (each_at (λ q. set_before p.set q.set ≡ true) ps j (slice_index_or ps j d) r.0 (get_at ps j d (omega arith))) h
parted set (p ∷ ps) r (suc i) zero d le less h = absurd (omega arith)
parted set (p ∷ ps) r (suc i) (suc j) d le less h = parted set ps r.1 i j d (omega arith) (omega arith) h

-- the place before which all sets are before a set, and from which on none is
abbrev pub IsParting : List ℕ → List Profile → ℕ → Type 0
IsParting set ps at = IsPartitionPoint (λ p. set_before p.set set ≡ true) (λ p. set_before p.set set ≡ false) ps at

rest : (set : List ℕ) (p : Profile) (ps : List Profile) (at : ℕ) → IsParting set (p ∷ ps) (suc at) → IsParting set ps at
rest set p ps at point = (λ k d less within. point.0 (suc k) d (omega arith) (omega arith), λ k d less within. point.1 (suc k) d (omega arith) (omega arith))

pub add_new : (set : List ℕ) (ps : List Profile) (at : ℕ) → at ≤ length ps → IsParting set ps at
    → ((p : Profile) → slice_get ps at ≡ Some p → set_before set p.set ≡ true) → insert ps at (first_of set) ≡ with_member ps set
add_new set [] zero le point after = refl
add_new set [] (suc at) le point after = absurd (omega arith)
add_new set (p ∷ ps) zero le point after = rw (point.1 0 p (omega arith) (omega arith), after p refl) refl
add_new set (p ∷ ps) (suc at) le point after =
    rw (point.0 0 p (omega arith) (omega arith)) (ap (λ (t : List Profile). p ∷ t) (add_new set ps at (omega arith) (rest set p ps at point) after))

pub add_here : (set : List ℕ) (ps : List Profile) (at : ℕ) (p : Profile) → IsParting set ps at
    → slice_get ps at ≡ Some p → set_before set p.set ≡ false → slice_set ps at (with_one p) ≡ with_member ps set
add_here set [] at p point e after = cc
add_here set (q ∷ qs) zero p point e after = let same : q ≡ p = cc in rw (same, rw same at point.1 0 q (omega arith) (omega arith), after) refl
add_here set (q ∷ qs) (suc at) p point e after =
    rw (point.0 0 q (omega arith) (omega arith)) (ap (λ (t : List Profile). q ∷ t) (add_here set qs at p (rest set q qs at point) e after))

-- one user more

keep : (x set : List ℕ) (ps : List Profile) → Each (λ q. set_before x q.set ≡ true) ps → set_before x set ≡ true
    → Each (λ q. set_before x q.set ≡ true) (with_member ps set)
keep x set [] h b = (b, tt)
keep x set (p ∷ ps) h b = go (set_before p.set set) (set_before set p.set) (keep x set ps h.1 b)
  where
    go : (s t : Bool) → Each (λ q. set_before x q.set ≡ true) (with_member ps set)
        → Each (λ q. set_before x q.set ≡ true) (cond s (p ∷ with_member ps set) (cond t (first_of set ∷ p ∷ ps) (with_one p ∷ ps)))
    go true t more = (h.0, more)
    go false true more = (b, h)
    go false false more = h

rise_with : (set : List ℕ) (ps : List Profile) → RiseBySet ps → RiseBySet (with_member ps set)
rise_with set [] h = (tt, tt)
rise_with set (p ∷ ps) h = go (set_before p.set set) (set_before set p.set) refl refl (rise_with set ps h.1)
  where
    go : (s t : Bool) → set_before p.set set ≡ s → set_before set p.set ≡ t → RiseBySet (with_member ps set)
        → RiseBySet (cond s (p ∷ with_member ps set) (cond t (first_of set ∷ p ∷ ps) (with_one p ∷ ps)))
    go true t e f more = (keep p.set set ps h.0 e, more)
    go false true e f more = (
      (
        f,
        each_weaker (λ q. set_before p.set q.set ≡ true) (λ q. set_before set q.set ≡ true)
            (λ q b. set_order.through set p.set q.set f b) ps h.0,
      ),
      h,
    )
    go false false e f more = h

counted_with : (set : List ℕ) (ps : List Profile) → Each IsCounted ps → Each IsCounted (with_member ps set)
counted_with set [] h = ((1, refl, omega arith), tt)
counted_with set (p ∷ ps) h = go (set_before p.set set) (set_before set p.set) (counted_with set ps h.1)
  where
    go : (s t : Bool) → Each IsCounted (with_member ps set)
        → Each IsCounted (cond s (p ∷ with_member ps set) (cond t (first_of set ∷ p ∷ ps) (with_one p ∷ ps)))
    go true t more = (h.0, more)
    go false true more = ((1, refl, omega arith), h)
    go false false more = ((number_of p.most + 1, refl, omega arith), h.1)

same_set : (a b : List ℕ) → set_before a b ≡ false → set_before b a ≡ false → a ≡ b
same_set a b h k = elim (set_order.total a b) [
  | inl x ↦ absurd (false≢true (sym h ∙ x))
  | inr y ↦
      elim y [ inl e ↦ e | inr x ↦ absurd (false≢true (sym k ∙ x)) ]
]

tally_with : (x set : List ℕ) (ps : List Profile) → tally x (with_member ps set) ≡ tally x ps + cond (bytes_eq set x) 1 0
tally_with x set [] = omega arith
tally_with x set (p ∷ ps) = go (set_before p.set set) (set_before set p.set) refl refl (tally_with x set ps)
  where
    raised : (t : Bool) (n more : ℕ) → cond t (n + 1) 0 + more ≡ cond t n 0 + more + cond t 1 0
    raised true n more = omega arith
    raised false n more = omega arith

    go : (s t : Bool) → set_before p.set set ≡ s → set_before set p.set ≡ t → tally x (with_member ps set) ≡ tally x ps + cond (bytes_eq set x) 1 0
        → tally x (cond s (p ∷ with_member ps set) (cond t (first_of set ∷ p ∷ ps) (with_one p ∷ ps))) ≡ tally x (p ∷ ps) + cond
        (bytes_eq set x) 1 0
    go true t e f more = omega (arith, more)
    go false true e f more = omega arith
    go false false e f more =
        let same = same_set p.set set e f in
        subst (λ (s : List ℕ). cond (bytes_eq p.set x) (number_of p.most + 1) 0 + tally x ps ≡ cond (bytes_eq p.set x)
        (number_of p.most) 0 + tally x ps + cond
        (bytes_eq s x) 1 0) same (raised (bytes_eq p.set x) (number_of p.most) (tally x ps))

holders_last : (x m : List ℕ) (ms : List (List ℕ)) → holders x (ms ++ m ∷ []) ≡ holders x ms + cond (bytes_eq m x) 1 0
holders_last x m [] = omega arith
holders_last x m (n ∷ ns) = let more = holders_last x m ns in omega (arith, more)

pub tally_more : (members : List (List ℕ)) (i : ℕ) (set : List ℕ) (ps : List Profile) → slice_get members i ≡ Some set → IsTally (take i members) ps
    → IsTally (take (i + 1) members) (with_member ps set)
tally_more members i set ps e h = record {
  rise = rise_with set ps h.rise;
  counted = counted_with set ps h.counted;
  tallies = λ x. tally_with x set ps ∙ ap (λ n. n + cond (bytes_eq set x) 1 0) (h.tallies x)
      ∙ sym (ap (holders x) (take_one_more members i set e) ∙ holders_last x set (take i members));
}

-- room for one more

few_holders : (x : List ℕ) (ms : List (List ℕ)) → holders x ms ≤ length ms
few_holders x [] = omega arith
few_holders x (m ∷ ms) = go (bytes_eq m x) (few_holders x ms)
  where
    go : (t : Bool) → holders x ms ≤ length ms → cond t 1 0 + holders x ms ≤ length (m ∷ ms)
    go true h = omega (arith, h)
    go false h = omega (arith, h)

tally_head : (p : Profile) (ps : List Profile) → tally p.set (p ∷ ps) ≡ number_of p.most + tally p.set ps
tally_head p ps = rw ((bytes_eq-Decides p.set p.set).1 refl) refl

room_by : (ps : List Profile) → ((x : List ℕ) → tally x ps + 1 < 2 ^ 32) → Each HasRoom ps
room_by [] h = tt
room_by (p ∷ ps) h =
    let here = h p.set in
    let head = tally_head p ps in
    (omega (arith, here, head), room_by ps (λ x. let all = h x in omega (arith, all)))

pub room : (members : List (List ℕ)) (ps : List Profile) → IsTally members ps → length members + 1 < 2 ^ 32 → Each HasRoom ps
room members ps h few = room_by ps (λ x. let same = h.tallies x in let most = few_holders x members in omega (arith, same, most, few))

-- tallies and groups

none_after : (x : List ℕ) (ps : List Profile) → Each (λ q. set_before x q.set ≡ true) ps → tally x ps ≡ 0
none_after x [] h = refl
none_after x (p ∷ ps) h = let more = none_after x ps h.1 in
    rw (not_false (bytes_eq p.set x) (λ e. set_order.never x (subst (λ (s : List ℕ). set_before x s ≡ true) ((bytes_eq-Decides p.set x).0 e) h.0)))
    (omega (arith, more))

other_set : (p q : Profile) (ps : List Profile) → set_before p.set q.set ≡ true → tally q.set (p ∷ ps) ≡ tally q.set ps
other_set p q ps b = rw (not_false (bytes_eq p.set q.set)
    (λ e. set_order.never p.set (subst (λ (s : List ℕ). set_before p.set s ≡ true) (sym ((bytes_eq-Decides p.set q.set).0 e)) b))) (omega arith)

-- the profile counts as many users as the profiles say of its set
abbrev pub IsTold : List Profile → Profile → Type 0
IsTold ps p = (p.most ≡ Some (tally p.set ps)) × (1 ≤ tally p.set ps)

told_each : (ps : List Profile) → RiseBySet ps → Each IsCounted ps → Each (IsTold ps) ps
told_each [] r h = tt
told_each (p ∷ ps) r h =
    let (count, is, some) = h.0 in
    let zero = none_after p.set ps r.0 in
    let here : tally p.set (p ∷ ps) ≡ count = tally_head p ps ∙ rw (zero, is) (omega arith) in (
      (rw here is, rw here some),
      each_both (λ q. set_before p.set q.set ≡ true) (IsTold ps) (IsTold (p ∷ ps)) (λ q b t. rw (other_set p q ps b) t) ps r.0 (told_each ps r.1 h.1),
    )

each_held : (members : List (List ℕ)) → Each (λ set. 1 ≤ holders set members) members
each_held [] = tt
each_held (m ∷ ms) = (
  rw ((bytes_eq-Decides m m).1 refl) (omega arith),
  each_weaker (λ set. 1 ≤ holders set ms) (λ set. 1 ≤ holders set (m ∷ ms))
      (λ set h. omega (arith, h)) ms (each_held ms),
)

tally_some : (x : List ℕ) (ps : List Profile) → 1 ≤ tally x ps → Some_of (λ p. p.set ≡ x) ps
tally_some x [] h = absurd (omega arith)
tally_some x (p ∷ ps) h = go (bytes_eq p.set x) refl h (tally_some x ps)
  where
    go : (t : Bool) → bytes_eq p.set x ≡ t → 1 ≤ cond t (number_of p.most) 0 + tally x ps → (1 ≤ tally x ps → Some_of (λ p. p.set ≡ x) ps)
        → Some_of (λ p. p.set ≡ x) (p ∷ ps)
    go true e h more = inl ((bytes_eq-Decides p.set x).0 e)
    go false e h more = inr (more (omega (arith, h)))

pub group_of : (members : List (List ℕ)) (ps : List Profile) → IsTally members ps → IsGroup members ps
group_of members ps h = record {
  rise = h.rise;
  counts = each_weaker (IsTold ps) (λ p. (p.most ≡ Some (holders p.set members)) × (1 ≤ holders p.set members)) (λ p t. rw (h.tallies p.set) at t) ps
      (told_each ps h.rise h.counted);
  all = each_weaker (λ set. 1 ≤ holders set members) (λ set. Some_of (λ p. p.set ≡ set) ps)
      (λ set k. tally_some set ps (let same = h.tallies set in omega (arith, same, k))) members (each_held members);
}

-- one group

no_holder : (x : List ℕ) (ps : List Profile) (members : List (List ℕ)) → Each (λ set. Some_of (λ p. p.set ≡ set) ps) members
    → (Some_of (λ p. p.set ≡ x) ps → ⊥)
    → holders x members ≡ 0
no_holder x ps [] all none = refl
no_holder x ps (m ∷ ms) all none =
    let more = no_holder x ps ms all.1 none in
    rw (not_false (bytes_eq m x) (λ e. none (subst (λ (s : List ℕ). Some_of (λ p. p.set ≡ s) ps) ((bytes_eq-Decides m x).0 e) all.0)))
    (omega (arith, more))

told_or_none : (h : List ℕ → ℕ) (ps : List Profile) → RiseBySet ps → Each (λ p. (p.most ≡ Some (h p.set)) × (1 ≤ h p.set)) ps → (x : List ℕ)
    → (tally x ps ≡ h x) ⊎ ((tally x ps ≡ 0) × (Some_of (λ p. p.set ≡ x) ps → ⊥))
told_or_none h [] r k x = inr (refl, λ e. e)
told_or_none h (p ∷ ps) r k x = go (bytes_eq p.set x) refl (told_or_none h ps r.1 k.1 x)
  where
    go : (t : Bool) → bytes_eq p.set x ≡ t → (tally x ps ≡ h x) ⊎ ((tally x ps ≡ 0) × (Some_of (λ p. p.set ≡ x) ps → ⊥))
        → (cond t (number_of p.most) 0 + tally x ps ≡ h x)
        ⊎ ((cond t (number_of p.most) 0 + tally x ps ≡ 0) × (Some_of (λ p. p.set ≡ x) (p ∷ ps) → ⊥))
    go true e more =
        let same = (bytes_eq-Decides p.set x).0 e in
        let none = none_after p.set ps r.0 in
        let number : number_of p.most ≡ h p.set = ap number_of k.0.0 in
        inl (subst (λ (s : List ℕ). number_of p.most + tally s ps ≡ h s) same (omega (arith, none, number)))
    go false e (inl t) = inl (omega (arith, t))
    go false e (inr n) = let zero = n.0 in
        inr (omega (arith, zero), λ some. elim some [ inl same ↦ false≢true (sym e ∙ (bytes_eq-Decides p.set x).1 same) | inr later ↦ n.1 later ])

tally_of : (members : List (List ℕ)) (ps : List Profile) → IsGroup members ps → IsTally members ps
tally_of members ps g = record {
  rise = g.rise;
  counted = each_weaker (λ p. (p.most ≡ Some (holders p.set members)) × (1 ≤ holders p.set members)) IsCounted
      (λ p c. (holders p.set members, c.0, c.1)) ps g.counts;
  tallies = λ x. elim (told_or_none (λ s. holders s members) ps g.rise g.counts x) [ inl t ↦ t | inr n ↦ n.0 ∙ sym (no_holder x ps members g.all n.1) ];
}

profile_same : (p q : Profile) → p.set ≡ q.set → p.most ≡ q.most → p ≡ q
profile_same p q set most =
    ap (λ (s : List ℕ). let r : Profile = record { set = s; most = p.most } in r) set
    ∙ ap (λ (m : Option ℕ). let r : Profile = record { set = q.set; most = m } in r) most

-- a rising list says more of its first set than one that begins behind it
ahead : (p q : Profile) (ps qs : List Profile) → Each (λ r. set_before q.set r.set ≡ true) qs → IsCounted p → set_before p.set q.set ≡ true
    → tally p.set (p ∷ ps) ≡ tally p.set (q ∷ qs) → ⊥
ahead p q ps qs r c b same =
    let (count, is, some) = c in
    let head = tally_head p ps in
    let number : number_of p.most ≡ count = ap number_of is in
    let none = none_after p.set (q ∷ qs)
    (b, each_weaker (λ r. set_before q.set r.set ≡ true) (λ r. set_before p.set r.set ≡ true) (λ r k. set_order.through p.set q.set r.set b k) qs r) in
    omega (arith, head, number, some, none, same)

tallies_one : (a b : List Profile) → RiseBySet a → RiseBySet b → Each IsCounted a → Each IsCounted b → ((x : List ℕ) → tally x a ≡ tally x b)
    → a ≡ b
tallies_one [] [] r s c d same = refl
tallies_one [] (q ∷ qs) r s c d same =
    let (count, is, some) = d.0 in let head = tally_head q qs in let number : number_of q.most ≡ count = ap number_of is in let e = same q.set in
    absurd (omega (arith, head, number, some, e))
tallies_one (p ∷ ps) [] r s c d same =
    let (count, is, some) = c.0 in let head = tally_head p ps in let number : number_of p.most ≡ count = ap number_of is in let e = same p.set in
    absurd (omega (arith, head, number, some, e))
tallies_one (p ∷ ps) (q ∷ qs) r s c d same = go (set_order.total p.set q.set) (tallies_one ps qs r.1 s.1 c.1 d.1)
  where
    go : (set_before p.set q.set ≡ true) ⊎ ((p.set ≡ q.set) ⊎ (set_before q.set p.set ≡ true))
        → (((x : List ℕ) → tally x ps ≡ tally x qs) → ps ≡ qs)
        → p ∷ ps ≡ q ∷ qs
    go (inl b) more = absurd (ahead p q ps qs s.0 c.0 b (same p.set))
    go (inr (inr b)) more = absurd (ahead q p qs ps r.0 d.0 b (sym (same q.set)))
    go (inr (inl e)) more =
        let (count, is, some) = c.0 in
        let (other, also, any) = d.0 in
        let left : tally p.set (p ∷ ps) ≡ count = tally_head p ps ∙ rw (none_after p.set ps r.0, is) (omega arith) in
        let right : tally q.set (q ∷ qs) ≡ other = tally_head q qs ∙ rw (none_after q.set qs s.0, also) (omega arith) in
        let counts : count ≡ other = sym left ∙ same p.set ∙ subst (λ (x : List ℕ). tally x (q ∷ qs) ≡ other) (sym e) right in
        let heads : p ≡ q = profile_same p q e (is ∙ ap Some counts ∙ sym also) in
        let tails : ps ≡ qs = more
        (λ x. let all = same x in let with : tally x (p ∷ ps) ≡ tally x (q ∷ ps) = ap (λ (r : Profile). tally x (r ∷ ps)) heads in
        omega (arith, all, with)) in
        ap (λ (r : Profile). r ∷ ps) heads ∙ ap (λ (t : List Profile). q ∷ t) tails

-- members have one group
pub one_group : (members : List (List ℕ)) (left right : List Profile) → IsGroup members left → IsGroup members right → left ≡ right
one_group members left right g h =
    let a = tally_of members left g in
    let b = tally_of members right h in
    tallies_one left right a.rise b.rise a.counted b.counted (λ x. a.tallies x ∙ sym (b.tallies x))
