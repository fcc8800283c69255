-- Beating is a strict order on normal forms, so what is beaten is beaten by one that is unbeaten.
use Rattle.std.proofs.Common.{ℕ, ◌≡◌, ◌<◌, List, None, Some, Option, length, refl, arith, zero, suc, sym, ◌∙◌, ap, subst, inl, inr}
use Rattle.std.specs.Prelude.{◌⊎◌, slice_get}
use Rattle.list_words.specs.Lists.{Each, Some_of}
use Rattle.list_words.specs.Orders.{IsStrictOrder}
use Rattle.list_words.proofs.GetLemmas.{get_below, get_there, same_some}
use Rattle.list_words.proofs.NumberLemmas.{compare}
use Rattle.list_words.proofs.EachLemmas.{each_at, each_weaker, same_one_of, some_weaker}
use Rattle.list_words.proofs.EmbedLemmas.{embeds_itself}
use Rattle.list_words.proofs.OrderLemmas.{AreIn, rising_same}
use Rattle.arbac_laws.specs.Needs.{Covers, CoversNeed, IsCovered, Need}
use Rattle.arbac_laws.specs.NormalForms.{IsNormal}
use Rattle.arbac_laws.specs.Recorded.{Entry}
use Rattle.arbac_laws.proofs.CoverLemmas.{covers_itself, covers_transitive}
use Rattle.arbac_laws.proofs.OrderLemmas.{requirement_order}
use Rattle.arbac_laws.proofs.SameLemmas.{same_needs}
use Rattle.search_laws.specs.Beats.{ArePart, AreUnbeaten, Beats, IsUnbeaten, MayLeaveOut, entry_before}
use Rattle.search_laws.proofs.DecideLemmas.{Decided, covers_decided, same_decided}

-- entries in normal form
abbrev pub AreNormal : List Entry → Type 0
AreNormal entries = Each (λ (entry : Entry). IsNormal entry.needs) entries

-- what covers a covered requirement covers it too, so that a list that covers the one covers the other
pub covered_through : (list : List (List Need)) (a b : List Need) → Covers a b → IsCovered list a → IsCovered list b
covered_through list a b covers covered = some_weaker (λ one. Covers one a) (λ one. Covers one b) (λ one c. covers_transitive one a b c covers) list covered

-- no candidate beats itself
pub never_beats : (candidates : List Entry) (i : ℕ) → Beats candidates i i → ⊥
never_beats candidates i b = by_case b.apart
  where
    same : b.by ≡ b.beaten
    same = same_some b.by b.beaten (sym b.by_is ∙ b.beaten_is)

    by_case : ¬ (b.by.needs ≡ b.beaten.needs) ⊎ (i < i) → ⊥
    by_case (inl n) = n (ap (λ (entry : Entry). entry.needs) same)
    by_case (inr l) = omega (arith, l)

-- beating goes through, on normal forms
pub beats_through : (candidates : List Entry) → AreNormal candidates → (i j k : ℕ) → Beats candidates i j → Beats candidates j k
    → Beats candidates i k
beats_through candidates normal i j k first second = record {
  by = first.by;
  by_is = first.by_is;
  beaten = second.beaten;
  beaten_is = second.beaten_is;
  covers = covers_transitive first.by.needs first.beaten.needs second.beaten.needs first.covers onward;
  apart = by_same (same_decided first.by.needs second.beaten.needs);
}
  where
    mid : second.by ≡ first.beaten
    mid = same_some second.by first.beaten (sym second.by_is ∙ first.beaten_is)

    onward : Covers first.beaten.needs second.beaten.needs
    onward = subst (λ (entry : Entry). Covers entry.needs second.beaten.needs) mid second.covers

    further : ¬ (first.beaten.needs ≡ second.beaten.needs) ⊎ (j < k)
    further = subst (λ (entry : Entry). ¬ (entry.needs ≡ second.beaten.needs) ⊎ (j < k)) mid second.apart

    -- where the ends are one requirement, all three cover each other, so that they are one, and the places rise
    by_same : Decided (first.by.needs ≡ second.beaten.needs) → ¬ (first.by.needs ≡ second.beaten.needs) ⊎ (i < k)
    by_same (inr n) = inl n
    by_same (inl e) = inr (by_places first.apart further)
      where
        one : first.by.needs ≡ first.beaten.needs
        one = same_needs first.by.needs first.beaten.needs
            (each_at (λ (entry : Entry). IsNormal entry.needs) candidates i first.by normal first.by_is)
            (each_at (λ (entry : Entry). IsNormal entry.needs) candidates j first.beaten normal first.beaten_is)
            first.covers (subst (Covers first.beaten.needs) (sym e) onward)

        by_places : ¬ (first.by.needs ≡ first.beaten.needs) ⊎ (i < j) → ¬ (first.beaten.needs ≡ second.beaten.needs) ⊎ (j < k) → i < k
        by_places (inl n) other = absurd (n one)
        by_places (inr l) (inl n) = absurd (n (sym one ∙ e))
        by_places (inr l) (inr m) = omega (arith, l, m)

-- one candidate beats the other, or it doesn't
pub beats_decided : (candidates : List Entry) (i j : ℕ) → Decided (Beats candidates i j)
beats_decided candidates i j = by_items (slice_get candidates i) refl (slice_get candidates j) refl
  where
    apart_decided : (a b : List Need) → Decided (a ≡ b) → (i < j) ⊎ ((i ≡ j) ⊎ (j < i)) → Decided (¬ (a ≡ b) ⊎ (i < j))
    apart_decided a b (inr n) order = inl (inl n)
    apart_decided a b (inl e) (inl l) = inl (inr l)
    apart_decided a b (inl e) (inr (inl same)) = inr (λ h. neither h)
      where
        neither : ¬ (a ≡ b) ⊎ (i < j) → ⊥
        neither (inl n) = n e
        neither (inr l) = omega (arith, same, l)
    apart_decided a b (inl e) (inr (inr more)) = inr (λ h. neither h)
      where
        neither : ¬ (a ≡ b) ⊎ (i < j) → ⊥
        neither (inl n) = n e
        neither (inr l) = omega (arith, more, l)

    by_parts : (x y : Entry) → slice_get candidates i ≡ Some x → slice_get candidates j ≡ Some y → Decided (Covers x.needs y.needs)
        → Decided (¬ (x.needs ≡ y.needs) ⊎ (i < j))
        → Decided (Beats candidates i j)
    by_parts x y at there (inl c) (inl a) = inl (record { by = x; by_is = at; beaten = y; beaten_is = there; covers = c; apart = a })
    by_parts x y at there (inl c) (inr n) = inr (λ b.
        let e : b.by ≡ x = same_some b.by x (sym b.by_is ∙ at) in let f : b.beaten ≡ y = same_some b.beaten y (sym b.beaten_is ∙ there) in
        n (subst (λ (v : Entry). ¬ (v.needs ≡ y.needs) ⊎ (i < j)) e (subst (λ (v : Entry). ¬ (b.by.needs ≡ v.needs) ⊎ (i < j)) f b.apart)))
    by_parts x y at there (inr n) other = inr (λ b.
        let e : b.by ≡ x = same_some b.by x (sym b.by_is ∙ at) in let f : b.beaten ≡ y = same_some b.beaten y (sym b.beaten_is ∙ there) in
        n (subst (λ (v : Entry). Covers v.needs y.needs) e (subst (λ (v : Entry). Covers b.by.needs v.needs) f b.covers)))

    by_items : (o : Option Entry) → slice_get candidates i ≡ o → (p : Option Entry) → slice_get candidates j ≡ p → Decided (Beats candidates i j)
    by_items None e p f = inr (λ b. let at = b.by_is in cc)
    by_items (Some x) e None f = inr (λ b. let at = b.beaten_is in cc)
    by_items (Some x) e (Some y) f =
        by_parts x y e f (covers_decided x.needs y.needs) (apart_decided x.needs y.needs (same_decided x.needs y.needs) (compare i j))

-- nothing below the number is beneath this one, or one is beneath which nothing is
abbrev pub HasLeast : (ℕ → ℕ → Type 0) → ℕ → ℕ → Type 0
HasLeast B n j = ((i : ℕ) → i < n → B i j → ⊥) ⊎ ((i : ℕ) × B i j × ((k : ℕ) → k < n → B k i → ⊥))

-- by the places below one number after another
pub has_least : (B : ℕ → ℕ → Type 0) → ((i j : ℕ) → Decided (B i j)) → ((i : ℕ) → B i i → ⊥)
    → ((i j k : ℕ) → B i j → B j k → B i k)
    → (n j : ℕ)
    → HasLeast B n j
has_least B d never through zero j = inl (λ i l b. omega arith)
has_least B d never through (suc n) j = by_last (d n j) (has_least B d never through n j) (has_least B d never through n n)
  where
    -- what none below the number is beneath, and the number isn't, has none below the next
    none_more : (j : ℕ) → ((i : ℕ) → i < n → B i j → ⊥) → (B n j → ⊥) → (i : ℕ) → i < suc n → B i j → ⊥
    none_more j none last i l b = by_order (compare i n)
      where
        by_order : (i < n) ⊎ ((i ≡ n) ⊎ (n < i)) → ⊥
        by_order (inl less) = none i less b
        by_order (inr (inl e)) = last (subst (λ v. B v j) e b)
        by_order (inr (inr more)) = omega (arith, more, l)

    by_last : Decided (B n j) → HasLeast B n j → HasLeast B n n → HasLeast B (suc n) j
    by_last (inr n') (inl none) last = inl (none_more j none n')
    by_last (inr n') (inr one) last = inr (one.0, one.1, none_more one.0 one.2 (λ b. n' (through n one.0 j b one.1)))
    by_last (inl h) own (inl none) = inr (n, h, none_more n none (never n))
    by_last (inl h) own (inr one) = inr (one.0, through one.0 n j one.1 h, none_more one.0 one.2 (λ b. never n (through n one.0 n b one.1)))

-- a candidate is unbeaten, or an unbeaten one beats it
abbrev pub HasUnbeaten : List Entry → ℕ → Type 0
HasUnbeaten candidates j = ((i : ℕ) → Beats candidates i j → ⊥) ⊎ ((i : ℕ) × Beats candidates i j × ((k : ℕ) → Beats candidates k i → ⊥))

-- any candidate that beats another has a place of the list
pub has_unbeaten : (candidates : List Entry) → AreNormal candidates → (j : ℕ) → HasUnbeaten candidates j
has_unbeaten candidates normal j =
    by_case (has_least (Beats candidates) (beats_decided candidates) (never_beats candidates) (beats_through candidates normal) (length candidates) j)
  where
    below : {i j : ℕ} → Beats candidates i j → i < length candidates
    below {i} b = get_below candidates i b.by b.by_is

    by_case : HasLeast (Beats candidates) (length candidates) j → HasUnbeaten candidates j
    by_case (inl none) = inl (λ i b. none i (below b) b)
    by_case (inr one) = inr (one.0, one.1, λ k b. one.2 k (below b) b)

-- a candidate that isn't covered by what is known is covered by one that is new and unbeaten
pub unbeaten_covers : (known : List (List Need)) (candidates : List Entry) → AreNormal candidates → (place : ℕ) (entry : Entry)
    → slice_get candidates place ≡ Some entry
    → ¬ IsCovered known entry.needs → (by : Entry) × (at : ℕ) × IsUnbeaten known candidates at by × Covers by.needs entry.needs
unbeaten_covers known candidates normal place entry at new = by_case (has_unbeaten candidates normal place)
  where
    by_case : HasUnbeaten candidates place → (by : Entry) × (at : ℕ) × IsUnbeaten known candidates at by × Covers by.needs entry.needs
    by_case (inl none) = (entry, place, record { at = at; new = new; unbeaten = none }, embeds_itself CoversNeed covers_itself entry.needs)
    by_case (inr one) =
        let b = one.1 in
        let same : b.beaten ≡ entry = same_some b.beaten entry (sym b.beaten_is ∙ at) in
        let covers = subst (λ (v : Entry). Covers b.by.needs v.needs) same b.covers in
        (b.by, one.0, record { at = b.by_is; new = λ c. new (covered_through known b.by.needs entry.needs covers c); unbeaten = one.2 }, covers)

-- entries are in a strict order, in which equal requirements aren't parted
pub entry_order : IsStrictOrder entry_before
entry_order = record {
  never = λ x h. requirement_order.never x.needs h;
  through = λ x y z h k. requirement_order.through x.needs y.needs z.needs h k;
}

-- unbeaten candidates have one list
pub one_unbeaten : (known : List (List Need)) (candidates first second : List Entry) → AreUnbeaten known candidates first
    → AreUnbeaten known candidates second
    → first ≡ second
one_unbeaten known candidates first second u v =
    rising_same entry_before entry_order first second u.rising v.rising (are_in first second u v) (are_in second first v u)
  where
    are_in : (first second : List Entry) → AreUnbeaten known candidates first → AreUnbeaten known candidates second → AreIn first second
    are_in first second u v =
        each_weaker (λ entry. (place : ℕ) × IsUnbeaten known candidates place entry) (λ entry. Some_of (λ (other : Entry). other ≡ entry) second)
        (λ entry one. same_one_of second entry (v.all one.0 entry one.1)) first u.each

-- an unbeaten one of some candidates is unbeaten among all, and the other way round
pub part_unbeaten : (known : List (List Need)) (candidates some : List Entry) → AreNormal candidates → (part : ArePart some candidates)
    → MayLeaveOut known candidates some part
    → (place : ℕ) (entry : Entry) → IsUnbeaten known some place entry → IsUnbeaten known candidates (part.to place) entry
part_unbeaten known candidates some normal part left place entry u = record {
  at = part.each place entry u.at;
  new = u.new;
  unbeaten = λ other b. by_case b (has_unbeaten candidates normal (part.to place));
}
  where
    -- the unbeaten beater would have been kept, and would beat the candidate among them
    none : (i : ℕ) → Beats candidates i (part.to place) → ((k : ℕ) → Beats candidates k i → ⊥) → ⊥
    none i b unbeaten = by_left (left i b.by b.by_is)
      where
        same : b.beaten ≡ entry
        same = same_some b.beaten entry (sym b.beaten_is ∙ part.each place entry u.at)

        covers : Covers b.by.needs entry.needs
        covers = subst (λ (v : Entry). Covers b.by.needs v.needs) same b.covers

        apart : ¬ (b.by.needs ≡ entry.needs) ⊎ (i < part.to place)
        apart = subst (λ (v : Entry). ¬ (b.by.needs ≡ v.needs) ⊎ (i < part.to place)) same b.apart

        kept : (k : ℕ) → k < length some → part.to k ≡ i → ⊥
        kept k l e = u.unbeaten k (record {
          by = b.by;
          by_is = there.1 ∙ ap Some one;
          beaten = entry;
          beaten_is = u.at;
          covers = covers;
          apart = by_apart apart (compare k place);
        })
          where
            there : (x : Entry) × (slice_get some k ≡ Some x)
            there = get_there some k l

            one : there.0 ≡ b.by
            one = same_some there.0 b.by (sym (part.each k there.0 there.1) ∙ ap (slice_get candidates) e ∙ b.by_is)

            by_apart : ¬ (b.by.needs ≡ entry.needs) ⊎ (i < part.to place) → (k < place) ⊎ ((k ≡ place) ⊎ (place < k))
                → ¬ (b.by.needs ≡ entry.needs) ⊎ (k < place)
            by_apart (inl n) order = inl n
            by_apart (inr m) (inl less) = inr less
            by_apart (inr m) (inr (inl here)) = let f : part.to k ≡ part.to place = ap part.to here in absurd (omega (arith, e, f, m))
            by_apart (inr m) (inr (inr more)) = let f = part.rises place k more l in absurd (omega (arith, e, f, m))

        by_left : ((k : ℕ) × (k < length some) × (part.to k ≡ i)) ⊎ (IsCovered known b.by.needs ⊎ ((other : ℕ) × Beats candidates other i)) → ⊥
        by_left (inl one) = kept one.0 one.1 one.2
        by_left (inr (inl c)) = u.new (covered_through known b.by.needs entry.needs covers c)
        by_left (inr (inr other)) = unbeaten other.0 other.1

    by_case : {other : ℕ} → Beats candidates other (part.to place) → HasUnbeaten candidates (part.to place) → ⊥
    by_case {other} b (inl n) = n other b
    by_case b (inr one) = none one.0 one.1 one.2

-- who is unbeaten among all was not left out, and is unbeaten among those that are left
pub unbeaten_part : (known : List (List Need)) (candidates some : List Entry) → (part : ArePart some candidates) → MayLeaveOut known candidates some part
    → (place : ℕ) (entry : Entry) → IsUnbeaten known candidates place entry → (i : ℕ) × IsUnbeaten known some i entry
unbeaten_part known candidates some part left place entry u = by_left (left place entry u.at)
  where
    kept : (i : ℕ) → i < length some → part.to i ≡ place → IsUnbeaten known some i entry
    kept i l e = record { at = there.1 ∙ ap Some one; new = u.new; unbeaten = λ other b. u.unbeaten (part.to other) (beats other b) }
      where
        there : (x : Entry) × (slice_get some i ≡ Some x)
        there = get_there some i l

        one : there.0 ≡ entry
        one = same_some there.0 entry (sym (part.each i there.0 there.1) ∙ ap (slice_get candidates) e ∙ u.at)

        beats : (other : ℕ) → Beats some other i → Beats candidates (part.to other) place
        beats other b = record {
          by = b.by;
          by_is = part.each other b.by b.by_is;
          beaten = b.beaten;
          beaten_is = sym (ap (slice_get candidates) e) ∙ part.each i b.beaten b.beaten_is;
          covers = b.covers;
          apart = by_apart b.apart;
        }
          where
            by_apart : ¬ (b.by.needs ≡ b.beaten.needs) ⊎ (other < i) → ¬ (b.by.needs ≡ b.beaten.needs) ⊎ (part.to other < place)
            by_apart (inl n) = inl n
            by_apart (inr less) = inr (subst (λ v. part.to other < v) e (part.rises other i less l))

    by_left : ((i : ℕ) × (i < length some) × (part.to i ≡ place)) ⊎ (IsCovered known entry.needs ⊎ ((other : ℕ) × Beats candidates other place))
        → (i : ℕ) × IsUnbeaten known some i entry
    by_left (inl one) = (one.0, kept one.0 one.1 one.2)
    by_left (inr (inl c)) = absurd (u.new c)
    by_left (inr (inr other)) = absurd (u.unbeaten other.0 other.1)

-- the list of the part is that of all
pub part_list : (known : List (List Need)) (candidates some list : List Entry) → AreNormal candidates → (part : ArePart some candidates)
    → MayLeaveOut known candidates some part
    → AreUnbeaten known some list → AreUnbeaten known candidates list
part_list known candidates some list normal part left u = record {
  rising = u.rising;
  each = each_weaker (λ entry. (place : ℕ) × IsUnbeaten known some place entry) (λ entry. (place : ℕ) × IsUnbeaten known candidates place entry)
      (λ entry one. (part.to one.0, part_unbeaten known candidates some normal part left one.0 entry one.1)) list u.each;
  all = λ place entry one. let r = unbeaten_part known candidates some part left place entry one in u.all r.0 entry r.1;
}

-- the list of all is that of the part
pub list_part : (known : List (List Need)) (candidates some list : List Entry) → AreNormal candidates → (part : ArePart some candidates)
    → MayLeaveOut known candidates some part
    → AreUnbeaten known candidates list → AreUnbeaten known some list
list_part known candidates some list normal part left u = record {
  rising = u.rising;
  each = each_weaker (λ entry. (place : ℕ) × IsUnbeaten known candidates place entry) (λ entry. (place : ℕ) × IsUnbeaten known some place entry)
      (λ entry one. unbeaten_part known candidates some part left one.0 entry one.1) list u.each;
  all = λ place entry one. u.all (part.to place) entry (part_unbeaten known candidates some normal part left place entry one);
}
