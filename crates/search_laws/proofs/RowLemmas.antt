-- The small policy, searched: the candidates of each round, which of them stay, and the outcomes.
use Rattle.std.proofs.Common.{ℕ, ◌≡◌, ◌<◌, ◌≤◌, List, [], ◌∷◌, ◌++◌, Some, length, refl, arith, zero, suc, sym, ◌∙◌, ap}
use Rattle.std.proofs.Common.{subst, inl, inr}
use Rattle.std.specs.Prelude.{◌⊎◌, slice_get}
use Rattle.list_words.specs.Lists.{Each, IsOneOf, Some_of}
use Rattle.list_words.proofs.CountLemmas.{embeds_long}
use Rattle.list_words.proofs.EachLemmas.{each_at}
use Rattle.list_words.proofs.EmbedLemmas.{embeds_front, embeds_itself, embeds_none}
use Rattle.list_words.proofs.GetLemmas.{same_some}
use Rattle.role_order.specs.Reach.{seniors_of}
use Rattle.role_order.specs.Roles.{IsWithin, less_roles}
use Rattle.arbac_policy.specs.Goals.{IsDrawn, times}
use Rattle.arbac_policy.specs.Truth.{has}
use Rattle.arbac_policy.specs.declared.act.ActKind.TheVariants.{Assign, Weak}
use Rattle.arbac_policy.specs.declared.profile.Profile.{Profile}
use Rattle.arbac_laws.specs.Needs.{Covers, CoversNeed, IsCovered, Meets, MeetsNeed, Need}
use Rattle.arbac_laws.specs.NormalForms.{pre_form}
use Rattle.arbac_laws.specs.Obligations.{Obligation, assigns, flat, pre_image, revokes}
use Rattle.arbac_laws.specs.PreImages.{fresh, itself, other}
use Rattle.arbac_laws.specs.Recorded.{Entry, of_parent}
use Rattle.arbac_laws.specs.Rows.{mix, adm, c, hits, hits_both, without, anyone, one_admin, two_admins, mix_entries}
use Rattle.arbac_laws.proofs.CoverLemmas.{covers_itself}
use Rattle.arbac_laws.proofs.FormPlaceLemmas.{are_places}
use Rattle.arbac_laws.proofs.PairLemmas.{third_covers}
use Rattle.arbac_laws.proofs.RecordedRowLemmas.{first_not_covering}
use Rattle.arbac_laws.proofs.RowLemmas.{first_before, first_fresh, first_itself, first_obligations, lacks_adm, nobody_has_c, nobody_lacks_adm, two_users}
use Rattle.search_laws.specs.Beats.{ArePart, AreUnbeaten, Beats, IsUnbeaten, MayLeaveOut}
use Rattle.search_laws.specs.Candidates.{as_candidate, goal_candidates, needs_in, next_candidates}
use Rattle.search_laws.specs.Plans.{Plans}
use Rattle.search_laws.specs.Rounds.{IsMet, IsOutcome, Round, Walks, closed, ends, found, full, goes_on}
use Rattle.search_laws.specs.Rows.{adm_entry, again_entry, given_entry, goal_entry, mix_search, own_entry, taken_entry, third_entry, third_round}
use Rattle.search_laws.specs.Rows.{three_entries}
use Rattle.search_laws.proofs.BeatLemmas.{never_beats}
use Rattle.search_laws.proofs.RoundLemmas.{one_outcome}

-- the candidates

-- of the goal
pub first_candidates : goal_candidates mix (has c ∷ []) ≡ goal_entry ∷ []
unfolding seniors_of
first_candidates = refl

-- a new administrator alone will do
pub second_candidates : next_candidates mix (goal_entry ∷ []) 0 ≡ given_entry ∷ []
second_candidates = ap (λ obs. flat given obs ++ []) first_obligations ∙ by_forms
  where
    given : Obligation → List Entry
    given ob = as_candidate (of_parent 0 ob) (pre_form mix (hits c ∷ []) ob)

    by_forms : flat given (assigns 0 0 c 0 itself ∷ assigns 0 0 c 0 fresh ∷ []) ++ [] ≡ given_entry ∷ []
    by_forms = rw (first_itself, first_fresh) refl

-- all three administrators will do
pub third_candidates : next_candidates mix mix_entries 1 ≡ third_round
unfolding seniors_of
third_candidates = rw lacks_adm refl

-- nobody need lose or be given anything
pub fourth_candidates : next_candidates mix three_entries 2 ≡ []
unfolding seniors_of
fourth_candidates = rw lacks_adm refl

-- what covers what

-- a user whom none of the others covers goes nowhere
pub no_place : (x : Need) (xs ys : List Need) → Each (λ y. ¬ CoversNeed x y) ys → Covers (x ∷ xs) ys → ⊥
no_place x xs ys none f = let one = f.each 0 x refl in each_at (λ y. ¬ CoversNeed x y) ys (f.to 0) one.0 none one.1 one.2

-- who is to have a role doesn't cover anyone
pub hit_not_anyone : (role : ℕ) → CoversNeed (hits role) anyone → ⊥
hit_not_anyone role h = h.hits.0

-- who is to have c doesn't cover who is to have adm
pub c_not_adm : CoversNeed (hits c) (hits adm) → ⊥
c_not_adm h = by_hit h.hits.0
  where
    by_hit : Some_of (λ other. IsWithin (less_roles other []) (c ∷ [])) ((adm ∷ []) ∷ []) → ⊥
    by_hit (inl w) = let none = w adm refl in cc
    by_hit (inr h) = h

-- nor the other way round
pub adm_not_c : CoversNeed (hits adm) (hits c) → ⊥
adm_not_c h = by_hit h.hits.0
  where
    by_hit : Some_of (λ other. IsWithin (less_roles other []) (adm ∷ [])) ((c ∷ []) ∷ []) → ⊥
    by_hit (inl w) = let none = w c refl in cc
    by_hit (inr h) = h

-- who is to be without adm covers none of whom that isn't wanted
pub lack_not_free : (need : Need) → need.lacks ≡ [] → CoversNeed (without adm) need → ⊥
lack_not_free need e h = let held = subst (λ lacks. IsWithin (adm ∷ []) lacks) e h.lacks adm refl in cc

-- three users don't cover two
pub third_longer : Covers (anyone ∷ hits adm ∷ hits adm ∷ []) (anyone ∷ hits adm ∷ []) → ⊥
third_longer f = let long = embeds_long CoversNeed (anyone ∷ hits adm ∷ hits adm ∷ []) (anyone ∷ hits adm ∷ []) f in omega (arith, long)

-- both would have to go to the second user
pub own_not_covering : Covers (hits adm ∷ hits adm ∷ []) (anyone ∷ hits adm ∷ []) → ⊥
own_not_covering f =
    let first = f.each 0 (hits adm) refl in
    let second = f.each 1 (hits adm) refl in
    let i = is_second (f.to 0) first.0 first.1 first.2 in
    let j = is_second (f.to 1) second.0 second.1 second.2 in
    let e : 0 ≡ 1 = f.apart 0 1 (omega arith) (omega arith) (i ∙ sym j) in omega (arith, e)
  where
    is_second : (k : ℕ) (y : Need) → slice_get (anyone ∷ hits adm ∷ []) k ≡ Some y → CoversNeed (hits adm) y → k ≡ 1
    is_second zero y at h =
        let at' : Some anyone ≡ Some y = at in absurd (hit_not_anyone adm (subst (CoversNeed (hits adm)) (sym (same_some anyone y at')) h))
    is_second (suc zero) y at h = refl
    is_second (suc (suc k)) y at h = cc

-- two users cover three
pub third_covered : Covers (anyone ∷ hits adm ∷ []) (anyone ∷ hits adm ∷ hits adm ∷ [])
third_covered = embeds_front CoversNeed anyone anyone (hits adm ∷ []) (hits adm ∷ hits adm ∷ []) (covers_itself anyone)
    (embeds_front CoversNeed (hits adm) (hits adm) [] (hits adm ∷ []) (covers_itself (hits adm)) (embeds_none CoversNeed (hits adm ∷ [])))

-- which candidates stay

-- what beating says of candidates that are known
pub beats_parts : (candidates : List Entry) (i j : ℕ) (x y : Entry) → slice_get candidates i ≡ Some x → slice_get candidates j ≡ Some y
    → Beats candidates i j
    → Covers x.needs y.needs × (¬ (x.needs ≡ y.needs) ⊎ (i < j))
beats_parts candidates i j x y at there b =
    let e : b.by ≡ x = same_some b.by x (sym b.by_is ∙ at) in
    let f : b.beaten ≡ y = same_some b.beaten y (sym b.beaten_is ∙ there) in
    subst (λ (v : Entry). Covers v.needs y.needs × (¬ (v.needs ≡ y.needs) ⊎ (i < j))) e
    (subst (λ (v : Entry). Covers b.by.needs v.needs × (¬ (b.by.needs ≡ v.needs) ⊎ (i < j))) f (b.covers, b.apart))

-- the requirement that wants less beats the other
pub taken_beats_own : Beats third_round 1 0
taken_beats_own = record {
  by = taken_entry;
  by_is = refl;
  beaten = own_entry;
  beaten_is = refl;
  covers = third_covers;
  apart =
      inl (λ e. own_not_covering
      (subst (λ needs. Covers needs (anyone ∷ hits adm ∷ [])) e (embeds_itself CoversNeed covers_itself (anyone ∷ hits adm ∷ []))));
}

-- two users beat three
pub taken_beats_third : Beats third_round 1 2
taken_beats_third = record { by = taken_entry; by_is = refl; beaten = third_entry; beaten_is = refl; covers = third_covered; apart = inr (omega arith) }

-- and not the other way round
pub own_beats_not : Beats third_round 0 1 → ⊥
own_beats_not b = own_not_covering (beats_parts third_round 0 1 own_entry taken_entry refl refl b).0

-- of two equal requirements the earlier beats the later
pub earlier_beats : Beats (goal_entry ∷ again_entry ∷ []) 0 1
earlier_beats = record {
  by = goal_entry;
  by_is = refl;
  beaten = again_entry;
  beaten_is = refl;
  covers = embeds_itself CoversNeed covers_itself (hits c ∷ []);
  apart = inr (omega arith);
}

-- and not the other way round
pub later_beats_not : Beats (goal_entry ∷ again_entry ∷ []) 1 0 → ⊥
later_beats_not b = by_case (beats_parts (goal_entry ∷ again_entry ∷ []) 1 0 again_entry goal_entry refl refl b).1
  where
    by_case : ¬ ((hits c ∷ []) ≡ (hits c ∷ [])) ⊎ (1 < 0) → ⊥
    by_case (inl n) = n refl
    by_case (inr l) = omega (arith, l)

-- where none that is known covers it, the second candidate of the third round is unbeaten
pub taken_unbeaten : (known : List (List Need)) → ¬ IsCovered known (anyone ∷ hits adm ∷ []) → IsUnbeaten known third_round 1 taken_entry
taken_unbeaten known new = record { at = refl; new = new; unbeaten = none }
  where
    none : (place : ℕ) → Beats third_round place 1 → ⊥
    none zero b = own_beats_not b
    none (suc zero) b = never_beats third_round 1 b
    none (suc (suc zero)) b = third_longer (beats_parts third_round 2 1 third_entry taken_entry refl refl b).0
    none (suc (suc (suc place))) b = let at = b.by_is in cc

-- it alone is unbeaten
pub third_unbeaten : (known : List (List Need)) → ¬ IsCovered known (anyone ∷ hits adm ∷ []) → AreUnbeaten known third_round (taken_entry ∷ [])
third_unbeaten known new = record { rising = (tt, tt); each = ((1, taken_unbeaten known new), tt); all = all }
  where
    all : (place : ℕ) (entry : Entry) → IsUnbeaten known third_round place entry → IsOneOf (taken_entry ∷ []) entry
    all zero entry u = absurd (u.unbeaten 1 taken_beats_own)
    all (suc zero) entry u = (0, u.at)
    all (suc (suc zero)) entry u = absurd (u.unbeaten 1 taken_beats_third)
    all (suc (suc (suc place))) entry u = let at = u.at in cc

-- a list without it isn't that of the unbeaten ones
pub none_not_unbeaten : AreUnbeaten [] third_round [] → ⊥
none_not_unbeaten u = let one = u.all 1 taken_entry (taken_unbeaten [] (λ h. h)) in let at = one.1 in cc

-- nor is a list with what is covered already
pub known_not_unbeaten : AreUnbeaten ((anyone ∷ hits adm ∷ []) ∷ []) third_round (taken_entry ∷ []) → ⊥
known_not_unbeaten u = u.each.0.1.new (inl (embeds_itself CoversNeed covers_itself (anyone ∷ hits adm ∷ [])))

-- two candidates that don't cover each other, by the order of requirements
pub sorted_unbeaten : AreUnbeaten [] (goal_entry ∷ adm_entry ∷ []) (adm_entry ∷ goal_entry ∷ [])
sorted_unbeaten = record { rising = ((refl, tt), (tt, tt)); each = ((1, second), ((0, first), tt)); all = all }
  where
    by_second : (place : ℕ) → Beats (goal_entry ∷ adm_entry ∷ []) place 0 → ⊥
    by_second zero b = never_beats (goal_entry ∷ adm_entry ∷ []) 0 b
    by_second (suc zero) b =
        no_place (hits adm) [] (hits c ∷ []) (adm_not_c, tt) (beats_parts (goal_entry ∷ adm_entry ∷ []) 1 0 adm_entry goal_entry refl refl b).0
    by_second (suc (suc place)) b = let at = b.by_is in cc

    by_first : (place : ℕ) → Beats (goal_entry ∷ adm_entry ∷ []) place 1 → ⊥
    by_first zero b = no_place (hits c) [] (hits adm ∷ []) (c_not_adm, tt)
        (beats_parts (goal_entry ∷ adm_entry ∷ []) 0 1 goal_entry adm_entry refl refl b).0
    by_first (suc zero) b = never_beats (goal_entry ∷ adm_entry ∷ []) 1 b
    by_first (suc (suc place)) b = let at = b.by_is in cc

    first : IsUnbeaten [] (goal_entry ∷ adm_entry ∷ []) 0 goal_entry
    first = record { at = refl; new = λ h. h; unbeaten = by_second }

    second : IsUnbeaten [] (goal_entry ∷ adm_entry ∷ []) 1 adm_entry
    second = record { at = refl; new = λ h. h; unbeaten = by_first }

    all : (place : ℕ) (entry : Entry) → IsUnbeaten [] (goal_entry ∷ adm_entry ∷ []) place entry → IsOneOf (adm_entry ∷ goal_entry ∷ []) entry
    all zero entry u = (1, u.at)
    all (suc zero) entry u = (0, u.at)
    all (suc (suc place)) entry u = let at = u.at in cc

-- the other order isn't that of requirements
pub unsorted_not_unbeaten : AreUnbeaten [] (goal_entry ∷ adm_entry ∷ []) (goal_entry ∷ adm_entry ∷ []) → ⊥
unsorted_not_unbeaten u = let before = u.rising.0.0 in cc

-- what is neither covered nor beaten may not be left out
pub goal_not_left_out : (part : ArePart [] (goal_entry ∷ [])) → MayLeaveOut [] (goal_entry ∷ []) [] part → ⊥
goal_not_left_out part left = by_case (left 0 goal_entry refl)
  where
    none : (place : ℕ) → Beats (goal_entry ∷ []) place 0 → ⊥
    none zero b = never_beats (goal_entry ∷ []) 0 b
    none (suc place) b = let at = b.by_is in cc

    by_case : ((i : ℕ) × (i < 0) × (part.to i ≡ 0)) ⊎ (⊥ ⊎ ((other : ℕ) × Beats (goal_entry ∷ []) other 0)) → ⊥
    by_case (inl one) = let l = one.1 in omega (arith, l)
    by_case (inr (inl h)) = h
    by_case (inr (inr one)) = none one.0 one.1

-- rounds

-- a single candidate that is new is unbeaten
pub single_unbeaten : (known : List (List Need)) (entry : Entry) → ¬ IsCovered known entry.needs → AreUnbeaten known (entry ∷ []) (entry ∷ [])
single_unbeaten known entry new = record {
  rising = (tt, tt);
  each = ((0, record { at = refl; new = new; unbeaten = none }), tt);
  all = λ place other u.
      (place, u.at);
}
  where
    none : (place : ℕ) → Beats (entry ∷ []) place 0 → ⊥
    none zero b = never_beats (entry ∷ []) 0 b
    none (suc place) b = let at = b.by_is in cc

-- what is recorded first doesn't cover the second requirement
pub second_new : IsCovered (needs_in (goal_entry ∷ [])) (without adm ∷ hits adm ∷ []) → ⊥
second_new (inl f) = first_not_covering f
second_new (inr h) = h

-- what is recorded doesn't cover the third requirement
pub third_new : IsCovered (needs_in mix_entries) (anyone ∷ hits adm ∷ []) → ⊥
third_new (inl f) = no_place (hits c) [] (anyone ∷ hits adm ∷ []) (hit_not_anyone c, (c_not_adm, tt)) f
third_new (inr (inl f)) =
    no_place (without adm) (hits adm ∷ []) (anyone ∷ hits adm ∷ []) (lack_not_free anyone refl, (lack_not_free (hits adm) refl, tt)) f
third_new (inr (inr h)) = h

-- profiles of users who have adm alone
abbrev pub OfAdm : List Profile → Type 0
OfAdm profiles = Each (λ (profile : Profile). profile.set ≡ adm ∷ []) profiles

-- the goal is recorded
pub first_round : (profiles : List Profile) (limit : ℕ) → OfAdm profiles → ¬ (0 ≡ limit)
    → Round (mix_search profiles limit) [] (goal_candidates mix (has c ∷ [])) (goes_on (goal_entry ∷ []))
first_round profiles limit own room =
    subst (λ candidates. Round (mix_search profiles limit) [] candidates (goes_on (goal_entry ∷ []))) (sym first_candidates) (record {
      list = goal_entry ∷ [];
      unbeaten = single_unbeaten [] goal_entry (λ h. h);
      walked = inr (nobody_has_c profiles own [], inr (room, refl));
    })

-- what is wanted before c is given is recorded
pub second_round : (profiles : List Profile) → OfAdm profiles
    → Round (mix_search profiles 4096) (goal_entry ∷ []) (next_candidates mix (goal_entry ∷ []) 0) (goes_on mix_entries)
second_round profiles own =
    subst (λ candidates. Round (mix_search profiles 4096) (goal_entry ∷ []) candidates (goes_on mix_entries)) (sym second_candidates) (record {
      list = given_entry ∷ [];
      unbeaten = single_unbeaten (needs_in (goal_entry ∷ [])) given_entry second_new;
      walked = inr (nobody_lacks_adm profiles own (hits adm ∷ []), inr ((λ e. omega (arith, e)), refl));
    })

-- two users who start with adm
pub two_met : IsMet two_admins (anyone ∷ hits adm ∷ [])
two_met = ((adm ∷ []) ∷ (adm ∷ []) ∷ [], drawn, met)
  where
    profile : Profile
    profile = record { set = adm ∷ []; most = Some 2 }

    drawn : IsDrawn two_admins ((adm ∷ []) ∷ (adm ∷ []) ∷ [])
    drawn = record {
      choice = 0 ∷ 0 ∷ [];
      drawn = record { places = places; few = few };
      are_users = ((profile, refl, refl), ((profile, refl, refl), tt));
    }
      where
        places : (k place : ℕ) → slice_get (0 ∷ 0 ∷ []) k ≡ Some place → (profile : Profile) × (slice_get two_admins place ≡ Some profile)
        places zero place at =
            let same : 0 ≡ place = cc in subst (λ p. (profile : Profile) × (slice_get two_admins p ≡ Some profile)) same (profile, refl)
        places (suc zero) place at =
            let same : 0 ≡ place = cc in subst (λ p. (profile : Profile) × (slice_get two_admins p ≡ Some profile)) same (profile, refl)
        places (suc (suc k)) place at = cc

        few : (place : ℕ) (profile : Profile) (most : ℕ) → slice_get two_admins place ≡ Some profile → profile.most ≡ Some most
            → times place (0 ∷ 0 ∷ []) ≤ most
        few zero own most at e =
            let at' : Some profile ≡ Some own = at in
            let same : Some 2 ≡ Some most = ap (λ (p : Profile). p.most) (same_some profile own at') ∙ e in
            let two : ℕ = 2 in let count : two ≡ most = same_some two most same in omega (arith, count)
        few (suc place) own most at e = cc

    met : Meets ((adm ∷ []) ∷ (adm ∷ []) ∷ []) (anyone ∷ hits adm ∷ [])
    met = record { to = λ i. i; apart = λ i j l m e. e; each = each }
      where
        each : (i : ℕ) (need : Need) → slice_get (anyone ∷ hits adm ∷ []) i ≡ Some need
            → (set : List ℕ) × (slice_get ((adm ∷ []) ∷ (adm ∷ []) ∷ []) i ≡ Some set) × MeetsNeed need set
        each zero need at = let at' : Some anyone ≡ Some need = at in
            (adm ∷ [], refl, subst (λ n. MeetsNeed n (adm ∷ [])) (same_some anyone need at') (record { hits = tt; lacks = λ role h k. cc }))
        each (suc zero) need at = let at' : Some (hits adm) ≡ Some need = at in (
          adm ∷ [],
          refl,
          subst (λ n. MeetsNeed n (adm ∷ [])) (same_some (hits adm) need at')
              (record { hits = ((adm, refl, refl), tt); lacks = λ role h k. cc }),
        )
        each (suc (suc i)) need at = cc

-- two users who start with adm meet the third requirement
pub third_round_found : Round (mix_search two_admins 4096) mix_entries (next_candidates mix mix_entries 1) (ends (found mix_entries taken_entry))
third_round_found =
    subst (λ candidates. Round (mix_search two_admins 4096) mix_entries candidates (ends (found mix_entries taken_entry))) (sym third_candidates) (record {
      list = taken_entry ∷ [];
      unbeaten = third_unbeaten (needs_in mix_entries) third_new;
      walked = inl (two_met, refl);
    })

-- one user who starts with adm doesn't
pub third_round_kept : Round (mix_search one_admin 4096) mix_entries (next_candidates mix mix_entries 1) (goes_on three_entries)
third_round_kept = subst (λ candidates. Round (mix_search one_admin 4096) mix_entries candidates (goes_on three_entries)) (sym third_candidates) (record {
  list = taken_entry ∷ [];
  unbeaten = third_unbeaten (needs_in mix_entries) third_new;
  walked = inr (two_users anyone (hits adm), inr ((λ e. omega (arith, e)), refl));
})

-- nothing is left to take
pub fourth_round : Round (mix_search one_admin 4096) three_entries (next_candidates mix three_entries 2) (goes_on three_entries)
fourth_round = subst (λ candidates. Round (mix_search one_admin 4096) three_entries candidates (goes_on three_entries)) (sym fourth_candidates) (record {
  list = [];
  unbeaten = record { rising = tt; each = tt; all = λ place entry u. let at = u.at in cc };
  walked = refl;
})

-- three rounds find it
pub mix_found : IsOutcome (mix_search two_admins 4096) (found mix_entries taken_entry)
mix_found = record {
  walk = goes_on (goal_entry ∷ []);
  first = first_round two_admins 4096 (refl, tt) (λ e. omega (arith, e));
  rounds = 2;
  rest =
      inr (
        omega arith,
        goes_on mix_entries,
        second_round two_admins (refl, tt),
        inr
            (omega arith, ends (found mix_entries taken_entry), third_round_found, refl),
      );
}

-- four rounds close it
pub mix_closed : IsOutcome (mix_search one_admin 4096) (closed three_entries)
mix_closed = record {
  walk = goes_on (goal_entry ∷ []);
  first = first_round one_admin 4096 (refl, tt) (λ e. omega (arith, e));
  rounds = 3;
  rest = inr (
    omega arith,
    goes_on mix_entries,
    second_round one_admin (refl, tt),
    inr (omega arith, goes_on three_entries, third_round_kept, inr (omega arith, goes_on three_entries, fourth_round, (refl, refl))),
  );
}

-- the second round has no room
pub mix_full : IsOutcome (mix_search two_admins 1) (full (goal_entry ∷ []) given_entry)
mix_full = record {
  walk = goes_on (goal_entry ∷ []);
  first = first_round two_admins 1 (refl, tt) (λ e. omega (arith, e));
  rounds = 1;
  rest = inr (omega arith, ends (full (goal_entry ∷ []) given_entry), round, refl);
}
  where
    round : Round (mix_search two_admins 1) (goal_entry ∷ []) (next_candidates mix (goal_entry ∷ []) 0) (ends (full (goal_entry ∷ []) given_entry))
    round =
        subst (λ candidates. Round (mix_search two_admins 1) (goal_entry ∷ []) candidates (ends (full (goal_entry ∷ []) given_entry)))
        (sym second_candidates)
        (record {
          list = given_entry ∷ [];
          unbeaten = single_unbeaten (needs_in (goal_entry ∷ [])) given_entry second_new;
          walked = inr (nobody_lacks_adm two_admins (refl, tt) (hits adm ∷ []), inl (refl, refl));
        })

-- where there is no room, nothing is recorded
pub full_not_recorded : Walks (mix_search two_admins 1) (goal_entry ∷ []) (given_entry ∷ []) (goes_on mix_entries) → ⊥
full_not_recorded (inl h) = let e = h.1 in cc
full_not_recorded (inr h) = by_room h.1
  where
    by_room : ((length (goal_entry ∷ []) ≡ 1) × (goes_on mix_entries ≡ ends (full (goal_entry ∷ []) given_entry)))
        ⊎ (¬ (length (goal_entry ∷ []) ≡ 1) × (goes_on mix_entries ≡ goes_on mix_entries)) → ⊥
    by_room (inl k) = let e = k.1 in cc
    by_room (inr k) = k.0 refl

-- a search that finds an entry isn't closed
pub found_not_closed : IsOutcome (mix_search two_admins 4096) (closed three_entries) → ⊥
found_not_closed o = let e = one_outcome (mix_search two_admins 4096) (found mix_entries taken_entry) (closed three_entries) mix_found o in cc

-- a closed search finds no entry
pub closed_not_found : IsOutcome (mix_search one_admin 4096) (found mix_entries taken_entry) → ⊥
closed_not_found o = let e = one_outcome (mix_search one_admin 4096) (closed three_entries) (found mix_entries taken_entry) mix_closed o in cc

-- the user with adm is to have it for the act too
pub taken_before : pre_image mix (without adm ∷ hits adm ∷ []) (revokes 0 adm 0 (other 1)) ≡ Some (anyone ∷ hits_both adm adm ∷ [])
unfolding seniors_of
taken_before = refl

-- adm is taken away, and then c given
pub taken_plan : (to : ℕ → ℕ) → Plans mix mix_entries taken_entry to (
    record { kind = Weak; admin = to 1; target = to 0; role = adm } ∷ record { kind = Assign; admin = to 1; target = to 0; role = c } ∷ [])
taken_plan to = (
  given_entry,
  revokes 0 adm 0 (other 1),
  0 ∷ 1 ∷ [],
  record {
    number = 1;
    origin = refl;
    parent_is = refl;
    raw = anyone ∷ hits_both adm adm ∷ [];
    raw_is = taken_before;
    stand = are_places
        (anyone ∷ hits_both adm adm ∷ []);
  },
  refl,
  (
    goal_entry,
    assigns 0 0 c 0 fresh,
    0 ∷ 1 ∷ [],
    record {
      number = 0;
      origin = refl;
      parent_is = refl;
      raw = without adm ∷ hits adm ∷ [];
      raw_is = first_before;
      stand = are_places
          (without adm ∷ hits adm ∷ []);
    },
    refl,
    (0, refl),
  ),
)

-- an entry that comes of a parent wants an act
pub no_shorter_plan : (to : ℕ → ℕ) → Plans mix mix_entries taken_entry to [] → ⊥
no_shorter_plan to plan = let e = plan.1 in cc
