-- The way from a found entry back to the goal.
use Rattle.std.proofs.Common.{ℕ, ◌≡◌, ◌<◌, ◌≤◌, List, [], ◌∷◌, ◌++◌, Some, length, get_or, map, take, refl, arith, suc, sym, ◌∙◌, ap, subst}
use Rattle.std.proofs.Common.{append_assoc, append-nil}
use Rattle.std.specs.Prelude.{IsSome, slice_get, slice_set}
use Rattle.std.proofs.lemmas.List.{get_or-map, length-map}
use Rattle.std.specs.declared.alloc.Global.{Global}
use Rattle.std.specs.declared.sync.Arc.{Arc}
use Rattle.list_words.proofs.GetLemmas.{get_at, get_below, get_map, get_taken, get_there, length_more, length_set, same_some}
use Rattle.role_order.specs.Reach.{seniors_of}
use Rattle.arbac_policy.specs.Rules.{Rules}
use Rattle.arbac_policy.specs.Truth.{Term}
use Rattle.arbac_policy.specs.declared.act.Act.{Act}
use Rattle.arbac_policy.specs.declared.profile.Profile.{Profile}
use Rattle.arbac_laws.specs.Listings.{IsObligation}
use Rattle.arbac_laws.specs.Needs.{Need}
use Rattle.arbac_laws.specs.NormalForms.{AreFormPlaces, normal_form, pre_form}
use Rattle.arbac_laws.specs.Obligations.{Obligation, act_of, and_then, assigns, pick_of, pre_image, revokes, target_of}
use Rattle.arbac_laws.specs.PreImages.{IsPick, Pick, add_hit, admin_place, before_assign, before_weak, fresh, itself, other, with_admin}
use Rattle.arbac_laws.specs.Recorded.{Entry, IsOrigin, IsRecordedList, Origin, of_goal, of_parent}
use Rattle.arbac_laws.proofs.ConjunctLemmas.{AreSeniors, are_seniors}
use Rattle.arbac_laws.proofs.ExchangeLemmas.{length_change}
use Rattle.arbac_laws.proofs.ObligationLemmas.{and_then_some, listed_is}
use Rattle.role_order.specs.Refusals.{IsOrder}
use Rattle.req_pre.specs.Answers.{HasAdmin, IsThere}
use Rattle.search_laws.specs.Plans.{ComesFrom, Plans}
use Rattle.search_laws.specs.Rounds.{IsOutcome, Search, found}
use Rattle.search_laws.proofs.CandidateLemmas.{IsDerived}
use Rattle.search_laws.proofs.PlanLemmas.{are_derived, found_shows, onward}
use Rattle.req_pre.specs.Views.{owed_of}
use Rattle.req_pre.specs.declared.owed.Obligation.{Obligation as Owed}
use Rattle.shared_reqs.specs.Shared.{MarkedNeed, marked_of, needs_marked}
use Rattle.search_rounds.specs.Views.{entry_of, entries_of, origin_of}
use Rattle.search_rounds.specs.declared.candidate.Candidate.{Candidate}
use Rattle.search_rounds.specs.declared.candidate.Origin.{Origin as From}
use Rattle.search_rounds.specs.declared.candidate.Origin.TheVariants.{Pre}
use Rattle.back_search.specs.Standing.{AreStanding}

-- pre-images are as long

-- with the administrator there are at least as many users, and the administrator is one of them
pub admin_longer : (pick : Pick) (target : ℕ) (hit : List ℕ) (needs : List Need) → IsPick pick target (length needs) → target < length needs
    → (length needs ≤ length (with_admin pick target hit needs)) × (admin_place pick target (length needs) < length (with_admin pick target hit needs))
admin_longer itself target hit needs is l =
    let e : length (with_admin itself target hit needs) ≡ length needs = length_change needs target (add_hit hit) in (omega (arith, e), omega (arith, e, l))
admin_longer (other place) target hit needs is l =
    let e : length (with_admin (other place) target hit needs) ≡ length needs = length_change needs place (add_hit hit) in
    let p : place < length needs = is.0 in
    (omega (arith, e), omega (arith, e, p))
admin_longer fresh target hit needs is l =
    let e = length_more needs (record { hits = hit ∷ []; lacks = [] }) in (omega (arith, e), omega (arith, e))

-- the raw pre-image has all users of the requirement, and the administrator
pub record IsLonger (needs raw : List Need) (ob : Obligation) : Type 0 where
  pub users : length needs ≤ length raw
  pub target : target_of ob < length raw
  pub admin : admin_place (pick_of ob) (target_of ob) (length needs) < length raw

-- the same with the target's part exchanged
pub exchanged_longer : (pick : Pick) (target : ℕ) (hit : List ℕ) (needs : List Need) (before : Need) → IsPick pick target (length needs)
    → target < length needs
    → (length needs ≤ length (with_admin pick target hit (slice_set needs target before)))
    × (admin_place pick target (length needs) < length (with_admin pick target hit (slice_set needs target before)))
exchanged_longer pick target hit needs before is l =
    let same : length (slice_set needs target before) ≡ length needs = length_set needs target before in
    let more = admin_longer pick target hit (slice_set needs target before) (subst (λ n. IsPick pick target n) (sym same) is) (omega (arith, same, l)) in (
      subst (λ n. n ≤ length (with_admin pick target hit (slice_set needs target before))) same more.0,
      subst (λ n. admin_place pick target n < length (with_admin pick target hit (slice_set needs target before))) same more.1,
    )

-- of both kinds of obligations
pub raw_longer : (rules : Rules) (needs : List Need) (ob : Obligation) → IsObligation rules needs ob → (raw : List Need)
    → pre_image rules needs ob ≡ Some raw → IsLonger needs raw ob
raw_longer rules needs (assigns rule conjunct role target pick) is raw e =
    let r = and_then_some (before_assign rules is.when role is.need)
    (λ before. Some (with_admin pick target (seniors_of rules.order is.by.admin) (slice_set needs target before))) raw
    (rw (is.by_is, is.when_is, is.need_is) at e) in
    let l = get_below needs target is.need is.need_is in
    let image = same_some (with_admin pick target (seniors_of rules.order is.by.admin) (slice_set needs target r.0)) raw r.2 in
    let more = exchanged_longer pick target (seniors_of rules.order is.by.admin) needs r.0 is.is_pick l in
    let users = subst (λ list. length needs ≤ length list) image more.0 in
    record { users = users; target = omega (arith, l, users); admin = subst (λ list. admin_place pick target (length needs) < length list) image more.1 }
raw_longer rules needs (revokes rule role target pick) is raw e =
    let r = and_then_some (before_weak role is.need)
    (λ before. Some (with_admin pick target (seniors_of rules.order is.by.admin) (slice_set needs target before))) raw
    (rw (is.by_is, is.need_is) at e) in
    let l = get_below needs target is.need is.need_is in
    let image = same_some (with_admin pick target (seniors_of rules.order is.by.admin) (slice_set needs target r.0)) raw r.2 in
    let more = exchanged_longer pick target (seniors_of rules.order is.by.admin) needs r.0 is.is_pick l in
    let users = subst (λ list. length needs ≤ length list) image more.0 in
    record { users = users; target = omega (arith, l, users); admin = subst (λ list. admin_place pick target (length needs) < length list) image more.1 }

-- the administrator is there
pub pick_there : (pick : Pick) (target count : ℕ) → IsPick pick target count → IsThere count pick
pick_there itself target count is = tt
pick_there (other place) target count is = is.0
pick_there fresh target count is = tt

pub has_admin : (rules : Rules) (needs : List Need) (ob : Obligation) → IsObligation rules needs ob → HasAdmin (length needs) ob
has_admin rules needs (assigns rule conjunct role target pick) is = pick_there pick target (length needs) is.is_pick
has_admin rules needs (revokes rule role target pick) is = pick_there pick target (length needs) is.is_pick

-- the way back

-- an entry from which the way goes on: its origin, where its users stand, and the acts so far; a plan from it, behind
-- these acts, is a plan from the found entry
pub record IsAt (rules : Rules) (recorded : List Entry) (start : Entry) (origin : Origin) (to : List ℕ) (acts : List Act) : Type 0 where
  pub seniors : AreSeniors rules.order
  pub profiles : List Profile
  pub goal : List Term
  pub list : IsRecordedList rules profiles goal recorded
  pub entry : Entry
  pub origin_is : entry.origin ≡ origin
  pub derived : IsDerived rules goal recorded entry
  pub places : ℕ → ℕ
  pub long : length entry.needs ≤ length to
  pub same : (user : ℕ) → user < length to → places user ≡ get_or to user 0
  pub rest : (more : List Act) → Plans rules recorded entry places more → Plans rules recorded start (λ user. user) (acts ++ more)

-- it begins at the found entry
pub begins : (rules : Rules) → IsOrder rules.order.names rules.order.edges → (recorded : List Entry) (start : Entry)
    → (s : Search) × (s.rules ≡ rules) × IsOutcome s (found recorded start)
    → (to : List ℕ) → length to ≡ length start.needs → ((user : ℕ) → user < length start.needs → get_or to user 0 ≡ user)
    → IsAt rules recorded start start.origin to []
begins rules order recorded start given to long own = record {
  seniors = seniors;
  profiles = given.0.profiles;
  goal = given.0.goal;
  list = shown.0;
  entry = start;
  origin_is = refl;
  derived = shown.1;
  places = λ user. user;
  long = omega (arith, long);
  same = λ user l. sym (own user (omega (arith, l, long)));
  rest = λ more plan. plan;
}
  where
    seniors : AreSeniors rules.order
    seniors = are_seniors rules.order order.ends

    shown : IsRecordedList rules given.0.profiles given.0.goal recorded × IsDerived rules given.0.goal recorded start
    shown =
        let both = found_shows given.0 (subst (λ (r : Rules). AreSeniors r.order) (sym given.1) seniors) recorded start given.2 in (
          subst (λ r. IsRecordedList r given.0.profiles given.0.goal recorded) given.1 both.0,
          subst (λ r. IsDerived r given.0.goal recorded start) given.1 both.1,
        )

-- a parent: it is recorded, the obligation is its own, and the pre-image's normal form is the entry's requirement
pub record HasParent (rules : Rules) (recorded : List Entry) (entry : Entry) (number : ℕ) (ob : Obligation) : Type 0 where
  pub parent : Entry
  pub at : slice_get recorded number ≡ Some parent
  pub is : IsObligation rules parent.needs ob
  pub form : pre_form rules parent.needs ob ≡ Some entry.needs

pub has_parent : (rules : Rules) (recorded : List Entry) (start : Entry) (number : ℕ) (ob : Obligation) (to : List ℕ) (acts : List Act)
    → (at : IsAt rules recorded start (of_parent number ob) to acts) → HasParent rules recorded at.entry number ob
has_parent rules recorded start number ob to acts at =
    by_named (subst (λ origin. IsOrigin rules at.goal recorded origin at.derived.0) at.origin_is at.derived.1)
  where
    by_named : IsOrigin rules at.goal recorded (of_parent number ob) at.derived.0 → HasParent rules recorded at.entry number ob
    by_named named = record {
      parent = named.0;
      at = named.1;
      is = listed_is rules at.seniors named.0.needs ob named.2;
      form = ap (λ image. and_then image normal_form) named.3 ∙ at.derived.2;
    }

-- the same of the recorded entry of this number
pub is_parent : (rules : Rules) (recorded : List Entry) (entry : Entry) (number : ℕ) (ob : Obligation) (parent : Entry)
    → slice_get recorded number ≡ Some parent
    → HasParent rules recorded entry number ob
    → IsObligation rules parent.needs ob × (pre_form rules parent.needs ob ≡ Some entry.needs)
is_parent rules recorded entry number ob parent there has =
    let same : has.parent ≡ parent = same_some has.parent parent (sym has.at ∙ there) in (
      subst (λ (p : Entry). IsObligation rules p.needs ob) same has.is,
      subst (λ (p : Entry). pre_form rules p.needs ob ≡ Some entry.needs) same has.form,
    )

-- where the users of the pre-image stand, there is one place of the population for each
pub stand_within : (rules : Rules) (recorded : List Entry) (start : Entry) (number : ℕ) (ob : Obligation) (to : List ℕ) (acts : List Act)
    → IsAt rules recorded start (of_parent number ob) to acts
    → (parent : Entry) → slice_get recorded number ≡ Some parent
    → (places : List ℕ) → AreStanding rules parent.needs ob places
    → (user : ℕ) → user < length places → get_or places user 0 < length to
stand_within rules recorded start number ob to acts at parent there places standing user l =
    let own = is_parent rules recorded at.entry number ob parent there (has_parent rules recorded start number ob to acts at) in
    let same = same_some standing.form at.entry.needs (sym standing.form_is ∙ own.1) in
    let long = standing.stand.at.long in
    let raw = get_there standing.raw user (omega (arith, l, long)) in
    let stands = standing.stand.at.each user raw.0 raw.1 in
    let below = subst (λ (form : List Need). get_or places user 0 < length form) same (get_below standing.form (get_or places user 0) stands.0 stands.1) in
    let within = at.long in
    omega (arith, below, within)

-- target and administrator are among them
pub stand_longer : (rules : Rules) (recorded : List Entry) (start : Entry) (number : ℕ) (ob : Obligation) (to : List ℕ) (acts : List Act)
    → IsAt rules recorded start (of_parent number ob) to acts
    → (parent : Entry) → slice_get recorded number ≡ Some parent
    → (places : List ℕ) → AreStanding rules parent.needs ob places
    → (next : List ℕ) → next ≡ map (λ place. get_or to place 0) places
    → (length parent.needs ≤ length next) × (target_of ob < length next)
    × (admin_place (pick_of ob) (target_of ob) (length parent.needs) < length next)
stand_longer rules recorded start number ob to acts at parent there places standing next e =
    let own = is_parent rules recorded at.entry number ob parent there (has_parent rules recorded start number ob to acts at) in
    let longer = raw_longer rules parent.needs ob own.0 standing.raw standing.raw_is in
    let long : length next ≡ length standing.raw =
    ap length e ∙ length-map places (λ place. get_or to place 0) ∙ standing.stand.at.long in (
      subst (λ n. length parent.needs ≤ n) (sym long) longer.users,
      subst (λ n. target_of ob < n) (sym long) longer.target,
      subst (λ n. admin_place (pick_of ob) (target_of ob) (length parent.needs) < n) (sym long) longer.admin,
    )

-- an act reads two places alone
pub act_agrees : (ob : Obligation) (count : ℕ) (f g : ℕ → ℕ)
    → f (admin_place (pick_of ob) (target_of ob) count) ≡ g (admin_place (pick_of ob) (target_of ob) count)
    → f (target_of ob) ≡ g (target_of ob)
    → act_of ob count f ≡ act_of ob count g
act_agrees ob count f g admin target = cc

-- one step back, to the parent
pub goes_back : (rules : Rules) (recorded : List Entry) (start : Entry) (number : ℕ) (ob : Obligation) (to : List ℕ) (acts : List Act)
    → IsAt rules recorded start (of_parent number ob) to acts
    → (parent : Entry) → slice_get recorded number ≡ Some parent
    → (places : List ℕ) → AreStanding rules parent.needs ob places
    → (next : List ℕ) → next ≡ map (λ place. get_or to place 0) places
    → (act : Act) → act ≡ act_of ob (length parent.needs) (λ user. get_or next user 0)
    → IsAt rules recorded start parent.origin next (acts ++ act ∷ [])
goes_back rules recorded start number ob to acts at parent there places standing next e act act_is = record {
  seniors = at.seniors;
  profiles = at.profiles;
  goal = at.goal;
  list = at.list;
  entry = parent;
  origin_is = refl;
  derived = are_derived rules at.profiles at.goal recorded at.list number parent there;
  places = onward at.places places;
  long = longer.0;
  same = moved;
  rest = λ more plan.
      subst (λ list. Plans rules recorded start (λ user. user) list) (sym (append_assoc acts (act ∷ []) more))
      (at.rest (act ∷ more) (parent, ob, places, comes, act_same, plan));
}
  where
    longer : (length parent.needs ≤ length next) × (target_of ob < length next)
        × (admin_place (pick_of ob) (target_of ob) (length parent.needs) < length next)
    longer = stand_longer rules recorded start number ob to acts at parent there places standing next e

    long : length next ≡ length places
    long = ap length e ∙ length-map places (λ place. get_or to place 0)

    moved : (user : ℕ) → user < length next → onward at.places places user ≡ get_or next user 0
    moved user l =
        let there_is : user < length places = omega (arith, l, long) in
        at.same (get_or places user 0) (stand_within rules recorded start number ob to acts at parent there places standing user there_is)
        ∙ sym (get_or-map (λ place. get_or to place 0) places user 0 0 there_is) ∙ ap (λ list. get_or list user 0) (sym e)

    act_same : act ≡ act_of ob (length parent.needs) (onward at.places places)
    act_same =
        act_is
        ∙ act_agrees ob (length parent.needs) (λ user. get_or next user 0) (onward at.places places)
        (sym (moved (admin_place (pick_of ob) (target_of ob) (length parent.needs)) longer.2)) (sym (moved (target_of ob) longer.1))

    own : IsObligation rules parent.needs ob × (pre_form rules parent.needs ob ≡ Some at.entry.needs)
    own = is_parent rules recorded at.entry number ob parent there (has_parent rules recorded start number ob to acts at)

    comes : ComesFrom rules recorded at.entry parent ob places
    comes = record {
      number = number;
      origin = at.origin_is;
      parent_is = there;
      raw = standing.raw;
      raw_is = standing.raw_is;
      stand =
          subst (λ (form : List Need). AreFormPlaces standing.raw form places)
          (same_some standing.form at.entry.needs (sym standing.form_is ∙ own.1)) standing.stand;
    }

-- at a goal requirement the acts so far are the plan
pub ends_at : (rules : Rules) (recorded : List Entry) (start : Entry) (number : ℕ) (to : List ℕ) (acts : List Act)
    → IsAt rules recorded start (of_goal number) to acts → Plans rules recorded start (λ user. user) acts
ends_at rules recorded start number to acts at =
    subst (λ list. Plans rules recorded start (λ user. user) list) (append-nil acts) (at.rest [] (number, at.origin_is))

-- the way ends

-- how many entries there can still be on the way
abbrev pub left_of : Origin → ℕ
left_of (of_goal number) = 0
left_of (of_parent number ob) = suc number

-- a parent stands before its children
pub comes_nearer : (rules : Rules) (recorded : List Entry) (start : Entry) (number : ℕ) (ob : Obligation) (to : List ℕ) (acts : List Act)
    → IsAt rules recorded start (of_parent number ob) to acts
    → (parent : Entry) → slice_get recorded number ≡ Some parent → left_of parent.origin < suc number
comes_nearer rules recorded start number ob to acts at parent there =
    let derived = (at.list number parent there).derived in by_origin parent.origin derived.0 derived.1
  where
    by_origin : (origin : Origin) (needs : List Need) → IsOrigin rules at.goal (take number recorded) origin needs → left_of origin < suc number
    by_origin (of_goal goal) needs named = omega arith
    by_origin (of_parent before by) needs named = let below = (get_taken recorded number before named.0 named.1).0 in omega (arith, below)

-- the code's view

-- the recorded candidate of this number as an entry
pub candidate_there : (list : List Candidate) (number : ℕ) (one : Candidate) → number < length list → one ≡ get_or list number one
    → slice_get (entries_of list) number ≡ Some (entry_of one)
candidate_there list number one l e =
    get_map entry_of list number one (subst (λ v. slice_get list number ≡ Some v) (sym e) (get_at list number one l))

-- the parent is recorded
pub parent_recorded : (rules : Rules) (list : List Candidate) (start : Entry) (number : ℕ) (ob : Obligation) (to : List ℕ) (acts : List Act)
    → IsAt rules (entries_of list) start (of_parent number ob) to acts → number < length list
parent_recorded rules list start number ob to acts at =
    let has = has_parent rules (entries_of list) start number ob to acts at in
    subst (λ n. number < n) (length-map list entry_of) (get_below (entries_of list) number has.parent has.at)

-- its obligation's administrator is there, and its pre-image has a normal form
pub parent_has : (rules : Rules) (recorded : List Entry) (start : Entry) (number : ℕ) (ob : Obligation) (to : List ℕ) (acts : List Act)
    → IsAt rules recorded start (of_parent number ob) to acts
    → (parent : Entry) → slice_get recorded number ≡ Some parent
    → HasAdmin (length parent.needs) ob × IsSome (pre_form rules parent.needs ob)
parent_has rules recorded start number ob to acts at parent there =
    let own = is_parent rules recorded at.entry number ob parent there (has_parent rules recorded start number ob to acts at) in
    (has_admin rules parent.needs ob own.0, subst IsSome (sym own.1) refl)

-- an origin that names a parent
pub names_parent : (rules : Rules) (list : List Candidate) (start : Entry) (origin : From) (number : ℕ) (ob : Owed) (to : List ℕ) (acts : List Act)
    → IsAt rules (entries_of list) start (origin_of origin) to acts → origin ≡ Pre number ob
    → IsAt rules (entries_of list) start (of_parent number (owed_of ob)) to acts
names_parent rules list start origin number ob to acts at e = subst (λ o. IsAt rules (entries_of list) start (origin_of o) to acts) e at

-- the parent is the recorded candidate of this number
pub parent_there : (rules : Rules) (list : List Candidate) (start : Entry) (number : ℕ) (ob : Obligation) (to : List ℕ) (acts : List Act)
    → IsAt rules (entries_of list) start (of_parent number ob) to acts
    → (one : Candidate) → one ≡ get_or list number one → slice_get (entries_of list) number ≡ Some (entry_of one)
parent_there rules list start number ob to acts at one e =
    candidate_there list number one (parent_recorded rules list start number ob to acts at) e

-- users are as many with their marks as without
pub users_long : (users : List (Arc MarkedNeed Global)) (shared req : List MarkedNeed) → marked_of users ≡ shared → shared ≡ req
    → length users ≡ length (needs_marked req)
users_long users shared req e f =
    sym (length-map users (λ user. user.value)) ∙ ap length (e ∙ f) ∙ sym (length-map req (λ (user : MarkedNeed). user.need))
