-- The small policy, searched, and smaller ones.
use Rattle.std.specs.Prelude.{ℕ, List, [], ◌∷◌, Some, None, codes}
use Rattle.arbac_policy.specs.declared.act.Act.{Act}
use Rattle.arbac_policy.specs.declared.act.ActKind.TheVariants.{Assign}
use Rattle.arbac_policy.specs.declared.cond.Cond.TheVariants.{Any}
use Rattle.arbac_policy.specs.declared.profile.Profile.{Profile}
use Rattle.arbac_policy.specs.Truth.{Term, has}
use Rattle.arbac_policy.specs.Rules.{Rules, policy_of}
use Rattle.arbac_laws.specs.Needs.{Need}
use Rattle.arbac_laws.specs.PreImages.{itself, other, fresh}
use Rattle.arbac_laws.specs.Obligations.{Obligation, assigns, revokes}
use Rattle.arbac_laws.specs.Recorded.{Entry, of_goal, of_parent}
use Rattle.arbac_laws.specs.Rows.{mix, adm, c, d, only, hits, hits_both, without, anyone}
use Rattle.search_laws.specs.Rounds.{Search}

-- users of these profiles are to come to c
abbrev pub mix_search : List Profile → ℕ → Search
mix_search profiles limit = record { rules = mix; profiles = profiles; goal = has c ∷ []; barriers = []; limit = limit }

-- a user with c
abbrev pub goal_entry : Entry
goal_entry = record { origin = of_goal 0; needs = hits c ∷ [] }

-- a new user with adm gives c to one without adm
abbrev pub given_entry : Entry
given_entry = record { origin = of_parent 0 (assigns 0 0 c 0 fresh); needs = without adm ∷ hits adm ∷ [] }

-- who loses adm takes it away from himself
abbrev pub own_entry : Entry
own_entry = record { origin = of_parent 1 (revokes 0 adm 0 itself); needs = hits adm ∷ hits adm ∷ [] }

-- the user with adm takes it away from the other
abbrev pub taken_entry : Entry
taken_entry = record { origin = of_parent 1 (revokes 0 adm 0 (other 1)); needs = anyone ∷ hits adm ∷ [] }

-- a third user takes it away
abbrev pub third_entry : Entry
third_entry = record { origin = of_parent 1 (revokes 0 adm 0 fresh); needs = anyone ∷ hits adm ∷ hits adm ∷ [] }

-- the candidates of the third round
abbrev pub third_round : List Entry
third_round = own_entry ∷ taken_entry ∷ third_entry ∷ []

-- all that is recorded where no two users start with adm
abbrev pub three_entries : List Entry
three_entries = goal_entry ∷ given_entry ∷ taken_entry ∷ []

-- one requirement with another origin
abbrev pub again_entry : Entry
again_entry = record { origin = of_goal 1; needs = hits c ∷ [] }

-- a user with adm
abbrev pub adm_entry : Entry
adm_entry = record { origin = of_goal 2; needs = hits adm ∷ [] }

-- a search over these barriers, which may record 4096 entries
abbrev pub search_of : Rules → List Profile → List Term → List (List Need) → Search
search_of rules profiles goal barriers = record { rules = rules; profiles = profiles; goal = goal; barriers = barriers; limit = 4096 }

-- the first goal requirement
abbrev pub goal_of : List Need → Entry
goal_of needs = record { origin = of_goal 0; needs = needs }

-- what an obligation of the entry recorded at the place wants before it
abbrev pub before_of : ℕ → Obligation → List Need → Entry
before_of parent ob needs = record { origin = of_parent parent ob; needs = needs }

-- the user at place 0 gives himself the role
abbrev pub takes : ℕ → Act
takes role = record { kind = Assign; admin = 0; target = 0; role = role }

-- members of adm may give c to anyone
abbrev pub gift_policy : Rules
gift_policy = policy_of
    (record { names = codes "adm" ∷ codes "c" ∷ []; edges = [] })
    (record { admin = adm; cond = Any; range = only c } ∷ [])
    [] [] [] []

-- who has adm gives himself c
abbrev pub own_gift : Entry
own_gift = before_of 0 (assigns 0 0 c 0 itself) (hits adm ∷ [])

-- the first role of policies without rules
abbrev pub a : ℕ
a = 0

-- their second role
abbrev pub b : ℕ
b = 1

-- one role and no rules
abbrev pub one_role : Rules
one_role = policy_of (record { names = codes "a" ∷ []; edges = [] }) [] [] [] [] []

-- two roles and no rules
abbrev pub two_roles : Rules
two_roles = policy_of (record { names = codes "a" ∷ codes "b" ∷ []; edges = [] }) [] [] [] [] []

-- no user starts with a
abbrev pub no_user : List Profile
no_user = record { set = a ∷ []; most = Some 0 } ∷ []

-- at most one user starts with a
abbrev pub one_user : List Profile
one_user = record { set = a ∷ []; most = Some 1 } ∷ []

-- any number of users start with a
abbrev pub any_number : List Profile
any_number = record { set = a ∷ []; most = None } ∷ []

-- at most one user starts with both roles, and at most two with a alone
abbrev pub three_users : List Profile
three_users = record { set = a ∷ b ∷ []; most = Some 1 } ∷ record { set = a ∷ []; most = Some 2 } ∷ []

-- two users with a and one with b
abbrev pub three_needs : List Need
three_needs = hits a ∷ hits a ∷ hits b ∷ []

-- members of adm may give c and d
abbrev pub free_policy : Rules
free_policy = policy_of
    (record { names = codes "adm" ∷ codes "c" ∷ codes "d" ∷ []; edges = [] })
    (record { admin = adm; cond = Any; range = only c } ∷ record { admin = adm; cond = Any; range = only d } ∷ [])
    [] [] [] []

-- what is wanted before a user with both c and d was given the last of them, by himself or by a new user
abbrev pub half_entries : List Entry
half_entries =
    before_of 0 (assigns 1 0 d 0 itself) (hits_both adm c ∷ [])
    ∷ before_of 0 (assigns 0 0 c 0 itself) (hits_both adm d ∷ [])
    ∷ before_of 0 (assigns 1 0 d 0 fresh) (hits adm ∷ hits c ∷ [])
    ∷ before_of 0 (assigns 0 0 c 0 fresh) (hits adm ∷ hits d ∷ [])
    ∷ []

-- all that is recorded on the way to both
abbrev pub both_entries : List Entry
both_entries = goal_of (hits_both c d ∷ []) ∷ half_entries

-- who has adm gives himself c, and d after it
abbrev pub both_gift : Entry
both_gift = before_of 1 (assigns 0 0 c 0 itself) (hits adm ∷ [])
