-- Small policies, worked.
use Rattle.std.specs.Prelude.{ℕ, List, [], ◌∷◌, false, Some, None, codes}
use Rattle.role_order.specs.declared.range.Range.{Range}
use Rattle.arbac_policy.specs.declared.cond.Cond.TheVariants.{Any, Has, Lacks, Or}
use Rattle.arbac_policy.specs.declared.profile.Profile.{Profile}
use Rattle.arbac_policy.specs.declared.rule.CanAssign.{CanAssign}
use Rattle.arbac_policy.specs.declared.rule.CanRevoke.{CanRevoke}
use Rattle.arbac_policy.specs.Rules.{Rules, policy_of}
use Rattle.arbac_laws.specs.Needs.{Need}
use Rattle.arbac_laws.specs.PreImages.{fresh}
use Rattle.arbac_laws.specs.Obligations.{assigns}
use Rattle.arbac_laws.specs.Recorded.{Entry, of_goal, of_parent}
use Rattle.arbac_laws.specs.Relevance.{Slice}

-- the administrative role
abbrev pub adm : ℕ
adm = 0

-- the role that the goal wants
abbrev pub c : ℕ
c = 1

-- the range of the role alone
abbrev pub only : ℕ → Range
only role = record { low = role; high = role; low_open = false; high_open = false }

-- members of adm may give c to whoever is no member of adm
abbrev pub mix_rule : CanAssign
mix_rule = record { admin = adm; cond = Lacks adm; range = only c }

-- they may take adm away from anyone
abbrev pub mix_revoke : CanRevoke
mix_revoke = record { admin = adm; range = only adm }

-- a policy of these two rules
abbrev pub mix : Rules
mix = record {
  order = record { names = codes "adm" ∷ codes "c" ∷ []; edges = [] };
  assign = mix_rule ∷ [];
  revoke = mix_revoke ∷ [];
  assignp = [];
  revokep = [];
  exclusive = [];
}

-- at most one user starts with adm
abbrev pub one_admin : List Profile
one_admin = record { set = adm ∷ []; most = Some 1 } ∷ []

-- who has the role
abbrev pub hits : ℕ → Need
hits role = record { hits = (role ∷ []) ∷ []; lacks = [] }

-- who doesn't have the role
abbrev pub without : ℕ → Need
without role = record { hits = []; lacks = role ∷ [] }

-- anyone at all
abbrev pub anyone : Need
anyone = record { hits = []; lacks = [] }

-- a user with c; a user without adm beside one with it; any user beside one with adm
abbrev pub mix_needs : List (List Need)
mix_needs = (hits c ∷ []) ∷ (without adm ∷ hits adm ∷ []) ∷ (anyone ∷ hits adm ∷ []) ∷ []

-- a third role
abbrev pub d : ℕ
d = 2

-- with a third role, and these exclusive pairs
abbrev pub mix_apart : List (ℕ × ℕ) → Rules
mix_apart pairs = record {
  order = record { names = codes "adm" ∷ codes "c" ∷ codes "d" ∷ []; edges = [] };
  assign = mix_rule ∷ [];
  revoke = mix_revoke ∷ [];
  assignp = [];
  revokep = [];
  exclusive = pairs;
}

-- a hit that either role meets
abbrev pub hits_either : ℕ → ℕ → Need
hits_either first second = record { hits = (first ∷ second ∷ []) ∷ []; lacks = [] }

-- a hit for each of them
abbrev pub hits_both : ℕ → ℕ → Need
hits_both first second = record { hits = (first ∷ []) ∷ (second ∷ []) ∷ []; lacks = [] }

-- a hit and a lack
abbrev pub hits_without : ℕ → ℕ → Need
hits_without held lacked = record { hits = (held ∷ []) ∷ []; lacks = lacked ∷ [] }

-- without d, the first hit is within the second
abbrev pub untidy : Need
untidy = record { hits = (c ∷ d ∷ []) ∷ (adm ∷ c ∷ []) ∷ []; lacks = d ∷ [] }

-- at most two users start with adm
abbrev pub two_admins : List Profile
two_admins = record { set = adm ∷ []; most = Some 2 } ∷ []

-- one user with adm, and any number of others with it
abbrev pub many_admins : List Profile
many_admins = record { set = adm ∷ []; most = Some 1 } ∷ record { set = adm ∷ []; most = None } ∷ []

-- what none who are drawn so meet: the goal c, and what must hold before a new user gives it
abbrev pub mix_entries : List Entry
mix_entries =
    record { origin = of_goal 0; needs = hits c ∷ [] }
    ∷ record { origin = of_parent 0 (assigns 0 0 c 0 fresh); needs = without adm ∷ hits adm ∷ [] }
    ∷ []

-- what matters for c: whether one has adm or c, whether one lacks adm, and both rules
abbrev pub mix_slice : Slice
mix_slice = record { wanted = adm ∷ c ∷ []; barred = adm ∷ []; assign = 0 ∷ []; revoke = 0 ∷ [] }

-- what matters for adm, which no rule gives: whether one has it
abbrev pub adm_slice : Slice
adm_slice = record { wanted = adm ∷ []; barred = []; assign = []; revoke = [] }

-- members of adm may give c and d, which exclude each other
abbrev pub pair_policy : Rules
pair_policy = policy_of
    (record { names = codes "adm" ∷ codes "c" ∷ codes "d" ∷ []; edges = [] })
    (record { admin = adm; cond = Any; range = only c } ∷ record { admin = adm; cond = Any; range = only d } ∷ [])
    [] [] []
    ((c, d) ∷ [])

-- members of adm may give c to members of adm and to those without d, and may take d away; members of d
-- may give c to anyone
abbrev pub giver_policy : Rules
giver_policy = policy_of
    (record { names = codes "adm" ∷ codes "c" ∷ codes "d" ∷ []; edges = [] })
    (record { admin = adm; cond = Or (Has adm) (Lacks d); range = only c } ∷ record { admin = d; cond = Any; range = only c } ∷ [])
    (record { admin = adm; range = only d } ∷ [])
    [] [] []

-- adm is above d, and members of d may give both to members of d
abbrev pub senior_policy : Rules
senior_policy = policy_of
    (record { names = codes "adm" ∷ codes "c" ∷ codes "d" ∷ []; edges = (adm, d) ∷ [] })
    (record { admin = d; cond = Has d; range = record { low = d; high = adm; low_open = false; high_open = false } } ∷ [])
    [] [] [] []
