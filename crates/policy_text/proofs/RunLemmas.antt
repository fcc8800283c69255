-- Right lines keep the limits.
use Rattle.std.proofs.Common.{ℕ, ◌<◌, ◌≤◌, List, [], ◌∷◌, ◌++◌, length, arith, sym, subst, zero, suc}
use Rattle.role_order.specs.declared.TheConstants.{MOST_ROLES}
use Rattle.arbac_policy.specs.declared.TheConstants.{MOST_EDGES, MOST_RULES, MOST_GOALS}
use Rattle.policy_text.specs.declared.TheConstants.{MOST_USERS, MOST_ACTS}
use Rattle.policy_text.specs.LineForms.{LineForm, a_role, an_edge, an_assign, a_revoke, a_user, an_act, a_goal}
use Rattle.policy_text.specs.Runs.{RunValue, nothing, Adds, AddAll, KeepsLimits, StandsFor}

one_more : {A : Type 0} (xs : List A) (x : A) (n : ℕ) → length xs < n → length (xs ++ x ∷ []) ≤ n
one_more [] x n h = h
one_more (y ∷ ys) x zero h = absurd (omega arith)
one_more (y ∷ ys) x (suc n) h = let l = one_more ys x n (omega arith) in omega arith

few_more : (run next : RunValue) (form : LineForm) → KeepsLimits run → Adds run form next → KeepsLimits next
few_more run next (a_role name) f a =
    subst KeepsLimits (sym a.extends)
    (record {
      names = one_more run.names name MOST_ROLES a.room;
      edges = f.edges;
      assign = f.assign;
      revoke = f.revoke;
      start = f.start;
      acts = f.acts;
      goal = f.goal;
    })
few_more run next (an_edge senior junior) f a =
    subst KeepsLimits (sym a.extends.3)
    (record {
      names = f.names;
      edges = one_more run.edges a.extends.0 MOST_EDGES a.room;
      assign = f.assign;
      revoke = f.revoke;
      start = f.start;
      acts = f.acts;
      goal = f.goal;
    })
few_more run next (an_assign admin range condition) f a =
    subst KeepsLimits (sym a.extends.4)
    (record {
      names = f.names;
      edges = f.edges;
      assign = one_more run.assign a.extends.0 MOST_RULES a.room;
      revoke = f.revoke;
      start = f.start;
      acts = f.acts;
      goal = f.goal;
    })
few_more run next (a_revoke admin range) f a =
    subst KeepsLimits (sym a.extends.3)
    (record {
      names = f.names;
      edges = f.edges;
      assign = f.assign;
      revoke = one_more run.revoke a.extends.0 MOST_RULES a.room;
      start = f.start;
      acts = f.acts;
      goal = f.goal;
    })
few_more run next (a_user names) f a =
    subst KeepsLimits (sym a.extends.2)
    (record {
      names = f.names;
      edges = f.edges;
      assign = f.assign;
      revoke = f.revoke;
      start = one_more run.start a.extends.0 MOST_USERS a.room;
      acts = f.acts;
      goal = f.goal;
    })
few_more run next (an_act act) f a =
    subst KeepsLimits (sym a.extends.5)
    (record {
      names = f.names;
      edges = f.edges;
      assign = f.assign;
      revoke = f.revoke;
      start = f.start;
      acts = one_more run.acts a.extends.0
          MOST_ACTS a.room;
      goal = f.goal;
    })
few_more run next (a_goal condition) f a =
    subst KeepsLimits (sym a.extends.2)
    (record {
      names = f.names;
      edges = f.edges;
      assign = f.assign;
      revoke = f.revoke;
      start = f.start;
      acts = f.acts;
      goal = one_more run.goal
          a.extends.0 MOST_GOALS a.room;
    })

few_all : (run last : RunValue) (lines : List LineForm) → KeepsLimits run → AddAll run lines last → KeepsLimits last
few_all run last [] f a = subst KeepsLimits (sym a) f
few_all run last (line ∷ lines) f a = few_all a.0 last lines (few_more run a.0 line f a.1) a.2

pub few_nothing : (last : RunValue) (lines : List LineForm) → AddAll nothing lines last → KeepsLimits last
few_nothing last lines a =
    few_all nothing last lines
    (record {
      names = omega arith;
      edges = omega arith;
      assign = omega arith;
      revoke = omega arith;
      start = omega arith;
      acts = omega arith;
      goal = omega arith;
    }) a

-- a run text keeps the limits
pub few_of : (bytes : List ℕ) (run : RunValue) → StandsFor bytes run → KeepsLimits run
few_of bytes run h = few_nothing run h.read.lines h.read.added
