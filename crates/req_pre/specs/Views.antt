-- Lists of conjuncts and obligations as the laws see them.
use Rattle.std.specs.Prelude.{List, map, Vec}
use Rattle.std.specs.declared.alloc.Global.{Global}
use Rattle.arbac_policy.specs.declared.conjunct.Conjunct.{Conjunct}
use Rattle.arbac_laws.specs.Needs.{Need}
use Rattle.arbac_laws.specs.Views.{needs_of}
use Rattle.arbac_laws.specs.PreImages.{Pick as Picked, itself, other, fresh}
use Rattle.arbac_laws.specs.Obligations.{Obligation as Owed, assigns, revokes}
use Rattle.req_pre.specs.declared.owed.Pick.{Pick}
use Rattle.req_pre.specs.declared.owed.Pick.TheVariants.{Itself, Other, Fresh}
use Rattle.req_pre.specs.declared.owed.Obligation.{Obligation}
use Rattle.req_pre.specs.declared.owed.Obligation.TheVariants.{Assign, Weak}

-- each list of conjuncts
abbrev pub lists_of : List (Vec Conjunct Global) → List (List Need)
lists_of lists = map (λ list. needs_of list.items) lists

-- an administrator as the laws see it
abbrev pub pick_of : Pick → Picked
pick_of Itself = itself
pick_of (Other place) = other place
pick_of Fresh = fresh

-- an obligation as the laws see it
abbrev pub owed_of : Obligation → Owed
owed_of (Assign rule conjunct role target admin) = assigns rule conjunct role target (pick_of admin)
owed_of (Weak rule role target admin) = revokes rule role target (pick_of admin)
