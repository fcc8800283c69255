-- What holds of every certificate that the code has: numbers of 32 bits, and sets as rising lists.
use Rattle.std.specs.Prelude.{◌<◌, ◌^◌}
use Rattle.list_words.specs.Lists.{Each}
use Rattle.role_order.specs.Roles.{Rises}
use Rattle.arbac_policy.specs.declared.act.Act.{Act}
use Rattle.arbac_laws.specs.Needs.{Need}
use Rattle.arbac_laws.specs.Obligations.{assigns, revokes}
use Rattle.arbac_laws.specs.Recorded.{Origin, of_goal, of_parent, Entry}
use Rattle.cert_text.specs.Certificates.{Certificate, reachable, unreachable, undecided}
use Rattle.cert_text.specs.LineForms.{IsWrittenPick}

-- the places of its users have 32 bits
abbrev pub IsSizedAct : Act → Type 0
IsSizedAct act = (act.admin < 2 ^ 32) × (act.target < 2 ^ 32)

-- each of its places has 32 bits
abbrev pub IsSizedOrigin : Origin → Type 0
IsSizedOrigin (of_goal number) = number < 2 ^ 32
IsSizedOrigin (of_parent parent (assigns rule conjunct role target pick)) =
    (parent < 2 ^ 32) × (rule < 2 ^ 32) × (conjunct < 2 ^ 32) × (target < 2 ^ 32) × IsWrittenPick pick
IsSizedOrigin (of_parent parent (revokes rule role target pick)) =
    (parent < 2 ^ 32) × (rule < 2 ^ 32) × (target < 2 ^ 32) × IsWrittenPick pick

-- the roles of each hit rise, and so do the lacks
pub record HasSets (need : Need) : Type 0 where
  pub hits : Each Rises need.hits
  pub lacks : Rises need.lacks

-- the places of the step's origin have 32 bits, and the sets of its users rise
pub record IsSizedEntry (entry : Entry) : Type 0 where
  pub origin : IsSizedOrigin entry.origin
  pub needs : Each HasSets entry.needs

-- each number of the certificate has 32 bits, and the roles of each of its sets rise
abbrev pub IsSized : Certificate → Type 0
IsSized (reachable start acts) = Each (λ profile. profile < 2 ^ 32) start × Each IsSizedAct acts
IsSized (unreachable needs) = Each (Each HasSets) needs
IsSized (undecided limit recorded next) = Each IsSizedEntry recorded × IsSizedEntry next
