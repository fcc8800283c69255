-- What a certificate text stands for.
use Rattle.std.specs.Prelude.{ℕ, ◌≡◌, ◌<◌, ◌≤◌, List, map, length, Result, Ok, Err}
use Rattle.list_words.specs.Lists.{Each}
use Rattle.role_order.specs.Roles.{AreBelow, IsIn}
use Rattle.arbac_policy.specs.declared.act.Act.{Act}
use Rattle.arbac_laws.specs.Needs.{Need}
use Rattle.arbac_laws.specs.PreImages.{Pick, itself, other, fresh}
use Rattle.arbac_laws.specs.Obligations.{assigns, revokes, role_of}
use Rattle.arbac_laws.specs.Recorded.{Origin, of_goal, of_parent, Entry}
use Rattle.arbac_laws.specs.Views.{needs_of}
use Rattle.cert_text.specs.declared.TheConstants.{MOST_LIMIT}
use Rattle.cert_text.specs.declared.cert.Cert.{Cert}
use Rattle.cert_text.specs.declared.cert.Cert.TheVariants as certs
use Rattle.cert_text.specs.declared.cert.Need as code
use Rattle.cert_text.specs.declared.cert.Step.{Step}
use Rattle.cert_text.specs.declared.cert.StepFrom.{StepFrom}
use Rattle.cert_text.specs.declared.cert.StepFrom.TheVariants as origins
use Rattle.cert_text.specs.declared.cert.Who.{Who}
use Rattle.cert_text.specs.declared.cert.Who.TheVariants as who
use Rattle.cert_text.specs.declared.cert_error.CertError.{CertError}
use Rattle.cert_text.specs.declared.cert_error.CertError.TheVariants.{Memory}

-- that a question is reachable: the profiles of the users at the start, and acts; that it isn't: requirements that are
-- closed; or that a limit came first: as many requirements with their origins, and one more
pub data Certificate : Type 0 where
  reachable : List ℕ → List Act → Certificate
  unreachable : List (List Need) → Certificate
  undecided : ℕ → List Entry → Entry → Certificate

-- who administers, as the code has it
abbrev pub pick_of : Who → Pick
pick_of who.Itself = itself
pick_of (who.Other place) = other place
pick_of who.Fresh = fresh

-- where a step comes from
abbrev pub origin_of : StepFrom → Origin
origin_of (origins.Goal place) = of_goal place
origin_of (origins.Assign parent rule conjunct role target admin) = of_parent parent (assigns rule conjunct role target (pick_of admin))
origin_of (origins.Weak parent rule role target admin) = of_parent parent (revokes rule role target (pick_of admin))

-- the users of a requirement
abbrev pub users_of : code.Need → List Need
users_of need = needs_of need.users.items

-- a step, as the laws have it
abbrev pub entry_of : Step → Entry
entry_of step = record { origin = origin_of step.origin; needs = users_of step.need }

-- the certificate's parts
abbrev pub plain_of : Cert → Certificate
plain_of (certs.Reachable start acts) = reachable start.items acts.items
plain_of (certs.Unreachable needs) = unreachable (map users_of needs.items)
plain_of (certs.Undecided limit recorded next) = undecided limit (map entry_of recorded.items) (entry_of next)

-- each role is below the count, and each hit has one
pub record IsWritten (count : ℕ) (need : Need) : Type 0 where
  pub hits : Each (AreBelow count) need.hits
  pub lacks : AreBelow count need.lacks
  pub filled : Each (λ hit. (role : ℕ) × IsIn hit role) need.hits

-- the role of its act, if it has one, is below the count
abbrev pub IsKnownOrigin : ℕ → Origin → Type 0
IsKnownOrigin count (of_goal number) = Unit {0}
IsKnownOrigin count (of_parent parent ob) = role_of ob < count

-- so is each role of the step
pub record IsWrittenEntry (count : ℕ) (entry : Entry) : Type 0 where
  pub origin : IsKnownOrigin count entry.origin
  pub needs : Each (IsWritten count) entry.needs

-- it can be written under an order of so many roles: its roles are below the count, each hit has one, and where it is
-- undecided the limit is one that may be told, and some step is recorded
abbrev pub IsCertificate : ℕ → Certificate → Type 0
IsCertificate count (reachable start acts) = Each (λ (act : Act). act.role < count) acts
IsCertificate count (unreachable needs) = Each (Each (IsWritten count)) needs
IsCertificate count (undecided limit recorded next) =
    (1 ≤ limit) × (limit ≤ MOST_LIMIT) × (1 ≤ length recorded) × Each (IsWrittenEntry count) recorded × IsWrittenEntry count next

-- the certificate that was read has these parts, unless memory ran out
abbrev pub Reads : Result Cert CertError → Certificate → Type 0
Reads (Ok cert) value = plain_of cert ≡ value
Reads (Err error) value = error ≡ Memory
