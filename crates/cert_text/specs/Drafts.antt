-- The grammar of certificate texts: what the lines so far say, and how a line goes on.
use Rattle.std.specs.Prelude.{ℕ, ◌≡◌, ◌+◌, ◌≤◌, List, [], ◌∷◌, ◌++◌, map, length, codes}
use Rattle.list_words.specs.Lists.{Each}
use Rattle.arbac_policy.specs.declared.act.Act.{Act}
use Rattle.arbac_laws.specs.Needs.{Need}
use Rattle.arbac_laws.specs.Obligations.{assigns, revokes}
use Rattle.arbac_laws.specs.Recorded.{Origin, of_goal, of_parent, Entry}
use Rattle.cond_text.specs.Named.{Names, NamesSet}
use Rattle.text_lines.specs.Lines.{split}
use Rattle.text_lines.specs.Acts.{WrittenAct}
use Rattle.cert_text.specs.Certificates.{Certificate, reachable, unreachable, undecided}
use Rattle.cert_text.specs.LineForms.{WrittenOrigin, a_goal, an_assign, a_weak, LineForm, IsWellFormed, spell}
use Rattle.cert_text.specs.LineForms.{a_reachable, an_unreachable, an_undecided, a_start, an_act, a_need, a_step, a_next, a_user}

-- what the lines so far say: nothing; users and acts; requirements; a limit and steps; or the same with the step after them
pub data Draft : Type 0 where
  nothing : Draft
  plan : List ℕ → List Act → Draft
  list : List (List Need) → Draft
  steps : ℕ → List Entry → Draft
  last : ℕ → List Entry → Entry → Draft

-- the line is in its place: the kind first, users before acts, users of requirements behind one, the step after the
-- recorded ones behind at least one
abbrev pub MayStand : Draft → LineForm → Type 0
MayStand nothing a_reachable = Unit {0}
MayStand nothing an_unreachable = Unit {0}
MayStand nothing (an_undecided limit) = Unit {0}
MayStand (plan start acts) (a_start profile) = length acts ≡ 0
MayStand (plan start acts) (an_act act) = Unit {0}
MayStand (list needs) a_need = Unit {0}
MayStand (list needs) (a_user hits lacks) = 1 ≤ length needs
MayStand (steps limit recorded) (a_step origin) = Unit {0}
MayStand (steps limit recorded) (a_user hits lacks) = 1 ≤ length recorded
MayStand (steps limit recorded) (a_next origin) = 1 ≤ length recorded
MayStand (last limit recorded next) (a_user hits lacks) = Unit {0}
MayStand draft line = ⊥

-- the act with its role's number
pub record NamesAct (names : List (List ℕ)) (written : WrittenAct) (act : Act) : Type 0 where
  pub kind : act.kind ≡ written.kind
  pub admin : act.admin ≡ written.admin
  pub target : act.target ≡ written.target
  pub role : Names names written.role act.role

-- the origin with its role's number
abbrev pub NamesOrigin : List (List ℕ) → WrittenOrigin → Origin → Type 0
NamesOrigin names (a_goal place) origin = origin ≡ of_goal place
NamesOrigin names (an_assign parent rule conjunct role target admin) origin =
    (number : ℕ) × Names names role number × (origin ≡ of_parent parent (assigns rule conjunct number target admin))
NamesOrigin names (a_weak parent rule role target admin) origin =
    (number : ℕ) × Names names role number × (origin ≡ of_parent parent (revokes rule number target admin))

-- each list of names is that of the roles of a set, one by one
abbrev pub NameSets : List (List ℕ) → List (List (List ℕ)) → List (List ℕ) → Type 0
NameSets names [] sets = sets ≡ []
NameSets names (words ∷ more) sets =
    (set : List ℕ) × (rest : List (List ℕ)) × NamesSet names words set × NameSets names more rest × (sets ≡ set ∷ rest)

-- the user requirement whose hits and lacks have these names
pub record NamesNeed (names : List (List ℕ)) (hits : List (List (List ℕ))) (lacks : List (List ℕ)) (need : Need) : Type 0 where
  pub hits_are : NameSets names hits need.hits
  pub lacks_are : NamesSet names lacks need.lacks

-- the list with its last item changed
abbrev pub in_last : {A : Type 0} → (A → A) → List A → List A
in_last change [] = []
in_last change (x ∷ []) = change x ∷ []
in_last change (x ∷ y ∷ ys) = x ∷ in_last change (y ∷ ys)

-- the requirement with one more user
abbrev pub with_user : Need → List Need → List Need
with_user need users = users ++ need ∷ []

-- the step with one more user
abbrev pub with_step_user : Need → Entry → Entry
with_step_user need entry = record { origin = entry.origin; needs = entry.needs ++ need ∷ [] }

-- a step without users yet
abbrev pub new_step : Origin → Entry
new_step origin = record { origin = origin; needs = [] }

-- with what the line says, the draft becomes the next
abbrev pub Extends : List (List ℕ) → Draft → LineForm → Draft → Type 0
Extends names nothing a_reachable next = next ≡ plan [] []
Extends names nothing an_unreachable next = next ≡ list []
Extends names nothing (an_undecided limit) next = next ≡ steps limit []
Extends names (plan start acts) (a_start profile) next = next ≡ plan (start ++ profile ∷ []) acts
Extends names (plan start acts) (an_act written) next = (act : Act) × NamesAct names written act × (next ≡ plan start (acts ++ act ∷ []))
Extends names (list needs) a_need next = next ≡ list (needs ++ [] ∷ [])
Extends names (list needs) (a_user hits lacks) next = (need : Need) × NamesNeed names hits lacks need × (next ≡ list (in_last (with_user need) needs))
Extends names (steps limit recorded) (a_step written) next =
    (origin : Origin) × NamesOrigin names written origin × (next ≡ steps limit (recorded ++ new_step origin ∷ []))
Extends names (steps limit recorded) (a_user hits lacks) next =
    (need : Need) × NamesNeed names hits lacks need × (next ≡ steps limit (in_last (with_step_user need) recorded))
Extends names (steps limit recorded) (a_next written) next =
    (origin : Origin) × NamesOrigin names written origin × (next ≡ last limit recorded (new_step origin))
Extends names (last limit recorded entry) (a_user hits lacks) next =
    (need : Need) × NamesNeed names hits lacks need × (next ≡ last limit recorded (with_step_user need entry))
Extends names draft line next = ⊥

-- the line is right behind what the draft says so far, and makes it the next
pub record Adds (names : List (List ℕ)) (draft : Draft) (line : LineForm) (next : Draft) : Type 0 where
  pub place : MayStand draft line
  pub extends : Extends names draft line next

-- the lines are right one behind another, and make the draft the last
abbrev pub AddAll : List (List ℕ) → Draft → List LineForm → Draft → Type 0
AddAll names draft [] end = end ≡ draft
AddAll names draft (line ∷ lines) end = (next : Draft) × Adds names draft line next × AddAll names next lines end

-- the draft is whole, and is this certificate
abbrev pub IsWhole : Draft → Certificate → Type 0
IsWhole nothing cert = ⊥
IsWhole (plan start acts) cert = cert ≡ reachable start acts
IsWhole (list needs) cert = cert ≡ unreachable needs
IsWhole (steps limit recorded) cert = ⊥
IsWhole (last limit recorded next) cert = cert ≡ undecided limit recorded next

-- the line `end` may stand here
abbrev pub MayEnd : Draft → Type 0
MayEnd draft = (cert : Certificate) × IsWhole draft cert

-- behind the first line, right lines say so much of a certificate; the lines `left` are left, the first of which has this
-- number, and then a part of a line
pub record IsReadTo (names : List (List ℕ)) (bytes : List ℕ) (draft : Draft) (number : ℕ) (left : List (List ℕ)) (part : List ℕ) : Type 0 where
  pub lines : List LineForm
  pub formed : Each IsWellFormed lines
  pub text : split bytes ≡ (codes "arbac certificate 1" ∷ (map spell lines ++ left), part)
  pub added : AddAll names nothing lines draft
  pub number_is : number ≡ 2 + length lines

-- under the names of the roles the text is that of the certificate: the first line, right lines that make it whole, `end`,
-- and nothing more
pub record StandsFor (names : List (List ℕ)) (bytes : List ℕ) (cert : Certificate) : Type 0 where
  pub draft : Draft
  pub number : ℕ
  pub read : IsReadTo names bytes draft number (codes "end" ∷ []) []
  pub whole : IsWhole draft cert
