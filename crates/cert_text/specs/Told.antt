-- What is read of a form: the sets of the roles that it names, and nothing of them where a name is that of no role.
use Rattle.std.specs.Prelude.{ℕ, ◌≡◌, List, [], ◌∷◌, ◌++◌, fold, Option, Some, None}
use Rattle.role_order.specs.Names.{place_of}
use Rattle.role_order.specs.Roles.{with_role}
use Rattle.arbac_laws.specs.Needs.{Need}
use Rattle.cond_text.specs.Cuts.{◌>>=◌}
use Rattle.cert_text.specs.declared.origins.WrittenFrom.{WrittenFrom}
use Rattle.cert_text.specs.declared.origins.WrittenFrom.TheVariants as w
use Rattle.cert_text.specs.Certificates.{pick_of}
use Rattle.cert_text.specs.LineForms.{WrittenOrigin, a_goal, an_assign, a_weak}

-- something is given, and what was read tells it
pub record IsGiven {A B : Type 0} (Rel : A → B → Type 0) (read : A) (given : Option B) : Type 0 where
  pub value : B
  pub given_is : given ≡ Some value
  pub tells : Rel read value

-- what was read tells what is given; nothing was read where nothing is given
abbrev pub Agrees : {A B : Type 0} → (A → B → Type 0) → Option A → Option B → Type 0
Agrees Rel (Some read) given = IsGiven Rel read given
Agrees Rel None given = given ≡ None

-- the origin as the code has it
abbrev pub origin_view : WrittenFrom → WrittenOrigin
origin_view (w.Goal place) = a_goal place
origin_view (w.Assign parent rule conjunct role target admin) = an_assign parent rule conjunct role.now target (pick_of admin)
origin_view (w.Weak parent rule role target admin) = a_weak parent rule role.now target (pick_of admin)

-- the set with the role of the name, if both are there
abbrev pub with_named : List (List ℕ) → Option (List ℕ) → List ℕ → Option (List ℕ)
with_named names set name = do
  known ← set
  role ← place_of names name
  Some (with_role known role)

-- the set with the roles of these names too
abbrev pub set_behind : List (List ℕ) → Option (List ℕ) → List (List ℕ) → Option (List ℕ)
set_behind names set words = fold (with_named names) set words

-- the set of the roles of these names
abbrev pub set_named : List (List ℕ) → List (List ℕ) → Option (List ℕ)
set_named names words = set_behind names (Some []) words

-- the sets with one more, if both are there
abbrev pub with_set : Option (List (List ℕ)) → Option (List ℕ) → Option (List (List ℕ))
with_set sets set = do
  known ← sets
  more ← set
  Some (known ++ more ∷ [])

-- the sets with those of these hits too
abbrev pub sets_behind : List (List ℕ) → Option (List (List ℕ)) → List (List (List ℕ)) → Option (List (List ℕ))
sets_behind names sets hits = fold (λ known hit. with_set known (set_named names hit)) sets hits

-- the user requirement of these hits and lacks, if both are there
abbrev pub need_with : Option (List (List ℕ)) → Option (List ℕ) → Option Need
need_with hits lacks = do
  sets ← hits
  set ← lacks
  Some (record { hits = sets; lacks = set })

-- the user requirement of these hits and lacks, with these sets before the hits
abbrev pub user_behind : List (List ℕ) → Option (List (List ℕ)) → List (List (List ℕ)) × List (List ℕ) → Option Need
user_behind names sets user = need_with (sets_behind names sets user.0) (set_named names user.1)

-- the user requirement of these hits and lacks
abbrev pub user_named : List (List ℕ) → List (List (List ℕ)) × List (List ℕ) → Option Need
user_named names user = user_behind names (Some []) user
