-- Marks of requirements: what can be asked before a cover test.
use Rattle.std.specs.Prelude.{ℕ, ◌≡◌, ◌<◌, ◌≤◌, ◌⊎◌, ◌↔◌, List, [], ◌∷◌, length}
use Rattle.list_words.specs.Lists.{Some_of, IsOneOf}
use Rattle.role_order.specs.Roles.{IsIn, IsOut, IsWithin}
use Rattle.role_order.specs.Graph.{Graph}
use Rattle.role_order.specs.Reach.{seniors_of}
use Rattle.arbac_laws.specs.Needs.{Need}
use Rattle.search_laws.specs.Pruning.{HasHitWithin}
use Rattle.need_marks.specs.declared.marks.UserMark.{UserMark}
use Rattle.need_marks.specs.declared.marks.NeedMark.{NeedMark}
use Rattle.need_marks.specs.declared.marks.NeedQuery.{NeedQuery}

-- a role is aimed at where a hit of the user, less the lacks, lies within the role's seniors
abbrev pub AimsAt : Graph → Need → ℕ → Type 0
AimsAt order need role = (role < length order.names) × HasHitWithin (seniors_of order role) need

-- the mark has the roles that the user requirement aims at, and its lacks
pub record IsUserMark (order : Graph) (need : Need) (mark : UserMark) : Type 0 where
  pub aims : (role : ℕ) → IsIn mark.aims role ↔ AimsAt order need role
  pub lacks : mark.lacks ≡ need.lacks

-- the marks are those of the users, one by one
abbrev pub AreUserMarks : Graph → List Need → List UserMark → Type 0
AreUserMarks order [] [] = Unit {0}
AreUserMarks order [] (mark ∷ marks) = ⊥
AreUserMarks order (need ∷ needs) [] = ⊥
AreUserMarks order (need ∷ needs) (mark ∷ marks) = IsUserMark order need mark × AreUserMarks order needs marks

-- all that the mark has, the other has
pub record IsPart (mark other : UserMark) : Type 0 where
  pub aims : IsWithin mark.aims other.aims
  pub lacks : IsWithin mark.lacks other.lacks

-- the mark has nothing
pub record HasNothing (mark : UserMark) : Type 0 where
  pub aims : (role : ℕ) → IsOut mark.aims role
  pub lacks : (role : ℕ) → IsOut mark.lacks role

-- the mark has what some user has, the part of one user, and no more users than there are
pub record IsNeedMark (order : Graph) (needs : List Need) (mark : NeedMark) : Type 0 where
  pub aims : (role : ℕ) → IsIn mark.all.aims role → Some_of (λ need. AimsAt order need role) needs
  pub lacks : (role : ℕ) → IsIn mark.all.lacks role → Some_of (λ (need : Need). IsIn need.lacks role) needs
  pub heaviest : HasNothing mark.heaviest ⊎ ((need : Need) × (own : UserMark) × IsOneOf needs need × IsUserMark order need own × IsPart mark.heaviest own)
  pub users : mark.users ≤ length needs

-- the query has what each user has, and as many users
pub record IsNeedQuery (order : Graph) (needs : List Need) (query : NeedQuery) : Type 0 where
  pub aims : (role : ℕ) → Some_of (λ need. AimsAt order need role) needs → IsIn query.all.aims role
  pub lacks : (role : ℕ) → Some_of (λ (need : Need). IsIn need.lacks role) needs → IsIn query.all.lacks role
  pub each : AreUserMarks order needs query.each.now

-- the first mark lies within the second
pub record IsUnder (mark other : NeedMark) : Type 0 where
  pub all : IsPart mark.all other.all
  pub heaviest : IsPart mark.heaviest other.heaviest
  pub users : mark.users ≤ other.users

-- a requirement with the mark may cover the one that is asked for
pub record MayCover (query : NeedQuery) (mark : NeedMark) : Type 0 where
  pub all : IsPart mark.all query.all
  pub heaviest : HasNothing mark.heaviest ⊎ Some_of (IsPart mark.heaviest) query.each.now
  pub users : mark.users ≤ length query.each.now
