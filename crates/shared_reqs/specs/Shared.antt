-- Requirements whose user requirements carry their marks.
use Rattle.std.specs.Prelude.{Bool, List, map}
use Rattle.std.specs.Borrow.{Bor}
use Rattle.std.specs.declared.alloc.Global.{Global}
use Rattle.std.specs.declared.sync.Arc.{Arc}
use Rattle.list_words.specs.Lists.{Each}
use Rattle.role_order.specs.Graph.{Graph}
use Rattle.arbac_laws.specs.Needs.{Need}
use Rattle.arbac_laws.specs.Orders.{need_before}
use Rattle.need_marks.specs.declared.marks.UserMark.{UserMark}
use Rattle.need_marks.specs.Marks.{IsUserMark}

-- a user requirement with a mark
pub record MarkedNeed : Type 0 where
  pub need : Need
  pub mark : UserMark

-- the mark is its own
abbrev pub IsOwnMark : Graph → MarkedNeed → Type 0
IsOwnMark order one = IsUserMark order one.need one.mark

-- each has its own mark
abbrev pub AreOwnMarks : Graph → List MarkedNeed → Type 0
AreOwnMarks order users = Each (IsOwnMark order) users

-- the user requirements without their marks
abbrev pub needs_marked : List MarkedNeed → List Need
needs_marked users = map (λ (user : MarkedNeed). user.need) users

-- the marks alone
abbrev pub marks_marked : List MarkedNeed → List UserMark
marks_marked users = map (λ (user : MarkedNeed). user.mark) users

-- what the shared ones are
abbrev pub marked_of : List (Arc MarkedNeed Global) → List MarkedNeed
marked_of users = map (λ user. user.value) users

-- the same without their marks
abbrev pub needs_shared : List (Arc MarkedNeed Global) → List Need
needs_shared users = needs_marked (marked_of users)

-- what the borrowed ones are
abbrev pub marked_by : List (Bor (Arc MarkedNeed Global)) → List MarkedNeed
marked_by users = map (λ user. user.now.value) users

-- by what is wanted, whatever the marks
abbrev pub marked_before : MarkedNeed → MarkedNeed → Bool
marked_before a b = need_before a.need b.need

-- the same of shared ones
abbrev pub shared_before : Arc MarkedNeed Global → Arc MarkedNeed Global → Bool
shared_before a b = marked_before a.value b.value
