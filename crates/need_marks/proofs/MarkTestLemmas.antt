-- What marks have, by tests.
use Rattle.std.proofs.Common.{ℕ, ◌≡◌, ◌∙◌, Bool, true, false, eqb, List, [], ◌∷◌, refl, sym, inl, inr}
use Rattle.std.specs.Prelude.{◌⊎◌, ◌↔◌, IsTrue}
use Rattle.std.specs.List.{list_any}
use Rattle.std.proofs.lemmas.Bool.{eq-eqb}
use Rattle.list_words.specs.Lists.{Some_of}
use Rattle.list_words.proofs.TestLemmas.{or_none, or_right, and_both, both_true}
use Rattle.role_order.specs.Roles.{has_role, is_within, common_roles, IsOut, IsWithin}
use Rattle.role_order.proofs.SetLemmas.{has_role-filter}
use Rattle.arbac_laws.proofs.SameLemmas.{within_is, is_within_of, any_of}
use Rattle.need_marks.specs.declared.marks.UserMark.{UserMark}
use Rattle.need_marks.specs.Marks.{IsPart, HasNothing}
use Rattle.need_marks.specs.MarkTests.{is_part}

-- a set that has no role is empty
none_in : (set : List ℕ) → ((role : ℕ) → IsOut set role) → set ≡ []
none_in [] out = refl
none_in (x ∷ xs) out = let first = (or_none (eqb x x) (has_role xs x) (out x)).0 in let same = eq-eqb x x refl in cc

-- an empty set has none
none_there : (set : List ℕ) → set ≡ [] → (role : ℕ) → IsOut set role
none_there set e role = rw e refl

pub nothing_by : (mark : UserMark) (t : Bool) → (mark.aims ≡ []) → (IsTrue t ↔ (mark.lacks ≡ [])) → IsTrue t ↔ HasNothing mark
nothing_by mark t aims is = (
  λ passes. record { aims = none_there mark.aims aims; lacks = none_there mark.lacks (is.0 passes) },
  λ nothing. is.1 (none_in mark.lacks nothing.lacks),
)

pub something_by : (mark : UserMark) (t : Bool) → (t ≡ false) → (IsTrue t ↔ (mark.aims ≡ [])) → IsTrue t ↔ HasNothing mark
something_by mark t fails is = (λ passes. absurd (let never : false ≡ true = sym fails ∙ passes in cc), λ nothing. is.1 (none_in mark.aims nothing.aims))

part_is : (a b : UserMark) → is_part a b ≡ true → IsPart a b
part_is a b passes = let both = and_both (is_within a.aims b.aims) (is_within a.lacks b.lacks) passes in
    record { aims = within_is a.aims b.aims both.0; lacks = within_is a.lacks b.lacks both.1 }

is_part_of : (a b : UserMark) → IsPart a b → is_part a b ≡ true
is_part_of a b part = both_true (is_within a.aims b.aims) (is_within a.lacks b.lacks) (is_within_of a.aims b.aims part.aims)
    (is_within_of a.lacks b.lacks part.lacks)

pub part_by : (a b : UserMark) (t : Bool) → t ≡ is_part a b → IsTrue t ↔ IsPart a b
part_by a b t is = (λ passes. part_is a b (sym is ∙ passes), λ part. is ∙ is_part_of a b part)

-- where the test passes of one, one has all
any_part : (a : UserMark) (others : List UserMark) → Some_of (IsPart a) others → list_any (is_part a) others ≡ true
any_part a [] some = absurd some
any_part a (b ∷ others) (inl part) = rw (is_part_of a b part) refl
any_part a (b ∷ others) (inr some) = or_right (is_part a b) (list_any (is_part a) others) (any_part a others some)

pub part_of_one_by : (a : UserMark) (others : List UserMark) (t : Bool) → t ≡ list_any (is_part a) others → IsTrue t ↔ Some_of (IsPart a) others
part_of_one_by a others t is = (
  λ passes. any_of (IsPart a) (is_part a) (part_is a) others (sym is ∙ passes),
  λ some. is ∙ any_part a others some,
)

-- what is in both sets is in the first, and in the second
pub common_first : (xs ys : List ℕ) → IsWithin (common_roles xs ys) xs
common_first xs ys role i = (and_both (has_role xs role) (has_role ys role) (sym (has_role-filter (has_role ys) xs role) ∙ i)).0

pub common_second : (xs ys : List ℕ) → IsWithin (common_roles xs ys) ys
common_second xs ys role i = (and_both (has_role xs role) (has_role ys role) (sym (has_role-filter (has_role ys) xs role) ∙ i)).1

-- a mark that has something lies in one just where it is part of one
pub lies_by : (a : UserMark) (others : List UserMark) (t nothing : Bool) → nothing ≡ false → (IsTrue nothing ↔ HasNothing a)
    → t ≡ list_any (is_part a) others → IsTrue t ↔ (HasNothing a ⊎ Some_of (IsPart a) others)
lies_by a others t nothing fails none is = (λ passes. inr ((part_of_one_by a others t is).0 passes), back)
  where
    back : HasNothing a ⊎ Some_of (IsPart a) others → t ≡ true
    back (inl n) = absurd (let never : false ≡ true = sym fails ∙ none.1 n in cc)
    back (inr some) = (part_of_one_by a others t is).1 some
