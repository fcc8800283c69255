-- Whether one user requirement covers another.
use Rattle.std.proofs.Common.{◌≡◌, ◌∙◌, Bool, true, false, sym}
use Rattle.std.specs.Prelude.{◌↔◌, IsTrue}
use Rattle.std.specs.List.{list_all, list_any}
use Rattle.list_words.proofs.TestLemmas.{and_both, both_true}
use Rattle.role_order.specs.Roles.{less_roles, is_within}
use Rattle.arbac_laws.specs.Needs.{Need, CoversNeed}
use Rattle.arbac_laws.proofs.SameLemmas.{covers_test, covers_of_test, test_of_covers}

-- whether within each hit of the first lies one of the second, less the second's lacks
abbrev pub hits_test : Need → Need → Bool
hits_test a b = list_all (λ hit. list_any (λ other. is_within (less_roles other b.lacks) hit) b.hits) a.hits

-- the lacks are so, and the hits decide
pub covers_both : (a b : Need) (hits : Bool) → is_within a.lacks b.lacks ≡ true → hits ≡ hits_test a b → IsTrue hits ↔ CoversNeed a b
unfolding covers_test
covers_both a b hits lacks is = (
  λ t. covers_of_test a b (both_true (hits_test a b) (is_within a.lacks b.lacks) (sym is ∙ t) lacks),
  λ c. is ∙ (and_both (hits_test a b) (is_within a.lacks b.lacks) (test_of_covers a b c)).0,
)

-- they are not so
pub covers_first : (a b : Need) (lacks : Bool) → lacks ≡ is_within a.lacks b.lacks → lacks ≡ false → IsTrue lacks ↔ CoversNeed a b
unfolding covers_test
covers_first a b lacks is fails = (
  λ t. let e : true ≡ false = sym t ∙ fails in cc,
  λ c. is ∙ (and_both (hits_test a b) (is_within a.lacks b.lacks) (test_of_covers a b c)).1,
)
